use Rattle.std.proofs.Common.{◌<◌, ◌≢◌, length, arith, length-set, get_or-set_other, get_or-set_same, below_more}
use Rattle.games.proofs.take.amounts.AmountSet.values.Goals as goal

pub loop-c-preserved : goal.loop-c-preserved
loop-c-preserved c = (
  simp length-set c.loop-c.invariant.0,
  below_more _ _
      (λ d h. let ne : d ≢ c.loop-c.c = omega arith in rw get_or-set_other (c.loop-c.invariant.1 d h))
      (let lt : c.loop-c.c < length c.loop-c.values = omega arith in rw get_or-set_same c.value_at.ensures),
)
