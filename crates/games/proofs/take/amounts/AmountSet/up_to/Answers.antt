use Rattle.std.proofs.Common.{◌-◌, ◌^◌, ◌≤◌, sym, ap, ◌∙◌, mod-eq_of_lt, arith, pow_mono}
use lib.Bits.{bit_and, and_mask}
use lib.Count.{ones}
use Rattle.std.proofs.lemmas.Nat.{one_shl}
use Rattle.games.proofs.take.amounts.AmountSet.up_to.Goals as goal

pub returns-then-n-lt-BITS : goal.returns-then-n-lt-BITS
returns-then-n-lt-BITS c =
    ap (λ m. ones (bit_and c.args.self.bits (m - 1))) (one_shl c.args.n 32 (omega arith)) ∙ ap ones (and_mask c.args.self.bits c.args.n)

-- all amounts are at most 32
pub returns-else-n-lt-BITS : goal.returns-else-n-lt-BITS
returns-else-n-lt-BITS c =
    let high : 2 ^ 32 ≤ 2 ^ c.args.n = pow_mono {i = 32} (omega arith) in
    c.len.ensures ∙ ap ones (sym (mod-eq_of_lt (omega arith)))
