use Rattle.std.proofs.Common.{◌≡◌, ℕ, ◌<◌, length}
use Rattle.games.specs.TakeValues.{value_in, take_value}
use Rattle.games.proofs.take.amounts.AmountSet.values.Given as goal

abbrev pub invariant-loop-c : goal.invariant-loop-c
invariant-loop-c l = (length l.values ≡ 64) × ((d : ℕ) → d < l.c → value_in l.values d ≡ take_value l.self.bits d)
