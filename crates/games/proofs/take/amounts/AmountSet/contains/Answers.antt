use Rattle.std.proofs.Common.{◌≡◌, ◌-◌, ◌/◌, ◌^◌, ◌<◌, ◌≤◌, arith, pow_mono}
use native.Mathlib.Nat.{div-eq_of_lt}
use Rattle.std.proofs.lemmas.Bool.Decides.{nat_tests}
use Rattle.games.proofs.take.amounts.AmountSet.contains.Goals as goal

-- no amount is 0 or above 32
pub returns-else-contains : goal.returns-else-contains
returns-else-contains c =
    let none : 32 < c.args.s → c.args.self.bits / 2 ^ (c.args.s - 1) ≡ 0
    = λ h. let high : 2 ^ 32 ≤ 2 ^ (c.args.s - 1) = pow_mono {i = 32} (omega arith) in div-eq_of_lt (omega arith) in
    grind (arith, nat_tests)
