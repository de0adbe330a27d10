use Rattle.std.proofs.Common.{◌≡◌, ℕ, ◌-◌, ◌^◌, sym, refl, subst}
use lib.Count.{ones, ones-ones}
use Rattle.games.specs.Rules.{Rules}
use Rattle.games.specs.Rows.{on, row_game}
use Rattle.games.specs.Take.{taken}
use Rattle.games.specs.TakeValues.{amounts_up_to, take_value}
use Rattle.piles.specs.Worked.{power}
use Rattle.piles.proofs.worked.takes_multiplied.Goals as goal

-- Take on one cell with all amounts, by how many they are
of_amounts : ℕ → Rules
of_amounts n = row_game 1 (on 1 0 n) (amounts_up_to (2 ^ 32 - 1)) (taken (2 ^ 32 - 1)) (take_value (2 ^ 32 - 1))

pub returns : goal.returns
unfolding power of_amounts
returns c =
    let amounts : 32 ≡ ones (2 ^ 32 - 1) = sym (ones-ones 32) in
    record {
      four = subst (λ n. ((power 3 (of_amounts n)).cells ≡ 1) × ((power 3 (of_amounts n)).ceiling ≡ 1048576)) amounts (refl, refl);
      five = subst (λ n. ((power 4 (of_amounts n)).cells ≡ 0) × ((power 4 (of_amounts n)).ceiling ≡ 0)) amounts (refl, refl);
    }
