-- One test, which antt computes over the whole list; a list that passes it holds.
use Rattle.std.proofs.Common.{Bool, true, false, ◌&&◌, T, eqb, List, [], ◌∷◌, eqb→eq}
use lib.Count.{ones, count_trailing_zeros}
use Rattle.nimber_field.specs.Tower.{ops}
use Rattle.nimber_field.specs.Nimber.{◌⊗◌, inverse_of, times, invert, code, decode}
use Rattle.games.specs.Rows.{first}
use Rattle.games.specs.Turtles.{odious}
use Rattle.games.specs.TakeValues.{any, take_value}
use Rattle.piles.specs.Worked.{Claim, AllHold, all_claims}
use Rattle.piles.proofs.worked.worked_sums.Goals as goal

all_agree : List Claim → Bool
all_agree [] = true
all_agree (c ∷ rest) = eqb c.found c.said && all_agree rest

split : (b : Bool) (P Q : Type 0) (rest : Bool) → (T b → P) → (T rest → Q) → T (b && rest) → P × Q
split true P Q rest first others t = (first tt, others t)
split false P Q rest first others t = absurd t

all_hold : (l : List Claim) → T (all_agree l) → AllHold l
unfolding all_agree AllHold
all_hold [] t = tt
all_hold (c ∷ rest) t = split (eqb c.found c.said) _ _ (all_agree rest) (eqb→eq c.found c.said) (all_hold rest) t

pub returns : goal.returns
unfolding all_agree all_claims ◌⊗◌ inverse_of times invert code decode ops first odious any take_value ones count_trailing_zeros
returns c = all_hold _ tt
