-- Lemmas: the zero and the half of a level above another, by those of its halves. No contract rests on the words of these.
use Rattle.std.specs.Prelude.{◌≡◌, ℕ, suc}
use Rattle.nimber_field.specs.Tower.{Tower, ops}

-- the pair of two zeros is the zero above
pub zero_above : (k : ℕ) (zero : Tower k) → zero ≡ (ops k).nil → (zero, zero) ≡ (ops (suc k)).nil
unfolding ops
zero_above k zero e = λ i. (e i, e i)

-- a half over a zero is the half above
pub half_above : (k : ℕ) (half zero : Tower k) → half ≡ (ops k).half → zero ≡ (ops k).nil → (half, zero) ≡ (ops (suc k)).half
unfolding ops
half_above k half zero h e = λ i. (h i, e i)
