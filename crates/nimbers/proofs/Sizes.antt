-- What product and inverse of all numbers rest on, beside those of a level. Assumes nothing.
use Rattle.std.proofs.Common.{◌≡◌, ◌≢◌, ℕ, ◌^◌, ◌<◌, ◌≤◌, bit_or, sym, ap, ◌∙◌, subst, arith}
use lib.Bits.{or_add_and, and_le_l, and_le_r}
use Rattle.nimber_field.specs.Missing.{Missing}
use Rattle.nimber_field.specs.Nimber.{◌⊗◌, inverse_of, Excluded}
use Rattle.nimber_field.proofs.Numbers.{times_invert}
use Rattle.nimber_field.proofs.Conway.{conway}

-- a number that takes all bits of two is below neither
pub left_below : (a b : ℕ) → a ≤ bit_or a b
left_below a b = omega (arith, or_add_and a b, and_le_r a b)

pub right_below : (a b : ℕ) → b ≤ bit_or a b
right_below a b = omega (arith, or_add_and a b, and_le_l a b)

-- the product keeps Conway's rule
pub smallest : (a b n : ℕ) → a < 2 ^ 32 → b < 2 ^ 32 → n ≡ a ⊗ b → Missing (Excluded ◌⊗◌ a b) n
smallest a b n ha hb is = subst (Missing (Excluded ◌⊗◌ a b)) (sym is) (conway a b ha hb)

-- a number times its inverse
pub times_inverse : (a n : ℕ) → a < 2 ^ 32 → a ≢ 0 → n ≡ inverse_of a → a ⊗ n ≡ 1
unfolding ◌⊗◌ inverse_of
times_inverse a n h not_zero is = ap (λ m. a ⊗ m) is ∙ times_invert 5 a h not_zero

-- the bounds at which a level is chosen, and Conway's rule
pub ruleset product = (left_below, right_below, smallest)
