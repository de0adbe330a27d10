-- Nim sum, nim product and nim inverse of numbers, and Conway's rule for the product. Assumes nothing.
use Rattle.std.specs.Prelude.{◌≡◌, true, false, ℕ, zero, suc, ◌+◌, ◌-◌, ◌*◌, ◌/◌, ◌%◌, ◌^◌, ◌<◌, eqb}
use Rattle.std.specs.Int.Bits.{bit_xor}
use Rattle.nimber_field.specs.Missing.{Missing}
use Rattle.nimber_field.specs.Tower.{Tower, ops}

infixl 60 ◌⊕◌
infixl 70 ◌⊗◌
-- how many elements level k has: 2, 4, 16, 256, 65,536 and 2 ^ 32
abbrev pub order : ℕ → ℕ
order k = 2 ^ (2 ^ k)

-- the number that an element is written as: a pair is its high half and its low half
unfoldable pub code : (k : ℕ) → Tower k → ℕ
code zero false = 0
code zero true = 1
code (suc k) x = code k x.0 * order k + code k x.1

-- the element that a number below the order is written for
unfoldable pub decode : (k : ℕ) → ℕ → Tower k
decode zero n = eqb (n % 2) 1
decode (suc k) n = (decode k (n / order k), decode k (n % order k))

-- the product at level k, of numbers
unfoldable pub times : ℕ → ℕ → ℕ → ℕ
times k a b = code k ((ops k).mul (decode k a) (decode k b))

-- the norm of a number of the next level, by its halves
abbrev pub norm_at : ℕ → ℕ → ℕ → ℕ
norm_at k high low = bit_xor (bit_xor (times k low low) (times k low high)) (times k (times k high high) (2 ^ (2 ^ k - 1)))

-- the inverse at level k
unfoldable pub invert : ℕ → ℕ → ℕ
invert k a = code k ((ops k).inv (decode k a))

-- nim sum
abbrev pub ◌⊕◌ : ℕ → ℕ → ℕ
a ⊕ b = bit_xor a b

-- nim product of numbers below 2 ^ 32
unfoldable pub ◌⊗◌ : ℕ → ℕ → ℕ
a ⊗ b = times 5 a b

-- nim inverse of a number below 2 ^ 32 that is not 0
unfoldable pub inverse_of : ℕ → ℕ
inverse_of a = invert 5 a

-- w is one of the numbers that Conway's rule, for a product, excludes at a and b
pub record Excluded (product : ℕ → ℕ → ℕ) (a b w : ℕ) : Type 0 where
  pub a' : ℕ
  pub b' : ℕ
  pub a'_below : a' < a
  pub b'_below : b' < b
  pub is : w ≡ product a' b ⊕ product a b' ⊕ product a' b'

-- Conway's rule: the product of two 32-bit numbers is the smallest number that is not excluded
abbrev pub Conway : (ℕ → ℕ → ℕ) → Type 0
Conway product = (a b : ℕ) → a < 2 ^ 32 → b < 2 ^ 32 → Missing (Excluded product a b) (product a b)

-- there is one product by Conway's rule
abbrev pub Only : (ℕ → ℕ → ℕ) → Type 0
Only product = (other : ℕ → ℕ → ℕ) → Conway other → (a b : ℕ) → a < 2 ^ 32 → b < 2 ^ 32 → other a b ≡ product a b

-- w, below the product of a and b, is met at a' below a by a number below b
pub record Met (a b w : ℕ) : Type 0 where
  pub a' : ℕ
  pub a'_below : a' < a
  pub below : b ⊕ ((a ⊗ b ⊕ w) ⊗ inverse_of (a ⊕ a')) < b

-- every number below a product of 32-bit numbers is met
abbrev pub AllMet : Type 0
AllMet = (a b w : ℕ) → a < 2 ^ 32 → b < 2 ^ 32 → w < a ⊗ b → Met a b w
