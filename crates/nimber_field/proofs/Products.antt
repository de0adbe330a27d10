-- Laws of 32-bit nim products that games use. Assumes nothing.
use mathlib.Core.Path.{◌≡◌, ◌∙◌}
use mathlib.Core.Logic.{◌⊎◌}
use Prim.Native.Nat.{ℕ, ◌^◌, ◌<◌}
use lib.Bits.{xor_self}
use lib.Dec.{lit<}
use Rattle.nimber_field.specs.Nimber.{◌⊕◌, ◌⊗◌, inverse_of}
use Rattle.nimber_field.proofs.Conway.{nimber_field}
use Rattle.nimber_field.proofs.Numbers.{times_below}
use Rattle.nimber_field.proofs.Numbers as numbers

-- a 32-bit number
abbrev pub Small : ℕ → Type 0
Small a = a < 2 ^ 32

pub product_small : (a b : ℕ) → Small (a ⊗ b)
unfolding ◌⊗◌
product_small a b = times_below 5 a b

pub distributes_left : (a b c : ℕ) → Small a → Small b → Small c → (a ⊕ b) ⊗ c ≡ (a ⊗ c) ⊕ (b ⊗ c)
unfolding ◌⊗◌
distributes_left a b c ha hb hc = cc (
  numbers.comm 5 (a ⊕ b) c,
  numbers.distributes 5 c a b ha hb,
  numbers.comm 5 c a,
  numbers.comm 5 c b,
)

pub product_zero : (a : ℕ) → Small a → a ⊗ 0 ≡ 0
product_zero a ha = cc (nimber_field.distributive a 0 0 ha (lit< tt) (lit< tt), xor_self (a ⊗ 0))

pub zero_product : (a : ℕ) → Small a → 0 ⊗ a ≡ 0
zero_product a ha = nimber_field.product_comm 0 a (lit< tt) ha ∙ product_zero a ha

-- the number that Conway's rule excludes for a' and b', by the product of what is added to a and b
pub excluded_is : (a b a' b' : ℕ) → Small a → Small b → Small a' → Small b'
    → (a' ⊗ b) ⊕ (a ⊗ b') ⊕ (a' ⊗ b') ≡ (a ⊗ b) ⊕ ((a ⊕ a') ⊗ (b ⊕ b'))
unfolding ◌⊗◌
excluded_is = numbers.excluded_is 5

-- where moving both factors leaves the product as it was, one of them did not move
pub unmoved : (a b a' b' : ℕ) → Small a → Small b → Small a' → Small b'
    → (a ⊗ b) ⊕ ((a ⊕ a') ⊗ (b ⊕ b')) ≡ a ⊗ b → (a ≡ a') ⊎ (b ≡ b')
unfolding ◌⊗◌
unmoved = numbers.unmoved 5

-- what is left of a product when its first factor moves from a to a' and its second to the partner of a'
pub partner_is : (a b w a' : ℕ) → Small a → Small b → Small w → a' < a
    → let b' = b ⊕ ((a ⊗ b ⊕ w) ⊗ inverse_of (a ⊕ a')) in (a' ⊗ b) ⊕ (a ⊗ b') ⊕ (a' ⊗ b') ≡ w
unfolding ◌⊗◌ inverse_of
partner_is = numbers.partner_is 5
