-- Sums of truth values and of numbers. Assumes nothing.
use mathlib.Core.Path.{◌≡◌, refl}
use mathlib.Core.Bool.{Bool, true, false}
use Prim.Native.Nat.{ℕ}
use lib.Bits.{xor_comm, xor_assoc, xor_self, xor_zero_l, xor_zero_r}
use Rattle.nimber_field.specs.Tower.{differ}
use Rattle.nimber_field.specs.Nimber.{◌⊕◌}

pub differ_false : (b : Bool) → differ b false ≡ b
differ_false true = refl
differ_false false = refl

-- a number added twice is gone
pub xor_twice : (x y : ℕ) → x ⊕ (x ⊕ y) ≡ y
xor_twice x y = cc (xor_assoc x x y, xor_self x, xor_zero_l y)

pub xor_left_comm : (x y z : ℕ) → x ⊕ (y ⊕ z) ≡ y ⊕ (x ⊕ z)
xor_left_comm x y z = cc (xor_assoc x y z, xor_comm x y, xor_assoc y x z)

-- sums in order, equal terms cancelled
pub ruleset sums = (xor_assoc, xor_comm, xor_left_comm, xor_zero_l, xor_zero_r, xor_self, xor_twice)

-- numbers whose sum is 0 are equal
pub xor_equal : (x y : ℕ) → x ⊕ y ≡ 0 → x ≡ y
xor_equal x y e = cc (xor_twice x y, xor_zero_r x)
