-- The order of elements as the order of numbers, and numbers below a nim sum. Assumes nothing.
use mathlib.Core.Path.{◌≡◌, sym, subst}
use mathlib.Core.Logic.{◌⊎◌, inl, inr}
use Prim.Native.Nat.{ℕ, zero, suc, ◌+◌, ◌^◌, ◌<◌}
use native.Mathlib.Nat.{lt_trans, two-pow-succ}
use native.Mathlib.Omega.{arith}
use lib.Bits.{xor_lt}
use Rattle.nimber_field.specs.Tower.{Tower, ops}
use Rattle.nimber_field.specs.Nimber.{order, code, decode, ◌⊕◌}
use Rattle.nimber_field.proofs.Sums.{sums, xor_twice}
use Rattle.nimber_field.proofs.Levels.{tools, laws}
use Rattle.nimber_field.proofs.Codes.{code_decode, code_add, lower_less, less_lower}
use Rattle.nimber_field.proofs.Numbers.{decode_sum}

module _ (k : ℕ) where
  open tools k use {Lower}

  -- a number that another lowers, as elements
  pub lowered : (c d : ℕ) → c < order k → d < order k → c ⊕ d < c → Lower (decode k c) (decode k d)
  lowered c d hc hd h = less_lower k (decode k c) (decode k d) (simp (code_add k, code_decode k c hc, code_decode k d hd) h)

  -- an element that lowers that of a number, as a number
  pub lowers : (c : ℕ) → c < order k → (x : Tower k) → Lower (decode k c) x → c ⊕ code k x < c
  lowers c hc x h = simp (code_add k, code_decode k c hc) at (lower_less k (decode k c) x h)

  below_sum : (y a b : ℕ) → a < order k → b < order k → y < a ⊕ b → (y ⊕ b < a) ⊎ (y ⊕ a < b)
  below_sum y a b ha hb h = by_side ((laws k).lower_add (decode k a) (decode k b) (decode k (a ⊕ b ⊕ y)) lower)
    where
      sum_fits : a ⊕ b < order k
      sum_fits = xor_lt (2 ^ k) a b ha hb

      fits : a ⊕ b ⊕ y < order k
      fits = xor_lt (2 ^ k) (a ⊕ b) y sum_fits (lt_trans h sum_fits)

      lower : Lower ((ops k).add (decode k a) (decode k b)) (decode k (a ⊕ b ⊕ y))
      lower =
          subst (λ x. Lower x (decode k (a ⊕ b ⊕ y))) (decode_sum k a b ha hb)
          (lowered (a ⊕ b) (a ⊕ b ⊕ y) sum_fits fits (subst (λ n. n < a ⊕ b) (sym (xor_twice (a ⊕ b) y)) h))

      left : a ⊕ code k (decode k (a ⊕ b ⊕ y)) ≡ y ⊕ b
      left = simp (code_decode k (a ⊕ b ⊕ y) fits) (simp sums)

      right : b ⊕ code k (decode k (a ⊕ b ⊕ y)) ≡ y ⊕ a
      right = simp (code_decode k (a ⊕ b ⊕ y) fits) (simp sums)

      by_side : Lower (decode k a) (decode k (a ⊕ b ⊕ y)) ⊎ Lower (decode k b) (decode k (a ⊕ b ⊕ y)) → (y ⊕ b < a) ⊎ (y ⊕ a < b)
      by_side (inl l) = inl (subst (λ n. n < a) left (lowers a ha (decode k (a ⊕ b ⊕ y)) l))
      by_side (inr l) = inr (subst (λ n. n < b) right (lowers b hb (decode k (a ⊕ b ⊕ y)) l))

power_above : (n : ℕ) → n < 2 ^ n
power_above zero = omega arith
power_above (suc n) = omega (arith, two-pow-succ n, power_above n)

-- a number below a nim sum of two is reached by bringing one of them down
pub xor_below : (y a b : ℕ) → y < a ⊕ b → (y ⊕ b < a) ⊎ (y ⊕ a < b)
xor_below y a b = below_sum k y a b (omega (arith, power_above k, power_above (2 ^ k))) (omega (arith, power_above k, power_above (2 ^ k)))
  where
    k : ℕ
    k = a + b
