-- Products and inverses of a level by those of the level below it. Assumes nothing.
use mathlib.Core.Path.{◌≡◌, sym, subst}
use Prim.Native.Nat.{ℕ, zero, suc, ◌+◌, ◌*◌, ◌/◌, ◌%◌, ◌-◌, ◌^◌, ◌<◌}
use native.Mathlib.Nat.{mod-lt}
use native.Mathlib.Omega.{arith}
use lib.Bits.{xor_lt}
use lib.Pow.{pow_pos}
use Rattle.nimber_field.specs.Tower.{Tower, ops, norm}
use Rattle.nimber_field.specs.Nimber.{order, code, decode, times, norm_at, invert, ◌⊕◌}
use Rattle.nimber_field.proofs.Ring.{ring}
use Rattle.nimber_field.proofs.Levels.{laws}
use Rattle.nimber_field.proofs.Codes.{decode_code, code_add, code_half, high_below}
use Rattle.nimber_field.proofs.Numbers.{decode_sum, decode_times, times_below}

module _ (k : ℕ) where
  open ops k use {half, add, mul, inv}

  -- the cross terms of a product, by one product of sums
  pub cross : (x u y v : Tower k) → add (mul x y) (add (mul x v) (mul u y)) ≡ add (mul (add x u) (add y v)) (mul u v)
  cross x u y v = simp (ring, (laws k).ring)

  pub decode_half : decode k (2 ^ (2 ^ k - 1)) ≡ half
  decode_half = cc (code_half k, decode_code k half)

  low_below : (n : ℕ) → n % order k < order k
  low_below n = mod-lt n (pow_pos (2 ^ k))

  -- three products of halves, and one by half the order
  pub times_suc : (a b : ℕ) → a < order (suc k) → b < order (suc k)
      → times (suc k) a b
      ≡ (times k (a / order k ⊕ a % order k) (b / order k ⊕ b % order k) ⊕ times k (a % order k) (b % order k)) * order k
      + (times k (a % order k) (b % order k) ⊕ times k (times k (a / order k) (b / order k)) (2 ^ (2 ^ k - 1)))
  unfolding times code decode ops
  times_suc a b ha hb = λ i. high i * order k + low i
    where
      x : Tower k
      x = decode k (a / order k)

      u : Tower k
      u = decode k (a % order k)

      y : Tower k
      y = decode k (b / order k)

      v : Tower k
      v = decode k (b % order k)

      split : (n : ℕ) → n < order (suc k) → decode k (n / order k ⊕ n % order k) ≡ add (decode k (n / order k)) (decode k (n % order k))
      split n h = decode_sum k (n / order k) (n % order k) (high_below k n h) (low_below n)

      high : code k (add (mul x y) (add (mul x v) (mul u y)))
          ≡ times k (a / order k ⊕ a % order k) (b / order k ⊕ b % order k) ⊕ times k (a % order k) (b % order k)
      high = cc (cross x u y v, code_add k (mul (add x u) (add y v)) (mul u v), split a ha, split b hb)

      low : code k (add (mul u v) (mul (mul x y) half))
          ≡ times k (a % order k) (b % order k) ⊕ times k (times k (a / order k) (b / order k)) (2 ^ (2 ^ k - 1))
      low = cc (code_add k (mul u v) (mul (mul x y) half), decode_code k (mul x y), decode_half)

  decode_norm : (h l : ℕ) → decode k (norm_at k h l) ≡ norm (Tower k) (ops k) (decode k h) (decode k l)
  decode_norm h l = cc (
    decode_sum k (times k l l ⊕ times k l h) folded (xor_lt (2 ^ k) _ _ (times_below k l l) (times_below k l h)) (times_below k _ _),
    decode_sum k (times k l l) (times k l h) (times_below k l l) (times_below k l h),
    decode_times k l l,
    decode_times k l h,
    decode_times k (times k h h) (2 ^ (2 ^ k - 1)),
    decode_times k h h,
    decode_half,
    (laws k).ring.add_assoc (decode k (times k l l)) (decode k (times k l h)) (decode k folded),
  )
    where
      folded : ℕ
      folded = times k (times k h h) (2 ^ (2 ^ k - 1))

  -- the norm of the halves, and two products by its inverse
  pub invert_suc : (a : ℕ) → a < order (suc k)
      → invert (suc k) a
      ≡ times k (a / order k) (invert k (norm_at k (a / order k) (a % order k))) * order k
      + times k (a % order k ⊕ a / order k) (invert k (norm_at k (a / order k) (a % order k)))
  unfolding times invert code decode ops
  invert_suc a ha = λ i. high i * order k + low i
    where
      x : Tower k
      x = decode k (a / order k)

      u : Tower k
      u = decode k (a % order k)

      n : Tower k
      n = norm (Tower k) (ops k) x u

      inverse_is : decode k (invert k (norm_at k (a / order k) (a % order k))) ≡ inv n
      inverse_is = cc (decode_code k (inv (decode k (norm_at k (a / order k) (a % order k)))), decode_norm (a / order k) (a % order k))

      high : code k (mul x (inv n)) ≡ times k (a / order k) (invert k (norm_at k (a / order k) (a % order k)))
      high = cc inverse_is

      low : code k (mul (add u x) (inv n)) ≡ times k (a % order k ⊕ a / order k) (invert k (norm_at k (a / order k) (a % order k)))
      low = cc (inverse_is, decode_sum k (a % order k) (a / order k) (low_below a) (high_below k a ha))

pred_level : (k : ℕ) → suc k - 1 ≡ k
pred_level k = omega arith

-- a product by those of the level below
abbrev TimesBy : ℕ → ℕ → ℕ → ℕ → Type 0
TimesBy n k a b =
    times n a b
    ≡ (times k (a / order k ⊕ a % order k) (b / order k ⊕ b % order k) ⊕ times k (a % order k) (b % order k)) * order k
    + (times k (a % order k) (b % order k) ⊕ times k (times k (a / order k) (b / order k)) (2 ^ (2 ^ k - 1)))

pub times_by : (n a b : ℕ) → 0 < n → a < order n → b < order n → TimesBy n (n - 1) a b
times_by zero a b h ha hb = absurd (omega arith)
times_by (suc k) a b h ha hb = subst (λ m. TimesBy (suc k) m a b) (sym (pred_level k)) (times_suc k a b ha hb)

-- an inverse by that of the norm
abbrev InvertBy : ℕ → ℕ → ℕ → Type 0
InvertBy n k a =
    invert n a
    ≡ times k (a / order k) (invert k (norm_at k (a / order k) (a % order k))) * order k
    + times k (a % order k ⊕ a / order k) (invert k (norm_at k (a / order k) (a % order k)))

pub invert_by : (n a : ℕ) → 0 < n → a < order n → InvertBy n (n - 1) a
invert_by zero a h ha = absurd (omega arith)
invert_by (suc k) a h ha = subst (λ m. InvertBy (suc k) m a) (sym (pred_level k)) (invert_suc k a ha)
