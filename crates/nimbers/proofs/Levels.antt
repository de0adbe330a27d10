-- A level computes with the numbers of a level below it as that does. Assumes nothing.
use Rattle.std.proofs.Common.{◌≡◌, ◌≢◌, ℕ, zero, suc, ◌+◌, ◌-◌, ◌*◌, ◌^◌, ◌<◌, ◌≤◌, sym, ap, ◌∙◌, subst, pow_mono, lt_of_lt_of_le, zero-add, suc-add, arith}
use native.Mathlib.Nat.{div-eq_of_lt}
use Rattle.nimber_field.specs.Tower.{Tower, ops}
use Rattle.nimber_field.specs.Nimber.{order, code, decode, times, invert, inverse_of, ◌⊕◌, ◌⊗◌}
use Rattle.nimber_field.specs.Field.{Field}
use Rattle.nimber_field.proofs.Ring.{ring}
use Rattle.nimber_field.proofs.Levels.{laws}
use Rattle.nimber_field.proofs.Codes.{code_nil, decode_low}
use Rattle.nimber_field.proofs.Numbers.{decode_zero, invert_below, times_invert, field}

pub order_mono : (k m : ℕ) → k ≤ m → order k ≤ order m
order_mono k m h = pow_mono (pow_mono h)

-- the element of a number below the order of the level below has a high half of zero
decode_suc : (k n : ℕ) → n < order k → decode (suc k) n ≡ ((ops k).nil, decode k n)
unfolding decode
decode_suc k n h = λ i. ((ap (decode k) (div-eq_of_lt h) ∙ decode_zero k) i, decode_low k n i)

mul_suc : (k : ℕ) (x y : Tower k) → (ops (suc k)).mul ((ops k).nil, x) ((ops k).nil, y) ≡ ((ops k).nil, (ops k).mul x y)
unfolding ops
mul_suc k x y = λ i. (high i, low i)
  where
    open ops k use {nil, half, add, mul}

    high : add (mul nil nil) (add (mul nil y) (mul x nil)) ≡ nil
    high = simp (ring, (laws k).ring)

    low : add (mul x y) (mul (mul nil nil) half) ≡ mul x y
    low = simp (ring, (laws k).ring)

code_suc : (k : ℕ) (x : Tower k) → code (suc k) ((ops k).nil, x) ≡ code k x
unfolding code
code_suc k x = ap (λ n. n * order k + code k x) (code_nil k) ∙ omega arith

times_suc : (k a b : ℕ) → a < order k → b < order k → times (suc k) a b ≡ times k a b
unfolding times
times_suc k a b ha hb =
    (λ i. code (suc k) ((ops (suc k)).mul (decode_suc k a ha i) (decode_suc k b hb i)))
    ∙ ap (code (suc k)) (mul_suc k (decode k a) (decode k b))
    ∙ code_suc k ((ops k).mul (decode k a) (decode k b))

-- d levels above
times_above : (k d a b : ℕ) → a < order k → b < order k → times (d + k) a b ≡ times k a b
times_above k zero a b ha hb = ap (λ m. times m a b) (zero-add k)
times_above k (suc d) a b ha hb =
    ap (λ m. times m a b) (suc-add d k) ∙ times_suc (d + k) a b (more a ha) (more b hb) ∙ times_above k d a b ha hb
  where
    more : (n : ℕ) → n < order k → n < order (d + k)
    more n h = lt_of_lt_of_le h (order_mono k (d + k) (omega arith))

pub times_at : (k a b : ℕ) → k ≤ 5 → a < order k → b < order k → times k a b ≡ a ⊗ b
unfolding ◌⊗◌
times_at k a b h ha hb = sym (subst (λ m. times m a b ≡ times k a b) whole (times_above k (5 - k) a b ha hb))
  where
    whole : 5 - k + k ≡ 5
    whole = omega arith

-- a number has one inverse
only : (a x y : ℕ) → a < 2 ^ 32 → x < 2 ^ 32 → y < 2 ^ 32 → a ⊗ x ≡ 1 → a ⊗ y ≡ 1 → x ≡ y
unfolding ◌⊗◌
only a x y ha hx hy ax ay =
    sym (f.product_one x hx) ∙ ap (times 5 x) (sym ay) ∙ sym (f.product_assoc x a y hx ha hy)
    ∙ ap (λ n. times 5 n y) (f.product_comm x a hx ha ∙ ax)
    ∙ f.product_comm 1 y f.one_below hy
    ∙ f.product_one y hy
  where
    f : Field (2 ^ 32) ◌⊕◌ (times 5) 0 1
    f = field 5

pub invert_at : (k a : ℕ) → k ≤ 5 → a < order k → a ≢ 0 → invert k a ≡ inverse_of a
unfolding ◌⊗◌ inverse_of
invert_at k a h ha n =
    only a (invert k a) (invert 5 a) (more a ha) (more (invert k a) (invert_below k a)) (invert_below 5 a)
    (sym (times_at k a (invert k a) h ha (invert_below k a)) ∙ times_invert k a ha n)
    (times_invert 5 a (more a ha) n)
  where
    more : (m : ℕ) → m < order k → m < 2 ^ 32
    more m l = lt_of_lt_of_le l (order_mono k 5 h)
