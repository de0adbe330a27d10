-- The elements of a level written as numbers: sums are exclusive or, and the order is that of numbers. Assumes nothing.
use mathlib.Core.Path.{◌≡◌, refl, sym, ap, ◌∙◌, subst}
use mathlib.Core.Bool.{true, false}
use mathlib.Core.Logic.{inl, inr}
use Prim.Native.Nat.{ℕ, zero, suc, ◌+◌, ◌*◌, ◌/◌, ◌%◌, ◌-◌, ◌^◌, ◌<◌}
use native.Mathlib.Nat.{mod-mod, two-pow-succ, div-add-mod', mod-lt, mul-le-mul_right}
use native.Mathlib.Decide.{dec_lt}
use native.Mathlib.Omega.{arith}
use lib.Arith.{digits_lt, digits_div, digits_mod}
use lib.Bits.{bit_xor, xor_block}
use lib.Dec.{lit<}
use lib.Pow.{pow_pos, pow-add, shr_lt, mod-mod-pow}
use lib.Pow as pow
use Rattle.std.specs.Prelude.{eqb}
use Rattle.nimber_field.specs.Tower.{Tower, ops}
use Rattle.nimber_field.specs.Nimber.{order, code, decode}
use Rattle.nimber_field.proofs.Ring.{add_twice}
use Rattle.nimber_field.proofs.Levels.{tools, laws}

pub order_suc : (k : ℕ) → order (suc k) ≡ order k * order k
order_suc k = ap (λ n. 2 ^ n) (two-pow-succ k) ∙ pow-add 2 (2 ^ k) (2 ^ k)

pub code_below : (k : ℕ) (x : Tower k) → code k x < order k
unfolding code
code_below zero false = lit< tt
code_below zero true = lit< tt
code_below (suc k) x = subst (λ n. code k x.0 * order k + code k x.1 < n) (sym (order_suc k)) (digits_lt (code_below k x.0) (code_below k x.1))

pub decode_code : (k : ℕ) (x : Tower k) → decode k (code k x) ≡ x
unfolding code decode
decode_code zero false = refl
decode_code zero true = refl
decode_code (suc k) x =
    λ i. (
      (ap (decode k) (digits_div (code k x.0) (code_below k x.1)) ∙ decode_code k x.0) i,
      (ap (decode k) (digits_mod (code k x.0) (code_below k x.1)) ∙ decode_code k x.1) i,
    )

-- the high half of a number below the order of the next level
pub high_below : (k n : ℕ) → n < order (suc k) → n / order k < order k
high_below k n h = shr_lt (2 ^ k) (2 ^ k) (subst (λ e. n < 2 ^ e) (two-pow-succ k) h)

-- an element is decoded from the lowest bits of a number
pub decode_low : (k n : ℕ) → decode k (n % order k) ≡ decode k n
unfolding decode
decode_low zero n = ap (λ m. eqb m 1) (mod-mod n 2)
decode_low (suc k) n = λ i. ((ap (decode k) high ∙ decode_low k (n / order k)) i, decode k (low i))
  where
    high : n % order (suc k) / order k ≡ n / order k % order k
    high = ap (λ e. n % 2 ^ e / order k) (two-pow-succ k) ∙ pow.field n (2 ^ k) (2 ^ k)

    low : n % order (suc k) % order k ≡ n % order k
    low = ap (λ e. n % 2 ^ e % order k) (two-pow-succ k) ∙ mod-mod-pow n (2 ^ k) (2 ^ k)

pub code_decode : (k n : ℕ) → n < order k → code k (decode k n) ≡ n
unfolding code decode
code_decode zero zero h = refl
code_decode zero (suc zero) h = refl
code_decode zero (suc (suc n)) h = absurd (omega arith)
code_decode (suc k) n h =
    (λ i. code_decode k (n / order k) (high_below k n h) i * order k + code_decode k (n % order k) (mod-lt n (pow_pos (2 ^ k))) i)
    ∙ div-add-mod' n (order k)

pub code_add : (k : ℕ) (x y : Tower k) → code k ((ops k).add x y) ≡ bit_xor (code k x) (code k y)
unfolding code ops
code_add zero true true = refl
code_add zero true false = refl
code_add zero false true = refl
code_add zero false false = refl
code_add (suc k) x y =
    (λ i. code_add k x.0 y.0 i * order k + code_add k x.1 y.1 i)
    ∙ sym (xor_block (2 ^ k) (code k x.0) (code k y.0) (code k x.1) (code k y.1) (code_below k x.1) (code_below k y.1))

pub code_nil : (k : ℕ) → code k (ops k).nil ≡ 0
unfolding code ops
code_nil zero = refl
code_nil (suc k) = (λ i. code_nil k i * order k + code_nil k i) ∙ omega arith

pub code_one : (k : ℕ) → code k (ops k).one ≡ 1
unfolding code ops
code_one zero = refl
code_one (suc k) = (λ i. code_nil k i * order k + code_one k i) ∙ omega arith

-- half the order
pub code_half : (k : ℕ) → code k (ops k).half ≡ 2 ^ (2 ^ k - 1)
unfolding code ops
code_half zero = refl
code_half (suc k) = (λ i. code_half k i * order k + code_nil k i) ∙ joined
  where
    split : 2 ^ suc k - 1 ≡ (2 ^ k - 1) + 2 ^ k
    split = omega (arith, two-pow-succ k, pow_pos k)

    joined : 2 ^ (2 ^ k - 1) * order k + 0 ≡ 2 ^ (2 ^ suc k - 1)
    joined = omega (arith, ap (λ n. 2 ^ n) split ∙ pow-add 2 (2 ^ k - 1) (2 ^ k))

-- the order of elements is the order of numbers
pub lower_less : (k : ℕ) (p d : Tower k) → (tools k).Lower p d → code k ((ops k).add p d) < code k p
unfolding code ops tools
lower_less zero true true h = lit< tt
lower_less zero true false h = absurd h
lower_less zero false d h = absurd h
lower_less (suc k) p d (inl h) =
    omega (arith, mul-le-mul_right (order k) (lower_less k p.0 d.0 h), code_below k ((ops k).add p.1 d.1))
lower_less (suc k) p d (inr h) =
    subst (λ x. code k x * order k + code k ((ops k).add p.1 d.1) < code k p.0 * order k + code k p.1) (sym same)
    (omega (arith, lower_less k p.1 d.1 h.1))
  where
    same : (ops k).add p.0 d.0 ≡ p.0
    same = cc (h.0, (laws k).ring.add_nil p.0)

pub less_lower : (k : ℕ) (p d : Tower k) → code k ((ops k).add p d) < code k p → (tools k).Lower p d
unfolding code ops tools
less_lower zero true true h = tt
less_lower zero true false h = absurd (omega arith)
less_lower zero false true h = absurd (omega arith)
less_lower zero false false h = absurd (omega arith)
less_lower (suc k) p d h = by_high (dec_lt high (code k p.0)) (less_lower k p.0 d.0) (less_lower k p.1 d.1)
  where
    high : ℕ
    high = code k ((ops k).add p.0 d.0)

    by_high : Dec (high < code k p.0) → (high < code k p.0 → (tools k).Lower p.0 d.0)
        → (code k ((ops k).add p.1 d.1) < code k p.1 → (tools k).Lower p.1 d.1) → (tools (suc k)).Lower p d
    by_high (yes l) f g = inl (f l)
    by_high (no l) f g = inr (nil, g (omega (arith, ap (λ n. n * order k) equal)))
      where
        not_above : code k p.0 < high → ⊥
        not_above m = omega (arith, mul-le-mul_right (order k) m, code_below k p.1)

        equal : high ≡ code k p.0
        equal = omega (arith, not_above)

        nil : d.0 ≡ (ops k).nil
        nil = cc (
          equal,
          decode_code k ((ops k).add p.0 d.0),
          decode_code k p.0,
          add_twice (Tower k) (ops k) (laws k).ring p.0 d.0,
          (laws k).ring.add_self p.0,
        )
