-- The product of a level keeps Conway's rule, which has one solution. Assumes nothing.
use mathlib.Core.Path.{◌≡◌, sym, subst}
use mathlib.Core.Logic.{◌⊎◌, inl, inr}
use Prim.Native.Nat.{ℕ, zero, suc, ◌+◌, ◌^◌, ◌<◌, ◌≤◌}
use native.Mathlib.Nat.{lt_trans, ne_of_gt}
use native.Mathlib.Omega.{arith}
use lib.Bits.{xor_lt}
use Rattle.nimber_field.specs.Missing.{Missing}
use Rattle.nimber_field.specs.Tower.{Tower, ops}
use Rattle.nimber_field.specs.Nimber.{order, code, decode, times, invert, ◌⊕◌, ◌⊗◌, inverse_of, Excluded, Conway, Only, AllMet}
use Rattle.nimber_field.specs.Field.{Field}
use Rattle.nimber_field.proofs.Sums.{xor_twice}
use Rattle.nimber_field.proofs.Ring.{ring}
use Rattle.nimber_field.proofs.Laws.{Factors, divided}
use Rattle.nimber_field.proofs.Levels.{tools, laws}
use Rattle.nimber_field.proofs.Codes.{decode_code}
use Rattle.nimber_field.proofs.Numbers.{times_below, decode_times, field, excluded_is, unmoved, partner_is}
use Rattle.nimber_field.proofs.Below.{lowered, lowers}

module _ (k : ℕ) where
  open ops k use {mul, inv}

  abbrev D : ℕ → Tower k
  D = decode k

  not_excluded : (a b : ℕ) → a < order k → b < order k → Excluded (times k) a b (times k a b) → ⊥
  not_excluded a b ha hb e = by_factor (unmoved k a b e.a' e.b' ha hb ha' hb' (cc (excluded_is k a b e.a' e.b' ha hb ha' hb', e.is)))
    where
      ha' : e.a' < order k
      ha' = lt_trans e.a'_below ha

      hb' : e.b' < order k
      hb' = lt_trans e.b'_below hb

      by_factor : (a ≡ e.a') ⊎ (b ≡ e.b') → ⊥
      by_factor (inl f) = ne_of_gt e.a'_below f
      by_factor (inr f) = ne_of_gt e.b'_below f

  -- the factors of what w lacks to the product of a and b
  module _ (a b w : ℕ) (ha : a < order k) (hb : b < order k) (hw : w < times k a b) where
    w_below : w < order k
    w_below = lt_trans hw (times_below k a b)

    lack : Tower k
    lack = D (times k a b ⊕ w)

    factors : Factors (Tower k) (ops k) (tools k) (D a) (D b) lack
    unfolding lack
    factors = (laws k).factors (D a) (D b) lack (subst (λ x. (tools k).Lower x lack) (decode_times k a b) (lowered k (times k a b) (times k a b ⊕ w) (times_below k a b) (xor_lt (2 ^ k) _ _ (times_below k a b) w_below) left))
      where
        left : times k a b ⊕ (times k a b ⊕ w) < times k a b
        left = subst (λ n. n < times k a b) (sym (xor_twice (times k a b) w)) hw

    abbrev a' : ℕ
    a' = a ⊕ code k factors.u

    a'_below : a' < a
    a'_below = lowers k a ha factors.u factors.u_lower

    -- the partner of a' is what b becomes by the second factor
    met : b ⊕ times k (times k a b ⊕ w) (invert k (a ⊕ a')) < b
    unfolding lack times invert
    met = subst (λ n. b ⊕ n < b) (sym partner) (lowers k b hb factors.v factors.v_lower)
      where
        u : Tower k
        u = factors.u

        v : Tower k
        v = factors.v

        regroup : mul (mul u v) (inv u) ≡ mul (mul v (inv u)) u
        regroup = simp (ring, (laws k).ring)

        partner : times k (times k a b ⊕ w) (invert k (a ⊕ (a ⊕ code k u))) ≡ code k v
        partner = cc (
          xor_twice a (code k u),
          factors.is,
          decode_code k u,
          decode_code k (inv u),
          regroup,
          divided (Tower k) (ops k) (tools k) (laws k) v u ((laws k).lower_not_nil (D a) u factors.u_lower),
        )

    excluded : Excluded (times k) a b w
    excluded = record {
      a' = a';
      b' = b ⊕ times k (times k a b ⊕ w) (invert k (a ⊕ a'));
      a'_below = a'_below;
      b'_below = met;
      is = sym (partner_is k a b w a' ha hb w_below a'_below);
    }

  conway_at : (a b : ℕ) → a < order k → b < order k → Missing (Excluded (times k) a b) (times k a b)
  conway_at a b ha hb = record { misses = not_excluded a b ha hb; smallest = λ w hw. excluded a b w ha hb hw }

-- the operations at level 5 are those of 32-bit numbers
pub conway : Conway ◌⊗◌
unfolding ◌⊗◌
conway a b ha hb = conway_at 5 a b ha hb

pub all_met : AllMet
unfolding ◌⊗◌ inverse_of
all_met a b w ha hb hw = record {
  a' = a' 5 a b w ha hb hw;
  a'_below = a'_below 5 a b w ha hb hw;
  below = met 5 a b w ha hb hw;
}

pub nimber_field : Field (2 ^ 32) ◌⊕◌ ◌⊗◌ 0 1
unfolding ◌⊗◌
nimber_field = field 5

-- two statements that hold of the same numbers miss the same smallest one
missing_same : (P Q : ℕ → Type 0) → ((w : ℕ) → P w → Q w) → ((w : ℕ) → Q w → P w)
    → (m n : ℕ) → Missing P m → Missing Q n → m ≡ n
missing_same P Q to from m n p q =
    let not_below : m < n → ⊥ = λ h. p.misses (from m (q.smallest m h)) in
    let not_above : n < m → ⊥ = λ h. q.misses (to n (p.smallest n h)) in
    omega arith

-- products that agree below a and b exclude the same numbers there
excluded_same : (f g : ℕ → ℕ → ℕ) (a b : ℕ)
    → ((x y : ℕ) → x ≤ a → y ≤ b → x + y < a + b → f x y ≡ g x y)
    → (w : ℕ) → Excluded f a b w → Excluded g a b w
excluded_same f g a b agree w e = record {
  a' = e.a';
  b' = e.b';
  a'_below = e.a'_below;
  b'_below = e.b'_below;
  is = cc (
    e.is,
    agree e.a' b (omega arith) (omega arith) (omega arith),
    agree a e.b' (omega arith) (omega arith) (omega arith),
    agree e.a' e.b' (omega arith) (omega arith) (omega arith),
  );
}

agrees : (f g : ℕ → ℕ → ℕ) → Conway f → Conway g
    → (s a b : ℕ) → a + b < s → a < 2 ^ 32 → b < 2 ^ 32 → f a b ≡ g a b
agrees f g F G zero a b h ha hb = absurd (omega arith)
agrees f g F G (suc s) a b h ha hb =
    let below : (x y : ℕ) → x ≤ a → y ≤ b → x + y < a + b → f x y ≡ g x y
    = λ x y hx hy l. agrees f g F G s x y (omega arith) (omega arith) (omega arith) in
    missing_same (Excluded f a b) (Excluded g a b) (excluded_same f g a b below) (excluded_same g f a b (λ x y hx hy l. sym (below x y hx hy l)))
    (f a b) (g a b) (F a b ha hb) (G a b ha hb)

pub only : Only ◌⊗◌
only other C a b ha hb = agrees other ◌⊗◌ C conway (suc (a + b)) a b (omega arith) ha hb
