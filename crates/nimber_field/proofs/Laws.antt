-- What holds at each level of the tower. Assumes nothing.
use mathlib.Core.Path.{◌≡◌, ap, ◌∙◌}
use mathlib.Core.Bool.{Bool, true, false}
use mathlib.Core.Logic.{◌⊎◌, ◌≢◌}
use Rattle.nimber_field.specs.Tower.{Ops, differ}
use Rattle.nimber_field.proofs.Ring.{Ring}
use Rattle.nimber_field.proofs.Ring as rings

-- what proofs use besides the operations: the highest bit, square roots, a solution of x x + x = c,
-- and the order, where Lower p d says that p + d is below p
pub record Tools (K : Type 0) : Type 1 where
  pub top : K → Bool
  pub root : K → K
  pub solve : K → K
  pub Lower : K → K → Type 0

-- d is a product u v, where a + u is below a and b + v below b
pub record Factors (K : Type 0) (R : Ops K) (X : Tools K) (a b d : K) : Type 0 where
  pub u : K
  pub v : K
  pub u_lower : X.Lower a u
  pub v_lower : X.Lower b v
  pub is : R.mul u v ≡ d

pub record Laws (K : Type 0) (R : Ops K) (X : Tools K) : Type 0 where
  pub ring : Ring K R
  pub one_not_nil : R.one ≢ R.nil
  pub nil_or_not : (x : K) → (x ≡ R.nil) ⊎ (x ≢ R.nil)
  pub inverse : (x : K) → x ≢ R.nil → R.mul x (R.inv x) ≡ R.one
  pub top_add : (x y : K) → X.top (R.add x y) ≡ differ (X.top x) (X.top y)
  pub top_half : X.top R.half ≡ true
  pub top_square : (x : K) → X.top (R.add (R.mul x x) x) ≡ false
  pub solves : (c : K) → X.top c ≡ false → R.add (R.mul (X.solve c) (X.solve c)) (X.solve c) ≡ c
  pub roots : (c : K) → R.mul (X.root c) (X.root c) ≡ c
  pub lower_not_nil : (p d : K) → X.Lower p d → d ≢ R.nil
  pub nil_not_lower : (d : K) → X.Lower R.nil d → ⊥
  pub lower_add : (p q d : K) → X.Lower (R.add p q) d → X.Lower p d ⊎ X.Lower q d
  pub lower_half : (f : K) → X.Lower R.half f → X.top f ≡ true
  pub half_lower : (f : K) → X.top f ≡ true → X.Lower R.half f
  pub factors : (a b d : K) → X.Lower (R.mul a b) d → Factors K R X a b d

pub exchange : (K : Type 0) (R : Ops K) (X : Tools K) → Ring K R → (a b d : K) → Factors K R X a b d → Factors K R X b a d
exchange K R X C a b d f = record {
  u = f.v;
  v = f.u;
  u_lower = f.v_lower;
  v_lower = f.u_lower;
  is = cc (C.mul_comm f.v f.u, f.is);
}

module _ (K : Type 0) (R : Ops K) (X : Tools K) (L : Laws K R X) where
  open R use {nil, one, half, add, mul, inv}

  pub top_nil : X.top nil ≡ false
  top_nil = ap X.top (simp (rings.ring, L.ring)) ∙ L.top_square nil

  -- a factor that is not zero may be taken away
  pub cancel : (a t : K) → a ≢ nil → mul a t ≡ nil → t ≡ nil
  cancel a t n e = cc (rings.one_mul K R L.ring t, L.inverse a n, regroup, L.ring.mul_nil (inv a))
    where
      regroup : mul (mul a (inv a)) t ≡ mul (inv a) (mul a t)
      regroup = simp (rings.ring, L.ring)

  -- x divided by y, times y
  pub divided : (x y : K) → y ≢ nil → mul (mul x (inv y)) y ≡ x
  divided x y n = cc (regroup, L.inverse y n, L.ring.mul_one x)
    where
      regroup : mul (mul x (inv y)) y ≡ mul x (mul y (inv y))
      regroup = simp (rings.ring, L.ring)
