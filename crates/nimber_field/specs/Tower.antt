-- The tower of fields: level 0 is the field of two elements, and each level has the pairs of the level below it.
-- Assumes nothing.
use Rattle.std.specs.Prelude.{Bool, true, false, ◌&&◌, ℕ, zero, suc}

-- what is computed in a field of the tower; half is the element by which its pairs are multiplied
pub record Ops (K : Type 0) : Type 0 where
  pub nil : K
  pub one : K
  pub half : K
  pub add : K → K → K
  pub mul : K → K → K
  pub inv : K → K

-- exclusive or of two truth values
abbrev pub differ : Bool → Bool → Bool
differ true true = false
differ true false = true
differ false b = b

-- the field of two elements; zero is its own inverse by convention
abbrev pub bits : Ops Bool
bits = record {
  nil = false;
  one = true;
  half = true;
  add = differ;
  mul = ◌&&◌;
  inv = λ x. x;
}

-- the product of the pair (a, b) with its conjugate, an element below the pairs
abbrev pub norm : (K : Type 0) → Ops K → K → K → K
norm K R a b = R.add (R.mul b b) (R.add (R.mul b a) (R.mul (R.mul a a) R.half))

-- the pair (x, y) stands for x F + y, where F F = F + half: F is the first element that the field lacks
abbrev pub pairs : (K : Type 0) → Ops K → Ops (K × K)
pairs K R = record {
  nil = (R.nil, R.nil);
  one = (R.nil, R.one);
  half = (R.half, R.nil);
  add = λ x y. (R.add x.0 y.0, R.add x.1 y.1);
  mul = λ x y. pairs_mul x.0 x.1 y.0 y.1 (R.mul x.0 y.0);
  inv = λ x. pairs_inv x.0 x.1 (R.inv (norm K R x.0 x.1));
}
  where
    pairs_mul : K → K → K → K → K → K × K
    pairs_mul a b c d ac = (R.add ac (R.add (R.mul a d) (R.mul b c)), R.add (R.mul b d) (R.mul ac R.half))

    pairs_inv : K → K → K → K × K
    pairs_inv a b n = (R.mul a n, R.mul (R.add b a) n)

-- the elements of level k
abbrev pub Tower : ℕ → Type 0
Tower zero = Bool
Tower (suc k) = Tower k × Tower k

-- what is computed at level k
unfoldable pub ops : (k : ℕ) → Ops (Tower k)
ops zero = bits
ops (suc k) = pairs (Tower k) (ops k)
