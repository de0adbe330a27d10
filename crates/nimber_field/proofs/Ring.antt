-- Commutative rings in which x + x = 0, and the ring of their pairs. Assumes nothing.
use mathlib.Core.Path.{◌≡◌, ◌∙◌}
use Rattle.nimber_field.specs.Tower.{Ops, pairs}

-- a commutative ring in which every element is its own negative
pub record Ring (K : Type 0) (R : Ops K) : Type 0 where
  pub add_assoc : (x y z : K) → R.add (R.add x y) z ≡ R.add x (R.add y z)
  pub add_comm : (x y : K) → R.add x y ≡ R.add y x
  pub add_nil : (x : K) → R.add x R.nil ≡ x
  pub add_self : (x : K) → R.add x x ≡ R.nil
  pub mul_assoc : (x y z : K) → R.mul (R.mul x y) z ≡ R.mul x (R.mul y z)
  pub mul_comm : (x y : K) → R.mul x y ≡ R.mul y x
  pub mul_one : (x : K) → R.mul x R.one ≡ x
  pub mul_nil : (x : K) → R.mul x R.nil ≡ R.nil
  pub distrib : (x y z : K) → R.mul x (R.add y z) ≡ R.add (R.mul x y) (R.mul x z)

module _ (K : Type 0) (R : Ops K) (L : Ring K R) where
  open R use {nil, one, half, add, mul}

  -- the laws by names of their own, since a rule set lists declared names
  pub add_assoc : (x y z : K) → add (add x y) z ≡ add x (add y z)
  add_assoc = L.add_assoc

  pub add_comm : (x y : K) → add x y ≡ add y x
  add_comm = L.add_comm

  pub add_left_comm : (x y z : K) → add x (add y z) ≡ add y (add x z)
  add_left_comm x y z = cc (add_assoc x y z, add_comm x y, add_assoc y x z)

  pub add_nil : (x : K) → add x nil ≡ x
  add_nil = L.add_nil

  pub nil_add : (x : K) → add nil x ≡ x
  nil_add x = add_comm nil x ∙ add_nil x

  pub add_self : (x : K) → add x x ≡ nil
  add_self = L.add_self

  pub add_twice : (x y : K) → add x (add x y) ≡ y
  add_twice x y = cc (add_assoc x x y, add_self x, nil_add y)

  pub mul_assoc : (x y z : K) → mul (mul x y) z ≡ mul x (mul y z)
  mul_assoc = L.mul_assoc

  pub mul_comm : (x y : K) → mul x y ≡ mul y x
  mul_comm = L.mul_comm

  pub mul_left_comm : (x y z : K) → mul x (mul y z) ≡ mul y (mul x z)
  mul_left_comm x y z = cc (mul_assoc x y z, mul_comm x y, mul_assoc y x z)

  pub mul_one : (x : K) → mul x one ≡ x
  mul_one = L.mul_one

  pub one_mul : (x : K) → mul one x ≡ x
  one_mul x = mul_comm one x ∙ mul_one x

  pub mul_nil : (x : K) → mul x nil ≡ nil
  mul_nil = L.mul_nil

  pub nil_mul : (x : K) → mul nil x ≡ nil
  nil_mul x = mul_comm nil x ∙ mul_nil x

  pub distrib : (x y z : K) → mul x (add y z) ≡ add (mul x y) (mul x z)
  distrib = L.distrib

  pub distrib_right : (x y z : K) → mul (add x y) z ≡ add (mul x z) (mul y z)
  distrib_right x y z = cc (mul_comm (add x y) z, distrib z x y, mul_comm z x, mul_comm z y)

  -- sums of products in order, equal ones cancelled
  pub ruleset ring = (
    distrib,
    distrib_right,
    mul_assoc,
    mul_comm,
    mul_left_comm,
    mul_one,
    one_mul,
    mul_nil,
    nil_mul,
    add_assoc,
    add_comm,
    add_left_comm,
    add_nil,
    nil_add,
    add_self,
    add_twice,
  )

  pub pair_ring : Ring (K × K) (pairs K R)
  pair_ring = record {
    add_assoc = λ x y z. simp ring;
    add_comm = λ x y. simp ring;
    add_nil = λ x. simp ring;
    add_self = λ x. simp ring;
    mul_assoc = λ x y z. simp ring;
    mul_comm = λ x y. simp ring;
    mul_one = λ x. simp ring;
    mul_nil = λ x. simp ring;
    distrib = λ x y z. simp ring;
  }
