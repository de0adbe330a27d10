-- The numbers below the order of a level are a field. Assumes nothing.
use mathlib.Core.Path.{◌≡◌, ap, ◌∙◌, subst}
use mathlib.Core.Logic.{◌⊎◌, inl, inr, ◌≢◌}
use Prim.Native.Nat.{ℕ, ◌^◌, ◌<◌}
use native.Mathlib.Nat.{lt_trans, ne_of_gt}
use native.Mathlib.Omega.{arith}
use lib.Pow.{pow_pos}
use lib.Bits.{xor_lt, xor_comm, xor_assoc, xor_zero_r, xor_self}
use Rattle.nimber_field.specs.Tower.{Tower, ops}
use Rattle.nimber_field.specs.Nimber.{order, code, decode, times, invert, ◌⊕◌}
use Rattle.nimber_field.specs.Field.{Field}
use Rattle.nimber_field.proofs.Sums.{sums, xor_twice, xor_equal}
use Rattle.nimber_field.proofs.Ring.{ring}
use Rattle.nimber_field.proofs.Laws.{cancel}
use Rattle.nimber_field.proofs.Levels.{tools, laws}
use Rattle.nimber_field.proofs.Codes.{code_below, decode_code, code_decode, code_add, code_nil, code_one}

module _ (k : ℕ) where
  open ops k use {nil, one, add, mul, inv}

  pub times_below : (a b : ℕ) → times k a b < order k
  unfolding times
  times_below a b = code_below k (mul (decode k a) (decode k b))

  pub decode_times : (a b : ℕ) → decode k (times k a b) ≡ mul (decode k a) (decode k b)
  unfolding times
  decode_times a b = decode_code k (mul (decode k a) (decode k b))

  pub decode_sum : (a b : ℕ) → a < order k → b < order k → decode k (a ⊕ b) ≡ add (decode k a) (decode k b)
  decode_sum a b ha hb = cc (
    code_add k (decode k a) (decode k b),
    code_decode k a ha,
    code_decode k b hb,
    decode_code k (add (decode k a) (decode k b)),
  )

  pub decode_zero : decode k 0 ≡ nil
  decode_zero = cc (code_nil k, decode_code k nil)

  pub decode_one : decode k 1 ≡ one
  decode_one = cc (code_one k, decode_code k one)

  -- numbers that stand for one element are equal
  pub decode_injective : (a b : ℕ) → a < order k → b < order k → decode k a ≡ decode k b → a ≡ b
  decode_injective a b ha hb e = cc (code_decode k a ha, code_decode k b hb)

  pub invert_below : (a : ℕ) → invert k a < order k
  unfolding invert
  invert_below a = code_below k (inv (decode k a))

  pub one_below : 1 < order k
  one_below = subst (λ n. n < order k) (code_one k) (code_below k one)

  zero_of : (a : ℕ) → a < order k → decode k a ≡ nil → a ≡ 0
  zero_of a ha e = cc (code_decode k a ha, code_nil k)

  pub not_nil : (a : ℕ) → a < order k → a ≢ 0 → decode k a ≢ nil
  not_nil a ha n e = n (zero_of a ha e)

  pub times_invert : (a : ℕ) → a < order k → a ≢ 0 → times k a (invert k a) ≡ 1
  unfolding times invert
  times_invert a ha n = simp (decode_code k, (laws k).inverse (decode k a) (not_nil a ha n), code_one k)

  assoc : (a b c : ℕ) → times k (times k a b) c ≡ times k a (times k b c)
  unfolding times
  assoc a b c = simp (decode_code k, (laws k).ring.mul_assoc)

  pub comm : (a b : ℕ) → times k a b ≡ times k b a
  unfolding times
  comm a b = ap (code k) ((laws k).ring.mul_comm (decode k a) (decode k b))

  unit : (a : ℕ) → a < order k → times k a 1 ≡ a
  unfolding times
  unit a ha = cc (decode_one, (laws k).ring.mul_one (decode k a), code_decode k a ha)

  pub distributes : (a b c : ℕ) → b < order k → c < order k → times k a (b ⊕ c) ≡ times k a b ⊕ times k a c
  unfolding times
  distributes a b c hb hc = simp (decode_sum b c hb hc, (laws k).ring.distrib, code_add k)

  no_divisors : (a b : ℕ) → a < order k → b < order k → times k a b ≡ 0 → (a ≡ 0) ⊎ (b ≡ 0)
  no_divisors a b ha hb e = by_left ((laws k).nil_or_not (decode k a))
    where
      product_nil : mul (decode k a) (decode k b) ≡ nil
      product_nil = cc (decode_times a b, decode_zero)

      by_left : (decode k a ≡ nil) ⊎ (decode k a ≢ nil) → (a ≡ 0) ⊎ (b ≡ 0)
      by_left (inl f) = inl (zero_of a ha f)
      by_left (inr n) = inr (zero_of b hb (cancel (Tower k) (ops k) (tools k) (laws k) (decode k a) (decode k b) n product_nil))

  pub field : Field (order k) ◌⊕◌ (times k) 0 1
  field = record {
    zero_below = pow_pos (2 ^ k);
    one_below = one_below;
    one_not_zero = omega arith;
    sum_below = xor_lt (2 ^ k);
    sum_assoc = λ a b c ha hb hc. xor_assoc a b c;
    sum_comm = λ a b ha hb. xor_comm a b;
    sum_zero = λ a ha. xor_zero_r a;
    negative = λ a ha. (a, ha, xor_self a);
    product_below = λ a b ha hb. times_below a b;
    product_assoc = λ a b c ha hb hc. assoc a b c;
    product_comm = λ a b ha hb. comm a b;
    product_one = λ a ha. unit a ha;
    distributive = λ a b c ha hb hc. distributes a b c hb hc;
    inverse = λ a ha n. (invert k a, invert_below a, times_invert a ha n);
    no_zero_divisors = no_divisors;
  }

  -- the number that Conway's rule excludes for a' and b', by the product of what is added to a and b
  pub excluded_is : (a b a' b' : ℕ) → a < order k → b < order k → a' < order k → b' < order k
      → times k a' b ⊕ times k a b' ⊕ times k a' b' ≡ times k a b ⊕ times k (a ⊕ a') (b ⊕ b')
  unfolding times
  excluded_is a b a' b' ha hb ha' hb' =
      cc (expanded (decode k a) (decode k a') (decode k b) (decode k b'), decode_sum a a' ha ha', decode_sum b b' hb hb')
    where
      expanded : (x u y v : Tower k)
          → code k (mul u y) ⊕ code k (mul x v) ⊕ code k (mul u v) ≡ code k (mul x y) ⊕ code k (mul (add x u) (add y v))
      expanded x u y v = simp (ring, (laws k).ring, code_add k, sums)

  -- where moving both factors leaves the product as it was, one of them did not move
  pub unmoved : (a b a' b' : ℕ) → a < order k → b < order k → a' < order k → b' < order k
      → times k a b ⊕ times k (a ⊕ a') (b ⊕ b') ≡ times k a b → (a ≡ a') ⊎ (b ≡ b')
  unmoved a b a' b' ha hb ha' hb' e =
      by_factor (no_divisors (a ⊕ a') (b ⊕ b') (xor_lt (2 ^ k) a a' ha ha') (xor_lt (2 ^ k) b b' hb hb') zero_product)
    where
      zero_product : times k (a ⊕ a') (b ⊕ b') ≡ 0
      zero_product = cc (xor_twice (times k a b) (times k (a ⊕ a') (b ⊕ b')), xor_self (times k a b))

      by_factor : (a ⊕ a' ≡ 0) ⊎ (b ⊕ b' ≡ 0) → (a ≡ a') ⊎ (b ≡ b')
      by_factor (inl f) = inl (xor_equal a a' f)
      by_factor (inr f) = inr (xor_equal b b' f)

  -- what is left of a product when its first factor moves from a to a' and its second to the partner of a'
  pub partner_is : (a b w a' : ℕ) → a < order k → b < order k → w < order k → a' < a
      → let b' = b ⊕ times k (times k a b ⊕ w) (invert k (a ⊕ a')) in times k a' b ⊕ times k a b' ⊕ times k a' b' ≡ w
  partner_is a b w a' ha hb hw l =
      excluded_is a b a' (b ⊕ q) ha hb ha' (xor_lt (2 ^ k) b q hb (times_below gap (invert k u)))
      ∙ ap (λ n. times k a b ⊕ times k u n) (xor_twice b q)
      ∙ ap (λ n. times k a b ⊕ n) back
      ∙ xor_twice (times k a b) w
    where
      ha' : a' < order k
      ha' = lt_trans l ha

      u : ℕ
      u = a ⊕ a'

      hu : u < order k
      hu = xor_lt (2 ^ k) a a' ha ha'

      gap : ℕ
      gap = times k a b ⊕ w

      hg : gap < order k
      hg = xor_lt (2 ^ k) (times k a b) w (times_below a b) hw

      q : ℕ
      q = times k gap (invert k u)

      inverse : times k u (invert k u) ≡ 1
      inverse = times_invert u hu (λ e. ne_of_gt l (xor_equal a a' e))

      back : times k u q ≡ gap
      back = cc (
        comm u q,
        assoc gap (invert k u) u,
        comm (invert k u) u,
        inverse,
        unit gap hg,
      )
