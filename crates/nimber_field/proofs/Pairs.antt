-- The laws of a level hold at the next one, whose elements are its pairs. Assumes nothing.
use mathlib.Core.Path.{◌≡◌, refl, sym, ap, ◌∙◌}
use mathlib.Core.Bool.{Bool, true, false, true≢false}
use mathlib.Core.Logic.{◌⊎◌, inl, inr, ◌≢◌}
use Rattle.nimber_field.specs.Tower.{Ops, norm, pairs}
use Rattle.nimber_field.proofs.Ring.{ring, pair_ring}
use Rattle.nimber_field.proofs.Laws.{Tools, Laws, Factors, exchange, top_nil, cancel, divided}

module _ (K : Type 0) (R : Ops K) (X : Tools K) where
  -- the high part of a solution: it may be changed by one
  abbrev pub shifted : Bool → K → K
  shifted true s = R.add s R.one
  shifted false s = s

  abbrev pub high_part : K → K → K
  high_part s c = shifted (X.top (R.add c (R.mul (R.mul s s) R.half))) s

  abbrev pub low_part : K → K → K
  low_part y c = X.solve (R.add c (R.mul (R.mul y y) R.half))

  abbrev pub pair_tools : Tools (K × K)
  pair_tools = record {
    top = λ x. X.top x.0;
    root = λ x. (X.root x.0, X.root (R.add x.1 (R.mul x.0 R.half)));
    solve = λ c. (high_part (X.solve c.0) c.1, low_part (high_part (X.solve c.0) c.1) c.1);
    Lower = λ p d. X.Lower p.0 d.0 ⊎ ((d.0 ≡ R.nil) × X.Lower p.1 d.1);
  }

module _ (K : Type 0) (R : Ops K) (X : Tools K) (L : Laws K R X) where
  open R use {nil, one, half, add, mul, inv}
  open X use {top, root, solve, Lower}

  P : Ops (K × K)
  P = pairs K R

  both : {a b c d : K} → a ≡ c → b ≡ d → ◌≡◌ {A = K × K} (a, b) (c, d)
  both p q i = (p i, q i)

  -- s s + s + half is never zero, by its highest bit
  never_nil : (s : K) → add (add (mul s s) s) half ≢ nil
  never_nil s e =
      true≢false (cc (L.top_add (add (mul s s) s) half, L.top_square s, L.top_half, top_nil K R X L))

  norm_scaled : (a s : K) → norm K R a (mul s a) ≡ mul (mul a a) (add (add (mul s s) s) half)
  norm_scaled a s = simp (ring, L.ring)

  norm_at_nil : (b : K) → norm K R nil b ≡ mul b b
  norm_at_nil b = simp (norm, ring, L.ring)

  norm_not_nil : (a b : K) → ◌≢◌ {A = K × K} (a, b) (nil, nil) → norm K R a b ≢ nil
  norm_not_nil a b n e = by_high (L.nil_or_not a)
    where
      at_nil : a ≡ nil → b ≢ nil
      at_nil h k = n (both h k)

      squared : a ≡ nil → mul b b ≡ nil
      squared h = cc (norm_at_nil b)

      scaled : a ≢ nil → norm K R a b ≡ mul (mul a a) (add (add (mul (mul b (inv a)) (mul b (inv a))) (mul b (inv a))) half)
      scaled h = cc (divided K R X L b a h, norm_scaled a (mul b (inv a)))

      square_not_nil : a ≢ nil → mul a a ≢ nil
      square_not_nil h k = h (cancel K R X L a a h k)

      by_high : (a ≡ nil) ⊎ (a ≢ nil) → ⊥
      by_high (inl h) = at_nil h (cancel K R X L b b (at_nil h) (squared h))
      by_high (inr h) = never_nil (mul b (inv a)) (cancel K R X L (mul a a) _ (square_not_nil h) (sym (scaled h) ∙ e))

  pair_inverse : (x : K × K) → x ≢ P.nil → P.mul x (P.inv x) ≡ P.one
  unfolding P
  pair_inverse x n = both high (low ∙ L.inverse (norm K R x.0 x.1) (norm_not_nil x.0 x.1 n))
    where
      m : K
      m = inv (norm K R x.0 x.1)

      high : (P.mul x (P.inv x)).0 ≡ nil
      high = simp (ring, L.ring)

      low : (P.mul x (P.inv x)).1 ≡ mul (norm K R x.0 x.1) (inv (norm K R x.0 x.1))
      low = simp (ring, L.ring)

  abbrev PX : Tools (K × K)
  PX = pair_tools K R X

  -- d is a product u v of pairs, where a + u is below a and b + v below b
  abbrev Split : (a b d : K × K) → Type 0
  Split a b d = Factors (K × K) (pairs K R) PX a b d

  -- the high part of a b falls by the product of the high part of a and the low part of b
  at_high_low : (a b d : K × K) → Factors K R X a.0 b.1 d.0 → Split a b d
  at_high_low a b d f = record {
    u = (f.u, mul d.1 (inv f.v));
    v = (nil, f.v);
    u_lower = inl f.u_lower;
    v_lower = inr (refl, f.v_lower);
    is = both (high ∙ f.is) (low ∙ divided K R X L d.1 f.v (L.lower_not_nil b.1 f.v f.v_lower));
  }
    where
      high : ((pairs K R).mul (f.u, mul d.1 (inv f.v)) (nil, f.v)).0 ≡ mul f.u f.v
      high = simp (ring, L.ring)

      low : ((pairs K R).mul (f.u, mul d.1 (inv f.v)) (nil, f.v)).1 ≡ mul (mul d.1 (inv f.v)) f.v
      low = simp (ring, L.ring)

  at_low_high : (a b d : K × K) → Factors K R X a.1 b.0 d.0 → Split a b d
  at_low_high a b d f =
      exchange (K × K) (pairs K R) PX (pair_ring K R L.ring) b a d (at_high_low b a d (exchange K R X L.ring a.1 b.0 d.0 f))

  at_low_low : (a b d : K × K) → d.0 ≡ nil → Factors K R X a.1 b.1 d.1 → Split a b d
  at_low_low a b d e f = record {
    u = (nil, f.u);
    v = (nil, f.v);
    u_lower = inr (refl, f.u_lower);
    v_lower = inr (refl, f.v_lower);
    is = both (high ∙ sym e) (low ∙ f.is);
  }
    where
      high : ((pairs K R).mul (nil, f.u) (nil, f.v)).0 ≡ nil
      high = simp (ring, L.ring)

      low : ((pairs K R).mul (nil, f.u) (nil, f.v)).1 ≡ mul f.u f.v
      low = simp (ring, L.ring)

  -- from factors of e for the high parts: the low parts are their multiples by s and t
  sloped : (a b d : K × K) (e s t : K) → Factors K R X a.0 b.0 e
      → mul e (add one (add s t)) ≡ d.0 → mul e (add (mul s t) half) ≡ d.1 → Split a b d
  sloped a b d e s t f h l = record {
    u = (f.u, mul s f.u);
    v = (f.v, mul t f.v);
    u_lower = inl f.u_lower;
    v_lower = inl f.v_lower;
    is = both (cc (high, f.is)) (cc (low, f.is));
  }
    where
      high : ((pairs K R).mul (f.u, mul s f.u) (f.v, mul t f.v)).0 ≡ mul (mul f.u f.v) (add one (add s t))
      high = simp (ring, L.ring)

      low : ((pairs K R).mul (f.u, mul s f.u) (f.v, mul t f.v)).1 ≡ mul (mul f.u f.v) (add (mul s t) half)
      low = simp (ring, L.ring)

  -- the high part of a b falls by the product of the high parts: s is a square root
  at_high_high : (a b d : K × K) → d.0 ≢ nil → Factors K R X a.0 b.0 d.0 → Split a b d
  at_high_high a b d n f = sloped a b d d.0 s s f high (low ∙ divided K R X L d.1 d.0 n)
    where
      s : K
      s = root (add (mul d.1 (inv d.0)) half)

      high : mul d.0 (add one (add s s)) ≡ d.0
      high = simp (ring, L.ring)

      regroup : mul d.0 (add (add (mul d.1 (inv d.0)) half) half) ≡ mul (mul d.1 (inv d.0)) d.0
      regroup = simp (ring, L.ring)

      low : mul d.0 (add (mul s s) half) ≡ mul (mul d.1 (inv d.0)) d.0
      low = cc (L.roots (add (mul d.1 (inv d.0)) half), regroup)

  -- the low part of a b falls by the product of the high parts with half: s solves an equation
  at_half : (a b d : K × K) → d.0 ≡ nil → Factors K R X (mul a.0 b.0) half d.1 → Split a b d
  at_half a b d e f = sloped a b d f.u s (add s one) (L.factors a.0 b.0 f.u f.u_lower) (high ∙ sym e) (low ∙ f.is)
    where
      s : K
      s = solve (add f.v half)

      even : top (add f.v half) ≡ false
      even = cc (L.top_add f.v half, L.lower_half f.v f.v_lower, L.top_half)

      high : mul f.u (add one (add s (add s one))) ≡ nil
      high = simp (ring, L.ring)

      regroup : (w : K) → mul f.u (add (mul w (add w one)) half) ≡ mul f.u (add (add (mul w w) w) half)
      regroup w = simp (ring, L.ring)

      low : mul f.u (add (mul s (add s one)) half) ≡ mul f.u f.v
      low =
          regroup s ∙ ap (λ w. mul f.u (add w half)) (L.solves (add f.v half) even) ∙ ap (mul f.u) (simp (ring, L.ring))

  pair_factors : (a b d : K × K) → PX.Lower ((pairs K R).mul a b) d → Split a b d
  pair_factors a b d (inl h) = by_term (L.lower_add _ _ d.0 h)
    where
      from : (x y : K) → Lower (mul x y) d.0 → Factors K R X x y d.0
      from x y k = L.factors x y d.0 k

      by_cross : Lower (mul a.0 b.1) d.0 ⊎ Lower (mul a.1 b.0) d.0 → Split a b d
      by_cross (inl k) = at_high_low a b d (from a.0 b.1 k)
      by_cross (inr k) = at_low_high a b d (from a.1 b.0 k)

      by_term : Lower (mul a.0 b.0) d.0 ⊎ Lower (add (mul a.0 b.1) (mul a.1 b.0)) d.0 → Split a b d
      by_term (inl k) = at_high_high a b d (L.lower_not_nil _ d.0 k) (from a.0 b.0 k)
      by_term (inr k) = by_cross (L.lower_add _ _ d.0 k)
  pair_factors a b d (inr h) = by_term (L.lower_add _ _ d.1 h.1)
    where
      by_term : Lower (mul a.1 b.1) d.1 ⊎ Lower (mul (mul a.0 b.0) half) d.1 → Split a b d
      by_term (inl k) = at_low_low a b d h.0 (L.factors a.1 b.1 d.1 k)
      by_term (inr k) = at_half a b d h.0 (L.factors (mul a.0 b.0) half d.1 k)

  pair_nil_or_not : (x : K × K) → (x ≡ P.nil) ⊎ (x ≢ P.nil)
  unfolding P
  pair_nil_or_not x = by_parts (L.nil_or_not x.0) (L.nil_or_not x.1)
    where
      by_parts : (x.0 ≡ nil) ⊎ (x.0 ≢ nil) → (x.1 ≡ nil) ⊎ (x.1 ≢ nil) → (x ≡ (pairs K R).nil) ⊎ (x ≢ (pairs K R).nil)
      by_parts (inl h) (inl l) = inl (both h l)
      by_parts (inl h) (inr l) = inr (λ e. l (ap (λ y. y.1) e))
      by_parts (inr h) l = inr (λ e. h (ap (λ y. y.0) e))

  pair_roots : (c : K × K) → P.mul (PX.root c) (PX.root c) ≡ c
  unfolding P
  pair_roots c = both (high ∙ L.roots c.0) (low ∙ rest)
    where
      x : K
      x = root c.0

      y : K
      y = root (add c.1 (mul c.0 half))

      high : ((pairs K R).mul (x, y) (x, y)).0 ≡ mul x x
      high = simp (ring, L.ring)

      low : ((pairs K R).mul (x, y) (x, y)).1 ≡ add (mul y y) (mul (mul x x) half)
      low = simp (ring, L.ring)

      rest : add (mul y y) (mul (mul x x) half) ≡ c.1
      rest = (λ i. add (L.roots (add c.1 (mul c.0 half)) i) (mul (L.roots c.0 i) half)) ∙ simp (ring, L.ring)

  shifted_solves : (t : Bool) (s : K) → add (mul (shifted K R X t s) (shifted K R X t s)) (shifted K R X t s) ≡ add (mul s s) s
  shifted_solves true s = simp (ring, L.ring)
  shifted_solves false s = refl

  shifted_even : (t : Bool) (s c : K) → top (add c (mul (mul s s) half)) ≡ t
      → top (add c (mul (mul (shifted K R X t s) (shifted K R X t s)) half)) ≡ false
  shifted_even true s c e = cc (regroup, L.top_add (add c (mul (mul s s) half)) half, L.top_half)
    where
      regroup : add c (mul (mul (add s one) (add s one)) half) ≡ add (add c (mul (mul s s) half)) half
      regroup = simp (ring, L.ring)
  shifted_even false s c e = e

  pair_solves : (c : K × K) → PX.top c ≡ false → P.add (P.mul (PX.solve c) (PX.solve c)) (PX.solve c) ≡ c
  unfolding P
  pair_solves c e = both (high y x ∙ shifted_solves _ s ∙ L.solves c.0 e) (low y x ∙ ap (λ w. add w (mul (mul y y) half)) solved ∙ back)
    where
      s : K
      s = solve c.0

      y : K
      y = high_part K R X s c.1

      x : K
      x = low_part K R X y c.1

      high : (y x : K) → add ((pairs K R).mul (y, x) (y, x)).0 y ≡ add (mul y y) y
      high y x = simp (ring, L.ring)

      low : (y x : K) → add ((pairs K R).mul (y, x) (y, x)).1 x ≡ add (add (mul x x) x) (mul (mul y y) half)
      low y x = simp (ring, L.ring)

      solved : add (mul x x) x ≡ add c.1 (mul (mul y y) half)
      solved = L.solves (add c.1 (mul (mul y y) half)) (shifted_even _ s c.1 refl)

      back : add (add c.1 (mul (mul y y) half)) (mul (mul y y) half) ≡ c.1
      back = simp (ring, L.ring)

  pair_top_square : (x : K × K) → PX.top (P.add (P.mul x x) x) ≡ false
  unfolding P
  pair_top_square x = ap top high ∙ L.top_square x.0
    where
      high : add ((pairs K R).mul x x).0 x.0 ≡ add (mul x.0 x.0) x.0
      high = simp (ring, L.ring)

  pair_lower_add : (p q d : K × K) → PX.Lower (P.add p q) d → PX.Lower p d ⊎ PX.Lower q d
  unfolding P
  pair_lower_add p q d (inl h) = either (L.lower_add p.0 q.0 d.0 h)
    where
      either : Lower p.0 d.0 ⊎ Lower q.0 d.0 → PX.Lower p d ⊎ PX.Lower q d
      either (inl k) = inl (inl k)
      either (inr k) = inr (inl k)
  pair_lower_add p q d (inr h) = either (L.lower_add p.1 q.1 d.1 h.1)
    where
      either : Lower p.1 d.1 ⊎ Lower q.1 d.1 → PX.Lower p d ⊎ PX.Lower q d
      either (inl k) = inl (inr (h.0, k))
      either (inr k) = inr (inr (h.0, k))

  pair_lower_not_nil : (p d : K × K) → PX.Lower p d → d ≢ P.nil
  unfolding P
  pair_lower_not_nil p d (inl h) e = L.lower_not_nil p.0 d.0 h (ap (λ y. y.0) e)
  pair_lower_not_nil p d (inr h) e = L.lower_not_nil p.1 d.1 h.1 (ap (λ y. y.1) e)

  pair_nil_not_lower : (d : K × K) → PX.Lower P.nil d → ⊥
  unfolding P
  pair_nil_not_lower d (inl h) = L.nil_not_lower d.0 h
  pair_nil_not_lower d (inr h) = L.nil_not_lower d.1 h.1

  pair_lower_half : (f : K × K) → PX.Lower P.half f → PX.top f ≡ true
  unfolding P
  pair_lower_half f (inl h) = L.lower_half f.0 h
  pair_lower_half f (inr h) = absurd (L.nil_not_lower f.1 h.1)

  pub pair_laws : Laws (K × K) (pairs K R) (pair_tools K R X)
  unfolding P
  pair_laws = record {
    ring = pair_ring K R L.ring;
    one_not_nil = λ e. L.one_not_nil (ap (λ y. y.1) e);
    nil_or_not = pair_nil_or_not;
    inverse = pair_inverse;
    top_add = λ x y. L.top_add x.0 y.0;
    top_half = L.top_half;
    top_square = pair_top_square;
    solves = pair_solves;
    roots = pair_roots;
    lower_not_nil = pair_lower_not_nil;
    nil_not_lower = pair_nil_not_lower;
    lower_add = pair_lower_add;
    lower_half = pair_lower_half;
    half_lower = λ f e. inl (L.half_lower f.0 e);
    factors = pair_factors;
  }
