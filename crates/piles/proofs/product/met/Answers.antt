use Rattle.std.proofs.Common.{◌≡◌, ℕ, ◌^◌, ◌<◌, ◌≤◌, List, map, length, get_or, Some, None, Option, MatchOption, sym, ap, ◌∙◌, arith, rules, tests, le-ltb, lt-ltb}
use Rattle.std.specs.List.{range_with_len, AllWithin, HoldsAt}
use Rattle.std.proofs.lemmas.Iterator.{first_from_find, YieldsList-from_range, YieldsList-from_map}
use Rattle.std.proofs.lemmas.List.FromFn.{length-map-range_with_len, get_or-map-range_with_len}
use Rattle.nimber_field.specs.Nimber.{◌⊗◌}
use Rattle.nimber_field.proofs.Conway.{all_met}
use Rattle.games.specs.Laws.RowLaws.{first_is}
use Rattle.piles.specs.Layers.{partner, smallest_met}
use Rattle.piles.specs.declared.product.Meeting.{Meeting}
use Rattle.piles.proofs.product.met.Goals as goal

module _ (a b w : ℕ) where
  pair : ℕ → Meeting
  pair n = record { left = n; right = partner a b w n }

  pairs : List Meeting
  pairs = map pair (range_with_len 0 a)

  at : (n : ℕ) (d : Meeting) → n < a → get_or pairs n d ≡ pair n
  unfolding pairs
  at n d l = get_or-map-range_with_len pair 0 a n n d l (omega arith)

  count : length pairs ≡ a
  unfolding pairs
  count = length-map-range_with_len pair 0 a

  found : a < 2 ^ 32 → b < 2 ^ 32 → w < a ⊗ b → (r : Option Meeting)
      → MatchOption r (AllWithin (λ m. b ≤ m.right) pairs 0 (length pairs)) (λ m. (m.right < b) × (i : ℕ) × (i < length pairs) × HoldsAt (λ y. y ≡ m) pairs i × AllWithin (λ m. b ≤ m.right) pairs 0 i)
      → MatchOption r (a ⊗ b ≤ w) (λ m. (w < a ⊗ b) × (m.left ≡ smallest_met a b w) × (m.right ≡ partner a b w (smallest_met a b w)))
  unfolding pair
  found ha hb hw None none =
      let met = all_met a b w ha hb hw in
      let d = pair 0 in
      absurd (omega (arith, met.below, ap (λ m. m.right) (at met.a' d met.a'_below), none met.a' d (omega arith) (omega (arith, count, met.a'_below))))
  found ha hb hw (Some m) h =
      let i = h.1 in
      let on : i < a = omega (arith, count, h.2) in
      let is : pair i ≡ m = sym (at i m on) ∙ h.3 m in
      let first : smallest_met a b w ≡ i
      = first_is a _ i on (lt-ltb _ b (omega (arith, h.0, ap (λ m. m.right) is)))
      (λ j l. le-ltb _ b (omega (arith, h.4 j m (omega arith) l, ap (λ m. m.right) (at j m (omega (arith, l, on)))))) in
      (hw, ap (λ m. m.left) (sym is) ∙ sym first, ap (λ m. m.right) (sym is) ∙ ap (partner a b w) (sym first))

pub returns : goal.returns
unfolding pair pairs
returns c =
    let a = c.args.a in
    let b = c.args.b in
    let w = c.args.w in
    let product = c.product-v.ensures.value in
    found a b w c.ranges.a.fits c.ranges.b.fits (omega (arith, c.if-w-v.false, product)) _
    (first_from_find _ _ _ (λ m. m.right < b) (λ m. b ≤ m.right) c.find.ensures.ran
    (YieldsList-from_map _ (pair a b w) (YieldsList-from_range 0 a a (cc) (omega arith)) c.map.ensures.closure (λ x r q k. search (rules, product)))
    (λ x q k. search (rules, tests)) (λ x q k. search (rules, tests)))
