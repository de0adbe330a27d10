-- The value of a cell is the smallest number that is missing there. Assumes nothing.
use Rattle.std.specs.Prelude.{◌≡◌, ℕ, zero, suc, ◌-◌, ◌<◌, ◌≤◌, Bool, true, false, not, [], ◌∷◌, ◌+◌, length, is_some, Some, None, Decides, Option, unwrap_or, MatchOption}
use Rattle.std.proofs.Math.Path.{refl, ap, fun_ext}
use Rattle.std.proofs.Common.{sym, ◌∙◌, subst, eqb-true, eq-eqb}
use Rattle.std.proofs.Math.Decide.{dec_lt}
use native.Mathlib.Omega.{arith}
use Rattle.std.proofs.Math.ListN.{length-append, get_or-append}
use Rattle.std.proofs.Math.Seq.{get_or-append_seam}
use Rattle.std.proofs.lemmas.Bool.{and_parts, and_from, not_from_true, not_from_false, not-true, not-false, both_ways}
use Rattle.std.proofs.lemmas.Bool.Decides.{Decides-below_or, Decides-like, Decides-not, not_from_Decides, same_from_decides}
use Rattle.games.specs.Rows.{first}
use Rattle.games.specs.TakeValues.{amount, any, leading, leads, missing, SmallestLeading, value_in, take_values, take_value}
use Rattle.games.specs.Laws.AmountLaws.{amount_pos}
use Rattle.games.specs.Laws.RowLaws.{First, first_exists, first_is}

-- an amount that leads from c to a cell of value v
pub record Lead (set : ℕ) (value : ℕ → ℕ) (c v : ℕ) : Type 0 where
  pub s : ℕ
  pub within : s ≤ c
  pub is : amount set s ≡ true
  pub to : value (c - s) ≡ v

any_decides : (n : ℕ) (p : ℕ → Bool) → Decides (any n p) ((k : ℕ) × (k < n) × (p k ≡ true))
unfolding any
any_decides n p = Decides-below_or p (λ k. p k ≡ true) (λ m. any m p) (λ k. (λ e. e, λ e. e)) refl (λ m. refl) n

module _ (set : ℕ) where
  pub leads_decides : (value : ℕ → ℕ) (c v : ℕ) → Decides (leads set value c v) (Lead set value c v)
  leads_decides value c v = Decides-like _ there back (any_decides (suc c) (leading set value c v))
    where
      there : (k : ℕ) × (k < suc c) × (leading set value c v k ≡ true) → Lead set value c v
      there k =
          let p = and_parts _ _ k.2 in
          record { s = k.0; within = omega (arith, k.1); is = p.0; to = eqb-true _ v p.1 }

      back : Lead set value c v → (k : ℕ) × (k < suc c) × (leading set value c v k ≡ true)
      back l = (l.s, omega (arith, l.within), and_from _ _ l.is (eq-eqb _ v l.to))

  -- an amount leads to a cell below
  pub lower : (c s : ℕ) → s ≤ c → amount set s ≡ true → c - s < c
  lower c s h e = omega (arith, amount_pos set s e)

  moved : (f g : ℕ → ℕ) (c v : ℕ) → ((d : ℕ) → d < c → f d ≡ g d) → Lead set f c v → Lead set g c v
  moved f g c v same l =
      record { s = l.s; within = l.within; is = l.is; to = sym (same (c - l.s) (lower c l.s l.within l.is)) ∙ l.to }

  -- what is missing depends on the values of the cells below
  missing_same : (f g : ℕ → ℕ) (c : ℕ) → ((d : ℕ) → d < c → f d ≡ g d) → missing set f c ≡ missing set g c
  missing_same f g c same =
      ap (first (suc c)) (fun_ext (λ v. ap not (same_from_decides _ _ (leads_decides f c v)
      (Decides-like _ (moved g f c v (λ d h. sym (same d h))) (moved f g c v same) (leads_decides g c v)))))

  values_length : (n : ℕ) → length (take_values set n) ≡ n
  unfolding take_values
  values_length zero = refl
  values_length (suc n) =
      let vs = take_values set n in
      omega (arith, length-append vs (missing set (value_in vs) n ∷ []), values_length n)

  value_at : (n d : ℕ) → d < n → value_in (take_values set n) d ≡ take_value set d
  unfolding take_values take_value
  value_at zero d h = absurd (omega arith)
  value_at (suc n) d h = by_last (dec_lt d n) (value_at n d)
    where
      by_last : Dec (d < n) → (d < n → value_in (take_values set n) d ≡ take_value set d) → value_in (take_values set (suc n)) d ≡ take_value set d
      by_last (yes k) earlier = get_or-append (take_values set n) _ 0 d (omega (arith, values_length n)) ∙ earlier k
      by_last (no k) earlier =
          let e : n ≡ d = omega arith in
          ap (λ m. value_in (take_values set (suc m)) d) e

  take_value_is : (c : ℕ) → take_value set c ≡ missing set (take_value set) c
  unfolding take_values take_value
  take_value_is c =
      let vs = take_values set c in
      ap (value_in (take_values set (suc c))) (sym (values_length c)) ∙ get_or-append_seam vs (missing set (value_in vs) c) [] 0
      ∙ missing_same (value_in vs) (take_value set) c (value_at c)

  -- the cells below c have no value above their number, so no amount leads from c to the value c
  pub top_unled : (f : ℕ → ℕ) (c : ℕ) → ((d : ℕ) → d < c → f d ≤ d) → leads set f c c ≡ false
  top_unled f c low = not-true _ ((Decides-not _ (leads_decides f c c)).1 none)
    where
      none : Lead set f c c → ⊥
      none l =
          let k = lower c l.s l.within l.is in
          omega (arith, low (c - l.s) k, l.to)

  smallest : (c : ℕ) → ((d : ℕ) → d < c → take_value set d ≤ d) → First (suc c) (λ v. not (leads set (take_value set) c v)) (take_value set c)
  smallest c low =
      subst (First (suc c) _) (sym (take_value_is c)) (first_exists (suc c) _ c (omega arith) (not_from_false _ (top_unled (take_value set) c low)))

  low_below : (n d : ℕ) → d < n → take_value set d ≤ d
  low_below zero d h = absurd (omega arith)
  low_below (suc n) d h = omega (arith, (smallest d (λ k l. low_below n k (omega arith))).below)

  pub value_low : (c : ℕ) → take_value set c ≤ c
  value_low c = low_below (suc c) c (omega arith)

  least : (c : ℕ) → First (suc c) (λ v. not (leads set (take_value set) c v)) (take_value set c)
  least c = smallest c (λ d h. value_low d)

  pub value_unled : (c : ℕ) → Lead set (take_value set) c (take_value set c) → ⊥
  value_unled c = not_from_Decides _ (leads_decides _ c _) (not-true _ (least c).passes)

  pub value_led : (c w : ℕ) → w < take_value set c → Lead set (take_value set) c w
  value_led c w h = (leads_decides _ c w).0 (not-false _ ((least c).earliest w h))

  -- what a search for the smallest amount tells
  pub leads_is : (f : ℕ → ℕ) (c v : ℕ) (r : Option ℕ) → SmallestLeading set f c v r → leads set f c v ≡ is_some r
  leads_is f c v (Some s) h = (any_decides (suc c) (leading set f c v)).1 (s, omega (arith, h.0), h.1)
  leads_is f c v None h =
      not-true _ ((Decides-not _ (any_decides (suc c) (leading set f c v))).1 (λ k. both_ways _ (h k.0 (omega (arith, k.1))) k.2))

  -- 0 is no amount, so a search for the smallest one may begin at 1
  pub first_leading : (f : ℕ → ℕ) (c v : ℕ) (r : Option ℕ)
      → MatchOption r ((s : ℕ) → 1 ≤ s → s < c + 1 → leading set f c v s ≡ false)
      (λ s. (1 ≤ s) × (s < c + 1) × (leading set f c v s ≡ true) × ((t : ℕ) → 1 ≤ t → t < s → leading set f c v t ≡ false))
      → SmallestLeading set f c v r
  first_leading f c v (Some s) m = (omega (arith, m.1), m.2, passed)
    where
      passed : (t : ℕ) → t < s → leading set f c v t ≡ false
      passed zero l = refl
      passed (suc t) l = m.3 (suc t) (omega arith) l
  first_leading f c v None none = passed
    where
      passed : (t : ℕ) → t ≤ c → leading set f c v t ≡ false
      passed zero l = refl
      passed (suc t) l = none (suc t) (omega arith) (omega arith)

  -- the smallest number to which no amount leads, by the values of the cells below
  pub value_is : (f : ℕ → ℕ) (c v : ℕ) → ((d : ℕ) → d < c → f d ≡ take_value set d)
      → v ≤ c → leads set f c v ≡ false → ((u : ℕ) → u < v → leads set f c u ≡ true) → v ≡ take_value set c
  value_is f c v known h e led =
      sym (first_is (suc c) _ v (omega arith) (not_from_false _ e) (λ u l. not_from_true _ (led u l)))
      ∙ missing_same f (take_value set) c known ∙ sym (take_value_is c)

  -- no value below c is missing: then c is
  pub first_unled : (f : ℕ → ℕ) (c : ℕ) → ((d : ℕ) → d < c → f d ≡ take_value set d) → (r : Option ℕ)
      → MatchOption r ((v : ℕ) → 0 ≤ v → v < c → leads set f c v ≡ true)
      (λ v. (0 ≤ v) × (v < c) × (leads set f c v ≡ false) × ((u : ℕ) → 0 ≤ u → u < v → leads set f c u ≡ true))
      → unwrap_or r c ≡ take_value set c
  first_unled f c known (Some v) m = value_is f c v known (omega (arith, m.1)) m.2 (λ u l. m.3 u (omega arith) l)
  first_unled f c known None led =
      value_is f c c known (omega arith) (top_unled f c (λ d l. omega (arith, known d l, value_low d))) (λ u l. led u (omega arith) l)
