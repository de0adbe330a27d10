-- Take keeps the laws: the rests at c are the values of the cells to which an amount leads. Assumes nothing.
use Rattle.std.specs.Prelude.{◌≡◌, ℕ, ◌-◌, ◌^◌, ◌<◌, ◌≤◌, true, cond, ◌&&◌, ◌≢◌, ◌⊎◌, Some, None, IsSome, Decides, Option, ◌==◌, refl}
use Rattle.std.proofs.Common.{sym, ap, ◌∙◌, subst, inl, inr, arith, eqb-true, eq-eqb, lt-ltb}
use Rattle.std.proofs.Math.Decide.{dec_lt}
use Rattle.std.proofs.lemmas.Nat.{ones-le}
use Rattle.std.proofs.lemmas.Bool.{and_parts, and_from, or_cases, or_left, or_right, cases_order, not-true, both_ways}
use Rattle.std.proofs.lemmas.Bool.Decides.{nat_tests, Decides-at, Decides-not}
use Rattle.games.specs.Rules.{sum_held, Lawful, LowestReplies}
use Rattle.games.specs.Rows.{on, rest_by, LowestMove, RowLaws}
use Rattle.games.specs.TakeValues.{amount, amounts_up_to, smaller, SmallestLeading, take_value}
use Rattle.games.specs.Take.{taken, take_rule, take_game, how_many, ByAmounts}
use Rattle.games.specs.Laws.Sums.{sum_one}
use Rattle.games.specs.Laws.RowLaws.{row_lawful, row_lowest}
use Rattle.games.specs.Laws.AmountLaws.{Nth, nth, amounts_mono, amount_pos, amount_counts, amounts_all, how_many_is}
use Rattle.games.specs.Laws.TakeValueLaws.{lower, value_low, value_unled, value_led}

module _ (set : ℕ) where
  -- amount s is one of the moves at c
  numbered : (c s : ℕ) → s ≤ c → amount set s ≡ true → smaller set s < amounts_up_to set c
  numbered c s h e = omega (arith, amount_counts set s e, amounts_mono set s c h)

  same_amount : (s t : ℕ) → amount set s ≡ true → amount set t ≡ true → smaller set s ≡ smaller set t → s ≡ t
  same_amount s t p q e = by_order (cases_order s t)
    where
      by_order : (s ≡ t) ⊎ ((s < t) ⊎ (t < s)) → s ≡ t
      by_order (inl k) = k
      by_order (inr (inl k)) = absurd (omega (arith, numbered (t - 1) s (omega arith) p))
      by_order (inr (inr k)) = absurd (omega (arith, numbered (s - 1) t (omega arith) q))

  -- the move of amount s turns c and the cell that lies s below it
  taken_decides : (c s : ℕ) → s ≤ c → amount set s ≡ true → (d : ℕ) → Decides (taken set c (smaller set s) d) ((d ≡ c) ⊎ (d ≡ c - s))
  taken_decides c s h e d = (λ t. turned (or_cases _ _ t), held)
    where
      turned : ((d == c) ≡ true) ⊎ (amount set (c - d) && ((smaller set (c - d)) == (smaller set s)) ≡ true) → (d ≡ c) ⊎ (d ≡ c - s)
      turned (inl t) = inl (eqb-true d c t)
      turned (inr t) =
          let p = and_parts (amount set (c - d)) _ t in
          inr (omega (arith, amount_pos set (c - d) p.0, same_amount (c - d) s p.0 e (eqb-true _ _ p.1)))

      held : (d ≡ c) ⊎ (d ≡ c - s) → taken set c (smaller set s) d ≡ true
      held (inl t) = or_left _ _ (eq-eqb d c t)
      held (inr t) =
          let q : s ≡ c - d = omega arith in
          or_right _ _ (subst (λ m. amount set m && ((smaller set m) == (smaller set s)) ≡ true) q (and_from _ _ e (eq-eqb _ _ refl)))

  -- its rest
  rest_is : (c s : ℕ) → s ≤ c → amount set s ≡ true → sum_held c (taken set c (smaller set s)) (take_value set) ≡ take_value set (c - s)
  rest_is c s h e =
      let i = smaller set s in
      sum_one (take_value set) c (c - s) (taken set c i) (lower set c s h e) ((taken_decides c s h e (c - s)).1 (inr refl))
      (λ d l n. not-true _ ((Decides-not _ (taken_decides c s h e d)).1 (λ t. omega arith)))

  rest_nth : (c i : ℕ) (n : Nth set c i) → sum_held c (taken set c i) (take_value set) ≡ take_value set (c - n.s)
  rest_nth c i n = ap (λ j. sum_held c (taken set c j) (take_value set)) (sym n.number) ∙ rest_is c n.s n.within n.is

  pub take_keeps : (size : ℕ) → size ≤ 64 → RowLaws (take_rule set) size
  take_keeps size small = record {
    few = λ c l. let k = amounts_all set c in grind (arith, nat_tests);
    own = λ c i l h. or_left _ _ (eq-eqb c c refl);
    not_above = λ c i d l h e. grind (arith, nat_tests);
    nimber = λ c l. omega (arith, value_low set c);
    misses = λ c i l h e.
        let n = nth set c i h in
        value_unled set c (record { s = n.s; within = n.within; is = n.is; to = sym (rest_nth c i n) ∙ e });
    found = λ c w l h.
        let k = value_led set c w h in
        (smaller set k.s, numbered c k.s k.within k.is, rest_is c k.s k.within k.is ∙ k.to);
  }

  pub take_low : set < 2 ^ 32 → (size : ℕ) → size ≤ 64 → (take_rule set).ceiling size ≤ 4194303
  take_low fits size small = let few = ones-le 32 set fits in grind (arith, nat_tests)

  pub take_lawful : (size : ℕ) → size ≤ 64 → set < 2 ^ 32 → Lawful (take_game size set)
  take_lawful size small fits = row_lawful (take_rule set) size (take_keeps size small) (omega arith) (take_low fits size small)

  pub take_lowest : (size : ℕ) → size ≤ 64 → LowestReplies (take_game size set)
  take_lowest size small = row_lowest (take_rule set) size (take_keeps size small)

  pub take_amounts : (size : ℕ) → ByAmounts size set (take_game size set)
  take_amounts size = record {
    counted = λ c l. on_row c l ∙ how_many_is set c;
    numbered = listed;
    turned = λ c s d l h e.
        Decides-at _ _ (λ j. lt-ltb _ _ (listed c s l h e) j && taken set c (sym (how_many_is set (s - 1)) j) d) (taken_decides c s h e d);
  }
    where
      on_row : (c : ℕ) → c < size → on size c (amounts_up_to set c) ≡ amounts_up_to set c
      on_row c l = ap (λ b. cond b (amounts_up_to set c) 0) (lt-ltb c size l)

      listed : (c s : ℕ) → c < size → s ≤ c → amount set s ≡ true → how_many set (s - 1) < on size c (amounts_up_to set c)
      listed c s l h e = omega (arith, on_row c l, how_many_is set (s - 1), numbered c s h e)

  module _ (c w : ℕ) (f : ℕ → ℕ) (few : c < 64) (h : w < take_value set c) (known : (d : ℕ) → d < 64 → f d ≡ take_value set d) where
    -- some amount leads to a cell of that value
    pub some_leads : (r : Option ℕ) → SmallestLeading set f c w r → IsSome r
    some_leads (Some s) led = refl
    some_leads None none =
        let k = value_led set c w h in
        absurd (both_ways _ (none k.s k.within) (and_from _ _ k.is (eq-eqb _ w (known (c - k.s) (omega arith) ∙ k.to))))

    -- the reply is the move of the smallest such amount
    pub take_reply : (s : ℕ) → SmallestLeading set f c w (Some s) → LowestMove (take_rule set) c w (smaller set s)
    take_reply s led =
        let p = and_parts _ _ led.1 in
        let n = numbered c s led.0 p.0 in
        record {
          numbered = n;
          fits = rest_is c s led.0 p.0 ∙ sym (known (c - s) (omega arith)) ∙ eqb-true _ w p.1;
          lowest = λ j m e. passed j (nth set c j (omega arith)) m e;
        }
      where
        passed : (j : ℕ) → Nth set c j → j < smaller set s → rest_by (take_rule set) c j ≢ w
        passed j n m e = by_order (dec_lt n.s s)
          where
            by_order : Dec (n.s < s) → ⊥
            by_order (yes k) =
                both_ways _ (led.2 n.s k)
                (and_from _ _ n.is (eq-eqb _ w (known (c - n.s) (omega arith) ∙ sym (rest_nth c j n) ∙ e)))
            by_order (no k) = omega (arith, amounts_mono set (s - 1) (n.s - 1) (omega arith), n.number)
