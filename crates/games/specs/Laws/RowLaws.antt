-- A row game keeps the laws where its cells do. Assumes nothing.
use Rattle.std.specs.Prelude.{◌≡◌, ℕ, zero, suc, ◌^◌, ◌<◌, ◌≤◌, Bool, true, false, cond, ◌&&◌, ltb, is_some, Some, None, IfSome, Option, ◌==◌, nat_eq, nat_lt}
use Rattle.std.proofs.Math.Path.{refl, subst}
use Rattle.std.proofs.Common.{sym, ap, ◌∙◌, arith, lit<}
use Rattle.std.proofs.Math.Decide.{dec_lt}
use borrow.Author.Tests.{lt-ltb, le-ltb, ltb-true, ltb-false, eq-eqb, ne_eqb, eqb-true, eqb-false, both_ways}
use Rattle.std.proofs.lemmas.Bool.{and_parts}
use Rattle.std.proofs.lemmas.Bool.Decides.{nat_tests}
use Rattle.nimber_field.specs.Missing.{Missing}
use Rattle.games.specs.Rules.{Rules, rest, IsRest, Lawful, LowestReply, LowestReplies, FreeReply, Replies}
use Rattle.games.specs.Rows.{on, listed, first, RowRule, row_game_of, rest_by, LowestMove, RowLaws}
use Rattle.games.specs.Laws.Sums.{sum_same}

-- the first number that passes, where some number below n passes
pub record First (n : ℕ) (p : ℕ → Bool) (i : ℕ) : Type 0 where
  pub below : i < n
  pub passes : p i ≡ true
  pub earliest : (j : ℕ) → j < i → p j ≡ false

pub first_exists : (n : ℕ) (p : ℕ → Bool) (k : ℕ) → k < n → p k ≡ true → First n p (first n p)
unfolding first
first_exists zero p k l e = absurd (omega arith)
first_exists (suc n) p k l e = by_first (p 0) refl (λ m q. first_exists n (λ i. p (suc i)) m q)
  where
    later : ((m : ℕ) → m < n → p (suc m) ≡ true → First n (λ i. p (suc i)) (first n (λ i. p (suc i)))) → p 0 ≡ false
        → (k : ℕ) → k < suc n → p k ≡ true → First (suc n) p (suc (first n (λ i. p (suc i))))
    later ih z zero l e = absurd (both_ways (p 0) z e)
    later ih z (suc m) l e =
        let f = ih m (omega arith) e in
        record { below = omega (arith, f.below); passes = f.passes; earliest = earliest f }
      where
        earliest : First n (λ i. p (suc i)) (first n (λ i. p (suc i))) → (j : ℕ) → j < suc (first n (λ i. p (suc i))) → p j ≡ false
        earliest f zero h = z
        earliest f (suc j) h = f.earliest j (omega arith)

    by_first : (b : Bool) → p 0 ≡ b → ((m : ℕ) → m < n → p (suc m) ≡ true → First n (λ i. p (suc i)) (first n (λ i. p (suc i))))
        → First (suc n) p (cond b 0 (suc (first n (λ i. p (suc i)))))
    by_first true z ih = record { below = omega arith; passes = z; earliest = λ j h. absurd (omega arith) }
    by_first false z ih = later ih z k l e

-- the number that passes and before which none does
pub first_is : (n : ℕ) (p : ℕ → Bool) (i : ℕ) → i < n → p i ≡ true → ((j : ℕ) → j < i → p j ≡ false) → first n p ≡ i
first_is n p i l e h = by_order (first_exists n p i l e) (dec_lt (first n p) i) (dec_lt i (first n p))
  where
    by_order : First n p (first n p) → Dec (first n p < i) → Dec (i < first n p) → first n p ≡ i
    by_order f (yes k) m = absurd (both_ways (p (first n p)) (h (first n p) k) f.passes)
    by_order f (no k) (yes m) = absurd (both_ways (p i) (f.earliest i m) e)
    by_order f (no k) (no m) = omega arith

module _ (R : RowRule) (size : ℕ) (L : RowLaws R size) where
  abbrev G : Rules
  G = row_game_of R size

  on_row : (c n : ℕ) → c < size → on size c n ≡ n
  on_row c n h = ap (λ b. cond b n 0) (lt-ltb c size h)

  off_row : (c n : ℕ) → size ≤ c → on size c n ≡ 0
  off_row c n h = ap (λ b. cond b n 0) (le-ltb c size h)

  -- a cell that has moves is on the row, and its number of moves is the one given
  counted : (c i : ℕ) → i < on size c (R.count c) → (c < size) × (i < R.count c)
  counted c i h = (grind (arith, nat_tests), grind (arith, nat_tests))

  valued : (c w : ℕ) → w < on size c (R.value c) → (c < size) × (w < R.value c)
  valued c w h = (grind (arith, nat_tests), grind (arith, nat_tests))

  -- the cells of a move lie on the row
  rest_is : (c i : ℕ) → c < size → i < R.count c → rest G c i ≡ rest_by R c i
  rest_is c i l h =
      sum_same c (λ d. cond (nat_lt i (on size c (R.count c)) && R.turns c i d) (on size d (R.value d)) 0) (λ d. cond (R.turns c i d) (R.value d) 0)
      (λ d k.
      let p : ltb i (on size c (R.count c)) ≡ true = ap (ltb i) (on_row c (R.count c) l) ∙ lt-ltb i (R.count c) h in
      let q : on size d (R.value d) ≡ R.value d = on_row d (R.value d) (omega arith) in
      λ j. cond (p j && R.turns c i d) (q j) 0)

  held : (c i d : ℕ) → nat_lt i (on size c (R.count c)) && R.turns c i d ≡ true → (i < on size c (R.count c)) × (R.turns c i d ≡ true)
  held c i d e = let p = and_parts _ _ e in (ltb-true i (on size c (R.count c)) p.0, p.1)

  row_smallest : (c : ℕ) → Missing (IsRest G c) (on size c (R.value c))
  row_smallest c = record { misses = missed; smallest = found }
    where
      missed : IsRest G c (on size c (R.value c)) → ⊥
      missed r =
          let k = counted c r.move r.numbered in
          L.misses c r.move k.0 k.1 (sym (rest_is c r.move k.0 k.1) ∙ r.is ∙ on_row c (R.value c) k.0)

      found : (w : ℕ) → w < on size c (R.value c) → IsRest G c w
      found w h =
          let k = valued c w h in
          let f = L.found c w k.0 k.1 in
          record {
            move = f.0;
            numbered = subst (λ n. f.0 < n) (sym (on_row c (R.count c) k.0)) f.1;
            is = rest_is c f.0 k.0 f.1 ∙ f.2;
          }

  pub row_lawful : size ≤ 4096 → R.ceiling size ≤ 4194303 → Lawful G
  row_lawful small low = record {
    cells_bound = small;
    ceiling_bound = low;
    count_bound = λ c. few c (dec_lt c size);
    count_off = λ c h. off_row c (R.count c) h;
    worth_off = λ c h. off_row c (R.value c) h;
    numbered = λ c i d e. (held c i d e).0;
    own = λ c i h.
        let k = counted c i h in
        (λ j. lt-ltb i (on size c (R.count c)) h j && L.own c i k.0 k.1 j);
    not_above = λ c i d e.
        let h = held c i d e in
        let k = counted c i h.0 in
        L.not_above c i d k.0 k.1 h.1;
    nimber = λ c. nimber c (dec_lt c size);
    smallest = row_smallest;
  }
    where
      few : (c : ℕ) → Dec (c < size) → on size c (R.count c) ≤ R.ceiling size
      few c (yes l) = subst (λ n. n ≤ R.ceiling size) (sym (on_row c (R.count c) l)) (L.few c l)
      few c (no l) = subst (λ n. n ≤ R.ceiling size) (sym (off_row c (R.count c) (omega arith))) (omega arith)

      nimber : (c : ℕ) → Dec (c < size) → on size c (R.value c) < 2 ^ 32
      nimber c (yes l) = subst (λ n. n < 2 ^ 32) (sym (on_row c (R.value c) l)) (L.nimber c l)
      nimber c (no l) = subst (λ n. n < 2 ^ 32) (sym (off_row c (R.value c) (omega arith))) (lit< tt)

  fitting : ℕ → ℕ → ℕ → Bool
  fitting c w i = rest_by R c i == w

  pub row_lowest : LowestReplies G
  unfolding fitting
  row_lowest c w = by_value (nat_lt w (on size c (R.value c))) refl
    where
      by_value : (b : Bool) → nat_lt w (on size c (R.value c)) ≡ b → LowestReply G c w (listed b (first (R.count c) (fitting c w)))
      by_value true e =
          let h = ltb-true w (on size c (R.value c)) e in
          let k = valued c w h in
          let f = L.found c w k.0 k.1 in
          let i = first_exists (R.count c) (fitting c w) f.0 f.1 (eq-eqb _ w f.2) in
          let n = first (R.count c) (fitting c w) in (
            h,
            subst (λ m. n < m) (sym (on_row c (R.count c) k.0)) i.below,
            rest_is c n k.0 i.below ∙ eqb-true _ w i.passes,
            λ j l q. eqb-false _ w (i.earliest j l) (sym (rest_is c j k.0 (omega (arith, i.below))) ∙ q),
          )
      by_value false e = ltb-false w (on size c (R.value c)) e

-- the lowest move that fits is the reply
pub answer_is : (R : RowRule) (size c w i : ℕ) → w < on size c (R.value c) → LowestMove R c w i → Some i ≡ (row_game_of R size).answer c w
answer_is R size c w i h m =
    let q : first (R.count c) (λ j. nat_eq (rest_by R c j) w) ≡ i
    = first_is (R.count c) _ i m.numbered (eq-eqb _ w m.fits) (λ j l. ne_eqb _ w (m.lowest j l)) in
    sym (λ j. listed (lt-ltb w (on size c (R.value c)) h j) (q j))

-- a reply that is there where w is below the value, and is the lowest move that fits
pub reply_is : (R : RowRule) (size c w v : ℕ) (r : Option ℕ) → v ≡ on size c (R.value c) → is_some r ≡ nat_lt w v → IfSome r (LowestMove R c w)
    → r ≡ (row_game_of R size).answer c w
reply_is R size c w v (Some i) e b m = answer_is R size c w i (ltb-true w (on size c (R.value c)) (sym (b ∙ ap (nat_lt w) e))) m
reply_is R size c w v None e b m = λ j. listed ((b ∙ ap (nat_lt w) e) j) (first (R.count c) (λ i. nat_eq (rest_by R c i) w))

-- a lowest reply is a reply
pub lowest_replies : (G : Rules) → LowestReplies G → Replies G
lowest_replies G h c w = free (G.answer c w) (h c w)
  where
    free : (r : Option ℕ) → LowestReply G c w r → FreeReply G c w r
    free (Some i) l = (l.0, l.1, l.2)
    free None l = l
