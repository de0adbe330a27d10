-- What a search and a test of cells give, word by word. Assumes nothing.
use Rattle.std.proofs.Common.{◌≡◌, ℕ, zero, suc, ◌+◌, ◌-◌, ◌*◌, ◌/◌, ◌%◌, ◌<◌, ◌≤◌, Bool, true, false, ◌&&◌, ◌||◌, length, Some, None, Option, sym, refl, ap, ◌∙◌, subst, arith, le-ltb}
use native.Mathlib.Decide.{dec_lt}
use borrow.Author.Tests.{both_ways}
use Rattle.std.specs.Bool.{MatchBool}
use Rattle.std.specs.Option.{MatchOption}
use Rattle.std.specs.List.{AllWithin, HoldsAt, range_with_len}
use Rattle.std.proofs.lemmas.List.FromFn.{get_or-range_with_len, length-range_with_len}
use Rattle.nimber_field.specs.Nimber.{◌⊕◌}
use Rattle.games.specs.Rules.{Rules, Lawful}
use Rattle.games.specs.Laws.RowLaws.{first_is}
use Rattle.games.specs.TakeValues.{any}
use Rattle.games.proofs.Tests.{any_at, any_off, any_words, none_passes}
use Rattle.play.specs.Play.{Coins}
use Rattle.tables.specs.Calls.{falls, LowestOf}

-- a test of the n numbers from a on tells whether any passes
pub any_passed : (a n : ℕ) (p q : ℕ → Bool) (r : Bool) → ((j : ℕ) → p (a + j) ≡ q j)
    → MatchBool r ((k : ℕ) × (k < length (range_with_len a n)) × HoldsAt (λ x. p x ≡ true) (range_with_len a n) k)
    (AllWithin (λ x. p x ≡ false) (range_with_len a n) 0 (length (range_with_len a n)))
    → r ≡ any n q
any_passed a n p q true e h =
    let l : h.0 < n = omega (arith, h.1, length-range_with_len a n) in
    sym (any_at n q h.0 l (sym (e h.0) ∙ ap p (sym (get_or-range_with_len a n h.0 0 l)) ∙ h.2 0))
any_passed a n p q false e h =
    sym (none_passes n q (λ k l.
    sym (e k) ∙ ap p (sym (get_or-range_with_len a n k 0 l)) ∙ h k 0 (omega arith) (omega (arith, l, length-range_with_len a n))))

-- of two, the second fails
pub not_both : (b c : Bool) → c ≡ false → (b && c) ≡ false
not_both true c e = e
not_both false c e = refl

both_false : (b c : Bool) → (b || c) ≡ false → (b ≡ false) × (c ≡ false)
both_false false c e = (refl, e)
both_false true c e = absurd (both_ways true e refl)

-- where no number passes one test, none passes that and another
pub none_both : (n : ℕ) (p q : ℕ → Bool) → any n p ≡ false → any n (λ j. p j && q j) ≡ false
unfolding any
none_both zero p q e = refl
none_both (suc n) p q e =
    let b = both_false (p n) (any n p) e in
    λ i. (b.0 i && q n) || none_both n p q b.1 i

-- a cell that none passes
none_at : (n : ℕ) (p : ℕ → Bool) → any n p ≡ false → (k : ℕ) → k < n → p k ≡ false
none_at n p e k l = at (p k) refl
  where
    at : (b : Bool) → p k ≡ b → b ≡ false
    at false q = refl
    at true q = absurd (both_ways (any n p) e (any_at n p k l q))

-- no value falls past the last cell: there it is 0
pub off_board : (G : Rules) → Lawful G → (u : Coins) (v d : ℕ) → G.cells ≤ d → falls G u v d ≡ false
off_board G P u v d l = not_both (u d) _ (le-ltb (G.worth d ⊕ v) (G.worth d) (omega (arith, P.worth_off d l)))

-- a test or a search of the n cells by m words, which have them all
module _ (n m : ℕ) (all : n ≤ 32 * m) (p : ℕ → Bool) (off : (d : ℕ) → n ≤ d → p d ≡ false) where
  -- whether a cell of word k passes
  abbrev word : ℕ → Bool
  word k = any 32 (λ j. p (32 * k + j))

  -- a test of all words is a test of the n cells
  pub words_tested : any m word ≡ any n p
  words_tested =
      let rest : 32 * m ≡ n + (32 * m - n) = omega (arith, all) in
      any_words m p ∙ ap (λ k. any k p) rest ∙ any_off n (32 * m - n) p off

  none_in : (d : ℕ) → word (d / 32) ≡ false → p d ≡ false
  none_in d e =
      let place : d ≡ 32 * (d / 32) + d % 32 = omega arith in
      ap p place ∙ none_at 32 (λ j. p (32 * (d / 32) + j)) e (d % 32) (omega arith)

  -- what a search of the words gives
  abbrev pub FirstWord : Option ℕ → Type 0
  FirstWord r =
      MatchOption r ((k : ℕ) → 0 ≤ k → k < m → word k ≡ false)
      (λ i. (0 ≤ i) × (i < m) × (word i ≡ true) × ((k : ℕ) → 0 ≤ k → k < i → word k ≡ false))

  pub word_below : (r : Option ℕ) (k : ℕ) → r ≡ Some k → FirstWord r → k < m
  word_below r k e h = (subst FirstWord e h).1

  -- no word, no cell
  pub none_found : (r : Option ℕ) → r ≡ None → FirstWord r → LowestOf n p None
  none_found r e h =
      let f : FirstWord None = subst FirstWord e h in
      λ d l. none_in d (f (d / 32) (omega arith) (omega (arith, l, all)))

  -- the first cell of the first word is the first
  pub first_found : (r : Option ℕ) (k : ℕ) → r ≡ Some k → FirstWord r → (c : Option ℕ)
      → MatchOption c ((d : ℕ) → 32 * k ≤ d → d < 32 * k + 32 → p d ≡ false)
      (λ c. (32 * k ≤ c) × (c < 32 * k + 32) × (p c ≡ true) × ((d : ℕ) → 32 * k ≤ d → d < c → p d ≡ false))
      → LowestOf n p c
  first_found r k e h = by_cell (subst FirstWord e h)
    where
      by_cell : FirstWord (Some k) → (c : Option ℕ)
          → MatchOption c ((d : ℕ) → 32 * k ≤ d → d < 32 * k + 32 → p d ≡ false)
          (λ c. (32 * k ≤ c) × (c < 32 * k + 32) × (p c ≡ true) × ((d : ℕ) → 32 * k ≤ d → d < c → p d ≡ false))
          → LowestOf n p c
      by_cell f None h = absurd (both_ways (word k) (none_passes 32 _ (λ j l. h (32 * k + j) (omega arith) (omega arith))) f.2)
      by_cell f (Some c) h = sym (first_is n p c (on_board (dec_lt c n)) h.2 (λ d l. earlier d l (dec_lt d (32 * k))))
        where
          on_board : Dec (c < n) → c < n
          on_board (yes l) = l
          on_board (no l) = absurd (both_ways (p c) (off c (omega arith)) h.2)

          earlier : (d : ℕ) → d < c → Dec (d < 32 * k) → p d ≡ false
          earlier d l (yes m) = none_in d (f.3 (d / 32) (omega arith) (omega arith))
          earlier d l (no m) = h.3 d (omega arith) l
