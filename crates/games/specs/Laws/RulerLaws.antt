-- Ruler keeps the laws: the values of the cells below n add up to the Gray code of n. Assumes nothing.
use Rattle.std.specs.Prelude.{◌≡◌, ℕ, zero, suc, ◌+◌, ◌-◌, ◌*◌, ◌/◌, ◌%◌, ◌^◌, ◌<◌, ◌≤◌, Bool, true, not, ◌&&◌, ◌≢◌, Some, None, Option, unwrap_or, MatchOption, ◌==◌, nat_eq, nat_le, refl}
use Rattle.std.proofs.Common.{sym, ap, ◌∙◌, subst, arith}
use Rattle.std.proofs.Math.Decide.{dec_lt}
use borrow.Author.Numbers.{trailing_lt}
use Rattle.std.specs.Int.Bits.{xor_zero_r, xor_assoc, xor_self}
use Rattle.std.specs.Int.Count.{count_trailing_zeros}
use Rattle.std.proofs.lemmas.Nat.{pow_below, xor_comm}
use Rattle.std.proofs.lemmas.Bool.{eqb-true, eqb-false, leb-true, lt-ltb, and_parts, not-true, cond-true}
use Rattle.std.proofs.lemmas.Bool.Decides.{nat_tests, Decides-below_and}
use Rattle.nimber_field.specs.Nimber.{◌⊕◌}
use Rattle.games.specs.Rules.{nim_sum, Lawful, LowestReplies}
use Rattle.games.specs.Rows.{rest_by, LowestMove, RowLaws}
use Rattle.games.specs.Ruler.{run, mark, gray, ruler_rule, ruler, LargestPower, PowerValues}
use Rattle.games.specs.Laws.Sums.{sum_from}
use Rattle.games.specs.Laws.RowLaws.{row_lawful, row_lowest}

cancel : (a b : ℕ) → (a ⊕ b) ⊕ b ≡ a
cancel a b = xor_assoc a b b ∙ ap (λ s. a ⊕ s) (xor_self b) ∙ xor_zero_r a

abbrev rest_at : ℕ → ℕ → ℕ
rest_at c i = rest_by ruler_rule c i

rest_sums : (c i : ℕ) → i ≤ c → rest_at c i ≡ nim_sum (c - i) mark ⊕ nim_sum c mark
rest_sums c i l = sum_from mark (c - i) c (run c i) (omega arith) (λ d k. grind (arith, nat_tests)) (λ d a b. grind (arith, nat_tests))

-- whether a test passes at every number below n
every : ℕ → (ℕ → Bool) → Bool
every zero p = true
every (suc n) p = p n && every n p

every_at : (n : ℕ) (p : ℕ → Bool) → every n p ≡ true → (k : ℕ) → k < n → p k ≡ true
unfolding every
every_at n p = (Decides-below_and p (λ k. p k ≡ true) (λ m. every m p) (λ k. (λ e. e, λ e. e)) refl (λ _. refl) n).0

every_equal : (n : ℕ) (f g : ℕ → ℕ) → every n (λ k. nat_eq (f k) (g k)) ≡ true → (k : ℕ) → k < n → f k ≡ g k
every_equal n f g e k h = eqb-true (f k) (g k) (every_at n (λ k. nat_eq (f k) (g k)) e k h)

-- the number of at most 7 bits that has the Gray code g
place : ℕ → ℕ
unfolding nim_sum
place g = nim_sum 7 (λ k. g / 2 ^ k)

gray_step : (c : ℕ) → c < 64 → gray c ⊕ mark c ≡ gray (suc c)
gray_step = every_equal 64 (λ c. gray c ⊕ mark c) (λ c. gray (suc c)) (unfold every count_trailing_zeros in refl)

place_gray : (n : ℕ) → n < 65 → place (gray n) ≡ n
place_gray = every_equal 65 (λ n. place (gray n)) (λ n. n) (unfold every place in refl)

-- whether w and the code of c add up to the code of a number that is not above c
reaches : ℕ → ℕ → Bool
reaches c w = nat_le (place (w ⊕ gray c)) c && gray (place (w ⊕ gray c)) == (w ⊕ gray c)

reaches_all : (c : ℕ) → c < 64 → every (mark c) (reaches c) ≡ true
reaches_all = every_at 64 (λ c. every (mark c) (reaches c)) (unfold every reaches place count_trailing_zeros in refl)

-- whether the value of c divides c + 1, and twice the value does not
exact : ℕ → Bool
exact c = (c + 1) % mark c == 0 && not ((c + 1) % (2 * mark c) == 0)

exact_all : (c : ℕ) → c < 64 → exact c ≡ true
exact_all = every_at 64 exact (unfold every exact count_trailing_zeros in refl)

total : (n : ℕ) → n ≤ 64 → nim_sum n mark ≡ gray n
unfolding nim_sum
total zero h = refl
total (suc n) h = ap (λ s. s ⊕ mark n) (total n (omega arith)) ∙ gray_step n h

pub rest_is : (c i : ℕ) → c < 64 → i ≤ c → rest_at c i ≡ gray (c - i) ⊕ gray c
rest_is c i h l = rest_sums c i l ∙ (λ j. total (c - i) (omega arith) j ⊕ total c (omega arith) j)

misses : (c i : ℕ) → c < 64 → i ≤ c → rest_at c i ≢ mark c
misses c i h l e =
    let m = c - i in
    let same : gray m ≡ gray (suc c)
    = sym (cancel (gray m) (gray c)) ∙ ap (λ s. s ⊕ gray c) (sym (rest_is c i h l) ∙ e) ∙ xor_comm (mark c) (gray c) ∙ gray_step c h in
    omega (arith, sym (place_gray m (omega arith)) ∙ ap place same ∙ place_gray (suc c) (omega arith))

found : (c w : ℕ) → c < 64 → w < mark c → (i : ℕ) × (i < c + 1) × (rest_at c i ≡ w)
unfolding reaches
found c w h l =
    let m = place (w ⊕ gray c) in
    let p = and_parts (nat_le m c) (gray m == (w ⊕ gray c)) (every_at (mark c) (reaches c) (reaches_all c h) w l) in
    let below = leb-true m c p.0 in
    let back : c - (c - m) ≡ m = omega arith in (
      c - m,
      omega arith,
      rest_is c (c - m) h (omega arith) ∙ ap (λ s. s ⊕ gray c) (ap gray back ∙ eqb-true (gray m) (w ⊕ gray c) p.1) ∙ cancel w (gray c),
    )

pub ruler_keeps : (size : ℕ) → size ≤ 64 → RowLaws ruler_rule size
ruler_keeps size small = record {
  few = λ c l. omega arith;
  own = λ c i l h. grind (arith, nat_tests);
  not_above = λ c i d l h e. grind (arith, nat_tests);
  nimber = λ c l. pow_below (count_trailing_zeros 32 (c + 1)) 32 (trailing_lt 32 (c + 1) (omega arith) (omega arith));
  misses = λ c i l h. misses c i (omega arith) (omega arith);
  found = λ c w l h. found c w (omega arith) h;
}

pub ruler_low : (size : ℕ) → size ≤ 64 → ruler_rule.ceiling size ≤ 4194303
ruler_low size small = omega arith

pub ruler_lawful : (size : ℕ) → size ≤ 64 → Lawful (ruler size)
ruler_lawful size small = row_lawful ruler_rule size (ruler_keeps size small) (omega arith) (ruler_low size small)

pub ruler_lowest : (size : ℕ) → size ≤ 64 → LowestReplies (ruler size)
ruler_lowest size small = row_lowest ruler_rule size (ruler_keeps size small)

mark_largest : (c : ℕ) → c < 64 → LargestPower (c + 1) (mark c)
unfolding exact
mark_largest c h =
    let p = and_parts ((c + 1) % mark c == 0) (not ((c + 1) % (2 * mark c) == 0)) (exact_all c h) in
    record {
      exponent = count_trailing_zeros 32 (c + 1);
      power = refl;
      divides = eqb-true ((c + 1) % mark c) 0 p.0;
      largest = eqb-false ((c + 1) % (2 * mark c)) 0 (not-true ((c + 1) % (2 * mark c) == 0) p.1);
    }

pub ruler_powers : (size : ℕ) → size ≤ 64 → PowerValues (ruler size)
ruler_powers size small c h = subst (LargestPower (c + 1)) (sym (cond-true _ (mark c) 0 (lt-ltb c size h))) (mark_largest c (omega arith))

-- some move fits, so where none before the last does, the last one does
pub ruler_reply : (c w : ℕ) → c < 64 → w < mark c → (r : Option ℕ)
    → MatchOption r ((j : ℕ) → 0 ≤ j → j < c → rest_at c j ≢ w) (λ i. (0 ≤ i) × (i < c) × (rest_at c i ≡ w) × ((j : ℕ) → 0 ≤ j → j < i → rest_at c j ≢ w))
    → LowestMove ruler_rule c w (unwrap_or r c)
ruler_reply c w few h (Some i) m = record { numbered = omega (arith, m.1); fits = m.2; lowest = λ j l. m.3 j (omega arith) l }
ruler_reply c w few h None none =
    let f = found c w few h in
    record { numbered = omega arith; fits = at_end f.0 f.1 f.2 (dec_lt f.0 c); lowest = λ j l. none j (omega arith) l }
  where
    at_end : (i : ℕ) → i < c + 1 → rest_at c i ≡ w → Dec (i < c) → rest_at c c ≡ w
    at_end i b e (yes k) = absurd (none i (omega arith) k e)
    at_end i b e (no k) = let last : c ≡ i = omega arith in ap (rest_at c) last ∙ e
