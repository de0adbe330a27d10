-- Turtles keeps the laws: the rests at c are 0, the values below that of c, and the sums of two of these. Assumes nothing.
use Rattle.std.specs.Prelude.{◌≡◌, ℕ, zero, suc, ◌+◌, ◌-◌, ◌*◌, ◌/◌, ◌%◌, ◌<◌, ◌≤◌, true, ◌&&◌, ◌||◌, ◌≢◌, ◌==◌, count_ones, nat_lt, refl}
use Rattle.std.proofs.Common.{sym, ap, ap₂, ◌∙◌, arith}
use Rattle.std.proofs.Math.Decide.{ℕ_discrete, dec_lt}
use Rattle.std.proofs.lemmas.Nat.{xor_lt}
use Rattle.std.proofs.lemmas.Bool.Decides.{nat_tests}
use Rattle.nimber_field.specs.Nimber.{◌⊕◌}
use Rattle.games.specs.Rules.{sum_held, Lawful, LowestReplies}
use Rattle.games.specs.Rows.{on, LowestMove, RowLaws}
use Rattle.games.specs.Turtles.{pairs, larger, moves, turned, odious, turtles_rule, turtles, TopPower, TurnsThree}
use Rattle.games.specs.Laws.Sums.{sum_none, sum_one, sum_two}
use Rattle.games.specs.Laws.Pairs.{pairs_more, pairs_up, pairs_order, larger_is, pair_of}
use Rattle.games.specs.Laws.Odious.{ones_zero, ones_sum, odious_half, odious_odd, odd_odious, odious_order, even_half}
use Rattle.games.specs.Laws.Odious.{top_is, twice_top, top_sum, ones_top, odious_top}
use Rattle.games.specs.Laws.RowLaws.{row_lawful, row_lowest}

-- a move by its kind
data Kind (c i : ℕ) : Type 0 where
  one : i ≡ 0 → Kind c i
  two : (a : ℕ) → a < c → i ≡ a + 1 → Kind c i
  three : (a b : ℕ) → a < b → b < c → i ≡ c + 1 + pairs b + a → Kind c i

kind : (c i : ℕ) → i < moves c → Kind c i
kind c zero h = one refl
kind c (suc i) h = by_cell (dec_lt i c)
  where
    by_cell : Dec (i < c) → Kind c (suc i)
    by_cell (yes l) = two i l (omega arith)
    by_cell (no l) =
        let p = pair_of c (i - c) (omega arith) in
        three p.0 p.1 p.2 p.3 (omega (arith, p.4))

turns_three : (a b c d : ℕ) → a < b → b < c → c < 64 → turned c (c + 1 + pairs b + a) d ≡ (d == a || (d == b || d == c))
turns_three a b c d h k few =
    let e : larger (c + 1 + pairs b + a - c - 1) ≡ b
    = larger_is (c + 1 + pairs b + a - c - 1) b (omega arith) (omega arith) (omega (arith, pairs_more b)) in
    grind (arith, nat_tests)

-- the rest of a move by its kind
abbrev rest_of : {c i : ℕ} → Kind c i → ℕ
rest_of (one e) = 0
rest_of (two a h e) = odious a
rest_of (three a b h k e) = odious a ⊕ odious b

rest_is : (c i : ℕ) (k : Kind c i) → c < 64 → sum_held c (turned c i) odious ≡ rest_of k
rest_is c i (one e) few =
    ap (λ j. sum_held c (turned c j) odious) e
    ∙ sum_none odious c (turned c 0) (λ d l. grind (arith, nat_tests))
rest_is c i (two a h e) few =
    ap (λ j. sum_held c (turned c j) odious) e
    ∙ sum_one odious c a (turned c (a + 1)) h (grind (arith, nat_tests)) (λ d l n. grind (arith, nat_tests))
rest_is c i (three a b h k e) few =
    ap (λ j. sum_held c (turned c j) odious) e
    ∙ sum_two odious c a b (turned c (c + 1 + pairs b + a)) h k
    (turns_three a b c a h k few ∙ grind (arith, nat_tests))
    (turns_three a b c b h k few ∙ grind (arith, nat_tests))
    (λ d l m n. turns_three a b c d h k few ∙ grind (arith, nat_tests))

-- no rest is the value
misses : {c i : ℕ} (k : Kind c i) → rest_of k ≢ odious c
misses {c} {i} (one e) q = omega (arith, ap count_ones q, odious_odd c, ones_zero)
misses {c} {i} (two a h e) q = omega (arith, odious_half a, ap (λ v. v / 2) q, odious_half c)
misses {c} {i} (three a b h k e) q = omega (arith, odious_odd a, odious_odd b, ones_sum (odious a) (odious b), ap count_ones q, odious_odd c)

not_above : (c i d : ℕ) → Kind c i → c < 64 → turned c i d ≡ true → d ≤ c
not_above c i d (one e) few q = grind (arith, nat_tests)
not_above c i d (two a h e) few q = grind (arith, nat_tests)
not_above c i d (three a b h k e) few q =
    let t : (d == a || (d == b || d == c)) ≡ true = sym (turns_three a b c d h k few) ∙ ap (λ j. turned c j d) (sym e) ∙ q in
    grind (arith, nat_tests)

numbered : (c i : ℕ) → Kind c i → i < moves c
numbered c i (one e) = omega arith
numbered c i (two a h e) = omega arith
numbered c i (three a b h k e) = omega (arith, pairs_more b, pairs_up (b + 1) c (omega arith))

best_of : (c w i : ℕ) (k : Kind c i) → c < 64 → rest_of k ≡ w → ((j : ℕ) → j < i → (k : Kind c j) → rest_of k ≢ w) → LowestMove turtles_rule c w i
best_of c w i k few is lower =
    let within = numbered c i k in
    record {
      numbered = within;
      fits = rest_is c i k few ∙ is;
      lowest = λ j h e. let m = kind c j (omega arith) in lower j h m (sym (rest_is c j m few) ∙ e);
    }

pub best_one : (c w : ℕ) → c < 64 → w ≡ 0 → LowestMove turtles_rule c w 0
best_one c w few e = best_of c w 0 (one refl) few (sym e) (λ j h. absurd (omega arith))

pub best_two : (c w : ℕ) → c < 64 → w < odious c → count_ones w % 2 ≡ 1 → LowestMove turtles_rule c w (w / 2 + 1)
best_two c w few h odd = best_of c w (w / 2 + 1) (two (w / 2) below refl) few (odd_odious w odd) lower
  where
    below : w / 2 < c
    below = odious_order (w / 2) c (omega (arith, odd_odious w odd))

    lower : (j : ℕ) → j < w / 2 + 1 → (k : Kind c j) → rest_of k ≢ w
    lower j l (one e) q = omega (arith, ap count_ones q, ones_zero)
    lower j l (two a k e) q = omega (arith, ap (λ v. v / 2) q, odious_half a)
    lower j l (three a b k m e) q = omega (arith, below)

-- w has an even number of ones, and b is the highest power of two up to w / 2: the values of b and of w / 2 − b add up to w
module _ (c w b : ℕ) (few : c < 64) (h : w < odious c) (even : count_ones w % 2 ≢ 1) (t : TopPower (w / 2) b) where
  odious_left : odious (w / 2 - b) ≡ w - 2 * b
  odious_left =
      let e : w / 2 - b ≡ (w - 2 * b) / 2 = omega arith in
      let s : (w - 2 * b) ⊕ (2 * b) ≡ w = top_sum (w / 2) b t (w - 2 * b) (omega arith) ∙ omega arith in
      ap odious e ∙ odd_odious (w - 2 * b) (omega (arith, ones_sum (w - 2 * b) (2 * b), ap count_ones s, ones_top (w / 2) b t))

  left_below : w / 2 - b < b
  left_below = omega arith

  top_below : b < c
  top_below = odious_order b c (omega (arith, odious_top (w / 2) b t))

  -- no move before that of the pair has the rest w
  lower : (j : ℕ) → j < c + 1 + pairs b + (w / 2 - b) → (k : Kind c j) → rest_of k ≢ w
  lower j l (one e) q = omega arith
  lower j l (two a k e) q = omega (arith, ap count_ones q, odious_odd a)
  lower j l (three a d k m e) q = by_larger (ℕ_discrete d b)
    where
      not_larger : d < b + 1
      not_larger = pairs_order d (b + 1) (omega (arith, pairs_more b, left_below))

      by_larger : Dec (d ≡ b) → ⊥
      by_larger (no n) =
          let p = twice_top (w / 2) b t in
          let smaller : d < b = omega (arith, not_larger) in
          omega (arith, xor_lt (suc t.place) (odious a) (odious d) (omega (arith, p, odious_half a)) (omega (arith, p, odious_half d)), p)
      by_larger (yes o) =
          let s = top_sum (w / 2) b t (odious a) (omega (arith, odious_half a)) in
          let r : odious a ⊕ odious d ≡ odious a ⊕ (2 * b) = ap (λ v. odious a ⊕ v) (ap odious o ∙ odious_top (w / 2) b t) in
          omega (arith, s, r, odious_half a, ap pairs o)

  pub best_three : LowestMove turtles_rule c w (c + 1 + pairs b + (w / 2 - b))
  best_three =
      best_of c w (c + 1 + pairs b + (w / 2 - b)) (three (w / 2 - b) b left_below top_below refl) few
      (ap₂ ◌⊕◌ odious_left (odious_top (w / 2) b t) ∙ top_sum (w / 2) b t (w - 2 * b) (omega arith) ∙ omega arith) lower

-- each number below the value has its lowest move
best : (c w : ℕ) → c < 64 → w < odious c → (i : ℕ) × LowestMove turtles_rule c w i
best c w few h = by_ones (ℕ_discrete w 0) (ℕ_discrete (count_ones w % 2) 1)
  where
    by_ones : Dec (w ≡ 0) → Dec (count_ones w % 2 ≡ 1) → (i : ℕ) × LowestMove turtles_rule c w i
    by_ones (yes e) o = (0, best_one c w few e)
    by_ones (no e) (yes o) = (w / 2 + 1, best_two c w few h o)
    by_ones (no e) (no o) =
        let t = top_is (w / 2) (even_half w e o) (omega (arith, odious_half c)) in
        (_, best_three c w _ few h o t)

pub turtles_keeps : (size : ℕ) → size ≤ 64 → RowLaws turtles_rule size
turtles_keeps size small = record {
  few = λ c l. let up = pairs_up c (size - 1) (omega arith) in grind (arith, nat_tests);
  own = λ c i l h. grind (arith, nat_tests);
  not_above = λ c i d l h e. not_above c i d (kind c i h) (omega arith) e;
  nimber = λ c l. omega (arith, odious_half c);
  misses = λ c i l h e. let k = kind c i h in misses k (sym (rest_is c i k (omega arith)) ∙ e);
  found = λ c w l h. let b = best c w (omega arith) h in (b.0, b.1.numbered, b.1.fits);
}

pub turtles_low : (size : ℕ) → size ≤ 64 → turtles_rule.ceiling size ≤ 4194303
turtles_low size small = let few = pairs_up (size - 1) 64 (omega arith) in grind (arith, nat_tests)

pub turtles_lawful : (size : ℕ) → size ≤ 64 → Lawful (turtles size)
turtles_lawful size small = row_lawful turtles_rule size (turtles_keeps size small) (omega arith) (turtles_low size small)

pub turtles_lowest : (size : ℕ) → size ≤ 64 → LowestReplies (turtles size)
turtles_lowest size small = row_lowest turtles_rule size (turtles_keeps size small)

pub turtles_triples : (size : ℕ) → size ≤ 64 → TurnsThree (turtles size)
turtles_triples size small a b c d h k l =
    let within = numbered c (c + 1 + pairs b + a) (three a b h k refl) in
    let e : nat_lt (c + 1 + pairs b + a) (on size c (moves c)) ≡ true = grind (arith, nat_tests) in
    ap (λ t. t && turned c (c + 1 + pairs b + a) d) e ∙ turns_three a b c d h k (omega arith)
