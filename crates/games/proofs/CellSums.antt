-- Nim sums over the cells of a set, word by word. Assumes nothing.
use Rattle.std.proofs.Common.{◌≡◌, ℕ, zero, suc, ◌+◌, ◌-◌, ◌*◌, ◌/◌, ◌%◌, ◌<◌, ◌≤◌, Bool, true, false, cond, not, eqb, List, [], ◌∷◌, ◌++◌, get_or, map, refl, sym, ap, ◌∙◌, arith}
use Rattle.std.specs.List.{fold, filter, range_with_len}
use Rattle.std.proofs.lemmas.List.{map-append, map-id}
use Rattle.std.proofs.lemmas.List.Elements.{filter-append}
use Rattle.std.proofs.lemmas.List.FromFn.{map-range_with_len_more}
use Rattle.std.proofs.lemmas.List.Sums.{fold-append}
use Rattle.std.proofs.lemmas.Bool.Decides.{nat_tests}
use Rattle.std.specs.Int.Bits.{xor_zero_r, xor_assoc}
use Rattle.nimber_field.specs.Nimber.{◌⊕◌}
use Rattle.games.specs.Rules.{nim_sum, sum_held}
use Rattle.games.specs.Laws.Sums.{sum_same, sum_none, sum_zero}
use Rattle.games.specs.Cells.{marks}
use Rattle.games.proofs.CellBits.{cell, zero_marks}

-- ---- a fold over a range

range_more : (a n : ℕ) → range_with_len a (n + 1) ≡ range_with_len a n ++ ((a + n) ∷ [])
range_more a n =
    sym (map-id (range_with_len a (n + 1))) ∙ map-range_with_len_more (λ x. x) a n (a + n) refl ∙ ap (λ l. l ++ ((a + n) ∷ [])) (map-id (range_with_len a n))

add_one : (s : ℕ → Bool) (f : ℕ → ℕ) (a k : ℕ) → fold (λ a x. a ⊕ x) a (map f (filter s (k ∷ []))) ≡ a ⊕ cond (s k) (f k) 0
add_one s f a k = at (s k)
  where
    at : (b : Bool) → fold (λ a x. a ⊕ x) a (map f (cond b (k ∷ []) [])) ≡ a ⊕ cond b (f k) 0
    at true = refl
    at false = sym (xor_zero_r a)

-- the terms of the held numbers from a on, added one by one
pub added_from : (s : ℕ → Bool) (f : ℕ → ℕ) (a n : ℕ) → fold (λ a x. a ⊕ x) 0 (map f (filter s (range_with_len a n))) ≡ sum_held n (λ j. s (a + j)) (λ j. f (a + j))
unfolding nim_sum
added_from s f a zero = refl
added_from s f a (suc n) =
    let last : suc n ≡ n + 1 = omega arith in
    ap (λ k. fold (λ a x. a ⊕ x) 0 (map f (filter s (range_with_len a k)))) last
    ∙ ap (λ l. fold (λ a x. a ⊕ x) 0 (map f l)) (ap (filter s) (range_more a n) ∙ filter-append s (range_with_len a n) ((a + n) ∷ []))
    ∙ ap (fold (λ a x. a ⊕ x) 0) (map-append f (filter s (range_with_len a n)) (filter s ((a + n) ∷ [])))
    ∙ fold-append (λ a x. a ⊕ x) 0 (map f (filter s (range_with_len a n))) (map f (filter s ((a + n) ∷ [])))
    ∙ add_one s f _ (a + n) ∙ ap (λ b. b ⊕ cond (s (a + n)) (f (a + n)) 0) (added_from s f a n)

-- and from 0 on
pub held_added : (n m : ℕ) (s : ℕ → Bool) (f : ℕ → ℕ) → m ≡ n → fold (λ a x. a ⊕ x) 0 (map f (filter s (range_with_len 0 m))) ≡ sum_held n s f
held_added n m s f e =
    ap (λ k. fold (λ a x. a ⊕ x) 0 (map f (filter s (range_with_len 0 k)))) e
    ∙ added_from s f 0 n
    ∙ sum_same n (λ j. cond (s (0 + j)) (f (0 + j)) 0) (λ j. cond (s j) (f j) 0) (λ j l.
    let same : 0 + j ≡ j = omega arith in
    ap (λ k. cond (s k) (f k) 0) same)

-- ---- sums in parts

-- the first m terms, and the k that follow
pub sum_add : (m k : ℕ) (f : ℕ → ℕ) → nim_sum (m + k) f ≡ nim_sum m f ⊕ nim_sum k (λ j. f (m + j))
unfolding nim_sum
sum_add m zero f =
    let none : m + 0 ≡ m = omega arith in
    ap (λ n. nim_sum n f) none ∙ sym (xor_zero_r (nim_sum m f))
sum_add m (suc k) f =
    let more : m + suc k ≡ suc (m + k) = omega arith in
    ap (λ n. nim_sum n f) more ∙ ap (λ a. a ⊕ f (m + k)) (sum_add m k f) ∙ xor_assoc (nim_sum m f) (nim_sum k (λ j. f (m + j))) (f (m + k))

-- word by word
pub sum_words : (n : ℕ) (f : ℕ → ℕ) → nim_sum n (λ k. nim_sum 32 (λ j. f (32 * k + j))) ≡ nim_sum (32 * n) f
unfolding nim_sum
sum_words zero f = refl
sum_words (suc n) f =
    let more : 32 * suc n ≡ 32 * n + 32 = omega arith in
    ap (λ a. a ⊕ nim_sum 32 (λ j. f (32 * n + j))) (sum_words n f) ∙ sym (sum_add (32 * n) 32 f) ∙ ap (λ k. nim_sum k f) (sym more)

-- terms that are 0 may be left out
pub left_out : (n : ℕ) (s : ℕ → Bool) (f : ℕ → ℕ) → ((k : ℕ) → k < n → s k ≡ false → f k ≡ 0) → sum_held n s f ≡ nim_sum n f
left_out n s f h = sum_same n (λ k. cond (s k) (f k) 0) f (λ k l. at k (s k) (h k l))
  where
    at : (k : ℕ) (b : Bool) → (b ≡ false → f k ≡ 0) → cond b (f k) 0 ≡ f k
    at k true g = refl
    at k false g = sym (g refl)

-- past the cells there is nothing
pub sum_off : (m k : ℕ) (s : ℕ → Bool) (f : ℕ → ℕ) → ((d : ℕ) → m ≤ d → f d ≡ 0) → sum_held (m + k) s f ≡ sum_held m s f
sum_off m k s f h =
    sum_add m k (λ d. cond (s d) (f d) 0)
    ∙ ap (λ a. sum_held m s f ⊕ a) (sum_zero k (λ j. cond (s (m + j)) (f (m + j)) 0) (λ j l. at (s (m + j)) (f (m + j)) (h (m + j) (omega arith))))
    ∙ xor_zero_r (sum_held m s f)
  where
    at : (b : Bool) (v : ℕ) → v ≡ 0 → cond b v 0 ≡ 0
    at true v e = e
    at false v e = refl

-- a word that is 0 holds no cell
pub word_none : (words : List ℕ) (f : ℕ → ℕ) (k : ℕ) → get_or words k 0 ≡ 0 → sum_held 32 (λ j. cell words (32 * k + j)) f ≡ 0
word_none words f k e =
    sum_none f 32 (λ j. cell words (32 * k + j)) (λ j l.
    let place : (32 * k + j) / 32 ≡ k = omega arith in
    ap (λ w. marks w ((32 * k + j) % 32)) (ap (λ i. get_or words i 0) place ∙ e) ∙ zero_marks ((32 * k + j) % 32))

-- the sums of the first m words that are not 0 add up to the sum over all cells, where these words have all cells
pub all_words : (words : List ℕ) (f : ℕ → ℕ) (n m : ℕ) → n ≤ 32 * m → ((d : ℕ) → n ≤ d → f d ≡ 0)
    → sum_held m (λ k. not (eqb (get_or words k 0) 0)) (λ k. sum_held 32 (λ j. cell words (32 * k + j)) (λ j. f (32 * k + j))) ≡ sum_held n (cell words) f
all_words words f n m all off =
    left_out m (λ k. not (eqb (get_or words k 0) 0)) (λ k. sum_held 32 (λ j. cell words (32 * k + j)) (λ j. f (32 * k + j)))
    (λ k l e. word_none words (λ j. f (32 * k + j)) k (grind (arith, nat_tests)))
    ∙ sum_words m (λ d. cond (cell words d) (f d) 0)
    ∙ ap (λ k. sum_held k (cell words) f) rest ∙ sum_off n (32 * m - n) (cell words) f off
  where
    rest : 32 * m ≡ n + (32 * m - n)
    rest = omega (arith, all)
