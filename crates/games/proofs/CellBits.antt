-- Cells as bits of words. Assumes nothing.
use Rattle.std.proofs.Common.{◌≡◌, ℕ, zero, suc, ◌+◌, ◌-◌, ◌*◌, ◌/◌, ◌%◌, ◌^◌, ◌<◌, ◌≤◌, Bool, true, false, ◌&&◌, not, eqb, ltb, leb, ◌≢◌, List, ◌∷◌, length, get_or, set, get_or-drop, drop-drop, sym, refl, ap, ◌∙◌, arith, get_or-set_other, get_or-set_same, pow-add, eq-eqb, le-leb, le-ltb, lt-ltb, min, ne_eqb}
use mathlib.Core.Path.{fun_ext}
use native.Mathlib.Decide.{dec_le, dec_lt, ℕ_discrete}
use Rattle.std.proofs.Math.Nat.{min-eq_left, min-eq_right}
use native.Mathlib.Nat.{div-eq_of_lt, zero-div}
use lib.Bits.{bit_xor, xor_shr, xor_mod}
use lib.ListN.{get_or-eq_default, drop}
use lib.Pow.{pow-lt, shl-shr, mod-mod-pow}
use Rattle.std.proofs.lemmas.Nat.{shr-shr, field_of}
use Rattle.std.proofs.lemmas.Bool.Decides.{nat_tests}
use Rattle.nimber_field.specs.Tower.{differ}
use Rattle.nimber_field.proofs.Sums.{differ_false}
use Rattle.games.specs.Cells.{marks, in_one, only, raised, marked_from}
use Rattle.games.specs.TakeValues.{any}
use Rattle.games.proofs.Tests.{any_at, none_passes}

pub differ_assoc : (a b c : Bool) → differ (differ a b) c ≡ differ a (differ b c)
differ_assoc true true true = refl
differ_assoc true true false = refl
differ_assoc true false c = refl
differ_assoc false b c = refl

-- ---- bits of a word

-- bit j of an exclusive or
pub marks_xor : (a b j : ℕ) → marks (bit_xor a b) j ≡ differ (marks a j) (marks b j)
marks_xor a b j =
    ap (λ n. eqb n 1) (ap (λ n. n % 2) (xor_shr a b j) ∙ xor_mod (a / 2 ^ j) (b / 2 ^ j) 1)
    ∙ by_bits (a / 2 ^ j % 2) (b / 2 ^ j % 2) (omega arith) (omega arith)
  where
    by_bits : (p q : ℕ) → p < 2 → q < 2 → eqb (bit_xor p q) 1 ≡ differ (eqb p 1) (eqb q 1)
    by_bits zero zero h k = refl
    by_bits zero (suc zero) h k = refl
    by_bits (suc zero) zero h k = refl
    by_bits (suc zero) (suc zero) h k = refl
    by_bits p (suc (suc q)) h k = absurd (omega arith)
    by_bits (suc (suc p)) q h k = absurd (omega arith)

-- 0 marks nothing
pub zero_marks : (j : ℕ) → marks 0 j ≡ false
zero_marks j = ap (λ m. eqb (m % 2) 1) (zero-div (2 ^ j))

-- a word below 2 ^ k marks nothing from k on
pub marks_past : (k w j : ℕ) → w < 2 ^ k → k ≤ j → marks w j ≡ false
marks_past k w j h l = ap (λ m. eqb (m % 2) 1) (div-eq_of_lt below)
  where
    by_order : Dec (k < j) → w < 2 ^ j
    by_order (yes n) = omega (arith, pow-lt n)
    by_order (no n) =
        let e : 2 ^ k ≡ 2 ^ j = ap (λ m. 2 ^ m) (omega arith) in
        omega arith

    below : w < 2 ^ j
    below = by_order (dec_lt k j)

-- a word that is moved up by s
pub marks_up : (w s j : ℕ) → marks (w * 2 ^ s) j ≡ (leb s j && marks w (j - s))
marks_up w s j = by_order (dec_lt j s)
  where
    even : (m : ℕ) → m * 2 % 2 ≡ 0
    even m = omega arith

    by_order : Dec (j < s) → marks (w * 2 ^ s) j ≡ (leb s j && marks w (j - s))
    by_order (yes l) =
        let split : w * 2 ^ s ≡ w * 2 ^ (s - j - 1) * 2 * 2 ^ j
        = ap (λ m. w * 2 ^ m) (omega arith) ∙ ap (λ m. w * m) (pow-add 2 (s - j - 1 + 1) j ∙ ap (λ m. m * 2 ^ j) (pow-add 2 (s - j - 1) 1)) ∙ grind arith in
        let off : leb s j ≡ false = grind (arith, nat_tests) in
        ap (λ m. eqb (m / 2 ^ j % 2) 1) split ∙ ap (λ m. eqb (m % 2) 1) (shl-shr (w * 2 ^ (s - j - 1) * 2) j)
        ∙ ap (λ m. eqb m 1) (even (w * 2 ^ (s - j - 1))) ∙ ap (λ b. b && marks w (j - s)) (sym off)
    by_order (no l) =
        let on : leb s j ≡ true = grind (arith, nat_tests) in
        let place : j ≡ s + (j - s) = omega arith in
        ap (λ k. eqb (w * 2 ^ s / 2 ^ k % 2) 1) place
        ∙ ap (λ m. eqb (m % 2) 1) (sym (shr-shr (w * 2 ^ s) s (j - s)) ∙ ap (λ m. m / 2 ^ (j - s)) (shl-shr w s))
        ∙ ap (λ b. b && marks w (j - s)) (sym on)

-- the low bits of a word
pub marks_low : (k m j : ℕ) → j < k → marks (m % 2 ^ k) j ≡ marks m j
marks_low k m j l =
    let up : m % 2 ^ k % 2 ^ (1 + j) ≡ m % 2 ^ (1 + j)
    = ap (λ n. m % 2 ^ n % 2 ^ (1 + j)) (omega arith) ∙ mod-mod-pow m (k - (1 + j)) (1 + j) in
    ap (λ n. eqb n 1) (sym (field_of (m % 2 ^ k) 1 j) ∙ ap (λ n. n / 2 ^ j) up ∙ field_of m 1 j)

-- the high bits of a word
pub marks_high : (k m j : ℕ) → marks (m / 2 ^ k) j ≡ marks m (k + j)
marks_high k m j = ap (λ n. eqb (n % 2) 1) (shr-shr m k j)

-- a power of two marks one bit
pub marks_one : (k j : ℕ) → marks (2 ^ k) j ≡ eqb j k
marks_one k j =
    let same : 2 ^ k ≡ 1 * 2 ^ k = omega arith in
    ap (λ w. marks w j) same ∙ marks_up 1 k j ∙ by_order (dec_lt j k)
  where
    bit_of_one : (i : ℕ) → marks 1 i ≡ eqb i 0
    bit_of_one zero = refl
    bit_of_one (suc i) =
        let off : eqb (suc i) 0 ≡ false = grind (arith, nat_tests) in
        marks_past 1 1 (suc i) (omega arith) (omega arith) ∙ sym off

    by_order : Dec (j < k) → (leb k j && marks 1 (j - k)) ≡ eqb j k
    by_order (yes l) = grind (arith, nat_tests)
    by_order (no n) = ap (λ b. leb k j && b) (bit_of_one (j - k)) ∙ grind (arith, nat_tests)

-- ---- cells of a list of words

-- the cells of a list of words
abbrev pub cell : List ℕ → ℕ → Bool
cell words c = marks (get_or words (c / 32) 0) (c % 32)

-- no word marks a cell past the last word
pub no_cell : (words : List ℕ) (d : ℕ) → length words ≤ d / 32 → cell words d ≡ false
no_cell words d h = ap (λ w. marks w (d % 32)) (get_or-eq_default words 0 h) ∙ zero_marks (d % 32)

-- words that are all 0 mark no cell
pub none_marked : (words : List ℕ) → ((i : ℕ) → i < length words → get_or words i 0 ≡ 0) → (d : ℕ) → cell words d ≡ false
none_marked words zeros d = by_place (dec_lt (d / 32) (length words))
  where
    by_place : Dec (d / 32 < length words) → cell words d ≡ false
    by_place (yes l) = ap (λ w. marks w (d % 32)) (zeros (d / 32) l) ∙ zero_marks (d % 32)
    by_place (no l) = no_cell words d (omega arith)

-- a word that is not 0 marks one of its bits
bit_of : (n w : ℕ) → w < 2 ^ n → w ≢ 0 → (j : ℕ) × (j < n) × (marks w j ≡ true)
bit_of zero w small some = absurd (some (omega arith))
bit_of (suc n) w small some = by_low (ℕ_discrete (w % 2) 1) (λ h. bit_of n (w / 2) (omega (arith, small, pow-add 2 1 n)) h)
  where
    later : (j : ℕ) × (j < n) × (marks (w / 2) j ≡ true) → (j : ℕ) × (j < suc n) × (marks w j ≡ true)
    later b = (1 + b.0, omega (arith, b.1), sym (marks_high 1 w b.0) ∙ b.2)

    by_low : Dec (w % 2 ≡ 1) → (w / 2 ≢ 0 → (j : ℕ) × (j < n) × (marks (w / 2) j ≡ true)) → (j : ℕ) × (j < suc n) × (marks w j ≡ true)
    by_low (yes e) half = (0, omega arith, ap (λ m. eqb (m % 2) 1) (omega arith) ∙ eq-eqb (w % 2) 1 e)
    by_low (no m) half = later (half (λ z. some (omega arith)))

-- a word is 0 where it marks no cell
pub word_marks : (words : List ℕ) (k : ℕ) → get_or words k 0 < 2 ^ 32 → not (eqb (get_or words k 0) 0) ≡ any 32 (λ j. cell words (32 * k + j))
word_marks words k small = by_word (ℕ_discrete word 0)
  where
    word : ℕ
    word = get_or words k 0

    placed : (j : ℕ) → j < 32 → cell words (32 * k + j) ≡ marks word j
    placed j l =
        let place : (32 * k + j) / 32 ≡ k = omega arith in
        let bit : (32 * k + j) % 32 ≡ j = omega arith in
        λ i. marks (get_or words (place i) 0) (bit i)

    by_word : Dec (word ≡ 0) → not (eqb word 0) ≡ any 32 (λ j. cell words (32 * k + j))
    by_word (yes e) =
        ap not (eq-eqb word 0 e) ∙ sym (none_passes 32 _ (λ j l. placed j l ∙ ap (λ w. marks w j) e ∙ zero_marks j))
    by_word (no m) =
        let b = bit_of 32 word small m in
        ap not (ne_eqb word 0 m) ∙ sym (any_at 32 _ b.0 b.1 (placed b.0 b.1 ∙ b.2))

-- an exclusive or at one word toggles the cells that are marked there, and no other
pub word_toggled : (words : List ℕ) (k word d : ℕ) → k < length words
    → cell (set words k (bit_xor (get_or words k 0) word)) d ≡ differ (cell words d) (eqb (d / 32) k && marks word (d % 32))
word_toggled words k word d l = by_word (ℕ_discrete (d / 32) k)
  where
    new : ℕ
    new = bit_xor (get_or words k 0) word

    by_word : Dec (d / 32 ≡ k) → cell (set words k new) d ≡ differ (cell words d) (eqb (d / 32) k && marks word (d % 32))
    by_word (yes e) =
        ap (λ n. marks (get_or (set words k new) n 0) (d % 32)) e
        ∙ ap (λ w. marks w (d % 32)) (get_or-set_same words k new 0 l)
        ∙ marks_xor (get_or words k 0) word (d % 32)
        ∙ ap (λ n. differ (marks (get_or words n 0) (d % 32)) (marks word (d % 32))) (sym e)
        ∙ ap (λ b. differ (cell words d) (b && marks word (d % 32))) (sym (eq-eqb (d / 32) k e))
    by_word (no n) =
        ap (λ w. marks w (d % 32)) (get_or-set_other words k (d / 32) new 0 n)
        ∙ sym (differ_false (cell words d)) ∙ ap (λ b. differ (cell words d) (b && marks word (d % 32))) (sym (ne_eqb (d / 32) k n))

-- the bit of one cell
pub one_marked : (c d : ℕ) → (ltb (c / 32) 128 && (eqb (d / 32) (c / 32) && marks (2 ^ (c % 32)) (d % 32))) ≡ only c d
one_marked c d = ap (λ b. ltb (c / 32) 128 && (eqb (d / 32) (c / 32) && b)) (marks_one (c % 32) (d % 32)) ∙ grind (arith, nat_tests)

-- whether d is marked by the low half or by the high half of a word that is moved up to n, by the bit of each that lies at d
module _ (n d : ℕ) where
  abbrev either : Bool → Bool → Bool
  either low high =
      differ (ltb (n / 32) 128 && (eqb (d / 32) (n / 32) && (leb (n % 32) (d % 32) && low)))
      (ltb (n / 32 + 1) 128 && (eqb (d / 32) (n / 32 + 1) && (leb (n % 32) (32 + d % 32) && high)))

  in_first : (low high : Bool) → d / 32 ≡ n / 32 → either low high ≡ (ltb d 4096 && (leb n d && low))
  in_first true high e = grind (arith, nat_tests)
  in_first false high e = grind (arith, nat_tests)

  in_second : (low high : Bool) → d / 32 ≡ n / 32 + 1 → either low high ≡ (ltb d 4096 && (leb n d && high))
  in_second low true e = grind (arith, nat_tests)
  in_second low false e = grind (arith, nat_tests)

  in_neither : (low high b : Bool) → d / 32 ≢ n / 32 → d / 32 ≢ n / 32 + 1 → (n + 32 ≤ d → b ≡ false) → either low high ≡ (ltb d 4096 && (leb n d && b))
  in_neither low high true m k off =
      let l : leb n d ≡ false = grind (arith, nat_tests) in
      grind (arith, nat_tests)
  in_neither low high false m k off = grind (arith, nat_tests)

-- a word that is moved up to n lies across two words
pub across : (n word d : ℕ) → word < 2 ^ 32
    → differ (ltb (n / 32) 128 && (eqb (d / 32) (n / 32) && marks (word * 2 ^ (n % 32) % 2 ^ 32) (d % 32)))
    (ltb (n / 32 + 1) 128 && (eqb (d / 32) (n / 32 + 1) && marks (word * 2 ^ (n % 32) / 2 ^ 32) (d % 32)))
    ≡ marked_from n word d
across n word d small =
    (λ i. differ (ltb (n / 32) 128 && (eqb (d / 32) (n / 32) && low i)) (ltb (n / 32 + 1) 128 && (eqb (d / 32) (n / 32 + 1) && high i)))
    ∙ by_word (ℕ_discrete (d / 32) (n / 32)) (ℕ_discrete (d / 32) (n / 32 + 1))
  where
    low : marks (word * 2 ^ (n % 32) % 2 ^ 32) (d % 32) ≡ (leb (n % 32) (d % 32) && marks word (d % 32 - n % 32))
    low = marks_low 32 (word * 2 ^ (n % 32)) (d % 32) (omega arith) ∙ marks_up word (n % 32) (d % 32)

    high : marks (word * 2 ^ (n % 32) / 2 ^ 32) (d % 32) ≡ (leb (n % 32) (32 + d % 32) && marks word (32 + d % 32 - n % 32))
    high = marks_high 32 (word * 2 ^ (n % 32)) (d % 32) ∙ marks_up word (n % 32) (32 + d % 32)

    by_word : Dec (d / 32 ≡ n / 32) → Dec (d / 32 ≡ n / 32 + 1)
        → either n d (marks word (d % 32 - n % 32)) (marks word (32 + d % 32 - n % 32)) ≡ marked_from n word d
    by_word (yes e) h =
        let place : d % 32 - n % 32 ≡ d - n = omega arith in
        ap (λ j. either n d (marks word j) (marks word (32 + d % 32 - n % 32))) place
        ∙ in_first n d (marks word (d - n)) (marks word (32 + d % 32 - n % 32)) e
    by_word (no m) (yes e) =
        let place : 32 + d % 32 - n % 32 ≡ d - n = omega arith in
        ap (λ j. either n d (marks word (d % 32 - n % 32)) (marks word j)) place
        ∙ in_second n d (marks word (d % 32 - n % 32)) (marks word (d - n)) e
    by_word (no m) (no k) =
        in_neither n d (marks word (d % 32 - n % 32)) (marks word (32 + d % 32 - n % 32)) (marks word (d - n)) m k
        (λ l. marks_past 32 word (d - n) small (omega arith))

-- ---- the cells of a set, word by word

-- the cells below n of a set
abbrev pub below : ℕ → (ℕ → Bool) → ℕ → Bool
below n s d = ltb d n && s d

-- the first word of what is left is the word at its place
pub first_left : (words left : List ℕ) (word k : ℕ) → drop k words ≡ word ∷ left → (word ≡ get_or words k 0) × (left ≡ drop (k + 1) words)
first_left words left word k e =
    let place : k + 0 ≡ k = omega arith in
    (sym (ap (λ l. get_or l 0 0) e) ∙ get_or-drop k words 0 0 ∙ ap (λ i. get_or words i 0) place, sym (ap (λ l. drop 1 l) e) ∙ drop-drop 1 k words)

-- d by the words below k and by word k: h is what the former say of it, m what the latter does
module _ (n k d : ℕ) where
  abbrev joined : Bool → Bool → Bool
  joined h m = differ (ltb d 4096 && (leb n d && (ltb (d - n) (32 * k) && h))) (ltb d 4096 && (leb (32 * k + n) d && m))

  in_word : (h : Bool) → 32 * k + n ≤ d → d < 32 * k + n + 32 → joined h h ≡ (ltb d 4096 && (leb n d && (ltb (d - n) (32 * (k + 1)) && h)))
  in_word true l r = grind (arith, nat_tests)
  in_word false l r = grind (arith, nat_tests)

  below_word : (h m : Bool) → d < 32 * k + n → joined h m ≡ (ltb d 4096 && (leb n d && (ltb (d - n) (32 * (k + 1)) && h)))
  below_word true m l = grind (arith, nat_tests)
  below_word false m l = grind (arith, nat_tests)

  past_word : (h : Bool) → 32 * k + n + 32 ≤ d → joined h false ≡ (ltb d 4096 && (leb n d && (ltb (d - n) (32 * (k + 1)) && h)))
  past_word true l = grind (arith, nat_tests)
  past_word false l = grind (arith, nat_tests)

-- the cells of the words below k, and then those of word k
pub word_raised : (words : List ℕ) (n k d : ℕ) → get_or words k 0 < 2 ^ 32
    → differ (raised n (below (32 * k) (cell words)) d) (marked_from (32 * k + n) (get_or words k 0) d) ≡ raised n (below (32 * (k + 1)) (cell words)) d
word_raised words n k d small = by_order (dec_lt d (32 * k + n)) (dec_lt d (32 * k + n + 32))
  where
    word : ℕ
    word = get_or words k 0

    by_order : Dec (d < 32 * k + n) → Dec (d < 32 * k + n + 32)
        → joined n k d (cell words (d - n)) (marks word (d - (32 * k + n))) ≡ raised n (below (32 * (k + 1)) (cell words)) d
    by_order (yes l) h = below_word n k d (cell words (d - n)) (marks word (d - (32 * k + n))) l
    by_order (no l) (yes h) =
        let place : k ≡ (d - n) / 32 = omega arith in
        let bit : d - (32 * k + n) ≡ (d - n) % 32 = omega arith in
        ap (λ m. joined n k d (cell words (d - n)) m) (λ i. marks (get_or words (place i) 0) (bit i))
        ∙ in_word n k d (cell words (d - n)) (omega arith) h
    by_order (no l) (no h) =
        ap (λ m. joined n k d (cell words (d - n)) m) (marks_past 32 word (d - (32 * k + n)) small (omega arith))
        ∙ past_word n k d (cell words (d - n)) (omega arith)

-- no cell lies below 0, and each below 4096
pub none_raised : (n d : ℕ) (s : ℕ → Bool) → raised n (below 0 s) d ≡ false
none_raised n d s = at (s (d - n))
  where
    at : (b : Bool) → (ltb d 4096 && (leb n d && (ltb (d - n) 0 && b))) ≡ false
    at b = grind (arith, nat_tests)

pub all_raised : (n m d : ℕ) (s : ℕ → Bool) → 4096 ≤ n + m → raised n (below m s) d ≡ raised n s d
all_raised n m d s h = at (s (d - n))
  where
    at : (b : Bool) → (ltb d 4096 && (leb n d && (ltb (d - n) m && b))) ≡ (ltb d 4096 && (leb n d && b))
    at true = grind (arith, nat_tests)
    at false = grind (arith, nat_tests)

-- the first words of a set, as far as they are raised to cells that a set may hold
pub first_raised : (n k words d : ℕ) (s : ℕ → Bool) → n < 4096 → k ≡ min words (128 - n / 32) → raised n (below (32 * k) s) d ≡ raised n (below (32 * words) s) d
first_raised n k words d s h e = by_order (dec_le words (128 - n / 32))
  where
    by_order : Dec (words ≤ 128 - n / 32) → raised n (below (32 * k) s) d ≡ raised n (below (32 * words) s) d
    by_order (yes l) = ap (λ m. raised n (below (32 * m) s) d) (e ∙ min-eq_left l)
    by_order (no l) =
        let last : k ≡ 128 - n / 32 = e ∙ min-eq_right (omega (arith, l)) in
        all_raised n (32 * k) d s (omega (arith, last, h)) ∙ sym (all_raised n (32 * words) d s (omega (arith, l, h)))

-- a set has no cell from 4096 on
pub all_below : (words : List ℕ) → length words ≤ 128 → (d : ℕ) → below 4096 (cell words) d ≡ cell words d
all_below words h d = by_place (dec_lt d 4096)
  where
    by_place : Dec (d < 4096) → below 4096 (cell words) d ≡ cell words d
    by_place (yes l) = ap (λ b. b && cell words d) (lt-ltb d 4096 l)
    by_place (no l) = ap (λ b. b && cell words d) (le-ltb d 4096 (omega (arith, l))) ∙ sym (no_cell words d (omega (arith, h, l)))

-- the cells of the words below k, and then those of word k, in their places
pub word_added : (words : List ℕ) (k d : ℕ) → k < 128
    → differ (below (32 * k) (cell words) d) (ltb k 128 && (eqb (d / 32) k && marks (get_or words k 0) (d % 32))) ≡ below (32 * (k + 1)) (cell words) d
word_added words k d few = by_word (ℕ_discrete (d / 32) k)
  where
    in_place : (b : Bool) → d / 32 ≡ k → differ (ltb d (32 * k) && b) (ltb k 128 && (eqb (d / 32) k && b)) ≡ (ltb d (32 * (k + 1)) && b)
    in_place true e = grind (arith, nat_tests)
    in_place false e = grind (arith, nat_tests)

    elsewhere : (b m : Bool) → d / 32 ≢ k → differ (ltb d (32 * k) && b) (ltb k 128 && (eqb (d / 32) k && m)) ≡ (ltb d (32 * (k + 1)) && b)
    elsewhere true m n = grind (arith, nat_tests)
    elsewhere false m n = grind (arith, nat_tests)

    by_word : Dec (d / 32 ≡ k) → differ (below (32 * k) (cell words) d) (ltb k 128 && (eqb (d / 32) k && marks (get_or words k 0) (d % 32))) ≡ below (32 * (k + 1)) (cell words) d
    by_word (yes e) =
        ap (λ i. differ (below (32 * k) (cell words) d) (ltb k 128 && (eqb (d / 32) k && marks (get_or words i 0) (d % 32)))) (sym e) ∙ in_place (cell words d) e
    by_word (no n) = elsewhere (cell words d) (marks (get_or words k 0) (d % 32)) n

-- what a word marks is toggled after what the words before it mark
pub next_word : (t u : ℕ → Bool) (words : List ℕ) (word n k : ℕ) → word < 2 ^ 32 → word ≡ get_or words k 0
    → t ≡ in_one u (raised n (below (32 * k) (cell words))) → in_one t (marked_from (32 * k + n) word) ≡ in_one u (raised n (below (32 * (k + 1)) (cell words)))
next_word t u words word n k small e h =
    ap (λ s. in_one s (marked_from (32 * k + n) word)) h
    ∙ fun_ext (λ d.
    differ_assoc (u d) (raised n (below (32 * k) (cell words)) d) (marked_from (32 * k + n) word d)
    ∙ ap (differ (u d)) (ap (λ w. differ (raised n (below (32 * k) (cell words)) d) (marked_from (32 * k + n) w d)) e ∙ word_raised words n k d (omega (arith, e, small))))

-- a word that is 0 toggles nothing
pub nothing_marked : (t : ℕ → Bool) (n word : ℕ) → word ≡ 0 → t ≡ in_one t (marked_from n word)
nothing_marked t n word e = fun_ext (λ d. sym (ap (differ (t d)) (ap (λ w. ltb d 4096 && (leb n d && marks w (d - n))) e ∙ ap (λ b. ltb d 4096 && (leb n d && b)) (zero_marks (d - n)) ∙ off d) ∙ differ_false (t d)))
  where
    off : (d : ℕ) → (ltb d 4096 && (leb n d && false)) ≡ false
    off d = grind (arith, nat_tests)
