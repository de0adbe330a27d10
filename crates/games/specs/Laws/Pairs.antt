-- How pairs are numbered: by the larger number, and then by the smaller. Assumes nothing.
use Rattle.std.specs.Prelude.{◌≡◌, ℕ, zero, suc, ◌+◌, ◌-◌, ◌*◌, ◌<◌, ◌≤◌, Some, None, Option, unwrap_or, MatchOption, refl}
use Rattle.std.proofs.Common.{sym, ap, ◌∙◌, subst, suc-mul, mul-suc, add-one, arith, lt-ltb, le-ltb}
use Rattle.std.proofs.Math.Decide.{dec_lt, le_ind}
use Rattle.games.specs.Turtles.{pairs, larger}
use Rattle.games.specs.Laws.RowLaws.{first_is}

-- the pairs below b + 1 are those below b, and those of b
pairs_suc : (b : ℕ) → pairs (suc b) ≡ pairs b + b
pairs_suc zero = refl
pairs_suc (suc b) =
    let e : suc (suc b) - 1 ≡ suc b = omega arith in
    let f : suc b - 1 ≡ b = omega arith in
    omega (arith, ap (λ m. suc (suc b) * m) e, ap (λ m. suc b * m) f, suc-mul (suc b) (suc b), mul-suc (suc b) b)

pub pairs_more : (b : ℕ) → pairs (b + 1) ≡ pairs b + b
pairs_more b = ap pairs (add-one b) ∙ pairs_suc b

pub pairs_up : (m n : ℕ) → m ≤ n → pairs m ≤ pairs n
pairs_up m n h = le_ind (λ k. pairs m ≤ pairs k) (omega arith) (λ k l ih. omega (arith, pairs_suc k)) n h

pub pairs_order : (m n : ℕ) → pairs m < pairs n → m < n
pairs_order m n h = by_order (dec_lt m n)
  where
    by_order : Dec (m < n) → m < n
    by_order (yes l) = l
    by_order (no l) = absurd (omega (arith, pairs_up n m (omega arith)))

pub larger_is : (n b : ℕ) → b < 64 → pairs b ≤ n → n < pairs (b + 1) → larger n ≡ b
unfolding larger
larger_is n b few low high =
    first_is 64 _ b few (lt-ltb n (pairs (b + 1)) high) (λ j h. le-ltb n (pairs (j + 1)) (omega (arith, pairs_up (j + 1) b (omega arith))))

-- b is the larger number of pair n
pub record IsLarger (n b : ℕ) : Type 0 where
  pub value : b ≡ larger n
  pub below : b < 64
  pub starts : pairs b ≤ n

-- a search from 1 to 62 finds it, or it is 63
pub larger_found : (n b : ℕ) (r : Option ℕ) → n < pairs 64 → b ≡ unwrap_or r 63
    → MatchOption r ((k : ℕ) → 1 ≤ k → k < 63 → pairs (k + 1) ≤ n)
    (λ i. (1 ≤ i) × (i < 63) × (n < pairs (i + 1)) × ((k : ℕ) → 1 ≤ k → k < i → pairs (k + 1) ≤ n))
    → IsLarger n b
larger_found n b (Some i) low e m = subst (IsLarger n) (sym e) (record { value = sym (larger_is n i (omega (arith, m.1)) starts m.2); below = omega (arith, m.1); starts = starts })
  where
    by_first : Dec (1 < i) → pairs i ≤ n
    by_first (yes l) = let k : i - 1 + 1 ≡ i = omega arith in subst (λ k. pairs k ≤ n) k (m.3 (i - 1) (omega arith) (omega arith))
    by_first (no l) = let k : 1 ≡ i = omega (arith, m.0) in subst (λ k. pairs k ≤ n) k (omega arith)

    starts : pairs i ≤ n
    starts = by_first (dec_lt 1 i)
larger_found n b None low e none =
    let starts = none 62 (omega arith) (omega arith) in
    subst (IsLarger n) (sym e) (record { value = sym (larger_is n 63 (omega arith) starts low); below = omega arith; starts = starts })

-- each number below pairs c is that of a pair
pub pair_of : (c n : ℕ) → n < pairs c → (a : ℕ) × (b : ℕ) × (a < b) × (b < c) × (n ≡ pairs b + a)
pair_of zero n h = absurd (omega arith)
pair_of (suc c) n h = by_last (dec_lt n (pairs c)) (λ l. pair_of c n l)
  where
    by_last : Dec (n < pairs c) → (n < pairs c → (a : ℕ) × (b : ℕ) × (a < b) × (b < c) × (n ≡ pairs b + a))
        → (a : ℕ) × (b : ℕ) × (a < b) × (b < suc c) × (n ≡ pairs b + a)
    by_last (yes l) ih =
        let p = ih l in
        (p.0, p.1, p.2, omega (arith, p.3), p.4)
    by_last (no l) ih = (n - pairs c, c, omega (arith, pairs_suc c), omega arith, omega arith)
