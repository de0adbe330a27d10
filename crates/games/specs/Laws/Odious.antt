-- Numbers with an odd number of ones in binary. Assumes nothing.
use Rattle.std.specs.Prelude.{◌≡◌, ℕ, suc, ◌+◌, ◌-◌, ◌*◌, ◌/◌, ◌%◌, ◌^◌, ◌<◌, ◌≢◌, refl}
use Rattle.std.proofs.Common.{ap, ◌∙◌, sym, pow-suc, arith, pow_pos}
use Rattle.std.proofs.Math.Decide.{ℕ_discrete}
use Rattle.std.proofs.Math.Arith.{bin_ind}
use Rattle.std.specs.Int.Bits.{xor_zero_l, xor_shifted, xor_add_and}
use Rattle.std.proofs.lemmas.Nat.{xor_comm, xor_shr, ones_cat, leading_top}
use Rattle.std.specs.Int.Count.{ones, count_leading_zeros, ones_step}
use Rattle.std.proofs.lemmas.Bool.Decides.{nat_tests}
use Rattle.nimber_field.specs.Nimber.{◌⊕◌}
use Rattle.games.specs.Turtles.{odious, TopPower}

pub ones_zero : ones 0 ≡ 0
unfolding ones
ones_zero = refl

-- what is added apart is odd or even together
add_apart : (m n a b p q : ℕ) → m % 2 ≡ (a + b) % 2 → n % 2 ≡ (p + q) % 2 → (m + n) % 2 ≡ ((a + p) + (b + q)) % 2
add_apart m n a b p q e f = omega arith

-- a sum has an odd number of ones where just one of the two has
pub ones_sum : (a b : ℕ) → ones (a ⊕ b) % 2 ≡ (ones a + ones b) % 2
ones_sum =
    bin_ind (λ a. (b : ℕ) → ones (a ⊕ b) % 2 ≡ (ones a + ones b) % 2) (λ b. omega (arith, ones_zero, ap ones (xor_zero_l b))) more
  where
    more : (a : ℕ) → ((b : ℕ) → ones (a / 2 ⊕ b) % 2 ≡ (ones (a / 2) + ones b) % 2) → (b : ℕ) → ones (a ⊕ b) % 2 ≡ (ones a + ones b) % 2
    more a ih b =
        let low : (a ⊕ b) % 2 % 2 ≡ (a % 2 + b % 2) % 2 = omega (arith, xor_add_and a b) in
        let high : ones ((a ⊕ b) / 2) % 2 ≡ (ones (a / 2) + ones (b / 2)) % 2 = ap (λ n. ones n % 2) (xor_shr a b 1) ∙ ih (b / 2) in
        ap (λ n. n % 2) (ones_step (a ⊕ b)) ∙ add_apart _ _ _ _ _ _ low high ∙ sym (λ i. (ones_step a i + ones_step b i) % 2)

ones_power : (k : ℕ) → ones (2 ^ k) ≡ 1
unfolding ones
ones_power k = let e : 2 ^ k ≡ 1 * 2 ^ k + 0 = omega arith in ap ones e ∙ ones_cat k 1 0 (pow_pos k)

odious_is : (c : ℕ) → odious c ≡ 2 * c + (1 - ones c % 2)
unfolding odious
odious_is c =
    let half : 2 * c / 2 ≡ c = omega arith in
    let twice : ones (2 * c) ≡ ones c = omega (arith, ones_step (2 * c), ap ones half) in
    grind (arith, nat_tests)

pub odious_half : (c : ℕ) → odious c / 2 ≡ c
odious_half c = omega (arith, odious_is c)

pub odious_odd : (c : ℕ) → ones (odious c) % 2 ≡ 1
odious_odd c = omega (arith, odious_is c, ones_step (odious c), ap ones (odious_half c))

-- there are no others
pub odd_odious : (w : ℕ) → ones w % 2 ≡ 1 → odious (w / 2) ≡ w
odd_odious w odd = omega (arith, odious_is (w / 2), ones_step w)

-- they rise
pub odious_order : (a b : ℕ) → odious a < odious b → a < b
odious_order a b h = by_same (ℕ_discrete a b)
  where
    by_same : Dec (a ≡ b) → a < b
    by_same (yes e) = absurd (omega (arith, ap odious e))
    by_same (no e) = omega (arith, odious_half a, odious_half b)

-- below 2 only 0 has an even number of ones
pub even_half : (w : ℕ) → w ≢ 0 → ones w % 2 ≢ 1 → 0 < w / 2
even_half w some even = by_half (ℕ_discrete (w / 2) 0)
  where
    by_half : Dec (w / 2 ≡ 0) → 0 < w / 2
    by_half (yes e) = absurd (omega (arith, ones_step w, ap ones e, ones_zero))
    by_half (no e) = omega arith

-- the highest power of two up to a number
pub top_is : (n : ℕ) → 0 < n → n < 2 ^ 32 → TopPower n (2 ^ (31 - count_leading_zeros 32 n))
top_is n some small =
    let t = leading_top 32 n some small in
    let e : 31 - count_leading_zeros 32 n ≡ t.0 = omega (arith, t.1) in
    let p : 2 ^ (31 - count_leading_zeros 32 n) ≡ 2 ^ t.0 = ap (λ k. 2 ^ k) e in
    record {
      place = 31 - count_leading_zeros 32 n;
      power = refl;
      up_to = omega (arith, t.2, p);
      top = omega (arith, t.3, p, pow-suc 2 t.0);
    }

module _ (n b : ℕ) (t : TopPower n b) where
  pub twice_top : 2 ^ suc t.place ≡ 2 * b
  twice_top = omega (arith, pow-suc 2 t.place, t.power)

  -- what is below twice the power adds to that without carrying
  pub top_sum : (x : ℕ) → x < 2 * b → x ⊕ (2 * b) ≡ x + 2 * b
  top_sum x h =
      let e : 1 * 2 ^ suc t.place ≡ 2 * b = omega (arith, twice_top) in
      xor_comm x (2 * b) ∙ ap (λ m. m ⊕ x) (sym e) ∙ xor_shifted 1 (suc t.place) x (omega (arith, twice_top)) ∙ omega (arith, e)

  pub ones_top : ones (2 * b) ≡ 1
  ones_top = ap ones (sym twice_top) ∙ ones_power (suc t.place)

  pub odious_top : odious b ≡ 2 * b
  odious_top =
      let e : 2 * b / 2 ≡ b = omega arith in
      ap odious (sym e) ∙ odd_odious (2 * b) (omega (arith, ones_top))
