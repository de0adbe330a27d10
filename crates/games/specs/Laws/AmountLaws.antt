-- The amounts of a set: how many there are, and which has i smaller ones. Assumes nothing.
use Rattle.std.specs.Prelude.{◌≡◌, ℕ, zero, suc, ◌+◌, ◌-◌, ◌/◌, ◌%◌, ◌^◌, ◌<◌, ◌≤◌, true, cond, refl}
use Rattle.std.proofs.Common.{sym, ap, ◌∙◌, le_refl, mod-lt, one-add, arith, pow_pos}
use Rattle.std.proofs.Math.Decide.{dec_lt, le_ind}
use Rattle.std.proofs.Math.Nat.{mod-one}
use borrow.Author.Tests.{clash}
use Rattle.std.specs.Int.Count.{ones}
use Rattle.std.proofs.lemmas.Nat.{mod-pow-add, shr_split, ones_cat}
use Rattle.std.proofs.lemmas.Bool.Decides.{nat_tests}
use Rattle.games.specs.TakeValues.{amount, amounts_up_to, smaller}
use Rattle.games.specs.Take.{how_many}

ones_bit : (b : ℕ) → b < 2 → ones b ≡ b
unfolding ones
ones_bit zero h = refl
ones_bit (suc zero) h = refl
ones_bit (suc (suc b)) h = absurd (omega arith)

-- the amount that has i smaller ones
pub record Nth (set c i : ℕ) : Type 0 where
  pub s : ℕ
  pub within : s ≤ c
  pub is : amount set s ≡ true
  pub number : smaller set s ≡ i

module _ (set : ℕ) where
  none_yet : amounts_up_to set 0 ≡ 0
  none_yet = ap ones (mod-one set) ∙ ones_bit 0 (omega arith)

  -- one bit more
  one_more : (n : ℕ) → amounts_up_to set (suc n) ≡ cond (amount set (suc n)) 1 0 + amounts_up_to set n
  one_more n =
      let bit : set / 2 ^ n % 2 ≡ set / 2 ^ (suc n - 1) % 2 = ap (λ k. set / 2 ^ k % 2) (omega arith) in
      let more : amounts_up_to set (suc n) ≡ ones (set / 2 ^ n % 2) + amounts_up_to set n
      = ap (amounts_up_to set) (sym (one-add n)) ∙ ap ones (mod-pow-add set 1 n)
      ∙ ones_cat n (set / 2 ^ n % 2) (set % 2 ^ n) (mod-lt set (pow_pos n)) in
      let b = ones_bit (set / 2 ^ n % 2) (omega arith) in
      grind (arith, nat_tests)

  pub amounts_mono : (m n : ℕ) → m ≤ n → amounts_up_to set m ≤ amounts_up_to set n
  amounts_mono m n h = le_ind (λ k. amounts_up_to set m ≤ amounts_up_to set k) (le_refl _) (λ k l e. omega (arith, one_more k)) n h

  pub amount_pos : (s : ℕ) → amount set s ≡ true → 0 < s
  amount_pos s e = grind (arith, nat_tests)

  -- an amount is one more than the smaller ones
  pub amount_counts : (s : ℕ) → amount set s ≡ true → amounts_up_to set s ≡ suc (smaller set s)
  amount_counts zero e = absurd (clash e)
  amount_counts (suc n) e =
      let before : smaller set (suc n) ≡ amounts_up_to set n = ap (amounts_up_to set) (omega arith) in
      let more = one_more n in
      grind arith

  pub nth : (c i : ℕ) → i < amounts_up_to set c → Nth set c i
  nth zero i h = absurd (omega (arith, none_yet))
  nth (suc c) i h = by_order (dec_lt i (amounts_up_to set c)) (nth c i)
    where
      by_order : Dec (i < amounts_up_to set c) → (i < amounts_up_to set c → Nth set c i) → Nth set (suc c) i
      by_order (yes k) earlier =
          let n = earlier k in
          record { s = n.s; within = omega (arith, n.within); is = n.is; number = n.number }
      by_order (no k) earlier =
          let before : smaller set (suc c) ≡ amounts_up_to set c = ap (amounts_up_to set) (omega arith) in
          let more = one_more c in
          record { s = suc c; within = omega arith; is = grind arith; number = grind arith }

  pub amounts_all : (n : ℕ) → amounts_up_to set n ≤ ones set
  amounts_all n = omega (arith, ap ones (shr_split set n), ones_cat n (set / 2 ^ n) (set % 2 ^ n) (mod-lt set (pow_pos n)))

  pub how_many_is : (n : ℕ) → amounts_up_to set n ≡ how_many set n
  unfolding how_many
  how_many_is zero = none_yet
  how_many_is (suc n) = omega (arith, one_more n, how_many_is n)
