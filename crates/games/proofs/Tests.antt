-- Whether some number passes a test. Assumes nothing.
use Rattle.std.proofs.Common.{◌≡◌, ℕ, zero, suc, ◌+◌, ◌*◌, ◌<◌, ◌≤◌, Bool, true, false, ◌||◌, sym, refl, ap, ◌∙◌, arith}
use native.Mathlib.Decide.{ℕ_discrete}
use Rattle.games.specs.TakeValues.{any}

-- a number below n passes
pub any_at : (n : ℕ) (p : ℕ → Bool) (k : ℕ) → k < n → p k ≡ true → any n p ≡ true
unfolding any
any_at zero p k l e = absurd (omega arith)
any_at (suc n) p k l e = by_last (ℕ_discrete k n) (λ h. any_at n p k h e)
  where
    or_true : (b : Bool) → (b || true) ≡ true
    or_true true = refl
    or_true false = refl

    by_last : Dec (k ≡ n) → (k < n → any n p ≡ true) → (p n || any n p) ≡ true
    by_last (yes q) ih = ap (λ b. b || any n p) (ap p (sym q) ∙ e)
    by_last (no q) ih = ap (λ b. p n || b) (ih (omega arith)) ∙ or_true (p n)

-- no number below n passes
pub none_passes : (n : ℕ) (p : ℕ → Bool) → ((k : ℕ) → k < n → p k ≡ false) → any n p ≡ false
unfolding any
none_passes zero p h = refl
none_passes (suc n) p h = λ i. h n (omega arith) i || none_passes n p (λ k l. h k (omega arith)) i

-- the first m numbers, and the k that follow
any_add : (m k : ℕ) (p : ℕ → Bool) → any (m + k) p ≡ (any k (λ j. p (m + j)) || any m p)
unfolding any
any_add m zero p =
    let none : m + 0 ≡ m = omega arith in
    ap (λ n. any n p) none
any_add m (suc k) p =
    let more : m + suc k ≡ suc (m + k) = omega arith in
    ap (λ n. any n p) more ∙ ap (λ b. p (m + k) || b) (any_add m k p) ∙ sym (or_assoc (p (m + k)) (any k (λ j. p (m + j))) (any m p))
  where
    or_assoc : (a b c : Bool) → ((a || b) || c) ≡ (a || (b || c))
    or_assoc true b c = refl
    or_assoc false b c = refl

-- word by word
pub any_words : (n : ℕ) (p : ℕ → Bool) → any n (λ k. any 32 (λ j. p (32 * k + j))) ≡ any (32 * n) p
unfolding any
any_words zero p = refl
any_words (suc n) p =
    let more : 32 * suc n ≡ 32 * n + 32 = omega arith in
    ap (λ b. any 32 (λ j. p (32 * n + j)) || b) (any_words n p) ∙ sym (any_add (32 * n) 32 p) ∙ ap (λ k. any k p) (sym more)

-- numbers past n that do not pass may be left out
pub any_off : (n k : ℕ) (p : ℕ → Bool) → ((d : ℕ) → n ≤ d → p d ≡ false) → any (n + k) p ≡ any n p
any_off n k p h = any_add n k p ∙ ap (λ b. b || any n p) (none_passes k (λ j. p (n + j)) (λ j l. h (n + j) (omega arith)))
