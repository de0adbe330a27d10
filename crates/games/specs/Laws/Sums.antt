-- Nim sums over sets of cells. Assumes nothing.
use Rattle.std.specs.Prelude.{◌≡◌, ℕ, zero, suc, ◌^◌, ◌<◌, ◌≤◌, Bool, true, false, cond, ◌≢◌, bit_xor, refl}
use Rattle.std.proofs.Math.Path.{sym, ap}
use Rattle.std.proofs.Common.{◌∙◌, subst, pow_pos}
use Rattle.std.proofs.Math.Decide.{ℕ_discrete}
use native.Mathlib.Omega.{arith}
use Rattle.std.specs.Int.Bits.{xor_zero_l, xor_zero_r, xor_assoc, xor_self}
use Rattle.std.proofs.lemmas.Nat.{xor_lt}
use Rattle.nimber_field.specs.Nimber.{◌⊕◌}
use Rattle.games.specs.Rules.{nim_sum, sum_held}

-- equal terms have equal sums
pub sum_same : (n : ℕ) (f g : ℕ → ℕ) → ((d : ℕ) → d < n → f d ≡ g d) → nim_sum n f ≡ nim_sum n g
unfolding nim_sum
sum_same zero f g h = refl
sum_same (suc n) f g h = λ i. bit_xor (sum_same n f g (λ d l. h d (omega arith)) i) (h n (omega arith) i)

pub sum_below : (k n : ℕ) (f : ℕ → ℕ) → ((d : ℕ) → d < n → f d < 2 ^ k) → nim_sum n f < 2 ^ k
unfolding nim_sum
sum_below k zero f h = pow_pos k
sum_below k (suc n) f h = xor_lt k (nim_sum n f) (f n) (sum_below k n f (λ d l. h d (omega arith))) (h n (omega arith))

pub sum_zero : (n : ℕ) (f : ℕ → ℕ) → ((d : ℕ) → d < n → f d ≡ 0) → nim_sum n f ≡ 0
unfolding nim_sum
sum_zero zero f h = refl
sum_zero (suc n) f h = λ i. bit_xor (sum_zero n f (λ d l. h d (omega arith)) i) (h n (omega arith) i)

-- a set by what it holds below n
abbrev pub Lacks : ℕ → (ℕ → Bool) → Type 0
Lacks n s = (d : ℕ) → d < n → s d ≡ false

module _ (f : ℕ → ℕ) where
  -- the last cell is held, or is not
  pub held_last : (n : ℕ) (s : ℕ → Bool) → s n ≡ true → sum_held (suc n) s f ≡ sum_held n s f ⊕ f n
  unfolding nim_sum
  held_last n s e = ap (λ b. sum_held n s f ⊕ cond b (f n) 0) e

  pub lacks_last : (n : ℕ) (s : ℕ → Bool) → s n ≡ false → sum_held (suc n) s f ≡ sum_held n s f
  unfolding nim_sum
  lacks_last n s e = ap (λ b. sum_held n s f ⊕ cond b (f n) 0) e ∙ xor_zero_r (sum_held n s f)

  pub sum_none : (n : ℕ) (s : ℕ → Bool) → Lacks n s → sum_held n s f ≡ 0
  sum_none n s h = sum_zero n (λ d. cond (s d) (f d) 0) (λ d l. ap (λ b. cond b (f d) 0) (h d l))

  -- cells that the set lacks from m up add nothing
  pub sum_past : (m n : ℕ) (s : ℕ → Bool) → m ≤ n → ((d : ℕ) → m ≤ d → d < n → s d ≡ false) → sum_held n s f ≡ sum_held m s f
  sum_past m zero s l h = ap (λ k. sum_held k s f) (omega arith)
  sum_past m (suc n) s l h = by_end (ℕ_discrete m (suc n)) (λ k. sum_past m n s k (λ d a b. h d a (omega arith)))
    where
      by_end : Dec (m ≡ suc n) → (m ≤ n → sum_held n s f ≡ sum_held m s f) → sum_held (suc n) s f ≡ sum_held m s f
      by_end (yes e) ih = ap (λ k. sum_held k s f) (sym e)
      by_end (no e) ih = lacks_last n s (h n (omega arith) (omega arith)) ∙ ih (omega arith)

  -- one cell is held
  pub sum_one : (n a : ℕ) (s : ℕ → Bool) → a < n → s a ≡ true → ((d : ℕ) → d < n → d ≢ a → s d ≡ false) → sum_held n s f ≡ f a
  sum_one n a s l e h =
      sum_past (suc a) n s l (λ d p q. h d q (omega arith)) ∙ held_last a s e
      ∙ ap (λ m. m ⊕ f a) (sum_none a s (λ d p. h d (omega arith) (omega arith))) ∙ xor_zero_l (f a)

  -- two cells are held
  pub sum_two : (n a b : ℕ) (s : ℕ → Bool) → a < b → b < n → s a ≡ true → s b ≡ true
      → ((d : ℕ) → d < n → d ≢ a → d ≢ b → s d ≡ false) → sum_held n s f ≡ f a ⊕ f b
  sum_two n a b s k l p q h =
      sum_past (suc b) n s l (λ d u v. h d v (omega arith) (omega arith)) ∙ held_last b s q
      ∙ ap (λ m. m ⊕ f b) (sum_one b a s k p (λ d u v. h d (omega arith) v (omega arith)))

  -- the cells from m up are held: what lies below m cancels
  pub sum_from : (m n : ℕ) (s : ℕ → Bool) → m ≤ n → Lacks m s → ((d : ℕ) → m ≤ d → d < n → s d ≡ true) → sum_held n s f ≡ nim_sum m f ⊕ nim_sum n f
  unfolding nim_sum
  sum_from m zero s l lacks held = let e : m ≡ 0 = omega arith in sym (ap (λ k. nim_sum k f ⊕ 0) e)
  sum_from m (suc n) s l lacks held = by_end (ℕ_discrete m (suc n)) (λ k. sum_from m n s k lacks (λ d a b. held d a (omega arith)))
    where
      by_end : Dec (m ≡ suc n) → (m ≤ n → sum_held n s f ≡ nim_sum m f ⊕ nim_sum n f) → sum_held (suc n) s f ≡ nim_sum m f ⊕ nim_sum (suc n) f
      by_end (yes e) ih =
          sum_none (suc n) s (subst (λ k. Lacks k s) e lacks) ∙ sym (xor_self (nim_sum (suc n) f)) ∙ ap (λ k. nim_sum k f ⊕ nim_sum (suc n) f) (sym e)
      by_end (no e) ih =
          held_last n s (held n (omega arith) (omega arith)) ∙ ap (λ k. k ⊕ f n) (ih (omega arith)) ∙ xor_assoc (nim_sum m f) (nim_sum n f) (f n)

  -- a set whose highest cell is c
  pub sum_whole : (n : ℕ) (s : ℕ → Bool) (c : ℕ) → c < n → s c ≡ true → ((d : ℕ) → s d ≡ true → d ≤ c) → sum_held n s f ≡ sum_held c s f ⊕ f c
  sum_whole n s c l own highest = sum_past (suc c) n s l (λ d a b. above d a (s d) refl) ∙ held_last c s own
    where
      above : (d : ℕ) → suc c ≤ d → (b : Bool) → s d ≡ b → b ≡ false
      above d a true e = absurd (omega (arith, highest d e))
      above d a false e = refl
