-- Coins turned one by one. Assumes nothing.
use Rattle.std.proofs.Common.{◌≡◌, ℕ, zero, suc, ◌+◌, ◌<◌, ◌≤◌, Bool, true, false, ◌&&◌, cond, eqb, ltb, sym, refl, ap, ◌∙◌, add-one, arith, le-ltb, lt-ltb, eq-eqb, ne_eqb}
use mathlib.Core.Path.{fun_ext}
use native.Mathlib.Decide.{dec_lt, ℕ_discrete}
use Rattle.nimber_field.specs.Tower.{differ}
use Rattle.nimber_field.specs.Nimber.{◌⊕◌}
use Rattle.nimber_field.proofs.Sums.{differ_false}
use Rattle.games.specs.Cells.{held_below}
use Rattle.games.specs.Rules.{nim_sum, sum_held}
use Rattle.play.specs.Play.{Coins, turned}
use Rattle.tables.specs.Coins.{one_held}

and_false : (b : Bool) → (b && false) ≡ false
and_false true = refl
and_false false = refl

and_true : (b : Bool) → (b && true) ≡ b
and_true true = refl
and_true false = refl

pub none_below : (u s : Coins) → u ≡ turned u (held_below 0 s)
none_below u s = fun_ext (λ e. sym (ap (λ b. differ (u e) (b && s e)) (le-ltb e 0 (omega arith)) ∙ differ_false (u e)))

pub one_more : (u s : Coins) (d : ℕ) → d < 4096 → turned (turned u (held_below d s)) (one_held s d) ≡ turned u (held_below (d + 1) s)
one_more u s d l = fun_ext (λ e. at e (ℕ_discrete e d))
  where
    at : (e : ℕ) → Dec (e ≡ d) → differ (differ (u e) (ltb e d && s e)) (s d && (ltb d 4096 && eqb e d)) ≡ differ (u e) (ltb e (d + 1) && s e)
    at e (yes q) =
        (λ i. differ (differ (u e) (le-ltb e d (omega arith) i && s e)) (s (sym q i) && (lt-ltb d 4096 l i && eq-eqb e d q i)))
        ∙ (λ i. differ (differ_false (u e) i) (and_true (s e) i))
        ∙ ap (λ b. differ (u e) (b && s e)) (sym (lt-ltb e (d + 1) (omega arith)))
    at e (no n) =
        (λ i. differ (differ (u e) (ltb e d && s e)) (s d && (lt-ltb d 4096 l i && ne_eqb e d n i)))
        ∙ ap (differ (differ (u e) (ltb e d && s e))) (and_false (s d))
        ∙ differ_false (differ (u e) (ltb e d && s e))
        ∙ ap (λ b. differ (u e) (b && s e)) (same (dec_lt e d))
      where
        same : Dec (e < d) → ltb e d ≡ ltb e (d + 1)
        same (yes k) = lt-ltb e d k ∙ sym (lt-ltb e (d + 1) (omega arith))
        same (no k) = le-ltb e d (omega arith) ∙ sym (le-ltb e (d + 1) (omega arith))

pub all_below : (u s : Coins) (n : ℕ) → ((e : ℕ) → s e ≡ true → e < n) → turned u (held_below n s) ≡ turned u s
all_below u s n below = fun_ext (λ e. ap (differ (u e)) (at e (s e) refl))
  where
    at : (e : ℕ) (b : Bool) → s e ≡ b → (ltb e n && s e) ≡ s e
    at e true q = ap (λ b. b && s e) (lt-ltb e n (below e q))
    at e false q = ap (λ b. ltb e n && b) q ∙ and_false (ltb e n) ∙ sym q

-- one more term
pub term_more : (s : ℕ → Bool) (f : ℕ → ℕ) (d v w : ℕ) → v ≡ sum_held d s f → w ≡ cond (s d) (f d) 0 → v ⊕ w ≡ sum_held (d + 1) s f
unfolding nim_sum
term_more s f d v w p q = (λ i. p i ⊕ q i) ∙ ap (λ n. sum_held n s f) (sym (add-one d))

-- a set that holds no cell from n on
pub past_all : (s : ℕ → Bool) (n : ℕ) → ((e : ℕ) → s e ≡ true → e < n) → (d : ℕ) → n ≤ d → s d ≡ false
past_all s n below d l = at (s d) refl
  where
    at : (b : Bool) → s d ≡ b → b ≡ false
    at true q = absurd (omega (arith, below d q))
    at false q = refl
