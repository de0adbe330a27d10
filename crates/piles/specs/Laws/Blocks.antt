-- Nim sums over blocks of cells, and statements that hold of the same numbers. Assumes nothing.
use Rattle.std.specs.Prelude.{◌≡◌, ℕ, zero, suc, ◌+◌, ◌*◌, ◌/◌, ◌%◌, ◌<◌, Bool, true, false, cond, ◌&&◌, refl}
use Rattle.std.proofs.Common.{sym, ap, ◌∙◌, add-zero, add-suc, zero-mul, suc-mul, lit<}
use Rattle.std.proofs.Math.Arith.{digits_div, digits_mod}
use Rattle.std.specs.Int.Bits.{xor_assoc, xor_zero_r}
use Rattle.nimber_field.specs.Missing.{Missing}
use Rattle.nimber_field.specs.Nimber.{◌⊕◌, ◌⊗◌}
use Rattle.nimber_field.proofs.Conway.{nimber_field}
use Rattle.nimber_field.proofs.Products.{Small, product_zero, zero_product, distributes_left}
use Rattle.games.specs.Rules.{nim_sum, sum_held}
use Rattle.games.specs.Laws.Sums.{sum_same, sum_below}

-- the sum over m + n numbers is that over the first m and that over the next n
pub sum_append : (m n : ℕ) (f : ℕ → ℕ) → nim_sum (m + n) f ≡ nim_sum m f ⊕ nim_sum n (λ d. f (m + d))
unfolding nim_sum
sum_append m zero f = ap (λ k. nim_sum k f) (add-zero m) ∙ sym (xor_zero_r (nim_sum m f))
sum_append m (suc n) f =
    ap (λ k. nim_sum k f) (add-suc m n) ∙ ap (λ s. s ⊕ f (m + n)) (sum_append m n f)
    ∙ xor_assoc (nim_sum m f) (nim_sum n (λ d. f (m + d))) (f (m + n))

pub missing_of : (P Q : ℕ → Type 0) (n : ℕ) → ((w : ℕ) → P w → Q w) → ((w : ℕ) → Q w → P w) → Missing P n → Missing Q n
missing_of P Q n to from h = record { misses = λ q. h.misses (from n q); smallest = λ m l. to m (h.smallest m l) }

-- a number times a sum
pub sum_scaled : (u n : ℕ) (f : ℕ → ℕ) → Small u → ((d : ℕ) → Small (f d)) → nim_sum n (λ d. u ⊗ f d) ≡ u ⊗ nim_sum n f
unfolding nim_sum
sum_scaled u zero f hu hf = sym (product_zero u hu)
sum_scaled u (suc n) f hu hf =
    ap (λ s. s ⊕ (u ⊗ f n)) (sum_scaled u n f hu hf) ∙ sym (nimber_field.distributive u (nim_sum n f) (f n) hu (sum_below 32 n f (λ d l. hf d)) (hf n))

-- a value that is held or is 0
held_small : (b : Bool) (v : ℕ) → Small v → Small (cond b v 0)
held_small true v h = h
held_small false v h = lit< tt

held_product : (p q : Bool) (u v : ℕ) → Small u → Small v → cond (p && q) (u ⊗ v) 0 ≡ cond p u 0 ⊗ cond q v 0
held_product true true u v hu hv = refl
held_product true false u v hu hv = sym (product_zero u hu)
held_product false q u v hu hv = sym (zero_product (cond q v 0) (held_small q v hv))

pub held_sum_small : (n : ℕ) (s : ℕ → Bool) (f : ℕ → ℕ) → ((d : ℕ) → Small (f d)) → Small (sum_held n s f)
held_sum_small n s f hf = sum_below 32 n (λ d. cond (s d) (f d) 0) (λ d l. held_small (s d) (f d) (hf d))

-- the sum of products over a product of sets is the product of the sums
pub sum_crossed : (m n : ℕ) (s t : ℕ → Bool) (f g : ℕ → ℕ) → ((d : ℕ) → Small (f d)) → ((d : ℕ) → Small (g d))
    → sum_held (m * n) (λ d. s (d / n) && t (d % n)) (λ d. f (d / n) ⊗ g (d % n)) ≡ sum_held m s f ⊗ sum_held n t g
unfolding nim_sum
sum_crossed zero n s t f g hf hg =
    ap (λ k. sum_held k (λ d. s (d / n) && t (d % n)) (λ d. f (d / n) ⊗ g (d % n))) (zero-mul n)
    ∙ sym (zero_product (sum_held n t g) (held_sum_small n t g hg))
sum_crossed (suc m) n s t f g hf hg =
    ap (λ k. nim_sum k term) (suc-mul m n) ∙ sum_append (m * n) n term
    ∙ (λ i. sum_crossed m n s t f g hf hg i ⊕ row i)
    ∙ sym (distributes_left (sum_held m s f) (cond (s m) (f m) 0) (sum_held n t g) (held_sum_small m s f hf) (held_small (s m) (f m) (hf m)) (held_sum_small n t g hg))
  where
    term : ℕ → ℕ
    term d = cond (s (d / n) && t (d % n)) (f (d / n) ⊗ g (d % n)) 0

    at : (e : ℕ) → e < n → term (m * n + e) ≡ cond (s m) (f m) 0 ⊗ cond (t e) (g e) 0
    at e l =
        (λ i. cond (s (digits_div m l i) && t (digits_mod m l i)) (f (digits_div m l i) ⊗ g (digits_mod m l i)) 0)
        ∙ held_product (s m) (t e) (f m) (g e) (hf m) (hg e)

    row : nim_sum n (λ e. term (m * n + e)) ≡ cond (s m) (f m) 0 ⊗ sum_held n t g
    row =
        sum_same n (λ e. term (m * n + e)) (λ e. cond (s m) (f m) 0 ⊗ cond (t e) (g e) 0) at
        ∙ sum_scaled (cond (s m) (f m) 0) n (λ e. cond (t e) (g e) 0) (held_small (s m) (f m) (hf m)) (λ e. held_small (t e) (g e) (hg e))
