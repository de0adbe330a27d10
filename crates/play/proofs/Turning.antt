-- What a move does to the value of a position, and that some head can bring the value to any smaller number. Assumes nothing.
use mathlib.Core.Path.{◌≡◌, refl, sym, ap, ◌∙◌, subst}
use mathlib.Core.Bool.{Bool, true, false, cond}
use mathlib.Core.Logic.{◌⊎◌, inl, inr}
use Prim.Native.Nat.{ℕ, zero, suc, ◌<◌}
use native.Mathlib.Nat.{lt_of_not-le}
use native.Mathlib.Omega.{arith}
use lib.Bits.{xor_self, xor_zero_l, xor_zero_r}
use Rattle.nimber_field.specs.Tower.{differ}
use Rattle.nimber_field.specs.Nimber.{◌⊕◌}
use Rattle.nimber_field.proofs.Sums.{sums}
use Rattle.nimber_field.proofs.Below.{xor_below}
use Rattle.games.specs.Rules.{Rules, Lawful, nim_sum, sum_held, rest}
use Rattle.games.specs.Laws.Sums.{sum_whole}
use Rattle.play.specs.Play.{Coins, turned, after, position_value}

held_differ : (p q : Bool) (v : ℕ) → cond (differ p q) v 0 ≡ cond p v 0 ⊕ cond q v 0
held_differ true true v = sym (xor_self v)
held_differ true false v = sym (xor_zero_r v)
held_differ false q v = sym (xor_zero_l (cond q v 0))

-- turning a set adds its sum
pub sum_turned : (n : ℕ) (u s : Coins) (f : ℕ → ℕ) → sum_held n (turned u s) f ≡ sum_held n u f ⊕ sum_held n s f
unfolding nim_sum
sum_turned zero u s f = refl
sum_turned (suc n) u s f =
    cc (sum_turned n u s f, held_differ (u n) (s n) (f n), exchange (sum_held n u f) (sum_held n s f) (cond (u n) (f n) 0) (cond (s n) (f n) 0))
  where
    exchange : (a b c d : ℕ) → (a ⊕ b) ⊕ (c ⊕ d) ≡ (a ⊕ c) ⊕ (b ⊕ d)
    exchange a b c d = simp sums

-- a cell with a move is on the board
pub on_board : (G : Rules) → Lawful G → (c i : ℕ) → i < G.count c → c < G.cells
on_board G P c i h = lt_of_not-le (λ l. omega (arith, P.count_off c l))

-- a move adds the value of its cell and its rest
pub value_after : (G : Rules) → Lawful G → (u : Coins) (c i : ℕ) → i < G.count c
    → position_value G (after G u c i) ≡ position_value G u ⊕ (rest G c i ⊕ G.worth c)
value_after G P u c i h =
    sum_turned G.cells u (G.holds c i) G.worth
    ∙ ap (λ s. position_value G u ⊕ s)
    (sum_whole G.worth G.cells (G.holds c i) c (on_board G P c i h) (P.own c i h) (λ d e. P.not_above c i d e))

-- a term that can bring a sum down to y
pub record Lowers (n : ℕ) (f : ℕ → ℕ) (y : ℕ) : Type 0 where
  pub term : ℕ
  pub below : term < n
  pub lower : (y ⊕ nim_sum n f) ⊕ f term < f term

pub lowers : (n : ℕ) (f : ℕ → ℕ) (y : ℕ) → y < nim_sum n f → Lowers n f y
unfolding nim_sum
lowers zero f y h = absurd (omega arith)
lowers (suc n) f y h = by_side (xor_below y (nim_sum n f) (f n) h) (lowers n f (y ⊕ f n))
  where
    left : y ⊕ f n ⊕ nim_sum n f ≡ y ⊕ (nim_sum n f ⊕ f n)
    left = simp sums

    right : y ⊕ nim_sum n f ≡ y ⊕ (nim_sum n f ⊕ f n) ⊕ f n
    right = simp sums

    by_side : (y ⊕ f n < nim_sum n f) ⊎ (y ⊕ nim_sum n f < f n) → (y ⊕ f n < nim_sum n f → Lowers n f (y ⊕ f n)) → Lowers (suc n) f y
    by_side (inl l) ih =
        let r = ih l in
        record { term = r.term; below = omega (arith, r.below); lower = subst (λ s. s ⊕ f r.term < f r.term) left r.lower }
    by_side (inr l) ih = record { term = n; below = omega arith; lower = subst (λ s. s < f n) right l }
