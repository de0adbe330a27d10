-- A position is lost exactly when its value is 0. Assumes nothing.
use mathlib.Core.Path.{◌≡◌, refl, sym, ap, ◌∙◌, subst}
use mathlib.Core.Bool.{Bool, true, false, cond, not}
use mathlib.Core.Logic.{◌≢◌}
use Prim.Native.Nat.{ℕ, zero, suc, ◌+◌, ◌^◌, ◌<◌}
use native.Mathlib.Decide.{ℕ_discrete}
use native.Mathlib.Nat.{two-pow-succ, pos_of_ne-zero}
use native.Mathlib.Omega.{arith}
use borrow.Author.Tests.{eqb-true, eqb-false}
use lib.Dec.{eqb}
use lib.Bits.{xor_comm, xor_zero_l}
use Rattle.nimber_field.specs.Tower.{differ}
use Rattle.nimber_field.specs.Nimber.{◌⊕◌}
use Rattle.nimber_field.proofs.Sums.{differ_false, sums, xor_equal}
use Rattle.games.specs.Rules.{Rules, Lawful, rest}
use Rattle.play.specs.Play.{Coins, after, Legal, Won, wins, Lost, loses, position_value, Decided, Decides}
use Rattle.play.proofs.Turning.{on_board, value_after, Lowers, lowers}

-- the heads read as binary digits
weight : ℕ → Coins → ℕ
weight zero u = 0
weight (suc n) u = weight n u + cond (u n) (2 ^ n) 0

weight_below : (n : ℕ) (u : Coins) → weight n u < 2 ^ n
unfolding weight
weight_below zero u = omega arith
weight_below (suc n) u = grind (arith, two-pow-succ n, weight_below n u)

-- it falls where the highest coin that changes goes to tails
weight_falls : (n c : ℕ) (u v : Coins) → c < n → u c ≡ true → v c ≡ false → ((d : ℕ) → c < d → v d ≡ u d) → weight n v < weight n u
unfolding weight
weight_falls zero c u v l h t same = absurd (omega arith)
weight_falls (suc n) c u v l h t same = by_last (ℕ_discrete c n) (λ k. weight_falls n c u v k h t same)
  where
    by_last : Dec (c ≡ n) → (c < n → weight n v < weight n u) → weight (suc n) v < weight (suc n) u
    by_last (yes e) ih =
        let gone : cond (v n) (2 ^ n) 0 ≡ 0 = cc in
        let there : cond (u n) (2 ^ n) 0 ≡ 2 ^ n = cc in
        omega (arith, weight_below n v)
    by_last (no e) ih =
        let equal : cond (v n) (2 ^ n) 0 ≡ cond (u n) (2 ^ n) 0 = cc (same n (omega arith)) in
        omega (arith, ih (omega arith))

module _ (G : Rules) (P : Lawful G) where
  -- a legal move brings the weight down
  move_falls : (u : Coins) (c i : ℕ) → Legal G u c i → weight G.cells (after G u c i) < weight G.cells u
  move_falls u c i l =
      weight_falls G.cells c u (after G u c i) (on_board G P c i l.numbered) l.heads
      (λ j. differ (l.heads j) (P.own c i l.numbered j)) (λ d k. above d k (G.holds c i d) refl)
    where
      above : (d : ℕ) → c < d → (b : Bool) → G.holds c i d ≡ b → differ (u d) (G.holds c i d) ≡ u d
      above d k true e = absurd (omega (arith, P.not_above c i d e))
      above d k false e = ap (differ (u d)) e ∙ differ_false (u d)

  -- from value 0 no move leads to value 0
  pub leaves_zero : (u : Coins) (c i : ℕ) → Legal G u c i → position_value G u ≡ 0 → position_value G (after G u c i) ≢ 0
  leaves_zero u c i l e z =
      (P.smallest c).misses (record {
        move = i;
        numbered = l.numbered;
        is = xor_equal (rest G c i) (G.worth c) (cc (value_after G P u c i l.numbered, xor_zero_l (rest G c i ⊕ G.worth c)));
      })

  -- a head whose value a move can bring down so that the position comes to value 0
  pub move_to_zero : (u : Coins) (c i : ℕ) → i < G.count c → rest G c i ≡ G.worth c ⊕ position_value G u → position_value G (after G u c i) ≡ 0
  move_to_zero u c i h e = value_after G P u c i h ∙ simp (e, sums)

  pub record Winner (u : Coins) : Type 0 where
    pub cell : ℕ
    pub on : cell < G.cells
    pub heads : u cell ≡ true
    pub lower : G.worth cell ⊕ position_value G u < G.worth cell

  pub winner : (u : Coins) → position_value G u ≢ 0 → Winner u
  winner u n = at (lowers G.cells (λ d. cond (u d) (G.worth d) 0) 0 (pos_of_ne-zero n))
    where
      at : Lowers G.cells (λ d. cond (u d) (G.worth d) 0) 0 → Winner u
      at r = by_coin (u r.term) refl r.lower
        where
          by_coin : (b : Bool) → u r.term ≡ b → position_value G u ⊕ cond b (G.worth r.term) 0 < cond b (G.worth r.term) 0 → Winner u
          by_coin true e l = record {
            cell = r.term;
            on = r.below;
            heads = e;
            lower = subst (λ m. m < G.worth r.term) (xor_comm (position_value G u) (G.worth r.term)) l;
          }
          by_coin false e l = absurd (omega arith)

  decide : (k : ℕ) (u : Coins) → weight G.cells u < k → (position_value G u ≡ 0 → Lost G u) × (position_value G u ≢ 0 → Won G u)
  decide zero u h = absurd (omega arith)
  decide (suc k) u h = (
    λ e. loses (λ c i l. (decide k (after G u c i) (omega (arith, move_falls u c i l))).1 (leaves_zero u c i l e)),
    λ n.
        let w = winner u n in
        let r = (P.smallest w.cell).smallest (G.worth w.cell ⊕ position_value G u) w.lower in
        let l : Legal G u w.cell r.move = record { heads = w.heads; numbered = r.numbered } in
        wins w.cell r.move l
        ((decide k (after G u w.cell r.move) (omega (arith, move_falls u w.cell r.move l))).0
        (move_to_zero u w.cell r.move r.numbered r.is)),
  )

  pub lost_of : (u : Coins) → position_value G u ≡ 0 → Lost G u
  lost_of u e = (decide (suc (weight G.cells u)) u (omega arith)).0 e

  pub won_of : (u : Coins) → position_value G u ≢ 0 → Won G u
  won_of u n = (decide (suc (weight G.cells u)) u (omega arith)).1 n

-- no position is both
mutual
  pub not_both : (G : Rules) {u : Coins} → Won G u → Lost G u → ⊥
  not_both G (wins c i l x) (loses f) = neither G x (f c i l)

  neither : (G : Rules) {u : Coins} → Lost G u → Won G u → ⊥
  neither G (loses f) (wins c i l x) = not_both G (f c i l) x

-- the positions of a value are won where it is not 0, and lost at 0
pub decides : (v : ℕ) → Decides (not (eqb v 0)) v
decides v G P u e = at (eqb v 0) refl
  where
    at : (b : Bool) → eqb v 0 ≡ b → Decided (not b) G u
    at true z =
        let l = lost_of G P u (e ∙ eqb-true v 0 z) in
        (l, λ w. not_both G w l)
    at false n =
        let w = won_of G P u (λ z. eqb-false v 0 n (sym e ∙ z)) in
        (w, λ l. not_both G w l)
