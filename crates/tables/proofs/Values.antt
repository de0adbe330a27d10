-- What a call does to the value that a table keeps. Assumes nothing.
use Rattle.std.proofs.Common.{◌≡◌, ℕ, ◌<◌, ◌&&◌, sym, refl, ap, ◌∙◌, arith, lt-ltb, eq-eqb, ne_eqb}
use mathlib.Core.HLevel.{is_prop→PathP}
use Rattle.std.proofs.Math.Nat.{ℕ_set}
use Rattle.nimber_field.specs.Nimber.{◌⊕◌}
use Rattle.games.specs.Rules.{Rules, Lawful}
use Rattle.games.specs.Laws.Sums.{sum_none, sum_one}
use Rattle.games.specs.Cells.{only}
use Rattle.play.specs.Play.{Coins, turned, position_value}
use Rattle.play.proofs.Turning.{sum_turned}
use Rattle.tables.specs.Coins.{all_tails, coins}
use Rattle.tables.specs.declared.table.Table.{Table}

-- where all coins show tails the value is 0
pub value_of_tails : (G : Rules) (u : Coins) → u ≡ all_tails → 0 ≡ position_value G u
value_of_tails G u e = sym (ap (position_value G) e ∙ sum_none G.worth G.cells all_tails (λ d l. refl))

-- turning a set adds the value of its cells
pub value_turned : (G : Rules) (u next s : Coins) (kept added : ℕ) → kept ≡ position_value G u → added ≡ position_value G s
    → next ≡ turned u s → kept ⊕ added ≡ position_value G next
value_turned G u next s kept added e f n = (λ i. e i ⊕ f i) ∙ sym (sum_turned G.cells u s G.worth) ∙ sym (ap (position_value G) n)

-- one cell adds its value
pub value_of_one : (G : Rules) → Lawful G → (c : ℕ) → c < G.cells → G.worth c ≡ position_value G (only c)
value_of_one G P c l =
    sym (sum_one G.worth G.cells c (only c) l
    (λ i. lt-ltb c 4096 (omega (arith, P.cells_bound)) i && eq-eqb c c refl i)
    (λ d m n. λ i. lt-ltb c 4096 (omega (arith, P.cells_bound)) i && ne_eqb d c n i))

-- tables of the same game, record and value are the same
pub same_table : {X : Type 0} {g : _} (a b : Table X g) → a.game ≡ b.game → a.kept ≡ b.kept → a.value ≡ b.value → a ≡ b
same_table {g = g} a b p q r = λ i. record {
  game = p i;
  kept = q i;
  value = r i;
  valued = is_prop→PathP (λ j. r j ≡ position_value (g.rules (p j)) (coins (q j).position)) (λ j. ℕ_set (r j) (position_value (g.rules (p j)) (coins (q j).position))) a.valued b.valued i;
}
