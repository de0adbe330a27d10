-- Take: a move turns c and a cell that lies below it by an amount of a set. Assumes nothing.
use Rattle.std.specs.Prelude.{◌≡◌, ℕ, zero, suc, ◌+◌, ◌-◌, ◌<◌, ◌≤◌, Bool, true, cond, ◌&&◌, ◌||◌, ◌⊎◌, Decides, ◌==◌, count_ones}
use Rattle.games.specs.Rules.{Rules}
use Rattle.games.specs.Rows.{on, RowRule, row_game_of}
use Rattle.games.specs.TakeValues.{amount, amounts_up_to, smaller, take_value}
use Rattle.games.specs.declared.row_game.RowGame.{RowGame}
use Rattle.games.specs.declared.take.TakeRule.{TakeRule}

-- whether move i at c turns d: it is c, or it lies below c by the amount that has i smaller ones
abbrev pub taken : (set c i d : ℕ) → Bool
taken set c i d = d == c || (amount set (c - d) && (smaller set (c - d)) == i)

-- the rule of Take with a set of amounts
abbrev pub take_rule : ℕ → RowRule
take_rule set = record {
  ceiling = λ size. on size 0 (count_ones set);
  count = amounts_up_to set;
  turns = taken set;
  value = take_value set;
}

-- Take with a set of amounts on a row of that many cells
abbrev pub take_game : (size set : ℕ) → Rules
take_game size set = row_game_of (take_rule set) size

-- the type of these games
abbrev pub Take : Type 0
Take = RowGame TakeRule

-- the game that a value of the type stands for
abbrev pub take_of : Take → Rules
take_of g = take_game g.row.size g.rule.set.bits

-- how many of the numbers from 1 to n are amounts of the set
unfoldable pub how_many : (set n : ℕ) → ℕ
how_many set zero = 0
how_many set (suc n) = how_many set n + cond (amount set (suc n)) 1 0

-- the moves of a game on a row are the amounts of a set: at c there are as many as amounts not above c,
-- and for each such amount s the move whose number is how many are smaller turns c and c - s
pub record ByAmounts (size set : ℕ) (G : Rules) : Type 0 where
  pub counted : (c : ℕ) → c < size → G.count c ≡ how_many set c
  pub numbered : (c s : ℕ) → c < size → s ≤ c → amount set s ≡ true → how_many set (s - 1) < G.count c
  pub turned : (c s d : ℕ) → c < size → s ≤ c → amount set s ≡ true
      → Decides (G.holds c (how_many set (s - 1)) d) ((d ≡ c) ⊎ (d ≡ c - s))
