-- Twins: move i at c turns c and i. Assumes nothing.
use Rattle.std.specs.Prelude.{ℕ, ◌-◌, ◌||◌, ◌==◌}
use Rattle.games.specs.Rules.{Rules}
use Rattle.games.specs.Rows.{RowRule, row_game_of}
use Rattle.games.specs.declared.row_game.RowGame.{RowGame}
use Rattle.games.specs.declared.twins.TwinsRule.{TwinsRule}

-- the rule of Twins
abbrev pub twins_rule : RowRule
twins_rule = record {
  ceiling = λ size. size - 1;
  count = λ c. c;
  turns = λ c i d. (d == c) || d == i;
  value = λ c. c;
}

-- Twins on a row of that many cells
abbrev pub twins : ℕ → Rules
twins size = row_game_of twins_rule size

-- the type of these games
abbrev pub Twins : Type 0
Twins = RowGame TwinsRule

-- the game that a value of the type stands for
abbrev pub twins_of : Twins → Rules
twins_of g = twins g.row.size
