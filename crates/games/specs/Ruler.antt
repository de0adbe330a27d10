-- Ruler: move i at c turns the cells from c − i to c. Assumes nothing.
use Rattle.std.specs.Prelude.{◌≡◌, ℕ, ◌+◌, ◌-◌, ◌*◌, ◌/◌, ◌%◌, ◌^◌, ◌<◌, Bool, ◌&&◌, ◌≢◌, nat_le}
use Rattle.std.specs.Int.Count.{count_trailing_zeros}
use Rattle.nimber_field.specs.Nimber.{◌⊕◌}
use Rattle.games.specs.Rules.{Rules}
use Rattle.games.specs.Rows.{RowRule, row_game_of}
use Rattle.games.specs.declared.row_game.RowGame.{RowGame}
use Rattle.games.specs.declared.ruler.RulerRule.{RulerRule}

-- whether d is a cell from c − i to c
abbrev pub run : ℕ → ℕ → ℕ → Bool
run c i d = nat_le (c - i) d && nat_le d c

-- two to the number of zeros that c + 1 ends with, in binary
abbrev pub mark : ℕ → ℕ
mark c = 2 ^ count_trailing_zeros 32 (c + 1)

-- the rule of Ruler
abbrev pub ruler_rule : RowRule
ruler_rule = record { ceiling = λ size. size; count = λ c. c + 1; turns = run; value = mark }

-- Ruler on a row of that many cells
abbrev pub ruler : ℕ → Rules
ruler size = row_game_of ruler_rule size

-- the type of these games
abbrev pub Ruler : Type 0
Ruler = RowGame RulerRule

-- the game that a value of the type stands for
abbrev pub ruler_of : Ruler → Rules
ruler_of g = ruler g.row.size

-- the Gray code of n
abbrev pub gray : ℕ → ℕ
gray n = n ⊕ n / 2

-- v is the largest power of two that divides n
pub record LargestPower (n v : ℕ) : Type 0 where
  pub exponent : ℕ
  pub power : v ≡ 2 ^ exponent
  pub divides : n % v ≡ 0
  pub largest : n % (2 * v) ≢ 0

-- the value of each cell c is the largest power of two that divides c + 1
abbrev pub PowerValues : Rules → Type 0
PowerValues G = (c : ℕ) → c < G.cells → LargestPower (c + 1) (G.worth c)
