-- Turtles: a move turns one, two or three coins. Assumes nothing.
use Rattle.std.specs.Prelude.{◌≡◌, ℕ, ◌+◌, ◌-◌, ◌*◌, ◌/◌, ◌%◌, ◌^◌, ◌<◌, ◌≤◌, Bool, cond, ◌&&◌, ◌||◌, ltb, ◌==◌, count_ones, nat_le, nat_lt}
use Rattle.games.specs.Rules.{Rules}
use Rattle.games.specs.Rows.{on, first, RowRule, row_game_of}
use Rattle.games.specs.declared.row_game.RowGame.{RowGame}
use Rattle.games.specs.declared.turtles.TurtlesRule.{TurtlesRule}

-- how many pairs of numbers lie below n
abbrev pub pairs : ℕ → ℕ
pairs n = n * (n - 1) / 2

-- the larger number of pair n, where the pairs of numbers below 64 are listed by the larger and then by the smaller
unfoldable pub larger : ℕ → ℕ
larger n = first 64 (λ b. ltb n (pairs (b + 1)))

-- whether d is one of the two numbers of pair n
abbrev pub in_pair : ℕ → ℕ → Bool
in_pair n d = d == larger n || d == n - pairs (larger n)

-- how many moves there are at c: one of one coin, c of two, and the rest of three
abbrev pub moves : ℕ → ℕ
moves c = 1 + c + pairs c

-- whether move i at c turns d besides c: move 0 turns nothing else, moves 1 to c turn i − 1, and the moves above turn a pair
abbrev pub besides : ℕ → ℕ → ℕ → Bool
besides c i d = nat_lt 0 i && cond (nat_le i c) (d == i - 1) (in_pair (i - c - 1) d)

-- whether move i at c turns d
abbrev pub turned : ℕ → ℕ → ℕ → Bool
turned c i d = d == c || besides c i d

-- n has an odd number of ones in binary
abbrev pub is_odious : ℕ → Bool
is_odious n = count_ones n % 2 == 1

-- the value of c: whichever of 2c and 2c + 1 has an odd number of ones
unfoldable pub odious : ℕ → ℕ
odious c = cond (is_odious (2 * c)) (2 * c) (2 * c + 1)

-- r is the highest power of two up to n
pub record TopPower (n r : ℕ) : Type 0 where
  pub place : ℕ
  pub power : r ≡ 2 ^ place
  pub up_to : r ≤ n
  pub top : n < 2 * r

-- the rule of Turtles
abbrev pub turtles_rule : RowRule
turtles_rule = record { ceiling = λ size. on size 0 (moves (size - 1)); count = moves; turns = turned; value = odious }

-- Turtles on a row of that many cells
abbrev pub turtles : ℕ → Rules
turtles size = row_game_of turtles_rule size

-- the type of these games
abbrev pub Turtles : Type 0
Turtles = RowGame TurtlesRule

-- the game that a value of the type stands for
abbrev pub turtles_of : Turtles → Rules
turtles_of g = turtles g.row.size

-- move c + 1 + b(b − 1)/2 + a at c turns a, b and c
abbrev pub TurnsThree : Rules → Type 0
TurnsThree G = (a b c d : ℕ) → a < b → b < c → c < G.cells → G.holds c (c + 1 + pairs b + a) d ≡ (d == a || (d == b || d == c))
