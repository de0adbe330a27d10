-- Sets of cells. Assumes nothing.
use Rattle.std.specs.Prelude.{ℕ, ◌-◌, ◌/◌, ◌%◌, ◌^◌, Bool, false, ◌&&◌, ◌==◌, nat_le, nat_lt, slice_index}
use Rattle.nimber_field.specs.Tower.{differ}
use Rattle.games.specs.declared.cells.Cells.{Cells}

-- a word's bit j is 1
abbrev pub marks : ℕ → ℕ → Bool
marks word j = word / 2 ^ j % 2 == 1

-- cell c is bit c % 32 of word c / 32: the set holds it where the bit is 1
unfoldable pub held : Cells → ℕ → Bool
held s c = marks (slice_index s.words (c / 32)) (c % 32)

-- no cell is held
abbrev pub no_cells : ℕ → Bool
no_cells c = false

-- the one cell c, where a set may hold it
abbrev pub only : ℕ → ℕ → Bool
only c d = nat_lt c 4096 && d == c

-- the cells that one of two sets holds, and not both
abbrev pub in_one : (ℕ → Bool) → (ℕ → Bool) → ℕ → Bool
in_one s t d = differ (s d) (t d)

-- the cells of a set, each raised by n, as far as a set may hold them
abbrev pub raised : ℕ → (ℕ → Bool) → ℕ → Bool
raised n s d = nat_lt d 4096 && (nat_le n d && s (d - n))

-- the cells from n on that the bits of a word mark
abbrev pub marked_from : ℕ → ℕ → ℕ → Bool
marked_from n word d = raised n (marks word) d

-- the cells below n that a set holds
abbrev pub held_below : ℕ → (ℕ → Bool) → ℕ → Bool
held_below n set d = nat_lt d n && set d
