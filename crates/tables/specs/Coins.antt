-- The coins that a position keeps. Assumes nothing.
use Rattle.std.specs.Prelude.{ℕ, Bool, false, ◌&&◌}
use Rattle.games.specs.Cells.{held, only}
use Rattle.play.specs.Play.{Coins}
use Rattle.tables.specs.declared.position.Position.{Position}

-- a coin shows heads where its cell is held
abbrev pub coins : Position → Coins
coins p = held p.cells

-- no coin shows heads
abbrev pub all_tails : Coins
all_tails c = false

-- the one coin d, where a set holds it
abbrev pub one_held : (ℕ → Bool) → ℕ → ℕ → Bool
one_held set d e = set d && only d e
