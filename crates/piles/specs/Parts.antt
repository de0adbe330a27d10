-- The game of a mixture that a cell belongs to. Assumes nothing.
use Rattle.std.specs.Prelude.{◌≡◌, ℕ, ◌-◌, ◌<◌, ◌≤◌, true}
use Rattle.games.specs.Rules.{Rules}
use Rattle.piles.specs.Layers.{mixes}
use Rattle.piles.specs.declared.mix.Part.{Part}
use Rattle.piles.specs.declared.mix.Part.TheVariants.{Left, Right}

-- the mixture has cells, and its cell c is this cell of that game
abbrev pub IsPart : Rules → Rules → ℕ → Part → Type 0
IsPart A B c (Left d) = (mixes A B ≡ true) × (c < A.cells) × (d ≡ c)
IsPart A B c (Right d) = (mixes A B ≡ true) × (A.cells ≤ c) × (d ≡ c - A.cells)
