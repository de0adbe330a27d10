-- What a list of numbers has and lacks. Assumes nothing.
use Rattle.std.specs.Prelude.{◌≡◌, ℕ, ◌<◌, List, length, ◌≢◌, slice_index}

-- n stands somewhere in the list
abbrev pub Has : List ℕ → ℕ → Type 0
Has xs n = (k : ℕ) × (k < length xs) × (slice_index xs k ≡ n)

-- n does not stand at any place below end
abbrev pub LacksBelow : List ℕ → ℕ → ℕ → Type 0
LacksBelow xs n end = (k : ℕ) → k < end → slice_index xs k ≢ n
