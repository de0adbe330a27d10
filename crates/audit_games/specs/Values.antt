-- What the moves of a game alone give to its cells. Assumes nothing.
use Rattle.std.specs.Prelude.{◌≡◌, ℕ, ◌-◌, ◌^◌, ◌<◌, List, length, ◌≢◌, slice_index}
use Rattle.games.specs.Rules.{Rules, sum_held}

-- the rest of move i at c, where the values of the cells below c are listed
abbrev pub rest_by : Rules → List ℕ → ℕ → ℕ → ℕ
rest_by G values c i = sum_held c (G.holds c i) (λ d. slice_index values d)

-- v is the smallest number that is no rest of a move at c
abbrev pub IsSmallest : Rules → List ℕ → ℕ → ℕ → Type 0
IsSmallest G values c v =
    ((i : ℕ) → i < G.count c → rest_by G values c i ≢ v) × ((n : ℕ) → n < v → (i : ℕ) × (i < G.count c) × (rest_by G values c i ≡ n))

-- every number below 2 ^ 32 - 1 is the rest of a move at c
abbrev pub EveryRest : Rules → List ℕ → ℕ → Type 0
EveryRest G values c = (n : ℕ) → n < 2 ^ 32 - 1 → (i : ℕ) × (i < G.count c) × (rest_by G values c i ≡ n)

-- the numbers listed are the values of the cells below c
abbrev pub AreValues : Rules → List ℕ → ℕ → Type 0
AreValues G values c = (length values ≡ c) × ((b : ℕ) → b < c → IsSmallest G values b (slice_index values b))

-- a cell below end has no value below 2 ^ 32 - 1
abbrev pub NoValue : Rules → ℕ → Type 0
NoValue G end = (c : ℕ) × (c < end) × (values : List ℕ) × AreValues G values c × EveryRest G values c
