-- Games on one row of cells. Assumes nothing.
use Rattle.std.specs.Prelude.{◌≡◌, ℕ, zero, suc, ◌^◌, ◌<◌, ◌≤◌, Bool, true, false, cond, ◌&&◌, ◌≢◌, Some, None, Option, nat_eq, nat_le, nat_lt}
use Rattle.games.specs.Rules.{Rules, sum_held}

-- how many cells a row of this width has: none above 64
abbrev pub board : ℕ → ℕ
board width = cond (nat_le width 64) width 0

-- n at a cell of a row of that many cells, and 0 off it
abbrev pub on : ℕ → ℕ → ℕ → ℕ
on size c n = cond (nat_lt c size) n 0

-- the move n where the test holds, else none
abbrev pub listed : Bool → ℕ → Option ℕ
listed true n = Some n
listed false n = None

-- the first of the numbers below n that passes the test, and n where none does
unfoldable pub first : ℕ → (ℕ → Bool) → ℕ
first zero p = 0
first (suc n) p = cond (p 0) 0 (suc (first n (λ i. p (suc i))))

-- the game on a row by what it has at each of its cells: counts, moves and values; the reply is the lowest move that fits
abbrev pub row_game : (size ceiling : ℕ) (count : ℕ → ℕ) (turns : ℕ → ℕ → ℕ → Bool) (value : ℕ → ℕ) → Rules
row_game size ceiling count turns value = record {
  cells = size;
  ceiling = ceiling;
  count = λ c. on size c (count c);
  holds = λ c i d. nat_lt i (on size c (count c)) && turns c i d;
  worth = λ c. on size c (value c);
  answer = λ c w. listed (nat_lt w (on size c (value c))) (first (count c) (λ i. nat_eq (sum_held c (turns c i) value) w));
}

-- the rule of such games, which a row of any size can have: the limit of the counts on a row of that size,
-- and how many moves a cell has, whether move i at c turns d, and the value of a cell
pub record RowRule : Type 0 where
  pub ceiling : ℕ → ℕ
  pub count : ℕ → ℕ
  pub turns : ℕ → ℕ → ℕ → Bool
  pub value : ℕ → ℕ

-- the game by that rule on a row of that many cells
abbrev pub row_game_of : RowRule → ℕ → Rules
row_game_of R size = row_game size (R.ceiling size) R.count R.turns R.value

-- the rest of move i at c by that rule
abbrev pub rest_by : RowRule → ℕ → ℕ → ℕ
rest_by R c i = sum_held c (R.turns c i) R.value

-- i is the lowest move at c whose rest is w
pub record LowestMove (R : RowRule) (c w i : ℕ) : Type 0 where
  pub numbered : i < R.count c
  pub fits : rest_by R c i ≡ w
  pub lowest : (j : ℕ) → j < i → rest_by R c j ≢ w

-- what a rule keeps at the cells of a row of that size
pub record RowLaws (R : RowRule) (size : ℕ) : Type 0 where
  pub few : (c : ℕ) → c < size → R.count c ≤ R.ceiling size
  pub own : (c i : ℕ) → c < size → i < R.count c → R.turns c i c ≡ true
  pub not_above : (c i d : ℕ) → c < size → i < R.count c → R.turns c i d ≡ true → d ≤ c
  pub nimber : (c : ℕ) → c < size → R.value c < 2 ^ 32
  pub misses : (c i : ℕ) → c < size → i < R.count c → rest_by R c i ≢ R.value c
  pub found : (c w : ℕ) → c < size → w < R.value c → (i : ℕ) × (i < R.count c) × (rest_by R c i ≡ w)
