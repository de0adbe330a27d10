-- What a coin-turning game is, what its values are, and what a reply is. Assumes nothing.
use Rattle.std.specs.Prelude.{◌≡◌, ℕ, zero, suc, ◌^◌, ◌<◌, ◌≤◌, Bool, true, cond, ◌≢◌, Some, None, Option}
use Rattle.nimber_field.specs.Missing.{Missing}
use Rattle.nimber_field.specs.Nimber.{◌⊕◌}

-- a game by its six questions: how many cells it has, the limit of its counts, how many moves a cell has,
-- whether move i at c turns d, the value of a cell, and the move at c that is the answer to w
pub record Rules : Type 0 where
  pub cells : ℕ
  pub ceiling : ℕ
  pub count : ℕ → ℕ
  pub holds : ℕ → ℕ → ℕ → Bool
  pub worth : ℕ → ℕ
  pub answer : ℕ → ℕ → Option ℕ

-- the nim sum of f over the numbers below n
unfoldable pub nim_sum : ℕ → (ℕ → ℕ) → ℕ
nim_sum zero f = 0
nim_sum (suc n) f = nim_sum n f ⊕ f n

-- the nim sum of the values of the cells below n that a set holds
abbrev pub sum_held : ℕ → (ℕ → Bool) → (ℕ → ℕ) → ℕ
sum_held n set worth = nim_sum n (λ d. cond (set d) (worth d) 0)

-- the rest of move i at c: the nim sum of the values of its other cells, all of which lie below c
abbrev pub rest : Rules → ℕ → ℕ → ℕ
rest G c i = sum_held c (G.holds c i) G.worth

-- w is the rest of some move at c
pub record IsRest (G : Rules) (c w : ℕ) : Type 0 where
  pub move : ℕ
  pub numbered : move < G.count c
  pub is : rest G c move ≡ w

-- what makes a game, and what its values are: a move holds its own cell and none above it, off the board there is nothing,
-- and the value of a cell is the smallest number that is not the rest of a move there
pub record Lawful (G : Rules) : Type 0 where
  pub cells_bound : G.cells ≤ 4096
  pub ceiling_bound : G.ceiling ≤ 4194303
  pub count_bound : (c : ℕ) → G.count c ≤ G.ceiling
  pub count_off : (c : ℕ) → G.cells ≤ c → G.count c ≡ 0
  pub worth_off : (c : ℕ) → G.cells ≤ c → G.worth c ≡ 0
  pub numbered : (c i d : ℕ) → G.holds c i d ≡ true → i < G.count c
  pub own : (c i : ℕ) → i < G.count c → G.holds c i c ≡ true
  pub not_above : (c i d : ℕ) → G.holds c i d ≡ true → d ≤ c
  pub nimber : (c : ℕ) → G.worth c < 2 ^ 32
  pub smallest : (c : ℕ) → Missing (IsRest G c) (G.worth c)

-- what is asked of any reply: none from the value up, else a move whose rest is w; which of several is free
abbrev pub FreeReply : Rules → ℕ → ℕ → Option ℕ → Type 0
FreeReply G c w None = G.worth c ≤ w
FreeReply G c w (Some i) = (w < G.worth c) × (i < G.count c) × (rest G c i ≡ w)

-- a game's replies are such
abbrev pub Replies : Rules → Type 0
Replies G = (c w : ℕ) → FreeReply G c w (G.answer c w)

-- the reply is the lowest number of a move whose rest is w
abbrev pub LowestReply : Rules → ℕ → ℕ → Option ℕ → Type 0
LowestReply G c w None = G.worth c ≤ w
LowestReply G c w (Some i) = (w < G.worth c) × (i < G.count c) × (rest G c i ≡ w) × ((j : ℕ) → j < i → rest G c j ≢ w)

-- a game's replies are such
abbrev pub LowestReplies : Rules → Type 0
LowestReplies G = (c w : ℕ) → LowestReply G c w (G.answer c w)
