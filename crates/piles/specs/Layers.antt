-- Mixtures and products of two games. Assumes nothing.
use Rattle.std.specs.Prelude.{◌≡◌, ℕ, ◌+◌, ◌-◌, ◌*◌, ◌/◌, ◌%◌, ◌<◌, max, Bool, true, false, cond, ◌&&◌, ltb, Some, None, Option, nat_le, nat_lt}
use Rattle.nimber_field.specs.Missing.{Missing}
use Rattle.nimber_field.specs.Nimber.{◌⊕◌, ◌⊗◌, inverse_of}
use Rattle.games.specs.Rules.{Rules, IsRest, Lawful}
use Rattle.games.specs.Rows.{first}

-- the game with no cells
abbrev pub no_game : Rules
no_game = record {
  cells = 0;
  ceiling = 0;
  count = λ c. 0;
  holds = λ c i d. false;
  worth = λ c. 0;
  answer = λ c w. None;
}

-- a game where it keeps the limits, and the game with no cells where it passes them
abbrev pub limited : Bool → Rules → Rules
limited true G = G
limited false G = no_game

-- the mixture of A and B: A's cells first, then B's
abbrev pub side_by_side : Rules → Rules → Rules
side_by_side A B = record {
  cells = A.cells + B.cells;
  ceiling = max A.ceiling B.ceiling;
  count = λ c. cond (nat_lt c A.cells) (A.count c) (B.count (c - A.cells));
  holds = λ c i d. cond (nat_lt c A.cells) (A.holds c i d) (nat_le A.cells d && B.holds (c - A.cells) i (d - A.cells));
  worth = λ c. cond (nat_lt c A.cells) (A.worth c) (B.worth (c - A.cells));
  answer = λ c w. cond (nat_lt c A.cells) (A.answer c w) (B.answer (c - A.cells) w);
}

-- whether a mixture keeps the limit of cells
abbrev pub mixes : Rules → Rules → Bool
mixes A B = nat_le (A.cells + B.cells) 4096

-- the mixture, or the game with no cells where it passes the limit
abbrev pub mixture : Rules → Rules → Rules
mixture A B = limited (mixes A B) (side_by_side A B)

-- the number that B has to come to, from its value b, so that a move of A from a to a' leaves w of the product
abbrev pub partner : (a b w a' : ℕ) → ℕ
partner a b w a' = b ⊕ ((a ⊗ b ⊕ w) ⊗ inverse_of (a ⊕ a'))

-- the smallest a' below a with a partner below b
abbrev pub smallest_met : (a b w : ℕ) → ℕ
smallest_met a b w = first a (λ a'. ltb (partner a b w a') b)

-- the move of a product by those of its parts, of which the second has k
abbrev pub paired : ℕ → Option ℕ → Option ℕ → Option ℕ
paired k (Some i) (Some j) = Some (i * k + j)
paired k (Some i) None = None
paired k None r = None

-- the replies of the parts at x and y to the smallest a' and its partner
abbrev pub met_answer : Rules → Rules → (x y w : ℕ) → Option ℕ
met_answer A B x y w =
    let a = A.worth x in
    let b = B.worth y in
    let a' = smallest_met a b w in
    paired (B.count y) (A.answer x a') (B.answer y (partner a b w a'))

-- the reply of a product at x and y
abbrev pub product_answer : Rules → Rules → (x y w : ℕ) → Option ℕ
product_answer A B x y w = cond (nat_lt w (A.worth x ⊗ B.worth y)) (met_answer A B x y w) None

-- the product of A and B: its cell for x and y is x times B's number of cells, plus y
abbrev pub crossed : Rules → Rules → Rules
crossed A B = record {
  cells = A.cells * B.cells;
  ceiling = A.ceiling * B.ceiling;
  count = λ c. A.count (c / B.cells) * B.count (c % B.cells);
  holds = λ c i d.
      nat_lt i (A.count (c / B.cells) * B.count (c % B.cells))
      && (A.holds (c / B.cells) (i / B.count (c % B.cells)) (d / B.cells)
      && B.holds (c % B.cells) (i % B.count (c % B.cells)) (d % B.cells));
  worth = λ c. A.worth (c / B.cells) ⊗ B.worth (c % B.cells);
  answer = λ c w. product_answer A B (c / B.cells) (c % B.cells) w;
}

-- whether a product keeps the limits of cells and of moves
abbrev pub multiplies : Rules → Rules → Bool
multiplies A B = nat_le (A.cells * B.cells) 4096 && nat_le (A.ceiling * B.ceiling) 4194303

-- the product, or the game with no cells where it passes a limit
abbrev pub product : Rules → Rules → Rules
product A B = limited (multiplies A B) (crossed A B)

-- the product has the cell c, and it stands in this row and column
pub record Stands (A B : Rules) (c row column : ℕ) : Type 0 where
  pub fits : multiplies A B ≡ true
  pub on : c < A.cells * B.cells
  pub row_is : row ≡ c / B.cells
  pub column_is : column ≡ c % B.cells

-- the game has nothing at c: no moves, no value and no reply
pub record Nothing (G : Rules) (c : ℕ) : Type 0 where
  pub count : G.count c ≡ 0
  pub holds : (i d : ℕ) → G.holds c i d ≡ false
  pub worth : G.worth c ≡ 0
  pub answer : (w : ℕ) → G.answer c w ≡ None

-- in a product with cells, the value of the cell for x and y by the smallest-missing rule over the product's own moves is
-- the nim product of the values at x and y
abbrev pub Tartan : Rules → Rules → Type 0
Tartan A B =
    0 < (product A B).cells → (x y : ℕ) → x < A.cells → y < B.cells
    → Missing (IsRest (product A B) (x * B.cells + y)) (A.worth x ⊗ B.worth y)

-- this for any two lawful games
abbrev pub TartanTheorem : Type 0
TartanTheorem = (A B : Rules) → Lawful A → Lawful B → Tartan A B
