use Rattle.std.proofs.Common.{◌≡◌, ℕ, ◌+◌, ◌<◌, ◌≤◌, Bool, true, ◌&&◌, ltb, sym, ◌∙◌, rules, tests}
use mathlib.Core.Path.{fun_ext}
use Rattle.games.specs.Rows.{on}
use Rattle.games.proofs.row_game.RowGameGame.turned.Goals as goal

-- a move of a row is one of a cell of the row
of_cell : (size c n i : ℕ) → ltb i (on size c n) ≡ true → (c < size) × (i < n)
of_cell size c n i h = search (rules, tests)

-- what holds up to n alone
up_to : (n d : ℕ) (t m : Bool) → m ≡ true → (t ≡ true → d ≤ n) → (ltb d (n + 1) && t) ≡ (m && t)
up_to n d t m e h = search (rules, tests)

pub returns-then-is_move : goal.returns-then-is_move
returns-then-is_move g c =
    let R = g.R.Rule.rule c.args.self.now.rule in
    let size = c.args.self.now.row.size in
    let cell = c.args.c in
    let i = c.args.i in
    let is : ltb i (on size cell (R.count cell)) ≡ true = sym c.is_move.ensures ∙ c.if-is_move.true in
    let m = of_cell size cell (R.count cell) i is in
    let laws = g.met.R.Rule.keeps c.args.self.now.rule size c.args.self.now.row.few in
    c.turned.ensures ∙ fun_ext (λ d. up_to cell d (R.turns cell i d) _ is (laws.not_above cell i d m.0 m.1))
