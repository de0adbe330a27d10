use Rattle.std.proofs.Common.{◌≤◌, length, ap, ◌∙◌, rules}
use mathlib.Core.Path.{fun_ext}
use Rattle.games.specs.Cells.{held, in_one, raised}
use Rattle.games.proofs.CellBits.{all_below}
use Rattle.games.proofs.cells.Cells.toggle_raised.Goals as goal

pub returns : goal.returns
unfolding held
returns c =
    let words = c.args.other.now.words in
    let few : length words ≤ 128 = search rules in
    c.toggle_first.ensures ∙ ap (λ s. in_one (held c.args.self.now) (raised c.args.n s)) (fun_ext (all_below words few))
