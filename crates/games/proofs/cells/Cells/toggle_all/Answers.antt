use Rattle.std.proofs.Common.{◌≡◌, ◌+◌, ◌*◌, ◌/◌, ◌%◌, ◌<◌, ◌≤◌, ◌&&◌, eqb, get_or, length, ltb, ap, ◌∙◌, arith, rules}
use mathlib.Core.Path.{fun_ext}
use Rattle.nimber_field.specs.Tower.{differ}
use Rattle.games.specs.Cells.{held, in_one, marks}
use Rattle.games.proofs.CellBits.{all_below, below, differ_assoc, word_added}
use Rattle.games.proofs.cells.Cells.toggle_all.Goals as goal

pub loop-k-preserved : goal.loop-k-preserved
unfolding held
loop-k-preserved c =
    let k = c.loop-k.k in
    let words = c.args.other.now.words in
    let before = held c.args.self.now in
    let few : k < 128 = search rules in
    c.toggle_word.ensures
    ∙ ap (λ s. in_one s (λ d. ltb k 128 && (eqb (d / 32) k && marks (get_or words k 0) (d % 32)))) c.loop-k.invariant
    ∙ fun_ext (λ d. differ_assoc (before d) (below (32 * k) (held c.args.other.now) d) _ ∙ ap (differ (before d)) (word_added words k d few))

pub returns : goal.returns
unfolding held
returns c =
    let words = c.args.other.now.words in
    let few : length words ≤ 128 = search rules in
    let all : c.loop-k.k ≡ 128 = search rules in
    c.loop-k.invariant
    ∙ ap (in_one (held c.args.self.now)) (ap (λ k. below (32 * k) (held c.args.other.now)) all ∙ fun_ext (all_below words few))
