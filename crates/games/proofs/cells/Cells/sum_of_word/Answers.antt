use Rattle.std.proofs.Common.{◌≡◌, ℕ, ◌+◌, ◌*◌, ◌/◌, ◌%◌, ◌^◌, cond, get_or, eqb, ap, sym, ◌∙◌, arith, rules, tests}
use lib.Bits.{and_mask, bit_and}
use Rattle.std.proofs.lemmas.Iterator.{YieldsList-from_map, YieldsList-from_range}
use Rattle.std.proofs.lemmas.Iterator.Consumers.{YieldsList-at, YieldsList-from_filter, fold_from_yields_List}
use Rattle.nimber_field.specs.Nimber.{◌⊕◌}
use Rattle.games.specs.Cells.{held, marks}
use Rattle.games.specs.Laws.Sums.{sum_same}
use Rattle.games.proofs.CellSums.{added_from}
use Rattle.games.proofs.cells.Cells.sum_of_word.Goals as goal

pub returns : goal.returns
unfolding held
returns g c =
    let G = g.G.Game.rules c.args.game.now in
    let k = c.args.k in
    let word = get_or c.args.self.now.words k 0 in
    let first = 32 * k in
    let bit : (x : ℕ) → eqb (bit_and (word / 2 ^ (x % 32)) 1) 1 ≡ marks word (x % 32) = λ x. ap (λ n. eqb n 1) (and_mask (word / 2 ^ (x % 32)) 1) in
    fold_from_yields_List _ (λ a x. a ⊕ x) 0 c.fold.result c.fold.ensures.ran
    (YieldsList-from_map _ G.worth (YieldsList-at c.map.ensures.source (YieldsList-from_filter _ (λ d. marks word (d % 32)) (YieldsList-from_range first (first + 32) 32 c.filter.ensures.source (omega arith))
    c.filter.ensures.closure (λ x r q k. (search (rules, tests), (let is : r ≡ eqb (bit_and (word / 2 ^ (x % 32)) 1) 1 = search (rules, tests) in is ∙ bit x))))) c.map.ensures.closure (λ x r q k. search (rules, tests)))
    (λ a x b q k. search (rules, tests))
    ∙ added_from (λ d. marks word (d % 32)) G.worth first 32
    ∙ sum_same 32 _ _ (λ j l.
    let place : (first + j) / 32 ≡ k = omega (arith, l) in
    ap (λ w. cond (marks (get_or c.args.self.now.words w 0) ((first + j) % 32)) (G.worth (first + j)) 0) (sym place))
