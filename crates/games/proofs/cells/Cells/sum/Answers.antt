use Rattle.std.proofs.Common.{ℕ, ◌+◌, ◌*◌, ◌∙◌, Bool, not, eqb, get_or, refl, arith, rules, tests}
use Rattle.std.proofs.lemmas.Iterator.{YieldsList-from_map, YieldsList-from_range}
use Rattle.std.proofs.lemmas.Iterator.Consumers.{YieldsList-at, YieldsList-from_filter, fold_from_yields_List}
use Rattle.nimber_field.specs.Nimber.{◌⊕◌}
use Rattle.games.specs.Cells.{held}
use Rattle.games.specs.Rules.{sum_held}
use Rattle.games.proofs.CellSums.{held_added, all_words}
use Rattle.games.proofs.cells.Cells.sum.Goals as goal

pub returns : goal.returns
unfolding held
returns g c =
    let G = g.G.Game.rules c.args.game.now in
    let law = g.met.G.Game.lawful c.args.game.now in
    let s = held c.args.self.now in
    let words = c.args.self.now.words in
    let some : ℕ → Bool = λ k. not (eqb (get_or words k 0) 0) in
    let part : ℕ → ℕ = λ k. sum_held 32 (λ j. s (32 * k + j)) (λ j. G.worth (32 * k + j)) in
    fold_from_yields_List _ (λ a x. a ⊕ x) 0 c.fold.result c.fold.ensures.ran
    (YieldsList-from_map _ part (YieldsList-at c.map.ensures.source (YieldsList-from_filter _ some (YieldsList-from_range 0 c.words_of.result c.words_of.result c.filter.ensures.source (omega arith))
    c.filter.ensures.closure (λ x r q k. search (rules, tests)))) c.map.ensures.closure (λ x r q k. search (rules, tests)))
    (λ a x b q k. search (rules, tests))
    ∙ held_added c.words_of.result c.words_of.result some part refl
    ∙ all_words words G.worth G.cells c.words_of.result c.words_of.ensures.all law.worth_off
