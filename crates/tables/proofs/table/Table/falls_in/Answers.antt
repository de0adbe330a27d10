use Rattle.std.proofs.Common.{◌≡◌, ◌+◌, ◌*◌, ltb, true, false, sym, refl, ◌∙◌, arith, rules, tests}
use Rattle.std.proofs.lemmas.Iterator.{YieldsList-from_range, cases_from_any}
use Rattle.nimber_field.specs.Nimber.{◌⊕◌}
use Rattle.tables.specs.Calls.{falls}
use Rattle.tables.specs.Coins.{coins}
use Rattle.tables.proofs.Ranges.{any_passed, none_both}
use Rattle.tables.proofs.table.Table.falls_in.Goals as goal

pub returns-then-heads_in : goal.returns-then-heads_in
returns-then-heads_in g c =
    let p = falls (g.G.Game.rules c.args.self.now.game) (coins c.args.self.now.kept.position) c.args.v in
    let first = 32 * c.args.k in
    any_passed first 32 p (λ j. p (first + j)) c.any.result (λ j. refl)
    (cases_from_any _ _ c.any.result (λ d. p d ≡ true) (λ d. p d ≡ false) c.any.ensures.ran (YieldsList-from_range first (first + 32) 32 refl (omega arith))
    (λ d q k. search (rules, tests)) (λ d q k. search (rules, tests)))

pub returns-else-heads_in : goal.returns-else-heads_in
returns-else-heads_in g c =
    let G = g.G.Game.rules c.args.self.now.game in
    let first = 32 * c.args.k in
    c.if-heads_in.false
    ∙ sym (none_both 32 (λ j. coins c.args.self.now.kept.position (first + j)) (λ j. ltb (G.worth (first + j) ⊕ c.args.v) (G.worth (first + j)))
    (sym c.heads_in.ensures ∙ c.if-heads_in.false))
