use Rattle.std.proofs.Common.{◌≡◌, ◌∙◌, true, false, rules, tests}
use Rattle.std.proofs.lemmas.Iterator.{first_from_Range}
use Rattle.games.specs.TakeValues.{leads, value_in}
use Rattle.games.specs.Laws.TakeValueLaws.{first_unled}
use Rattle.games.proofs.take.amounts.AmountSet.value_at.Goals as goal

pub returns : goal.returns
returns c =
    let f = value_in c.args.values.now in
    let led = leads c.args.self.bits f c.args.c in
    c.unwrap_or.ensures
    ∙ first_unled c.args.self.bits f c.args.c c.requires.known c.find.result
    (first_from_Range _ _ _ c.find.result (λ v. led v ≡ false) (λ v. led v ≡ true) c.find.ensures.ran
    (λ x q k. search (rules, tests)) (λ x q k. search (rules, tests)))
