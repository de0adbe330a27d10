use Rattle.std.proofs.Common.{◌≡◌, true, false, rules, tests}
use Rattle.std.proofs.lemmas.Iterator.{first_from_Range}
use Rattle.games.specs.TakeValues.{leading, value_in}
use Rattle.games.specs.Laws.TakeValueLaws.{first_leading}
use Rattle.games.proofs.take.amounts.AmountSet.smallest_leading.Goals as goal

pub returns : goal.returns
returns c =
    let f = value_in c.args.values.now in
    let led = leading c.args.self.bits f c.args.c c.args.v in
    first_leading c.args.self.bits f c.args.c c.args.v c.find.result
    (first_from_Range _ _ _ c.find.result (λ s. led s ≡ true) (λ s. led s ≡ false) c.find.ensures.ran
    (λ x q k. search (rules, tests)) (λ x q k. search (rules, tests)))
