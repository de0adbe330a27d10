use Rattle.std.proofs.Common.{◌≡◌, ◌≢◌, sym, subst, rules, tests}
use Rattle.std.proofs.lemmas.Iterator.{first_from_Range}
use Rattle.games.specs.Rows.{rest_by, LowestMove}
use Rattle.games.specs.Ruler.{ruler_rule}
use Rattle.games.specs.Laws.RulerLaws.{ruler_reply}
use Rattle.games.proofs.ruler.RulerRuleRule.reply.Goals as goal

pub returns : goal.returns
returns c =
    let rest = rest_by ruler_rule c.args.c in
    subst (LowestMove ruler_rule c.args.c c.args.w) (sym c.unwrap_or.ensures)
    (ruler_reply c.args.c c.args.w c.requires.cell c.requires.below c.find.result
    (first_from_Range _ _ _ c.find.result (λ i. rest i ≡ c.args.w) (λ i. rest i ≢ c.args.w) c.find.ensures.ran
    (λ x q k. search (rules, tests)) (λ x q k. search (rules, tests))))
