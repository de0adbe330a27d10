use Rattle.std.proofs.Common.{◌≡◌, Some, Ok, sym, ap, ◌∙◌}
use Rattle.std.specs.Option.{option_map}
use Rattle.records.specs.Records.{call_of, item_of}
use Rattle.tables.specs.Calls.{reply_to}
use Rattle.tables.specs.Coins.{coins}
use Rattle.reports.specs.Steps.{tell}
use Rattle.reports.proofs.telling.tell.Goals as goal

pub returns-in-Ok-clause-told : goal.returns-in-Ok-clause-told
returns-in-Ok-clause-told g c =
    let before = c.args.table.now in
    let after = c.call-2.new.self in
    let item = item_of c.args.record in
    let ask = reply_to (g.G.Game.rules before.game) (coins before.kept.position) before.kept.state in
    let reply : option_map ask (call_of item) ≡ Some (Ok c.in-Ok.answer)
    = ap (option_map ask) (sym c.call.ensures ∙ c.in-Some.is) ∙ ap Some (sym c.call-2.ensures.answer ∙ c.in-Ok.is) in
    c.describe-in-Ok.ensures.told ∙ λ i. tell (g.G.Game.rules (c.call-2.ensures.game i)) (coins after.kept.position) after.kept.state (sym reply i) item
