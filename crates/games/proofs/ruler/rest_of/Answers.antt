use Rattle.std.proofs.Common.{sym, ap₂, ◌∙◌}
use Rattle.nimber_field.specs.Nimber.{◌⊕◌}
use Rattle.games.specs.Laws.RulerLaws.{rest_is}
use Rattle.games.proofs.ruler.rest_of.Goals as goal

pub returns : goal.returns
returns c =
    ap₂ ◌⊕◌ c.gray_code.ensures c.gray_code-2.ensures ∙ sym (rest_is c.args.c c.args.i c.requires.cell c.requires.numbered)
