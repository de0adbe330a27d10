use Rattle.std.proofs.Common.{◌≡◌, ◌∙◌, ℕ, sym, ap, subst}
use Rattle.games.specs.Rows.{board}
use Rattle.games.specs.Take.{take_game, take_of, ByAmounts}
use Rattle.games.specs.declared.take.TakeRule.{TakeRule}
use Rattle.games.specs.Laws.TakeLaws.{take_amounts}
use Rattle.games.proofs.take.game.Take.new.Goals as goal

pub returns-clause-amounts : goal.returns-clause-amounts
returns-clause-amounts c =
    let set_of : TakeRule → ℕ = λ r. r.set.bits in
    let set = ap set_of c.of.ensures.rule ∙ c.from_bits-set.ensures in
    let game : take_of c.of.result ≡ take_game (board c.args.width) c.args.set = λ j. take_game (c.of.ensures.size j) (set j) in
    subst (ByAmounts (board c.args.width) c.args.set) (sym game) (take_amounts c.args.set (board c.args.width))
