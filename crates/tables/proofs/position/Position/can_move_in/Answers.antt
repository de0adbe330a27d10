use Rattle.std.proofs.Common.{◌≡◌, ℕ, ◌+◌, ◌*◌, Bool, ◌&&◌, ltb, true, false, sym, refl, ◌∙◌, arith, rules, tests}
use Rattle.std.proofs.lemmas.Iterator.{YieldsList-from_range, cases_from_any}
use Rattle.tables.specs.Coins.{coins}
use Rattle.tables.proofs.Ranges.{any_passed, none_both}
use Rattle.tables.proofs.position.Position.can_move_in.Goals as goal

pub returns-then-heads_in : goal.returns-then-heads_in
returns-then-heads_in g c =
    let G = g.G.Game.rules c.args.game.now in
    let p : ℕ → Bool = λ d. coins c.args.self.now d && ltb 0 (G.count d) in
    let first = 32 * c.args.k in
    any_passed first 32 p (λ j. p (first + j)) c.any.result (λ j. refl)
    (cases_from_any _ _ c.any.result (λ d. p d ≡ true) (λ d. p d ≡ false) c.any.ensures.ran (YieldsList-from_range first (first + 32) 32 refl (omega arith))
    (λ d q k. search (rules, tests)) (λ d q k. search (rules, tests)))

pub returns-else-heads_in : goal.returns-else-heads_in
returns-else-heads_in g c =
    let G = g.G.Game.rules c.args.game.now in
    let first = 32 * c.args.k in
    c.if-heads_in.false
    ∙ sym (none_both 32 (λ j. coins c.args.self.now (first + j)) (λ j. ltb 0 (G.count (first + j))) (sym c.heads_in.ensures ∙ c.if-heads_in.false))
