use Rattle.std.proofs.Common.{◌≡◌, ℕ, ◌+◌, ◌*◌, Bool, ◌&&◌, ltb, true, false, ap, ◌∙◌, refl, arith, rules, tests}
use Rattle.std.proofs.lemmas.Iterator.{YieldsList-from_range, cases_from_any}
use Rattle.games.specs.TakeValues.{any}
use Rattle.tables.specs.Coins.{coins}
use Rattle.tables.proofs.Ranges.{any_passed, not_both, words_tested}
use Rattle.tables.proofs.position.Position.can_move.Goals as goal

pub returns : goal.returns
returns g c =
    let G = g.G.Game.rules c.args.game.now in
    let law = g.met.G.Game.lawful c.args.game.now in
    let p : ℕ → Bool = λ d. coins c.args.self.now d && ltb 0 (G.count d) in
    let word : ℕ → Bool = λ k. any 32 (λ j. p (32 * k + j)) in
    let same : (j : ℕ) → 0 + j ≡ j = λ j. omega arith in
    any_passed 0 c.words_of.result word word c.any.result (λ j. ap word (same j))
    (cases_from_any _ _ c.any.result (λ k. word k ≡ true) (λ k. word k ≡ false) c.any.ensures.ran (YieldsList-from_range 0 c.words_of.result c.words_of.result refl (omega arith))
    (λ k q h. search (rules, tests)) (λ k q h. search (rules, tests)))
    ∙ words_tested G.cells c.words_of.result c.words_of.ensures.all p (λ d l. not_both (coins c.args.self.now d) _ (ap (ltb 0) (law.count_off d l)))
