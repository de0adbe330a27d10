use Rattle.std.proofs.Common.{◌≡◌, ℕ, ◌+◌, ◌*◌, ◌<◌, Bool, true, false, subst, sym, arith, rules, tests}
use Rattle.std.proofs.lemmas.Iterator.{first_from_Range}
use Rattle.games.specs.TakeValues.{any}
use Rattle.tables.specs.Calls.{falls, LowestOf}
use Rattle.tables.specs.Coins.{coins}
use Rattle.tables.proofs.Ranges.{first_found, none_found, off_board, word_below}
use Rattle.tables.proofs.table.Table.lowest_head.Given.{Over}
use Rattle.tables.proofs.table.Table.lowest_head.Goals as goal

-- the word that is found is one of those that the game takes
below : (g : Over) (c : goal.In_ok-k g) → c.in_ok-k.k < c.words_of.result
below g c =
    let G = g.G.Game.rules c.args.self.now.game in
    let law = g.met.G.Game.lawful c.args.self.now.game in
    let u = coins c.args.self.now.kept.position in
    let p = falls G u c.args.v in
    let word : ℕ → Bool = λ k. any 32 (λ j. p (32 * k + j)) in
    word_below G.cells c.words_of.result c.words_of.ensures.all p (off_board G law u c.args.v) c.find.result c.in_ok-k.k c.in_ok-k.was
    (first_from_Range _ _ _ c.find.result (λ k. word k ≡ true) (λ k. word k ≡ false) c.find.ensures.ran
    (λ x q k. search (rules, tests)) (λ x q k. search (rules, tests)))

pub overflow_mul-k : goal.overflow_mul-k
overflow_mul-k g c = omega (arith, below g c, c.words_of.ensures.few)

pub overflow_mul-k-2 : goal.overflow_mul-k-2
overflow_mul-k-2 g c = omega (arith, below g c, c.words_of.ensures.few)

pub overflow_add-k : goal.overflow_add-k
overflow_add-k g c = omega (arith, below g c, c.words_of.ensures.few)

pub returns-in_err-k : goal.returns-in_err-k
returns-in_err-k g c =
    let G = g.G.Game.rules c.args.self.now.game in
    let law = g.met.G.Game.lawful c.args.self.now.game in
    let u = coins c.args.self.now.kept.position in
    let p = falls G u c.args.v in
    let word : ℕ → Bool = λ k. any 32 (λ j. p (32 * k + j)) in
    subst (LowestOf G.cells p) (sym c.from_residual.ensures)
    (none_found G.cells c.words_of.result c.words_of.ensures.all p (off_board G law u c.args.v) c.find.result c.in_err-k.was
    (first_from_Range _ _ _ c.find.result (λ k. word k ≡ true) (λ k. word k ≡ false) c.find.ensures.ran
    (λ x q k. search (rules, tests)) (λ x q k. search (rules, tests))))

pub returns : goal.returns
returns g c =
    let G = g.G.Game.rules c.args.self.now.game in
    let law = g.met.G.Game.lawful c.args.self.now.game in
    let u = coins c.args.self.now.kept.position in
    let p = falls G u c.args.v in
    let word : ℕ → Bool = λ k. any 32 (λ j. p (32 * k + j)) in
    first_found G.cells c.words_of.result c.words_of.ensures.all p (off_board G law u c.args.v) c.find.result c.in_ok-k.k c.in_ok-k.was
    (first_from_Range _ _ _ c.find.result (λ k. word k ≡ true) (λ k. word k ≡ false) c.find.ensures.ran
    (λ x q k. search (rules, tests)) (λ x q k. search (rules, tests)))
    c.find-2.result
    (first_from_Range _ _ _ c.find-2.result (λ d. p d ≡ true) (λ d. p d ≡ false) c.find-2.ensures.ran
    (λ x q k. search (rules, tests)) (λ x q k. search (rules, tests)))
