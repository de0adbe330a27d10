use Rattle.std.proofs.Common.{◌≡◌, ℕ, ◌+◌, ◌-◌, ◌<◌, false, cond, ◌&&◌, ◌||◌, eqb, ltb, leb, ap, ◌∙◌, arith, rules, tests}
use mathlib.Core.Path.{fun_ext}
use Rattle.nimber_field.specs.Tower.{differ}
use Rattle.games.specs.Cells.{in_one, only}
use Rattle.games.specs.Turtles.{larger, pairs}
use Rattle.games.specs.Laws.Pairs.{larger_is, pair_of, pairs_more}
use Rattle.games.proofs.turtles.TurtlesRuleRule.turned.Goals as goal

-- the numbers of a pair below c lie in their order below c
in_order : (c n : ℕ) → c < 64 → n < pairs c → (n - pairs (larger n) < larger n) × (larger n < c)
in_order c n few h =
    let p = pair_of c n h in
    let is : larger n ≡ p.1 = larger_is n p.1 (omega (arith, p.3)) (omega (arith, p.4)) (omega (arith, p.4, p.2, pairs_more p.1)) in
    (omega (arith, p.2, p.4, is, ap pairs is), omega (arith, p.3, is))

-- three coins, of which none is another, turned one after the other
three : (a b c i d : ℕ) → a < b → b < c → c < 64 → c < i
    → differ (differ (differ false (ltb c 4096 && eqb d c)) (ltb b 4096 && eqb d b)) (ltb a 4096 && eqb d a)
    ≡ (ltb d (c + 1) && (eqb d c || (ltb 0 i && cond (leb i c) (eqb d (i - 1)) (eqb d b || eqb d a))))
three a b c i d ab bc few more = search (rules, tests)

pub returns-then-i-c : goal.returns-then-i-c
returns-then-i-c c =
    let cell = c.args.c in
    let n = c.args.i - cell - 1 in
    let order = in_order cell n c.requires.cell (omega (arith, c.requires.numbered, c.if-i-c.true)) in
    let a : n - c.pairs_below.result ≡ n - pairs (larger n) = ap (λ m. n - m) (c.pairs_below.ensures.value ∙ ap pairs c.larger_of-b.ensures.value) in
    c.toggle-then-i-c-2.ensures
    ∙ (λ j. in_one (c.toggle-then-i-c.ensures j) (only (a j)))
    ∙ (λ j. in_one (in_one (c.toggle.ensures j) (only (c.larger_of-b.ensures.value j))) (only (n - pairs (larger n))))
    ∙ (λ j. in_one (in_one (in_one (c.new-cells.ensures j) (only cell)) (only (larger n))) (only (n - pairs (larger n))))
    ∙ fun_ext (λ d. three (n - pairs (larger n)) (larger n) cell c.args.i d order.0 order.1 c.requires.cell c.if-i-c.true)
