use Rattle.std.proofs.Common.{◌+◌, ◌<◌, ◌≤◌, rules, tests}
use Rattle.std.proofs.lemmas.Iterator.{first_from_Range}
use Rattle.games.specs.Turtles.{pairs}
use Rattle.games.specs.Laws.Pairs.{larger_found}
use Rattle.games.proofs.turtles.larger_of.Goals as goal

pub returns : goal.returns
returns c =
    let n = c.args.n in
    let b =
    larger_found n c.unwrap_or.result c.find.result c.requires c.unwrap_or.ensures
    (first_from_Range _ _ _ c.find.result (λ b. n < pairs (b + 1)) (λ b. pairs (b + 1) ≤ n) c.find.ensures.ran
    (λ x q k. search (rules, tests)) (λ x q k. search (rules, tests))) in
    record { value = b.value; below = b.below; starts = b.starts }
