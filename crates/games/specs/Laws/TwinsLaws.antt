-- Twins keeps the laws: the rests at c are the numbers below c. Assumes nothing.
use Rattle.std.specs.Prelude.{◌≡◌, ℕ, ◌<◌, ◌≤◌, ◌||◌, ◌==◌}
use Rattle.std.proofs.Common.{arith}
use Rattle.std.proofs.lemmas.Bool.Decides.{nat_tests}
use Rattle.games.specs.Rules.{Lawful, LowestReplies}
use Rattle.games.specs.Rows.{rest_by, LowestMove, RowLaws}
use Rattle.games.specs.Twins.{twins_rule, twins}
use Rattle.games.specs.Laws.Sums.{sum_one}
use Rattle.games.specs.Laws.RowLaws.{row_lawful, row_lowest}

rest_is : (c i : ℕ) → i < c → rest_by twins_rule c i ≡ i
rest_is c i h = sum_one (λ d. d) c i (λ d. (d == c) || d == i) h (grind (arith, nat_tests)) (λ d l n. grind (arith, nat_tests))

pub twins_keeps : (size : ℕ) → size ≤ 64 → RowLaws twins_rule size
twins_keeps size small = record {
  few = λ c l. omega arith;
  own = λ c i l h. grind (arith, nat_tests);
  not_above = λ c i d l h e. grind (arith, nat_tests);
  nimber = λ c l. omega arith;
  misses = λ c i l h e. omega (arith, rest_is c i h);
  found = λ c w l h. (w, h, rest_is c w h);
}

pub twins_low : (size : ℕ) → size ≤ 64 → twins_rule.ceiling size ≤ 4194303
twins_low size small = omega arith

pub twins_lawful : (size : ℕ) → size ≤ 64 → Lawful (twins size)
twins_lawful size small = row_lawful twins_rule size (twins_keeps size small) (omega arith) (twins_low size small)

pub twins_lowest : (size : ℕ) → size ≤ 64 → LowestReplies (twins size)
twins_lowest size small = row_lowest twins_rule size (twins_keeps size small)

pub twins_reply : (c w : ℕ) → w < c → LowestMove twins_rule c w w
twins_reply c w h = record { numbered = h; fits = rest_is c w h; lowest = λ j m e. omega (arith, rest_is c j (omega arith)) }
