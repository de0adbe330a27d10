use Rattle.std.proofs.Common.{rules, ◌≡◌, ℕ, ◌<◌, ◌≤◌, false, length, get_or, is_none, IfSome, MatchOption, List, Some, None, Option, sym}
use Rattle.std.specs.Prelude.{⊤}
use Rattle.std.proofs.lemmas.Iterator.{first_from_Range}
use native.Mathlib.Omega.{arith}
use borrow.Author.Tests.{clash}
use Rattle.audit_games.specs.Lists.{Has}
use Rattle.audit_games.proofs.rests.smallest_missing.Goals as goal

has : (xs : List ℕ) (n : ℕ) (r : Option ℕ) → is_none r ≡ false → IfSome r (λ i. (i < length xs) × (get_or xs i 0 ≡ n)) → Has xs n
has xs n (Some i) e h = (i, h.0, h.1)
has xs n None e h = absurd (clash (sym e))

below : (N : ℕ) (No : ℕ → Type 0) (r : Option ℕ)
    → MatchOption r ((k : ℕ) → 0 ≤ k → k < N → No k) (λ i. (0 ≤ i) × (i < N) × ⊤ × ((k : ℕ) → 0 ≤ k → k < i → No k))
    → MatchOption r ((k : ℕ) → k < N → No k) (λ i. (k : ℕ) → k < i → No k)
below N No None h = λ k l. h k (omega arith) l
below N No (Some i) h = λ k l. h.3 k (omega arith) l

pub returns-clause-below : goal.returns-clause-below
returns-clause-below c = below _ _ _ (first_from_Range _ _ _ c.find.result (λ x. ⊤) (Has c.args.rests.now) c.find.ensures.ran (λ x q k. tt) (λ x q k. search (rules, has)))
