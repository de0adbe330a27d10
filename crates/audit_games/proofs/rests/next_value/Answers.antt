use Rattle.std.proofs.Common.{rules, ◌≡◌, ℕ, ◌-◌, ◌^◌, ◌<◌, length, get_or, IfSome, MatchOption, List, Some, None, Option, sym, subst, ◌∙◌}
use Rattle.games.specs.Rules.{Rules}
use Rattle.audit_games.specs.Lists.{Has, LacksBelow}
use Rattle.audit_games.specs.Values.{rest_by, IsSmallest, EveryRest}
use Rattle.audit_games.proofs.rests.next_value.Goals as goal

module _ (G : Rules) (values xs : List ℕ) (c : ℕ) (l : length xs ≡ G.count c)
    (e : (i : ℕ) → i < length xs → get_or xs i 0 ≡ rest_by G values c i) where
  is_rest : (n : ℕ) → Has xs n → (i : ℕ) × (i < G.count c) × (rest_by G values c i ≡ n)
  is_rest n h = (h.0, subst (λ m. h.0 < m) l h.1, sym (e h.0 h.1) ∙ h.2)

  by_found : (r : Option ℕ) → IfSome r (λ v. LacksBelow xs v (length xs))
      → MatchOption r ((n : ℕ) → n < 2 ^ 32 - 1 → Has xs n) (λ v. (n : ℕ) → n < v → Has xs n)
      → MatchOption r (EveryRest G values c) (IsSmallest G values c)
  by_found None missing below = λ n p. is_rest n (below n p)
  by_found (Some v) missing below = (
    λ i p q. let b : i < length xs = subst (λ n. i < n) (sym l) p in missing i b (e i b ∙ q),
    λ n p. is_rest n (below n p),
  )

pub returns : goal.returns
returns g c =
    by_found (g.G.Game.rules c.args.game.now) c.args.values.now c.deref.result.now c.args.c (search rules) (search rules)
    c.smallest_missing.result c.smallest_missing.ensures.missing c.smallest_missing.ensures.below
