use native.Mathlib.Omega.{arith}
use Rattle.std.proofs.Common.{◌≡◌, ℕ, ◌<◌, List, length, map, get_or, vec_items, ap, ◌∙◌, subst, rules}
use Rattle.std.specs.List.{range_with_len}
use Rattle.std.proofs.lemmas.List.FromFn.{length-map-range_with_len, get_or-map-range_with_len}
use Rattle.std.proofs.lemmas.Iterator.{YieldsList-from_range, YieldsList-from_map, items_from_collect}
use Rattle.std.proofs.lemmas.Result.{IfOk-weaker}
use Rattle.games.specs.Rules.{sum_held}
use Rattle.audit_games.proofs.rests.rests.Goals as goal

made : (h : ℕ → ℕ) (n m len : ℕ) (xs : List ℕ) → len ≡ length xs → xs ≡ map h (range_with_len 0 n) → n ≡ m
    → (len ≡ m) × ((i : ℕ) → i < len → get_or xs i 0 ≡ h i)
made h n m len xs o e k =
    let l : len ≡ n = o ∙ ap length e ∙ length-map-range_with_len h 0 n in
    (l ∙ k, λ i b. ap (λ ys. get_or ys i 0) e ∙ get_or-map-range_with_len h 0 n i i 0 (subst (λ j. i < j) l b) (omega arith))

pub returns : goal.returns
returns g c =
    let h : ℕ → ℕ = λ i. sum_held c.args.c ((g.G.Game.rules c.args.game.now).holds c.args.c i) (λ d. get_or c.args.values.now d 0) in
    IfOk-weaker c.collect.result (λ w. vec_items w ≡ map h (range_with_len 0 c.count.result)) _
    (λ w e. made h c.count.result _ w.len (vec_items w) w.ok.0 e c.count.ensures)
    (items_from_collect _ c.collect.ensures.ran
    (YieldsList-from_map _ h (YieldsList-from_range 0 c.count.result c.count.result c.map.ensures.source (omega arith)) c.map.ensures.closure (λ x r q k. search rules)))
