use Rattle.std.proofs.Common.{◌≡◌, ℕ, ◌<◌, ◌≤◌, List, map, get_or, sym, ap, ◌∙◌, arith, rules}
use native.Mathlib.Decide.{dec_lt}
use Rattle.std.specs.List.{range_with_len}
use Rattle.std.proofs.lemmas.Iterator.{items_from_collect, YieldsList-from_range, YieldsList-from_map}
use Rattle.std.proofs.lemmas.List.{get_or_past}
use Rattle.std.proofs.lemmas.List.FromFn.{length-map-range_with_len, get_or-map-range_with_len}
use Rattle.std.proofs.lemmas.Result.{IfOk-weaker}
use Rattle.valued.proofs.values_of.Goals as goal

-- the values below n are every value, where from n up there is none
every_value : (worth : ℕ → ℕ) (n : ℕ) → ((d : ℕ) → n ≤ d → worth d ≡ 0) → (xs : List ℕ) → xs ≡ map worth (range_with_len 0 n)
    → (d : ℕ) → get_or xs d 0 ≡ worth d
every_value worth n off xs is d = ap (λ l. get_or l d 0) is ∙ by_place (dec_lt d n)
  where
    by_place : Dec (d < n) → get_or (map worth (range_with_len 0 n)) d 0 ≡ worth d
    by_place (yes h) = get_or-map-range_with_len worth 0 n d d 0 h (omega arith)
    by_place (no h) = get_or_past _ d 0 (omega (arith, length-map-range_with_len worth 0 n)) ∙ sym (off d (omega arith))

pub returns-clause-right : goal.returns-clause-right
returns-clause-right g c =
    let G = g.G.Game.rules c.args.game.now in
    let law = g.met.G.Game.lawful c.args.game.now in
    IfOk-weaker c.collect.result _ _ (λ v. every_value G.worth G.cells law.worth_off _)
    (items_from_collect _ c.collect.ensures.ran
    (YieldsList-from_map _ G.worth (YieldsList-from_range 0 G.cells G.cells (cc) (omega arith)) c.map.ensures.closure (λ x r q k. search rules)))
