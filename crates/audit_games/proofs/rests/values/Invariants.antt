use Rattle.std.proofs.Common.{◌≡◌, ℕ, ◌<◌, get_or, vec_items, vec_len}
use Rattle.audit_games.specs.Values.{IsSmallest}
use Rattle.audit_games.proofs.rests.values.Given as goal

abbrev pub invariant-loop-c : goal.invariant-loop-c
invariant-loop-c g l =
    let values = vec_items l.values in
    (vec_len l.values ≡ l.c) × ((b : ℕ) → b < l.c → IsSmallest (g.G.Game.rules l.game) values b (get_or values b 0))
