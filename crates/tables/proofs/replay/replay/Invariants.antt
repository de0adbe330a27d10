use Rattle.std.proofs.Common.{◌≡◌, take, vec_items, vec_len}
use Rattle.tables.specs.Runs.{run_of, Stands, Told}
use Rattle.tables.proofs.replay.replay.Given as goal

abbrev pub invariant-loop-call : goal.invariant-loop-call
invariant-loop-call g l =
    let G = g.G.Game.rules l.initial.table.game in
    let h = run_of (take l.call-index l.calls) (vec_items l.replies) in
    (vec_len l.replies ≡ l.call-index) × (l.table.game ≡ l.initial.table.game) × Stands G h l.table.kept × Told G h
