use Rattle.std.proofs.Common.{◌≡◌, ◌-◌, List, length, vec_items}
use Rattle.piles.specs.Numbered.{pile_of}
use Rattle.records.specs.Records.{Item}
use Rattle.transcripts.specs.Readings.{reading}
use Rattle.reports.specs.Steps.{game_of}
use Rattle.reports.proofs.ReportLaws.{Progress}
use Rattle.reports.proofs.file.report.Given as goal

abbrev pub invariant-loop-told : goal.invariant-loop-told
invariant-loop-told l =
    (pile_of l.referee.table.game.game ≡ game_of l.file)
    × ((items : List Item) × Progress (game_of l.file) l.file items (reading l.referee.body) l.referee.table.kept (vec_items l.lines))

abbrev pub decreases-loop-told : goal.decreases-loop-told
decreases-loop-told l = length l.referee.body.file.now - l.referee.body.place
