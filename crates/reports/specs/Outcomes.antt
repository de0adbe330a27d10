-- What comes of a record, and the line that tells it. Assumes nothing.
use Rattle.std.specs.Prelude.{ℕ, List, [], ◌∷◌, length, codes}
use Rattle.tables.specs.Calls.{refusal_number}
use Rattle.tables.specs.declared.calls.Move.{Move}
use Rattle.tables.specs.declared.calls.State.{State}
use Rattle.tables.specs.declared.calls.State.TheVariants.{Setting, Playing, Over}
use Rattle.tables.specs.declared.calls.Refusal.{Refusal}
use Rattle.reports.specs.Lines.{line}
use Rattle.reports.specs.declared.outcome.Outcome as outcomes

-- what a line tells; a remark by its text
pub data Telling : Type 0 where
  board : ℕ → Telling
  laid : ℕ → Telling
  begun : State → Telling
  turned : Move → ℕ → State → Telling
  play : Move → Telling
  lost : Telling
  refused : Refusal → Telling
  said : List ℕ → Telling
  ended : Telling

-- what an outcome of the code tells
abbrev pub told_of : outcomes.Outcome → Telling
told_of (outcomes.TheVariants.Board size) = board size
told_of (outcomes.TheVariants.Laid c) = laid c
told_of (outcomes.TheVariants.Begun s) = begun s
told_of (outcomes.TheVariants.Turned m v s) = turned m v s
told_of (outcomes.TheVariants.Play m) = play m
told_of outcomes.TheVariants.Lost = lost
told_of (outcomes.TheVariants.Refused r) = refused r
told_of (outcomes.TheVariants.Said t) = said t.now
told_of outcomes.TheVariants.End = ended

-- a begin or a turn that makes the table over says so
abbrev pub over_mark : State → List ℕ
over_mark Setting = []
over_mark Playing = []
over_mark Over = codes " over"

-- the line of record n
abbrev pub line_of : ℕ → Telling → List ℕ
line_of n (board size) = line n (codes " board") (size ∷ []) []
line_of n (laid c) = line n (codes " laid") (c ∷ []) []
line_of n (begun s) = line n (codes " begun") [] (over_mark s)
line_of n (turned m v s) = line n (codes " turned") (m.cell ∷ m.number ∷ v ∷ []) (over_mark s)
line_of n (play m) = line n (codes " play") (m.cell ∷ m.number ∷ []) []
line_of n lost = line n (codes " lost") [] []
line_of n (refused r) = line n (codes " no") (refusal_number r ∷ []) []
line_of n (said t) = line n (codes " said ") [] t
line_of n ended = line n (codes " end") [] []

-- how long the text of a remark is
abbrev pub text_length : Telling → ℕ
text_length (board size) = 0
text_length (laid c) = 0
text_length (begun s) = 0
text_length (turned m v s) = 0
text_length (play m) = 0
text_length lost = 0
text_length (refused r) = 0
text_length (said t) = length t
text_length ended = 0
