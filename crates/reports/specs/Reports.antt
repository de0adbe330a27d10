-- The lines of a whole file. Assumes nothing.
use Rattle.std.specs.Prelude.{◌≡◌, ℕ, ◌+◌, true, List, [], ◌∷◌, ◌++◌, length, Some, None, Ok, Err, Option, Result}
use Rattle.games.specs.Rules.{Rules}
use Rattle.tables.specs.Runs.{Promise, RightAdvice, Run, coin, state_of}
use Rattle.tables.specs.declared.calls.Move.{Move}
use Rattle.tables.specs.declared.calls.State.TheVariants.{Playing}
use Rattle.records.specs.Bytes.{too_long}
use Rattle.records.specs.Records.{Item, advise, end}
use Rattle.transcripts.specs.Faults.{fault_at, fault_number}
use Rattle.transcripts.specs.Readings.{Reading, found, reading_after, start}
use Rattle.transcripts.specs.declared.fault.Fault.{Fault}
use Rattle.reports.specs.Lines.{bad_line}
use Rattle.reports.specs.Outcomes.{line_of}
use Rattle.reports.specs.Steps.{advised, game_of, reply_for, run_with, tell}

-- the line of a fault
abbrev pub fault_line : Fault → List ℕ
fault_line e = bad_line (fault_at e).number (fault_number e) (fault_at e).place

-- how far a file has been read by some records
unfoldable pub reading_by : Reading → List Item → Reading
reading_by r [] = r
reading_by r (item ∷ items) = reading_by (reading_after r (Ok (Some item))) items

-- these records are found, each where the one before it ends
unfoldable pub Finds : Reading → List Item → Type 0
Finds r [] = Unit {0}
Finds r (item ∷ items) = (found r ≡ Ok (Some item)) × Finds (reading_after r (Ok (Some item))) items

-- the run of the calls of some records, each with the reply that the run gives it
unfoldable pub run_by : Rules → Run → List Item → Run
run_by G h [] = h
run_by G h (item ∷ items) = run_by G (run_with G h item) items

-- the line of record n, which comes behind the run h
abbrev pub run_line : Rules → Run → ℕ → Item → List ℕ
run_line G h n item =
    line_of n (tell G (coin G (run_with G h item)) (state_of G (run_with G h item)) (reply_for G (coin G h) (state_of G h) item) item)

-- the lines of some records, numbered from n on
unfoldable pub lines_of : Rules → Run → ℕ → List Item → List ℕ
lines_of G h n [] = []
lines_of G h n (item ∷ items) = run_line G h n item ++ lines_of G (run_with G h item) (n + 1) items

-- what comes behind the lines of the records: nothing, where the last of them is the end record and the file ends there,
-- or the line of the fault that is met
abbrev pub Closes : List Item → Result (Option Item) Fault → List ℕ → Type 0
Closes items (Ok (Some item)) last = ⊥
Closes items (Ok None) last = (last ≡ []) × ((before : List Item) × (items ≡ before ++ (end ∷ [])))
Closes items (Err e) last = last ≡ fault_line e

-- wherever advice is asked while the table is playing, the line names a move exactly when the position is won, that move is
-- legal and leaves the position lost, and the line is `lost` where the position is lost
pub record AdviceLine (G : Rules) (h : Run) (n : ℕ) : Type 0 where
  pub named : Option Move
  pub line : run_line G h n advise ≡ line_of n (advised named)
  pub right : RightAdvice G (coin G h) named

-- the same of every advise among the records
abbrev pub AdviceLines : Rules → List Item → Type 0
AdviceLines G items =
    (before after : List Item) → items ≡ before ++ (advise ∷ after) → state_of G (run_by G [] before) ≡ Playing
    → AdviceLine G (run_by G [] before) (length before + 1)

-- what is reported of a file: the records that are found in it, one behind the other, and then the end or the first fault; a line
-- for each of them, numbered from 1, by the run of their calls; and what is promised of every run holds of it. A file of more than
-- 65,535 bytes has the one line `1 bad 16 at 0`
pub record Reported (file out : List ℕ) : Type 0 where
  pub items : List Item
  pub last : List ℕ
  pub in_order : Finds (start file) items
  pub closes : Closes items (found (reading_by (start file) items)) last
  pub lines : out ≡ lines_of (game_of file) [] 1 items ++ last
  pub promise : Promise (game_of file) (run_by (game_of file) [] items)
  pub advice : AdviceLines (game_of file) items
  pub long : too_long file ≡ true → out ≡ bad_line 1 16 0
