-- What is found in a transcript, record by record. Assumes nothing.
use Rattle.std.specs.Prelude.{◌≡◌, ℕ, zero, suc, ◌+◌, Bool, true, false, cond, not, List, length, is_some, Some, None, Ok, Err, Option, Result, ◌==◌, nat_le}
use Rattle.nimber_field.specs.Tower.{differ}
use Rattle.records.specs.Bytes.{too_long}
use Rattle.records.specs.Records.{Item, head, lay, begin, turn, advise, remark, end, board_of, has_bad_text, item_of, item_size, record_at}
use Rattle.records.specs.declared.bytes.At.{At}
use Rattle.records.specs.declared.bytes.ByteFault.TheVariants.{TooLong}
use Rattle.records.specs.declared.record.Head.{Head}
use Rattle.records.specs.declared.record.Record.{Record}
use Rattle.records.specs.declared.record.RecordFault.{RecordFault}
use Rattle.records.specs.declared.record.RecordFault.TheVariants.{Bytes, BadText}
use Rattle.transcripts.specs.declared.body.Body.{Body}
use Rattle.transcripts.specs.declared.fault.Fault.{Fault}
use Rattle.transcripts.specs.declared.fault.Fault.TheVariants.{Records, HeadMisplaced, NoPile, NoEnd, AfterEnd}

-- how far a file has been read: the place, how many records were read, and whether the end record was among them
pub record Reading : Type 0 where
  pub file : List ℕ
  pub place : ℕ
  pub read : ℕ
  pub ended : Bool

-- where a reader is
abbrev pub reading : Body → Reading
reading b = record { file = b.file.now; place = b.place; read = b.read; ended = b.ended }

-- nothing has been read
abbrev pub start : List ℕ → Reading
start file = record { file = file; place = 0; read = 0; ended = false }

-- where the next record stands
abbrev pub at_of : Reading → At
at_of r = record { number = r.read + 1; place = r.place }

-- whether it is a head
abbrev pub is_head : Item → Bool
is_head (head x) = true
is_head (lay c) = false
is_head begin = false
is_head (turn m) = false
is_head advise = false
is_head (remark t) = false
is_head end = false

-- whether it is an end record
abbrev pub is_end : Item → Bool
is_end (head x) = false
is_end (lay c) = false
is_end begin = false
is_end (turn m) = false
is_end advise = false
is_end (remark t) = false
is_end end = true

-- whether the head is not first, or comes again
abbrev pub misplaced : Reading → Item → Bool
misplaced r item = differ (r.read == 0) (is_head item)

-- whether it is a head, and of a pile that is not numbered
abbrev pub lacks_pile : Item → Bool
lacks_pile (head x) = not (is_some (board_of x))
lacks_pile (lay c) = false
lacks_pile begin = false
lacks_pile (turn m) = false
lacks_pile advise = false
lacks_pile (remark t) = false
lacks_pile end = false

-- a record that stands there, or the first of the faults: from below, head misplaced, no such pile, bad text
abbrev pub accepted : Reading → Result Item RecordFault → Result (Option Item) Fault
accepted r (Err e) = Err (Records e)
accepted r (Ok item) =
    cond (misplaced r item) (Err (HeadMisplaced (at_of r)))
    (cond (lacks_pile item) (Err (NoPile (at_of r)))
    (cond (has_bad_text item) (Err (Records (BadText (at_of r))))
    (Ok (Some item))))

-- whether the whole file has been read
abbrev pub at_end : Reading → Bool
at_end r = nat_le (length r.file) r.place

-- what is found next: a record, none behind the end record where the file ends, or the first of the faults: the file is
-- too long, bytes follow the end record, the file stops before an end record, and then those of the record
abbrev pub found : Reading → Result (Option Item) Fault
found r =
    cond (too_long r.file) (Err (Records (Bytes (TooLong (at_of r)))))
    (cond r.ended (cond (at_end r) (Ok None) (Err (AfterEnd (at_of r))))
    (cond (at_end r) (Err (NoEnd (at_of r)))
    (accepted r (record_at r.file (at_of r)))))

-- a reader moves on by the record that it found, and by nothing else
abbrev pub reading_after : Reading → Result (Option Item) Fault → Reading
reading_after r (Ok (Some item)) = record { file = r.file; place = r.place + item_size item; read = r.read + 1; ended = is_end item }
reading_after r (Ok None) = r
reading_after r (Err e) = r

-- where a reader is after n more records were asked for
unfoldable pub later : ℕ → Reading → Reading
later zero r = r
later (suc n) r = later n (reading_after r (found r))

-- no record is given any more: however often one is asked for, the fault is met
abbrev pub Stuck : Reading → Fault → Type 0
Stuck r e = (n : ℕ) → found (later n r) ≡ Err e

-- what the code found, with slices read as lists
abbrev pub as_found : Result (Option Record) Fault → Result (Option Item) Fault
as_found (Ok (Some x)) = Ok (Some (item_of x))
as_found (Ok None) = Ok None
as_found (Err e) = Err e

-- the same of a record alone
abbrev pub as_looked : Result Record Fault → Result (Option Item) Fault
as_looked (Ok x) = Ok (Some (item_of x))
as_looked (Err e) = Err e

-- the first record, which is a head, or its fault
abbrev pub as_first : Result Head Fault → Result (Option Item) Fault
as_first (Ok x) = Ok (Some (head x))
as_first (Err e) = Err e

-- what a head says; another record is misplaced
abbrev pub head_or : At → Item → Result Head Fault
head_or at (head x) = Ok x
head_or at (lay c) = Err (HeadMisplaced at)
head_or at begin = Err (HeadMisplaced at)
head_or at (turn m) = Err (HeadMisplaced at)
head_or at advise = Err (HeadMisplaced at)
head_or at (remark t) = Err (HeadMisplaced at)
head_or at end = Err (HeadMisplaced at)
