-- A transcript as records. Assumes nothing.
use Rattle.std.specs.Prelude.{ℕ, ◌+◌, Bool, false, cond, ◌++◌, codes, ◌||◌, List, [], ◌∷◌, length, Some, None, Ok, Err, Option, Result, ◌==◌, nat_le, nat_lt}
use Rattle.std.specs.Fmt.{decimal}
use Rattle.std.specs.List.{list_any}
use Rattle.std.specs.Option.{ok_or}
use Rattle.games.specs.Rules.{Rules}
use Rattle.piles.specs.Numbered.{numbered}
use Rattle.tables.specs.declared.calls.Move.{Move}
use Rattle.tables.specs.declared.calls.Call as calls
use Rattle.records.specs.Bytes.{Framed, byte_fault_number, byte_fault_at, frame_at, four_at, size_check, two_at}
use Rattle.records.specs.declared.bytes.At.{At}
use Rattle.records.specs.declared.bytes.ByteFault.{ByteFault}
use Rattle.records.specs.declared.record.RecordFault.{RecordFault}
use Rattle.records.specs.declared.record.RecordFault.TheVariants.{Bytes, UnknownKind, WrongLength, BadText}
use Rattle.records.specs.declared.record.Kind.{Kind}
use Rattle.records.specs.declared.record.Kind.TheVariants.{Head, Lay, Begin, Turn, Advise, Remark, End}
use Rattle.records.specs.declared.record.UnknownKind as unknown
use Rattle.records.specs.declared.record.Head as heads
use Rattle.records.specs.declared.record.Record as records

-- the number of each fault of records; a fault of the bytes keeps its own
abbrev pub record_fault_number : RecordFault → ℕ
record_fault_number (Bytes e) = byte_fault_number e
record_fault_number (UnknownKind at) = 11
record_fault_number (WrongLength at) = 12
record_fault_number (BadText at) = 15

-- the record that would have been read
abbrev pub record_fault_at : RecordFault → At
record_fault_at (Bytes e) = byte_fault_at e
record_fault_at (UnknownKind at) = at
record_fault_at (WrongLength at) = at
record_fault_at (BadText at) = at

-- the number of each kind of record
abbrev pub kind_number : Kind → ℕ
kind_number Head = 1
kind_number Lay = 2
kind_number Begin = 3
kind_number Turn = 4
kind_number Advise = 5
kind_number Remark = 6
kind_number End = 7

-- the kind among these that has the number
abbrev pub among : List Kind → ℕ → Option Kind
among [] n = None
among (k ∷ ks) n = cond (n == kind_number k) (Some k) (among ks n)

-- the kind of a number
abbrev pub kind_of : ℕ → Option Kind
kind_of n = among (Head ∷ Lay ∷ Begin ∷ Turn ∷ Advise ∷ Remark ∷ End ∷ []) n

-- the kind of a number, or that no kind has it
abbrev pub kind_or_unknown : ℕ → Result Kind unknown.UnknownKind
kind_or_unknown n = ok_or (kind_of n) (record { 0 = n })

-- what is printed of a number that no kind has
abbrev pub unknown_kind_text : unknown.UnknownKind → List ℕ
unknown_kind_text e = codes "no kind of record has the number " ++ decimal e.0

-- whether a body of that length fits the kind
abbrev pub fits_kind : Kind → ℕ → Bool
fits_kind Head n = n == 10
fits_kind Lay n = n == 2
fits_kind Begin n = n == 0
fits_kind Turn n = n == 6
fits_kind Advise n = n == 0
fits_kind Remark n = nat_le n 80
fits_kind End n = n == 0

-- what a record says; a remark by its text
pub data Item : Type 0 where
  head : heads.Head → Item
  lay : ℕ → Item
  begin : Item
  turn : Move → Item
  advise : Item
  remark : List ℕ → Item
  end : Item

-- a record of the code, with its slice read as a list
abbrev pub item_of : records.Record → Item
item_of (records.TheVariants.Head x) = head x
item_of (records.TheVariants.Lay c) = lay c
item_of records.TheVariants.Begin = begin
item_of (records.TheVariants.Turn m) = turn m
item_of records.TheVariants.Advise = advise
item_of (records.TheVariants.Remark t) = remark t.now
item_of records.TheVariants.End = end

-- the same of a result
abbrev pub as_item : Result records.Record RecordFault → Result Item RecordFault
as_item (Ok r) = Ok (item_of r)
as_item (Err e) = Err e

-- what a body says under its kind: a head its pile, two widths and a set, a lay its cell, a turn its cell and its move
abbrev pub item_from : Kind → List ℕ → Item
item_from Head body = head (record { pile = two_at body 0; w = two_at body 2; h = two_at body 4; set = four_at body 6 })
item_from Lay body = lay (two_at body 0)
item_from Begin body = begin
item_from Turn body = turn (record { cell = two_at body 0; number = four_at body 2 })
item_from Advise body = advise
item_from Remark body = remark body
item_from End body = end

-- the pile that a head names, if its number is one of the numbered piles
abbrev pub board_of : heads.Head → Option Rules
board_of x = numbered x.pile x.w x.h x.set

-- the record under a kind, if its length fits
abbrev pub of_kind : At → List ℕ → Option Kind → Result Item RecordFault
of_kind at body None = Err (UnknownKind at)
of_kind at body (Some k) = cond (fits_kind k (length body)) (Ok (item_from k body)) (Err (WrongLength at))

-- the record in a frame; a fault of the bytes is passed on whole
abbrev pub from_frame : At → Result Framed ByteFault → Result Item RecordFault
from_frame at (Ok f) = of_kind at f.body (kind_of f.kind)
from_frame at (Err e) = Err (Bytes e)

-- the record at a place, or the first of the faults: cut short, unknown kind, wrong length
abbrev pub record_at : List ℕ → At → Result Item RecordFault
record_at file at = from_frame at (frame_at file at)

-- a fault of the bytes, passed on whole
abbrev pub passed_on : {T : Type 0} → Result T ByteFault → Result T RecordFault
passed_on (Ok x) = Ok x
passed_on (Err e) = Err (Bytes e)

-- whether the file may be read at all
abbrev pub file_check : List ℕ → At → Result (Unit {0}) RecordFault
file_check file at = passed_on (size_check file at)

-- how many bytes a record takes
abbrev pub item_size : Item → ℕ
item_size (head x) = 14
item_size (lay c) = 6
item_size begin = 4
item_size (turn m) = 10
item_size advise = 4
item_size (remark t) = length t + 4
item_size end = 4

-- what a record asks of the table
abbrev pub call_of : Item → Option calls.Call
call_of (head x) = None
call_of (lay c) = Some (calls.TheVariants.Lay c)
call_of begin = Some calls.TheVariants.Begin
call_of (turn m) = Some (calls.TheVariants.Turn m)
call_of advise = Some calls.TheVariants.Advise
call_of (remark t) = None
call_of end = None

-- whether a byte lies outside 32 to 126
abbrev pub bad_byte : ℕ → Bool
bad_byte b = nat_lt b 32 || nat_lt 126 b

-- whether a text has such a byte
abbrev pub bad_text : List ℕ → Bool
bad_text t = list_any bad_byte t

-- whether it is a remark with such a text
abbrev pub has_bad_text : Item → Bool
has_bad_text (head x) = false
has_bad_text (lay c) = false
has_bad_text begin = false
has_bad_text (turn m) = false
has_bad_text advise = false
has_bad_text (remark t) = bad_text t
has_bad_text end = false

-- whether the text of a record may stand
abbrev pub text_check : Item → At → Result (Unit {0}) RecordFault
text_check item at = cond (has_bad_text item) (Err (BadText at)) (Ok tt)
