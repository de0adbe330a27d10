-- A transcript as bytes. Assumes nothing.
use Rattle.std.specs.Prelude.{ℕ, ◌+◌, ◌-◌, ◌*◌, Bool, cond, ◌||◌, List, length, take, drop, Ok, Err, Result, nat_lt, slice_index}
use Rattle.records.specs.declared.bytes.At.{At}
use Rattle.records.specs.declared.bytes.ByteFault.{ByteFault}
use Rattle.records.specs.declared.bytes.ByteFault.TheVariants.{CutShort, TooLong}
use Rattle.records.specs.declared.bytes.Frame.{Frame}

-- the number of each fault of the bytes
abbrev pub byte_fault_number : ByteFault → ℕ
byte_fault_number (CutShort at) = 10
byte_fault_number (TooLong at) = 16

-- the record that would have been read
abbrev pub byte_fault_at : ByteFault → At
byte_fault_at (CutShort at) = at
byte_fault_at (TooLong at) = at

-- the number in at most four bytes, the low one first; a byte that is not there counts 0
abbrev pub number_of : List ℕ → ℕ
number_of bytes = slice_index bytes 0 + slice_index bytes 1 * 256 + slice_index bytes 2 * 65536 + slice_index bytes 3 * 16777216

-- the number in the two bytes at a place
abbrev pub two_at : List ℕ → ℕ → ℕ
two_at bytes p = number_of (take 2 (drop p bytes))

-- the number in the four bytes at a place
abbrev pub four_at : List ℕ → ℕ → ℕ
four_at bytes p = number_of (take 4 (drop p bytes))

-- a record begins with the length of its body
abbrev pub body_length_at : List ℕ → ℕ → ℕ
body_length_at file p = two_at file p

-- then comes the number of its kind
abbrev pub kind_at : List ℕ → ℕ → ℕ
kind_at file p = two_at file (p + 2)

-- and then its body
abbrev pub body_at : List ℕ → ℕ → List ℕ
body_at file p = take (body_length_at file p) (drop (p + 4) file)

-- whether fewer bytes are left at a place than the record there has
abbrev pub cut_short : List ℕ → ℕ → Bool
cut_short file p = nat_lt (length file - p) 4 || nat_lt (length file - p) (4 + body_length_at file p)

-- a record as bytes
pub record Framed : Type 0 where
  pub kind : ℕ
  pub body : List ℕ

-- a frame of the code, with its slice read as a list
abbrev pub framed : Frame → Framed
framed f = record { kind = f.kind; body = f.body.now }

-- the same of a result
abbrev pub as_framed : Result Frame ByteFault → Result Framed ByteFault
as_framed (Ok f) = Ok (framed f)
as_framed (Err e) = Err e

-- the record in the bytes at a place
abbrev pub frame_of : List ℕ → ℕ → Framed
frame_of file p = record { kind = kind_at file p; body = body_at file p }

-- the record at a place, or that it is cut short
abbrev pub frame_at : List ℕ → At → Result Framed ByteFault
frame_at file at = cond (cut_short file at.place) (Err (CutShort at)) (Ok (frame_of file at.place))

-- a file has at most 65,535 bytes
abbrev pub too_long : List ℕ → Bool
too_long file = nat_lt 65535 (length file)

-- whether the file may be read at all
abbrev pub size_check : List ℕ → At → Result (Unit {0}) ByteFault
size_check file at = cond (too_long file) (Err (TooLong at)) (Ok tt)
