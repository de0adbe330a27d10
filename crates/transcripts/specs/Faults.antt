-- The faults of a transcript: their numbers, layers and places. Assumes nothing.
use Rattle.std.specs.Prelude.{ℕ, Bool, false, ◌||◌, List, [], ◌∷◌, ◌==◌}
use Rattle.records.specs.Records.{record_fault_at, record_fault_number}
use Rattle.records.specs.declared.bytes.At.{At}
use Rattle.records.specs.declared.record.RecordFault.{RecordFault}
use Rattle.records.specs.declared.record.RecordFault.TheVariants.{Bytes, UnknownKind, WrongLength, BadText}
use Rattle.transcripts.specs.declared.fault.Fault.{Fault}
use Rattle.transcripts.specs.declared.fault.Fault.TheVariants.{Records, HeadMisplaced, NoPile, NoEnd, AfterEnd, SmallBuffer}
use Rattle.transcripts.specs.declared.fault.Layer as layers

-- the number of each fault; one from below keeps its own
abbrev pub fault_number : Fault → ℕ
fault_number (Records e) = record_fault_number e
fault_number (HeadMisplaced at) = 13
fault_number (NoPile at) = 14
fault_number (NoEnd at) = 17
fault_number (AfterEnd at) = 18
fault_number (SmallBuffer at) = 19

-- the layer that a fault of the records, or below, comes from
abbrev pub record_fault_layer : RecordFault → layers.Layer
record_fault_layer (Bytes e) = layers.TheVariants.Bytes
record_fault_layer (UnknownKind at) = layers.TheVariants.Records
record_fault_layer (WrongLength at) = layers.TheVariants.Records
record_fault_layer (BadText at) = layers.TheVariants.Records

-- the layer that a fault comes from
abbrev pub fault_layer : Fault → layers.Layer
fault_layer (Records e) = record_fault_layer e
fault_layer (HeadMisplaced at) = layers.TheVariants.Referee
fault_layer (NoPile at) = layers.TheVariants.Referee
fault_layer (NoEnd at) = layers.TheVariants.Referee
fault_layer (AfterEnd at) = layers.TheVariants.Referee
fault_layer (SmallBuffer at) = layers.TheVariants.Referee

-- each layer's share of the numbers
abbrev pub layer_share : layers.Layer → List ℕ
layer_share layers.TheVariants.Bytes = 10 ∷ 16 ∷ []
layer_share layers.TheVariants.Records = 11 ∷ 12 ∷ 15 ∷ []
layer_share layers.TheVariants.Referee = 13 ∷ 14 ∷ 17 ∷ 18 ∷ 19 ∷ []

-- whether a number is in a list
abbrev pub is_among : ℕ → List ℕ → Bool
is_among n [] = false
is_among n (m ∷ ms) = n == m || is_among n ms

-- the record that would have been read
abbrev pub fault_at : Fault → At
fault_at (Records e) = record_fault_at e
fault_at (HeadMisplaced at) = at
fault_at (NoPile at) = at
fault_at (NoEnd at) = at
fault_at (AfterEnd at) = at
fault_at (SmallBuffer at) = at
