-- What is told of a record has room in 128 bytes, for every reading and every reply. Assumes nothing.
use Rattle.std.proofs.Common.{◌≡◌, ℕ, ◌≤◌, Bool, true, false, cond, List, length, Some, None, Ok, Err, Option, Result, sym, refl, ap, subst, zero-le, arith, leb-true}
use Rattle.games.specs.Rules.{Rules}
use Rattle.play.specs.Play.{Coins}
use Rattle.tables.specs.Calls.{Reply}
use Rattle.tables.specs.declared.calls.Move.{Move}
use Rattle.tables.specs.declared.calls.State.{State}
use Rattle.records.specs.Bytes.{Framed, frame_at, too_long}
use Rattle.records.specs.Records.{Item, head, lay, begin, turn, advise, remark, end, fits_kind, from_frame, has_bad_text, item_from, kind_of, of_kind, record_at}
use Rattle.records.specs.declared.bytes.At.{At}
use Rattle.records.specs.declared.bytes.ByteFault.{ByteFault}
use Rattle.records.specs.declared.record.Kind.{Kind}
use Rattle.records.specs.declared.record.Kind.TheVariants.{Head, Lay, Begin, Turn, Advise, Remark, End}
use Rattle.records.specs.declared.record.RecordFault.{RecordFault}
use Rattle.transcripts.specs.Readings.{Reading, accepted, at_end, at_of, found, lacks_pile, misplaced}
use Rattle.transcripts.specs.declared.fault.Fault.TheVariants.{AfterEnd, NoEnd}
use Rattle.transcripts.proofs.ReadingLaws.{no_fault, past}
use Rattle.reports.proofs.StepLaws.{passed}
use Rattle.reports.specs.Outcomes.{Telling, text_length}
use Rattle.reports.specs.Steps.{named, tell, tell_accepted, unless_refused}

-- how long the text of a remark is
abbrev pub item_text : Item → ℕ
item_text (head x) = 0
item_text (lay c) = 0
item_text begin = 0
item_text (turn m) = 0
item_text advise = 0
item_text (remark t) = length t
item_text end = 0

fit_short : (k : Kind) (body : List ℕ) → fits_kind k (length body) ≡ true → item_text (item_from k body) ≤ 80
fit_short Head body h = zero-le
fit_short Lay body h = zero-le
fit_short Begin body h = zero-le
fit_short Turn body h = zero-le
fit_short Advise body h = zero-le
fit_short Remark body h = leb-true (length body) 80 h
fit_short End body h = zero-le

kind_short : (at : At) (body : List ℕ) (k : Option Kind) (item : Item) → of_kind at body k ≡ Ok item → item_text item ≤ 80
kind_short at body None item h = absurd (no_fault item _ (sym h))
kind_short at body (Some k) item h =
    let p = passed (fits_kind k (length body)) _ item (item_from k body) h in
    subst (λ x. item_text x ≤ 80) p.1 (fit_short k body p.0)

frame_short : (at : At) (f : Result Framed ByteFault) (item : Item) → from_frame at f ≡ Ok item → item_text item ≤ 80
frame_short at (Ok f) item h = kind_short at f.body (kind_of f.kind) item h
frame_short at (Err e) item h = absurd (no_fault item _ (sym h))

accepted_short : (r : Reading) (x : Result Item RecordFault) (item : Item) → ((y : Item) → x ≡ Ok y → item_text y ≤ 80)
    → accepted r x ≡ Ok (Some item) → item_text item ≤ 80
accepted_short r (Err e) item short h = absurd (no_fault (Some item) _ (sym h))
accepted_short r (Ok y) item short h =
    let p : Ok (Some y) ≡ Ok (Some item)
    = past (has_bad_text y) _ _ _ (past (lacks_pile y) _ _ _ (past (misplaced r y) _ _ _ h)) in
    let e : y ≡ item = cc in
    subst (λ z. item_text z ≤ 80) e (short y refl)

open_short : (r : Reading) (b : Bool) (item : Item)
    → cond b (cond (at_end r) (Ok None) (Err (AfterEnd (at_of r)))) (cond (at_end r) (Err (NoEnd (at_of r))) (accepted r (record_at r.file (at_of r)))) ≡ Ok (Some item)
    → item_text item ≤ 80
open_short r true item h =
    let p = (passed (at_end r) _ (Some item) None h).1 in absurd (let z : ◌≡◌ {A = ℕ} 0 1 = cc in omega arith)
open_short r false item h =
    accepted_short r (record_at r.file (at_of r)) item (λ y. frame_short (at_of r) (frame_at r.file (at_of r)) y)
    (past (at_end r) _ _ _ h)

-- a remark that is found has a text of at most 80 bytes
pub found_short : (r : Reading) (item : Item) → found r ≡ Ok (Some item) → item_text item ≤ 80
found_short r item h = open_short r r.ended item (past (too_long r.file) _ _ _ h)

refused_short : (reply : Option Reply) (t : Telling) → text_length (unless_refused reply t) ≤ text_length t
refused_short (Some (Err e)) t = zero-le
refused_short (Some (Ok a)) t = omega arith
refused_short None t = omega arith

accepted_told_short : (G : Rules) (u : Coins) (s : State) (o : Option Move) (item : Item) → text_length (tell_accepted G u s o item) ≤ item_text item
accepted_told_short G u s o (head x) = zero-le
accepted_told_short G u s o (lay c) = zero-le
accepted_told_short G u s o begin = zero-le
accepted_told_short G u s o (turn m) = zero-le
accepted_told_short G u s (Some m) advise = zero-le
accepted_told_short G u s None advise = zero-le
accepted_told_short G u s o (remark t) = omega arith
accepted_told_short G u s o end = zero-le

-- what is told of a record has no longer text than the record
pub told_short : (G : Rules) (u : Coins) (s : State) (reply : Option Reply) (item : Item) → text_length (tell G u s reply item) ≤ item_text item
told_short G u s reply item =
    omega (arith, refused_short reply (tell_accepted G u s (named reply) item), accepted_told_short G u s (named reply) item)

-- so the text of what is told of a record that was found has room
pub step_short : (G : Rules) (u : Coins) (s : State) (reply : Option Reply) (item : Item) (t : Telling) (r : Reading)
    → t ≡ tell G u s reply item → found r ≡ Ok (Some item) → text_length t ≤ 80
step_short G u s reply item t r e f = omega (arith, found_short r item f, told_short G u s reply item, ap text_length e)
