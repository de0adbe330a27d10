-- What a step meets.
use Rattle.std.proofs.Common.{◌≡◌, ℕ, ◌+◌, ◌<◌, Bool, true, false, cond, List, length, Some, None, Ok, Err, Option, Result, sym, refl, ap, ◌∙◌, subst, arith, leb-false}
use Rattle.games.specs.Rules.{Rules}
use Rattle.tables.specs.declared.table.Record.{Record}
use Rattle.records.specs.Bytes.{too_long}
use Rattle.records.specs.Records.{Item, has_bad_text, record_at}
use Rattle.records.specs.declared.record.RecordFault.{RecordFault}
use Rattle.transcripts.specs.Readings.{Reading, accepted, at_end, at_of, found, lacks_pile, misplaced, reading_after}
use Rattle.transcripts.specs.declared.fault.Fault.{Fault}
use Rattle.transcripts.specs.declared.fault.Fault.TheVariants.{AfterEnd, NoEnd, SmallBuffer}
use Rattle.transcripts.proofs.ReadingLaws.{no_fault, past}
use Rattle.reports.specs.Lines.{too_small}
use Rattle.reports.specs.Steps.{CallCarries, CallLeaves, Stepped, Tells, buffer_after, call_met, length_given, line_for, line_given, met}

pub passed : {X E : Type 0} (b : Bool) (e : E) (x y : X) → cond b (Ok y) (Err e) ≡ Ok x → (b ≡ true) × (y ≡ x)
passed true e x y h = (refl, cc)
passed false e x y h = absurd (no_fault x e (sym h))

-- a step with room enough meets what reading finds
pub met_found : (room : ℕ) (r : Reading) → too_small room ≡ false → met room r ≡ found r
met_found room r h = ap (λ b. cond b (Err (SmallBuffer (at_of r))) (found r)) h

-- a record is found only inside the file
pub found_inside : (r : Reading) (item : Item) → found r ≡ Ok (Some item) → r.place < length r.file
found_inside r item h = leb-false (length r.file) r.place (inside r.ended (past (too_long r.file) _ _ _ h))
  where
    not_past : (b : Bool) (e : Fault) (y : Result (Option Item) Fault) → cond b (Err e) y ≡ Ok (Some item) → b ≡ false
    not_past true e y q = absurd (no_fault (Some item) e (sym q))
    not_past false e y q = refl

    inside : (b : Bool)
        → cond b (cond (at_end r) (Ok None) (Err (AfterEnd (at_of r)))) (cond (at_end r) (Err (NoEnd (at_of r))) (accepted r (record_at r.file (at_of r)))) ≡ Ok (Some item)
        → at_end r ≡ false
    inside true q = let p = (passed (at_end r) _ (Some item) None q).1 in absurd (let z : ◌≡◌ {A = ℕ} 0 1 = cc in omega arith)
    inside false q = not_past (at_end r) _ _ q

-- behind the end record alone there is no record
pub found_none : (r : Reading) → found r ≡ Ok None → r.ended ≡ true
found_none r h = over r.ended refl (past (too_long r.file) _ _ _ h)
  where
    some : (x : Result Item RecordFault) → accepted r x ≡ Ok None → ⊥
    some (Err e) q = no_fault None _ (sym q)
    some (Ok y) q =
        let p : Ok (Some y) ≡ Ok None = past (has_bad_text y) _ _ _ (past (lacks_pile y) _ _ _ (past (misplaced r y) _ _ _ q)) in
        let z : ◌≡◌ {A = ℕ} 0 1 = cc in omega arith

    over : (b : Bool) → r.ended ≡ b
        → cond b (cond (at_end r) (Ok None) (Err (AfterEnd (at_of r)))) (cond (at_end r) (Err (NoEnd (at_of r))) (accepted r (record_at r.file (at_of r)))) ≡ Ok None
        → r.ended ≡ true
    over true e q = e
    over false e q = absurd (some (record_at r.file (at_of r)) (past (at_end r) _ _ _ q))

-- what gives a fault found it
pub fault_found : (text : Item → List ℕ) (x : Result (Option Item) Fault) (e : Fault) → Err e ≡ line_given text x → x ≡ Err e
fault_found text (Ok (Some item)) e h = cc
fault_found text (Ok None) e h = cc
fault_found text (Err f) e h = cc

-- and then nothing is done, and the next step meets the fault again
pub fault_told : (G : Rules) (r r' : Reading) (kept kept' : Record) (bytes : List ℕ) (given : Result ℕ Fault) (e : Fault) → too_small (length bytes) ≡ false
    → Tells G r r' kept kept' (Err e) → given ≡ Err e
    → Stepped G r r' kept kept' bytes bytes given × ((d : Fault) → given ≡ Err d → met (length bytes) r' ≡ Err d)
fault_told G r r' kept kept' bytes given e room t g =
    let text = line_for G (r.read + 1) kept kept' in
    let f = fault_found text (found r) e t.gives in
    let m = met_found (length bytes) r room in (
      record {
        reading = t.reading ∙ ap (reading_after r) (sym m);
        leaves = subst (λ x. CallLeaves G kept kept' (call_met x)) (sym m) t.leaves;
        run = subst (λ x. CallCarries G kept kept' (call_met x)) (sym m) t.run;
        gives = g ∙ ap (length_given text) (sym (m ∙ f));
        writes = ap (buffer_after text bytes) (sym (m ∙ f));
      },
      λ d h. let same : e ≡ d = cc in ap (met (length bytes)) (t.reading ∙ ap (reading_after r) f) ∙ m ∙ f ∙ ap Err same,
    )
