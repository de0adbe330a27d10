-- A fault is met again, and the first record is a head.
use Rattle.std.proofs.Common.{◌≡◌, ℕ, zero, suc, Bool, true, false, cond, List, Some, Ok, Err, Option, Result, sym, ap, ◌∙◌, arith}
use Rattle.records.specs.Bytes.{too_long}
use Rattle.records.specs.Records.{Item, head, lay, begin, turn, advise, remark, end, record_at}
use Rattle.records.specs.declared.bytes.At.{At}
use Rattle.records.specs.declared.record.Head.{Head}
use Rattle.records.specs.declared.record.RecordFault.{RecordFault}
use Rattle.transcripts.specs.Readings.{Reading, Stuck, accepted, as_first, at_end, at_of, found, head_or, later, lacks_pile, reading_after, start}
use Rattle.transcripts.specs.declared.fault.Fault.{Fault}
use Rattle.transcripts.specs.declared.fault.Fault.TheVariants.{NoPile}

-- a fault leaves the reading where it is, so it is met again
pub stuck : (r : Reading) (e : Fault) → found r ≡ Err e → Stuck r e
unfolding later
stuck r e h zero = h
stuck r e h (suc n) = ap (λ x. found (later n (reading_after r x))) h ∙ stuck r e h n

pub no_fault : {X E : Type 0} (x : X) (e : E) → Ok x ≡ Err e → ⊥
no_fault x e h = let z : ◌≡◌ {A = ℕ} 0 1 = cc in omega arith

-- past a check that may refuse
pub past : {X E : Type 0} (b : Bool) (e : E) (x : X) (y : Result X E) → cond b (Err e) y ≡ Ok x → y ≡ Ok x
past true e x y h = absurd (no_fault x e (sym h))
past false e x y h = h

first_accepted : (file : List ℕ) (x : Result Item RecordFault) (o : Option Item) → Ok o ≡ accepted (start file) x → (h : Head) × (o ≡ Some (head h))
first_accepted file (Err e) o q = absurd (no_fault o _ q)
first_accepted file (Ok (head h)) o q =
    let p : Ok (Some (head h)) ≡ Ok o = past (lacks_pile (head h)) (NoPile (at_of (start file))) o (Ok (Some (head h))) (sym q) in (h, cc)
first_accepted file (Ok (lay c)) o q = absurd (no_fault o _ q)
first_accepted file (Ok begin) o q = absurd (no_fault o _ q)
first_accepted file (Ok (turn m)) o q = absurd (no_fault o _ q)
first_accepted file (Ok advise) o q = absurd (no_fault o _ q)
first_accepted file (Ok (remark t)) o q = absurd (no_fault o _ q)
first_accepted file (Ok end) o q = absurd (no_fault o _ q)

-- a fault that was found is met again
pub again : (r s : Reading) (x : Result (Option Item) Fault) → x ≡ found r → s ≡ reading_after r x → (e : Fault) → x ≡ Err e → Stuck s e
again r s x f a e h n =
    ap (λ y. found (later n y)) (a ∙ ap (reading_after r) h) ∙ stuck r e (sym f ∙ h) n

-- the first record that is found is a head
pub first_found : (file : List ℕ) (o : Option Item) → Ok o ≡ found (start file) → (h : Head) × (o ≡ Some (head h))
first_found file o q =
    first_accepted file (record_at file (at_of (start file))) o (sym (past (at_end (start file)) _ o _ (past (too_long file) _ o _ (sym q))))

-- so what is read first is given as a head
pub head_first : (file : List ℕ) (at : At) (item : Item) → Ok (Some item) ≡ found (start file) → as_first (head_or at item) ≡ found (start file)
head_first file at item q =
    let f = first_found file (Some item) q in
    let e : item ≡ head f.0 = let p = f.1 in cc in
    ap (λ x. as_first (head_or at x)) e ∙ ap (λ x. Ok (Some x)) (sym e) ∙ q
