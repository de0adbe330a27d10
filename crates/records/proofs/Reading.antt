-- A record that is read lies within its file.
use Rattle.std.proofs.Common.{◌≡◌, ℕ, ◌+◌, ◌≤◌, Bool, true, false, cond, List, length, Ok, Err, refl, ap, arith, length-drop, length-take, eqb-true}
use Rattle.std.proofs.lemmas.Bool.Decides.{nat_tests}
use Rattle.records.specs.Bytes.{Framed, frame_at, cut_short, body_at}
use Rattle.records.specs.Records.{fits_kind, item_from, item_size}
use Rattle.records.specs.declared.bytes.At.{At}
use Rattle.records.specs.declared.bytes.ByteFault.{ByteFault}
use Rattle.records.specs.declared.record.Kind.{Kind}
use Rattle.records.specs.declared.record.Kind.TheVariants.{Head, Lay, Begin, Turn, Advise, Remark, End}

-- a record takes four bytes and its body
pub sized : (k : Kind) (body : List ℕ) → fits_kind k (length body) ≡ true → item_size (item_from k body) ≡ 4 + length body
sized Head body h = omega (arith, eqb-true (length body) 10 h)
sized Lay body h = omega (arith, eqb-true (length body) 2 h)
sized Begin body h = omega (arith, eqb-true (length body) 0 h)
sized Turn body h = omega (arith, eqb-true (length body) 6 h)
sized Advise body h = omega (arith, eqb-true (length body) 0 h)
sized Remark body h = omega arith
sized End body h = omega (arith, eqb-true (length body) 0 h)

-- a body that is not cut short lies within the file
pub body_within : (file : List ℕ) (p : ℕ) → cut_short file p ≡ false → p + (4 + length (body_at file p)) ≤ length file
body_within file p h = simp (length-take, length-drop) (grind (arith, nat_tests))

unframed : (b : Bool) (d : ByteFault) (x f : Framed) → cond b (Err d) (Ok x) ≡ Ok f → (b ≡ false) × (x ≡ f)
unframed true d x f e = absurd (let z : ◌≡◌ {A = ℕ} 0 1 = cc in omega arith)
unframed false d x f e = (refl, cc)

-- so a frame that is found lies within the file
pub frame_within : (file : List ℕ) (at : At) (f : Framed) → frame_at file at ≡ Ok f → at.place + (4 + length f.body) ≤ length file
frame_within file at f e =
    let u = unframed (cut_short file at.place) _ _ f e in
    omega (arith, body_within file at.place u.0, ap (λ x. length x.body) u.1)
