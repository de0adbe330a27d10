use Rattle.std.proofs.Common.{◌≡◌, false, ℕ, ◌+◌, ◌-◌, ◌≤◌, ◌||◌, List, length, take, drop, nat_lt, sym, refl, ap, ◌∙◌, arith, length-drop}
use Rattle.std.proofs.lemmas.Bool.Decides.{nat_tests}
use Rattle.std.proofs.lemmas.List.{drop-drop, take_all}
use Rattle.records.specs.Bytes.{Framed, cut_short, frame_of, number_of}
use Rattle.records.proofs.bytes.frame_in.Goals as goal

enough : (file : List ℕ) (p n : ℕ) → 4 ≤ length (drop p file) → n ≤ length (drop 4 (drop p file)) → (nat_lt (length file - p) 4 || nat_lt (length file - p) (4 + n)) ≡ false
enough file p n h k = grind (arith, nat_tests, h, k, length-drop p file, length-drop 4 (drop p file))

-- what follows the place, cut behind two bytes and behind two more, is the frame there
cut : (file : List ℕ) (p : ℕ) → 4 ≤ length (drop p file) → number_of (take 2 (drop p file)) ≤ length (drop 2 (drop 2 (drop p file)))
    → (cut_short file p ≡ false)
    × (◌≡◌ {A = Framed} (record { kind = number_of (take 2 (drop 2 (drop p file))); body = take (number_of (take 2 (drop p file))) (drop 2 (drop 2 (drop p file))) }) (frame_of file p))
cut file p h k = (
  enough file p _ h (rw (sym (drop-drop 2 2 (drop p file))) k),
  rw (drop-drop 2 2 (drop p file), drop-drop 4 p file, drop-drop 2 p file) refl,
)

pub returns : goal.returns
returns c =
    let file = c.args.file.now in
    let g = c.in_ok-get.ensures.lookup.0 in
    let l = c.in_ok-length.ensures.cases in
    let k = c.in_ok-kind.ensures.cases in
    let b = c.in_ok-get-2.ensures.lookup.0 in
    let rest : c.in_ok-get.field-0.now ≡ drop c.args.place file = g.2 ∙ take_all _ _ (omega (arith, length-drop c.args.place file)) in
    let one : c.in_ok-length.rest.now ≡ drop 2 (drop c.args.place file) = l.1 ∙ ap (drop 2) rest in
    let two : c.in_ok-kind.rest.now ≡ drop 2 (drop 2 (drop c.args.place file)) = k.1 ∙ ap (drop 2) one in
    let n : c.number-2.result ≡ number_of (take 2 (drop c.args.place file)) = c.number-2.ensures ∙ ap number_of (l.0 ∙ ap (take 2) rest) in
    let m : c.number.result ≡ number_of (take 2 (drop 2 (drop c.args.place file))) = c.number.ensures ∙ ap number_of (k.0 ∙ ap (take 2) one) in
    let x = cut file c.args.place (omega (arith, ap length rest, l.2, k.2)) (omega (arith, sym n, ap length two, b.1)) in
    let body : c.in_ok-get-2.field-0.now ≡ take c.number-2.result c.in_ok-kind.rest.now = b.2 ∙ ap (λ i. take i c.in_ok-kind.rest.now) (omega arith) in
    (x.0, rw (m, body, n, two) x.1)
