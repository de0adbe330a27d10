-- Lines so far, and what they come to.
use Rattle.std.proofs.Common.{◌≡◌, ℕ, ◌+◌, ◌-◌, ◌<◌, ◌≤◌, Bool, true, false, cond, List, [], ◌∷◌, ◌++◌, length, Some, None, Ok, Err, Option, Result, sym, refl, ap, ◌∙◌, subst, append_assoc, append-nil, add-zero, arith, length-append}
use Rattle.games.specs.Rules.{Rules, Lawful, Replies}
use Rattle.tables.specs.Calls.{reply_to}
use Rattle.tables.specs.Runs.{Entry, Promise, Run, Stands, Told, coin, state_of}
use Rattle.tables.specs.declared.calls.Call.{Call}
use Rattle.tables.specs.declared.calls.Call.TheVariants.{Advise}
use Rattle.tables.specs.declared.table.Record.{Record}
use Rattle.records.specs.Records.{Item, head, lay, begin, turn, advise, remark, end, call_of, item_size, record_at}
use Rattle.transcripts.specs.Readings.{Reading, accepted, at_end, at_of, found, is_end, reading_after, start}
use Rattle.transcripts.specs.declared.fault.Fault.{Fault}
use Rattle.transcripts.specs.declared.fault.Fault.TheVariants.{NoEnd, Records}
use Rattle.records.specs.Bytes.{too_long}
use Rattle.records.specs.declared.bytes.ByteFault.TheVariants.{TooLong}
use Rattle.records.specs.declared.record.RecordFault.TheVariants.{Bytes}
use Rattle.reports.specs.Lines.{bad_line, line}
use Rattle.reports.specs.Outcomes.{line_of}
use Rattle.reports.specs.Steps.{CallCarries, Tells, call_met, game_of, line_for, line_given, reply_for, run_call, run_with, tell}
use Rattle.tables.proofs.AdviceLaws.{promise}
use Rattle.reports.proofs.StepLaws.{found_inside}
use Rattle.reports.specs.Reports.{AdviceLines, Closes, Finds, Reported, lines_of, reading_by, run_by, run_line}

-- one record more
pub reading_more : (r : Reading) (items : List Item) (item : Item)
    → reading_by r (items ++ (item ∷ [])) ≡ reading_after (reading_by r items) (Ok (Some item))
unfolding reading_by
reading_more r [] item = refl
reading_more r (x ∷ items) item = reading_more (reading_after r (Ok (Some x))) items item

pub finds_more : (r : Reading) (items : List Item) (item : Item) → Finds r items → found (reading_by r items) ≡ Ok (Some item)
    → Finds r (items ++ (item ∷ []))
unfolding Finds reading_by
finds_more r [] item f e = (e, tt)
finds_more r (x ∷ items) item f e = (f.0, finds_more (reading_after r (Ok (Some x))) items item f.1 e)

pub run_more : (G : Rules) (h : Run) (items : List Item) (item : Item) → run_by G h (items ++ (item ∷ [])) ≡ run_with G (run_by G h items) item
unfolding run_by
run_more G h [] item = refl
run_more G h (x ∷ items) item = run_more G (run_with G h x) items item

pub lines_more : (G : Rules) (h : Run) (n : ℕ) (items : List Item) (item : Item)
    → lines_of G h n (items ++ (item ∷ [])) ≡ lines_of G h n items ++ run_line G (run_by G h items) (n + length items) item
unfolding lines_of run_by
lines_more G h n [] item = append-nil (run_line G h n item) ∙ ap (λ k. run_line G h k item) (sym (add-zero n))
lines_more G h n (x ∷ items) item =
    ap (λ t. run_line G h n x ++ t) (lines_more G (run_with G h x) (n + 1) items item ∙ ap (λ k. lines_of G (run_with G h x) (n + 1) items ++ run_line G (run_by G (run_with G h x) items) k item) (omega arith))
    ∙ sym (append_assoc (run_line G h n x) (lines_of G (run_with G h x) (n + 1) items) _)

told_call : (G : Rules) (h : Run) (call : Option Call) → Told G h → Told G (run_call G h call)
unfolding Told
told_call G h None t = t
told_call G h (Some call) t = (refl, t)

-- every reply of the run of a file is the one that the run gives
pub told_by : (G : Rules) (h : Run) (items : List Item) → Told G h → Told G (run_by G h items)
unfolding run_by
told_by G h [] t = t
told_by G h (item ∷ items) t = told_by G (run_with G h item) items (told_call G h (call_of item) t)

-- what is known once some records have been read: their places, the table and the lines
pub record Progress (G : Rules) (file : List ℕ) (items : List Item) (r : Reading) (kept : Record) (out : List ℕ) : Type 0 where
  pub finds : Finds (start file) items
  pub place : r ≡ reading_by (start file) items
  pub stands : Stands G (run_by G [] items) kept
  pub lines : out ≡ lines_of G [] 1 items
  pub count : r.read ≡ length items
  pub ended : r.ended ≡ true → (before : List Item) × (items ≡ before ++ (end ∷ []))

-- the line by what the table keeps is the line by the run
line_same : (G : Rules) (h : Run) (n : ℕ) (item : Item) (before after : Record) → Stands G h before → Stands G (run_with G h item) after
    → line_for G n before after item ≡ run_line G h n item
line_same G h n item before after b a = λ i.
    line_of n (tell G (a.coins_stand i) (a.state_stands i) (reply_for G (b.coins_stand i) (b.state_stands i) item) item)

the_end : (item : Item) → is_end item ≡ true → item ≡ end
the_end (head x) h = cc
the_end (lay c) h = cc
the_end begin h = cc
the_end (turn m) h = cc
the_end advise h = cc
the_end (remark t) h = cc
the_end end h = refl

pub progress : (G : Rules) (file : List ℕ) (items : List Item) (r r' : Reading) (kept kept' : Record) (out out' : List ℕ) (item : Item)
    → Progress G file items r kept out → found r ≡ Ok (Some item) → r' ≡ reading_after r (Ok (Some item))
    → CallCarries G kept kept' (call_of item) → out' ≡ out ++ line_for G (r.read + 1) kept kept' item
    → Progress G file (items ++ (item ∷ [])) r' kept' out'
progress G file items r r' kept kept' out out' item p f a c o =
    let h = run_by G [] items in
    let next = c h p.stands in
    let number : r.read + 1 ≡ 1 + length items = omega (arith, p.count) in
    let line = line_same G h (r.read + 1) item kept kept' p.stands next ∙ ap (λ n. run_line G h n item) number in
    record {
      finds = finds_more (start file) items item p.finds (sym (ap found p.place) ∙ f);
      place = a ∙ ap (λ x. reading_after x (Ok (Some item))) p.place ∙ sym (reading_more (start file) items item);
      stands = subst (λ x. Stands G x kept') (sym (run_more G [] items item)) next;
      lines = o ∙ (λ i. p.lines i ++ line i) ∙ sym (lines_more G [] 1 items item);
      count = ap (λ x. x.read) a ∙ omega (arith, p.count, length-append items (item ∷ []));
      ended = λ e. (items, ap (λ x. items ++ (x ∷ [])) (the_end item (sym (ap (λ x. x.ended) a) ∙ e)));
    }

-- nothing has been read yet
pub started : (G : Rules) (file : List ℕ) (r : Reading) (kept : Record) (out : List ℕ) → r ≡ start file → Stands G [] kept → out ≡ []
    → Progress G file [] r kept out
unfolding Finds reading_by run_by lines_of
started G file r kept out e s o = record {
  finds = tt;
  place = e;
  stands = s;
  lines = o;
  count = ap (λ x. x.read) e;
  ended = λ t. absurd (let z : ◌≡◌ {A = Bool} false true = sym (ap (λ x. x.ended) e) ∙ t in let y : ◌≡◌ {A = ℕ} 0 1 = cc in omega arith);
}

-- what gives a line found a record, and what gives none found none
line_found : (text : Item → List ℕ) (x : Result (Option Item) Fault) (given : Option (List ℕ)) (line : List ℕ) → given ≡ Some line
    → Ok given ≡ line_given text x → (item : Item) × (x ≡ Ok (Some item)) × (line ≡ text item)
line_found text (Ok (Some item)) given line s e = (item, refl, cc)
line_found text (Ok None) given line s e = cc
line_found text (Err d) given line s e = cc

pub none_found : (text : Item → List ℕ) (x : Result (Option Item) Fault) (given : Option (List ℕ)) → given ≡ None → Ok given ≡ line_given text x → x ≡ Ok None
none_found text (Ok (Some item)) given n e = cc
none_found text (Ok None) given n e = refl
none_found text (Err d) given n e = cc

-- a line that is told: what was read, the table and the lines afterwards
pub advance : (G G' : Rules) → G' ≡ G → (file : List ℕ) (items : List Item) (r r' : Reading) (kept kept' : Record) (out out' line : List ℕ)
    (given : Option (List ℕ)) → given ≡ Some line → Progress G file items r kept out → Tells G' r r' kept kept' (Ok given) → out' ≡ out ++ line
    → (item : Item) × Progress G file (items ++ (item ∷ [])) r' kept' out'
advance G G' same file items r r' kept kept' out out' line given s p t o =
    let h = line_found (line_for G' (r.read + 1) kept kept') (found r) given line s t.gives in
    let item = h.0 in
    let carries = subst (λ y. CallCarries G' kept kept' (call_met y)) h.1 t.run in
    let told = h.2 ∙ ap (λ g. line_for g (r.read + 1) kept kept' item) same in (
      item,
      progress G file items r r' kept kept' out out' item p h.1 (t.reading ∙ ap (reading_after r) h.1)
          (subst (λ g. CallCarries g kept kept' (call_of item)) same carries) (o ∙ ap (λ y. out ++ y) told),
    )

four_or_more : (item : Item) → 4 ≤ item_size item
four_or_more (head x) = omega arith
four_or_more (lay c) = omega arith
four_or_more begin = omega arith
four_or_more (turn m) = omega arith
four_or_more advise = omega arith
four_or_more (remark t) = omega arith
four_or_more end = omega arith

-- less of the file is left after each line
pub less_left : (G : Rules) (r r' : Reading) (kept kept' : Record) (line : List ℕ) (given : Option (List ℕ)) → given ≡ Some line
    → Tells G r r' kept kept' (Ok given) → length r'.file - r'.place < length r.file - r.place
less_left G r r' kept kept' line given s t =
    let h = line_found (line_for G (r.read + 1) kept kept') (found r) given line s t.gives in
    let is = t.reading ∙ ap (reading_after r) h.1 in
    omega (arith, found_inside r h.0 h.1, four_or_more h.0, ap (λ y. y.place) is, ap (λ y. length y.file) is)

-- the run of a file goes on from the runs of its beginnings
grown : (G : Rules) (h : Run) (call : Option Call) (run later : Run) → run ≡ later ++ run_call G h call → (l : Run) × (run ≡ l ++ h)
grown G h None run later e = (later, e)
grown G h (Some call) run later e =
    let new : Entry = record { call = call; reply = reply_to G (coin G h) (state_of G h) call } in
    (later ++ (new ∷ []), e ∙ sym (append_assoc later (new ∷ []) h))

run_grows : (G : Rules) (h : Run) (items : List Item) → (later : Run) × (run_by G h items ≡ later ++ h)
unfolding run_by
run_grows G h [] = ([], refl)
run_grows G h (item ∷ items) =
    let l = run_grows G (run_with G h item) items in grown G h (call_of item) _ l.0 l.1

run_split : (G : Rules) (h : Run) (before rest : List Item) → run_by G h (before ++ rest) ≡ run_by G (run_by G h before) rest
unfolding run_by
run_split G h [] rest = refl
run_split G h (item ∷ before) rest = run_split G (run_with G h item) before rest

asked : (G : Rules) (h : Run) (after : List Item) → run_by G h (advise ∷ after) ≡ run_by G (run_with G h advise) after
unfolding run_by
asked G h after = refl

-- what is promised of advice holds of every line that tells it
advice_lines : (G : Rules) (items : List Item) → Promise G (run_by G [] items) → AdviceLines G items
advice_lines G items p before after e playing =
    let h = run_by G [] before in
    let l = run_grows G (run_with G h advise) after in
    let right = p.advice_is_right l.0 h (reply_to G (coin G h) (state_of G h) Advise)
    (ap (run_by G []) e ∙ run_split G [] before (advise ∷ after) ∙ asked G h after ∙ l.1) playing in
    record {
      named = right.named;
      line = ap (λ y. line_of (length before + 1) (tell G (coin G (run_with G h advise)) (state_of G (run_with G h advise)) (Some y) advise)) right.told;
      right = right.right;
    }

refused_first : (file : List ℕ) → too_long file ≡ true → found (start file) ≡ Err (Records (Bytes (TooLong (at_of (start file)))))
refused_first file t =
    ap (λ b. cond b (Err (Records (Bytes (TooLong (at_of (start file)))))) (cond (at_end (start file)) (Err (NoEnd (at_of (start file)))) (accepted (start file) (record_at file (at_of (start file)))))) t

-- a file that is too long has one line
long_file : (file : List ℕ) (items : List Item) (last out : List ℕ) → Finds (start file) items → Closes items (found (reading_by (start file) items)) last
    → out ≡ lines_of (game_of file) [] 1 items ++ last → too_long file ≡ true → out ≡ bad_line 1 16 0
unfolding Finds reading_by lines_of
long_file file [] last out f c e t = e ∙ subst (λ x. Closes [] x last) (refused_first file t) c
long_file file (item ∷ items) last out f c e t =
    absurd (let p = sym (refused_first file t) ∙ f.0 in let y : ◌≡◌ {A = ℕ} 0 1 = cc in omega arith)

-- the lines so far, with what closes them, are what is reported
pub reported_so : (file : List ℕ) (items : List Item) (r : Reading) (kept : Record) (out last whole : List ℕ) → Lawful (game_of file) → Replies (game_of file)
    → Progress (game_of file) file items r kept out → Closes items (found r) last → whole ≡ out ++ last → Reported file whole
unfolding Told
reported_so file items r kept out last whole lawful replies p c e =
    let G = game_of file in
    let kept_promise = promise G lawful replies (run_by G [] items) (told_by G [] items tt) in
    let closing = subst (λ x. Closes items (found x) last) p.place c in
    let all = e ∙ ap (λ o. o ++ last) p.lines in
    record {
      items = items;
      last = last;
      in_order = p.finds;
      closes = closing;
      lines = all;
      promise = kept_promise;
      advice = advice_lines G items kept_promise;
      long = long_file file items last whole p.finds closing all;
    }
