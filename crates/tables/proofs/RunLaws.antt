-- Each call carries the laws of a run on. Assumes nothing.
use Rattle.std.proofs.Common.{◌≡◌, ℕ, ◌+◌, ◌<◌, Bool, true, false, cond, ◌||◌, ltb, List, [], ◌∷◌, ◌++◌, length, get_or, take, Some, None, Ok, Err, Option, sym, refl, ap, ◌∙◌, subst, arith, length-take, ltb-true}
use mathlib.Core.Path.{fun_ext}
use Rattle.std.proofs.lemmas.List.{take_more}
use Rattle.nimber_field.specs.Tower.{differ}
use Rattle.nimber_field.proofs.Sums.{differ_false}
use Rattle.games.specs.Rules.{Rules}
use Rattle.play.specs.Play.{Coins, turned, after, position_value, Legal}
use Rattle.tables.specs.Coins.{coins}
use Rattle.tables.specs.Calls.{
  Reply,
  touched,
  play_state,
  advice,
  can_move,
  allowed,
  move_fault,
  unless,
  allowed_reply,
  reply_to,
  coins_after,
  state_after,
  side_after,
  other_side,
  Follows,
}
use Rattle.tables.specs.Runs.{Entry, Run, run_on, run_of, odd_many, some_entry, begins, passes, coin, state_of, side_of, Stands, Carries, Told}
use Rattle.tables.specs.declared.calls.Move.{Move}
use Rattle.tables.specs.declared.calls.State.{State}
use Rattle.tables.specs.declared.calls.State.TheVariants.{Setting, Playing, Over}
use Rattle.tables.specs.declared.calls.Side.TheVariants.{First, Second}
use Rattle.tables.specs.declared.calls.Call.{Call}
use Rattle.tables.specs.declared.calls.Call.TheVariants.{Lay, Begin, Turn, Weigh, Value, Advise}
use Rattle.tables.specs.declared.calls.Answer.{Answer}
use Rattle.tables.specs.declared.calls.Answer.TheVariants.{Laid, Begun, Turned, Worth, Advice}
use Rattle.tables.specs.declared.calls.Refusal.{Refusal}
use Rattle.tables.specs.declared.table.Record.{Record}

refused : {e : Refusal} {a : Answer} → ◌≡◌ {A = Reply} (Err e) (Ok a) → ⊥
refused p = let z : ◌≡◌ {A = ℕ} 0 1 = cc in omega arith

-- an accepted reply passed the test
cond_ok : (b : Bool) (x : Reply) (e : Refusal) (a : Answer) → cond b x (Err e) ≡ Ok a → (b ≡ true) × (x ≡ Ok a)
cond_ok true x e a p = (refl, p)
cond_ok false x e a p = absurd (refused p)

-- and where it failed one, it was not
cond_err : (b : Bool) (x : Reply) (e : Refusal) (a : Answer) → cond b (Err e) x ≡ Ok a → (b ≡ false) × (x ≡ Ok a)
cond_err true x e a p = absurd (refused p)
cond_err false x e a p = (refl, p)

-- a move with no fault is legal
unless_ok : (f : Option Refusal) (a b : Answer) → unless f a ≡ Ok b → (f ≡ None) × (b ≡ a)
unless_ok None a b p = (refl, cc)
unless_ok (Some e) a b p = absurd (refused p)

pub no_fault : (G : Rules) (u : Coins) (m : Move) → move_fault G u m ≡ None → Legal G u m.cell m.number
no_fault G u m e = at (ltb m.cell G.cells) (u m.cell) (ltb m.number (G.count m.cell)) refl refl e
  where
    fault : {r : Refusal} → ◌≡◌ {A = Option Refusal} (Some r) None → ⊥
    fault p = let z : ◌≡◌ {A = ℕ} 0 1 = cc in omega arith

    at : (p q r : Bool) → u m.cell ≡ q → ltb m.number (G.count m.cell) ≡ r
        → cond {A = Option Refusal} p (cond q (cond r None (Some Refusal.NoMove)) (Some Refusal.Tails)) (Some Refusal.OffBoard) ≡ None → Legal G u m.cell m.number
    at true true true h n x = record { heads = h; numbered = ltb-true m.number (G.count m.cell) n }
    at true true false h n x = absurd (fault x)
    at true false r h n x = absurd (fault x)
    at false q r h n x = absurd (fault x)

-- what an accepted call was: the state that allowed it, and its answer
abbrev pub Accepted : Rules → Coins → State → Call → Answer → Type 0
Accepted G u s (Lay c) a = (s ≡ Setting) × (a ≡ Laid)
Accepted G u s Begin a = (s ≡ Setting) × (a ≡ Begun (play_state G u))
Accepted G u s (Turn m) a = (s ≡ Playing) × Legal G u m.cell m.number × (a ≡ Turned (play_state G (after G u m.cell m.number)))
Accepted G u s (Weigh m) a = a ≡ Worth (position_value G (after G u m.cell m.number))
Accepted G u s Value a = a ≡ Worth (position_value G u)
Accepted G u s Advise a = (s ≡ Playing) × (a ≡ Advice (advice G u))

same_answer : {a b : Answer} → ◌≡◌ {A = Reply} (Ok a) (Ok b) → b ≡ a
same_answer p = cc

pub accepted : (G : Rules) (u : Coins) (s : State) (call : Call) (a : Answer) → reply_to G u s call ≡ Ok a → Accepted G u s call a
accepted G u s call a p = by_call s call (cond_ok (allowed s call) (allowed_reply G u call) _ a (cond_ok (ltb 0 G.cells) _ _ a p).1)
  where
    not_allowed : {A : Type 0} → false ≡ true → A
    not_allowed e = let z : ◌≡◌ {A = ℕ} 0 1 = ap (λ b. cond b 1 0) e in absurd (omega arith)

    laid : (c : ℕ) → allowed_reply G u (Lay c) ≡ Ok a → a ≡ Laid
    laid c e = same_answer (cond_err (u c) _ _ a (cond_ok (ltb c G.cells) _ _ a e).1).1

    by_call : (s : State) (call : Call) → (allowed s call ≡ true) × (allowed_reply G u call ≡ Ok a) → Accepted G u s call a
    by_call Setting (Lay c) h = (refl, laid c h.1)
    by_call Playing (Lay c) h = not_allowed h.0
    by_call Over (Lay c) h = not_allowed h.0
    by_call Setting Begin h = (refl, same_answer h.1)
    by_call Playing Begin h = not_allowed h.0
    by_call Over Begin h = not_allowed h.0
    by_call Setting (Turn m) h = not_allowed h.0
    by_call Playing (Turn m) h =
        let f = unless_ok (move_fault G u m) _ a h.1 in (refl, no_fault G u m f.0, f.1)
    by_call Over (Turn m) h = not_allowed h.0
    by_call Setting (Weigh m) h = not_allowed h.0
    by_call Playing (Weigh m) h = (unless_ok (move_fault G u m) _ a h.1).1
    by_call Over (Weigh m) h = not_allowed h.0
    by_call s Value h = same_answer h.1
    by_call Setting Advise h = not_allowed h.0
    by_call Playing Advise h = (refl, same_answer h.1)
    by_call Over Advise h = not_allowed h.0

abbrev pub entry : Call → Reply → Entry
entry call r = record { call = call; reply = r }

-- the coins after one entry more
pub coin_next : (G : Rules) (h : Run) (call : Call) (r : Reply) → coin G (entry call r ∷ h) ≡ coins_after G (coin G h) call r
unfolding odd_many
coin_next G h call (Ok a) = refl
coin_next G h call (Err e) = fun_ext (λ c. differ_false (coin G h c))

-- a call that touches no coin
pub untouched : (G : Rules) (u : Coins) (call : Call) → ((d : ℕ) → touched G call d ≡ false) → turned u (touched G call) ≡ u
untouched G u call n = fun_ext (λ d. ap (differ (u d)) (n d) ∙ differ_false (u d))

not_setting : (G : Rules) (u : Coins) → play_state G u ≡ Setting → ⊥
not_setting G u e = at (can_move G u) e
  where
    at : (b : Bool) → cond b Playing Over ≡ Setting → ⊥
    at true p = let z : ◌≡◌ {A = ℕ} 0 1 = cc in omega arith
    at false p = let z : ◌≡◌ {A = ℕ} 0 1 = cc in omega arith

-- whether a run has begun, by its state
pub setting_unbegun : (G : Rules) (h : Run) → state_of G h ≡ Setting → some_entry begins h ≡ false
setting_unbegun G h e = at (some_entry begins h) refl
  where
    at : (b : Bool) → some_entry begins h ≡ b → some_entry begins h ≡ false
    at true p = absurd (not_setting G (coin G h) (sym (ap (λ b. cond b (play_state G (coin G h)) Setting) p) ∙ e))
    at false p = p

pub playing_begun : (G : Rules) (h : Run) → state_of G h ≡ Playing → some_entry begins h ≡ true
playing_begun G h e = at (some_entry begins h) refl
  where
    at : (b : Bool) → some_entry begins h ≡ b → some_entry begins h ≡ true
    at true p = p
    at false p = let z : ◌≡◌ {A = ℕ} 0 1 = differs (sym (ap (λ b. cond b (play_state G (coin G h)) Setting) p) ∙ e) in absurd (omega arith)
      where
        differs : Setting ≡ Playing → ◌≡◌ {A = ℕ} 0 1
        differs q = cc

-- the state after an entry of which nothing changed
state_kept : (G : Rules) (h : Run) (e : Entry) → begins e ≡ false → coin G (e ∷ h) ≡ coin G h → state_of G (e ∷ h) ≡ state_of G h
unfolding some_entry
state_kept G h e n c = λ i. cond (n i || some_entry begins h) (play_state G (c i)) Setting

pub state_next : (G : Rules) (h : Run) (call : Call) (r : Reply) → r ≡ reply_to G (coin G h) (state_of G h) call
    → state_of G (entry call r ∷ h) ≡ state_after (state_of G h) r
unfolding some_entry
state_next G h call (Err e) t = state_kept G h (entry call (Err e)) refl (coin_next G h call (Err e))
state_next G h call (Ok a) t = by_call call a (accepted G (coin G h) (state_of G h) call a (sym t))
  where
    still : (call : Call) (a : Answer) → ((d : ℕ) → touched G call d ≡ false) → coin G (entry call (Ok a) ∷ h) ≡ coin G h
    still call a n = coin_next G h call (Ok a) ∙ untouched G (coin G h) call n

    by_call : (call : Call) (a : Answer) → Accepted G (coin G h) (state_of G h) call a → state_of G (entry call (Ok a) ∷ h) ≡ state_after (state_of G h) (Ok a)
    by_call (Lay c) a k =
        ap (λ b. cond b (play_state G (coin G (entry (Lay c) (Ok a) ∷ h))) Setting) (setting_unbegun G h k.0) ∙ sym k.0
        ∙ sym (ap (λ b. state_after (state_of G h) (Ok b)) k.1)
    by_call Begin a k =
        ap (play_state G) (still Begin a (λ d. refl)) ∙ sym (ap (λ b. state_after (state_of G h) (Ok b)) k.1)
    by_call (Turn m) a k =
        ap (λ b. cond b (play_state G (coin G (entry (Turn m) (Ok a) ∷ h))) Setting) (playing_begun G h k.0)
        ∙ ap (play_state G) (coin_next G h (Turn m) (Ok a)) ∙ sym (ap (λ b. state_after (state_of G h) (Ok b)) k.2)
    by_call (Weigh m) a k =
        state_kept G h (entry (Weigh m) (Ok a)) refl (still (Weigh m) a (λ d. refl)) ∙ sym (ap (λ b. state_after (state_of G h) (Ok b)) k)
    by_call Value a k = state_kept G h (entry Value (Ok a)) refl (still Value a (λ d. refl)) ∙ sym (ap (λ b. state_after (state_of G h) (Ok b)) k)
    by_call Advise a k =
        state_kept G h (entry Advise (Ok a)) refl (still Advise a (λ d. refl)) ∙ sym (ap (λ b. state_after (state_of G h) (Ok b)) k.1)

pub side_next : (G : Rules) (h : Run) (call : Call) (r : Reply) → r ≡ reply_to G (coin G h) (state_of G h) call
    → side_of (entry call r ∷ h) ≡ side_after (side_of h) r
unfolding odd_many
side_next G h call (Err e) t = ap (λ b. cond b Second First) (differ_false (odd_many passes h))
side_next G h call (Ok a) t = by_call call a (accepted G (coin G h) (state_of G h) call a (sym t))
  where
    passed : (b : Bool) → cond (differ b true) Second First ≡ other_side (cond b Second First)
    passed true = refl
    passed false = refl

    kept : (a : Answer) (b : Answer) → a ≡ b → side_after (side_of h) (Ok b) ≡ side_of h
        → cond (differ (odd_many passes h) false) Second First ≡ side_after (side_of h) (Ok a)
    kept a b e s = ap (λ x. cond x Second First) (differ_false (odd_many passes h)) ∙ sym s ∙ sym (ap (λ x. side_after (side_of h) (Ok x)) e)

    by_call : (call : Call) (a : Answer) → Accepted G (coin G h) (state_of G h) call a → side_of (entry call (Ok a) ∷ h) ≡ side_after (side_of h) (Ok a)
    by_call (Lay c) a k = kept a Laid k.1 refl
    by_call Begin a k = kept a (Begun (play_state G (coin G h))) k.1 refl
    by_call (Turn m) a k = passed (odd_many passes h) ∙ sym (ap (λ x. side_after (side_of h) (Ok x)) k.2)
    by_call (Weigh m) a k = kept a (Worth (position_value G (after G (coin G h) m.cell m.number))) k refl
    by_call Value a k = kept a (Worth (position_value G (coin G h))) k refl
    by_call Advise a k = kept a (Advice (advice G (coin G h))) k.1 refl

-- a call carries the laws on
pub carried : (G : Rules) (h : Run) (call : Call) (r : Reply) (before after : Record)
    → r ≡ reply_to G (coins before.position) before.state call → Follows G call r before after
    → Stands G h before → Stands G (entry call r ∷ h) after
carried G h call r before after t f s =
    let told : r ≡ reply_to G (coin G h) (state_of G h) call
    = t ∙ (λ i. reply_to G (s.coins_stand i) (s.state_stands i) call) in
    record {
      coins_stand = f.coins ∙ ap (λ u. coins_after G u call r) s.coins_stand ∙ sym (coin_next G h call r);
      state_stands = f.state ∙ ap (λ x. state_after x r) s.state_stands ∙ sym (state_next G h call r told);
      side_stands = f.side ∙ ap (λ x. side_after x r) s.side_stands ∙ sym (side_next G h call r told);
    }

-- one call more
run_push : (h : Run) (calls : List Call) (replies : List Reply) (call : Call) (r : Reply) → length calls ≡ length replies
    → run_on h (calls ++ (call ∷ [])) (replies ++ (r ∷ [])) ≡ entry call r ∷ run_on h calls replies
unfolding run_on
run_push h [] [] call r e = refl
run_push h [] (q ∷ replies) call r e = absurd (omega arith)
run_push h (d ∷ calls) [] call r e = absurd (omega arith)
run_push h (d ∷ calls) (q ∷ replies) call r e = run_push (entry d q ∷ h) calls replies call r (omega arith)

pub run_next : (calls : List Call) (replies more : List Reply) (i : ℕ) (d : Call) (r : Reply) → i < length calls → length replies ≡ i
    → more ≡ replies ++ (r ∷ []) → run_of (take (i + 1) calls) more ≡ entry (get_or calls i d) r ∷ run_of (take i calls) replies
run_next calls replies more i d r l e m =
    (λ j. run_of (take_more calls i d l j) (m j))
    ∙ run_push [] (take i calls) replies (get_or calls i d) r (length-take i calls ∙ omega arith)

-- a run that stands and was told stands and was told with one entry more
pub replayed : (G Gt : Rules) → Gt ≡ G → (h more : Run) (call : Call) (r : Reply) (before after : Record) → more ≡ entry call r ∷ h
    → r ≡ reply_to Gt (coins before.position) before.state call → Carries Gt call r before after
    → Stands G h before → Told G h → Stands G more after × Told G more
unfolding Told
replayed G Gt p h more call r before after m t carry s told =
    let on : r ≡ reply_to G (coin G h) (state_of G h) call
    = t ∙ (λ i. reply_to (p i) (s.coins_stand i) (s.state_stands i) call) in
    let stands : Stands G (entry call r ∷ h) after = subst (λ K. Stands K (entry call r ∷ h) after) p (carry h (subst (λ K. Stands K h before) (sym p) s)) in
    subst (λ x. Stands G x after × Told G x) (sym m) (stands, (on, told))
