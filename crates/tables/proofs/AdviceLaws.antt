-- Advice is right, and whoever follows it wins. Assumes nothing.
use Rattle.std.proofs.Common.{◌≡◌, ℕ, zero, suc, ◌<◌, Bool, true, false, cond, ◌&&◌, ◌||◌, ltb, ◌≢◌, ◌⊎◌, [], ◌∷◌, ◌++◌, is_ok, Some, None, Ok, Err, Option, sym, refl, ap, ◌∙◌, subst, inl, inr, arith, ltb-true, lt-ltb, eq-eqb, ne_eqb}
use native.Mathlib.Decide.{ℕ_discrete}
use borrow.Author.Tests.{both_ways, clash}
use Rattle.std.specs.Option.{option_map}
use Rattle.nimber_field.specs.Nimber.{◌⊕◌}
use Rattle.games.specs.Rules.{Rules, Lawful, FreeReply, Replies}
use Rattle.games.specs.Rows.{first}
use Rattle.games.specs.TakeValues.{any}
use Rattle.games.specs.Laws.RowLaws.{First, first_exists}
use Rattle.piles.specs.Laws.ProductLaws.{tartan_theorem}
use Rattle.play.specs.Play.{Coins, after, Legal, wins, position_value}
use Rattle.play.proofs.Turning.{on_board}
use Rattle.play.proofs.Theorem.{Winner, winner, move_to_zero, leaves_zero, lost_of, not_both}
use Rattle.tables.specs.Calls.{Reply, can_move, falls, advised_cell, advised_move, move_at, advice, reply_to, allowed_reply, touched, side_after, other_side}
use Rattle.tables.specs.Runs.{Entry, Run, some_entry, begins, coin, state_of, side_of, Told, RightAdvice, AdviceIsRight, AsAdvised, FollowsAdvice, AdviceWins, Promise}
use Rattle.tables.specs.declared.calls.Move.{Move}
use Rattle.tables.specs.declared.calls.State.TheVariants.{Setting, Playing, Over}
use Rattle.tables.specs.declared.calls.Side.{Side}
use Rattle.tables.specs.declared.calls.Side.TheVariants.{First as FirstSide, Second as SecondSide}
use Rattle.tables.specs.declared.calls.Call.{Call}
use Rattle.tables.specs.declared.calls.Call.TheVariants.{Lay, Begin, Turn, Weigh, Value, Advise}
use Rattle.tables.specs.declared.calls.Answer.{Answer}
use Rattle.tables.specs.declared.calls.Answer.TheVariants.{Advice}
use Rattle.tables.specs.declared.calls.Refusal.TheVariants.{NoCells}
use Rattle.games.proofs.Tests.{any_at}
use Rattle.tables.proofs.RunLaws.{Accepted, accepted, entry, coin_next, untouched, setting_unbegun, playing_begun, side_next}

module _ (G : Rules) (P : Lawful G) (R : Replies G) where
  advice_at_zero : (u : Coins) → position_value G u ≡ 0 → advice G u ≡ None
  advice_at_zero u e = ap (λ b. cond b None (advised_move G u)) (eq-eqb (position_value G u) 0 e)

  -- a reply at a head whose value falls is a winning move
  record MoveFound (u : Coins) : Type 0 where
    cell : ℕ
    number : ℕ
    is : advice G u ≡ Some (move_at cell number)
    legal : Legal G u cell number
    zeroes : position_value G (after G u cell number) ≡ 0

  advice_found : (u : Coins) → position_value G u ≢ 0 → MoveFound u
  advice_found u n = by_reply (G.answer c w) refl (R c w)
    where
      v : ℕ
      v = position_value G u

      p : ℕ → Bool
      p = falls G u v

      there : (x : Winner G P u) → First G.cells p (first G.cells p)
      there x = first_exists G.cells p x.cell x.on (λ i. x.heads i && lt-ltb (G.worth x.cell ⊕ v) (G.worth x.cell) x.lower i)

      c : ℕ
      c = advised_cell G u

      w : ℕ
      w = G.worth c ⊕ v

      found : (u c ≡ true) × (ltb w (G.worth c) ≡ true)
      found = both (u c) (ltb w (G.worth c)) (there (winner G P u n)).passes
        where
          both : (x y : Bool) → x && y ≡ true → (x ≡ true) × (y ≡ true)
          both true y e = (refl, e)
          both false y e = absurd (clash e)

      by_reply : (r : Option ℕ) → G.answer c w ≡ r → FreeReply G c w r → MoveFound u
      by_reply None e f = absurd (omega (arith, ltb-true w (G.worth c) found.1))
      by_reply (Some i) e f = record {
        cell = c;
        number = i;
        is = λ j. cond (ne_eqb v 0 n j) None (option_map (move_at c) (e j));
        legal = record { heads = found.0; numbered = f.1 };
        zeroes = move_to_zero G P u c i f.1 f.2;
      }

  pub advice_right : (u : Coins) → RightAdvice G u (advice G u)
  advice_right u = at (ℕ_discrete (position_value G u) 0)
    where
      at : Dec (position_value G u ≡ 0) → RightAdvice G u (advice G u)
      at (yes e) =
          let l = lost_of G P u e in subst (RightAdvice G u) (sym (advice_at_zero u e)) (l, λ w. not_both G w l)
      at (no n) =
          let f = advice_found u n in
          let l = lost_of G P (after G u f.cell f.number) f.zeroes in
          subst (RightAdvice G u) (sym f.is) (wins f.cell f.number f.legal l, f.legal, l)

  -- where no head has a move the value is 0
  over_zero : (u : Coins) → can_move G u ≡ false → position_value G u ≡ 0
  over_zero u e = at (ℕ_discrete (position_value G u) 0)
    where
      at : Dec (position_value G u ≡ 0) → position_value G u ≡ 0
      at (yes z) = z
      at (no n) =
          let f = advice_found u n in
          let movable : (u f.cell && ltb 0 (G.count f.cell)) ≡ true
          = λ i. f.legal.heads i && lt-ltb 0 (G.count f.cell) (omega (arith, f.legal.numbered)) i in
          absurd (both_ways (can_move G u) e (any_at G.cells _ f.cell (on_board G P f.cell f.number f.legal.numbered) movable))

  -- the part of a run before an entry
  told_part : (later earlier : Run) → Told G (later ++ earlier) → Told G earlier
  unfolding Told
  told_part [] earlier t = t
  told_part (e ∷ later) earlier t = told_part later earlier t.1

  told_at : (later earlier : Run) (e : Entry) → Told G (later ++ (e ∷ earlier)) → e.reply ≡ reply_to G (coin G earlier) (state_of G earlier) e.call
  told_at later earlier e t = at (told_part later (e ∷ earlier) t)
    where
      at : Told G (e ∷ earlier) → e.reply ≡ reply_to G (coin G earlier) (state_of G earlier) e.call
      at = unfold Told in λ x. x.0

  -- a table that is playing has a head that can move, and so it has cells
  playing_can : (h : Run) → state_of G h ≡ Playing → can_move G (coin G h) ≡ true
  playing_can h e = at (can_move G (coin G h)) refl
    where
      over : Over ≡ Playing → ◌≡◌ {A = ℕ} 0 1
      over q = cc

      at : (b : Bool) → can_move G (coin G h) ≡ b → b ≡ true
      at true p = refl
      at false p =
          let z = over (sym (λ i. cond (playing_begun G h e i) (cond (p i) Playing Over) Setting) ∙ e) in absurd (omega arith)

  any_some : (n : ℕ) (p : ℕ → Bool) → any n p ≡ true → 0 < n
  unfolding any
  any_some zero p e = absurd (clash e)
  any_some (suc n) p e = omega arith

  pub advice_is_right : (run : Run) → Told G run → AdviceIsRight G run
  advice_is_right run t later earlier r is playing =
      let told = told_at later earlier (record { call = Advise; reply = r }) (subst (Told G) is t) in
      let some = any_some G.cells _ (playing_can earlier playing) in
      record {
        named = advice G (coin G earlier);
        told =
            told ∙ (λ i. reply_to G (coin G earlier) (playing i) Advise)
            ∙ ap (λ b. cond b (allowed_reply G (coin G earlier) Advise) (Err NoCells)) (lt-ltb 0 G.cells some);
        right = advice_right (coin G earlier);
      }

  -- while a side follows advice, the value is 0 exactly when the other side is to move
  Holds : Side → Run → Type 0
  Holds s h = (some_entry begins h ≡ true) × (side_of h ≡ s → position_value G (coin G h) ≢ 0) × (side_of h ≢ s → position_value G (coin G h) ≡ 0)

  begun_more : (e : Entry) (h : Run) → some_entry begins h ≡ true → some_entry begins (e ∷ h) ≡ true
  unfolding some_entry
  begun_more e h b = ap (λ x. begins e || x) b ∙ or_true (begins e)
    where
      or_true : (x : Bool) → (x || true) ≡ true
      or_true true = refl
      or_true false = refl

  -- an entry that turns no coin and passes no turn
  unchanged : (s : Side) (e : Entry) (h : Run) → coin G (e ∷ h) ≡ coin G h → side_of (e ∷ h) ≡ side_of h → Holds s h → Holds s (e ∷ h)
  unfolding Holds
  unchanged s e h c d k = (
    begun_more e h k.0,
    λ q. subst (λ u. position_value G u ≢ 0) (sym c) (k.1 (sym d ∙ q)),
    λ q. ap (position_value G) c ∙ k.2 (λ x. q (d ∙ x)),
  )

  other_differs : (s : Side) → other_side s ≡ s → ⊥
  other_differs FirstSide q = let z : ◌≡◌ {A = ℕ} 0 1 = cc in omega arith
  other_differs SecondSide q = let z : ◌≡◌ {A = ℕ} 0 1 = cc in omega arith

  side_dec : (s t : Side) → (s ≡ t) ⊎ (other_side s ≡ t)
  side_dec FirstSide FirstSide = inl refl
  side_dec FirstSide SecondSide = inr refl
  side_dec SecondSide FirstSide = inr refl
  side_dec SecondSide SecondSide = inl refl

  -- a turn of the side is the advised one, and any turn of the other side leaves a value
  turned_on : (s : Side) (h : Run) (m : Move) (a : Answer) → Legal G (coin G h) m.cell m.number
      → side_of (entry (Turn m) (Ok a) ∷ h) ≡ other_side (side_of h)
      → (side_of h ≡ s → advice G (coin G h) ≡ Some m) → Holds s h → Holds s (entry (Turn m) (Ok a) ∷ h)
  unfolding Holds
  turned_on s h m a l d f k = at (side_dec (side_of h) s)
    where
      u : Coins
      u = coin G h

      next : coin G (entry (Turn m) (Ok a) ∷ h) ≡ after G u m.cell m.number
      next = coin_next G h (Turn m) (Ok a)

      advised : position_value G u ≢ 0 → advice G u ≡ Some m → position_value G (after G u m.cell m.number) ≡ 0
      advised n e =
          let x = advice_found u n in
          let same : move_at x.cell x.number ≡ m = some_same (sym x.is ∙ e) in
          sym (ap (λ y. position_value G (after G u y.cell y.number)) same) ∙ x.zeroes
        where
          some_same : {p q : Move} → ◌≡◌ {A = Option Move} (Some p) (Some q) → p ≡ q
          some_same e = cc

      at : (side_of h ≡ s) ⊎ (other_side (side_of h) ≡ s) → Holds s (entry (Turn m) (Ok a) ∷ h)
      at (inl q) = (
        begun_more (entry (Turn m) (Ok a)) h k.0,
        λ p. absurd (other_differs (side_of h) (sym d ∙ p ∙ sym q)),
        λ p. ap (position_value G) next ∙ advised (k.1 q) (f q),
      )
      at (inr q) = (
        begun_more (entry (Turn m) (Ok a)) h k.0,
        λ p. subst (λ v. position_value G v ≢ 0) (sym next) (leaves_zero G P u m.cell m.number l (k.2 (λ x. other_differs (side_of h) (q ∙ sym x)))),
        λ p. absurd (p (d ∙ q)),
      )

  step : (s : Side) (h : Run) (call : Call) (r : Reply) → r ≡ reply_to G (coin G h) (state_of G h) call
      → (is_ok r ≡ true → side_of h ≡ s → AsAdvised G h call) → Holds s h → Holds s (entry call r ∷ h)
  unfolding Holds
  step s h call (Err e) t f k = unchanged s (entry call (Err e)) h (coin_next G h call (Err e)) (side_next G h call (Err e) t) k
  step s h call (Ok a) t f k = by_call call a (accepted G (coin G h) (state_of G h) call a (sym t)) (side_next G h call (Ok a) t) (f refl)
    where
      begun_twice : state_of G h ≡ Setting → ⊥
      begun_twice e = both_ways (some_entry begins h) (setting_unbegun G h e) k.0

      still : (call : Call) (a : Answer) → ((d : ℕ) → touched G call d ≡ false) → side_of (entry call (Ok a) ∷ h) ≡ side_of h → Holds s (entry call (Ok a) ∷ h)
      still call a n d = unchanged s (entry call (Ok a)) h (coin_next G h call (Ok a) ∙ untouched G (coin G h) call n) d k

      by_call : (call : Call) (a : Answer) → Accepted G (coin G h) (state_of G h) call a → side_of (entry call (Ok a) ∷ h) ≡ side_after (side_of h) (Ok a)
          → (side_of h ≡ s → AsAdvised G h call) → Holds s (entry call (Ok a) ∷ h)
      by_call (Lay c) a x d g = absurd (begun_twice x.0)
      by_call Begin a x d g = absurd (begun_twice x.0)
      by_call (Turn m) a x d g = turned_on s h m a x.1 (d ∙ ap (λ b. side_after (side_of h) (Ok b)) x.2) g k
      by_call (Weigh m) a x d g = still (Weigh m) a (λ c. refl) (d ∙ ap (λ b. side_after (side_of h) (Ok b)) x)
      by_call Value a x d g = still Value a (λ c. refl) (d ∙ ap (λ b. side_after (side_of h) (Ok b)) x)
      by_call Advise a x d g = still Advise a (λ c. refl) (d ∙ ap (λ b. side_after (side_of h) (Ok b)) x.1)

  following : (s : Side) (later h : Run) → Told G (later ++ h) → FollowsAdvice G s later h → Holds s h → Holds s (later ++ h)
  unfolding Told FollowsAdvice
  following s [] h t f k = k
  following s (e ∷ later) h t f k = step s (later ++ h) e.call e.reply t.0 f.1 (following s later h t.1 f.0 k)

  -- a side that is advised a move has a value to bring down
  advised_starts : (h : Run) (m : Move) → Ok (Advice (Some m)) ≡ reply_to G (coin G h) (state_of G h) Advise → Holds (side_of h) (entry Advise (Ok (Advice (Some m))) ∷ h)
  unfolding Holds
  advised_starts h m t =
      let x = accepted G (coin G h) (state_of G h) Advise (Advice (Some m)) (sym t) in
      unchanged (side_of h) (entry Advise (Ok (Advice (Some m)))) h
      (coin_next G h Advise (Ok (Advice (Some m))) ∙ untouched G (coin G h) Advise (λ c. refl)) (side_next G h Advise (Ok (Advice (Some m))) t)
      (playing_begun G h x.0, λ q e. named x.1 e, λ q. absurd (q refl))
    where
      named : Advice (Some m) ≡ Advice (advice G (coin G h)) → position_value G (coin G h) ≡ 0 → ⊥
      named q e =
          let none : Advice (Some m) ≡ Advice None = q ∙ ap Advice (advice_at_zero (coin G h) e) in
          let z : ◌≡◌ {A = ℕ} 0 1 = differ_advice none in omega arith
        where
          differ_advice : Advice (Some m) ≡ Advice None → ◌≡◌ {A = ℕ} 0 1
          differ_advice p = cc

  over_stuck : (h : Run) → state_of G h ≡ Over → can_move G (coin G h) ≡ false
  over_stuck h e = at (some_entry begins h) refl (can_move G (coin G h)) refl
    where
      setting : Setting ≡ Over → ◌≡◌ {A = ℕ} 0 1
      setting q = cc

      playing : Playing ≡ Over → ◌≡◌ {A = ℕ} 0 1
      playing q = cc

      at : (p : Bool) → some_entry begins h ≡ p → (b : Bool) → can_move G (coin G h) ≡ b → b ≡ false
      at true p true q = let z = playing (sym (λ i. cond (p i) (cond (q i) Playing Over) Setting) ∙ e) in absurd (omega arith)
      at true p false q = refl
      at false p b q = let z = setting (sym (λ i. cond (p i) (cond (q i) Playing Over) Setting) ∙ e) in absurd (omega arith)

  pub advice_wins : (run : Run) → Told G run → AdviceWins G run
  unfolding Holds
  advice_wins run t later earlier m is f over same =
      let base = entry Advise (Ok (Advice (Some m))) ∷ earlier in
      let told = subst (Told G) is t in
      let k = following (side_of earlier) later base told f (advised_starts earlier m (told_at later earlier (entry Advise (Ok (Advice (Some m)))) told)) in
      (subst (Holds (side_of earlier)) (sym is) k).1 same (over_zero (coin G run) (over_stuck run over))

  pub promise : (run : Run) → Told G run → Promise G run
  promise run t = record {
    tartan = tartan_theorem;
    told = t;
    advice_is_right = advice_is_right run t;
    advice_wins = advice_wins run t;
  }
