-- Runs: the calls on one new table with their replies, the latest first, and the laws that hold over them. Assumes nothing.
use Rattle.std.specs.Prelude.{◌≡◌, ℕ, Bool, true, false, cond, ◌&&◌, ◌||◌, ◌≢◌, List, [], ◌∷◌, ◌++◌, is_ok, Some, None, Ok, Option}
use Rattle.nimber_field.specs.Tower.{differ}
use Rattle.games.specs.Rules.{Rules}
use Rattle.piles.specs.Layers.{TartanTheorem}
use Rattle.play.specs.Play.{Coins, after, Legal, Won, Lost}
use Rattle.tables.specs.Coins.{coins}
use Rattle.tables.specs.Calls.{Reply, touched, play_state, advice, reply_to, Follows}
use Rattle.tables.specs.declared.calls.Move.{Move}
use Rattle.tables.specs.declared.calls.State.{State}
use Rattle.tables.specs.declared.calls.State.TheVariants.{Setting, Playing, Over}
use Rattle.tables.specs.declared.calls.Side.{Side}
use Rattle.tables.specs.declared.calls.Side.TheVariants.{First, Second}
use Rattle.tables.specs.declared.calls.Call.{Call}
use Rattle.tables.specs.declared.calls.Call.TheVariants.{Lay, Begin, Turn, Weigh, Value, Advise}
use Rattle.tables.specs.declared.calls.Answer.TheVariants.{Advice}
use Rattle.tables.specs.declared.table.Record.{Record}
use Rattle.tables.specs.declared.table.Table.{Table}

-- a call with its reply
pub record Entry : Type 0 where
  pub call : Call
  pub reply : Reply

-- a run, the latest entry first
abbrev pub Run : Type 0
Run = List Entry

-- the run of some calls with their replies
unfoldable pub run_on : Run → List Call → List Reply → Run
run_on h [] replies = h
run_on h (call ∷ calls) [] = h
run_on h (call ∷ calls) (r ∷ replies) = run_on (record { call = call; reply = r } ∷ h) calls replies

-- the run of some calls on a new table, with their replies
abbrev pub run_of : List Call → List Reply → Run
run_of calls replies = run_on [] calls replies

-- whether an odd number of entries pass the test
unfoldable pub odd_many : (Entry → Bool) → Run → Bool
odd_many p [] = false
odd_many p (e ∷ h) = differ (odd_many p h) (p e)

-- whether some entry passes the test
unfoldable pub some_entry : (Entry → Bool) → Run → Bool
some_entry p [] = false
some_entry p (e ∷ h) = p e || some_entry p h

-- an accepted lay on c, or an accepted turn that held c
abbrev pub turned_coin : Rules → ℕ → Entry → Bool
turned_coin G c e = is_ok e.reply && touched G e.call c

-- the call ends the setting
abbrev pub is_begin : Call → Bool
is_begin (Lay c) = false
is_begin Begin = true
is_begin (Turn m) = false
is_begin (Weigh m) = false
is_begin Value = false
is_begin Advise = false

-- the call makes a move
abbrev pub is_turn : Call → Bool
is_turn (Lay c) = false
is_turn Begin = false
is_turn (Turn m) = true
is_turn (Weigh m) = false
is_turn Value = false
is_turn Advise = false

-- an accepted begin
abbrev pub begins : Entry → Bool
begins e = is_ok e.reply && is_begin e.call

-- an accepted turn, which passes the move to the other side
abbrev pub passes : Entry → Bool
passes e = is_ok e.reply && is_turn e.call

-- a coin shows heads exactly when its accepted lays and the accepted turns that held it are odd in number together
abbrev pub coin : Rules → Run → Coins
coin G h c = odd_many (turned_coin G c) h

-- setting until an accepted begin, then over when no head has a move, else playing
abbrev pub state_of : Rules → Run → State
state_of G h = cond (some_entry begins h) (play_state G (coin G h)) Setting

-- the first side after an even number of accepted turns, else the second
abbrev pub side_of : Run → Side
side_of h = cond (odd_many passes h) Second First

-- a record is the one after a run
pub record Stands (G : Rules) (h : Run) (k : Record) : Type 0 where
  pub coins_stand : coins k.position ≡ coin G h
  pub state_stands : k.state ≡ state_of G h
  pub side_stands : k.side ≡ side_of h

-- a call carries the laws of a run on: they hold with it after any run with which they held before it
abbrev pub Carries : Rules → Call → Reply → Record → Record → Type 0
Carries G call r before after = (h : Run) → Stands G h before → Stands G (record { call = call; reply = r } ∷ h) after

-- a call was done on a table: the game stays, the reply is the right one, what is kept follows from it, and the laws of runs are carried on
pub record Does {X : Type 0} (rules : X → Rules) (call : Call) (r : Reply) {g : _} (before now : Table X g) : Type 0 where
  pub game : now.game ≡ before.game
  pub answer : r ≡ reply_to (rules before.game) (coins before.kept.position) before.kept.state call
  pub after : Follows (rules before.game) call r before.kept now.kept
  pub run : Carries (rules before.game) call r before.kept now.kept

-- each reply of a run is the one that the table gives after what came before
unfoldable pub Told : Rules → Run → Type 0
Told G [] = Unit {0}
Told G (e ∷ h) = (e.reply ≡ reply_to G (coin G h) (state_of G h) e.call) × Told G h

-- advice is right: none where the position is lost, and else a legal move that leaves it lost
abbrev pub RightAdvice : Rules → Coins → Option Move → Type 0
RightAdvice G u None = Lost G u × (Won G u → ⊥)
RightAdvice G u (Some m) = Won G u × Legal G u m.cell m.number × Lost G (after G u m.cell m.number)

-- an advise that was called while the table was playing got right advice
pub record Advised (G : Rules) (h : Run) (r : Reply) : Type 0 where
  pub named : Option Move
  pub told : r ≡ Ok (Advice named)
  pub right : RightAdvice G (coin G h) named

-- whenever the table is playing, advise names a move exactly when the position is won, and that move wins
abbrev pub AdviceIsRight : Rules → Run → Type 0
AdviceIsRight G run =
    (later earlier : Run) (r : Reply) → run ≡ later ++ (record { call = Advise; reply = r } ∷ earlier)
    → state_of G earlier ≡ Playing → Advised G earlier r

-- the accepted turn of an entry, where it is one, is the move that was advised just before it
abbrev pub AsAdvised : Rules → Run → Call → Type 0
AsAdvised G h (Lay c) = Unit {0}
AsAdvised G h Begin = Unit {0}
AsAdvised G h (Turn m) = advice G (coin G h) ≡ Some m
AsAdvised G h (Weigh m) = Unit {0}
AsAdvised G h Value = Unit {0}
AsAdvised G h Advise = Unit {0}

-- after the run h, each later accepted turn of a side is the one that advise gives on the table just before it
unfoldable pub FollowsAdvice : Rules → Side → Run → Run → Type 0
FollowsAdvice G s [] h = Unit {0}
FollowsAdvice G s (e ∷ later) h =
    FollowsAdvice G s later h × (is_ok e.reply ≡ true → side_of (later ++ h) ≡ s → AsAdvised G (later ++ h) e.call)

-- a side that is advised a move on its turn, and follows advice from then on, is not to move when the table is over
abbrev pub AdviceWins : Rules → Run → Type 0
AdviceWins G run =
    (later earlier : Run) (m : Move) → run ≡ later ++ (record { call = Advise; reply = Ok (Advice (Some m)) } ∷ earlier)
    → FollowsAdvice G (side_of earlier) later (record { call = Advise; reply = Ok (Advice (Some m)) } ∷ earlier)
    → state_of G run ≡ Over → side_of run ≢ side_of earlier

-- what is promised of every run on a new table of a game
pub record Promise (G : Rules) (run : Run) : Type 0 where
  pub tartan : TartanTheorem
  pub told : Told G run
  pub advice_is_right : AdviceIsRight G run
  pub advice_wins : AdviceWins G run
