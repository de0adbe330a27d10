-- What a table answers to a call, and what it is afterwards. Assumes nothing.
use Rattle.std.specs.Prelude.{◌≡◌, ℕ, ◌<◌, Bool, true, false, cond, ◌&&◌, Some, None, Ok, Err, Option, Result, ◌==◌, nat_lt}
use Rattle.std.specs.Option.{option_map}
use Rattle.nimber_field.specs.Nimber.{◌⊕◌}
use Rattle.games.specs.Rules.{Rules}
use Rattle.games.specs.Rows.{first}
use Rattle.games.specs.TakeValues.{any}
use Rattle.play.specs.Play.{Coins, turned, after, position_value}
use Rattle.tables.specs.Coins.{coins}
use Rattle.tables.specs.declared.calls.Move.{Move}
use Rattle.tables.specs.declared.calls.State.{State}
use Rattle.tables.specs.declared.calls.State.TheVariants.{Setting, Playing, Over}
use Rattle.tables.specs.declared.calls.Side.{Side}
use Rattle.tables.specs.declared.calls.Side.TheVariants.{First, Second}
use Rattle.tables.specs.declared.calls.Call.{Call}
use Rattle.tables.specs.declared.calls.Call.TheVariants.{Lay, Begin, Turn, Weigh, Value, Advise}
use Rattle.tables.specs.declared.calls.Answer.{Answer}
use Rattle.tables.specs.declared.calls.Answer.TheVariants.{Laid, Begun, Turned, Worth, Advice}
use Rattle.tables.specs.declared.table.Record.{Record}
use Rattle.tables.specs.declared.table.Table.{Table}
use Rattle.tables.specs.declared.calls.Refusal.{Refusal}
use Rattle.tables.specs.declared.calls.Refusal.TheVariants.{NoCells, NotNow, OffBoard, Heads, Tails, NoMove}

-- the number of each refusal
abbrev pub refusal_number : Refusal → ℕ
refusal_number NoCells = 1
refusal_number NotNow = 2
refusal_number OffBoard = 3
refusal_number Heads = 4
refusal_number Tails = 5
refusal_number NoMove = 6

-- the number of each side
abbrev pub side_number : Side → ℕ
side_number First = 1
side_number Second = 2

-- the side that waits while a side is to move
abbrev pub other_side : Side → Side
other_side First = Second
other_side Second = First

-- what a table answers: an answer or a refusal
abbrev pub Reply : Type 0
Reply = Result Answer Refusal

-- whether some head has a move
abbrev pub can_move : Rules → Coins → Bool
can_move G u = any G.cells (λ c. u c && nat_lt 0 (G.count c))

-- a table at play is over when no head has a move
abbrev pub play_state : Rules → Coins → State
play_state G u = cond (can_move G u) Playing Over

-- a record that comes to a state
abbrev pub in_state : Record → State → Record
in_state k s = record { position = k.position; state = s; side = k.side }

-- whether c shows heads and its value falls when v is added
abbrev pub falls : Rules → Coins → (v c : ℕ) → Bool
falls G u v c = u c && nat_lt (G.worth c ⊕ v) (G.worth c)

-- the lowest of the numbers below n that pass the test, or none where none passes
abbrev pub LowestOf : ℕ → (ℕ → Bool) → Option ℕ → Type 0
LowestOf n p None = (k : ℕ) → k < n → p k ≡ false
LowestOf n p (Some c) = c ≡ first n p

-- the lowest head whose value falls when the value of the position is added
abbrev pub advised_cell : Rules → Coins → ℕ
advised_cell G u = first G.cells (falls G u (position_value G u))

-- the move of that number at a cell
abbrev pub move_at : ℕ → ℕ → Move
move_at c i = record { cell = c; number = i }

-- the game's reply at that head
abbrev pub advised_move : Rules → Coins → Option Move
advised_move G u =
    let c = advised_cell G u in option_map (move_at c) (G.answer c (G.worth c ⊕ position_value G u))

-- the advice: none at value 0, else that move
abbrev pub advice : Rules → Coins → Option Move
advice G u = cond (position_value G u == 0) None (advised_move G u)

-- the state in which a call is allowed; value is allowed in each
abbrev pub allowed : State → Call → Bool
allowed Setting (Lay c) = true
allowed Setting Begin = true
allowed Setting (Turn m) = false
allowed Setting (Weigh m) = false
allowed Setting Value = true
allowed Setting Advise = false
allowed Playing (Lay c) = false
allowed Playing Begin = false
allowed Playing (Turn m) = true
allowed Playing (Weigh m) = true
allowed Playing Value = true
allowed Playing Advise = true
allowed Over (Lay c) = false
allowed Over Begin = false
allowed Over (Turn m) = false
allowed Over (Weigh m) = false
allowed Over Value = true
allowed Over Advise = false

-- why a move cannot be made: it is off the board, at tails, or has no such number
abbrev pub move_fault : Rules → Coins → Move → Option Refusal
move_fault G u m =
    cond (nat_lt m.cell G.cells) (cond (u m.cell) (cond (nat_lt m.number (G.count m.cell)) None (Some NoMove)) (Some Tails)) (Some OffBoard)

-- the answer where there is no fault
abbrev pub unless : Option Refusal → Answer → Reply
unless None a = Ok a
unless (Some e) a = Err e

-- the reply where the game has cells and the state allows the call
abbrev pub allowed_reply : Rules → Coins → Call → Reply
allowed_reply G u (Lay c) = cond (nat_lt c G.cells) (cond (u c) (Err Heads) (Ok Laid)) (Err OffBoard)
allowed_reply G u Begin = Ok (Begun (play_state G u))
allowed_reply G u (Turn m) = unless (move_fault G u m) (Turned (play_state G (after G u m.cell m.number)))
allowed_reply G u (Weigh m) = unless (move_fault G u m) (Worth (position_value G (after G u m.cell m.number)))
allowed_reply G u Value = Ok (Worth (position_value G u))
allowed_reply G u Advise = Ok (Advice (advice G u))

-- the reply to a call at a position and a state
abbrev pub reply_to : Rules → Coins → State → Call → Reply
reply_to G u s call = cond (nat_lt 0 G.cells) (cond (allowed s call) (allowed_reply G u call) (Err NotNow)) (Err NoCells)

-- the coins that an accepted call turns
abbrev pub touched : Rules → Call → ℕ → Bool
touched G (Lay c) d = d == c
touched G Begin d = false
touched G (Turn m) d = G.holds m.cell m.number d
touched G (Weigh m) d = false
touched G Value d = false
touched G Advise d = false

-- the coins after a call with this reply
abbrev pub coins_after : Rules → Coins → Call → Reply → Coins
coins_after G u call (Ok a) = turned u (touched G call)
coins_after G u call (Err e) = u

-- the state after a call with this reply
abbrev pub state_after : State → Reply → State
state_after s (Ok Laid) = s
state_after s (Ok (Begun t)) = t
state_after s (Ok (Turned t)) = t
state_after s (Ok (Worth v)) = s
state_after s (Ok (Advice a)) = s
state_after s (Err e) = s

-- the side to move after a call with this reply
abbrev pub side_after : Side → Reply → Side
side_after s (Ok Laid) = s
side_after s (Ok (Begun t)) = s
side_after s (Ok (Turned t)) = other_side s
side_after s (Ok (Worth v)) = s
side_after s (Ok (Advice a)) = s
side_after s (Err e) = s

-- whether a call with this reply changes anything that the table keeps
abbrev pub changes : Call → Reply → Bool
changes (Lay c) (Ok a) = true
changes Begin (Ok a) = true
changes (Turn m) (Ok a) = true
changes (Weigh m) (Ok a) = false
changes Value (Ok a) = false
changes Advise (Ok a) = false
changes (Lay c) (Err e) = false
changes Begin (Err e) = false
changes (Turn m) (Err e) = false
changes (Weigh m) (Err e) = false
changes Value (Err e) = false
changes Advise (Err e) = false

-- what a record keeps after a call with this reply, from what it kept before
pub record Follows (G : Rules) (call : Call) (r : Reply) (before after : Record) : Type 0 where
  pub coins : coins after.position ≡ coins_after G (coins before.position) call r
  pub state : after.state ≡ state_after before.state r
  pub side : after.side ≡ side_after before.side r
  pub same : changes call r ≡ false → after ≡ before

-- a call that the state allows was done: the game stays, the reply is the right one, and what is kept follows from it
pub record DoesAllowed {X : Type 0} (rules : X → Rules) (call : Call) (r : Reply) {g : _} (before now : Table X g) : Type 0 where
  pub game : now.game ≡ before.game
  pub answer : r ≡ allowed_reply (rules before.game) (coins before.kept.position) call
  pub after : Follows (rules before.game) call r before.kept now.kept
