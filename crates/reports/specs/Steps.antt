-- What a step does, for every file, place, table and buffer. Assumes nothing.
use Rattle.std.specs.Prelude.{◌≡◌, ℕ, ◌+◌, cond, List, ◌∷◌, length, Some, None, Ok, Err, Option, Result}
use Rattle.std.specs.Option.{option_map, unwrap_or}
use Rattle.games.specs.Rules.{Rules}
use Rattle.games.specs.Twins.{twins}
use Rattle.piles.specs.Layers.{product}
use Rattle.play.specs.Play.{Coins, position_value}
use Rattle.tables.specs.Coins.{coins}
use Rattle.tables.specs.Calls.{Follows, Reply, reply_to}
use Rattle.tables.specs.Runs.{Run, Stands, coin, state_of}
use Rattle.tables.specs.declared.calls.Answer.{Answer}
use Rattle.tables.specs.declared.calls.Answer.TheVariants.{Laid, Begun, Turned, Worth, Advice}
use Rattle.tables.specs.declared.calls.Call.{Call}
use Rattle.tables.specs.declared.calls.Move.{Move}
use Rattle.tables.specs.declared.calls.State.{State}
use Rattle.tables.specs.declared.table.Record.{Record}
use Rattle.records.specs.Records.{Item, head, lay, begin, turn, advise, remark, end, board_of, call_of}
use Rattle.transcripts.specs.Readings.{Reading, at_of, found, reading_after, start}
use Rattle.transcripts.specs.declared.fault.Fault.{Fault}
use Rattle.transcripts.specs.declared.fault.Fault.TheVariants.{SmallBuffer}
use Rattle.reports.specs.Lines.{in_front, too_small}
use Rattle.reports.specs.Outcomes.{Telling, board, laid, begun, turned, play, lost, refused, said, ended, line_of}

-- the game that is played behind a refused head: it has no cells
abbrev pub no_game : Rules
no_game = product (twins 0) (twins 0)

-- the game of a file, by what is found first: the pile that its head names
abbrev pub game_found : Result (Option Item) Fault → Rules
game_found (Ok (Some (head x))) = unwrap_or (board_of x) no_game
game_found (Ok (Some (lay c))) = no_game
game_found (Ok (Some begin)) = no_game
game_found (Ok (Some (turn m))) = no_game
game_found (Ok (Some advise)) = no_game
game_found (Ok (Some (remark t))) = no_game
game_found (Ok (Some end)) = no_game
game_found (Ok None) = no_game
game_found (Err e) = no_game

-- the game of a file
abbrev pub game_of : List ℕ → Rules
game_of file = game_found (found (start file))

-- the move that an answer names
abbrev pub named_by : Answer → Option Move
named_by Laid = None
named_by (Begun t) = None
named_by (Turned t) = None
named_by (Worth v) = None
named_by (Advice o) = o

-- the move that a reply names
abbrev pub named : Option Reply → Option Move
named (Some (Ok a)) = named_by a
named (Some (Err e)) = None
named None = None

-- what is told of advice: the move, or that the position is lost
abbrev pub advised : Option Move → Telling
advised (Some m) = play m
advised None = lost

-- what is told of a record whose call, if it has one, was accepted, by the coins and the state of the table afterwards
abbrev pub tell_accepted : Rules → Coins → State → Option Move → Item → Telling
tell_accepted G u s o (head x) = board G.cells
tell_accepted G u s o (lay c) = laid c
tell_accepted G u s o begin = begun s
tell_accepted G u s o (turn m) = turned m (position_value G u) s
tell_accepted G u s o advise = advised o
tell_accepted G u s o (remark t) = said t
tell_accepted G u s o end = ended

-- a refusal is told in the place of what was to be told
abbrev pub unless_refused : Option Reply → Telling → Telling
unless_refused (Some (Err e)) t = refused e
unless_refused (Some (Ok a)) t = t
unless_refused None t = t

-- what is told of a record, by the reply to its call, if it has one, and the coins and the state of the table afterwards
abbrev pub tell : Rules → Coins → State → Option Reply → Item → Telling
tell G u s reply item = unless_refused reply (tell_accepted G u s (named reply) item)

-- the reply to the call of a record, if it has one, by the coins and the state of the table before it
abbrev pub reply_for : Rules → Coins → State → Item → Option Reply
reply_for G u s item = option_map (reply_to G u s) (call_of item)

-- what the table keeps after a record: what its call leaves, and without a call all as it was
abbrev pub CallLeaves : Rules → Record → Record → Option Call → Type 0
CallLeaves G before after None = after ≡ before
CallLeaves G before after (Some call) = Follows G call (reply_to G (coins before.position) before.state call) before after

-- a run with the call of a record, if it has one, and its reply
abbrev pub run_call : Rules → Run → Option Call → Run
run_call G h None = h
run_call G h (Some call) = record { call = call; reply = reply_to G (coin G h) (state_of G h) call } ∷ h

-- a run with a record
abbrev pub run_with : Rules → Run → Item → Run
run_with G h item = run_call G h (call_of item)

-- the laws of runs are carried on by the call of a record
abbrev pub CallCarries : Rules → Record → Record → Option Call → Type 0
CallCarries G before after call = (h : Run) → Stands G h before → Stands G (run_call G h call) after

-- what a step meets: the buffer is too small for a line, or else what reading finds
abbrev pub met : ℕ → Reading → Result (Option Item) Fault
met room r = cond (too_small room) (Err (SmallBuffer (at_of r))) (found r)

-- the length that a step gives: that of its line, and 0 where there is no record
abbrev pub length_given : (Item → List ℕ) → Result (Option Item) Fault → Result ℕ Fault
length_given text (Ok (Some item)) = Ok (length (text item))
length_given text (Ok None) = Ok 0
length_given text (Err e) = Err e

-- the buffer after a step: the line in front, and the bytes behind it as they were
abbrev pub buffer_after : (Item → List ℕ) → List ℕ → Result (Option Item) Fault → List ℕ
buffer_after text bytes (Ok (Some item)) = in_front (text item) bytes
buffer_after text bytes (Ok None) = bytes
buffer_after text bytes (Err e) = bytes

-- the call of the record that a step meets
abbrev pub call_met : Result (Option Item) Fault → Option Call
call_met (Ok (Some item)) = call_of item
call_met (Ok None) = None
call_met (Err e) = None

-- the line of a record, by what the table keeps before and after it
abbrev pub line_for : Rules → ℕ → Record → Record → Item → List ℕ
line_for G n before after item =
    line_of n (tell G (coins after.position) after.state (reply_for G (coins before.position) before.state item) item)

-- the line that is given for what is found: none where there is no record
abbrev pub line_given : (Item → List ℕ) → Result (Option Item) Fault → Result (Option (List ℕ)) Fault
line_given text (Ok (Some item)) = Ok (Some (text item))
line_given text (Ok None) = Ok None
line_given text (Err e) = Err e

-- what reading on and telling does, by what is found: the reading place and the table afterwards, the laws of runs, and the line that it gives
pub record Tells (G : Rules) (r r' : Reading) (before after : Record) (given : Result (Option (List ℕ)) Fault) : Type 0 where
  pub reading : r' ≡ reading_after r (found r)
  pub leaves : CallLeaves G before after (call_met (found r))
  pub run : CallCarries G before after (call_met (found r))
  pub gives : given ≡ line_given (line_for G (r.read + 1) before after) (found r)

-- what a step does, by what it meets: the reading place and the table afterwards, the laws of runs, the length that it gives and the buffer
pub record Stepped (G : Rules) (r r' : Reading) (before after : Record) (bytes bytes' : List ℕ) (given : Result ℕ Fault) : Type 0 where
  pub reading : r' ≡ reading_after r (met (length bytes) r)
  pub leaves : CallLeaves G before after (call_met (met (length bytes) r))
  pub run : CallCarries G before after (call_met (met (length bytes) r))
  pub gives : given ≡ length_given (line_for G (r.read + 1) before after) (met (length bytes) r)
  pub writes : bytes' ≡ buffer_after (line_for G (r.read + 1) before after) bytes (met (length bytes) r)
