-- What each kind of line wants at its places, and the line that it makes. This project's own.
use Rattle.std.specs.Prelude.{ℕ, ◌-◌, ◌==◌, if◌then◌else◌, Option, Some, None, Result, Ok, Err, List, [], ◌∷◌}
use Rattle.link_bay.specs.declared.order.Order.{Order}
use Rattle.link_bay.specs.declared.order.Order.TheVariants.{Join, Map, Unmap, Refresh, Leave, Say}
use Rattle.link_bay.specs.declared.order.Kind.TheVariants as peers
use Rattle.xp_base.specs.declared.numbers.Conn.{Conn}
use Rattle.script_lines.specs.declared.why.Why.{Why}
use Rattle.script_lines.specs.declared.why.Why.TheVariants as why
use Rattle.script_lines.specs.declared.line.Line.{Line}
use Rattle.script_lines.specs.declared.line.Line.TheVariants as line
use Rattle.script_lines.specs.declared.paint.Paint.{Paint}
use Rattle.script_lines.specs.declared.paint.Paint.TheVariants as paints
use Rattle.script_lines.specs.declared.plan.PlanLine.{PlanLine}
use Rattle.script_lines.specs.declared.plan.PlanLine.TheVariants as plans
use Rattle.script_lines.specs.declared.kinds.Kind.{Kind}
use Rattle.script_lines.specs.declared.kinds.Kind.TheVariants as kind
use Rattle.script_lines.specs.declared.kinds.PaintKind.{PaintKind}
use Rattle.script_lines.specs.declared.kinds.PaintKind.TheVariants as paint
use Rattle.script_lines.specs.declared.kinds.PeerKind.{PeerKind}
use Rattle.script_lines.specs.declared.kinds.PeerKind.TheVariants as peer
use Rattle.script_lines.specs.declared.kinds.PlanKind.{PlanKind}
use Rattle.script_lines.specs.declared.kinds.PlanKind.TheVariants as plan
use Rattle.script_lines.specs.Text.{words_of, without_return, is_comment}
use Rattle.script_lines.specs.Numbers.{bytes_of}
use Rattle.script_lines.specs.Arguments.{Argument, Number, Place, Colour, Hex, Uuid, nth_word, number_at, place_at, colour_at, read}
use Rattle.script_lines.specs.Kinds.{kind_of}

-- ---- the numbers by their ranges

abbrev pub wid : Argument
wid = Number 1 65535

abbrev pub point : Argument
point = Number 0 4095

abbrev pub side : Argument
side = Number 1 4096

abbrev pub client : Argument
client = Number 0 99999

-- ---- paint lines

abbrev pub paint_arguments : PaintKind → List Argument
paint_arguments paint.Open = wid ∷ Place ∷ Place ∷ side ∷ side ∷ []
paint_arguments paint.Close = wid ∷ []
paint_arguments paint.Fill = wid ∷ point ∷ point ∷ side ∷ side ∷ Colour ∷ []
paint_arguments paint.Copy = wid ∷ point ∷ point ∷ side ∷ side ∷ point ∷ point ∷ []
paint_arguments paint.Noise = wid ∷ point ∷ point ∷ side ∷ side ∷ Number 0 4294967295 ∷ []
paint_arguments paint.Resize = wid ∷ side ∷ side ∷ []
paint_arguments paint.Move = wid ∷ Place ∷ Place ∷ []
paint_arguments paint.Raise = wid ∷ []

abbrev pub paint_line : PaintKind → List (List ℕ) → Paint
paint_line paint.Open ws = paints.Open (number_at 0 ws) (place_at 1 ws) (place_at 2 ws) (number_at 3 ws) (number_at 4 ws)
paint_line paint.Close ws = paints.Close (number_at 0 ws)
paint_line paint.Fill ws = paints.Fill (number_at 0 ws) (number_at 1 ws) (number_at 2 ws) (number_at 3 ws) (number_at 4 ws) (colour_at 5 ws)
paint_line paint.Copy ws = paints.Copy (number_at 0 ws) (number_at 1 ws) (number_at 2 ws) (number_at 3 ws) (number_at 4 ws) (number_at 5 ws) (number_at 6 ws)
paint_line paint.Noise ws = paints.Noise (number_at 0 ws) (number_at 1 ws) (number_at 2 ws) (number_at 3 ws) (number_at 4 ws) (number_at 5 ws)
paint_line paint.Resize ws = paints.Resize (number_at 0 ws) (number_at 1 ws) (number_at 2 ws)
paint_line paint.Move ws = paints.Move (number_at 0 ws) (place_at 1 ws) (place_at 2 ws)
paint_line paint.Raise ws = paints.Raise (number_at 0 ws)

abbrev pub paint_form : PaintKind → List (List ℕ) → Result Paint Why
paint_form k ws = read (paint_arguments k) (paint_line k) ws

-- ---- peer lines

abbrev pub peer_arguments : PeerKind → List Argument
peer_arguments peer.Exact = []
peer_arguments peer.NamedExact = Uuid ∷ []
peer_arguments peer.Lossy = []
peer_arguments peer.NamedLossy = Uuid ∷ []
peer_arguments peer.Dry = Number 0 100000 ∷ []
peer_arguments peer.Hex = Hex ∷ []
peer_arguments peer.Map = client ∷ wid ∷ []
peer_arguments peer.Unmap = client ∷ wid ∷ []
peer_arguments peer.Refresh = client ∷ wid ∷ []
peer_arguments peer.Leave = client ∷ []
peer_arguments peer.Say = client ∷ Hex ∷ []

abbrev pub client_at : ℕ → List (List ℕ) → Conn
client_at place ws = record { 0 = number_at place ws }

abbrev pub peer_order : PeerKind → List (List ℕ) → Order
peer_order peer.Exact ws = Join peers.Exact []
peer_order peer.NamedExact ws = Join peers.Exact (nth_word 0 ws)
peer_order peer.Lossy ws = Join peers.Lossy []
peer_order peer.NamedLossy ws = Join peers.Lossy (nth_word 0 ws)
peer_order peer.Dry ws = Join (peers.Dry (number_at 0 ws)) []
peer_order peer.Hex ws = Join peers.Hex (bytes_of (nth_word 0 ws))
peer_order peer.Map ws = Map (client_at 0 ws) (number_at 1 ws)
peer_order peer.Unmap ws = Unmap (client_at 0 ws) (number_at 1 ws)
peer_order peer.Refresh ws = Refresh (client_at 0 ws) (number_at 1 ws)
peer_order peer.Leave ws = Leave (client_at 0 ws)
peer_order peer.Say ws = Say (client_at 0 ws) (bytes_of (nth_word 1 ws))

abbrev pub peer_form : PeerKind → List (List ℕ) → Result Order Why
peer_form k ws = read (peer_arguments k) (peer_order k) ws

-- ---- plan lines

abbrev pub plan_arguments : PlanKind → List Argument
plan_arguments plan.Accept = []
plan_arguments plan.Read = client ∷ []
plan_arguments plan.Capture = client ∷ wid ∷ []
plan_arguments plan.Take = []
plan_arguments plan.Finish = Number 1 9999999999 ∷ []
plan_arguments plan.Send = client ∷ Number 1 16777216 ∷ []
plan_arguments plan.Owed = client ∷ wid ∷ []
plan_arguments plan.Wait = Number 0 1000000 ∷ []
plan_arguments plan.Turn = []

abbrev pub plan_line : PlanKind → List (List ℕ) → PlanLine
plan_line plan.Accept ws = plans.Accept
plan_line plan.Read ws = plans.Read (number_at 0 ws)
plan_line plan.Capture ws = plans.Capture (number_at 0 ws) (number_at 1 ws)
plan_line plan.Take ws = plans.Take
plan_line plan.Finish ws = plans.Finish (number_at 0 ws)
plan_line plan.Send ws = plans.Send (number_at 0 ws) (number_at 1 ws)
plan_line plan.Owed ws = plans.Owed (number_at 0 ws) (number_at 1 ws)
plan_line plan.Wait ws = plans.Wait (number_at 0 ws)
plan_line plan.Turn ws = plans.Turn

abbrev pub plan_form : PlanKind → List (List ℕ) → Result PlanLine Why
plan_form k ws = read (plan_arguments k) (plan_line k) ws

-- ---- the text of a line

abbrev pub arguments : Kind → List Argument
arguments (kind.Paint k) = paint_arguments k
arguments (kind.Peer k) = peer_arguments k
arguments (kind.Plan k) = plan_arguments k

abbrev pub line_of : Kind → List (List ℕ) → Line
line_of (kind.Paint k) ws = line.Paint (paint_line k ws)
line_of (kind.Peer k) ws = line.Peer (peer_order k ws)
line_of (kind.Plan k) ws = line.Plan (plan_line k ws)

-- a line of this kind with these words after those that name it, or its fault
abbrev pub form : Kind → List (List ℕ) → Result Line Why
form k ws = read (arguments k) (line_of k) ws

-- a line that is there
abbrev pub present : Result Line Why → Result (Option Line) Why
present (Ok l) = Ok (Some l)
present (Err w) = Err w

abbrev pub of_kind : Option (Kind × List (List ℕ)) → Result (Option Line) Why
of_kind None = Err why.Word
of_kind (Some x) = present (form x.0 x.1)

-- words that are a line; without words there is none
abbrev pub of_words : List (List ℕ) → Result (Option Line) Why
of_words [] = Ok None
of_words (word ∷ words) = of_kind (kind_of (word ∷ words))

-- what the text of a line is by itself: no line where it has no words or is a comment; a line; or its fault
unfoldable pub text_line : List ℕ → Result (Option Line) Why
text_line text = if is_comment text then Ok None else of_words (words_of (without_return text))
