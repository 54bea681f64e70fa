-- The script that is made of a number. This project's own.
use Rattle.std.specs.Prelude.{ℕ, zero, suc, pos, ◌+◌, ◌*◌, ◌%◌, ◌^◌, ◌<◌, ◌≤◌, ◌==◌, if◌then◌else◌, List, [], ◌∷◌, ◌++◌}
use Rattle.link_bay.specs.declared.order.Order.TheVariants.{Join}
use Rattle.link_bay.specs.declared.order.Kind.TheVariants as peers
use Rattle.script_lines.specs.declared.paint.Paint.{Paint}
use Rattle.script_lines.specs.declared.paint.Paint.TheVariants.{Open, Fill, Noise, Copy, Resize, Raise, Move}
use Rattle.script_lines.specs.declared.plan.PlanLine.TheVariants.{Turn}
use Rattle.script_lines.specs.declared.line.Line.{Line}
use Rattle.script_lines.specs.declared.line.Line.TheVariants as line
use Rattle.paint_script.specs.declared.draws.Draw.{Draw}
use Rattle.window_model.specs.Generator.{next_state, number_of, colour_of}

-- the state after so many steps
unfoldable pub state_after : ℕ → ℕ → ℕ
state_after state zero = state
state_after state (suc count) = next_state (state_after state count)

-- the numbers that follow a state, one step each, in this order
unfoldable pub drawn : ℕ → Draw
drawn state = record {
  kind = number_of (state_after state 1) % 8;
  wid = 1 + number_of (state_after state 2) % 4;
  x = number_of (state_after state 3) % 128;
  y = number_of (state_after state 4) % 128;
  w = 1 + number_of (state_after state 5) % 64;
  h = 1 + number_of (state_after state 6) % 64;
  c = colour_of (state_after state 7);
}

-- the numbers of a round are in their ranges
pub record IsDrawn (d : Draw) : Type 0 where
  pub first : 1 ≤ d.wid
  pub last : d.wid ≤ 4
  pub across : d.x < 128
  pub down : d.y < 128
  pub some_wide : 1 ≤ d.w
  pub wide : d.w ≤ 64
  pub some_high : 1 ≤ d.h
  pub high : d.h ≤ 64
  pub coloured : d.c < 2 ^ 24

-- the line of a round
unfoldable pub round_line : Draw → Paint
round_line d =
    if d.kind == 3 then Noise d.wid d.x d.y d.w d.h d.c
    else (if d.kind == 4 then Copy d.wid d.x d.y d.w d.h d.y d.x
    else (if d.kind == 5 then Resize d.wid (191 + d.w) (191 + d.h)
    else (if d.kind == 6 then Raise d.wid
    else (if d.kind == 7 then Move d.wid (pos d.x) (pos d.y)
    else Fill d.wid d.x d.y d.w d.h d.c))))

-- after each tenth round stands `turn`
abbrev pub pause_after : ℕ → List Line
pause_after round = if round % 10 == 0 then line.Plan Turn ∷ [] else []

-- the lines of the first so many rounds that begin with this state
unfoldable pub rounds : ℕ → ℕ → List Line
rounds state zero = []
rounds state (suc count) = rounds state count ++ line.Paint (round_line (drawn (state_after state (7 * count)))) ∷ pause_after (count + 1)

-- the four windows
unfoldable pub openings : ℕ → List Line
openings zero = []
openings (suc count) = openings count ++ line.Paint (Open (count + 1) (pos 0) (pos 0) 256 256) ∷ []

-- three peers and four windows
unfoldable pub beginning : List Line
beginning = (line.Peer (Join peers.Exact []) ∷ line.Peer (Join peers.Lossy []) ∷ line.Peer (Join peers.Exact []) ∷ []) ++ openings 4

-- and 500 rounds
unfoldable pub generated : ℕ → List Line
generated n = beginning ++ rounds n 500
