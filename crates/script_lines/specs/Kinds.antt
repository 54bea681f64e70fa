-- The kinds of lines, by their first words. This project's own.
use Rattle.std.specs.Prelude.{ℕ, ◌==◌, Bool, if◌then◌else◌, Option, Some, None, List, [], ◌∷◌, length, codes}
use Rattle.std.specs.Option.{option_map, option_or}
use Rattle.std.specs.Str.{bytes_eq}
use Rattle.script_lines.specs.declared.kinds.Kind.{Kind}
use Rattle.script_lines.specs.declared.kinds.Kind.TheVariants as kind
use Rattle.script_lines.specs.declared.kinds.PaintKind.{PaintKind}
use Rattle.script_lines.specs.declared.kinds.PaintKind.TheVariants as paint
use Rattle.script_lines.specs.declared.kinds.PeerKind.{PeerKind}
use Rattle.script_lines.specs.declared.kinds.PeerKind.TheVariants as peer
use Rattle.script_lines.specs.declared.kinds.PlanKind.{PlanKind}
use Rattle.script_lines.specs.declared.kinds.PlanKind.TheVariants as plan

-- the kind that stands beside this word
abbrev pub named : {K : Type 0} → List (List ℕ × K) → List ℕ → Option K
named [] word = None
named (row ∷ rows) word = if bytes_eq word row.0 then Some row.1 else named rows word

abbrev pub paint_kind : List ℕ → Option PaintKind
paint_kind = named (
    (codes "open", paint.Open) ∷ (codes "close", paint.Close) ∷ (codes "fill", paint.Fill) ∷ (codes "copy", paint.Copy)
    ∷ (codes "noise", paint.Noise) ∷ (codes "resize", paint.Resize) ∷ (codes "move", paint.Move) ∷ (codes "raise", paint.Raise) ∷ [])

abbrev pub plan_kind : List ℕ → Option PlanKind
plan_kind = named (
    (codes "accept", plan.Accept) ∷ (codes "read", plan.Read) ∷ (codes "capture", plan.Capture) ∷ (codes "take", plan.Take)
    ∷ (codes "finish", plan.Finish) ∷ (codes "send", plan.Send) ∷ (codes "owed", plan.Owed) ∷ (codes "wait", plan.Wait) ∷ (codes "turn", plan.Turn) ∷ [])

-- the orders for a peer that has joined
abbrev pub order_kind : List ℕ → Option PeerKind
order_kind = named (
    (codes "map", peer.Map) ∷ (codes "unmap", peer.Unmap) ∷ (codes "refresh", peer.Refresh) ∷ (codes "leave", peer.Leave) ∷ (codes "say", peer.Say) ∷ [])

-- the words after `peer`, and whether they stand alone: a uuid may follow the first two, which makes another kind of line
abbrev pub join_kind : List ℕ → Bool → Option PeerKind
join_kind word alone = named (
    (codes "exact", if alone then peer.Exact else peer.NamedExact) ∷ (codes "lossy", if alone then peer.Lossy else peer.NamedLossy)
    ∷ (codes "dry", peer.Dry) ∷ (codes "hex", peer.Hex) ∷ []) word

-- the kind that a line's first word makes, where it is not `peer`
abbrev pub one_word : List ℕ → Option Kind
one_word word = option_or (option_map kind.Paint (paint_kind word)) (option_or (option_map kind.Plan (plan_kind word)) (option_map kind.Peer (order_kind word)))

abbrev pub joining : List (List ℕ) → Option (Kind × List (List ℕ))
joining [] = None
joining (word ∷ words) = option_map (λ k. (kind.Peer k, words)) (join_kind word (length words == 0))

-- a line's kind, and the words after those that name it
abbrev pub kind_of : List (List ℕ) → Option (Kind × List (List ℕ))
kind_of [] = None
kind_of (word ∷ words) = if bytes_eq word (codes "peer") then joining words else option_map (λ k. (k, words)) (one_word word)
