use Rattle.std.proofs.Common.{◌≡◌, ◌++◌, ℕ, List, [], ◌+◌, take, add-one, sym, ap, subst, ◌∙◌, arith}
use Rattle.std.proofs.lemmas.List.{take_all}
use Rattle.std.specs.List.{concat}
use Rattle.std.specs.Prelude.{None}
use Rattle.bencode_values.specs.declared.value.Value.{Value}
use Rattle.packet_frames.specs.Stream.{packets_of}
use Rattle.packet_frames.specs.Following.{Framing}
use Rattle.packet_frames.specs.Pieces.{given_of, TakesAll}
use Rattle.packet_frames.proofs.Taking.{takes_nothing, fed_limit, concat_more}
use Rattle.packet_frames.proofs.pieces.read_pieces.Goals as goal

pub loop-piece-init : goal.loop-piece-init
loop-piece-init c =
    subst (λ (given : List (ℕ × Value)). TakesAll [] given c.args.limit c.new-framer.result None) (sym c.new-packets.ensures.items)
    (takes_nothing c.args.limit c.new-framer.result c.new-framer.ensures.start c.new-framer.ensures.history)

pub loop-piece-preserved : goal.loop-piece-preserved
loop-piece-preserved c =
    let before : List ℕ = concat (take c.loop-piece.piece-index c.args.pieces.now) in
    let limit : c.feed.new.self.limit ≡ c.args.limit = ap (λ (f : Framing). f.limit) c.in_ok-feed.ensures.ok ∙ fed_limit c.loop-piece.framer c.as_slice.result.now ∙ c.loop-piece.invariant.same in
    let bytes : before ++ c.as_slice.result.now ≡ concat (take (c.loop-piece.piece-index + 1) c.args.pieces.now) =
    ap (λ (xs : List ℕ). before ++ xs) (c.as_slice.ensures ∙ c.piece-item.is)
    ∙ sym (concat_more c.args.pieces.now c.loop-piece.piece-index c.piece-item.result (omega (arith, c.loop-piece-test.true)))
    ∙ ap (λ (n : ℕ). concat (take n c.args.pieces.now)) (sym (add-one c.loop-piece.piece-index)) in
    subst (λ (xs : List ℕ). TakesAll xs c.take_all.new.packets.items c.args.limit c.take_all.new.framer c.in_ok-fault.fault) bytes
    (subst (λ (n : ℕ). TakesAll (before ++ c.as_slice.result.now) c.take_all.new.packets.items n c.take_all.new.framer c.in_ok-fault.fault) limit
    (c.in_ok-fault.ensures (before ++ c.as_slice.result.now) (c.in_ok-feed.ensures.history before (given_of c.loop-piece.packets.items) c.loop-piece.invariant.follows)))

pub returns-clause-packets : goal.returns-clause-packets
returns-clause-packets c =
    sym (ap (λ (bytes : List ℕ). (packets_of c.args.limit bytes).packets) (ap concat (sym (take_all c.loop-piece.piece-index c.args.pieces.now (omega (arith, c.loop-piece-test.false))))) ∙ c.loop-piece.invariant.packets)
