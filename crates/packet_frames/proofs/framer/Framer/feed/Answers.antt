use Rattle.std.proofs.Common.{◌≡◌, true, ◌++◌, drop, ap, sym, subst, ◌∙◌, arith}
use Rattle.std.proofs.lemmas.Grind.{common_steps}
use Rattle.packet_frames.specs.Following.{Framing, Follows}
use Rattle.packet_frames.proofs.Follows.{known_fault, follows_stopped, follows_fed}
use Rattle.packet_frames.proofs.framer.Framer.feed.Goals as goal

pub returns-then-is_some-clause-history : goal.returns-then-is_some-clause-history
returns-then-is_some-clause-history c =
    let stopped : c.args.self.now.stopped ≡ true = sym (ap (λ (f : Framing). f.stopped) c.self.view_is) ∙ sym c.if-is_some.ensures in
    let known = known_fault c.args.self.now c.self.inside.limit c.self.inside.start (drop c.self.inside.taken c.self.inside.buffer.items) c.self.inside.fault c.self.view_is c.self.invariant.told stopped in
    λ bytes given h. follows_stopped c.args.self.now known.0 bytes c.args.piece.now given known.1 h

pub returns-clause-ok : goal.returns-clause-ok
returns-clause-ok c = grind (arith, common_steps)

pub returns-clause-history : goal.returns-clause-history
returns-clause-history c = λ bytes given h.
    subst (Follows (bytes ++ c.args.piece.now) given) (sym (returns-clause-ok c))
    (follows_fed c.args.self.now bytes c.args.piece.now given
    (known_fault c.args.self.now c.self.inside.limit c.self.inside.start (drop c.self.inside.taken c.self.inside.buffer.items) c.self.inside.fault c.self.view_is c.self.invariant.told) h)
