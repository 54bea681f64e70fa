use Rattle.std.proofs.Common.{arith, ◌≡◌, ◌++◌, take, ap, sym}
use Rattle.std.proofs.lemmas.Grind.{common_steps}
use Rattle.link_bay.specs.Writes.{heard_of}
use Rattle.link_bay.specs.Tapes.{PlayedTape, tape_of}
use Rattle.link_bay.proofs.TapeLemmas.{tape_written, tape_took}
use Rattle.link_bay.proofs.played.Played.write.Goals as goal

pub returns-clause-exact : goal.returns-clause-exact
returns-clause-exact c =
    let sent : c.extend_from_slice.new.self.items ≡ c.self.inside.sent.items ++ take c.min-count.result c.args.piece.now = grind (arith, common_steps) in
    let p : PlayedTape = record {
      tape = tape_of c.self.inside.tape;
      place = c.self.inside.place;
      reads = c.self.inside.reads;
      writes = c.self.inside.writes;
      sent = c.self.inside.sent.items;
      heard = heard_of c.self.inside.taken.items;
      counts = c.self.inside.counts;
    } in
    rw (← c.self.view_is) (
      grind (arith, common_steps),
      grind (arith, common_steps),
      tape_written p c.extend_from_slice.new.self.items c.args.piece.now c.reserve.new.self.items c.push_reserved.new.self.items c.took.new.self c.min-count.result
          c.saturating_add-self-inside.result sent (ap heard_of (sym c.reserve.ensures.items)) c.push_reserved.ensures.items c.took.ensures.counts c.saturating_add-self-inside.ensures,
    )

pub returns-clause-answer : goal.returns-clause-answer
returns-clause-answer c =
    let sent : c.extend_from_slice.new.self.items ≡ c.self.inside.sent.items ++ take c.min-count.result c.args.piece.now = grind (arith, common_steps) in
    let p : PlayedTape = record {
      tape = tape_of c.self.inside.tape;
      place = c.self.inside.place;
      reads = c.self.inside.reads;
      writes = c.self.inside.writes;
      sent = c.self.inside.sent.items;
      heard = heard_of c.self.inside.taken.items;
      counts = c.self.inside.counts;
    } in
    rw (← c.self.view_is) (tape_took p c.extend_from_slice.new.self.items c.args.piece.now c.reserve.new.self.items c.push_reserved.new.self.items c.took.new.self c.min-count.result
    c.saturating_add-self-inside.result sent (ap heard_of (sym c.reserve.ensures.items)) c.push_reserved.ensures.items c.took.ensures.counts (grind (arith, common_steps)) c.self.invariant.0
    c.took.ensures.rose)
