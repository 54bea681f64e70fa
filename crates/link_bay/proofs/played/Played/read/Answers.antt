use Rattle.std.proofs.Common.{arith, ◌≡◌, ◌+◌, List, ℕ, take, drop, refl}
use Rattle.std.proofs.lemmas.Bool.Decides.{nat_tests}
use Rattle.std.proofs.lemmas.Grind.{common_steps}
use Rattle.link_bay.specs.Writes.{heard_of}
use Rattle.link_bay.specs.Tapes.{PlayedTape, tape_of}
use Rattle.link_bay.proofs.TapeLemmas.{tape_given}
use Rattle.link_bay.proofs.played.Played.read.Goals as goal

pub returns-clause-answer : goal.returns-clause-answer
returns-clause-answer c =
    let bytes : List ℕ = take c.min-count.result (drop c.self.inside.place c.self.inside.tape.bytes.items) in
    let p : PlayedTape = record {
      tape = tape_of c.self.inside.tape;
      place = c.self.inside.place;
      reads = c.self.inside.reads;
      writes = c.self.inside.writes;
      sent = c.self.inside.sent.items;
      heard = heard_of c.self.inside.taken.items;
      counts = c.self.inside.counts;
    } in
    rw (← c.self.view_is) (
      bytes,
      grind (arith, common_steps),
      grind (arith, nat_tests, common_steps),
      grind (arith, common_steps),
      grind (arith, common_steps),
      tape_given p c.min-count.result,
    )
