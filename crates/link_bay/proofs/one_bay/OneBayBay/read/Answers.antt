use Rattle.std.proofs.Common.{arith, ◌≡◌, ◌+◌, ◌++◌, ℕ, List, take, drop, refl}
use Rattle.std.proofs.Math.Seq.{take-add}
use Rattle.std.proofs.lemmas.Grind.{common_steps}
use Rattle.link_bay.proofs.Peers.{only_zero, one_read}
use Rattle.link_bay.proofs.one_bay.OneBayBay.read.Goals as goal

pub returns-clause-answer : goal.returns-clause-answer
returns-clause-answer c =
    let only : c.args.c.0 ≡ 0 = only_zero c.args.self.now.accepted c.args.c.0 c.requires.known in
    let bytes : List ℕ = take c.min-count.result (drop c.self.inside.place c.self.inside.said.items) in
    rw (← c.self.view_is, only) (
      bytes,
      grind (arith, common_steps),
      omega arith,
      omega arith,
      grind (arith, common_steps),
      rw (take-add c.self.inside.place c.min-count.result c.self.inside.said.items) refl,
    )

pub returns-clause-exact : goal.returns-clause-exact
returns-clause-exact c =
    let into : c.extend_from_slice.new.self.items ≡ c.args.into.now.items ++ take c.min-count.result (drop c.self.inside.place c.self.inside.said.items) = grind (arith, common_steps) in
    rw (← c.self.view_is) (one_read _ c.self.inside.said.items c.args.into.now.items c.extend_from_slice.new.self.items (take (c.self.inside.place + c.min-count.result) c.self.inside.said.items)
    c.self.inside.place c.args.max c.min-count.result c.self.invariant.exact refl c.self.invariant.handed (grind (arith, common_steps)) (omega arith) into refl)
