use Rattle.std.proofs.Common.{arith, refl}
use Rattle.std.proofs.lemmas.Grind.{common_steps}
use Rattle.link_bay.proofs.Places.{slice_get-set_same, slice_get-set_other, slice_get_here}
use Rattle.link_bay.proofs.Counts.{mute_took}
use Rattle.link_bay.specs.Counted.{mute_connection}
use Rattle.std.proofs.Common.{ap}
use Rattle.link_bay.proofs.mute_bay.MuteBayBay.write.Goals as goal

pub returns-clause-exact : goal.returns-clause-exact
returns-clause-exact c = (grind (arith, common_steps), refl)

pub returns-clause-answer : goal.returns-clause-answer
returns-clause-answer c =
    mute_took _ _ c.index_mut-client.result.now c.took.new.self _ _
    (slice_get_here c.args.self.now.clients.items c.args.c.0 c.index_mut-client.result.now c.requires.known c.index_mut-client.ensures.value)
    (slice_get-set_same c.args.self.now.clients.items c.args.c.0 c.took.new.self c.requires.known)
    (omega arith) c.took.ensures.counts c.took.ensures.rose

pub returns-clause-others : goal.returns-clause-others
returns-clause-others c = λ d other. ap mute_connection (slice_get-set_other c.args.self.now.clients.items c.args.c.0 c.took.new.self d other)
