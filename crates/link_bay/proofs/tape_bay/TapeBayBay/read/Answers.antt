use Rattle.std.proofs.Common.{◌≡◌, ◌<◌, length, subst, sym, refl, ap}
use Rattle.std.specs.Prelude.{slice_get, Some}
use Rattle.link_bay.specs.Tapes.{TapeProvider, played_connection}
use Rattle.link_bay.proofs.Places.{slice_get-set_same, slice_get-set_other, slice_get_here}
use Rattle.link_bay.proofs.TapeLemmas.{played_read}
use Rattle.link_bay.proofs.tape_bay.TapeBayBay.read.Goals as goal

pub returns-clause-exact : goal.returns-clause-exact
returns-clause-exact c =
    let known : c.args.c.0 < length c.self.inside.played.items = subst (λ (b : TapeProvider). c.args.c.0 < length b.played) (sym c.self.view_is) c.requires.known in
    let was : slice_get c.self.inside.played.items c.args.c.0 ≡ Some c.index_mut-tape.result.now = slice_get_here c.self.inside.played.items c.args.c.0 c.index_mut-tape.result.now known c.index_mut-tape.ensures.value in
    rw (← c.self.view_is) (c.index_mut-tape.result.now, c.read.new.self, was, c.read.ensures.exact, refl)

pub returns-clause-answer : goal.returns-clause-answer
returns-clause-answer c =
    let known : c.args.c.0 < length c.self.inside.played.items = subst (λ (b : TapeProvider). c.args.c.0 < length b.played) (sym c.self.view_is) c.requires.known in
    rw (← c.self.view_is) (played_read _ _ c.index_mut-tape.result.now c.read.new.self c.args.into.now.items c.read.new.into.items c.args.max c.read.result
    (slice_get_here c.self.inside.played.items c.args.c.0 c.index_mut-tape.result.now known c.index_mut-tape.ensures.value)
    (slice_get-set_same c.self.inside.played.items c.args.c.0 c.read.new.self known)
    c.read.ensures.answer)

pub returns-clause-others : goal.returns-clause-others
returns-clause-others c = rw (← c.self.view_is) (λ d other. ap played_connection (slice_get-set_other c.self.inside.played.items c.args.c.0 c.read.new.self d other))
