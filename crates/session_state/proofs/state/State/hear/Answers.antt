use Rattle.std.proofs.Common.{◌<◌, sym, ap, ◌∙◌, subst, arith}
use Rattle.std.specs.Prelude.{slice_get}
use Rattle.connection_table.specs.Tables.{Away}
use Rattle.session_steps.specs.Seen.{Seen}
use Rattle.std.proofs.lemmas.Option.{slice_get_within}
use Rattle.session_state.proofs.Stepping.{over_there}
use Rattle.session_state.proofs.state.State.hear.Goals as goal

pub finish_hearing-requires-clause-taken : goal.finish_hearing-requires-clause-taken
finish_hearing-requires-clause-taken g c = ap (λ (s : Seen _). slice_get s.slots c.args.c.0) c.greet.ensures.state ∙ over_there c.args.c _ _ _ ∙ c.requires.taken

pub finish_hearing-requires-clause-known : goal.finish_hearing-requires-clause-known
finish_hearing-requires-clause-known g c = subst (λ p. c.args.c.0 < p.count) (sym c.greet.ensures.provider)
    (let low = slice_get_within c.args.self.now.slots c.args.c.0 Away c.requires.taken in let all = c.requires.counted in omega (arith, low, all))
