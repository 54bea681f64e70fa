use Rattle.std.proofs.Common.{◌≡◌, refl, subst, List, None}
use Rattle.std.specs.Prelude.{Option, IsSome}
use Rattle.client_connection.specs.Clients.{ClientSeen}
use Rattle.session_core.specs.State.{open_client, open_count}
use Rattle.session_core.proofs.Ended.{all_ended, keeps_same}
use Rattle.session_core.proofs.Going.{goes_none}
use Rattle.session_core.proofs.Lives.{open_plain, none_plain}
use Rattle.session_core.proofs.state.Session.settle_next.Goals as goal

pub settle_one-requires-clause-open : goal.settle_one-requires-clause-open
settle_one-requires-clause-open g c = rw (← c.self.view_is) (open_plain c.self.inside.clients.items c.in_ok-c.c.0 (subst (λ (xs : List (Option ClientSeen)). IsSome (open_client xs c.in_ok-c.c.0)) c.deref.ensures.value c.in_ok-c.ensures.some))

pub returns-in_err-c-clause-ended : goal.returns-in_err-c-clause-ended
returns-in_err-c-clause-ended g c = λ none. rw (← c.self.view_is) (all_ended c.self.inside.clients.items c.self.inside.ends.items c.self.invariant.session.live (subst (λ (xs : List (Option ClientSeen)). open_count xs ≡ 0) c.deref.ensures.value (c.in_err-c.ensures.none refl)))

pub returns-in_err-c-clause-turn : goal.returns-in_err-c-clause-turn
returns-in_err-c-clause-turn g c = goes_none g.B.Bay.provider g.B.Bay.connection g.B.Bay.tells _

pub returns-in_err-c-clause-ends : goal.returns-in_err-c-clause-ends
returns-in_err-c-clause-ends g c = keeps_same _

pub settle_one-requires-clause-least : goal.settle_one-requires-clause-least
settle_one-requires-clause-least g c = rw (← c.self.view_is) (λ k low. none_plain c.self.inside.clients.items k (subst (λ (xs : List (Option ClientSeen)). open_client xs k ≡ None) c.deref.ensures.value (c.in_ok-c.ensures.least k low)))
