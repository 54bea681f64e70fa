use Rattle.std.proofs.Common.{inl, inr, refl, ap, sym, ◌∙◌, subst, set, List}
use Rattle.client_connection.specs.declared.ends.End.{End}
use Rattle.std.specs.Prelude.{Option, IsSome, IfErr, OnOk, slice_get}
use Rattle.xp_base.specs.Counts.{Rose}
use Rattle.link_bay.specs.Connections.{OthersStay}
use Rattle.session_core.specs.Causes.{HasCause, RoundsMean}
use Rattle.client_connection.specs.Clients.{ClientSeen}
use Rattle.session_core.specs.Slots.{plain_clients}
use Rattle.session_core.specs.Settling.{Acts, EndsWaiting}
use Rattle.session_core.specs.State.{open_client}
use Rattle.session_core.specs.Ends.{rounds_end, LeavesEnds}
use Rattle.session_core.proofs.Meanings.{HasWaited}
use Rattle.session_core.proofs.Ended.{open_unended, one_dropped, one_left, left_changed, unopened, rounds_closed}
use Rattle.session_core.proofs.Going.{goes_settled}
use Rattle.session_core.proofs.Lives.{unplain, open_plain}
use Rattle.session_core.proofs.Rightly.{got_put}
use Rattle.session_core.proofs.Settled.{calm_settled, calm_mapped, rounds_mean, settling_rounds, since_as, rounds_well, ok_both, right_as, attached_open, not_there}
use Rattle.session_core.proofs.Calms.{ok_then}
use Rattle.session_core.proofs.Stepping.{the_client, acts_tell, waiting_waited}
use Rattle.session_core.proofs.state.Session.settle_one.Goals as goal

pub returns-then-is_open-clause-ended : goal.returns-then-is_open-clause-ended
returns-then-is_open-clause-ended g c =
    let rounds = c.make_rounds-rounds.result in
    let after = c.make_rounds-rounds.new.self in
    let some = unplain c.self.inside.clients.items c.args.c.0 (rw (← c.self.view_is) at c.requires.open) in
    let leaves : LeavesEnds c.args.c.0 c.self.inside.ends.items rounds after.ends = rw (← c.self.view_is) at c.make_rounds-rounds.ensures.ends in
    let was = open_unended c.self.inside.clients.items c.self.inside.ends.items c.args.c.0 (rounds_end rounds) c.self.invariant.session.live some in
    rw (← c.self.view_is, c.end_of-end.ensures) (one_dropped c.args.c.0 c.self.inside.ends.items after.ends c.drop_client.new.self.ends rounds was.0 was.1 leaves
    (ap (λ s. s.ends) c.drop_client.ensures.session ∙ ap (set after.ends c.args.c.0) c.end_of-end.ensures))

pub returns-then-is_open-clause-turn : goal.returns-then-is_open-clause-turn
unfolding one_dropped
returns-then-is_open-clause-turn g c =
    let rounds = c.make_rounds-rounds.result in
    let after = c.make_rounds-rounds.new.self in
    let some = unplain c.self.inside.clients.items c.args.c.0 (rw (← c.self.view_is) at c.requires.open) in
    let leaves : LeavesEnds c.args.c.0 c.self.inside.ends.items rounds after.ends = rw (← c.self.view_is) at c.make_rounds-rounds.ensures.ends in
    let was = open_unended c.self.inside.clients.items c.self.inside.ends.items c.args.c.0 (rounds_end rounds) c.self.invariant.session.live some in
    let client = the_client (open_client (plain_clients c.self.inside.clients.items) c.args.c.0) (rw (← c.self.view_is) at c.requires.open) in
    let acts : Acts g.B.Bay.provider g.B.Bay.connection c.args.c.0 _ after = rw (← c.self.view_is) at c.make_rounds-rounds.ensures.acts in
    let others : OthersStay (g.B.Bay.connection c.self.inside.bay) (g.B.Bay.connection after.bay) c.args.c.0 = rw (← c.self.view_is) at c.make_rounds-rounds.ensures.others in
    let waiting : OnOk rounds (EndsWaiting g.B.Bay.provider g.B.Bay.connection c.args.c.0 _ after) = rw (← c.self.view_is) at c.make_rounds-rounds.ensures.waiting in
    let both = ok_then rounds (waiting_waited g.B.Bay.provider g.B.Bay.connection c.args.c.0 _ after) waiting in
    let heard : OnOk rounds (HasWaited (g.B.Bay.connection after.bay c.args.c.0)) = ok_then rounds (λ w. w.0) both in
    let waited : OnOk rounds (Rose (g.B.Bay.connection c.self.inside.bay c.args.c.0).waits (g.B.Bay.connection after.bay c.args.c.0).waits) = ok_then rounds (λ w. w.1) both in
    let means : IfErr rounds (λ e. RoundsMean after.lines (g.B.Bay.connection c.self.inside.bay c.args.c.0) e (g.B.Bay.connection after.bay c.args.c.0)) = rw (← c.self.view_is) at c.make_rounds-rounds.ensures.means in
    let right : HasCause g.B.Bay.tells after.lines after.desk (rounds_end rounds) (g.B.Bay.connection after.bay c.args.c.0) = record {
      means = rounds_mean after.lines after.desk (g.B.Bay.connection c.self.inside.bay c.args.c.0) (g.B.Bay.connection after.bay c.args.c.0) rounds
          (ok_both rounds (calm_settled (g.B.Bay.connection after.bay) g.B.Bay.tells after.lines after.desk after.clients c.args.c.0 c.is_painted.ensures.desktop c.is_painted.ensures.lines c.is_painted.ensures.told c.is_painted.ensures.known)
          c.make_rounds-rounds.ensures.calm heard) means;
      tells_all = acts_tell g.B.Bay.provider g.B.Bay.connection g.B.Bay.tells c.args.c.0 _ after acts (c.self.invariant.known c.args.c.0 client.0 client.1).tells_all;
    } in
    let windows = rw (← c.self.view_is) at c.make_rounds-rounds.ensures.windows in
    let there : IsSome (open_client after.clients c.args.c.0) =
    rw (← c.self-2.view_is) (open_plain c.self-2.inside.clients.items c.args.c.0 (subst (λ (xs : List (Option ClientSeen)). IsSome (open_client xs c.args.c.0)) c.deref.ensures.value (c.if-is_open.ensures.open.0 refl))) in
    let now = c.drop_client.new.self in
    rw (← c.self.view_is) (goes_settled g.B.Bay.provider g.B.Bay.connection g.B.Bay.tells _ now c.args.c.0 (rounds_end rounds) (record {
      ended = one_dropped c.args.c.0 c.self.inside.ends.items after.ends c.drop_client.new.self.ends rounds was.0 was.1 leaves
          (ap (λ s. s.ends) c.drop_client.ensures.session ∙ ap (set after.ends c.args.c.0) c.end_of-end.ensures);
      cause = right_as g.B.Bay.tells after.lines now.lines after.desk now.desk (rounds_end rounds) (g.B.Bay.connection after.bay c.args.c.0) (g.B.Bay.connection now.bay c.args.c.0) (ap (λ s. s.lines) c.drop_client.ensures.session) (ap (λ s. s.desk) c.drop_client.ensures.session)
          (c.drop_client.ensures.connections c.args.c.0) right;
      others = λ d other. c.drop_client.ensures.connections d ∙ others d other;
    }) (record {
      least = rw (← c.self.view_is) at c.requires.least;
      ended = rounds_end rounds;
      last = after;
      acts = acts;
      ends = inr (record {
        was_open = there;
        closed = rounds_closed c.args.c.0 _ _ rounds leaves;
        shown = λ is. rounds_well after.lines (g.B.Bay.connection c.self.inside.bay c.args.c.0) (g.B.Bay.connection after.bay c.args.c.0) rounds means is
            (ok_then rounds (calm_mapped (g.B.Bay.connection after.bay) after.desk after.clients c.args.c.0 c.is_painted.ensures.desktop c.is_painted.ensures.told) c.make_rounds-rounds.ensures.calm);
        changed = rw (c.end_of-end.ensures) at c.drop_client.ensures.session;
        connections = c.drop_client.ensures.connections;
        provider_stays = c.drop_client.ensures.provider;
      });
      means = since_as after.lines _ (g.B.Bay.connection c.self.inside.bay c.args.c.0) (g.B.Bay.connection after.bay c.args.c.0) (g.B.Bay.connection now.bay c.args.c.0) (rounds_end rounds) (sym windows.lines) (c.drop_client.ensures.connections c.args.c.0)
          (settling_rounds after.lines (g.B.Bay.connection c.self.inside.bay c.args.c.0) (g.B.Bay.connection after.bay c.args.c.0) rounds waited means);
      read_out = λ is. rounds_well after.lines (g.B.Bay.connection c.self.inside.bay c.args.c.0) (g.B.Bay.connection after.bay c.args.c.0) rounds means is waiting;
    }))

pub returns-else-is_open-clause-ended : goal.returns-else-is_open-clause-ended
returns-else-is_open-clause-ended g c =
    let rounds = c.make_rounds-rounds.result in
    let after = c.make_rounds-rounds.new.self in
    let some = unplain c.self.inside.clients.items c.args.c.0 (rw (← c.self.view_is) at c.requires.open) in
    let leaves : LeavesEnds c.args.c.0 c.self.inside.ends.items rounds after.ends = rw (← c.self.view_is) at c.make_rounds-rounds.ensures.ends in
    let was = open_unended c.self.inside.clients.items c.self.inside.ends.items c.args.c.0 (rounds_end rounds) c.self.invariant.session.live some in
    let none : IsSome (open_client c.self-2.inside.clients.items c.args.c.0) → ⊥ =
    λ (is : IsSome (open_client c.self-2.inside.clients.items c.args.c.0)). absurd (cc (c.if-is_open.ensures.open.1 (subst (λ (xs : List (Option ClientSeen)). IsSome (open_client xs c.args.c.0)) (sym c.deref.ensures.value) is))) in
    let gone = unopened c.self-2.inside.clients.items c.self-2.inside.ends.items c.args.c.0 (rounds_end rounds) c.self-2.invariant.session.live (rounds_closed c.args.c.0 _ _ rounds leaves) none in
    rw (← c.self.view_is, c.end_of-end.ensures) (one_left c.args.c.0 c.self.inside.ends.items after.ends rounds was.0 was.1 leaves (rw (← c.self-2.view_is) gone))

pub returns-else-is_open-clause-turn : goal.returns-else-is_open-clause-turn
unfolding one_left
returns-else-is_open-clause-turn g c =
    let rounds = c.make_rounds-rounds.result in
    let after = c.make_rounds-rounds.new.self in
    let some = unplain c.self.inside.clients.items c.args.c.0 (rw (← c.self.view_is) at c.requires.open) in
    let leaves : LeavesEnds c.args.c.0 c.self.inside.ends.items rounds after.ends = rw (← c.self.view_is) at c.make_rounds-rounds.ensures.ends in
    let was = open_unended c.self.inside.clients.items c.self.inside.ends.items c.args.c.0 (rounds_end rounds) c.self.invariant.session.live some in
    let client = the_client (open_client (plain_clients c.self.inside.clients.items) c.args.c.0) (rw (← c.self.view_is) at c.requires.open) in
    let acts : Acts g.B.Bay.provider g.B.Bay.connection c.args.c.0 _ after = rw (← c.self.view_is) at c.make_rounds-rounds.ensures.acts in
    let others : OthersStay (g.B.Bay.connection c.self.inside.bay) (g.B.Bay.connection after.bay) c.args.c.0 = rw (← c.self.view_is) at c.make_rounds-rounds.ensures.others in
    let waiting : OnOk rounds (EndsWaiting g.B.Bay.provider g.B.Bay.connection c.args.c.0 _ after) = rw (← c.self.view_is) at c.make_rounds-rounds.ensures.waiting in
    let both = ok_then rounds (waiting_waited g.B.Bay.provider g.B.Bay.connection c.args.c.0 _ after) waiting in
    let heard : OnOk rounds (HasWaited (g.B.Bay.connection after.bay c.args.c.0)) = ok_then rounds (λ w. w.0) both in
    let waited : OnOk rounds (Rose (g.B.Bay.connection c.self.inside.bay c.args.c.0).waits (g.B.Bay.connection after.bay c.args.c.0).waits) = ok_then rounds (λ w. w.1) both in
    let means : IfErr rounds (λ e. RoundsMean after.lines (g.B.Bay.connection c.self.inside.bay c.args.c.0) e (g.B.Bay.connection after.bay c.args.c.0)) = rw (← c.self.view_is) at c.make_rounds-rounds.ensures.means in
    let right : HasCause g.B.Bay.tells after.lines after.desk (rounds_end rounds) (g.B.Bay.connection after.bay c.args.c.0) = record {
      means = rounds_mean after.lines after.desk (g.B.Bay.connection c.self.inside.bay c.args.c.0) (g.B.Bay.connection after.bay c.args.c.0) rounds
          (ok_both rounds (calm_settled (g.B.Bay.connection after.bay) g.B.Bay.tells after.lines after.desk after.clients c.args.c.0 c.is_painted.ensures.desktop c.is_painted.ensures.lines c.is_painted.ensures.told c.is_painted.ensures.known)
          c.make_rounds-rounds.ensures.calm heard) means;
      tells_all = acts_tell g.B.Bay.provider g.B.Bay.connection g.B.Bay.tells c.args.c.0 _ after acts (c.self.invariant.known c.args.c.0 client.0 client.1).tells_all;
    } in
    let none : IsSome (open_client c.self-2.inside.clients.items c.args.c.0) → ⊥ =
    λ (is : IsSome (open_client c.self-2.inside.clients.items c.args.c.0)). absurd (cc (c.if-is_open.ensures.open.1 (subst (λ (xs : List (Option ClientSeen)). IsSome (open_client xs c.args.c.0)) (sym c.deref.ensures.value) is))) in
    let gone = unopened c.self-2.inside.clients.items c.self-2.inside.ends.items c.args.c.0 (rounds_end rounds) c.self-2.invariant.session.live (rounds_closed c.args.c.0 _ _ rounds leaves) none in
    let windows = rw (← c.self.view_is) at c.make_rounds-rounds.ensures.windows in
    rw (← c.self.view_is) (goes_settled g.B.Bay.provider g.B.Bay.connection g.B.Bay.tells _ after c.args.c.0 (rounds_end rounds) (record {
      ended = one_left c.args.c.0 c.self.inside.ends.items after.ends rounds was.0 was.1 leaves (rw (← c.self-2.view_is) gone);
      cause = right;
      others = others;
    }) (record {
      least = rw (← c.self.view_is) at c.requires.least;
      ended = rounds_end rounds;
      last = after;
      acts = acts;
      ends = inl (
        rw (← c.self-2.view_is) (not_there _ (λ is. none (unplain c.self-2.inside.clients.items c.args.c.0 is))),
        λ is. none (unplain c.self-2.inside.clients.items c.args.c.0 (rw (← c.self-2.view_is) at (rounds_well after.lines (g.B.Bay.connection c.self.inside.bay c.args.c.0) (g.B.Bay.connection after.bay c.args.c.0) rounds means is
            (ok_then rounds (λ calm. attached_open (open_client after.clients c.args.c.0) calm.attached) c.make_rounds-rounds.ensures.calm)))),
        ap (λ (es : List End). slice_get es c.args.c.0) (left_changed c.args.c.0 c.self.inside.ends.items after.ends rounds was.1 leaves (rw (← c.self-2.view_is) gone)) ∙ got_put c.self.inside.ends.items c.args.c.0 (rounds_end rounds) was.0,
        refl,
      );
      means = since_as after.lines _ (g.B.Bay.connection c.self.inside.bay c.args.c.0) (g.B.Bay.connection after.bay c.args.c.0) (g.B.Bay.connection after.bay c.args.c.0) (rounds_end rounds) (sym windows.lines) refl
          (settling_rounds after.lines (g.B.Bay.connection c.self.inside.bay c.args.c.0) (g.B.Bay.connection after.bay c.args.c.0) rounds waited means);
      read_out = λ is. rounds_well after.lines (g.B.Bay.connection c.self.inside.bay c.args.c.0) (g.B.Bay.connection after.bay c.args.c.0) rounds means is waiting;
    }))
