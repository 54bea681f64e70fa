use Rattle.std.proofs.Common.{◌≡◌, ℕ, ◌+◌, ◌<◌, ◌≤◌, List, [], true, take, length, refl, sym, ◌∙◌, ap, subst, arith}
use Rattle.rgb_encoders.specs.Encoding.{Encoding}
use Rattle.client_outbox.specs.Outgoing.{WaitingPacket}
use Rattle.draw_sequencer.specs.InHand.{HeldJob, count_leaving, is_ready}
use Rattle.draw_sequencer.specs.Filing.{with_encoding}
use Rattle.draw_sequencer.specs.Laws.{count_ready}
use Rattle.lossy_refresh.specs.LossyPoints.{LossySeen}
use Rattle.window_source.specs.Drafts.{ready_jobs, IsDraft, AreDrafts}
use Rattle.window_source.proofs.DraftsLemmas.{leaving_most, leaving_readies, take_ready, drafts_step, own_named, ready_encodes}
use Rattle.window_source.proofs.drafts.prepared.Goals as goal

pub loop-k-init : goal.loop-k-init
loop-k-init g c = (
  c.in_ok-lossy.lossy,
  c.in_ok-lossy.ensures,
  subst (λ (ps : List (WaitingPacket g.row.R.Denot)). AreDrafts g.R.Points.has c.args.wid c.args.now c.args.next [] c.in_ok-lossy.lossy ps c.in_ok-lossy.lossy) (sym c.in_ok-packets.ensures.items) refl,
)

pub unreachable-requires : goal.unreachable-requires
unreachable-requires g c =
    let most = leaving_most c.args.jobs.now.jobs c.id.result.0 in
    omega (arith, most, c.leaving-leaving.ensures, c.loop-k-test.true, c.in_default.ensures)

pub encoding_in-requires : goal.encoding_in-requires
encoding_in-requires g c = record { own = own_named c.args.jobs.now.jobs c.args.done.now c.loop-k.k c.in-Some.job.now c.len-count.ensures.distinct c.in-Some.ensures c.requires.own }

pub unreachable-requires-in_default-encoding_in : goal.unreachable-requires-in_default-encoding_in
unreachable-requires-in_default-encoding_in g c =
    let less : c.loop-k.k < count_leaving c.args.jobs.now.jobs c.id.result.0 = omega (arith, c.leaving-leaving.ensures, c.loop-k-test.true) in
    let ready = subst (λ n. is_ready n c.in-Some.job.now ≡ true) c.id.ensures (leaving_readies c.args.jobs.now.jobs c.id.result.0 c.loop-k.k c.in-Some.job.now less c.in-Some.ensures) in
    ready_encodes c.args.done.now.job.number c.args.done.now.encoding c.in-Some.job.now ready c.in_default-encoding_in.ensures.value

pub draft-requires-clause-small : goal.draft-requires-clause-small
draft-requires-clause-small g c =
    let most = leaving_most c.args.jobs.now.jobs c.id.result.0 in
    omega (arith, most, c.leaving-leaving.ensures, c.loop-k-test.true, c.requires.numbers)

pub loop-k-preserved : goal.loop-k-preserved
loop-k-preserved g c =
    let number = c.args.done.now.job.number in
    let kept : Encoding = c.args.done.now.encoding in
    let e : Encoding = c.in-Some-encoding_in.encoded.now in
    let p = c.in_ok-draft.field-0 in
    let draft : IsDraft g.R.Points.has c.args.wid c.args.now (c.args.next + c.loop-k.k) e c.in-Some.job.now.relief c.loop-k.lossy c.draft.new.lossy p =
    subst (λ (j : HeldJob g.row.R.Denot). IsDraft g.R.Points.has c.args.wid c.args.now (c.args.next + c.loop-k.k) e j.relief c.loop-k.lossy c.draft.new.lossy p) c.job.view_is c.in_ok-draft.ensures in
    let more = drafts_step g.R.Points.has c.args.wid c.args.now c.args.next c.loop-k.k number kept e c.args.jobs.now.jobs c.in-Some.job.now c.loop-k.invariant.0 c.loop-k.lossy c.draft.new.lossy c.loop-k.packets.items p
    c.len-count.ensures.distinct c.in-Some.ensures c.loop-k.invariant.2 c.in-Some-encoding_in.ensures.value c.in-Some-encoding_in.ensures.own draft in (
      c.loop-k.invariant.0,
      c.loop-k.invariant.1,
      subst (λ (ps : List (WaitingPacket g.row.R.Denot)). AreDrafts g.R.Points.has c.args.wid c.args.now c.args.next (take (c.loop-k.k + 1) (with_encoding c.args.jobs.now.jobs number kept)) c.loop-k.invariant.0 ps c.draft.new.lossy) (sym c.in_ok-push.ensures.items) more,
    )

pub returns : goal.returns
returns g c =
    let filed : List (HeldJob g.row.R.Denot) = with_encoding c.args.jobs.now.jobs c.args.done.now.job.number c.args.done.now.encoding in
    let count : c.leaving-leaving.result ≡ count_ready filed =
    c.leaving-leaving.ensures ∙ ap (λ n. count_leaving c.args.jobs.now.jobs n) c.id.ensures ∙ c.as_many_leave_as_are_ready.ensures.leaving c.args.jobs.now.jobs c.args.done.now.job.number c.args.done.now.encoding c.len-count.ensures.distinct in
    let all : c.loop-k.k ≡ count_ready filed = omega (arith, count, c.loop-k-test.false, c.loop-k.auto.k-end) in
    let ready : take c.loop-k.k filed ≡ ready_jobs filed = ap (λ n. take n filed) all ∙ take_ready filed in
    record {
      start = c.loop-k.invariant.0;
      same = c.loop-k.invariant.1;
      drafts = subst (λ (js : List (HeldJob g.row.R.Denot)). AreDrafts g.R.Points.has c.args.wid c.args.now c.args.next js c.loop-k.invariant.0 c.loop-k.packets.items c.loop-k.lossy) ready c.loop-k.invariant.2;
    }
