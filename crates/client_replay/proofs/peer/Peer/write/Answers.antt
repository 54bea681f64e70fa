use Rattle.std.proofs.Common.{arith, ◌≡◌, ◌++◌, ◌∙◌, Bool, false, ℕ, List, [], cond, length, min, take, refl, sym, ap}
use Rattle.std.specs.Prelude.{◌||◌, ◌&&◌, not}
use Rattle.std.proofs.lemmas.Bool.Decides.{nat_tests}
use Rattle.std.proofs.lemmas.Grind.{common_steps}
use Rattle.link_bay.specs.Answers.{is_empty}
use Rattle.link_bay.specs.Writes.{heard_of}
use Rattle.client_replay.specs.Peers.{PeerRecord, answered, is_stalling, new_replies}
use Rattle.client_replay.proofs.ReplayLemmas.{was_ok}
use Rattle.client_replay.proofs.PeerLemmas.{kept_peer, written, written_gives, takes_all, never_stalls}
use Rattle.client_replay.proofs.peer.Peer.write.Goals.{else-is_stalling-via-then-is_stalling+else-not-is_empty, else-is_stalling-via-else-is_stalling}
use Rattle.client_replay.proofs.peer.Peer.write.Goals as goal

pub invariant_of-self-2 : goal.invariant_of-self-2
invariant_of-self-2 c =
    let front : List ℕ = take c.min-count.result c.args.piece.now in
    let sent : c.extend_from_slice.new.self.items ≡ c.self.inside.sent.items ++ front = grind (arith, common_steps) in
    let ok : _ ≡ false = sym c.is_err-2.ensures.value ∙ c.if-is_err-3.false in
    kept_peer c.self.inside.place c.self.inside.said.items c.attend.new.said.items _ c.self.inside.sent.items c.extend_from_slice.new.self.items front c.self.inside.left c.self.inside.lost
    c.attend.new.lost c.self.inside.replay c.attend.new.replay c.self.invariant
    (was_ok _ c.attend.result ok (c.attend.ensures.said c.self.inside.sent.items c.self.invariant.follows)) sent
    (was_ok _ c.attend.result ok (c.attend.ensures.heard c.self.inside.sent.items c.self.invariant.follows))

pub returns-clause-exact : goal.returns-clause-exact
returns-clause-exact c =
    let p : PeerRecord = record {
      kind = c.self.inside.kind;
      said = c.self.inside.said.items;
      left = c.self.inside.left;
      sent = c.self.inside.sent.items;
      given = take c.self.inside.place c.self.inside.said.items;
      heard = heard_of c.self.inside.taken.items;
      counts = c.self.inside.counts;
    } in
    let front : List ℕ = take c.min-count.result c.args.piece.now in
    let sent : c.extend_from_slice.new.self.items ≡ c.self.inside.sent.items ++ front = grind (arith, common_steps) in
    let ok : _ ≡ false = sym c.is_err-2.ensures.value ∙ c.if-is_err-3.false in
    let said : c.attend.new.said.items ≡ c.self.inside.said.items ++ answered p front =
    was_ok _ c.attend.result ok (c.attend.ensures.said c.self.inside.sent.items c.self.invariant.follows)
    ∙ ap (λ b. c.self.inside.said.items ++ cond (c.self.inside.left || b) [] (new_replies c.self.inside.sent.items front)) c.is_scripted-silent.ensures in
    let none : (is_stalling c.self.inside.kind c.self.inside.counts.dry && not (is_empty c.args.piece.now)) ≡ false =
    elim c.else-is_stalling.branch [
      | else-is_stalling-via-then-is_stalling+else-not-is_empty w ↦ never_stalls _ c.args.piece.now (grind (arith, nat_tests, common_steps))
      | else-is_stalling-via-else-is_stalling w ↦ ap (λ b. b && not (is_empty c.args.piece.now)) (sym c.is_stalling.ensures ∙ w.if-is_stalling.false)
    ] in
    let all : c.min-count.result ≡ min (length c.args.piece.now) 4294967295 = grind (arith, common_steps) in
    rw (← c.self.view_is) (written p c.self.inside.place c.min-count.result c.attend.new.said.items c.extend_from_slice.new.self.items c.args.piece.now c.reserve.new.self.items
    c.push_reserved.new.self.items c.took-2.new.self c.self.invariant.handed refl (ap heard_of (sym c.reserve.ensures.items)) sent said c.push_reserved.ensures.items c.took-2.ensures.counts
    (all ∙ takes_all p c.args.piece.now none))

pub returns-clause-answer : goal.returns-clause-answer
returns-clause-answer c =
    let p : PeerRecord = record {
      kind = c.self.inside.kind;
      said = c.self.inside.said.items;
      left = c.self.inside.left;
      sent = c.self.inside.sent.items;
      given = take c.self.inside.place c.self.inside.said.items;
      heard = heard_of c.self.inside.taken.items;
      counts = c.self.inside.counts;
    } in
    let front : List ℕ = take c.min-count.result c.args.piece.now in
    let sent : c.extend_from_slice.new.self.items ≡ c.self.inside.sent.items ++ front = grind (arith, common_steps) in
    let ok : _ ≡ false = sym c.is_err-2.ensures.value ∙ c.if-is_err-3.false in
    let said : c.attend.new.said.items ≡ c.self.inside.said.items ++ answered p front =
    was_ok _ c.attend.result ok (c.attend.ensures.said c.self.inside.sent.items c.self.invariant.follows)
    ∙ ap (λ b. c.self.inside.said.items ++ cond (c.self.inside.left || b) [] (new_replies c.self.inside.sent.items front)) c.is_scripted-silent.ensures in
    rw (← c.self.view_is) (written_gives p c.self.inside.place c.min-count.result c.attend.new.said.items c.extend_from_slice.new.self.items c.args.piece.now c.reserve.new.self.items
    c.push_reserved.new.self.items c.took-2.new.self c.self.invariant.handed refl (ap heard_of (sym c.reserve.ensures.items)) sent said c.push_reserved.ensures.items c.took-2.ensures.counts
    (grind (arith, common_steps)) c.took-2.ensures.rose)
