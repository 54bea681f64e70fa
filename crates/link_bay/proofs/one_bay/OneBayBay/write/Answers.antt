use Rattle.std.proofs.Common.{arith, refl, subst, true, ◌≡◌, ◌≤◌, ◌-◌, ◌++◌, ◌∙◌, ℕ, length, take, drop, ap}
use Rattle.std.proofs.lemmas.Grind.{common_steps}
use Rattle.link_bay.specs.ExactPeer.{nothing_yet, follow}
use Rattle.link_bay.specs.Peers.{OnePeer}
use Rattle.link_bay.specs.Writes.{heard_of}
use Rattle.link_bay.proofs.ExactPeers.{all_left}
use Rattle.link_bay.proofs.Peers.{only_zero, is_accepted, kept_at_write, one_written}
use Rattle.link_bay.proofs.one_bay.OneBayBay.write.Goals as goal

pub invariant_of-self-2 : goal.invariant_of-self-2
invariant_of-self-2 c =
    let followed : ℕ = c.self.inside.followed in
    let there : c.self.inside.accepted ≡ true = ap (λ (p : OnePeer). p.accepted) c.self.view_is ∙ is_accepted c.args.self.now.accepted c.args.c.0 c.requires.known in
    let sent : c.extend_from_slice.new.self.items ≡ c.self.inside.sent.items ++ take c.min-count.result c.args.piece.now = grind (arith, common_steps) in
    let said : c.extend_from_slice-2.new.self.items ≡ c.self.inside.said.items ++ c.in-Ok.answered.bytes.items = grind (arith, common_steps) in
    let all : take (length c.deref.result.now - followed) (drop followed c.deref.result.now) ≡ drop followed c.extend_from_slice.new.self.items =
    all_left followed c.deref.result.now ∙ ap (drop followed) c.deref.ensures.value in
    kept_at_write c.self.inside.joined c.self.inside.accepted c.self.inside.said.items c.extend_from_slice-2.new.self.items c.self.inside.sent.items c.extend_from_slice.new.self.items
    (take c.min-count.result c.args.piece.now) c.in-Ok.answered.bytes.items c.self.inside.place followed c.in-Ok.answered.used c.self.inside.waits c.self.inside.unheard
    c.saturating_add-self-inside.result c.self.inside.writes.items c.push_reserved.new.self.items c.self.invariant there sent said
    (subst (λ xs. c.in-Ok.answered.used ≤ length xs) all c.in-Ok.ensures.used)
    (subst (λ xs. follow nothing_yet xs ≡ record { said = c.in-Ok.answered.bytes.items; rest = drop c.in-Ok.answered.used xs }) all c.in-Ok.ensures.said)

pub returns-clause-exact : goal.returns-clause-exact
returns-clause-exact c =
    let peer : OnePeer = record {
      joined = c.self.inside.joined;
      accepted = c.self.inside.accepted;
      sent = c.self.inside.sent.items;
      given = take c.self.inside.place c.self.inside.said.items;
      heard = heard_of c.self.inside.writes.items;
      lulls = c.self.inside.lulls;
      waits = c.self.inside.waits;
      unheard = c.self.inside.unheard;
    } in
    let both = one_written peer c.self.inside.place c.self.inside.said.items c.extend_from_slice-2.new.self.items c.as_slice.result.now c.extend_from_slice.new.self.items
    c.args.piece.now c.self.inside.writes.items c.push_reserved.new.self.items c.min-count.result c.saturating_add-self-inside.result c.self.invariant.handed refl refl
    (grind (arith, common_steps)) (grind (arith, common_steps)) (grind (arith, common_steps)) (grind (arith, common_steps)) (grind (arith, common_steps)) in
    rw (← c.self.view_is) both.0

pub returns-clause-answer : goal.returns-clause-answer
returns-clause-answer c =
    let peer : OnePeer = record {
      joined = c.self.inside.joined;
      accepted = c.self.inside.accepted;
      sent = c.self.inside.sent.items;
      given = take c.self.inside.place c.self.inside.said.items;
      heard = heard_of c.self.inside.writes.items;
      lulls = c.self.inside.lulls;
      waits = c.self.inside.waits;
      unheard = c.self.inside.unheard;
    } in
    let both = one_written peer c.self.inside.place c.self.inside.said.items c.extend_from_slice-2.new.self.items c.as_slice.result.now c.extend_from_slice.new.self.items
    c.args.piece.now c.self.inside.writes.items c.push_reserved.new.self.items c.min-count.result c.saturating_add-self-inside.result c.self.invariant.handed refl refl
    (grind (arith, common_steps)) (grind (arith, common_steps)) (grind (arith, common_steps)) (grind (arith, common_steps)) (grind (arith, common_steps)) in
    let only : c.args.c.0 ≡ 0 = only_zero c.args.self.now.accepted c.args.c.0 c.requires.known in
    rw (← c.self.view_is, only) both.1
