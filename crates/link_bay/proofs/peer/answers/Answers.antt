use Rattle.std.proofs.Common.{◌≡◌, ◌≤◌, ◌<◌, ◌+◌, ◌-◌, ◌++◌, [], ℕ, List, subst, length, take, drop, sym, ap, ◌∙◌, arith}
use Rattle.std.proofs.lemmas.List.{drop-drop, length-drop}
use Rattle.link_bay.specs.ExactPeer.{follow, size_in, answer_to}
use Rattle.link_bay.proofs.ExactPeers.{all_left, part_kept, frame_first}
use Rattle.link_bay.proofs.peer.answers.Goals as goal

pub packets-preserved : goal.packets-preserved
packets-preserved c =
    let left : List ℕ = drop c.packets.used c.args.sent.now in
    let all : take (length c.args.sent.now - c.packets.used) left ≡ left = all_left c.packets.used c.args.sent.now in
    let whole : c.in-Some.size ≡ 8 + size_in left = c.in-Some.ensures.0 ∙ ap (λ xs. 8 + size_in xs) all in
    let within : c.in-Some.size ≤ length left = subst (λ xs. c.in-Some.size ≤ length xs) all c.in-Some.ensures.1 in
    let said : c.answer.new.bytes.items ≡ c.packets.bytes.items ++ answer_to (take c.in-Some.size left) = c.in_ok-answer.ensures ∙ ap (λ n. c.packets.bytes.items ++ answer_to (take n left)) (omega arith) in
    let counted : length left ≡ length c.args.sent.now - c.packets.used = length-drop c.packets.used c.args.sent.now in
    let within_all : c.packets.used + c.in-Some.size ≤ length c.args.sent.now = let before = c.packets.invariant.within in omega arith in
    record {
      within = within_all;
      goes_on = c.packets.invariant.goes_on ∙ frame_first c.packets.bytes.items left c.in-Some.size whole within
          ∙ ap (λ rest. follow (record { said = c.packets.bytes.items ++ answer_to (take c.in-Some.size left); rest = [] }) rest) (drop-drop c.in-Some.size c.packets.used c.args.sent.now)
          ∙ ap (λ said. follow (record { said = said; rest = [] }) (drop (c.packets.used + c.in-Some.size) c.args.sent.now)) (sym said);
    }

pub returns-clause-said : goal.returns-clause-said
returns-clause-said c =
    let left : List ℕ = drop c.packets.used c.args.sent.now in
    let short : length left < 8 + size_in left = subst (λ xs. length xs < 8 + size_in xs) (all_left c.packets.used c.args.sent.now) c.in_default.ensures in
    c.packets.invariant.goes_on ∙ part_kept c.packets.bytes.items [] left short
