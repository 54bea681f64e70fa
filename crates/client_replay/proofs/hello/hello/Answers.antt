use Rattle.std.proofs.Common.{◌++◌, ap, ◌∙◌}
use Rattle.std.specs.Prelude.{codes}
use Rattle.packet_kinds.proofs.Answering.{ok_then}
use Rattle.client_replay.proofs.HelloLemmas.{hello_framed}
use Rattle.client_replay.proofs.hello.hello.Goals as goal

pub returns : goal.returns
returns c =
    ok_then _ _
    (λ said framed.
    hello_framed c.args.lossy c.args.uuid.now c.extend_from_slice.new.self.items c.push_formats.new.content.items c.push_uuid.new.content.items c.extend_from_slice-2.new.self.items
    c.as_slice.result.now said.items
    (c.in_ok-extend_from_slice.ensures.items ∙ ap (λ xs. xs ++ codes "l5:hellod9:encodingsl5:rgb32e") c.new-content.ensures.items)
    c.in_ok-push_formats.ensures c.in_ok-push_uuid.ensures c.in_ok-extend_from_slice-2.ensures.items c.as_slice.ensures.value framed)
    c.framed.result c.framed.ensures
