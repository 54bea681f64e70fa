use Rattle.std.proofs.Common.{refl, ap}
use Rattle.client_delivery.specs.Attached.{source_key}
use Rattle.attached_client.specs.Client.{Attachment}
use Rattle.attached_client.proofs.CarriedOut.{loses_so}
use Rattle.attached_client.proofs.client.Attached.lose.Goals as goal

pub remove_source-requires : goal.remove_source-requires
remove_source-requires c = c.self.invariant

pub invariant_of-self : goal.invariant_of-self
invariant_of-self c = rw c.remove_source.ensures (c.keyed_keeps.ensures.removed source_key c.self.inside.sources.items c.args.wid c.self.invariant)

pub returns : goal.returns
returns c =
    loses_so c.args.wid c.args.packet _ _ c.self.inside.sources.items c.self.inside.out.waiting c.forget.new.self.waiting _ _ (ap (λ (a : Attachment). a.client) c.self.view_is) refl
    c.forget.ensures.reliefs c.forget.ensures.taken c.put_reserved.ensures c.remove_source.ensures
