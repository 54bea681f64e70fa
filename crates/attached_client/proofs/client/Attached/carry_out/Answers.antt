use Rattle.std.proofs.Common.{sym, subst}
use Rattle.attached_client.specs.Changes.{ClientChanges, IsMade}
use Rattle.attached_client.proofs.CarriedOut.{nothing_carries, window_carries, window_is_new, lost_carries, message_carries, pending_carries, resizing_carries}
use Rattle.attached_client.proofs.client.Attached.carry_out.Goals as goal

pub begin-requires-clause-new : goal.begin-requires-clause-new
begin-requires-clause-new c =
    let client = c.args.self.now.client in
    window_is_new c.args.change c.args.now client c.in-Window.source c.in-Window.packet (subst (IsMade c.args.change c.args.now client) c.in-Window.is c.requires.made.made)

pub damage-requires-clause-made : goal.damage-requires-clause-made
damage-requires-clause-made c =
    let client = c.args.self.now.client in
    let damages = pending_carries c.args.change c.args.now client c.in-Pending.pending (subst (IsMade c.args.change c.args.now client) c.in-Pending.is c.requires.made.made) in
    rw c.wid-in-Pending.ensures (damages.rect, damages.pends)

pub resize-requires-clause-made : goal.resize-requires-clause-made
resize-requires-clause-made c =
    let client = c.args.self.now.client in
    let resizes = resizing_carries c.args.change c.args.now client c.in-Resized.resizing (subst (IsMade c.args.change c.args.now client) c.in-Resized.is c.requires.made.made) in
    rw c.wid-in-Resized.ensures resizes.sizing

pub returns-in-Nothing : goal.returns-in-Nothing
returns-in-Nothing c =
    let client = c.args.self.now.client in
    nothing_carries c.args.change c.args.now client (subst (IsMade c.args.change c.args.now client) c.in-Nothing.is c.requires.made.made)

pub returns-in-Window : goal.returns-in-Window
returns-in-Window c =
    let client = c.args.self.now.client in
    subst (ClientChanges c.args.change c.args.now client) (sym c.begin.ensures)
    (window_carries c.args.change c.args.now client c.in-Window.source c.in-Window.packet (subst (IsMade c.args.change c.args.now client) c.in-Window.is c.requires.made.made))

pub returns-in-Lost : goal.returns-in-Lost
returns-in-Lost c =
    let client = c.args.self.now.client in
    lost_carries c.args.change c.args.now client c.lose.new.self.client c.in-Lost.packet (subst (IsMade c.args.change c.args.now client) c.in-Lost.is c.requires.made.made) (rw (← c.wid.ensures) c.lose.ensures)

pub returns-in-Message : goal.returns-in-Message
returns-in-Message c =
    let client = c.args.self.now.client in
    subst (ClientChanges c.args.change c.args.now client) (sym c.tell.ensures)
    (message_carries c.args.change c.args.now client c.in-Message.packet (subst (IsMade c.args.change c.args.now client) c.in-Message.is c.requires.made.made))

pub returns-in-Pending : goal.returns-in-Pending
returns-in-Pending c =
    let client = c.args.self.now.client in
    let damages = pending_carries c.args.change c.args.now client c.in-Pending.pending (subst (IsMade c.args.change c.args.now client) c.in-Pending.is c.requires.made.made) in
    damages.carries c.damage.new.self.client (rw c.wid-in-Pending.ensures at (c.damage.ensures damages.rect (rw c.wid-in-Pending.ensures damages.pends)))

pub returns-in-Resized : goal.returns-in-Resized
returns-in-Resized c =
    let client = c.args.self.now.client in
    let resizes = resizing_carries c.args.change c.args.now client c.in-Resized.resizing (subst (IsMade c.args.change c.args.now client) c.in-Resized.is c.requires.made.made) in
    resizes.carries c.resize.new.self.client (rw c.wid-in-Resized.ensures at c.resize.ensures)
