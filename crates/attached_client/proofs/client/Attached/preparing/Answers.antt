use Rattle.attached_client.proofs.CarriedOut.{made_with_room}
use Rattle.attached_client.proofs.client.Attached.preparing.Goals as goal

pub made-requires-clause-fits : goal.made-requires-clause-fits
made-requires-clause-fits c = rw c.make_room.ensures.same c.requires.fits

pub returns-clause-ready : goal.returns-clause-ready
returns-clause-ready c = made_with_room c.args.change c.args.now c.make_room.new.self c.made.result c.in_ok-make_room.ensures.room c.made.ensures
