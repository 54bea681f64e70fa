use Rattle.std.proofs.Common.{refl}
use Rattle.attached_client.specs.Acting.{acts}
use Rattle.open_connection.specs.Connection.{caps_of}
use Rattle.open_connection.proofs.laws.what_is_heard_is_what_was_given.Goals as goal

pub returns-clause-goes_on : goal.returns-clause-goes_on
returns-clause-goes_on c = λ desk conn now given piece old new ignored listens hears.
    c.the_talk_goes_on.ensures (acts desk conn now) caps_of given piece old.framing new.framing old.client new.client ignored (record { attach = λ caps. refl; act = λ m a. refl }) listens hears

pub returns-clause-ends : goal.returns-clause-ends
returns-clause-ends c = λ desk conn now given piece old client ending ignored listens ends.
    c.an_ending_has_its_cause.ensures (acts desk conn now) caps_of given piece old.framing old.client client ending ignored (record { attach = λ caps. refl; act = λ m a. refl }) listens ends
