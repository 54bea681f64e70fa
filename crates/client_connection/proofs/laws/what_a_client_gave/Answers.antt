use Rattle.client_connection.proofs.Givens.{has_hello, no_hello, unbuilt_given}
use Rattle.client_connection.proofs.Knowns.{marked}
use Rattle.client_connection.proofs.laws.what_a_client_gave.Goals as goal

pub returns : goal.returns
returns c = record {
  attached = has_hello;
  others = no_hello;
  unbuilt = unbuilt_given;
  mapped = λ tells lines desk client r wid paints known maps. marked lines desk client wid r.sent r.given r.heard paints known.given known.heard maps;
}
