use Rattle.std.proofs.Common.{refl}
use Rattle.client_connection.proofs.Knowns.{known_fresh, line_known, hears_known, captures_known, writes_known}
use Rattle.client_connection.proofs.laws.each_step_keeps_what_is_known.Goals as goal

pub returns : goal.returns
returns c = record {
  fresh = known_fresh;
  paint = line_known;
  hearing = λ tells lines desk bytes r client next hears told known. hears_known tells lines desk bytes r _ client next refl hears told known;
  capture = captures_known;
  write = writes_known;
}
