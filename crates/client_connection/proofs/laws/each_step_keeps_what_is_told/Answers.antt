use Rattle.client_connection.proofs.Keeping.{line_told, hears_told, captures_told, writes_told}
use Rattle.client_connection.proofs.laws.each_step_keeps_what_is_told.Goals as goal

pub returns : goal.returns
returns c = record {
  paint = λ desk line client sent is may told. line_told desk line is may client sent told;
  hearing = hears_told;
  capture = captures_told;
  write = writes_told;
}
