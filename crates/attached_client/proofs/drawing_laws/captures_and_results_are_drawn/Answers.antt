use Rattle.attached_client.proofs.DrawnSo.{captured_drawn, filed_drawn}
use Rattle.attached_client.proofs.drawing_laws.captures_and_results_are_drawn.Goals as goal

pub returns-clause-captured : goal.returns-clause-captured
returns-clause-captured c = captured_drawn c.keyed_finds.ensures

pub returns-clause-filed : goal.returns-clause-filed
returns-clause-filed c = filed_drawn c.keyed_finds.ensures
