use Rattle.std.proofs.Common.{refl}
use Rattle.xpra_server.proofs.words.status_of.Goals as goal

pub returns-in-Ok-clause-called : goal.returns-in-Ok-clause-called
returns-in-Ok-clause-called g c = rw c.in-Ok.is (c.call.result, (_, c.call.ensures, refl), refl)

pub returns-in-Err-NotText-clause-not_text : goal.returns-in-Err-NotText-clause-not_text
returns-in-Err-NotText-clause-not_text g c = λ is. (c.new.result, c.new.ensures.items, c.call-in-Err-NotText.result, (_, c.call-in-Err-NotText.ensures, refl), refl)
