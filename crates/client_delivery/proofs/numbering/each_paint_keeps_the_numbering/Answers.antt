use Rattle.xp_base.proofs.KeyedLemmas.{keyed_finds_lem}
use Rattle.client_delivery.proofs.Numberings.{paint_numbers, close_numbers, resize_numbers, alone_numbers}
use Rattle.client_delivery.proofs.numbering.each_paint_keeps_the_numbering.Goals as goal

pub returns-clause-paint : goal.returns-clause-paint
returns-clause-paint c = paint_numbers (keyed_finds_lem _)

pub returns-clause-close : goal.returns-clause-close
returns-clause-close c = close_numbers (keyed_finds_lem _)

pub returns-clause-resize : goal.returns-clause-resize
returns-clause-resize c = resize_numbers (keyed_finds_lem _)

pub returns-clause-put : goal.returns-clause-put
returns-clause-put c = alone_numbers
