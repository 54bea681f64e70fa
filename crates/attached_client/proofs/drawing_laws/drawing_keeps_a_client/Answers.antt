use Rattle.attached_client.proofs.Drawings.{drawing_keeps, drawing_marks, drawing_owes}
use Rattle.attached_client.proofs.drawing_laws.drawing_keeps_a_client.Goals as goal

pub returns-clause-told : goal.returns-clause-told
returns-clause-told c =
    drawing_keeps c.what_a_client_says_keeps_what_is_told.ensures.window c.what_is_drawn_keeps_what_is_told.ensures.capture c.what_is_drawn_keeps_what_is_told.ensures.file

pub returns-clause-marks : goal.returns-clause-marks
returns-clause-marks c = drawing_marks c.keyed_finds.ensures

pub returns-clause-owed : goal.returns-clause-owed
returns-clause-owed c = drawing_owes c.each_delivery_changes_owed_so.ensures.window c.attaching_and_drawing_owe_so.ensures.capture c.attaching_and_drawing_owe_so.ensures.file
