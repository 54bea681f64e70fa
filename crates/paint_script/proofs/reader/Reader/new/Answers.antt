use Rattle.paint_script.proofs.Keeping.{kept_none}
use Rattle.paint_script.proofs.reader.Reader.new.Goals as goal

pub invariant_of-result : goal.invariant_of-result
invariant_of-result c = rw (c.new.ensures.items, c.new-2.ensures.items) (kept_none c.in_ok-no_marks.field-0.items c.in_ok-no_marks.ensures.sized c.in_ok-no_marks.ensures.clear)
