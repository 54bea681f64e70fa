use Rattle.std.proofs.Common.{subst}
use Rattle.paint_script.specs.Validity.{IsPaintOn}
use Rattle.line_changes.proofs.Lines.{copy_target}
use Rattle.line_changes.proofs.change.change_of.Goals as goal

pub damaged-requires-in-Copy : goal.damaged-requires-in-Copy
damaged-requires-in-Copy c = copy_target c.args.desk.now _ _ _ _ c.len-windows.ensures.kept (subst (IsPaintOn c.args.desk.now) c.in-Copy.is c.requires)
