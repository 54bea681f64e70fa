use Rattle.attached_client.proofs.Begun.{IsBegun}
use Rattle.attached_client.proofs.client.Attached.new.Given as goal

abbrev pub invariant-loop-window : goal.invariant-loop-window
invariant-loop-window l = IsBegun l.desk l.conn.0 l.now l.caps l.window-index l.sources.items l.out.waiting
