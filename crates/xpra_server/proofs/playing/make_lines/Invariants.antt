use Rattle.std.proofs.Common.{◌≡◌, length, take}
use Rattle.first_script.specs.Validity.{paint_lines, peer_orders}
use Rattle.xp_base.specs.Told.{told_append}
use Rattle.xpra_server.proofs.playing.make_lines.Given as goal

abbrev pub invariant-loop-line : goal.invariant-loop-line
invariant-loop-line g l = record {
  place : l.session.place ≡ length (paint_lines (take l.line-index l.lines));
  lines : l.session.lines ≡ paint_lines l.lines;
  asked : (g.B.Bay.provider l.session.bay).asked ≡ told_append (g.B.Bay.provider l.initial.session.bay).asked (peer_orders (take l.line-index l.lines));
  ends : l.session.ends ≡ l.initial.session.ends;
  lulls : (g.B.Bay.provider l.session.bay).lulls ≡ (g.B.Bay.provider l.initial.session.bay).lulls;
  faults : (g.B.Bay.provider l.session.bay).faults ≡ (g.B.Bay.provider l.initial.session.bay).faults;
}
