use Rattle.std.proofs.Common.{◌≡◌, ◌++◌, ◌∷◌, []}
use Rattle.paint_script.specs.Generated.{beginning}
use Rattle.paint_script.specs.Stage.{IsBegun, IsReady, opening_line}
use Rattle.paint_script.proofs.Rounds.{begun_none, ready_begun, begins, ok_all, ok_more}
use Rattle.paint_script.proofs.generation.begin.Goals as goal

pub add_peer-requires : goal.add_peer-requires
add_peer-requires c = rw c.in_ok-reader.ensures begun_none

pub returns-clause-lines : goal.returns-clause-lines
returns-clause-lines c =
    ok_all (λ lines. lines ≡ beginning) (c.in_ok-reader-7.reader ++ opening_line 3 ∷ []) c.add_window-4.result c.add_window-4.ensures.lines
    (begins c.in_ok-reader.reader c.in_ok-reader-2.reader c.in_ok-reader-3.reader c.in_ok-reader-4.reader c.in_ok-reader-5.reader c.in_ok-reader-6.reader c.in_ok-reader-7.reader
    c.in_ok-reader.ensures c.in_ok-reader-2.ensures.lines c.in_ok-reader-3.ensures.lines c.in_ok-reader-4.ensures.lines c.in_ok-reader-5.ensures.lines c.in_ok-reader-6.ensures.lines
    c.in_ok-reader-7.ensures.lines)

pub returns-clause-ready : goal.returns-clause-ready
returns-clause-ready c = ok_more (λ lines. IsBegun lines 4) IsReady ready_begun c.add_window-4.result c.add_window-4.ensures.begun
