use Rattle.std.proofs.Common.{◌≡◌, [], rules}
use Rattle.first_script.specs.Painting.{last_desk}
use Rattle.first_script.specs.Validity.{paint_lines}
use Rattle.xpra_server.proofs.Endings.{all_end, causes_as}
use Rattle.xpra_server.proofs.playing.play.Goals as goal

pub returns-in-Settled-clause-causes : goal.returns-in-Settled-clause-causes
returns-in-Settled-clause-causes g c =
    let after = c.make_lines.new.session in
    let none : after.ends ≡ [] = search (rules) in
    let same : after.lines ≡ paint_lines c.args.script.now = search (rules) in
    let last : after.desk ≡ last_desk (paint_lines c.args.script.now) = search (rules) in
    all_end g.B.Bay.tells after.lines (paint_lines c.args.script.now) after.desk (g.B.Bay.connection c.settle-calm.result.bay) after.ends c.settle-calm.result.ends.items none same last c.settle-calm.ensures.causes

pub returns-in-NoMemory-clause-causes : goal.returns-in-NoMemory-clause-causes
returns-in-NoMemory-clause-causes g c =
    let after = c.make_lines.new.session in
    let none : after.ends ≡ [] = search (rules) in
    let same : after.lines ≡ paint_lines c.args.script.now = search (rules) in
    let last : after.desk ≡ last_desk (paint_lines c.args.script.now) = search (rules) in
    causes_as g.B.Bay.tells (paint_lines c.args.script.now) g.B.Bay.connection c.settle-calm.result.bay _ c.settle-calm.result.ends.items _ c.stopped-in-NoMemory.ensures.bay c.stopped-in-NoMemory.ensures.ends
    (all_end g.B.Bay.tells after.lines (paint_lines c.args.script.now) after.desk (g.B.Bay.connection c.settle-calm.result.bay) after.ends c.settle-calm.result.ends.items none same last c.settle-calm.ensures.causes)

pub returns-clause-causes : goal.returns-clause-causes
returns-clause-causes g c =
    let after = c.make_lines.new.session in
    let none : after.ends ≡ [] = search (rules) in
    let same : after.lines ≡ paint_lines c.args.script.now = search (rules) in
    let last : after.desk ≡ last_desk (paint_lines c.args.script.now) = search (rules) in
    causes_as g.B.Bay.tells (paint_lines c.args.script.now) g.B.Bay.connection c.settle-calm.result.bay _ c.settle-calm.result.ends.items _ c.stopped-in-BayFault.ensures.bay c.stopped-in-BayFault.ensures.ends
    (all_end g.B.Bay.tells after.lines (paint_lines c.args.script.now) after.desk (g.B.Bay.connection c.settle-calm.result.bay) after.ends c.settle-calm.result.ends.items none same last c.settle-calm.ensures.causes)
