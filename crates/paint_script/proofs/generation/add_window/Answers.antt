use Rattle.std.proofs.Common.{◌≡◌, ◌+◌, arith, ◌++◌, ◌∷◌, []}
use Rattle.std.specs.Prelude.{pos}
use Rattle.std.proofs.lemmas.Int.{ints}
use Rattle.script_lines.specs.declared.line.Line.TheVariants as line
use Rattle.script_lines.specs.declared.paint.Paint.TheVariants.{Open}
use Rattle.paint_script.specs.Stage.{IsBegun}
use Rattle.paint_script.proofs.Rounds.{begun_fits, begun_window, ok_all}
use Rattle.paint_script.proofs.generation.add_window.Goals as goal

pub push-requires-clause-faultless : goal.push-requires-clause-faultless
push-requires-clause-faultless c =
    let number : c.in-Some.wid ≡ c.args.count + 1 = grind (arith, ints, c.in-Some.ensures.some, c.from.ensures) in
    rw number (begun_fits c.args.reader c.args.count c.requires.begun c.requires.few)

pub returns-clause-begun : goal.returns-clause-begun
returns-clause-begun c =
    let number : c.in-Some.wid ≡ c.args.count + 1 = grind (arith, ints, c.in-Some.ensures.some, c.from.ensures) in
    ok_all (λ more. IsBegun more (c.args.count + 1)) (c.args.reader ++ line.Paint (Open c.in-Some.wid (pos 0) (pos 0) 256 256) ∷ []) c.push.result c.push.ensures
    (rw number (begun_window c.args.reader c.args.count c.requires.begun))
