use Rattle.std.proofs.Common.{◌∙◌, ◌++◌, sym, ap, arith, drop}
use Rattle.std.proofs.lemmas.List.{append-nil, length-drop}
use Rattle.script_lines.proofs.Digits.{short_bytes}
use Rattle.script_lines.proofs.numbers.bytes_of.Goals as goal

pub returns : goal.returns
returns c =
    let rest = drop c.loop-place.place c.args.word.now in
    sym (append-nil c.loop-place.bytes.items) ∙ ap (λ tail. c.loop-place.bytes.items ++ tail) (sym (short_bytes rest (omega (arith, length-drop c.loop-place.place c.args.word.now)))) ∙ c.loop-place.invariant.rest
