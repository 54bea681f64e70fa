use Rattle.std.proofs.Common.{◌≡◌, ◌∙◌, sym, ap, arith, ◌+◌, ◌*◌, ◌++◌, List}
use Rattle.std.proofs.lemmas.List.{append-nil, append_assoc}
use Rattle.script_lines.specs.declared.line.Line.{Line}
use Rattle.paint_script.specs.Generated.{beginning, rounds, state_after}
use Rattle.paint_script.specs.Stage.{round_lines}
use Rattle.paint_script.proofs.Rounds.{rounds_none, rounds_more, generated_is, state_more, state_none}
use Rattle.paint_script.proofs.generation.generate.Goals as goal

pub loop-round-init : goal.loop-round-init
loop-round-init c = record {
  ready = c.in_ok-reader.ensures.ready;
  lines = c.in_ok-reader.ensures.lines ∙ sym (append-nil beginning) ∙ ap (λ (ls : List Line). beginning ++ ls) (sym (rounds_none c.args.n));
  state = c.new-generator.ensures ∙ c.from.ensures ∙ sym (state_none c.args.n);
}

pub loop-round-preserved : goal.loop-round-preserved
loop-round-preserved c =
    let n = c.args.n in
    let round = c.loop-round.round in
    let state = state_after n (7 * round) in
    let next : 7 + 7 * round ≡ 7 * (round + 1) = omega arith in
    record {
      ready = c.in_ok-reader-2.ensures.ready;
      lines = c.in_ok-reader-2.ensures.lines ∙ ap (λ (ls : List Line). ls ++ round_lines c.loop-round.generator round) c.loop-round.invariant.lines
          ∙ ap (λ s. (beginning ++ rounds n round) ++ round_lines s round) c.loop-round.invariant.state ∙ append_assoc beginning (rounds n round) (round_lines state round)
          ∙ ap (λ (ls : List Line). beginning ++ ls) (sym (rounds_more n round));
      state = c.add_round.ensures.state ∙ ap (λ s. state_after s 7) c.loop-round.invariant.state ∙ state_more n (7 * round) 7 ∙ ap (state_after n) next;
    }

pub returns : goal.returns
returns c =
    let all : c.loop-round.round ≡ 500 = omega (arith, c.loop-round-test.false, c.loop-round.auto.round-end) in
    c.into_script.ensures ∙ c.loop-round.invariant.lines ∙ ap (λ k. beginning ++ rounds c.args.n k) all ∙ sym (generated_is c.args.n)
