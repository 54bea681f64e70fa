use Rattle.std.proofs.Common.{◌≡◌, ◌∷◌, [], ◌++◌, length, drop, refl, sym, ap, ◌∙◌, append_assoc, append-nil, arith}
use Rattle.std.proofs.lemmas.Grind.{common_steps}
use Rattle.std.specs.Vec.Iter.{into_iter_items}
use Rattle.xpra_server.proofs.WordsLemmas.{nothing_left, after_first}
use Rattle.xpra_server.proofs.words.after_name.Goals as goal

pub loop-word-preserved : goal.loop-word-preserved
loop-word-preserved c =
    let at = c.loop-word in
    let steps : into_iter_items at.word-iterator ≡ c.in-Some.word ∷ into_iter_items c.next.new.self = c.in-Some.ensures.steps.0 in
    let pushed : c.push.new.self.items ≡ at.words.items ++ c.in-Some.word ∷ [] = grind (arith, common_steps) in (
      ap (λ ws. ws ++ into_iter_items c.next.new.self) pushed ∙ append_assoc at.words.items (c.in-Some.word ∷ []) _ ∙ rw (← steps) at.invariant.0,
      let was = at.invariant.1 in
          let gone = c.in-Some.ensures.steps.1 in
          let short = ap length steps in
          omega arith,
    )

pub returns-clause-words : goal.returns-clause-words
returns-clause-words c =
    let at = c.loop-word in
    let none = c.in-None.ensures.steps in
    let empty : into_iter_items at.word-iterator ≡ [] = nothing_left _ (sym at.invariant.1 ∙ none.0) in
    sym (append-nil at.words.items) ∙ rw empty at at.invariant.0 ∙ ap into_iter_items c.into_iter-word-iterator.ensures.into_iter_gives ∙ after_first c.args.args c.next-name.new.self c.next-name.result c.args.args.rest.ok.0 c.next-name.new.self.rest.ok.0 c.next-name.ensures.cases
