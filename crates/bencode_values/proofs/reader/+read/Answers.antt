use Rattle.std.proofs.Common.{rules, ◌≡◌, ◌+◌, ◌<◌, ◌≤◌, [], length, drop, sym, ap, subst, ◌∙◌, arith, to_z, of_z, w64}
use Rattle.std.proofs.lemmas.Int.{to_z-of_z}
use Rattle.bencode_values.specs.declared.value.Key.TheVariants as K
use Rattle.std.proofs.Common.{◌∷◌}
use Rattle.bencode_values.specs.Reading.{in_list, in_dict, in_entry}
use Rattle.bencode_values.specs.Steps.{start, start_step}
use Rattle.bencode_values.proofs.Going.{start_digit, value_letter, awaits_place}
use Rattle.bencode_values.specs.declared.value.Value.TheVariants as V
use Rattle.bencode_values.specs.Steps.{deliver, AwaitsValue}
use Rattle.bencode_values.proofs.Feeding.{deliver_key-value, open_at-value}
use Rattle.bencode_values.proofs.Contexts.{deepest}
use Rattle.bencode_values.proofs.Going.{no_ok}
use Rattle.bencode_values.specs.Steps.{going, sign, length_token, deliver_key, feed, answer_of}
use Rattle.bencode_values.proofs.Going.{go_on, go_bad, go_short, passes}
use Rattle.bencode_values.proofs.reader.+read.Goals as goal

pub items_at-returns-in-End : goal.items_at-returns-in-End
items_at-returns-in-End t c =
    let from = c.loop-mark.invariant.from in let inside = c.in-Some.ensures.0 in
    record {
      comes = λ outer len. (
        omega arith,
        omega arith,
        c.loop-mark.invariant.so_far outer len
            ∙ go_on c.args.bytes.now c.loop-mark.at (in_list c.loop-mark.items ∷ outer) start _ inside (ap (start_step c.loop-mark.at (in_list c.loop-mark.items ∷ outer)) (sym c.in-Some.ensures.1 ∙ c.in-End.is)),
      );
      moves = (omega arith, omega arith);
    }

pub items_at-returns : goal.items_at-returns
items_at-returns t c =
    record {
      comes = λ outer len. ap answer_of (c.loop-mark.invariant.so_far outer len) ∙ go_short c.args.bytes.now c.loop-mark.at (in_list c.loop-mark.items ∷ outer) start c.in_default.ensures;
      moves = tt;
    }

pub items_at-returns-in_err-value : goal.items_at-returns-in_err-value
items_at-returns-in_err-value t c =
    record {
      comes = λ outer len. passes c.args.bytes.now c.args.place c.loop-mark.at (going c.args.place (in_list [] ∷ outer) start) (going c.loop-mark.at (in_list c.loop-mark.items ∷ outer) start) (λ next v. deliver next (in_list c.loop-mark.items ∷ outer) v) (λ next xs. deliver next outer (V.List xs)) c.value_at.result _ c.from_residual.result c.from_residual.ensures.1 c.in_err-value.was
          (c.loop-mark.invariant.so_far outer len) (c.value_at.ensures.comes (in_list c.loop-mark.items ∷ outer) (let e = len in omega arith) (λ end. c.in_default-mark.not-End (c.in-Some.ensures.1 ∙ end)));
      moves = no_ok (λ found. (c.args.place < found.1) × (found.1 ≤ length c.args.bytes.now)) _ c.from_residual.result c.from_residual.ensures.1;
    }

pub items_at-loop-mark-preserved : goal.items_at-loop-mark-preserved
items_at-loop-mark-preserved t c =
    let from = c.loop-mark.invariant.from in let moves = c.in_ok-value.ensures.moves in
    record {
      from = omega arith;
      inside = moves.1;
      so_far = λ outer len. c.loop-mark.invariant.so_far outer len ∙ (c.in_ok-value.ensures.comes (in_list c.loop-mark.items ∷ outer) (let e = len in omega arith) (λ end. c.in_default-mark.not-End (c.in-Some.ensures.1 ∙ end))).2
          ∙ ap (λ vs. feed (going c.in_ok-value.next (in_list vs ∷ outer) start) (drop c.in_ok-value.next c.args.bytes.now)) (sym c.in_ok-push.ensures.ok);
    }

pub pairs_at-returns-in-End : goal.pairs_at-returns-in-End
pairs_at-returns-in-End t c =
    let from = c.loop-mark.invariant.from in let inside = c.in-Some.ensures.0 in
    record {
      comes = λ outer len. (
        omega arith,
        omega arith,
        c.loop-mark.invariant.so_far outer len
            ∙ go_on c.args.bytes.now c.loop-mark.at (in_dict c.loop-mark.pairs ∷ outer) start _ inside (ap (start_step c.loop-mark.at (in_dict c.loop-mark.pairs ∷ outer)) (sym c.in-Some.ensures.1 ∙ c.in-End.is)),
      );
      moves = (omega arith, omega arith);
    }

pub pairs_at-returns : goal.pairs_at-returns
pairs_at-returns t c =
    record {
      comes = λ outer len. ap answer_of (c.loop-mark.invariant.so_far outer len) ∙ go_short c.args.bytes.now c.loop-mark.at (in_dict c.loop-mark.pairs ∷ outer) start c.in_default.ensures;
      moves = tt;
    }

pub pairs_at-returns-in_err-key : goal.pairs_at-returns-in_err-key
pairs_at-returns-in_err-key t c =
    record {
      comes = λ outer len. passes c.args.bytes.now c.args.place c.loop-mark.at (going c.args.place (in_dict [] ∷ outer) start) (going c.loop-mark.at (in_dict c.loop-mark.pairs ∷ outer) start) (λ next k. going next (in_entry c.loop-mark.pairs k ∷ outer) start) (λ next xs. deliver next outer (V.Dict xs)) c.key_at.result _ c.from_residual.result c.from_residual.ensures.1 c.in_err-key.was
          (c.loop-mark.invariant.so_far outer len) (c.key_at.ensures c.loop-mark.pairs outer);
      moves = no_ok (λ found. (c.args.place < found.1) × (found.1 ≤ length c.args.bytes.now)) _ c.from_residual.result c.from_residual.ensures.1;
    }

pub pairs_at-value_at-requires : goal.pairs_at-value_at-requires
pairs_at-value_at-requires t c =
    let inside = (c.in_ok-key.ensures [] []).1 in let deep = c.requires.deep in let less = c.decreases in (omega arith, (inside, deep))

pub pairs_at-returns-in_err-value : goal.pairs_at-returns-in_err-value
pairs_at-returns-in_err-value t c =
    record {
      comes = λ outer len. passes c.args.bytes.now c.args.place c.in_ok-key.after (going c.args.place (in_dict [] ∷ outer) start) (going c.in_ok-key.after (in_entry c.loop-mark.pairs c.in_ok-key.key ∷ outer) start) (λ next v. deliver next (in_entry c.loop-mark.pairs c.in_ok-key.key ∷ outer) v) (λ next xs. deliver next outer (V.Dict xs)) c.value_at.result _ c.from_residual-in_err-value.result c.from_residual-in_err-value.ensures.1 c.in_err-value.was
          (c.loop-mark.invariant.so_far outer len ∙ (c.in_ok-key.ensures c.loop-mark.pairs outer).2) (c.value_at.ensures.comes (in_entry c.loop-mark.pairs c.in_ok-key.key ∷ outer) (let e = len in omega arith) tt);
      moves = no_ok (λ found. (c.args.place < found.1) × (found.1 ≤ length c.args.bytes.now)) _ c.from_residual-in_err-value.result c.from_residual-in_err-value.ensures.1;
    }

pub pairs_at-loop-mark-preserved : goal.pairs_at-loop-mark-preserved
pairs_at-loop-mark-preserved t c =
    let from = c.loop-mark.invariant.from in let moves = c.in_ok-value.ensures.moves in let after = c.in_ok-key.ensures [] [] in let first = after.0 in
    record {
      from = omega arith;
      inside = moves.1;
      so_far = λ outer len. c.loop-mark.invariant.so_far outer len ∙ (c.in_ok-key.ensures c.loop-mark.pairs outer).2 ∙ (c.in_ok-value.ensures.comes (in_entry c.loop-mark.pairs c.in_ok-key.key ∷ outer) (let e = len in omega arith) tt).2
          ∙ ap (λ ps. feed (going c.in_ok-value.next (in_dict ps ∷ outer) start) (drop c.in_ok-value.next c.args.bytes.now)) (sym c.in_ok-push.ensures.ok);
    }

pub pairs_at-loop-mark-smaller : goal.pairs_at-loop-mark-smaller
pairs_at-loop-mark-smaller t c =
    let moves = c.in_ok-value.ensures.moves in let after = c.in_ok-key.ensures [] [] in let first = after.0 in omega arith

pub items_at-loop-mark-smaller : goal.items_at-loop-mark-smaller
items_at-loop-mark-smaller t c =
    let moves = c.in_ok-value.ensures.moves in omega arith

pub value_at-returns-in_default : goal.value_at-returns-in_default
value_at-returns-in_default t c =
    record {
      comes = λ opens len awaits. go_short c.args.bytes.now c.args.place opens start c.in_default.ensures;
      moves = tt;
    }

pub value_at-returns-in_default-mark : goal.value_at-returns-in_default-mark
value_at-returns-in_default-mark t c =
    record {
      comes = λ opens len awaits. go_bad c.args.bytes.now c.args.place opens start _ c.in-Some.ensures.0 (ap (start_step c.args.place opens) (sym c.in-Some.ensures.1)
          ∙ value_letter c.args.place opens c.in-Some.mark (subst (AwaitsValue opens) (sym c.in-Some.ensures.1) awaits) c.in_default-mark.not-Int c.in_default-mark.not-List c.in_default-mark.not-Dict c.in_default-mark.not-Digit);
      moves = tt;
    }

pub value_at-returns-in_err-number-in-Int : goal.value_at-returns-in_err-number-in-Int
value_at-returns-in_err-number-in-Int t c =
    record {
      comes = λ opens len awaits. passes c.args.bytes.now c.args.place (c.args.place + 1) (going c.args.place opens start) (going (c.args.place + 1) opens sign) (λ next n. deliver_key next opens (K.Int n)) (λ next v. deliver next opens v) c.int_at.result _ c.from_residual.result c.from_residual.ensures.1 c.in_err-number-in-Int.was
          (go_on c.args.bytes.now c.args.place opens start _ c.in-Some.ensures.0 (ap (start_step c.args.place opens) (sym c.in-Some.ensures.1 ∙ c.in-Int.is))) (c.int_at.ensures opens);
      moves = no_ok (λ found. (c.args.place < found.1) × (found.1 ≤ length c.args.bytes.now)) _ c.from_residual.result c.from_residual.ensures.1;
    }

pub value_at-returns-in_err-text-in-Digit : goal.value_at-returns-in_err-text-in-Digit
value_at-returns-in_err-text-in-Digit t c =
    record {
      comes = λ opens len awaits. passes c.args.bytes.now c.args.place (c.args.place + 1) (going c.args.place opens start) (going (c.args.place + 1) opens (length_token c.in-Digit.first)) (λ next text. deliver_key next opens (K.Bytes text)) (λ next v. deliver next opens v) c.string_at.result _ c.from_residual-in_err-text-in-Digit.result c.from_residual-in_err-text-in-Digit.ensures.1 c.in_err-text-in-Digit.was
          (go_on c.args.bytes.now c.args.place opens start _ c.in-Some.ensures.0 (ap (start_step c.args.place opens) (sym c.in-Some.ensures.1 ∙ c.in-Digit.is) ∙ start_digit c.args.place opens c.in-Digit.first)) (c.string_at.ensures opens);
      moves = no_ok (λ found. (c.args.place < found.1) × (found.1 ≤ length c.args.bytes.now)) _ c.from_residual-in_err-text-in-Digit.result c.from_residual-in_err-text-in-Digit.ensures.1;
    }

pub value_at-returns-in_err-items-in-List : goal.value_at-returns-in_err-items-in-List
value_at-returns-in_err-items-in-List t c =
    record {
      comes = λ opens len awaits. passes c.args.bytes.now c.args.place (c.args.place + 1) (going c.args.place opens start) (going (c.args.place + 1) (in_list [] ∷ opens) start) (λ next xs. deliver next opens (V.List xs)) (λ next v. deliver next opens v) c.items_at.result _ c.from_residual-in_err-items-in-List.result c.from_residual-in_err-items-in-List.ensures.1 c.in_err-items-in-List.was
          (go_on c.args.bytes.now c.args.place opens start _ c.in-Some.ensures.0 (ap (start_step c.args.place opens) (sym c.in-Some.ensures.1 ∙ c.in-List.is) ∙ open_at-value c.args.place opens (in_list []) (awaits_place opens _ awaits) (let shallow = c.if-depth-eq-DEEPEST.false in let deep = c.requires.deep in let e = len in omega arith))) (c.items_at.ensures.comes opens (ap (λ k. k + 1) len));
      moves = no_ok (λ found. (c.args.place < found.1) × (found.1 ≤ length c.args.bytes.now)) _ c.from_residual-in_err-items-in-List.result c.from_residual-in_err-items-in-List.ensures.1;
    }

pub value_at-returns-in_ok-items-in-List : goal.value_at-returns-in_ok-items-in-List
value_at-returns-in_ok-items-in-List t c =
    let moves = c.in_ok-items-in-List.ensures.moves in
    record {
      comes = λ opens len awaits. (omega arith, moves.1, go_on c.args.bytes.now c.args.place opens start _ c.in-Some.ensures.0 (ap (start_step c.args.place opens) (sym c.in-Some.ensures.1 ∙ c.in-List.is) ∙ open_at-value c.args.place opens (in_list []) (awaits_place opens _ awaits) (let shallow = c.if-depth-eq-DEEPEST.false in let deep = c.requires.deep in let e = len in omega arith)) ∙ (c.in_ok-items-in-List.ensures.comes opens (ap (λ k. k + 1) len)).2);
      moves = (omega arith, moves.1);
    }

pub value_at-returns-then-depth-eq-DEEPEST : goal.value_at-returns-then-depth-eq-DEEPEST
value_at-returns-then-depth-eq-DEEPEST t c =
    record {
      comes = λ opens len awaits. go_bad c.args.bytes.now c.args.place opens start _ c.in-Some.ensures.0 (ap (start_step c.args.place opens) (sym c.in-Some.ensures.1 ∙ c.in-List.is) ∙ deepest c.args.place opens (in_list []) (awaits_place opens _ awaits) (len ∙ c.if-depth-eq-DEEPEST.true));
      moves = tt;
    }

pub value_at-returns-in_err-pairs-in-Dict : goal.value_at-returns-in_err-pairs-in-Dict
value_at-returns-in_err-pairs-in-Dict t c =
    record {
      comes = λ opens len awaits. passes c.args.bytes.now c.args.place (c.args.place + 1) (going c.args.place opens start) (going (c.args.place + 1) (in_dict [] ∷ opens) start) (λ next xs. deliver next opens (V.Dict xs)) (λ next v. deliver next opens v) c.pairs_at.result _ c.from_residual-in_err-pairs-in-Dict.result c.from_residual-in_err-pairs-in-Dict.ensures.1 c.in_err-pairs-in-Dict.was
          (go_on c.args.bytes.now c.args.place opens start _ c.in-Some.ensures.0 (ap (start_step c.args.place opens) (sym c.in-Some.ensures.1 ∙ c.in-Dict.is) ∙ open_at-value c.args.place opens (in_dict []) (awaits_place opens _ awaits) (let shallow = c.if-depth-eq-DEEPEST-2.false in let deep = c.requires.deep in let e = len in omega arith))) (c.pairs_at.ensures.comes opens (ap (λ k. k + 1) len));
      moves = no_ok (λ found. (c.args.place < found.1) × (found.1 ≤ length c.args.bytes.now)) _ c.from_residual-in_err-pairs-in-Dict.result c.from_residual-in_err-pairs-in-Dict.ensures.1;
    }

pub value_at-returns-in_ok-pairs-in-Dict : goal.value_at-returns-in_ok-pairs-in-Dict
value_at-returns-in_ok-pairs-in-Dict t c =
    let moves = c.in_ok-pairs-in-Dict.ensures.moves in
    record {
      comes = λ opens len awaits. (omega arith, moves.1, go_on c.args.bytes.now c.args.place opens start _ c.in-Some.ensures.0 (ap (start_step c.args.place opens) (sym c.in-Some.ensures.1 ∙ c.in-Dict.is) ∙ open_at-value c.args.place opens (in_dict []) (awaits_place opens _ awaits) (let shallow = c.if-depth-eq-DEEPEST-2.false in let deep = c.requires.deep in let e = len in omega arith)) ∙ (c.in_ok-pairs-in-Dict.ensures.comes opens (ap (λ k. k + 1) len)).2);
      moves = (omega arith, moves.1);
    }

pub value_at-returns-then-depth-eq-DEEPEST-2 : goal.value_at-returns-then-depth-eq-DEEPEST-2
value_at-returns-then-depth-eq-DEEPEST-2 t c =
    record {
      comes = λ opens len awaits. go_bad c.args.bytes.now c.args.place opens start _ c.in-Some.ensures.0 (ap (start_step c.args.place opens) (sym c.in-Some.ensures.1 ∙ c.in-Dict.is) ∙ deepest c.args.place opens (in_dict []) (awaits_place opens _ awaits) (len ∙ c.if-depth-eq-DEEPEST-2.true));
      moves = tt;
    }

pub value_at-returns-in_ok-number-in-Int : goal.value_at-returns-in_ok-number-in-Int
value_at-returns-in_ok-number-in-Int t c =
    let first = c.in_ok-number-in-Int.ensures [] in let after = first.0 in
    let same : c.in_ok-number-in-Int.number ≡ to_z w64 (of_z w64 c.in_ok-number-in-Int.number) = sym (to_z-of_z w64 c.in_ok-number-in-Int.number (search rules)) in
    record {
      comes = λ opens len awaits. (
        omega arith,
        first.1,
        go_on c.args.bytes.now c.args.place opens start _ c.in-Some.ensures.0 (ap (start_step c.args.place opens) (sym c.in-Some.ensures.1 ∙ c.in-Int.is)) ∙ (c.in_ok-number-in-Int.ensures opens).2
            ∙ ap (λ s. feed s (drop c.in_ok-number-in-Int.next c.args.bytes.now)) (deliver_key-value c.in_ok-number-in-Int.next opens (K.Int c.in_ok-number-in-Int.number) (awaits_place opens _ awaits) ∙ ap (λ z. deliver c.in_ok-number-in-Int.next opens (V.Int z)) same),
      );
      moves = (omega arith, first.1);
    }

pub value_at-returns-in_ok-text-in-Digit : goal.value_at-returns-in_ok-text-in-Digit
value_at-returns-in_ok-text-in-Digit t c =
    let first = c.in_ok-text-in-Digit.ensures [] in let after = first.0 in
    record {
      comes = λ opens len awaits. (
        omega arith,
        first.1,
        go_on c.args.bytes.now c.args.place opens start _ c.in-Some.ensures.0 (ap (start_step c.args.place opens) (sym c.in-Some.ensures.1 ∙ c.in-Digit.is) ∙ start_digit c.args.place opens c.in-Digit.first) ∙ (c.in_ok-text-in-Digit.ensures opens).2
            ∙ ap (λ s. feed s (drop c.in_ok-text-in-Digit.next c.args.bytes.now)) (deliver_key-value c.in_ok-text-in-Digit.next opens (K.Bytes c.in_ok-text-in-Digit.text) (awaits_place opens _ awaits)),
      );
      moves = (omega arith, first.1);
    }
