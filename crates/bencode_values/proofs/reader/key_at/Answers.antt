use Rattle.std.proofs.Common.{rules, ◌≡◌, ◌+◌, drop, sym, ap, ◌∙◌, arith, to_z, of_z, w64}
use Rattle.std.proofs.lemmas.Int.{to_z-of_z}
use Rattle.bencode_values.specs.declared.value.Key.TheVariants as K
use Rattle.std.proofs.Common.{◌∷◌, inl, inr}
use Rattle.bencode_values.specs.Reading.{in_dict, in_entry}
use Rattle.bencode_values.specs.Steps.{start, start_step}
use Rattle.bencode_values.proofs.Going.{start_digit, key_letter}
use Rattle.bencode_values.specs.Steps.{going, sign, length_token, deliver_key, feed}
use Rattle.bencode_values.proofs.Going.{go_on, go_bad, passes}
use Rattle.bencode_values.proofs.reader.key_at.Goals as goal

pub returns-in_err-number-in-Int : goal.returns-in_err-number-in-Int
returns-in_err-number-in-Int c ps outer =
    passes c.args.bytes.now c.args.place (c.args.place + 1) (going c.args.place (in_dict ps ∷ outer) start) (going (c.args.place + 1) (in_dict ps ∷ outer) sign) (λ next n. deliver_key next (in_dict ps ∷ outer) (K.Int n)) (λ next k. going next (in_entry ps k ∷ outer) start) c.int_at.result _ c.from_residual.result c.from_residual.ensures.1 c.in_err-number-in-Int.was
    (go_on c.args.bytes.now c.args.place (in_dict ps ∷ outer) start _ c.requires.within (ap (start_step c.args.place (in_dict ps ∷ outer)) (sym c.requires.marked ∙ c.in-Int.is))) (c.int_at.ensures (in_dict ps ∷ outer))

pub returns-in_err-text-in-Digit : goal.returns-in_err-text-in-Digit
returns-in_err-text-in-Digit c ps outer =
    passes c.args.bytes.now c.args.place (c.args.place + 1) (going c.args.place (in_dict ps ∷ outer) start) (going (c.args.place + 1) (in_dict ps ∷ outer) (length_token c.in-Digit.first)) (λ next text. deliver_key next (in_dict ps ∷ outer) (K.Bytes text)) (λ next k. going next (in_entry ps k ∷ outer) start) c.string_at.result _ c.from_residual-in_err-text-in-Digit.result c.from_residual-in_err-text-in-Digit.ensures.1 c.in_err-text-in-Digit.was
    (go_on c.args.bytes.now c.args.place (in_dict ps ∷ outer) start _ c.requires.within (ap (start_step c.args.place (in_dict ps ∷ outer)) (sym c.requires.marked ∙ c.in-Digit.is) ∙ start_digit c.args.place (in_dict ps ∷ outer) c.in-Digit.first)) (c.string_at.ensures (in_dict ps ∷ outer))

pub returns-in_ok-number-in-Int : goal.returns-in_ok-number-in-Int
returns-in_ok-number-in-Int c ps outer =
    let found = c.in_ok-number-in-Int.ensures (in_dict ps ∷ outer) in
    let after = found.0 in
    let same : c.in_ok-number-in-Int.number ≡ to_z w64 (of_z w64 c.in_ok-number-in-Int.number) = sym (to_z-of_z w64 c.in_ok-number-in-Int.number (search rules)) in (
      omega arith,
      found.1,
      go_on c.args.bytes.now c.args.place (in_dict ps ∷ outer) start _ c.requires.within (ap (start_step c.args.place (in_dict ps ∷ outer)) (sym c.requires.marked ∙ c.in-Int.is))
          ∙ found.2 ∙ ap (λ z. feed (deliver_key c.in_ok-number-in-Int.next (in_dict ps ∷ outer) (K.Int z)) (drop c.in_ok-number-in-Int.next c.args.bytes.now)) same,
    )

pub returns-in_ok-text-in-Digit : goal.returns-in_ok-text-in-Digit
returns-in_ok-text-in-Digit c ps outer =
    let found = c.in_ok-text-in-Digit.ensures (in_dict ps ∷ outer) in
    let after = found.0 in
    (omega arith, found.1, go_on c.args.bytes.now c.args.place (in_dict ps ∷ outer) start _ c.requires.within (ap (start_step c.args.place (in_dict ps ∷ outer)) (sym c.requires.marked ∙ c.in-Digit.is) ∙ start_digit c.args.place (in_dict ps ∷ outer) c.in-Digit.first) ∙ found.2)

pub returns-in-List : goal.returns-in-List
returns-in-List c ps outer =
    elim c.in-List.is [
      | inl list ↦ go_bad c.args.bytes.now c.args.place (in_dict ps ∷ outer) start _ c.requires.within (ap (start_step c.args.place (in_dict ps ∷ outer)) (sym c.requires.marked ∙ list))
      | inr dict ↦ go_bad c.args.bytes.now c.args.place (in_dict ps ∷ outer) start _ c.requires.within (ap (start_step c.args.place (in_dict ps ∷ outer)) (sym c.requires.marked ∙ dict))
    ]

pub returns-in_default : goal.returns-in_default
returns-in_default c ps outer =
    go_bad c.args.bytes.now c.args.place (in_dict ps ∷ outer) start _ c.requires.within (ap (start_step c.args.place (in_dict ps ∷ outer)) (sym c.requires.marked)
    ∙ key_letter c.args.place ps outer c.args.mark c.in_default.not-Int c.in_default.not-List c.in_default.not-Dict c.requires.goes_on c.in_default.not-Digit)
