use Rattle.std.proofs.Common.{◌≡◌, ◌+◌, [], drop, sym, ap, ◌∙◌, arith, get_or}
use Rattle.bencode_values.specs.declared.value.Key.TheVariants as K
use Rattle.bencode_values.specs.Steps.{zero_length, zero_length_step, deliver_key, feed}
use Rattle.bencode_values.proofs.Going.{go_on, go_bad, go_short, zero_length_other}
use Rattle.bencode_values.proofs.string.empty_at.Goals as goal

pub returns-in_default : goal.returns-in_default
returns-in_default c opens =
    go_short c.args.bytes.now c.args.place opens zero_length c.in_default.ensures

pub returns-in_default-mark : goal.returns-in_default-mark
returns-in_default-mark c opens =
    go_bad c.args.bytes.now c.args.place opens zero_length _ c.in-Some.ensures.0 (zero_length_other _ opens (get_or c.args.bytes.now c.args.place 0) c.in-Some.mark c.in-Some.ensures.1 c.in_default-mark.not-Colon c.in_default-mark.not-Digit)

pub returns-in-Digit : goal.returns-in-Digit
returns-in-Digit c opens =
    go_bad c.args.bytes.now c.args.place opens zero_length _ c.in-Some.ensures.0 (ap (zero_length_step c.args.place opens) (sym c.in-Some.ensures.1 ∙ c.in-Digit.is))

pub returns-in-Colon : goal.returns-in-Colon
returns-in-Colon c opens =
    let inside = c.in-Some.ensures.0 in
    let empty : [] ≡ c.new-in-Colon.result = sym (c.new-in-Colon.ensures ∙ c.new.ensures.items) in (
      omega arith,
      omega arith,
      go_on c.args.bytes.now c.args.place opens zero_length _ inside (ap (zero_length_step c.args.place opens) (sym c.in-Some.ensures.1 ∙ c.in-Colon.is))
          ∙ ap (λ l. feed (deliver_key (c.args.place + 1) opens (K.Bytes l)) (drop (c.args.place + 1) c.args.bytes.now)) empty,
    )
