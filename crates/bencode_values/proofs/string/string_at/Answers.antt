use Rattle.std.proofs.Common.{◌≡◌, ◌+◌, ◌-◌, ◌<◌, [], take, drop, ap, ◌∙◌, arith}
use Rattle.bencode_values.specs.declared.value.Key.TheVariants as K
use Rattle.bencode_values.specs.Steps.{going, zero_length, length_token, size, string, deliver_key, feed, answer_of}
use Rattle.bencode_values.proofs.Going.{comes_on, passes, length_token-size, string_short, string_whole}
use Rattle.bencode_values.proofs.string.string_at.Goals as goal

pub returns-then-first-eq0 : goal.returns-then-first-eq0
returns-then-first-eq0 c opens =
    comes_on c.args.bytes.now c.args.place c.args.place (going c.args.place opens (length_token c.args.first)) (going c.args.place opens zero_length) (λ next text. deliver_key next opens (K.Bytes text)) c.empty_at.result (omega arith)
    (ap (λ d. feed (going c.args.place opens (length_token d)) (drop c.args.place c.args.bytes.now)) c.if-first-eq0.true) (c.empty_at.ensures opens)

pub returns-in_err-size : goal.returns-in_err-size
returns-in_err-size c opens =
    let positive : 0 < c.args.first = let h = c.if-first-eq0.false in omega arith in
    passes c.args.bytes.now c.args.place c.args.place (going c.args.place opens (length_token c.args.first)) (going c.args.place opens (size c.args.first)) (λ next k. going next opens (string k [])) (λ next text. deliver_key next opens (K.Bytes text)) c.length_at.result _ c.from_residual.result c.from_residual.ensures.1 c.in_err-size.was
    (ap (λ token. feed (going c.args.place opens token) (drop c.args.place c.args.bytes.now)) (length_token-size c.args.first positive)) (c.length_at.ensures.comes opens)

pub overflow_sub-bytes : goal.overflow_sub-bytes
overflow_sub-bytes c =
    (c.in_ok-size.ensures.comes []).1

pub returns-then-bytes-next : goal.returns-then-bytes-next
returns-then-bytes-next c opens =
    let positive : 0 < c.args.first = let h = c.if-first-eq0.false in omega arith in
    let found = c.in_ok-size.ensures.comes opens in
    ap answer_of (ap (λ token. feed (going c.args.place opens token) (drop c.args.place c.args.bytes.now)) (length_token-size c.args.first positive) ∙ found.2) ∙ string_short c.args.bytes.now c.in_ok-size.next opens c.in_ok-size.size c.if-bytes-next.true

pub returns : goal.returns
returns c opens =
    let positive : 0 < c.args.first = let h = c.if-first-eq0.false in omega arith in
    let found = c.in_ok-size.ensures.comes opens in
    let after = found.0 in let inside = found.1 in let enough = c.if-bytes-next.false in
    let some = c.in_ok-size.ensures.in_limit in
    let text : c.new.result ≡ take c.in_ok-size.size (drop c.in_ok-size.next c.args.bytes.now) = let n : c.in_ok-size.next + c.in_ok-size.size - c.in_ok-size.next ≡ c.in_ok-size.size = omega arith in
    c.new.ensures ∙ c.in_ok-text.ensures.items ∙ ap (λ k. take k (drop c.in_ok-size.next c.args.bytes.now)) n in
    (omega arith, omega arith, ap (λ token. feed (going c.args.place opens token) (drop c.args.place c.args.bytes.now)) (length_token-size c.args.first positive) ∙ found.2 ∙ string_whole c.args.bytes.now c.in_ok-size.next opens c.in_ok-size.size c.new.result some.0 (omega arith) text)
