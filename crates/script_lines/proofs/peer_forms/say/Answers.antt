use Rattle.std.proofs.Common.{◌≡◌, ◌∙◌, ℕ, true, List, [], ◌∷◌, drop, Ok, Err, sym, ap, subst, ◌&&◌}
use Rattle.std.specs.Option.{option_copied}
use Rattle.std.proofs.lemmas.Bool.{and_parts}
use Rattle.std.proofs.lemmas.Result.{err_from_is_err_and}
use Rattle.link_bay.specs.declared.order.Order.TheVariants.{Say}
use Rattle.xp_base.specs.declared.numbers.Conn.{Conn}
use Rattle.script_lines.specs.declared.kinds.PeerKind.TheVariants as kind
use Rattle.script_lines.specs.Text.{words_of}
use Rattle.script_lines.specs.Numbers.{is_hex, bytes_of}
use Rattle.script_lines.specs.Arguments.{Hex, is_spelled, number_of, nth_word, first_word, read}
use Rattle.script_lines.specs.Places.{first, nothing}
use Rattle.script_lines.specs.Forms.{client, peer_order}
use Rattle.script_lines.proofs.PlacesLemmas.{read_one, read_next, read_ok, read_right, first_is, spelled_hex}
use Rattle.script_lines.proofs.FormsLemmas.{not_made}
use Rattle.script_lines.proofs.peer_forms.say.Goals as goal

abbrev said : List (List ℕ) → ℕ × Unit {0}
said words = (number_of (nth_word 0 words), nothing (nth_word 1 words))

pub returns-in_err-k : goal.returns-in_err-k
returns-in_err-k c =
    let ws = words_of c.args.words.now in
    let rest = words_of c.client_in-k.result.1.now in
    let whole : c.both.result ≡ read (client ∷ Hex ∷ []) said ws =
    read_next client number_of (Hex ∷ []) (λ words. nothing (nth_word 0 words)) ws rest c.client_in-k.result.0 c.only.result c.both.result c.client_in-k.ensures.value c.client_in-k.ensures.rest
    (read_one Hex nothing rest (words_of c.next.result.1.now) c.hex_of.result c.only.result (c.hex_of.ensures ∙ ap (first Hex nothing) c.next.ensures.word) c.next.ensures.rest c.only.ensures)
    c.both.ensures in
    let p = err_from_is_err_and c.from_residual.result c.from_residual.ensures.1 in
    rw (p.1, p.2) (sym (not_made (client ∷ Hex ∷ []) said (peer_order kind.Say) ws c.in_err-k.field-0.0 c.both.result whole c.in_err-k.was))

pub bytes_of-requires : goal.bytes_of-requires
bytes_of-requires c =
    let ws = words_of c.args.words.now in
    let rest = words_of c.client_in-k.result.1.now in
    let whole : c.both.result ≡ read (client ∷ Hex ∷ []) said ws =
    read_next client number_of (Hex ∷ []) (λ words. nothing (nth_word 0 words)) ws rest c.client_in-k.result.0 c.only.result c.both.result c.client_in-k.ensures.value c.client_in-k.ensures.rest
    (read_one Hex nothing rest (words_of c.next.result.1.now) c.hex_of.result c.only.result (c.hex_of.ensures ∙ ap (first Hex nothing) c.next.ensures.word) c.next.ensures.rest c.only.ensures)
    c.both.ensures in
    let right = read_right (client ∷ Hex ∷ []) said ws (c.in_ok-k.k, c.in_ok-k.field-0-1) (sym whole ∙ c.in_ok-k.was) in
    let word = ap first_word (sym c.client_in-k.ensures.rest) ∙ first_is rest c.in-Some.hex.now (sym c.next.ensures.word ∙ ap option_copied c.in-Some.is) in
    let after = and_parts (is_spelled client (first_word ws)) (is_hex (nth_word 1 ws) && true) right.0 in
    spelled_hex c.in-Some.hex.now (subst (λ (w : List ℕ). is_hex w ≡ true) word (and_parts (is_hex (nth_word 1 ws)) true after.1).0)

pub returns : goal.returns
returns c =
    let ws = words_of c.args.words.now in
    let rest = words_of c.client_in-k.result.1.now in
    let whole : c.both.result ≡ read (client ∷ Hex ∷ []) said ws =
    read_next client number_of (Hex ∷ []) (λ words. nothing (nth_word 0 words)) ws rest c.client_in-k.result.0 c.only.result c.both.result c.client_in-k.ensures.value c.client_in-k.ensures.rest
    (read_one Hex nothing rest (words_of c.next.result.1.now) c.hex_of.result c.only.result (c.hex_of.ensures ∙ ap (first Hex nothing) c.next.ensures.word) c.next.ensures.rest c.only.ensures)
    c.both.ensures in
    let is = read_ok (client ∷ Hex ∷ []) said (peer_order kind.Say) ws (c.in_ok-k.k, c.in_ok-k.field-0-1) (sym whole ∙ c.in_ok-k.was) in
    let word = ap first_word (sym c.client_in-k.ensures.rest) ∙ first_is rest c.in-Some.hex.now (sym c.next.ensures.word ∙ ap option_copied c.in-Some.is) in
    is.0 ∙ ap (λ (bytes : List ℕ). Ok (Say (record { 0 = number_of (nth_word 0 ws) }) bytes)) (ap bytes_of word ∙ sym c.in_ok-bytes_of.ensures ∙ sym c.new.ensures)
    ∙ ap (λ (p : ℕ × Unit {0}). Ok (Say (record { 0 = p.0 }) c.new.result)) is.1
