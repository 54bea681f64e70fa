use Rattle.std.proofs.Common.{◌≡◌, ◌∙◌, ℕ, true, List, [], ◌∷◌, Ok, Err, sym, ap, subst}
use Rattle.std.specs.Option.{option_copied}
use Rattle.std.proofs.lemmas.Bool.{and_parts}
use Rattle.std.proofs.lemmas.Result.{err_from_is_err_and}
use Rattle.link_bay.specs.declared.order.Order.TheVariants.{Join}
use Rattle.link_bay.specs.declared.order.Kind.TheVariants as peers
use Rattle.script_lines.specs.declared.kinds.PeerKind.TheVariants as kind
use Rattle.script_lines.specs.Text.{words_of}
use Rattle.script_lines.specs.Numbers.{is_hex, bytes_of}
use Rattle.script_lines.specs.Arguments.{Hex, nth_word, first_word, read}
use Rattle.script_lines.specs.Places.{first, nothing}
use Rattle.script_lines.specs.Forms.{peer_order}
use Rattle.script_lines.proofs.PlacesLemmas.{read_one, read_ok, read_right, first_is, spelled_hex}
use Rattle.script_lines.proofs.FormsLemmas.{not_made}
use Rattle.script_lines.proofs.peer_forms.scripted.Goals as goal

pub returns-in_err-only : goal.returns-in_err-only
returns-in_err-only c =
    let ws = words_of c.args.words.now in
    let whole : c.only.result ≡ read (Hex ∷ []) (λ words. nothing (nth_word 0 words)) ws =
    read_one Hex nothing ws (words_of c.next.result.1.now) c.hex_of.result c.only.result (c.hex_of.ensures ∙ ap (first Hex nothing) c.next.ensures.word) c.next.ensures.rest c.only.ensures in
    let p = err_from_is_err_and c.from_residual.result c.from_residual.ensures.1 in
    rw (p.1, p.2) (sym (not_made (Hex ∷ []) (λ words. nothing (nth_word 0 words)) (peer_order kind.Hex) ws c.in_err-only.field-0.0 c.only.result whole c.in_err-only.was))

pub bytes_of-requires : goal.bytes_of-requires
bytes_of-requires c =
    let ws = words_of c.args.words.now in
    let whole : c.only.result ≡ read (Hex ∷ []) (λ words. nothing (nth_word 0 words)) ws =
    read_one Hex nothing ws (words_of c.next.result.1.now) c.hex_of.result c.only.result (c.hex_of.ensures ∙ ap (first Hex nothing) c.next.ensures.word) c.next.ensures.rest c.only.ensures in
    let right = read_right (Hex ∷ []) (λ words. nothing (nth_word 0 words)) ws c.in_ok-only.field-0 (sym whole ∙ c.in_ok-only.was) in
    let word = first_is ws c.in-Some.hex.now (sym c.next.ensures.word ∙ ap option_copied c.in-Some.is) in
    spelled_hex c.in-Some.hex.now (subst (λ (w : List ℕ). is_hex w ≡ true) word (and_parts (is_hex (first_word ws)) true right.0).0)

pub returns : goal.returns
returns c =
    let ws = words_of c.args.words.now in
    let whole : c.only.result ≡ read (Hex ∷ []) (λ words. nothing (nth_word 0 words)) ws =
    read_one Hex nothing ws (words_of c.next.result.1.now) c.hex_of.result c.only.result (c.hex_of.ensures ∙ ap (first Hex nothing) c.next.ensures.word) c.next.ensures.rest c.only.ensures in
    let is = read_ok (Hex ∷ []) (λ words. nothing (nth_word 0 words)) (peer_order kind.Hex) ws c.in_ok-only.field-0 (sym whole ∙ c.in_ok-only.was) in
    let word = first_is ws c.in-Some.hex.now (sym c.next.ensures.word ∙ ap option_copied c.in-Some.is) in
    is.0 ∙ ap (λ (bytes : List ℕ). Ok (Join peers.Hex bytes)) (ap bytes_of word ∙ sym c.in_ok-bytes_of.ensures ∙ sym c.new.ensures)
