-- The bytes of hellos.
use Rattle.std.proofs.Common.{◌≡◌, ℕ, ◌+◌, ◌<◌, ◌≤◌, Bool, true, false, zero, suc, List, [], ◌∷◌, ◌++◌, length, get_or, refl, sym, ap, ◌∙◌, arith}
use Rattle.std.specs.Prelude.{codes, nat_le, nat_lt}
use Rattle.std.specs.List.{list_all}
use Rattle.std.proofs.lemmas.Bool.{and_from}
use Rattle.std.proofs.lemmas.Bool.Decides.{nat_tests}
use Rattle.bencode_values.specs.Grammar.{is_string, Fits, spelled, spelled_bytes}
use Rattle.bencode_values.specs.declared.value.Value.{Value}
use Rattle.bencode_values.specs.declared.value.Value.TheVariants as V
use Rattle.bencode_values.proofs.Values.{fits-Bytes, spelled-Bytes}
use Rattle.packet_frames.specs.Written.{frame_bytes}
use Rattle.client_replay.specs.Hellos.{formats_key, uuid_key, hello_content, hello_bytes}

bytes_tested : (text : List ℕ) → ((i : ℕ) → get_or text i 0 < 256) → list_all (λ b. nat_lt b 256) text ≡ true
bytes_tested [] small = refl
bytes_tested (b ∷ text) small =
    let first : b < 256 = small 0 in
    let test : nat_lt b 256 ≡ true = grind (arith, nat_tests) in
    and_from _ _ test (bytes_tested text (λ i. small (suc i)))

pub text_fits : (text : List ℕ) (value : Value) → value ≡ V.Bytes text → length text ≤ 1000000 → ((i : ℕ) → get_or text i 0 < 256) → Fits 32 value
text_fits text value is short small =
    let test : nat_le (length text) 67108864 ≡ true = grind (arith, nat_tests) in
    rw is (fits-Bytes 32 text (and_from _ _ test (bytes_tested text small)))

pub text_spelled : (text : List ℕ) (value : Value) (bytes : List ℕ) → value ≡ V.Bytes text → bytes ≡ spelled value → bytes ≡ spelled_bytes text
text_spelled text value bytes is spells = spells ∙ ap spelled is ∙ spelled-Bytes text

pub hello_framed : (lossy : Bool) (uuid one two three four content said : List ℕ) → one ≡ [] ++ codes "l5:hellod9:encodingsl5:rgb32e" → two ≡ one ++ formats_key lossy → three ≡ two ++ uuid_key uuid
    → four ≡ three ++ codes "ee" → content ≡ four → said ≡ frame_bytes 0 content → said ≡ hello_bytes lossy uuid
unfolding hello_bytes
hello_framed lossy uuid one two three four content said a b c d e f = f ∙ ap (frame_bytes 0) (e ∙ d ∙ ap (λ xs. xs ++ codes "ee") (c ∙ ap (λ xs. xs ++ uuid_key uuid) (b ∙ ap (λ xs. xs ++ formats_key lossy) a)))
