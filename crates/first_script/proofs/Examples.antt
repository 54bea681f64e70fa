-- What the definitions say of some texts.
use Rattle.std.proofs.Common.{◌≡◌, ℕ, List, [], ◌∷◌, ◌++◌, Ok, Err, refl}
use Rattle.std.specs.Prelude.{pos, codes}
use Rattle.link_bay.specs.declared.order.Order.TheVariants.{Join}
use Rattle.link_bay.specs.declared.order.Kind.TheVariants.{Exact}
use Rattle.first_script.specs.declared.paint.Paint.TheVariants.{Open, Fill}
use Rattle.first_script.specs.declared.line.Line.TheVariants as line
use Rattle.first_script.specs.Text.{numeral, number, colour}
use Rattle.first_script.specs.Forms.{number_at, colour_at, rectangle_at, open_at, fill_at, peer_at, line_of}
use Rattle.first_script.specs.Reading.{next_line, script_after, script_of}

abbrev lines_with_ends : List (List ℕ) → List ℕ
lines_with_ends [] = []
lines_with_ends (line ∷ lines) = line ++ 10 ∷ lines_with_ends lines

a_red_square : script_of (lines_with_ends (codes "open 1 0 0 2 2" ∷ codes "fill 1 0 0 2 2 ff0000" ∷ codes "peer exact" ∷ []))
    ≡ Ok (line.Paint (Open 1 (pos 0) (pos 0) 2 2) ∷ line.Paint (Fill 1 0 0 2 2 16711680) ∷ line.Peer (Join Exact []) ∷ [])
unfolding script_of script_after next_line line_of open_at fill_at peer_at rectangle_at colour_at number_at number colour numeral
a_red_square = refl

no_lines : script_of [] ≡ Ok []
unfolding script_of script_after
no_lines = refl

another_word : script_of (codes "close 1") ≡ Err 1
unfolding script_of script_after next_line line_of open_at fill_at peer_at rectangle_at colour_at number_at number colour numeral
another_word = refl

a_fill_outside : script_of (lines_with_ends (codes "open 1 0 0 2 2" ∷ codes "fill 1 1 0 2 1 ff0000" ∷ [])) ≡ Err 2
unfolding script_of script_after next_line line_of open_at fill_at peer_at rectangle_at colour_at number_at number colour numeral
a_fill_outside = refl

a_second_window : script_of (lines_with_ends (codes "open 1 0 0 2 2" ∷ codes "open 2 0 0 2 2" ∷ [])) ≡ Err 2
unfolding script_of script_after next_line line_of open_at fill_at peer_at rectangle_at colour_at number_at number colour numeral
a_second_window = refl

two_peers : script_of (lines_with_ends (codes "peer exact" ∷ codes "peer exact" ∷ [])) ≡ Err 2
unfolding script_of script_after next_line line_of open_at fill_at peer_at rectangle_at colour_at number_at number colour numeral
two_peers = refl
