-- The final report: the windows from bottom to top, and how each connection ended. This project's own.
use Rattle.std.specs.Prelude.{ℕ, ◌+◌, List, [], ◌∷◌, ◌++◌, length, codes, sum}
use Rattle.std.specs.List.{flat_map}
use Rattle.std.specs.Fmt.{decimal, signed_decimal}
use Rattle.window_model.specs.Desktop.{Window}
use Rattle.client_connection.specs.declared.ends.End.{End}
use Rattle.client_connection.specs.declared.ends.End.TheVariants as E

-- a window's number, place and size, and the sum of its pixels' numbers
abbrev pub window_line : Window → List ℕ
window_line window = codes "window " ++ decimal window.wid ++ codes " " ++ signed_decimal window.x ++ codes " " ++ signed_decimal window.y
    ++ codes " " ++ decimal window.w ++ codes " " ++ decimal window.h ++ codes " " ++ decimal (sum window.pixels) ++ 10 ∷ []

abbrev pub window_lines : List Window → List ℕ
window_lines desk = flat_map window_line desk

abbrev pub end_text : End → List ℕ
end_text E.Settled = codes "settled"
end_text E.Unbuilt = codes "unbuilt"
end_text E.Short = codes "short"
end_text E.Unended = codes "unended"

abbrev pub client_line : ℕ → End → List ℕ
client_line number ended = codes "client " ++ decimal number ++ codes " " ++ end_text ended ++ 10 ∷ []

-- the connections from this number on
abbrev pub client_lines : ℕ → List End → List ℕ
client_lines number [] = []
client_lines number (ended ∷ ends) = client_line number ended ++ client_lines (number + 1) ends

abbrev pub count_line : List Window → List ℕ
count_line desk = codes "windows " ++ decimal (length desk) ++ 10 ∷ []

abbrev pub report : List Window → List End → List ℕ
report desk ends = count_line desk ++ window_lines desk ++ client_lines 0 ends
