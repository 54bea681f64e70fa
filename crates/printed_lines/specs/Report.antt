-- The final report: the windows from bottom to top, and how each connection ended. This project's own; each line ends with the byte 10.
use Rattle.std.specs.Prelude.{ℕ, ◌+◌, List, [], ◌∷◌, ◌++◌, length, codes, sum}
use Rattle.std.specs.List.{flat_map}
use Rattle.std.specs.Fmt.{decimal, signed_decimal}
use Rattle.window_model.specs.Desktop.{Window}
use Rattle.connection_ends.specs.declared.end.End.{End}
use Rattle.printed_lines.specs.Ends.{end_text}

-- a window's number, place and size, and the sum of its pixels' numbers
abbrev pub window_line : Window → List ℕ
window_line window = codes "window " ++ decimal window.wid ++ codes " " ++ signed_decimal window.x ++ codes " " ++ signed_decimal window.y
    ++ codes " " ++ decimal window.w ++ codes " " ++ decimal window.h ++ codes " " ++ decimal (sum window.pixels) ++ 10 ∷ []

abbrev pub window_lines : List Window → List ℕ
window_lines desk = flat_map window_line desk

-- the windows alone
abbrev pub windows_text : List Window → List ℕ
windows_text desk = codes "windows " ++ decimal (length desk) ++ 10 ∷ [] ++ window_lines desk

abbrev pub client_line : ℕ → End → List ℕ
client_line number ended = codes "client " ++ decimal number ++ codes " " ++ end_text ended ++ 10 ∷ []

-- the connections from this number on
abbrev pub client_lines : ℕ → List End → List ℕ
client_lines number [] = []
client_lines number (ended ∷ ends) = client_line number ended ++ client_lines (number + 1) ends

abbrev pub report : List Window → List End → List ℕ
report desk ends = windows_text desk ++ client_lines 0 ends
