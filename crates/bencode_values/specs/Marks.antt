-- The bytes that the grammar knows.
use Rattle.std.specs.Prelude.{ℕ, ◌-◌, ◌==◌, ◌&&◌, nat_le, if◌then◌else◌}
use Rattle.bencode_values.specs.declared.mark.Mark.{Mark}
use Rattle.bencode_values.specs.declared.mark.Mark.TheVariants as M

-- what a byte is outside a byte string: `i`, `l`, `d`, `e`, `:`, `-`, a digit with its value, or any other
abbrev pub mark_of : ℕ → Mark
mark_of b =
    if b == 105 then M.Int
    else if b == 108 then M.List
    else if b == 100 then M.Dict
    else if b == 101 then M.End
    else if b == 58 then M.Colon
    else if b == 45 then M.Minus
    else if nat_le 48 b && nat_le b 57 then M.Digit (b - 48)
    else M.Other
