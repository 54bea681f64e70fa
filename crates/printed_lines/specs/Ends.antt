-- How the end of a connection is printed. This project's own.
use Rattle.std.specs.Prelude.{ℕ, List, ◌++◌, codes}
use Rattle.std.specs.Fmt.{decimal}
use Rattle.connection_ends.specs.declared.end.End.{End}
use Rattle.connection_ends.specs.declared.end.End.TheVariants as E
use Rattle.printed_lines.specs.Faults.{talk_text, hello_text}

abbrev pub end_text : End → List ℕ
end_text E.Settled = codes "settled"
end_text E.Left = codes "left"
end_text (E.Refused fault) = codes "refused " ++ hello_text fault
end_text (E.Broken place fault) = codes "broken " ++ decimal place ++ codes " " ++ talk_text fault
end_text (E.TakenOver c) = codes "taken-over " ++ decimal c.0
end_text E.LinkFault = codes "link-fault"
end_text E.Stalled = codes "stalled"
end_text E.Flooded = codes "flooded"
end_text E.Silent = codes "silent"
end_text E.Short = codes "short"
end_text E.Unended = codes "unended"
