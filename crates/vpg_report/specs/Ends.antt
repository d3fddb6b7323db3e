-- The status that the program ends with.
use Rattle.std.specs.Prelude.{ℕ, List, ◌++◌, Result, Ok, Err, codes}
use Rattle.std.specs.Fmt.{decimal}
use Rattle.vpg_report.specs.declared.ending.End.{End}
use Rattle.vpg_report.specs.declared.ending.End.TheVariants as ends
use Rattle.vpg_family.specs.declared.fault.Fault.{Fault}
use Rattle.vpg_script.specs.declared.serving.Ending.{Ending}
use Rattle.vpg_script.specs.declared.serving.Ending.TheVariants as endings

-- the program's end after this end of a script
abbrev pub ended : Ending → End
ended endings.Whole = ends.Done
ended endings.Failed = ends.Failed
ended (endings.Refused n) = ends.Refused n

-- 1 if it fails, 2 if the words are wrong, 3 if a line of a strict script was refused or an assertion failed
abbrev pub status_of : Result End Fault → ℕ
status_of (Ok ends.Done) = 0
status_of (Ok (ends.Refused n)) = 3
status_of (Ok ends.Failed) = 3
status_of (Ok ends.WrongWords) = 2
status_of (Err fault) = 1

-- the message about a strict script that was refused at line n
abbrev pub refused_text : ℕ → List ℕ
refused_text n = codes "vpgdesk: script Line " ++ decimal n ++ codes " Refused\n"
