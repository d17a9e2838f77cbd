-- What is written to the two streams (this project's own).
use Rattle.std.specs.Prelude.{ℕ, List, [], ◌∷◌, ◌++◌, map, codes, Option, Some, None}
use Rattle.std.specs.Fmt.{decimal}
use Rattle.rc_text.specs.declared.place.Place.{Place}
use Rattle.rc_text.specs.Lines.{text_of}
use Rattle.c_lexer.specs.declared.fault.LexFaultKind.TheVariants.{BadByte, OpenComment, OpenString, BadNumber}
use Rattle.c_lexer.specs.declared.fault.LexFaultKind.TheVariants.{Directive}
use Rattle.c_cursor.specs.Refusals.{left_out_text}
use Rattle.refinedc_cli.specs.declared.limit.Limit.{Limit}
use Rattle.refinedc_cli.specs.declared.listing.Certificate.{Certificate}
use Rattle.refinedc_cli.specs.declared.listing.Certificate.TheVariants.{Trivial}
use Rattle.refinedc_cli.specs.declared.listing.RuleLine.{RuleLine}
use Rattle.refinedc_cli.specs.declared.outcome.FileFault.{FileFault}
use Rattle.refinedc_cli.specs.declared.outcome.FileFault.TheVariants.{Lexical, Syntax, LeftOutForm, NotYet}
use Rattle.refinedc_cli.specs.declared.outcome.OpenGoal.{OpenGoal}
use Rattle.refinedc_cli.specs.declared.outcome.OpenGoal.TheVariants.{Unsolved}
use Rattle.refinedc_cli.specs.Limit.{limit_number, limit_name}

-- a certificate behind the number of a rule
abbrev pub certificate_text : Option Certificate → List ℕ
certificate_text None = []
certificate_text (Some Trivial) = codes " t"

-- a line of a listing
abbrev pub line_text : RuleLine → List ℕ
line_text line = decimal line.rule ++ certificate_text line.certificate

-- the lines of an accepted file, between the format's name and `accepted`
abbrev pub listing_text : List RuleLine → List ℕ
listing_text lines = text_of (codes "refinedc 1" ∷ map line_text lines ++ codes "accepted" ∷ [])

-- a place in a file, before what is said of it
abbrev pub place_text : List ℕ → Place → List ℕ
place_text name place = name ++ codes ":" ++ decimal place.line ++ codes ":" ++ decimal place.column ++ codes ": "

-- a goal that stayed open
abbrev pub goal_text : OpenGoal → List ℕ
goal_text (Unsolved left right) = codes "unsolved " ++ decimal left ++ codes " = " ++ decimal right

-- a refused file
abbrev pub refused_text : List ℕ → Place → OpenGoal → List ℕ
refused_text name place goal = codes "refused " ++ place_text name place ++ goal_text goal ++ codes "\n"

-- the kind of a fault, and the name that it has
abbrev pub fault_kind_text : FileFault → List ℕ
fault_kind_text (Lexical BadByte) = codes "BadByte"
fault_kind_text (Lexical OpenComment) = codes "OpenComment"
fault_kind_text (Lexical OpenString) = codes "OpenString"
fault_kind_text (Lexical BadNumber) = codes "BadNumber"
fault_kind_text (Lexical (Directive None)) = codes "Directive"
fault_kind_text (Lexical (Directive (Some name))) = codes "Directive " ++ name
fault_kind_text Syntax = codes "Syntax"
fault_kind_text (LeftOutForm form) = codes "Refused " ++ left_out_text form
fault_kind_text NotYet = codes "NotYet"

-- a file with a fault
abbrev pub fault_text : List ℕ → Place → FileFault → List ℕ
fault_text name place fault = place_text name place ++ fault_kind_text fault ++ codes "\n"

-- a file that can't be opened or read
abbrev pub read_fault_text : List ℕ → List ℕ
read_fault_text name = codes "read fault " ++ name ++ codes "\n"

-- a limit that was passed
abbrev pub limit_text : Limit → List ℕ
limit_text limit = codes "limit " ++ limit_name limit ++ codes " " ++ decimal (limit_number limit) ++ codes "\n"

-- words that mean no command
abbrev pub usage_text : List ℕ
usage_text = codes "usage: refinedc COMMAND FILE\n"

-- standard output failed
abbrev pub write_fault_text : List ℕ
write_fault_text = codes "write fault\n"

-- memory ran out
abbrev pub no_memory_text : List ℕ
no_memory_text = codes "no memory\n"
