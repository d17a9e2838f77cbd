-- What a function that reads promises: the tree that the reading function gives and what is left behind it, and an
-- error only where the reading function gives none, want of memory aside.
use Rattle.std.specs.Prelude.{◌≡◌, Option, Some, None, Result, Ok, Err}
use Rattle.c_cursor.specs.declared.refusal.ParseRefusal.{ParseRefusal}
use Rattle.c_cursor.specs.declared.refusal.ParseRefusal.TheVariants as refusals
use Rattle.c_syntax.specs.declared.attribute.AttributeText.{AttributeText}
use Rattle.c_syntax.specs.declared.name.Name.{Name}
use Rattle.c_grammar.specs.Attributes.{ReadText}
use Rattle.c_grammar.specs.Input.{Input, Named}
use Rattle.c_grammar.specs.Reading.{Reading}

-- an error that says why nothing is read: not want of memory
abbrev pub IsRefusal : ParseRefusal → Type 0
IsRefusal refusals.NoMemory = ⊥
IsRefusal _ = Unit {0}

-- the error comes where P holds, or memory ran out
abbrev pub OnlyWhere : Type 0 → ParseRefusal → Type 0
OnlyWhere P refusals.NoMemory = Unit {0}
OnlyWhere P _ = P

-- what the reading function gives is answered, with the input behind it
abbrev pub Reads : {A : Type 0} → Reading A → Result A ParseRefusal → Input → Type 0
Reads reading (Ok x) new = reading ≡ Some (x, new)
Reads reading (Err refusal) new = OnlyWhere (reading ≡ None) refusal

-- the same of a step that only goes on
abbrev pub Expects : Option Input → Result (Unit {0}) ParseRefusal → Input → Type 0
Expects found (Ok _) new = found ≡ Some new
Expects found (Err refusal) new = OnlyWhere (found ≡ None) refusal

-- the same of an identifier
abbrev pub ReadsName : Option Named → Result Name ParseRefusal → Input → Type 0
ReadsName found (Ok name) new = found ≡ Some (record { name = name; rest = new })
ReadsName found (Err refusal) new = OnlyWhere (found ≡ None) refusal

-- the same of a string
abbrev pub ReadsText : Option ReadText → Result AttributeText ParseRefusal → Input → Type 0
ReadsText found (Ok text) new = found ≡ Some (record { text = text; rest = new })
ReadsText found (Err refusal) new = OnlyWhere (found ≡ None) refusal

-- this is answered, or memory ran out
abbrev pub Keeps : {A : Type 0} → A → Result A ParseRefusal → Type 0
Keeps x (Ok y) = y ≡ x
Keeps x (Err refusal) = OnlyWhere ⊥ refusal
