-- How an attribute behind its prefix is read (inner).
use Rattle.std.specs.Prelude.{ℕ, List, [], ◌∷◌, Some, option_and_then, codes, if◌then◌else◌}
use Rattle.std.specs.Str.{bytes_eq}
use Rattle.rc_text.specs.declared.place.Place.{Place}
use Rattle.c_syntax.specs.declared.attribute.Attribute.{Attribute}
use Rattle.c_syntax.specs.declared.attribute.AttributeText.{AttributeText}
use Rattle.c_grammar.specs.Input.{identifier}
use Rattle.c_grammar.specs.Reading.{Reader, onward, clause}

-- an attribute under this prefix, where it is kept
abbrev pub kept_under : List ℕ → Place → List ℕ → List AttributeText → List Attribute
kept_under prefix place name texts =
    if bytes_eq prefix (codes "rc") then record { place = place; name = name; texts = texts } ∷ [] else []

-- behind the `::`
unfoldable pub prefixed : List ℕ → Reader (List Attribute)
prefixed prefix inner = option_and_then (λ second. onward (clause second.rest) λ texts to.
    Some (kept_under prefix second.name.place second.name.text texts, to)) (identifier inner)
