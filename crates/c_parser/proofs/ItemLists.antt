-- The definitions and declarations of a file, one after another.
use Rattle.std.proofs.Common.{◌≡◌, ℕ, suc, ◌+◌, ◌-◌, ◌<◌, ◌≤◌, List, [], ◌∷◌, ◌++◌, Option, Some, None, option_and_then, refl, sym, ap, ◌∙◌, append_assoc, arith}
use Rattle.std.specs.Prelude.{option_map}
use Rattle.std.proofs.lemmas.List.{append-nil}
use Rattle.rc_text.specs.declared.place.Place.{Place}
use Rattle.c_syntax.specs.declared.attribute.Attribute.{Attribute}
use Rattle.c_syntax.specs.declared.unit.Item.{Item}
use Rattle.c_syntax.specs.declared.unit.ItemKind.{ItemKind}
use Rattle.c_grammar.specs.Input.{Input, Taken, next}
use Rattle.c_grammar.specs.Statements.{place_of}
use Rattle.c_grammar.specs.Reading.{Reading, onward, attributes}
use Rattle.c_grammar.specs.FileReading.{item, items_from}
use Rattle.c_parser.specs.Items.{one_item}

-- what was found before, and what is found then
abbrev pub after : List Item → Option (List Item) → Option (List Item)
after found rest = option_map (λ more. found ++ more) rest

-- an item of these parts
whole : List Attribute → Place → ItemKind → Item
whole list place kind = record { place = place; attributes = list; kind = kind }

by_kind : (list : List Attribute) (place : Place) (k : Reading ItemKind) (goes : Item → Input → Option (List Item))
    → onward k (λ kind rest. goes (whole list place kind) rest)
    ≡ onward (onward k (λ kind to. Some (whole list place kind, to))) goes
by_kind list place None goes = refl
by_kind list place (Some k) goes = refl

by_place : (list : List Attribute) (start : Input) (p : Option Place) (goes : Item → Input → Option (List Item))
    → option_and_then (λ place. onward (item 200 start) λ kind rest. goes (whole list place kind) rest) p
    ≡ onward (option_and_then (λ place. onward (item 200 start) λ kind to. Some (whole list place kind, to)) p) goes
by_place list start None goes = refl
by_place list start (Some place) goes = by_kind list place (item 200 start) goes

by_attributes : (a : Reading (List Attribute)) (goes : Item → Input → Option (List Item))
    → onward a (λ list start. option_and_then (λ place. onward (item 200 start) λ kind rest. goes (whole list place kind) rest) (place_of start))
    ≡ onward (onward a (λ list start. option_and_then (λ place. onward (item 200 start) λ kind to. Some (whole list place kind, to)) (place_of start))) goes
by_attributes None goes = refl
by_attributes (Some a) goes = by_place a.0 a.1 (place_of a.1) goes

-- an item, and then the others
pub one_then : (left : ℕ) (from : Input) (taken : Taken) → next from ≡ Some taken
    → items_from 200 (suc left) from ≡ onward (one_item from) (λ one rest. option_map (λ others. one ∷ others) (items_from 200 left rest))
unfolding items_from one_item whole
one_then left from taken e = rw e (by_attributes (attributes from) (λ one rest. option_map (λ others. one ∷ others) (items_from 200 left rest)))

pub at_end : (left : ℕ) (from : Input) → next from ≡ None → items_from 200 (suc left) from ≡ Some []
unfolding items_from
at_end left from e = rw e refl

pub no_turns : (from : Input) → items_from 200 0 from ≡ None
unfolding items_from
no_turns from = refl

-- one more found before
pub after-one : (found : List Item) (one : Item) (rest : Option (List Item))
    → after found (option_map (λ others. one ∷ others) rest) ≡ after (found ++ one ∷ []) rest
after-one found one None = refl
after-one found one (Some rest) = ap (λ list. Some list) (sym (append_assoc found (one ∷ []) rest))

pub after-first : (rest : Option (List Item)) → rest ≡ after [] rest
after-first None = refl
after-first (Some rest) = refl

-- where a turn is left
pub turn_left : {n at : ℕ} → at < n → n - at ≡ suc (n - (at + 1))
turn_left below = omega arith

-- the steps of the loop
pub goes_on : (whole_file : Option (List Item)) (found : List Item) (n at : ℕ) (from rest : Input) (taken : Taken) (one : Item) → at < n
    → whole_file ≡ after found (items_from 200 (n - at) from) → next from ≡ Some taken → one_item from ≡ Some (one, rest)
    → whole_file ≡ after (found ++ one ∷ []) (items_from 200 (n - (at + 1)) rest)
goes_on file found n at from rest taken one below e t o =
    e ∙ ap (λ turns. after found (items_from 200 turns from)) (turn_left below)
    ∙ ap (after found) (one_then (n - (at + 1)) from taken t)
    ∙ ap (λ (r : Reading Item). after found (onward r (λ one rest. option_map (λ others. one ∷ others) (items_from 200 (n - (at + 1)) rest)))) o
    ∙ after-one found one (items_from 200 (n - (at + 1)) rest)

pub stops : (file : Option (List Item)) (found : List Item) (n at : ℕ) (from : Input) (taken : Taken) → at < n
    → file ≡ after found (items_from 200 (n - at) from) → next from ≡ Some taken → one_item from ≡ None → file ≡ None
stops file found n at from taken below e t o =
    e ∙ ap (λ turns. after found (items_from 200 turns from)) (turn_left below)
    ∙ ap (after found) (one_then (n - (at + 1)) from taken t)
    ∙ ap (λ (r : Reading Item). after found (onward r (λ one rest. option_map (λ others. one ∷ others) (items_from 200 (n - (at + 1)) rest)))) o

pub ends : (file : Option (List Item)) (found : List Item) (n at : ℕ) (from : Input) → at < n
    → file ≡ after found (items_from 200 (n - at) from) → next from ≡ None → file ≡ Some found
ends file found n at from below e t =
    e ∙ ap (λ turns. after found (items_from 200 turns from)) (turn_left below)
    ∙ ap (after found) (at_end (n - (at + 1)) from t) ∙ ap (λ list. Some list) (append-nil found)

pub runs_out : (file : Option (List Item)) (found : List Item) (n at : ℕ) (from : Input) → n ≤ at
    → file ≡ after found (items_from 200 (n - at) from) → file ≡ None
runs_out file found n at from done e =
    let none : n - at ≡ 0 = omega arith in
    e ∙ ap (λ turns. after found (items_from 200 turns from)) none ∙ ap (after found) (no_turns from)
