-- What the next token is where it is a keyword, and that something is left behind.
use denote.Enum.Bare.{sameb, same_true}
use Rattle.std.proofs.Common.{◌≡◌, ℕ, suc, Bool, true, false, List, Some, None, sym, refl, ap, ◌∙◌}
use Rattle.std.proofs.lemmas.Bool.{false≢true}
use Rattle.std.proofs.lemmas.Option.{none-some, same_Some}
use Rattle.c_lexer.specs.declared.token.TokenKind.{TokenKind}
use Rattle.c_lexer.specs.declared.token.TokenKind.TheVariants as kinds
use Rattle.c_lexer.specs.declared.punctuator.Punctuator.{Punctuator}
use Rattle.c_lexer.specs.declared.keyword.Keyword.{Keyword}
use Rattle.c_lexer.specs.contracts.keyword.Keyword as keyword_type
use Rattle.c_grammar.specs.Names.{Word, word_of}
use Rattle.c_grammar.specs.Marks.{is_keyword}
use Rattle.c_grammar.specs.Input.{Input, Taken, next, taken_if, mark}
use Rattle.c_grammar.specs.Operators.{Started, start, start_by}
use Rattle.c_grammar.specs.Specifiers.{type_keyword, type_start}
use Rattle.c_grammar.specs.Statements.{keyword}
use Rattle.c_grammar.specs.Reading.{turns, begins_type, is_type}
use Rattle.c_grammar.proofs.Steps.{into}
use Rattle.c_grammar.proofs.Terminals.{next-turns, marked, begins}
use Rattle.c_grammar.proofs.TypesRead.{is_start, none_too}

is_keyword-kind : (word : Keyword) (kind : TokenKind) → is_keyword word kind ≡ true → kind ≡ kinds.Keyword word
is_keyword-kind word (kinds.Keyword other) e = ap kinds.Keyword (sym (same_true keyword_type.the_type tt word other e))
is_keyword-kind word _ e = absurd (false≢true e)

-- what is known where a keyword was taken
pub record Worded (word : Keyword) (from to : Input) : Type 0 where
  pub taken : Taken
  pub next : next from ≡ Some taken
  pub kind : taken.token.kind ≡ kinds.Keyword word
  pub rest : taken.rest ≡ to

if-some : (b : Bool) (rest to : Input) → taken_if b rest ≡ Some to → (b ≡ true) × (rest ≡ to)
if-some true rest to e = (refl, same_Some rest to e)
if-some false rest to e = absurd (none-some to e)

pub worded : (w : Keyword) (from to : Input) → keyword w from ≡ Some to → Worded w from to
unfolding keyword
worded w from to e = into _ (next from) to e λ taken is found.
    let parts = if-some (is_keyword w taken.token.kind) taken.rest to found in
    record { taken = taken; next = is; kind = is_keyword-kind w taken.token.kind parts.0; rest = parts.1 }

pub keyword-turns : (w : Keyword) (from to : Input) → keyword w from ≡ Some to → suc (turns to) ≡ turns from
keyword-turns w from to e =
    let m = worded w from to e in ap (λ (i : Input). suc (turns i)) (sym m.rest) ∙ next-turns from m.taken m.next

-- a keyword is no other one
pub other_keyword : (w other : Keyword) (from to : Input) → keyword w from ≡ Some to → sameb keyword_type.the_type other w ≡ false
    → keyword other from ≡ None
unfolding keyword
other_keyword w other from to e differs = let m = worded w from to e in rw (m.next, m.kind, differs) refl

-- a keyword is no punctuator, and a punctuator no keyword
pub no_mark_at_keyword : (p : Punctuator) (w : Keyword) (from to : Input) → keyword w from ≡ Some to → mark p from ≡ None
unfolding mark
no_mark_at_keyword p w from to e = let m = worded w from to e in rw (m.next, m.kind) refl

pub no_keyword_at_mark : (w : Keyword) (p : Punctuator) (from to : Input) → mark p from ≡ Some to → keyword w from ≡ None
unfolding keyword
no_keyword_at_mark w p from to e = let m = marked p from to e in rw (m.next, m.kind) refl

-- a keyword that begins no type
pub no_type_at_keyword : (w : Keyword) (from to : Input) → keyword w from ≡ Some to → is_type (type_keyword w) ≡ false → begins_type from ≡ false
unfolding begins_type type_start
no_type_at_keyword w from to e none = let m = worded w from to e in rw (m.next, m.kind) none

-- a keyword that begins no expression
pub no_keyword_at_start : (w : Keyword) (from : Input) (started : Started) → start from ≡ Some started → is_start started.start ≡ true
    → ((meaning : Word) (text : List ℕ) → is_start (start_by (kinds.Keyword w) meaning text) ≡ false) → keyword w from ≡ None
no_keyword_at_start w from started e known other = none_too (keyword w from) λ to m.
    let b = begins from started e in
    let n = worded w from to m in
    let same = same_Some b.taken n.taken (sym b.next ∙ n.next) in
    let kind : b.taken.token.kind ≡ kinds.Keyword w = ap (λ (t : Taken). t.token.kind) same ∙ n.kind in
    let begin : start_by (kinds.Keyword w) (word_of from.names b.taken.token) b.taken.token.text ≡ started.start =
    ap (λ k. start_by k (word_of from.names b.taken.token) b.taken.token.text) (sym kind) ∙ b.start in
    false≢true (sym (other (word_of from.names b.taken.token) b.taken.token.text) ∙ ap is_start begin ∙ known)

-- a keyword that begins no type stands where none begins
pub no_keyword_at_type : (w : Keyword) (from : Input) → begins_type from ≡ true → is_type (type_keyword w) ≡ false → keyword w from ≡ None
no_keyword_at_type w from known none = none_too (keyword w from) λ to m.
    false≢true (sym (no_type_at_keyword w from to m none) ∙ known)

-- no type at a punctuator
pub no_type_at_mark : (p : Punctuator) (from to : Input) → mark p from ≡ Some to → begins_type from ≡ false
unfolding begins_type type_start
no_type_at_mark p from to e = let m = marked p from to e in rw (m.next, m.kind) refl

-- a punctuator stands where no type begins
pub no_mark_at_begun : (p : Punctuator) (from : Input) → begins_type from ≡ true → mark p from ≡ None
no_mark_at_begun p from known = none_too (mark p from) λ to m. false≢true (sym (no_type_at_mark p from to m) ∙ known)
