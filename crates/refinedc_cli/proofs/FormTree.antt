-- Tokens of the one form have a tree: whatever their texts and places are, the grammar reads them as a function with its
-- attributes, whose body returns the literal.
use Rattle.std.proofs.Common.{◌≡◌, ℕ, zero, suc, ◌+◌, ◌≤◌, List, [], ◌∷◌, ◌++◌, map, Some, refl, sym, ap, ◌∙◌, subst, arith, rules, max}
use Rattle.rc_text.specs.declared.place.Place.{Place}
use Rattle.c_lexer.specs.declared.token.Token.{Token}
use Rattle.c_lexer.specs.declared.token.TokenKind.{TokenKind}
use Rattle.c_lexer.specs.declared.tokens.Include.{Include}
use Rattle.c_lexer.specs.TokenLists.{TokenLists}
use Rattle.c_syntax.specs.declared.attribute.Attribute.{Attribute}
use Rattle.c_syntax.specs.declared.expr.Expr.{Expr}
use Rattle.c_syntax.specs.declared.expr.ExprKind.TheVariants as expressions
use Rattle.c_syntax.specs.declared.specifier.IntegerType.TheVariants as types
use Rattle.c_syntax.specs.declared.specifier.TypeSpecifier.TheVariants as specifiers
use Rattle.c_syntax.specs.declared.stmt.Stmt.{Stmt}
use Rattle.c_syntax.specs.declared.stmt.StmtKind.{the_lemmas}
use Rattle.c_syntax.specs.declared.expr.ExprKind.{the_lemmas as expression_lemmas}
use Rattle.c_syntax.specs.declared.stmt.StmtKind.TheVariants as statements
use Rattle.c_syntax.specs.declared.unit.Item.{Item}
use Rattle.c_syntax.specs.declared.unit.ItemKind.TheVariants as items
use Rattle.c_syntax.specs.declared.unit.Unit as unit
use Rattle.c_syntax.specs.Depth.{unit_depth, statement_depth, specifier_depth, expression_depth}
use Rattle.c_grammar.specs.Attributes.{string, Texts, Clause, Single, Group, Attributes, quoted, kept}
use Rattle.c_grammar.specs.Attributes as attributes
use Rattle.c_grammar.specs.Declarations as declarations
use Rattle.c_grammar.specs.Expressions as grammar
use Rattle.c_grammar.specs.Grammar.{Derives, Items, Body, ItemKindRead, bare_statement}
use Rattle.c_grammar.specs.Grammar as files
use Rattle.c_grammar.specs.Input.{mark, identifier}
use Rattle.c_grammar.specs.Operators.{start}
use Rattle.c_grammar.specs.Specifiers as specified
use Rattle.c_grammar.specs.Specifiers.{word, type_start}
use Rattle.c_grammar.specs.Statements as stated
use Rattle.c_grammar.specs.Statements.{keyword, place_of, outermost}
use Rattle.refinedc_cli.specs.declared.one_literal.OneLiteral.{OneLiteral}
use Rattle.refinedc_cli.specs.FrontEnd.{IsTreeOf}
use Rattle.refinedc_cli.specs.OneLiteral.{decimal_constant, form_kinds, IsOneLiteral}

-- tokens of these kinds, with these texts and places
spelled : (ℕ → List ℕ) → (ℕ → Place) → List TokenKind → List Token
spelled text place [] = []
spelled text place (kind ∷ kinds) =
    record { kind = kind; text = text 0; place = place 0 } ∷ spelled (λ i. text (suc i)) (λ i. place (suc i)) kinds

-- the texts and places of tokens, by their number
record Spelled (tokens : List Token) : Type 0 where
  text : ℕ → List ℕ
  place : ℕ → Place
  are : tokens ≡ spelled text place (map (λ token. token.kind) tokens)

text_behind : List ℕ → (ℕ → List ℕ) → ℕ → List ℕ
text_behind first others zero = first
text_behind first others (suc i) = others i

place_behind : Place → (ℕ → Place) → ℕ → Place
place_behind first others zero = first
place_behind first others (suc i) = others i

spelled_tokens : (tokens : List Token) → Spelled tokens
unfolding spelled text_behind place_behind
spelled_tokens [] = record { text = λ i. []; place = λ i. record { byte = 0; line = 0; column = 0 }; are = refl }
spelled_tokens (token ∷ tokens) =
    let others = spelled_tokens tokens in record {
      text = text_behind token.text others.text;
      place = place_behind token.place others.place;
      are = ap (λ (more : List Token). token ∷ more) others.are;
    }

module _ (text : ℕ → List ℕ) (place : ℕ → Place) (returned : ℕ) where
  -- the literal, and the statement that returns it
  form_literal : Expr
  form_literal = record { place = place 17; kind = expressions.Integer (decimal_constant returned) }

  form_return : Stmt
  form_return = record { place = place 16; labels = []; attributes = []; kind = statements.Return (Some form_literal) }

  -- the body of the function
  form_body : Stmt
  form_body = bare_statement (place 15) (statements.Compound (form_return ∷ []))

  -- the attributes before it
  form_attributes : List Attribute
  form_attributes =
      kept (record { place = place 2; text = text 2 }) (record { place = place 4; text = text 4 })
      (record { place = place 6; text = quoted (text 6) } ∷ []) ++ []

  form_item : Item
  unfolding form_body form_attributes
  form_item = record {
    place = place 10;
    attributes = form_attributes;
    kind = items.Function (record {
      specifier = specifiers.Integer types.Int;
      declarator = record { pointers = 0; name = record { place = place 11; text = text 11 }; parameters = [] };
      body = form_body;
    });
  }

  -- they are the tree of the tokens
  form_read : Items (record { tokens = spelled text place (form_kinds returned); names = [] }) (form_item ∷ [])
  unfolding spelled form_body form_attributes form_item form_return form_literal mark identifier string keyword place_of start word type_start
  form_read =
      files.more
      (attributes.Attributes.more refl refl (Group.last (Single.prefixed refl refl refl (Clause.some refl (Texts.last refl refl))) refl refl) attributes.Attributes.none)
      refl
      (files.function
      (declarations.specified (grammar.integer_words (specified.Words.more refl specified.Words.none) refl)) refl refl
      (declarations.function_declarator specified.Pointers.none refl refl (declarations.Parameters.void refl refl)) refl
      (files.body refl refl (stated.stated_child
      (stated.statement attributes.Attributes.none refl (stated.return refl (stated.Optional.given
      (grammar.looser (grammar.looser (grammar.looser (grammar.looser (grammar.looser (grammar.looser (grammar.looser (grammar.looser (grammar.looser (grammar.looser (grammar.looser (grammar.looser (grammar.looser (grammar.looser (grammar.looser (grammar.integer refl))))))))))))))))) refl)) (stated.no_child refl))))
      (files.none refl)

  literal_depth : expression_depth form_literal ≡ 1
  unfolding form_literal
  literal_depth = search (rules, expression_lemmas)

  int_depth : specifier_depth (specifiers.Integer types.Int) ≡ 1
  int_depth = search (rules, expression_lemmas)

  return_depth : statement_depth form_return ≡ max (1 + expression_depth form_literal) 1
  unfolding form_return
  return_depth = search (rules, the_lemmas)

  body_depth : statement_depth form_body ≡ max (1 + max (statement_depth form_return) 0) 1
  unfolding form_body
  body_depth = search (rules, the_lemmas)

  form_shallow : (includes : List Include) → unit_depth (record { includes = includes; items = form_item ∷ [] }) ≤ 200
  unfolding form_item
  form_shallow includes = omega (arith, int_depth, body_depth, return_depth, literal_depth)

spelled_tree : (text : ℕ → List ℕ) (place : ℕ → Place) (returned : ℕ) (includes : List Include) (end : Place)
    → (tree : unit.Unit) × IsTreeOf (record { tokens = spelled text place (form_kinds returned); includes = includes; end = end }) tree
spelled_tree text place returned includes end = (
  record { includes = includes; items = form_item text place returned ∷ [] },
  record {
    derived = record { includes = refl; items = form_read text place returned };
    shallow = form_shallow text place returned includes;
  },
)

-- tokens of the form have a tree
pub form_tree : (lists : TokenLists) (form : OneLiteral) → IsOneLiteral lists.tokens form → (tree : unit.Unit) × IsTreeOf lists tree
form_tree lists form is =
    let them = spelled_tokens lists.tokens in
    let same : spelled them.text them.place (form_kinds form.returned) ≡ lists.tokens =
    ap (λ (kinds : List TokenKind). spelled them.text them.place kinds) (sym is.kinds) ∙ sym them.are in
    subst (λ (tokens : List Token). (tree : unit.Unit) × IsTreeOf (record { tokens = tokens; includes = lists.includes; end = lists.end }) tree) same
    (spelled_tree them.text them.place form.returned lists.includes lists.end)
