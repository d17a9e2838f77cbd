use Rattle.std.proofs.Common.{◌≡◌, ◌∙◌, true, rules, arith, subst, sym}
use Rattle.std.specs.Prelude.{Result}
use Rattle.std.proofs.lemmas.Grind.{common_steps}
use Rattle.std.specs.List.{list_all}
use Rattle.c_syntax.specs.Depth.{item_depth}
use Rattle.c_grammar.specs.Grammar.{is_named}
use Rattle.c_cursor.specs.Deep.{ReadsDeep}
use Rattle.c_parser.proofs.Functions.{ended_by, alone_by}
use Rattle.c_parser.proofs.items.functions.Goals as goal

pub returns-in-Some : goal.returns-in-Some
returns-in-Some c =
    let all : list_all (λ parameter. is_named parameter.declarator) c.in_ok-first.first.tree.parameters ≡ true = grind (arith, common_steps) in (
      ended_by _ _ _ _ _ _ _ _ _ _ _ _ _ _ c.in_ok-first.ensures.0
          (c.as_slice-2.ensures ∙ c.in_ok-name.ensures ∙ c.as_slice.ensures) c.in_ok-declare.ensures c.in-Some.ensures.0
          c.in-Some.ensures.1 all c.skip.ensures c.in_ok-item-in-Some.ensures.0 c.scope-scope.ensures c.leave.ensures
          (c.as_slice-in-Some-2.ensures ∙ c.in_ok-name.ensures ∙ c.as_slice.ensures) c.in_ok-declare-in-Some.ensures,
      c.in_ok-item-in-Some.ensures.1,
    )

pub returns : goal.returns
returns c = subst (λ reading. ReadsDeep item_depth reading c.functions_behind.result c.functions_behind.new.cursor)
    (sym (alone_by _ _ _ _ _ _ _ _ _ _ c.in_ok-first.ensures.0
    (c.as_slice-2.ensures ∙ c.in_ok-name.ensures ∙ c.as_slice.ensures) c.in_ok-declare.ensures c.in-None.ensures
    c.scope-scope.ensures c.leave-in-None.ensures
    (c.as_slice-in-None.ensures ∙ c.in_ok-name.ensures ∙ c.as_slice.ensures) c.in_ok-declare-in-None.ensures))
    c.functions_behind.ensures
