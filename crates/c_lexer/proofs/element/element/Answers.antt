use Rattle.std.proofs.Common.{◌≡◌, ◌&&◌, get_or, take, drop, sym, ◌∙◌, subst}
use Rattle.std.specs.Bool.{◌==◌}
use Rattle.std.proofs.lemmas.Bool.{and_parts, eqb-true}
use Rattle.c_lexer.specs.LongestMatch.{Begins}
use Rattle.c_lexer.proofs.Elements.{none_unread, hash_result, lexed_found}
use Rattle.c_lexer.proofs.Elements.{lexed_some}
use Rattle.c_lexer.proofs.element.element.Goals as goal

pub returns-in-Err : goal.returns-in-Err
returns-in-Err c = none_unread c.args.fresh c.args.bytes.now c.in-Err.unread (sym c.is_blank.ensures ∙ c.if-is_blank.false) c.in_default.ensures c.in-Err.ensures

pub returns-then-is_directive : goal.returns-then-is_directive
returns-then-is_directive c =
    let bytes = c.args.bytes.now in
    let n = c.in-Ok.scanned.length in
    let parts = and_parts c.args.fresh ((n == 1) && (get_or bytes 0 0 == 35)) (sym c.is_directive.ensures ∙ c.if-is_directive.true) in
    let more = and_parts (n == 1) (get_or bytes 0 0 == 35) parts.1 in
    let size : n ≡ 1 = eqb-true n 1 more.0 in
    let begins = subst (λ k. Begins bytes c.in-Ok.scanned.kind (take k bytes) (drop k bytes)) size c.in-Ok.ensures.1 in
    hash_result c.args.fresh bytes c.in-Ok.scanned.kind c.directive.result parts.0 c.requires (eqb-true (get_or bytes 0 0) 35 more.1) begins c.in_default.ensures c.directive.ensures

pub returns-else-is_directive : goal.returns-else-is_directive
returns-else-is_directive c =
    let bytes = c.args.bytes.now in
    let scanned = c.in-Ok.scanned in (
      lexed_some bytes scanned.kind scanned.length c.in-Ok.ensures.0 c.in-Ok.ensures.1,
      c.in-Ok.ensures.0,
      tt,
      lexed_found c.args.fresh bytes scanned.kind scanned.length c.in-Ok.ensures.0 c.in-Ok.ensures.1 (sym c.is_directive.ensures ∙ c.if-is_directive.false),
    )
