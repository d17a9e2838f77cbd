use Rattle.std.proofs.Common.{sym, ◌∙◌, subst, drop}
use Rattle.std.specs.List.{slice_range}
use Rattle.std.proofs.lemmas.Bool.{false≢true}
use Rattle.std.proofs.lemmas.Slice.Eq.{bytes_eq-Decides}
use Rattle.c_lexer.specs.declared.token.TokenKind.TheVariants as kinds
use Rattle.c_lexer.specs.Directives.{TokenBehindGap}
use Rattle.c_lexer.proofs.DirectiveScans.{include_found, define_found, no_directive, no_word}
use Rattle.c_lexer.proofs.directive.directive_body.Goals as goal

pub returns-then-eq : goal.returns-then-eq
returns-then-eq c =
    let bytes = c.args.bytes.now in
    let word = c.in-Some.word in
    let token = subst (λ k. TokenBehindGap bytes k (slice_range bytes word.start word.end) (drop word.end bytes)) c.in-Some.ensures.0 c.in-Some.ensures.1.2 in
    let is = (bytes_eq-Decides (slice_range bytes word.start word.end) c.as_slice.result.now).0 (sym c.eq.ensures ∙ c.if-eq.true) ∙ c.as_slice.ensures in
    include_found bytes word.end c.include_body.result (subst (λ t. TokenBehindGap bytes kinds.Identifier t (drop word.end bytes)) is token) c.include_body.ensures

pub returns-then-eq-2 : goal.returns-then-eq-2
returns-then-eq-2 c =
    let bytes = c.args.bytes.now in
    let word = c.in-Some.word in
    let token = subst (λ k. TokenBehindGap bytes k (slice_range bytes word.start word.end) (drop word.end bytes)) c.in-Some.ensures.0 c.in-Some.ensures.1.2 in
    let is = (bytes_eq-Decides (slice_range bytes word.start word.end) c.as_slice-else-eq.result.now).0 (sym c.eq-else-eq.ensures ∙ c.if-eq-2.true) ∙ c.as_slice-else-eq.ensures in
    define_found bytes word.end c.define_body.result (subst (λ t. TokenBehindGap bytes kinds.Identifier t (drop word.end bytes)) is token) c.define_body.ensures

pub returns-else-eq-2 : goal.returns-else-eq-2
returns-else-eq-2 c =
    let bytes = c.args.bytes.now in
    let word = c.in-Some.word in
    let text = slice_range bytes word.start word.end in
    let token = subst (λ k. TokenBehindGap bytes k text (drop word.end bytes)) c.in-Some.ensures.0 c.in-Some.ensures.1.2 in
    no_directive bytes text (drop word.end bytes) token
    (λ same. false≢true (sym c.if-eq.false ∙ c.eq.ensures ∙ (bytes_eq-Decides text c.as_slice.result.now).1 (same ∙ sym c.as_slice.ensures)))
    (λ same. false≢true (sym c.if-eq-2.false ∙ c.eq-else-eq.ensures ∙ (bytes_eq-Decides text c.as_slice-else-eq.result.now).1 (same ∙ sym c.as_slice-else-eq.ensures)))

pub returns-in-None : goal.returns-in-None
returns-in-None c = no_word c.args.bytes.now c.in-None.ensures
