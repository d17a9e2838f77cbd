use Rattle.std.specs.Prelude.{codes}
use Rattle.std.proofs.Common.{◌∙◌}
use Rattle.std.specs.Str.{bytes_eq}
use Rattle.c_lexer.specs.declared.header_type.HeaderType.TheVariants as types
use Rattle.c_lexer.specs.declared.token.TokenKind.TheVariants as kinds
use Rattle.c_lexer.specs.Scanning.Names.{kind_of}
use Rattle.c_lexer.proofs.Readings.{first_of_cond, first_of_more, map_ok}
use Rattle.c_lexer.proofs.kinds.Kinds.include_stdint.Goals as goal

pub returns : goal.returns
returns c =
    map_ok c.define-8.result _ _ (λ _ last name. last name ∙ first_of_more _ _ _ _ _ (c.in_ok-define-7.ensures name ∙ first_of_more _ _ _ _ _ (c.in_ok-define-6.ensures name ∙ first_of_more _ _ _ _ _ (c.in_ok-define-5.ensures name ∙ first_of_more _ _ _ _ _ (c.in_ok-define-4.ensures name ∙ first_of_more _ _ _ _ _ (c.in_ok-define-3.ensures name ∙ first_of_more _ _ _ _ _ (c.in_ok-define-2.ensures name ∙ first_of_more _ _ _ _ _ (c.in_ok-define.ensures name ∙ first_of_cond (bytes_eq (codes "uint64_t") name) (kinds.HeaderType types.Uint64) (kind_of c.args.self.now name))))))))) c.define-8.ensures
