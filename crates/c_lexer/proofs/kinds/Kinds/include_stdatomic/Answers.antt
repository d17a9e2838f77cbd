use Rattle.std.specs.Prelude.{codes}
use Rattle.std.proofs.Common.{◌∙◌}
use Rattle.std.specs.Str.{bytes_eq}
use Rattle.c_lexer.specs.declared.atomic_operation.AtomicOperation.TheVariants as operations
use Rattle.c_lexer.specs.declared.token.TokenKind.TheVariants as kinds
use Rattle.c_lexer.specs.Scanning.Names.{kind_of}
use Rattle.c_lexer.proofs.Readings.{first_of_cond, first_of_more, map_ok}
use Rattle.c_lexer.proofs.kinds.Kinds.include_stdatomic.Goals as goal

pub returns : goal.returns
returns c =
    map_ok c.define-5.result _ _ (λ _ last name. last name ∙ first_of_more _ _ _ _ _ (c.in_ok-define-4.ensures name ∙ first_of_more _ _ _ _ _ (c.in_ok-define-3.ensures name ∙ first_of_more _ _ _ _ _ (c.in_ok-define-2.ensures name ∙ first_of_more _ _ _ _ _ (c.in_ok-define.ensures name ∙ first_of_cond (bytes_eq (codes "atomic_compare_exchange_strong") name) (kinds.AtomicOperation operations.CompareExchangeStrong) (kind_of c.args.self.now name)))))) c.define-5.ensures
