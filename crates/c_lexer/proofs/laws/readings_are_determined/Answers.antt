use Rattle.c_lexer.proofs.Files.{same_tokens, same_fault, tokens_or_fault}
use Rattle.c_lexer.proofs.laws.readings_are_determined.Goals as goal

pub returns : goal.returns
returns c = record { tokens = same_tokens; fault = same_fault; apart = tokens_or_fault }
