use Rattle.std.proofs.Common.{subst}
use Rattle.c_lexer.specs.Scanning.Reading.{Answers}
use Rattle.c_lexer.proofs.Readings.{answers_found, answers_fault, answers_many, only_tokens, only_fault, only_many}
use Rattle.c_lexer.proofs.lexer.lex.Goals as goal

pub returns : goal.returns
returns c =
    let bytes = c.args.bytes.now in
    let result = c.read_all.result in
    let answers = subst (λ b. Answers b result) c.as_slice.ensures c.read_all.ensures in
    record {
      found = answers_found bytes result answers;
      faulty = answers_fault bytes result answers;
      many = answers_many bytes result answers;
      only_tokens = only_tokens bytes result answers;
      only_fault = only_fault bytes result answers;
      only_many = only_many bytes result answers;
    }
