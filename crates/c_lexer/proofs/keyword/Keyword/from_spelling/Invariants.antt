use Rattle.std.proofs.Common.{◌≡◌, ◌≤◌, get_or}
use Rattle.c_lexer.specs.declared.keyword.Keyword.{Keyword}
use Rattle.c_lexer.specs.Scanning.Keywords.{keywords_from}
use Rattle.c_lexer.specs.Keyword.{keyword_text}
use Rattle.c_lexer.proofs.Keywords.{place_of}
use Rattle.c_lexer.proofs.keyword.Keyword.from_spelling.Given as goal

abbrev pub invariant-loop-keyword : goal.invariant-loop-keyword
invariant-loop-keyword l = record {
  all : l.keyword-items ≡ keywords_from (get_or l.word 0 0);
  passed : (keyword : Keyword) → l.word ≡ keyword_text keyword → l.keyword-index ≤ place_of keyword;
}
