-- Comments, and blanks and comments in a row: what begins some bytes is one thing.
use Rattle.std.proofs.Common.{◌≡◌, ℕ, suc, ◌+◌, ◌<◌, ◌≤◌, true, false, not, eqb, List, [], ◌∷◌, ◌++◌, length, get_or, take, drop, sym, refl, ap, ◌∙◌, subst, inl, inr, ⊎_elim, arith, ◌⊎◌}
use Rattle.std.specs.List.{list_all, prefix_len}
use Rattle.std.proofs.lemmas.Bool.{cases_lt}
use Rattle.std.proofs.lemmas.Bool.Decides.{nat_tests}
use Rattle.std.proofs.lemmas.List.{length-take-le, take-append-drop, get_or-take, drop_more, drop_all, append-nil}
use Rattle.std.proofs.lemmas.List.Prefix.{front_fits, front_reads}
use Rattle.std.proofs.lemmas.List.Sums.{prefix_len-le-length, prefix_len_stops}
use Rattle.c_lexer.specs.Bytes.{is_blank, is_line_byte}
use Rattle.c_lexer.specs.Comments.{is_line_end, ClosesAt, IsBlockComment, IsLineComment, CommentBegins, GapBegins, IsGap, IsBehindGap}
use Rattle.c_lexer.proofs.Lists.{same_fronts, prefix_len_at, prefix_len_all, list_all-take_prefix}

-- how a comment begins
pub record LooksComment (bytes text rest : List ℕ) : Type 0 where
  pub long : 2 ≤ length bytes
  pub slash : get_or bytes 0 0 ≡ 47
  pub second : ((get_or bytes 1 0 ≡ 42) × IsBlockComment text) ⊎ ((get_or bytes 1 0 ≡ 47) × (IsLineComment text × (is_line_end rest ≡ true)))

pub looks_comment : (bytes text rest : List ℕ) → CommentBegins bytes text rest → LooksComment bytes text rest
looks_comment bytes text rest begins =
    let fits = front_fits bytes text rest begins.0 in
    ⊎_elim
    (λ block. record {
      long = omega (arith, block.ends, block.inside, fits);
      slash = front_reads 0 bytes text rest begins.0 0 (omega (arith, block.ends)) ∙ block.begins.0;
      second = inl (front_reads 0 bytes text rest begins.0 1 (omega (arith, block.ends)) ∙ block.begins.1, block);
    })
    (λ line.
    let size : 2 ≤ length text = omega (arith, ap length line.0.2) in
    record {
      long = omega arith;
      slash = front_reads 0 bytes text rest begins.0 0 (omega arith) ∙ ap (λ l. get_or l 0 0) line.0.2;
      second = inr (front_reads 0 bytes text rest begins.0 1 (omega arith) ∙ ap (λ l. get_or l 1 0) line.0.2, line);
    })
    begins.1

pub block_found : (bytes : List ℕ) (place : ℕ) → 2 ≤ place → place + 2 ≤ length bytes → get_or bytes 0 0 ≡ 47 → get_or bytes 1 0 ≡ 42 → ClosesAt bytes place
    → ((earlier : ℕ) → 2 ≤ earlier → earlier < place → ClosesAt bytes earlier → ⊥) → CommentBegins bytes (take (place + 2) bytes) (drop (place + 2) bytes)
block_found bytes place low high slash star closes first = (
  sym (take-append-drop (place + 2) bytes),
  inl (record {
    closing = place;
    begins = (get_or-take (place + 2) bytes 0 0 (omega arith) ∙ slash, get_or-take (place + 2) bytes 1 0 (omega arith) ∙ star);
    ends = length-take-le (place + 2) bytes high;
    inside = low;
    closed = (get_or-take (place + 2) bytes place 0 (omega arith) ∙ closes.0, get_or-take (place + 2) bytes (place + 1) 0 (omega arith) ∙ closes.1);
    first = λ earlier more less at. first earlier more less (sym (get_or-take (place + 2) bytes earlier 0 (omega arith)) ∙ at.0, sym (get_or-take (place + 2) bytes (earlier + 1) 0 (omega arith)) ∙ at.1);
  }),
)

-- the closing of a block comment, in the bytes that it begins
pub record Closing (bytes text : List ℕ) : Type 0 where
  pub place : ℕ
  pub low : 2 ≤ place
  pub size : length text ≡ place + 2
  pub high : place + 2 ≤ length bytes
  pub closes : ClosesAt bytes place
  pub first : (earlier : ℕ) → 2 ≤ earlier → earlier < place → ClosesAt bytes earlier → ⊥

pub closing_of : (bytes text rest : List ℕ) → bytes ≡ text ++ rest → IsBlockComment text → Closing bytes text
closing_of bytes text rest split block =
    let at : (k : ℕ) → k < length text → get_or bytes k 0 ≡ get_or text k 0 = λ k below. front_reads 0 bytes text rest split k below in
    record {
      place = block.closing;
      low = block.inside;
      size = block.ends;
      high = omega (arith, block.ends, front_fits bytes text rest split);
      closes = (at block.closing (omega (arith, block.ends)) ∙ block.closed.0, at (block.closing + 1) (omega (arith, block.ends)) ∙ block.closed.1);
      first = λ earlier more less closes. block.first earlier more less (sym (at earlier (omega (arith, block.ends))) ∙ closes.0, sym (at (earlier + 1) (omega (arith, block.ends))) ∙ closes.1);
    }

line_feed : (b : ℕ) → is_line_byte b ≡ false → eqb b 10 ≡ true
line_feed b other = grind (arith, nat_tests)

-- the length of a line comment
line_size : (bytes text rest : List ℕ) → bytes ≡ text ++ rest → IsLineComment text → is_line_end rest ≡ true → length text ≡ prefix_len is_line_byte bytes
line_size bytes text [] split line end =
    let all : list_all is_line_byte text ≡ true = ap (list_all is_line_byte) line.2 ∙ line.1 in
    let whole : bytes ≡ text = split ∙ append-nil text in
    sym (ap (prefix_len is_line_byte) whole ∙ prefix_len_all is_line_byte text all)
line_size bytes text (b ∷ rest) split line end =
    let all : list_all is_line_byte text ≡ true = ap (list_all is_line_byte) line.2 ∙ line.1 in
    sym (prefix_len_at is_line_byte bytes text (b ∷ rest) split all (ap not end))

block_sizes : (bytes t u : List ℕ) → Closing bytes t → Closing bytes u → length t ≡ length u
block_sizes bytes t u left right =
    ⊎_elim
    (λ less. absurd (right.first left.place left.low less left.closes))
    (λ at_least.
    ⊎_elim
    (λ more. absurd (left.first right.place right.low more right.closes))
    (λ at_most. omega (arith, left.size, right.size))
    (cases_lt right.place left.place))
    (cases_lt left.place right.place)

-- one comment begins the bytes, at most
pub same_comment : (bytes t q u r : List ℕ) → CommentBegins bytes t q → CommentBegins bytes u r → (t ≡ u) × (q ≡ r)
same_comment bytes t q u r left right =
    same_fronts t q u r (sym left.0 ∙ right.0)
    (⊎_elim
    (λ block.
    ⊎_elim
    (λ other. block_sizes bytes t u (closing_of bytes t q left.0 block.1) (closing_of bytes u r right.0 other.1))
    (λ line. absurd (omega (arith, block.0, line.0)))
    (looks_comment bytes u r right).second)
    (λ line.
    ⊎_elim
    (λ block. absurd (omega (arith, block.0, line.0)))
    (λ other. line_size bytes t q left.0 line.1.0 line.1.1 ∙ sym (line_size bytes u r right.0 other.1.0 other.1.1))
    (looks_comment bytes u r right).second)
    (looks_comment bytes t q left).second)

pub no_block : (bytes : List ℕ) → get_or bytes 1 0 ≡ 42 → ((place : ℕ) → 2 ≤ place → place + 2 ≤ length bytes → ClosesAt bytes place → ⊥) → (text rest : List ℕ) → CommentBegins bytes text rest → ⊥
no_block bytes star none text rest begins =
    ⊎_elim
    (λ block. let closing = closing_of bytes text rest begins.0 block.1 in none closing.place closing.low closing.high closing.closes)
    (λ line. omega (arith, line.0))
    (looks_comment bytes text rest begins).second

pub no_comment : (bytes : List ℕ) → (2 ≤ length bytes → get_or bytes 0 0 ≡ 47 → ((get_or bytes 1 0 ≡ 42) ⊎ (get_or bytes 1 0 ≡ 47)) → ⊥) → (text rest : List ℕ) → CommentBegins bytes text rest → ⊥
no_comment bytes none text rest begins =
    let look = looks_comment bytes text rest begins in
    none look.long look.slash (⊎_elim (λ block. inl block.0) (λ line. inr line.0) look.second)

line_end_after : (bytes : List ℕ) → is_line_end (drop (prefix_len is_line_byte bytes) bytes) ≡ true
line_end_after bytes =
    ⊎_elim
    (λ inside.
    let n = prefix_len is_line_byte bytes in
    ap is_line_end (drop_more bytes n 0 inside) ∙ line_feed (get_or bytes n 0) (prefix_len_stops is_line_byte bytes 0 inside))
    (λ whole. ap is_line_end (drop_all (prefix_len is_line_byte bytes) bytes whole))
    (cases_lt (prefix_len is_line_byte bytes) (length bytes))

pub line_found : (bytes : List ℕ) (n : ℕ) → n ≡ prefix_len is_line_byte bytes → 2 ≤ length bytes → get_or bytes 0 0 ≡ 47 → get_or bytes 1 0 ≡ 47 → (n ≤ length bytes) × CommentBegins bytes (take n bytes) (drop n bytes)
line_found [] n size long slash second = absurd (omega arith)
line_found (a ∷ []) n size long slash second = absurd (omega arith)
line_found (a ∷ b ∷ bytes) n size long slash second =
    let m = prefix_len is_line_byte bytes in
    let first : prefix_len is_line_byte (a ∷ b ∷ bytes) ≡ 1 + (1 + m) = rw (slash, second) refl in
    let next : n ≡ suc (suc m) = omega (arith, size, first) in
    let inside : n ≤ length (a ∷ b ∷ bytes) = omega (arith, prefix_len-le-length is_line_byte bytes) in (
      inside,
      (
        sym (take-append-drop n (a ∷ b ∷ bytes)),
        inr (
          (take m bytes, list_all-take_prefix is_line_byte bytes, ap (λ k. take k (a ∷ b ∷ bytes)) next ∙ rw (slash, second) refl),
          ap (λ k. is_line_end (drop k (a ∷ b ∷ bytes))) next ∙ line_end_after bytes,
        ),
      ),
    )

-- ---- blanks and comments in a row

blank_no_slash : (b : ℕ) → is_blank b ≡ true → b ≡ 47 → ⊥
blank_no_slash b blank slash = grind (arith, nat_tests)

blank_no_comment : (bytes rest text after : List ℕ) (b : ℕ) → is_blank b ≡ true → bytes ≡ b ∷ rest → CommentBegins bytes text after → ⊥
blank_no_comment bytes rest text after b blank is begins =
    blank_no_slash b blank (sym (ap (λ l. get_or l 0 0) is) ∙ (looks_comment bytes text after begins).slash)

pub same_gap_piece : (bytes q r : List ℕ) → GapBegins bytes q → GapBegins bytes r → q ≡ r
same_gap_piece bytes q r left right =
    ⊎_elim
    (λ blank.
    ⊎_elim
    (λ other. ap (drop 1) (sym blank.3 ∙ other.3))
    (λ comment. absurd (blank_no_comment bytes q comment.0 r blank.0 blank.1 blank.3 comment.1))
    right)
    (λ comment.
    ⊎_elim
    (λ blank. absurd (blank_no_comment bytes r comment.0 q blank.0 blank.1 blank.3 comment.1))
    (λ other. (same_comment bytes comment.0 q other.0 r comment.1 other.1).1)
    right)
    left

same_gap : (n m : List (List ℕ)) (bytes q r : List ℕ) → IsGap n bytes q → IsGap m bytes r → ((after : List ℕ) → GapBegins q after → ⊥) → ((after : List ℕ) → GapBegins r after → ⊥) → q ≡ r
same_gap [] [] bytes q r left right no_q no_r = sym left ∙ right
same_gap [] (b ∷ m) bytes q r left right no_q no_r = absurd (no_q b (subst (λ l. GapBegins l b) left right.0))
same_gap (a ∷ n) [] bytes q r left right no_q no_r = absurd (no_r a (subst (λ l. GapBegins l a) right left.0))
same_gap (a ∷ n) (b ∷ m) bytes q r left right no_q no_r =
    let same = same_gap_piece bytes a b left.0 right.0 in
    same_gap n m b q r (subst (λ l. IsGap n l q) same left.1) right.1 no_q no_r

pub same_behind : (bytes q r : List ℕ) → IsBehindGap bytes q → IsBehindGap bytes r → q ≡ r
same_behind bytes q r left right = same_gap left.0.0 right.0.0 bytes q r left.0.1 right.0.1 left.1 right.1

pub gap_more : (n : List (List ℕ)) (bytes q r : List ℕ) → IsGap n bytes q → GapBegins q r → IsGap (n ++ r ∷ []) bytes r
gap_more [] bytes q r gap piece = (subst (λ l. GapBegins l r) (sym gap) piece, refl)
gap_more (a ∷ n) bytes q r gap piece = (gap.0, gap_more n a q r gap.1 piece)
