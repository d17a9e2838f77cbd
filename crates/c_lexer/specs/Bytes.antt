-- Classes of bytes.
use Rattle.std.specs.Prelude.{ℕ, Bool, not, ◌==◌, ◌&&◌, ◌||◌, nat_le, nat_lt}

-- a blank: space, tab, line feed, form feed or carriage return
abbrev pub is_blank : ℕ → Bool
is_blank b = (b == 32) || (b == 9) || (b == 10) || (b == 12) || (b == 13)

-- a byte of no source character: a control that is no blank, one above `~`, `@`, `$`, the backquote, the backslash
abbrev pub is_bad_byte : ℕ → Bool
is_bad_byte b = (nat_lt b 32 && not (is_blank b)) || nat_lt 126 b || (b == 64) || (b == 36) || (b == 96) || (b == 92)

-- a decimal digit
abbrev pub is_digit : ℕ → Bool
is_digit b = nat_le 48 b && nat_le b 57

-- a digit below 8
abbrev pub is_octal_digit : ℕ → Bool
is_octal_digit b = nat_le 48 b && nat_le b 55

-- a digit, or a letter from `a` to `f` in either case
abbrev pub is_hexadecimal_digit : ℕ → Bool
is_hexadecimal_digit b = is_digit b || (nat_le 65 b && nat_le b 70) || (nat_le 97 b && nat_le b 102)

-- a letter, or `_`
abbrev pub is_letter : ℕ → Bool
is_letter b = (nat_le 65 b && nat_le b 90) || (nat_le 97 b && nat_le b 122) || (b == 95)

-- a letter, `_` or a digit
abbrev pub is_word_byte : ℕ → Bool
is_word_byte b = is_letter b || is_digit b

-- a byte within a line
abbrev pub is_line_byte : ℕ → Bool
is_line_byte b = not (b == 10)

-- a byte between a string's quotes: no quote and no line feed
abbrev pub is_string_byte : ℕ → Bool
is_string_byte b = not (b == 34) && not (b == 10)

-- a byte that stands for itself between single quotes: no quote, no backslash, and what a line of text may have
abbrev pub is_character_byte : ℕ → Bool
is_character_byte b = not (b == 39) && not (b == 92)
    && ((nat_le 32 b && nat_le b 126) || (b == 9) || (b == 12) || (b == 13))
