-- The longest floating constant: digits, a point, an exponent and a suffix, as many as there are.
use Rattle.std.proofs.Common.{◌≡◌, ◌≢◌, ℕ, suc, ◌+◌, ◌<◌, ◌≤◌, Bool, true, false, cond, ◌||◌, ltb, List, [], ◌∷◌, ◌++◌, length, get_or, take, drop, sym, refl, ap, ◌∙◌, subst, inl, inr, ⊎_elim, arith, ◌⊎◌, append_assoc, add-zero}
use Rattle.std.specs.List.{list_all, prefix_len}
use Rattle.std.proofs.lemmas.Bool.{false≢true, cases_lt, cases_Bool, and_parts, and_from, lt-ltb, ltb-true}
use Rattle.std.proofs.lemmas.Bool.Decides.{nat_tests}
use Rattle.std.proofs.lemmas.List.{length-append, length-take-le, length-drop, take-append-drop, drop_at, drop-drop, append-nil, get_or-append-add, drop_more, take-take, drop-take}
use Rattle.std.proofs.lemmas.List.Sums.{prefix_len-le-length}
use Rattle.c_lexer.specs.declared.floating.Significand.{Significand}
use Rattle.c_lexer.specs.declared.token.IntegerBase.{IntegerBase}
use Rattle.c_lexer.specs.declared.token.IntegerBase.TheVariants as bases
use Rattle.c_lexer.specs.Bytes.{is_digit}
use Rattle.c_lexer.specs.Integers.{is_digit_of}
use Rattle.c_lexer.specs.Floating.{is_exponent_mark, is_sign, is_floating_suffix, IsExponent, IsScaled}
use Rattle.c_lexer.specs.Scanning.Numbers.{IsLongest, IsSignificand, IsMarked, is_marked, is_suffixed}
use Rattle.c_lexer.proofs.Lists.{prefix_len_at, length-le-prefix_len, list_all-take_prefix}
use Rattle.c_lexer.proofs.Lexemes.{or_parts}
use Rattle.c_lexer.proofs.Floats.{exponent_front, exponent_start, sign_no_digit}

-- ---- bytes that are no digits

point_no_digit : (base : IntegerBase) → is_digit_of base 46 ≡ false
point_no_digit bases.Decimal = refl
point_no_digit bases.Octal = refl
point_no_digit bases.Hexadecimal = refl

mark_no_digit : (base : IntegerBase) (b : ℕ) → is_exponent_mark base b ≡ true → is_digit_of base b ≡ false
mark_no_digit bases.Decimal b mark = grind (arith, nat_tests)
mark_no_digit bases.Octal b mark = absurd (false≢true mark)
mark_no_digit bases.Hexadecimal b mark = grind (arith, nat_tests)

mark_no_point : (base : IntegerBase) (b : ℕ) → is_exponent_mark base b ≡ true → b ≢ 46
mark_no_point bases.Decimal b mark point = grind (arith, nat_tests)
mark_no_point bases.Octal b mark point = false≢true mark
mark_no_point bases.Hexadecimal b mark point = grind (arith, nat_tests)

suffix_no_decimal : (b : ℕ) → is_floating_suffix b ≡ true → is_digit b ≡ false
suffix_no_decimal b suffix = grind (arith, nat_tests)

suffix_no_mark : (b : ℕ) → is_floating_suffix b ≡ true → is_exponent_mark bases.Decimal b ≡ true → ⊥
suffix_no_mark b suffix mark = grind (arith, nat_tests)

-- ---- an exponent with a byte behind it that is no digit has all digits

exact_plain : (m d b : ℕ) (digits rest : List ℕ) → is_digit b ≡ false → list_all is_digit (d ∷ digits) ≡ true
    → exponent_start (m ∷ d ∷ (digits ++ (b ∷ rest))) + prefix_len is_digit (drop (exponent_start (m ∷ d ∷ (digits ++ (b ∷ rest)))) (m ∷ d ∷ (digits ++ (b ∷ rest)))) ≡ length (m ∷ d ∷ digits)
exact_plain m d b digits rest stops all =
    let bytes = m ∷ d ∷ (digits ++ (b ∷ rest)) in
    let start : exponent_start bytes ≡ 1 = ap {B = ℕ} (λ t. cond t 2 1) (sign_no_digit d (and_parts (is_digit d) (list_all is_digit digits) all).0) in
    let count = prefix_len_at is_digit (d ∷ (digits ++ (b ∷ rest))) (d ∷ digits) (b ∷ rest) refl all stops in
    let behind : prefix_len is_digit (drop (exponent_start bytes) bytes) ≡ prefix_len is_digit (d ∷ (digits ++ (b ∷ rest))) = ap (λ n. prefix_len is_digit (drop n bytes)) start in
    omega (arith, start, count, behind)

exact_signed : (m s d b : ℕ) (digits rest : List ℕ) → is_sign s ≡ true → is_digit b ≡ false → list_all is_digit (d ∷ digits) ≡ true
    → exponent_start (m ∷ s ∷ d ∷ (digits ++ (b ∷ rest))) + prefix_len is_digit (drop (exponent_start (m ∷ s ∷ d ∷ (digits ++ (b ∷ rest)))) (m ∷ s ∷ d ∷ (digits ++ (b ∷ rest)))) ≡ length (m ∷ s ∷ d ∷ digits)
exact_signed m s d b digits rest sign stops all =
    let bytes = m ∷ s ∷ d ∷ (digits ++ (b ∷ rest)) in
    let start : exponent_start bytes ≡ 2 = ap {B = ℕ} (λ t. cond t 2 1) sign in
    let count = prefix_len_at is_digit (d ∷ (digits ++ (b ∷ rest))) (d ∷ digits) (b ∷ rest) refl all stops in
    let behind : prefix_len is_digit (drop (exponent_start bytes) bytes) ≡ prefix_len is_digit (d ∷ (digits ++ (b ∷ rest))) = ap (λ n. prefix_len is_digit (drop n bytes)) start in
    omega (arith, start, count, behind)

abbrev whole_exponent : List ℕ → ℕ
whole_exponent bytes = exponent_start bytes + prefix_len is_digit (drop (exponent_start bytes) bytes)

exact_of : (m b : ℕ) (sign digits rest : List ℕ) → (sign ≡ []) ⊎ ((s : ℕ) × (is_sign s ≡ true) × (sign ≡ s ∷ [])) → 0 < length digits → list_all is_digit digits ≡ true → is_digit b ≡ false
    → whole_exponent ((m ∷ sign ++ digits) ++ (b ∷ rest)) ≡ length (m ∷ sign ++ digits)
exact_of m b sign [] rest signed some all stops = absurd (omega arith)
exact_of m b sign (d ∷ digits) rest signed some all stops =
    ⊎_elim
    (λ none. subst (λ l. whole_exponent ((m ∷ l ++ (d ∷ digits)) ++ (b ∷ rest)) ≡ length (m ∷ l ++ (d ∷ digits))) (sym none) (exact_plain m d b digits rest stops all))
    (λ one. subst (λ l. whole_exponent ((m ∷ l ++ (d ∷ digits)) ++ (b ∷ rest)) ≡ length (m ∷ l ++ (d ∷ digits))) (sym one.2) (exact_signed m one.0 d b digits rest one.1 stops all))
    signed

exponent_exact : (base : IntegerBase) (bytes front rest : List ℕ) (b : ℕ) → bytes ≡ front ++ (b ∷ rest) → IsExponent base front → is_digit b ≡ false → whole_exponent bytes ≡ length front
exponent_exact base bytes front rest b split is stops =
    ap whole_exponent split ∙ subst (λ l. whole_exponent (l ++ (b ∷ rest)) ≡ length l) (sym is.parts) (exact_of is.mark b is.sign is.digits rest is.signed is.some is.all stops)

-- ---- what stands behind the significand

abbrev IsSuffix : List ℕ → Type 0
IsSuffix suffix = (suffix ≡ []) ⊎ ((b : ℕ) × (is_floating_suffix b ≡ true) × (suffix ≡ b ∷ []))

-- the size of an exponent and a suffix, by the longest exponent
abbrev pub TailSize : List ℕ → ℕ → ℕ → Type 0
TailSize bytes exponent size = (size ≤ exponent) ⊎ ((size ≡ exponent + 1) × (is_suffixed (drop exponent bytes) ≡ true))

tail_size : (base : IntegerBase) (bytes e suffix rest : List ℕ) (exponent : ℕ) → bytes ≡ e ++ (suffix ++ rest) → IsExponent base e → IsSuffix suffix → IsLongest (IsExponent base) bytes exponent
    → (0 < exponent) × TailSize bytes exponent (length e + length suffix)
tail_size base bytes e suffix rest exponent split is suffixed longest =
    let long = longest.2 e (suffix ++ rest) split is in
    let some : 0 < length e = omega (arith, ap length is.parts) in (
      omega arith,
      ⊎_elim
          (λ none. inl (omega (arith, ap length none)))
          (λ one.
          let at : bytes ≡ e ++ (one.0 ∷ rest) = split ∙ ap (λ l. e ++ (l ++ rest)) one.2 in
          let exact = exponent_exact base bytes e rest one.0 at is (suffix_no_decimal one.0 one.1) in
          let front = exponent_front base bytes (take exponent bytes) (drop exponent bytes) (sym (take-append-drop exponent bytes)) (longest.1 (omega arith)) in
          let size : length e ≡ exponent = omega (arith, exact, front.size, length-take-le exponent bytes longest.0, long) in
          inr (omega (arith, ap length one.2), ap (λ l. is_suffixed (drop exponent l)) at ∙ ap is_suffixed (drop_at e (one.0 ∷ rest) exponent size) ∙ one.1))
          suffixed,
    )

-- the significand's longest run, with a point and without
record Pointed (base : IntegerBase) (bytes : List ℕ) (s : Significand) : Type 0 where
  pub is : s.pointed ≡ true
  pub digits : s.digits ≡ prefix_len (is_digit_of base) bytes + prefix_len (is_digit_of base) (drop (prefix_len (is_digit_of base) bytes + 1) bytes)
  pub length : s.length ≡ s.digits + 1

pointed_of : (base : IntegerBase) (bytes : List ℕ) (digits len : ℕ) (pointed : Bool) → prefix_len (is_digit_of base) bytes < length bytes → get_or bytes (prefix_len (is_digit_of base) bytes) 0 ≡ 46
    → IsSignificand base bytes (record { digits = digits; pointed = pointed; length = len }) → Pointed base bytes (record { digits = digits; pointed = pointed; length = len })
pointed_of base bytes digits len true inside point is = record { is = refl; digits = is.1.2; length = is.1.3 }
pointed_of base bytes digits len false inside point is = absurd (is.1.0 inside point)

record Plain (base : IntegerBase) (bytes : List ℕ) (s : Significand) : Type 0 where
  pub digits : s.digits ≡ prefix_len (is_digit_of base) bytes
  pub length : s.length ≡ s.digits

plain_of : (base : IntegerBase) (bytes : List ℕ) (digits len : ℕ) (pointed : Bool) → get_or bytes (prefix_len (is_digit_of base) bytes) 0 ≢ 46
    → IsSignificand base bytes (record { digits = digits; pointed = pointed; length = len }) → Plain base bytes (record { digits = digits; pointed = pointed; length = len })
plain_of base bytes digits len true other is = absurd (other is.1.1)
plain_of base bytes digits len false other is = record { digits = is.1.1; length = is.1.2 }

-- what a floating constant at the front of bytes has
pub record Fits (base : IntegerBase) (bytes : List ℕ) (s : Significand) (exponent : ℕ) (front : List ℕ) : Type 0 where
  pub marked : is_marked base s exponent ≡ true
  pub size : (length front ≤ s.length + exponent) ⊎ ((length front ≡ s.length + exponent + 1) × (is_suffixed (drop (s.length + exponent) bytes) ≡ true))

marked_by_exponent : (base : IntegerBase) (s : Significand) (exponent : ℕ) → 0 < s.digits → 0 < exponent → is_marked base s exponent ≡ true
marked_by_exponent bases.Decimal s exponent digits some = and_from (ltb 0 s.digits) (ltb 0 exponent || s.pointed) (lt-ltb 0 s.digits digits) (ap (λ t. t || s.pointed) (lt-ltb 0 exponent some))
marked_by_exponent bases.Octal s exponent digits some = and_from (ltb 0 s.digits) (ltb 0 exponent) (lt-ltb 0 s.digits digits) (lt-ltb 0 exponent some)
marked_by_exponent bases.Hexadecimal s exponent digits some = and_from (ltb 0 s.digits) (ltb 0 exponent) (lt-ltb 0 s.digits digits) (lt-ltb 0 exponent some)

or_true : (b : Bool) → (b || true) ≡ true
or_true true = refl
or_true false = refl

marked_by_point : (s : Significand) (exponent : ℕ) → 0 < s.digits → s.pointed ≡ true → is_marked bases.Decimal s exponent ≡ true
marked_by_point s exponent digits pointed =
    and_from (ltb 0 s.digits) (ltb 0 exponent || s.pointed) (lt-ltb 0 s.digits digits) (ap (λ t. ltb 0 exponent || t) pointed ∙ or_true (ltb 0 exponent))

fits_from_tail : (base : IntegerBase) (bytes tail : List ℕ) (s : Significand) (exponent size : ℕ) (front : List ℕ) → tail ≡ drop s.length bytes → length front ≡ s.length + size → is_marked base s exponent ≡ true → TailSize tail exponent size → Fits base bytes s exponent front
fits_from_tail base bytes tail s exponent size front tail_is total marked sizes = record {
  marked = marked;
  size = ⊎_elim
      (λ small. inl (omega arith))
      (λ one. inr (omega (arith, one.0), ap is_suffixed (sym (ap (drop exponent) tail_is ∙ drop-drop exponent s.length bytes)) ∙ one.1))
      sizes;
}

first_of_exponent : (base : IntegerBase) (e rest : List ℕ) → IsExponent base e → is_exponent_mark base (get_or (e ++ rest) 0 0) ≡ true
first_of_exponent base e rest is = subst (λ l. is_exponent_mark base (get_or (l ++ rest) 0 0) ≡ true) (sym is.parts) is.marked

byte_behind : (bytes front rest : List ℕ) (n : ℕ) → bytes ≡ front ++ rest → n ≡ length front → get_or bytes n 0 ≡ get_or rest 0 0
byte_behind bytes front rest n split size = ap (λ l. get_or l n 0) split ∙ ap (λ k. get_or (front ++ rest) k 0) (size ∙ sym (add-zero (length front))) ∙ get_or-append-add front rest 0 0

-- no point
fits_plain : (base : IntegerBase) (bytes front rest whole e suffix : List ℕ) (s : Significand) (exponent : ℕ) → IsSignificand base bytes s → IsLongest (IsExponent base) (drop s.length bytes) exponent
    → bytes ≡ whole ++ (e ++ (suffix ++ rest)) → length front ≡ length whole + (length e + length suffix) → list_all (is_digit_of base) whole ≡ true → 0 < length whole → IsExponent base e → IsSuffix suffix → Fits base bytes s exponent front
fits_plain base bytes front rest whole e suffix s exponent sig longest split total all some is suffixed =
    let mark = first_of_exponent base e (suffix ++ rest) is in
    let count = prefix_len_at (is_digit_of base) bytes whole (e ++ (suffix ++ rest)) split all (mark_no_digit base (get_or (e ++ (suffix ++ rest)) 0 0) mark) in
    let at : get_or bytes (prefix_len (is_digit_of base) bytes) 0 ≡ get_or (e ++ (suffix ++ rest)) 0 0 = byte_behind bytes whole (e ++ (suffix ++ rest)) (prefix_len (is_digit_of base) bytes) split count in
    let plain = plain_of base bytes s.digits s.length s.pointed (λ point. mark_no_point base (get_or (e ++ (suffix ++ rest)) 0 0) mark (sym at ∙ point)) sig in
    let start : s.length ≡ length whole = omega (arith, plain.digits, plain.length, count) in
    let tail : drop s.length bytes ≡ e ++ (suffix ++ rest) = ap (drop s.length) split ∙ drop_at whole (e ++ (suffix ++ rest)) s.length (sym start) in
    let sized = tail_size base (drop s.length bytes) e suffix rest exponent tail is suffixed longest in
    fits_from_tail base bytes (drop s.length bytes) s exponent (length e + length suffix) front refl (omega (arith, total, start))
    (marked_by_exponent base s exponent (omega (arith, plain.digits, count)) sized.0) sized.1

-- a point
fits_pointed : (base : IntegerBase) (bytes front rest whole fraction e suffix : List ℕ) (s : Significand) (exponent : ℕ) → IsSignificand base bytes s → IsLongest (IsExponent base) (drop s.length bytes) exponent
    → bytes ≡ whole ++ (46 ∷ (fraction ++ (e ++ (suffix ++ rest)))) → length front ≡ length whole + (1 + (length fraction + (length e + length suffix)))
    → list_all (is_digit_of base) whole ≡ true → list_all (is_digit_of base) fraction ≡ true → 0 < length whole + length fraction
    → (IsExponent base e) ⊎ ((e ≡ []) × (base ≡ bases.Decimal)) → IsSuffix suffix → Fits base bytes s exponent front
fits_pointed base bytes front rest whole fraction e suffix s exponent sig longest split total whole_all fraction_all some exponents suffixed =
    let after = fraction ++ (e ++ (suffix ++ rest)) in
    let count = prefix_len_at (is_digit_of base) bytes whole (46 ∷ after) split whole_all (point_no_digit base) in
    let at : get_or bytes (prefix_len (is_digit_of base) bytes) 0 ≡ 46 = byte_behind bytes whole (46 ∷ after) (prefix_len (is_digit_of base) bytes) split count in
    let pointed = pointed_of base bytes s.digits s.length s.pointed (omega (arith, ap length split, length-append whole (46 ∷ after), count)) at sig in
    let behind : drop (prefix_len (is_digit_of base) bytes + 1) bytes ≡ after =
    ap (drop (prefix_len (is_digit_of base) bytes + 1)) (split ∙ sym (append_assoc whole (46 ∷ []) after)) ∙ drop_at (whole ++ 46 ∷ []) after (prefix_len (is_digit_of base) bytes + 1) (omega (arith, length-append whole (46 ∷ []), count)) in
    let more = length-le-prefix_len (is_digit_of base) (drop (prefix_len (is_digit_of base) bytes + 1) bytes) fraction (e ++ (suffix ++ rest)) behind fraction_all in
    let digits : 0 < s.digits = omega (arith, pointed.digits, count, more, some) in
    let exact : is_digit_of base (get_or (e ++ (suffix ++ rest)) 0 0) ≡ false → drop s.length bytes ≡ e ++ (suffix ++ rest) = λ stops.
    let full = prefix_len_at (is_digit_of base) (drop (prefix_len (is_digit_of base) bytes + 1) bytes) fraction (e ++ (suffix ++ rest)) behind fraction_all stops in
    let place : s.length ≡ (prefix_len (is_digit_of base) bytes + 1) + length fraction = omega (arith, pointed.length, pointed.digits, full) in
    ap (λ n. drop n bytes) place ∙ sym (drop-drop (length fraction) (prefix_len (is_digit_of base) bytes + 1) bytes) ∙ ap (drop (length fraction)) behind ∙ drop_at fraction (e ++ (suffix ++ rest)) (length fraction) refl in
    ⊎_elim
    (λ is.
    let stops = mark_no_digit base (get_or (e ++ (suffix ++ rest)) 0 0) (first_of_exponent base e (suffix ++ rest) is) in
    let tail = exact stops in
    let full = prefix_len_at (is_digit_of base) (drop (prefix_len (is_digit_of base) bytes + 1) bytes) fraction (e ++ (suffix ++ rest)) behind fraction_all stops in
    let sized = tail_size base (drop s.length bytes) e suffix rest exponent tail is suffixed longest in
    fits_from_tail base bytes (drop s.length bytes) s exponent (length e + length suffix) front refl (omega (arith, total, pointed.length, pointed.digits, full, count))
    (marked_by_exponent base s exponent digits sized.0) sized.1)
    (λ none.
    ⊎_elim
    (λ bare. record {
      marked = subst (λ b. is_marked b s exponent ≡ true) (sym none.1) (marked_by_point s exponent digits pointed.is);
      size = inl (omega (arith, total, pointed.length, pointed.digits, count, more, ap length none.0, ap length bare));
    })
    (λ one.
    let first : get_or (e ++ (suffix ++ rest)) 0 0 ≡ one.0 = ap (λ l. get_or (l ++ (suffix ++ rest)) 0 0) none.0 ∙ ap (λ l. get_or (l ++ rest) 0 0) one.2 in
    let stops : is_digit_of base (get_or (e ++ (suffix ++ rest)) 0 0) ≡ false = ap (is_digit_of base) first ∙ ap (λ b. is_digit_of b one.0) none.1 ∙ suffix_no_decimal one.0 one.1 in
    let tail = exact stops in
    let full = prefix_len_at (is_digit_of base) (drop (prefix_len (is_digit_of base) bytes + 1) bytes) fraction (e ++ (suffix ++ rest)) behind fraction_all stops in
    let zero_exponent : exponent ≡ 0 =
    ⊎_elim
    (λ positive.
    let front_ = exponent_front base (drop s.length bytes) (take exponent (drop s.length bytes)) (drop exponent (drop s.length bytes)) (sym (take-append-drop exponent (drop s.length bytes))) (longest.1 positive) in
    absurd (suffix_no_mark one.0 one.1 (sym (ap (λ b. is_exponent_mark b one.0) none.1) ∙ ap (is_exponent_mark base) (sym (ap (λ l. get_or l 0 0) tail ∙ first)) ∙ front_.marked)))
    (λ nothing. omega arith)
    (cases_lt 0 exponent) in
    record {
      marked = subst (λ b. is_marked b s exponent ≡ true) (sym none.1) (marked_by_point s exponent digits pointed.is);
      size = inr (
        omega (arith, total, pointed.length, pointed.digits, count, full, ap length none.0, ap length one.2, zero_exponent),
        ap (λ n. is_suffixed (drop (s.length + n) bytes)) zero_exponent ∙ ap (λ n. is_suffixed (drop n bytes)) (add-zero s.length) ∙ ap is_suffixed tail ∙ ap (λ l. is_suffixed (l ++ (suffix ++ rest))) none.0 ∙ ap (λ l. is_suffixed (l ++ rest)) one.2 ∙ one.1,
      );
    })
    suffixed)
    exponents

-- ---- any floating constant at the front

marked_cases : (base : IntegerBase) (front : List ℕ) (scaled : IsScaled base front) → IsMarked base front scaled → (IsExponent base scaled.exponent) ⊎ ((scaled.exponent ≡ []) × (base ≡ bases.Decimal) × (scaled.point ≢ []))
marked_cases bases.Decimal front scaled marked =
    ⊎_elim
    (λ empty. ⊎_elim (λ point. inr (empty, refl, point)) (λ exponent. absurd (exponent empty)) marked)
    (λ is. inl is)
    scaled.exponents
marked_cases bases.Octal front scaled marked = ⊎_elim (λ empty. absurd (marked empty)) (λ is. inl is) scaled.exponents
marked_cases bases.Hexadecimal front scaled marked = ⊎_elim (λ empty. absurd (marked empty)) (λ is. inl is) scaled.exponents

pub fits : (base : IntegerBase) (bytes front rest : List ℕ) (s : Significand) (exponent : ℕ) → IsSignificand base bytes s → IsLongest (IsExponent base) (drop s.length bytes) exponent
    → bytes ≡ front ++ rest → (scaled : IsScaled base front) → IsMarked base front scaled → Fits base bytes s exponent front
fits base bytes front rest s exponent sig longest split scaled marked =
    let w = scaled.whole in
    let f = scaled.fraction in
    let e = scaled.exponent in
    let x = scaled.suffix in
    let cases = marked_cases base front scaled marked in
    ⊎_elim
    (λ point.
    let parts : front ≡ w ++ (46 ∷ (f ++ (e ++ x))) = scaled.parts ∙ ap (λ l. w ++ (l ++ (f ++ (e ++ x)))) point in
    let whole : bytes ≡ w ++ (46 ∷ (f ++ (e ++ (x ++ rest)))) =
    split ∙ ap (λ l. l ++ rest) parts ∙ append_assoc w (46 ∷ (f ++ (e ++ x))) rest
    ∙ ap (λ l. w ++ (46 ∷ l)) (append_assoc f (e ++ x) rest ∙ ap (λ l. f ++ l) (append_assoc e x rest)) in
    fits_pointed base bytes front rest w f e x s exponent sig longest whole
    (ap length parts ∙ length-append w (46 ∷ (f ++ (e ++ x))) ∙ ap (λ n. length w + n) (omega (arith, length-append f (e ++ x), length-append e x)))
    scaled.whole_digits scaled.fraction_digits scaled.some
    (⊎_elim (λ is. inl is) (λ none. inr (none.0, none.1)) cases) scaled.suffixed)
    (λ none.
    let parts : front ≡ w ++ (e ++ x) = scaled.parts ∙ ap (λ l. w ++ (l ++ (f ++ (e ++ x)))) none.0 ∙ ap (λ l. w ++ (l ++ (e ++ x))) none.1 in
    let whole : bytes ≡ w ++ (e ++ (x ++ rest)) = split ∙ ap (λ l. l ++ rest) parts ∙ append_assoc w (e ++ x) rest ∙ ap (λ l. w ++ l) (append_assoc e x rest) in
    fits_plain base bytes front rest w e x s exponent sig longest whole
    (ap length parts ∙ length-append w (e ++ x) ∙ ap (λ n. length w + n) (length-append e x))
    scaled.whole_digits (omega (arith, scaled.some, ap length none.1))
    (⊎_elim (λ is. is) (λ missing. absurd (missing.2 none.0)) cases) scaled.suffixed)
    scaled.pointed

-- ---- what is found is one

join : (m n : ℕ) (xs : List ℕ) → take m xs ++ take n (drop m xs) ≡ take (m + n) xs
join m n xs =
    ap (λ l. l ++ take n (drop m xs)) (sym (take-take m (m + n) xs (omega arith))) ∙ ap (λ l. take m (take (m + n) xs) ++ l) (sym (drop-take m n xs))
    ∙ take-append-drop m (take (m + n) xs)

-- an exponent and a suffix
record Tail (base : IntegerBase) (bytes : List ℕ) (exponent size : ℕ) : Type 0 where
  pub suffix : List ℕ
  pub parts : take (exponent + size) bytes ≡ take exponent bytes ++ suffix
  pub inside : exponent + size ≤ length bytes
  pub exponents : (take exponent bytes ≡ []) ⊎ IsExponent base (take exponent bytes)
  pub suffixed : IsSuffix suffix

one_byte : (bytes : List ℕ) → is_suffixed bytes ≡ true → (1 ≤ length bytes) × IsSuffix (take 1 bytes)
one_byte [] is = absurd (false≢true is)
one_byte (b ∷ bs) is = (omega arith, inr (b, is, refl))

tail_made : (base : IntegerBase) (bytes : List ℕ) (exponent size : ℕ) → IsLongest (IsExponent base) bytes exponent → size ≡ cond (is_suffixed (drop exponent bytes)) 1 0 → Tail base bytes exponent size
tail_made base bytes exponent size longest size_is =
    let exponents : (take exponent bytes ≡ []) ⊎ IsExponent base (take exponent bytes) =
    ⊎_elim (λ positive. inr (longest.1 positive)) (λ none. let zero_ : exponent ≡ 0 = omega arith in inl (ap (λ n. take n bytes) zero_)) (cases_lt 0 exponent) in
    ⊎_elim
    (λ yes.
    let one = one_byte (drop exponent bytes) yes in
    let is_one : size ≡ 1 = size_is ∙ ap {B = ℕ} (λ t. cond t 1 0) yes in
    record {
      suffix = take 1 (drop exponent bytes);
      parts = ap (λ n. take (exponent + n) bytes) is_one ∙ sym (join exponent 1 bytes);
      inside = omega (arith, one.0, length-drop exponent bytes, longest.0);
      exponents = exponents;
      suffixed = one.1;
    })
    (λ fails.
    let is_zero : size ≡ 0 = size_is ∙ ap {B = ℕ} (λ t. cond t 1 0) fails in
    record {
      suffix = [];
      parts = ap (λ n. take (exponent + n) bytes) is_zero ∙ ap (λ n. take n bytes) (add-zero exponent) ∙ sym (append-nil (take exponent bytes));
      inside = omega (arith, longest.0);
      exponents = exponents;
      suffixed = inl refl;
    })
    (cases_Bool (is_suffixed (drop exponent bytes)))

-- a significand's parts
record Head (base : IntegerBase) (bytes : List ℕ) (s : Significand) : Type 0 where
  pub whole : List ℕ
  pub point : List ℕ
  pub fraction : List ℕ
  pub parts : take s.length bytes ≡ whole ++ (point ++ fraction)
  pub whole_digits : list_all (is_digit_of base) whole ≡ true
  pub fraction_digits : list_all (is_digit_of base) fraction ≡ true
  pub some : s.digits ≡ length whole + length fraction
  pub pointed : (point ≡ 46 ∷ []) ⊎ ((point ≡ []) × (fraction ≡ []))
  pub has_point : s.pointed ≡ true → point ≢ []

one_add : (f : ℕ) → 1 + f ≡ suc f
one_add f = omega arith

head_made : (base : IntegerBase) (bytes : List ℕ) (digits len : ℕ) (pointed : Bool) → IsSignificand base bytes (record { digits = digits; pointed = pointed; length = len }) → Head base bytes (record { digits = digits; pointed = pointed; length = len })
head_made base bytes digits len true sig =
    let w = prefix_len (is_digit_of base) bytes in
    let more = drop (w + 1) bytes in
    let f = prefix_len (is_digit_of base) more in
    let size : len ≡ w + (1 + f) = omega (arith, sig.1.2, sig.1.3) in
    let behind : take (1 + f) (drop w bytes) ≡ 46 ∷ take f more =
    ap (take (1 + f)) (drop_more bytes w 0 sig.1.0 ∙ ap (λ b. b ∷ more) sig.1.1) ∙ ap (λ n. take n (46 ∷ more)) (one_add f) in
    record {
      whole = take w bytes;
      point = 46 ∷ [];
      fraction = take f more;
      parts = ap (λ n. take n bytes) size ∙ sym (join w (1 + f) bytes) ∙ ap (λ l. take w bytes ++ l) behind;
      whole_digits = list_all-take_prefix (is_digit_of base) bytes;
      fraction_digits = list_all-take_prefix (is_digit_of base) more;
      some = omega (arith, sig.1.2, length-take-le w bytes (omega (arith, sig.1.0)), length-take-le f more (prefix_len-le-length (is_digit_of base) more));
      pointed = inl refl;
      has_point = λ _ e. cc;
    }
head_made base bytes digits len false sig =
    let w = prefix_len (is_digit_of base) bytes in
    record {
      whole = take w bytes;
      point = [];
      fraction = [];
      parts = ap (λ n. take n bytes) (sig.1.2 ∙ sig.1.1) ∙ sym (append-nil (take w bytes));
      whole_digits = list_all-take_prefix (is_digit_of base) bytes;
      fraction_digits = refl;
      some = omega (arith, sig.1.1, length-take-le w bytes (prefix_len-le-length (is_digit_of base) bytes));
      pointed = inr (refl, refl);
      has_point = λ is. absurd (false≢true is);
    }

made_marked : (base : IntegerBase) (s : Significand) (exponent : ℕ) (bytes front : List ℕ) (scaled : IsScaled base front) → is_marked base s exponent ≡ true → (s.pointed ≡ true → scaled.point ≢ []) → (0 < exponent → scaled.exponent ≢ []) → IsMarked base front scaled
made_marked bases.Decimal s exponent bytes front scaled marked point some =
    ⊎_elim (λ positive. inr (some (ltb-true 0 exponent positive))) (λ pointed. inl (point pointed)) (or_parts (ltb 0 exponent) s.pointed (and_parts (ltb 0 s.digits) (ltb 0 exponent || s.pointed) marked).1)
made_marked bases.Octal s exponent bytes front scaled marked point some = some (ltb-true 0 exponent (and_parts (ltb 0 s.digits) (ltb 0 exponent) marked).1)
made_marked bases.Hexadecimal s exponent bytes front scaled marked point some = some (ltb-true 0 exponent (and_parts (ltb 0 s.digits) (ltb 0 exponent) marked).1)

some_digits_of : (base : IntegerBase) (s : Significand) (exponent : ℕ) → is_marked base s exponent ≡ true → 0 < s.digits
some_digits_of bases.Decimal s exponent marked = ltb-true 0 s.digits (and_parts (ltb 0 s.digits) (ltb 0 exponent || s.pointed) marked).0
some_digits_of bases.Octal s exponent marked = ltb-true 0 s.digits (and_parts (ltb 0 s.digits) (ltb 0 exponent) marked).0
some_digits_of bases.Hexadecimal s exponent marked = ltb-true 0 s.digits (and_parts (ltb 0 s.digits) (ltb 0 exponent) marked).0

pub scaled_made : (base : IntegerBase) (bytes : List ℕ) (s : Significand) (exponent size : ℕ) → IsSignificand base bytes s → IsLongest (IsExponent base) (drop s.length bytes) exponent → is_marked base s exponent ≡ true
    → size ≡ cond (is_suffixed (drop exponent (drop s.length bytes))) 1 0 → ((s.length + exponent) + size ≤ length bytes) × ((scaled : IsScaled base (take ((s.length + exponent) + size) bytes)) × IsMarked base (take ((s.length + exponent) + size) bytes) scaled)
scaled_made base bytes s exponent size sig longest marked size_is =
    let head = head_made base bytes s.digits s.length s.pointed sig in
    let tail = tail_made base (drop s.length bytes) exponent size longest size_is in
    let total : (s.length + exponent) + size ≡ s.length + (exponent + size) = omega arith in
    let e = take exponent (drop s.length bytes) in
    let front : take ((s.length + exponent) + size) bytes ≡ (head.whole ++ (head.point ++ head.fraction)) ++ (e ++ tail.suffix) =
    ap (λ n. take n bytes) total ∙ sym (join s.length (exponent + size) bytes) ∙ (λ i. head.parts i ++ tail.parts i) in
    let scaled : IsScaled base (take ((s.length + exponent) + size) bytes) = record {
      whole = head.whole;
      point = head.point;
      fraction = head.fraction;
      exponent = e;
      suffix = tail.suffix;
      parts = front ∙ append_assoc head.whole (head.point ++ head.fraction) (e ++ tail.suffix) ∙ ap (λ l. head.whole ++ l) (append_assoc head.point head.fraction (e ++ tail.suffix));
      whole_digits = head.whole_digits;
      fraction_digits = head.fraction_digits;
      some = omega (arith, head.some, some_digits_of base s exponent marked);
      pointed = head.pointed;
      exponents = tail.exponents;
      suffixed = tail.suffixed;
    } in (
      omega (arith, tail.inside, length-drop s.length bytes, sig.0),
      (
        scaled,
        made_marked base s exponent bytes (take ((s.length + exponent) + size) bytes) scaled marked head.has_point
            (λ positive empty. omega (arith, ap length empty, length-take-le exponent (drop s.length bytes) longest.0)),
      ),
    )

-- the two together
pub scaled_size : (base : IntegerBase) (bytes front : List ℕ) (s : Significand) (exponent size : ℕ) → Fits base bytes s exponent front → size ≡ cond (is_suffixed (drop (s.length + exponent) bytes)) 1 0 → length front ≤ (s.length + exponent) + size
scaled_size base bytes front s exponent size fit size_is =
    ⊎_elim
    (λ small. omega arith)
    (λ one. let is_one : size ≡ 1 = size_is ∙ ap {B = ℕ} (λ t. cond t 1 0) one.1 in omega (arith, one.0))
    fit.size
