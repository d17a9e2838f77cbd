-- What each operator of terms means, on values (this project's own, after the operators of C11 6.5 where it has them).
-- An operand of another sort than the operator's counts as 0, false, null or the empty list.
use Rattle.std.specs.Prelude.{◌≡◌, Result, Ok, Err, Bool, true, false, not, ◌&&◌, ◌||◌, nat_eq}
use Rattle.std.specs.Prelude.{List, [], ◌∷◌, ◌++◌, length, reverse, take, drop, slice_set, slice_index_or}
use Rattle.std.specs.Prelude.{ℤ, pos, negsuc, neg_ℤ, ◌+ℤ◌, ◌-ℤ◌, ◌*ℤ◌, int_lt, int_le}
use Rattle.std.specs.Ordering.{int_eq}
use Rattle.std.specs.Cmp.Lexicographic.{pointwise}
use Rattle.rc_terms.specs.declared.byte.MByte.{MByte}
use Rattle.rc_terms.specs.declared.byte.MByte.TheVariants as bytes
use Rattle.rc_terms.specs.declared.location.Loc.{Loc}
use Rattle.rc_terms.specs.declared.location.Loc.TheVariants as locations
use Rattle.rc_terms.specs.declared.refusal.TermRefusal.{TermRefusal}
use Rattle.rc_terms.specs.declared.refusal.TermRefusal.TheVariants as refusals
use Rattle.rc_terms.specs.declared.value.TermValue.{TermValue}
use Rattle.rc_terms.specs.declared.value.TermValue.TheVariants as values
use Rattle.rc_terms.specs.declared.operator.UnaryOperator.{UnaryOperator}
use Rattle.rc_terms.specs.declared.operator.UnaryOperator.TheVariants.{Negative, Not, Length, Reverse}
use Rattle.rc_terms.specs.declared.operator.BinaryOperator.{BinaryOperator}
use Rattle.rc_terms.specs.declared.operator.BinaryOperator.TheVariants.{Add, Subtract, Multiply, Quotient, Remainder}
use Rattle.rc_terms.specs.declared.operator.BinaryOperator.TheVariants.{ShiftLeft, ShiftRight, BitAnd, BitOr, BitXor}
use Rattle.rc_terms.specs.declared.operator.BinaryOperator.TheVariants.{Equal, Unequal, Below, AtMost, Above, AtLeast}
use Rattle.rc_terms.specs.declared.operator.BinaryOperator.TheVariants.{And, Or, Implies, Aligned, Cons, Append}
use Rattle.rc_terms.specs.declared.operator.BinaryOperator.TheVariants.{Element, Take, Drop}
use Rattle.rc_terms.specs.Numbers.{quotient, remainder, shifted_left, shifted_right, divides}
use Rattle.rc_terms.specs.Numbers.{bits_of_both, bits_of_either, bits_of_one, holds_in_128_bits}

-- the number that a value is
abbrev pub number_of : TermValue → ℤ
number_of (values.Integer number) = number
number_of value = pos 0

-- the truth value that a value is
abbrev pub truth_of : TermValue → Bool
truth_of (values.Truth truth) = truth
truth_of value = false

-- the location that a value is
abbrev pub location_of : TermValue → Loc
location_of (values.Location location) = location
location_of value = locations.Null

-- the list that a value is
abbrev pub list_of : TermValue → List ℤ
list_of (values.List numbers) = numbers
list_of value = []

-- a location that many bytes further; null stays null
abbrev pub offset_by : Loc → ℤ → Loc
offset_by locations.Null distance = locations.Null
offset_by (locations.At block offset) distance = locations.At block (offset +ℤ distance)

-- a sum of two numbers, or of a location and a number
abbrev pub plus : TermValue → TermValue → TermValue
plus (values.Location location) distance = values.Location (offset_by location (number_of distance))
plus left right = values.Integer (number_of left +ℤ number_of right)

-- whether two locations are one
abbrev pub same_location : Loc → Loc → Bool
same_location locations.Null locations.Null = true
same_location (locations.At block offset) (locations.At other distance) = nat_eq block other && int_eq offset distance
same_location location other = false

-- whether two bytes of memory are one
abbrev pub same_byte : MByte → MByte → Bool
same_byte (bytes.Byte byte) (bytes.Byte other) = nat_eq byte other
same_byte (bytes.Frag location place) (bytes.Frag other second) = same_location location other && nat_eq place second
same_byte bytes.Poison bytes.Poison = true
same_byte byte other = false

-- whether two values are one
abbrev pub same : TermValue → TermValue → Bool
same (values.Integer number) (values.Integer other) = int_eq number other
same (values.Truth true) (values.Truth other) = other
same (values.Truth false) (values.Truth other) = not other
same (values.Location location) (values.Location other) = same_location location other
same (values.List numbers) (values.List others) = pointwise int_eq numbers others
same (values.Bytes held) (values.Bytes others) = pointwise same_byte held others
same value other = false

-- whether the location is null or the number divides its offset
abbrev pub is_aligned : Loc → ℤ → Bool
is_aligned locations.Null alignment = true
is_aligned (locations.At block offset) alignment = divides alignment offset

-- the number at an index, 0 outside the list
abbrev pub element : List ℤ → ℤ → ℤ
element numbers (pos index) = slice_index_or numbers index (pos 0)
element numbers (negsuc index) = pos 0

-- the list with a number at an index, and the list itself where that is outside
abbrev pub updated : List ℤ → ℤ → ℤ → List ℤ
updated numbers (pos index) number = slice_set numbers index number
updated numbers (negsuc index) number = numbers

-- the first few numbers, none for a negative count
abbrev pub first_numbers : ℤ → List ℤ → List ℤ
first_numbers (pos count) numbers = take count numbers
first_numbers (negsuc count) numbers = []

-- the numbers without the first few, all for a negative count
abbrev pub numbers_past : ℤ → List ℤ → List ℤ
numbers_past (pos count) numbers = drop count numbers
numbers_past (negsuc count) numbers = numbers

-- what an operator gives on one operand
abbrev pub unary : UnaryOperator → TermValue → TermValue
unary Negative operand = values.Integer (neg_ℤ (number_of operand))
unary Not operand = values.Truth (not (truth_of operand))
unary Length operand = values.Integer (pos (length (list_of operand)))
unary Reverse operand = values.List (reverse (list_of operand))

-- what an operator gives on two operands
abbrev pub binary : BinaryOperator → TermValue → TermValue → TermValue
binary Add a b = plus a b
binary Subtract a b = values.Integer (number_of a -ℤ number_of b)
binary Multiply a b = values.Integer (number_of a *ℤ number_of b)
binary Quotient a b = values.Integer (quotient (number_of a) (number_of b))
binary Remainder a b = values.Integer (remainder (number_of a) (number_of b))
binary ShiftLeft a b = values.Integer (shifted_left (number_of a) (number_of b))
binary ShiftRight a b = values.Integer (shifted_right (number_of a) (number_of b))
binary BitAnd a b = values.Integer (bits_of_both (number_of a) (number_of b))
binary BitOr a b = values.Integer (bits_of_either (number_of a) (number_of b))
binary BitXor a b = values.Integer (bits_of_one (number_of a) (number_of b))
binary Equal a b = values.Truth (same a b)
binary Unequal a b = values.Truth (not (same a b))
binary Below a b = values.Truth (int_lt (number_of a) (number_of b))
binary AtMost a b = values.Truth (int_le (number_of a) (number_of b))
binary Above a b = values.Truth (int_lt (number_of b) (number_of a))
binary AtLeast a b = values.Truth (int_le (number_of b) (number_of a))
binary And a b = values.Truth (truth_of a && truth_of b)
binary Or a b = values.Truth (truth_of a || truth_of b)
binary Implies a b = values.Truth (not (truth_of a) || truth_of b)
binary Aligned p a = values.Truth (is_aligned (location_of p) (number_of a))
binary Cons a l = values.List (number_of a ∷ list_of l)
binary Append l m = values.List (list_of l ++ list_of m)
binary Element l i = values.Integer (element (list_of l) (number_of i))
binary Take i l = values.List (first_numbers (number_of i) (list_of l))
binary Drop i l = values.List (numbers_past (number_of i) (list_of l))

-- whether 128 bits hold the value's number or offset
abbrev pub is_within : TermValue → Bool
is_within (values.Integer number) = holds_in_128_bits number
is_within (values.Location (locations.At block offset)) = holds_in_128_bits offset
is_within value = true

-- a call gives this value, says that 128 bits don't hold it, or finds no memory
abbrev pub Gives : Result TermValue TermRefusal → TermValue → Type 0
Gives (Ok found) value = (found ≡ value) × (is_within value ≡ true)
Gives (Err refusals.Width) value = is_within value ≡ false
Gives (Err refusals.NoMemory) value = Unit {0}
Gives (Err refusals.TermLimit) value = ⊥
