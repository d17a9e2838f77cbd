-- How operations are spelled (this project's own).
use Rattle.std.specs.Prelude.{ℕ, List, [], ◌∷◌, ◌++◌, codes}
use Rattle.std.specs.Fmt.{decimal, signed_decimal}
use Rattle.caesium_lines.specs.declared.operation.NamedOp.{NamedOp}
use Rattle.caesium_lines.specs.declared.operation.NamedOp.TheVariants.{Const, ConstBool, Null, Poison, Local, Field}
use Rattle.caesium_lines.specs.declared.operation.NamedOp.TheVariants.{Index, Load, LoadAtomic, Store, StoreAtomic, Neg}
use Rattle.caesium_lines.specs.declared.operation.NamedOp.TheVariants.{Compl, Binary, Shl, Shr, Cast, PtrEq, PtrNe, Cas}
use Rattle.caesium_lines.specs.declared.operation.NamedOp.TheVariants.{Exchange, Call, Fork, Drop}
use Rattle.caesium_lines.specs.Words.{words_text, int_word, scalar_word, operator_word, truth_word}
use Rattle.caesium_lines.specs.Layout.{layout_words}

-- the words of an operation
abbrev pub op_words : NamedOp → List (List ℕ)
op_words (Const of value) = codes "const" ∷ int_word of ∷ signed_decimal value ∷ []
op_words (ConstBool value) = codes "const" ∷ codes "bool" ∷ truth_word value ∷ []
op_words Null = codes "const" ∷ codes "null" ∷ []
op_words (Poison size) = codes "const" ∷ codes "poison" ∷ decimal size ∷ []
op_words (Local name) = codes "local" ∷ name ∷ []
op_words (Field of member) = codes "field" ∷ (of ++ 46 ∷ decimal member) ∷ []
op_words (Index size of) = codes "index" ∷ decimal size ∷ int_word of ∷ []
op_words (Load layout) = codes "load" ∷ layout_words layout
op_words LoadAtomic = codes "load" ∷ codes "atomic" ∷ codes "bool" ∷ []
op_words (Store layout) = codes "store" ∷ layout_words layout
op_words StoreAtomic = codes "store" ∷ codes "atomic" ∷ codes "bool" ∷ []
op_words (Neg of) = codes "neg" ∷ int_word of ∷ []
op_words (Compl of) = codes "compl" ∷ int_word of ∷ []
op_words (Binary operator of) = operator_word operator ∷ int_word of ∷ []
op_words (Shl of amount) = codes "shl" ∷ int_word of ∷ int_word amount ∷ []
op_words (Shr of amount) = codes "shr" ∷ int_word of ∷ int_word amount ∷ []
op_words (Cast from to) = codes "cast" ∷ scalar_word from ∷ scalar_word to ∷ []
op_words PtrEq = codes "ptr_eq" ∷ []
op_words PtrNe = codes "ptr_ne" ∷ []
op_words Cas = codes "cas" ∷ []
op_words Exchange = codes "exchange" ∷ []
op_words (Call function) = codes "call" ∷ function ∷ []
op_words (Fork function) = codes "fork" ∷ function ∷ []
op_words Drop = codes "drop" ∷ []

-- an operation: its words
abbrev pub op_text : NamedOp → List ℕ
op_text op = words_text (op_words op)
