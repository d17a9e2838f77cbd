-- How layouts, locals and members are spelled (this project's own).
use Rattle.std.specs.Prelude.{ℕ, List, [], ◌∷◌, codes}
use Rattle.std.specs.Fmt.{decimal}
use Rattle.caesium_lines.specs.declared.layout.NamedLayout.{NamedLayout}
use Rattle.caesium_lines.specs.declared.layout.NamedLayout.TheVariants.{Int, Bool, Ptr, Struct, Union, Bytes}
use Rattle.caesium_lines.specs.declared.layout.NamedLocal.{NamedLocal}
use Rattle.caesium_lines.specs.declared.layout.NamedMember.{NamedMember}
use Rattle.caesium_lines.specs.Words.{int_word}

-- the words of a layout
abbrev pub layout_words : NamedLayout → List (List ℕ)
layout_words (Int of) = int_word of ∷ []
layout_words Bool = codes "bool" ∷ []
layout_words Ptr = codes "ptr" ∷ []
layout_words (Struct tag) = codes "struct" ∷ tag ∷ []
layout_words (Union tag) = codes "union" ∷ tag ∷ []
layout_words (Bytes size align) = codes "bytes" ∷ decimal size ∷ decimal align ∷ []

-- a parameter or another local: its name, then its layout
abbrev pub local_words : NamedLocal → List (List ℕ)
local_words local = local.name ∷ layout_words local.layout

-- a member of a struct: its offset, then its layout
abbrev pub member_words : NamedMember → List (List ℕ)
member_words member = decimal member.offset ∷ layout_words member.layout
