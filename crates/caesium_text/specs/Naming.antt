-- The parts of a program with names in place of numbers (this project's own). A number that names nothing has an empty
-- name; no well-formed program has one.
use Rattle.std.specs.Prelude.{ℕ, List, [], map, slice_get, Option, Some, None, unwrap_or}
use Rattle.std.specs.Option.{option_map}
use Rattle.layouts.specs.declared.layout.Layout.{Layout}
use Rattle.layouts.specs.declared.layout.Layout.TheVariants as layouts
use Rattle.layouts.specs.declared.table.Declaration.{Declaration}
use Rattle.layouts.specs.Table.{name_of}
use Rattle.caesium_ir.specs.declared.operation.Op.{Op}
use Rattle.caesium_ir.specs.declared.operation.Op.TheVariants as ops
use Rattle.caesium_ir.specs.declared.block.Case.{Case}
use Rattle.caesium_ir.specs.declared.block.End.{End}
use Rattle.caesium_ir.specs.declared.block.End.TheVariants as ends
use Rattle.caesium_ir.specs.declared.function.Local.{Local}
use Rattle.caesium_lines.specs.declared.layout.NamedLayout.{NamedLayout}
use Rattle.caesium_lines.specs.declared.layout.NamedLayout.TheVariants as named_layouts
use Rattle.caesium_lines.specs.declared.layout.NamedLocal.{NamedLocal}
use Rattle.caesium_lines.specs.declared.operation.NamedOp.{NamedOp}
use Rattle.caesium_lines.specs.declared.operation.NamedOp.TheVariants as named_ops
use Rattle.caesium_lines.specs.declared.end.NamedCase.{NamedCase}
use Rattle.caesium_lines.specs.declared.end.NamedEnd.{NamedEnd}
use Rattle.caesium_lines.specs.declared.end.NamedEnd.TheVariants as named_ends

-- the tag of the struct or union under a number
abbrev pub tag_at : List Declaration → ℕ → List ℕ
tag_at table number = unwrap_or (option_map name_of (slice_get table number)) []

-- the name of a local
abbrev pub name_of_local : Local → List ℕ
name_of_local local = local.name

-- the name of the local under a number
abbrev pub local_at : List Local → ℕ → List ℕ
local_at locals number = unwrap_or (option_map name_of_local (slice_get locals number)) []

-- a layout
abbrev pub named_layout : List Declaration → Layout → NamedLayout
named_layout table (layouts.Int of) = named_layouts.Int of
named_layout table layouts.Bool = named_layouts.Bool
named_layout table layouts.Ptr = named_layouts.Ptr
named_layout table (layouts.Struct number) = named_layouts.Struct (tag_at table number)
named_layout table (layouts.Union number) = named_layouts.Union (tag_at table number)
named_layout table (layouts.Bytes size align) = named_layouts.Bytes size align

-- the result of a function
abbrev pub named_result : List Declaration → Option Layout → Option NamedLayout
named_result table None = None
named_result table (Some layout) = Some (named_layout table layout)

-- a parameter or another local
abbrev pub named_local : List Declaration → Local → NamedLocal
named_local table local = record { name = local.name; layout = named_layout table local.layout }

-- an operation of a function with these locals
abbrev pub named_op : List Declaration → List Local → Op → NamedOp
named_op table locals (ops.Const of value) = named_ops.Const of value
named_op table locals (ops.ConstBool value) = named_ops.ConstBool value
named_op table locals ops.Null = named_ops.Null
named_op table locals (ops.Poison size) = named_ops.Poison size
named_op table locals (ops.Local number) = named_ops.Local (local_at locals number)
named_op table locals (ops.Field number member) = named_ops.Field (tag_at table number) member
named_op table locals (ops.Index size of) = named_ops.Index size of
named_op table locals (ops.Load layout) = named_ops.Load (named_layout table layout)
named_op table locals ops.LoadAtomic = named_ops.LoadAtomic
named_op table locals (ops.Store layout) = named_ops.Store (named_layout table layout)
named_op table locals ops.StoreAtomic = named_ops.StoreAtomic
named_op table locals (ops.Neg of) = named_ops.Neg of
named_op table locals (ops.Compl of) = named_ops.Compl of
named_op table locals (ops.Binary operator of) = named_ops.Binary operator of
named_op table locals (ops.Shl of amount) = named_ops.Shl of amount
named_op table locals (ops.Shr of amount) = named_ops.Shr of amount
named_op table locals (ops.Cast from to) = named_ops.Cast from to
named_op table locals ops.PtrEq = named_ops.PtrEq
named_op table locals ops.PtrNe = named_ops.PtrNe
named_op table locals ops.Cas = named_ops.Cas
named_op table locals ops.Exchange = named_ops.Exchange
named_op table locals (ops.Call name arguments) = named_ops.Call name
named_op table locals (ops.Fork name arguments) = named_ops.Fork name
named_op table locals ops.Drop = named_ops.Drop

-- a case of a `switch`
abbrev pub named_case : Case → NamedCase
named_case case = record { value = case.value; label = case.label }

-- the end of a block
abbrev pub named_end : End → NamedEnd
named_end (ends.Goto label) = named_ends.Goto label
named_end (ends.If nonzero zero) = named_ends.If nonzero zero
named_end (ends.Switch of cases otherwise) = named_ends.Switch of (map named_case cases) otherwise
named_end ends.Return = named_ends.Return
