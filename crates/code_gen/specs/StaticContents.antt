-- The contents of static objects (6.7.9p4, p10).
use Rattle.std.specs.Prelude.{ℕ, ◌+◌, List, [], ◌∷◌, ◌++◌, length, take, drop, replicate, Option, Some, None}
use Rattle.object_store.specs.declared.mark.Mark as marks
use Rattle.object_store.specs.declared.mark.Mark.TheVariants as stored_mark
use Rattle.object_store.specs.declared.pointer.Pointer.{Pointer}
use Rattle.object_store.specs.Load.{integer_bytes, pointer_bytes}
use Rattle.lib_defs.specs.Reply.{null}
use Rattle.run_defs.specs.declared.seal.Seal as run_seal
use Rattle.c_core.specs.declared.static_object.Mark.{Mark}
use Rattle.c_core.specs.declared.static_object.Mark.TheVariants as mark
use Rattle.c_core.specs.declared.static_object.Seal.{Seal}
use Rattle.c_core.specs.declared.static_object.Bounds.{Bounds}
use Rattle.c_core.specs.declared.static_object.Address.{Address}
use Rattle.c_core.specs.TreeUnit.{StaticValue, StaticNumber, StaticNull, StaticAddress, StaticFunction, StaticBytes}
use Rattle.c_core.specs.TreeUnit.{StaticItem, Static, Program}
use Rattle.vm_code.specs.CodeFunctions.{function_pointer}
use Rattle.code_gen.specs.Designation.{static_place, function_number}

-- bytes in place of others, from one on
abbrev pub with_item : ℕ → List ℕ → List ℕ → List ℕ
with_item at item bytes = take at bytes ++ item ++ drop (at + length item) bytes

-- the bounds of an address: those of its object, or of a part of it
abbrev pub bounded : Option Bounds → Pointer → Pointer
bounded None p = p
bounded (Some bounds) p = record p { low = bounds.low; high = bounds.high }

abbrev pub address_pointer : List Static → Address → Pointer
address_pointer statics address =
    bounded address.bounds (record (static_place statics address.object) { offset = address.offset })

module _ (program : Program) where
  abbrev pub item_bytes : StaticValue → List ℕ
  item_bytes (StaticNumber kind value) = integer_bytes kind value
  item_bytes StaticNull = pointer_bytes null
  item_bytes (StaticAddress address) = pointer_bytes (address_pointer program.statics address)
  item_bytes (StaticFunction name) = pointer_bytes (function_pointer (function_number program.functions name))
  item_bytes (StaticBytes bytes) = bytes

  -- each item is stored in turn
  abbrev pub with_items : List StaticItem → List ℕ → List ℕ
  with_items [] bytes = bytes
  with_items (item ∷ rest) bytes = with_items rest (with_item item.at (item_bytes item.value) bytes)

  -- what is not initialized is 0
  abbrev pub static_bytes : Static → List ℕ
  static_bytes static = with_items static.items (replicate static.size 0)

abbrev pub mark_of : Mark → marks.Mark
mark_of mark.Literal = stored_mark.Literal
mark_of mark.Const = stored_mark.Const

abbrev pub seal_of : Seal → run_seal.Seal
seal_of seal = record { at = seal.at; len = seal.len; mark = mark_of seal.mark }
