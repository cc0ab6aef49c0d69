-- Each row of Annex K answers its call as every library does.
use Rattle.std.proofs.Common.{◌≡◌, Bool, List, Some, sym, subst, ◌∙◌}
use Rattle.std.proofs.lemmas.Option.{same_Some}
use Rattle.object_store.specs.Storage.{Storage}
use Rattle.lib_defs.specs.declared.row.Row.{Row}
use Rattle.lib_defs.specs.declared.row_name.RowName.{RowName}
use Rattle.lib_defs.specs.declared.row_name.RowName.TheVariants as n
use Rattle.lib_defs.specs.declared.step.Rest.{Rest}
use Rattle.lib_defs.specs.declared.value.Arg.{Arg}
use Rattle.lib_defs.specs.declared.value.ArgKind.TheVariants as kind
use Rattle.lib_defs.specs.declared.value.Value.{Value}
use Rattle.lib_defs.specs.Units.{byte_narrow, wide_narrow}
use Rattle.lib_defs.specs.RowNumbers.{name_at}
use Rattle.lib_defs.specs.Prototypes.{FitPrototype, IsGiven, prototype}
use Rattle.lib_defs.specs.Reply.{Did, Done, Broken, Asks, Fails}
use Rattle.lib_defs.specs.Rules.{Rule, run_rule}
use Rattle.lib_defs.specs.RowTable.{ptr, count, num, modulo_byte, rule_of}
use Rattle.lib_defs.specs.World.{World, Streams}
use Rattle.lib_defs.specs.Library.{values_of}
use Rattle.lib_defs.specs.Laws.{IsSized, HasForm, CallFits}
use Rattle.lib_defs.proofs.NamedRows.{facts_of}
use Rattle.lib_defs.proofs.RowsFit.{Gives, rule_fits_call}
use Rattle.lib_defs.proofs.Forms.{copy_gives, move_gives, fill_gives, text_copy_gives, part_copy_gives, append_gives}
use Rattle.lib_defs.proofs.Forms.{part_append_gives, token_gives, error_text_gives, wide_char_gives, length_gives}
use Rattle.lib_defs.proofs.Forms.{error_length_gives, second_size}

of_did : (P : Value → Type 0) (s : Storage) (q r : Rule) → Some q ≡ Some r → Gives P (run_rule q s)
    → Gives P (run_rule r s)
of_did P s q r e h = subst (λ r. Gives P (run_rule r s)) (same_Some q r e) h

-- the values are those of the prototype
gives_of : (name : RowName) (args : List Arg) (r : Rule) → rule_of name (values_of args) ≡ Some r
    → FitPrototype (prototype name) args
    → (s : Storage) → Gives (IsGiven (prototype name).gives) (run_rule r s)
gives_of n.MemcpyS args r e fit s = of_did (IsGiven (prototype n.MemcpyS).gives) s _ r e
    (copy_gives s 1 (ptr (values_of args) 0) (count (values_of args) 1) (ptr (values_of args) 2)
    (count (values_of args) 3))
gives_of n.WmemcpyS args r e fit s = of_did (IsGiven (prototype n.WmemcpyS).gives) s _ r e
    (copy_gives s 4 (ptr (values_of args) 0) (count (values_of args) 1) (ptr (values_of args) 2)
    (count (values_of args) 3))
gives_of n.MemmoveS args r e fit s = of_did (IsGiven (prototype n.MemmoveS).gives) s _ r e
    (move_gives s 1 (ptr (values_of args) 0) (count (values_of args) 1) (ptr (values_of args) 2)
    (count (values_of args) 3))
gives_of n.WmemmoveS args r e fit s = of_did (IsGiven (prototype n.WmemmoveS).gives) s _ r e
    (move_gives s 4 (ptr (values_of args) 0) (count (values_of args) 1) (ptr (values_of args) 2)
    (count (values_of args) 3))
gives_of n.MemsetS args r e fit s = of_did (IsGiven (prototype n.MemsetS).gives) s _ r e
    (fill_gives s (ptr (values_of args) 0) (count (values_of args) 1) (modulo_byte (num (values_of args) 2))
    (count (values_of args) 3))
gives_of n.StrcpyS args r e fit s = of_did (IsGiven (prototype n.StrcpyS).gives) s _ r e
    (text_copy_gives s 1 (ptr (values_of args) 0) (count (values_of args) 1) (ptr (values_of args) 2))
gives_of n.WcscpyS args r e fit s = of_did (IsGiven (prototype n.WcscpyS).gives) s _ r e
    (text_copy_gives s 4 (ptr (values_of args) 0) (count (values_of args) 1) (ptr (values_of args) 2))
gives_of n.StrncpyS args r e fit s = of_did (IsGiven (prototype n.StrncpyS).gives) s _ r e
    (part_copy_gives s 1 (ptr (values_of args) 0) (count (values_of args) 1) (ptr (values_of args) 2)
    (count (values_of args) 3))
gives_of n.WcsncpyS args r e fit s = of_did (IsGiven (prototype n.WcsncpyS).gives) s _ r e
    (part_copy_gives s 4 (ptr (values_of args) 0) (count (values_of args) 1) (ptr (values_of args) 2)
    (count (values_of args) 3))
gives_of n.StrcatS args r e fit s = of_did (IsGiven (prototype n.StrcatS).gives) s _ r e
    (append_gives s 1 (ptr (values_of args) 0) (count (values_of args) 1) (ptr (values_of args) 2))
gives_of n.WcscatS args r e fit s = of_did (IsGiven (prototype n.WcscatS).gives) s _ r e
    (append_gives s 4 (ptr (values_of args) 0) (count (values_of args) 1) (ptr (values_of args) 2))
gives_of n.StrncatS args r e fit s = of_did (IsGiven (prototype n.StrncatS).gives) s _ r e
    (part_append_gives s 1 (ptr (values_of args) 0) (count (values_of args) 1) (ptr (values_of args) 2)
    (count (values_of args) 3))
gives_of n.WcsncatS args r e fit s = of_did (IsGiven (prototype n.WcsncatS).gives) s _ r e
    (part_append_gives s 4 (ptr (values_of args) 0) (count (values_of args) 1) (ptr (values_of args) 2)
    (count (values_of args) 3))
gives_of n.StrtokS args r e fit s = of_did (IsGiven (prototype n.StrtokS).gives) s _ r e
    (token_gives s 1 (ptr (values_of args) 0) (ptr (values_of args) 1) (ptr (values_of args) 2)
    (ptr (values_of args) 3))
gives_of n.WcstokS args r e fit s = of_did (IsGiven (prototype n.WcstokS).gives) s _ r e
    (token_gives s 4 (ptr (values_of args) 0) (ptr (values_of args) 1) (ptr (values_of args) 2)
    (ptr (values_of args) 3))
gives_of n.StrerrorS args r e fit s = of_did (IsGiven (prototype n.StrerrorS).gives) s _ r e
    (error_text_gives s (ptr (values_of args) 0) (count (values_of args) 1) (num (values_of args) 2))
gives_of n.WctombS args r e fit s = of_did (IsGiven (prototype n.WctombS).gives) s _ r e
    (wide_char_gives s (ptr (values_of args) 0) (ptr (values_of args) 1) (count (values_of args) 2)
    (num (values_of args) 3))
gives_of n.StrnlenS args r e fit s = of_did (IsGiven (prototype n.StrnlenS).gives) s _ r e
    (length_gives s 1 byte_narrow.0 (ptr (values_of args) 0) (count (values_of args) 1)
    (second_size kind.CharPointer args fit.kinds fit.values))
gives_of n.WcsnlenS args r e fit s = of_did (IsGiven (prototype n.WcsnlenS).gives) s _ r e
    (length_gives s 4 wide_narrow.0 (ptr (values_of args) 0) (count (values_of args) 1)
    (second_size kind.OtherPointer args fit.kinds fit.values))
gives_of n.StrerrorlenS args r e fit s = of_did (IsGiven (prototype n.StrerrorlenS).gives) s _ r e
    (error_length_gives s (num (values_of args) 0))
gives_of _ args r e fit s = cc

pub has_form : (row : Row) (args : List Arg) (name : RowName) → name_at row ≡ Some name → (value : Value)
    → (FitPrototype (prototype name) args → IsGiven (prototype name).gives value) → HasForm row args value
has_form row args name named value given fit other is =
    let same : name ≡ other = same_Some name other (sym named ∙ is) in
    subst (λ n. IsGiven (prototype n).gives value) same (given (fit name named))

did_has_form : (row : Row) (args : List Arg) (name : RowName) → name_at row ≡ Some name → (d : Did)
    → (FitPrototype (prototype name) args → Gives (IsGiven (prototype name).gives) d) → Gives (HasForm row args) d
did_has_form row args name named (Done change set value) given = has_form row args name named value given
did_has_form row args name named (Broken k class action value) given = has_form row args name named value given
did_has_form row args name named (Asks function first second third rest) given = tt
did_has_form row args name named (Fails stop) given = tt

pub annex_row_fits : (row : Row) (args : List Arg) (name : RowName) (r : Rule) → name_at row ≡ Some name
    → rule_of name (values_of args) ≡ Some r
    → (w : World) → IsSized w.store → (waits : Rest → Bool) (streams : Streams)
    → CallFits waits row args w streams (run_rule r w.store)
annex_row_fits row args name r named is w sized waits streams =
    rule_fits_call row args name r named (facts_of name (values_of args) r is) w waits streams sized
    (did_has_form row args name named (run_rule r w.store) (λ fit. gives_of name args r is fit w.store))
