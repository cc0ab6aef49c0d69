-- What calls leave on the operands below them, and which arguments fit the parameters of a function.
use Rattle.std.proofs.Common.{◌≡◌, true, List, [], ◌∷◌, ◌++◌}
use Rattle.std.proofs.Common.{map, Some, refl, sym, subst}
use Rattle.object_store.specs.declared.pointer.Pointer.{Pointer}
use Rattle.lib_defs.specs.declared.value.Value.{Value}
use Rattle.lib_defs.specs.declared.value.Value.TheVariants.{Num, Ptr, Nothing}
use Rattle.lib_defs.specs.Prototypes.{Gives as GivenKind, GivesNumber, GivesPointer, GivesNothing}
use Rattle.lib_defs.specs.Variants.{IsVariant}
use Rattle.c_core.specs.declared.form.Form.{Form}
use Rattle.c_core.specs.declared.form.Form.TheVariants as form
use Rattle.c_core.specs.declared.form.Scalar.TheVariants as scalar
use Rattle.vm_code.specs.declared.parts.Parameter.{Parameter}
use Rattle.vm_code.specs.declared.parts.CodeFunction.{CodeFunction}
use Rattle.vm_code.specs.declared.parts.CodeCalled.{CodeCalled}
use Rattle.vm_code.specs.Calling.{fits_form, fit_parameters}
use Rattle.vm_code.specs.Calling.{left_by, row_left}
use Rattle.vm_code.specs.OperandKinds.{Kinds, push_form}
use Rattle.vm_code.specs.Sound.{form_of}
use Rattle.vm_code.specs.Valid.{HasType}
use Rattle.vm_code.specs.Progress.{AreOfKinds}
use Rattle.vm_code.proofs.Fronts.{some_alone}
use Rattle.vm_code.proofs.Operands.{AreOfForms}
use Rattle.vm_code.proofs.Standing.{IsLeft}

-- arguments of the forms of a function's parameters fit these
fits_of_forms : (ps : List Parameter) (vs : List Value) → AreOfForms (map (λ (p : Parameter). p.form) ps) vs
    → fit_parameters ps vs ≡ true
fits_of_forms [] [] are = refl
fits_of_forms [] (v ∷ vs) are = absurd are
fits_of_forms (p ∷ ps) [] are = absurd are
fits_of_forms (p ∷ ps) (v ∷ vs) are = rw are.0 (fits_of_forms ps vs are.1)

pub has_arguments : (called : CodeCalled) (f : CodeFunction) (vs : List Value) → HasType called f
    → AreOfForms called.arguments vs → fit_parameters f.parameters vs ≡ true
has_arguments called f vs has are =
    fits_of_forms f.parameters vs (subst (λ fs. AreOfForms fs vs) (sym has.takes) are)

pub left_variant : (given : GivenKind) (v : Value) → IsVariant given v → IsLeft (form_of given) (row_left v)
left_variant (GivesNumber kind) (Num n) is = tt
left_variant (GivesNumber kind) (Ptr p) is = absurd is
left_variant (GivesNumber kind) Nothing is = absurd is
left_variant GivesPointer (Num n) is = absurd is
left_variant GivesPointer (Ptr p) is = tt
left_variant GivesPointer Nothing is = absurd is
left_variant GivesNothing (Num n) is = absurd is
left_variant GivesNothing (Ptr p) is = absurd is
left_variant GivesNothing Nothing is = tt

-- what a function of this form may return: what its form is, or nothing
abbrev pub MayReturn : Form → Value → Type 0
MayReturn f Nothing = Unit {0}
MayReturn f v = fits_form f v ≡ true

pub left_by_form : (f : Form) (result : Pointer) (v : Value) → MayReturn f v → IsLeft f (left_by f result v)
left_by_form form.Nothing result v may = tt
left_by_form form.Place result v may = tt
left_by_form (form.Number kind) result (Num n) may = tt
left_by_form (form.Number kind) result (Ptr p) may = absurd (let none : ⊥ = cc in none)
left_by_form (form.Number kind) result Nothing may = tt
left_by_form form.Pointer result (Num n) may = absurd (let none : ⊥ = cc in none)
left_by_form form.Pointer result (Ptr p) may = tt
left_by_form form.Pointer result Nothing may = tt

-- it is pushed on the operands below
pub pushed_kinds : (gives : Form) (below kinds : Kinds) (left vs : List Value) → push_form gives
    (Some below) ≡ Some kinds
    → IsLeft gives left → AreOfKinds below vs → AreOfKinds kinds (left ++ vs)
pushed_kinds form.Nothing below kinds [] vs is one are =
    subst (λ ks. AreOfKinds ks vs) (some_alone below kinds is) are
pushed_kinds (form.Number kind) below kinds (v ∷ []) vs is one are =
    subst (λ ks. AreOfKinds ks (v ∷ vs)) (some_alone (scalar.Number kind ∷ below) kinds is) (one, are)
pushed_kinds form.Pointer below kinds (v ∷ []) vs is one are =
    subst (λ ks. AreOfKinds ks (v ∷ vs)) (some_alone (scalar.Pointer ∷ below) kinds is) (one, are)
pushed_kinds form.Place below kinds (v ∷ []) vs is one are =
    subst (λ ks. AreOfKinds ks (v ∷ vs)) (some_alone (scalar.Pointer ∷ below) kinds is) (one, are)
pushed_kinds (form.Number kind) below kinds [] vs is one are = absurd one
pushed_kinds form.Pointer below kinds [] vs is one are = absurd one
pushed_kinds form.Place below kinds [] vs is one are = absurd one
pushed_kinds form.Nothing below kinds (v ∷ left) vs is one are = absurd one
pushed_kinds (form.Number kind) below kinds (v ∷ w ∷ left) vs is one are = absurd one
pushed_kinds form.Pointer below kinds (v ∷ w ∷ left) vs is one are = absurd one
pushed_kinds form.Place below kinds (v ∷ w ∷ left) vs is one are = absurd one
