-- The operands of a call: its arguments in order, and the place of a structure.
use Rattle.std.proofs.Common.{◌≡◌, ◌∙◌, ℕ, suc, ◌+◌, List, [], ◌∷◌, ◌++◌, length, refl, ap, sym, arith, Option, Some}
use Rattle.std.proofs.Common.{None}
use Rattle.std.proofs.lemmas.List.{append-nil}
use Rattle.std.specs.Prelude.{pos}
use Rattle.object_store.specs.declared.pointer.Pointer.{Pointer}
use Rattle.lib_defs.specs.declared.value.Value.{Value}
use Rattle.lib_defs.specs.declared.value.Value.TheVariants.{Ptr}
use Rattle.lib_defs.specs.Reply.{null}
use Rattle.c_core.specs.declared.form.Form.{Form}
use Rattle.c_core.specs.declared.form.Form.TheVariants as form
use Rattle.c_core.specs.declared.form.Content.{Content}
use Rattle.c_core.specs.declared.form.Content.TheVariants as content
use Rattle.c_core.specs.declared.form.Scalar.TheVariants as scalar
use Rattle.c_core.specs.Forms.{given_form}
use Rattle.c_core.specs.Tree.{Cores, NoCore, MoreCores}
use Rattle.c_core.specs.Types.{IsLeft}
use Rattle.vm_code.specs.Frames.{Place}
use Rattle.vm_code.specs.Machine.{on_operands, on_result}
use Rattle.code_gen.specs.ExpressionCode.{count_among}
use Rattle.code_gen.specs.Expressions.{unused}
use Rattle.code_gen.specs.RunLaw.{HasKind, pushed, AreArguments}

-- ---- operands

-- values are pushed in order
abbrev pub all_pushed : List Value → List Value → List Value
all_pushed [] operands = operands
all_pushed (v ∷ vs) operands = all_pushed vs (v ∷ operands)

pub pushed_left : (f : Form) (v : Value) (operands : List Value) → IsLeft f → pushed f v operands ≡ v ∷ operands
pushed_left (form.Number kind) v operands is = refl
pushed_left form.Pointer v operands is = refl
pushed_left form.Place v operands is = refl
pushed_left form.Nothing v operands is = absurd is

-- they are taken off in order
taken_more : (vs : List Value) (k : ℕ) (below front : List Value) (go : List Value → List Value → Place)
    → on_operands (length vs + k) (all_pushed vs below) front go ≡ on_operands k below (vs ++ front) go
taken_more [] k below front go = let same : 0 + k ≡ k = omega arith in ap (λ n. on_operands n below front go) same
taken_more (v ∷ vs) k below front go =
    let same : length (v ∷ vs) + k ≡ length vs + suc k = omega arith in
    ap (λ n. on_operands n (all_pushed vs (v ∷ below)) front go) same ∙ taken_more vs (suc k) (v ∷ below) front go

pub taken : (vs : List Value) (n : ℕ) (below : List Value) (go : List Value → List Value → Place) → n ≡ length vs
    → on_operands n (all_pushed vs below) [] go ≡ go vs below
taken vs n below go long =
    let same : n ≡ length vs + 0 = omega (arith, long) in
    ap (λ k. on_operands k (all_pushed vs below) [] go) same ∙ taken_more vs 0 below [] go
    ∙ ap (λ taken_off. go taken_off below) (append-nil vs)

pub count_is : (cores : Cores) (vs : List Value) → AreArguments cores vs → count_among cores ≡ length vs
count_is NoCore [] are = refl
count_is NoCore (v ∷ vs) are = absurd are
count_is (MoreCores first rest) [] are = absurd are
count_is (MoreCores first rest) (v ∷ vs) are =
    let more : count_among rest ≡ length vs = count_is rest vs are.1 in omega (arith, more)

-- ---- the object for a structure

-- its place, where the call gives one
abbrev pub result_pushed : Option Content → Pointer → List Value → List Value
result_pushed (Some (content.Whole size)) place operands = Ptr place ∷ operands
result_pushed other place operands = operands

abbrev pub IsResult : Option Content → Pointer → Type 0
IsResult (Some (content.Whole size)) place = Unit {0}
IsResult other place = place ≡ null

pub on_given : (gives : Option Content) (place : Pointer) (operands : List Value) (go : Pointer → List Value → Place)
    → IsResult gives place → on_result (given_form gives) (result_pushed gives place operands) go ≡ go place operands
on_given None place operands go is = ap (λ p. go p operands) (sym is)
on_given (Some (content.Scalar (scalar.Number kind))) place operands go is = ap (λ p. go p operands) (sym is)
on_given (Some (content.Scalar scalar.Pointer)) place operands go is = ap (λ p. go p operands) (sym is)
on_given (Some (content.Whole size)) place operands go is = refl

pub unused_kind : (gives : Option Content) (result : Pointer) → HasKind (given_form gives) (unused gives result)
unused_kind None result = tt
unused_kind (Some (content.Scalar (scalar.Number kind))) result = (pos 0, refl)
unused_kind (Some (content.Scalar scalar.Pointer)) result = (null, refl)
unused_kind (Some (content.Whole size)) result = (result, refl)
