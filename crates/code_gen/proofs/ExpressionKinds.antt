-- An expression yields a value of its form, where calls give values of theirs.
use Rattle.std.proofs.Common.{◌≡◌, ℕ, Bool, true, false, List, refl, subst, Option, Some, None}
use Rattle.std.proofs.Common.{Result, Ok, Err}
use Rattle.std.specs.Prelude.{ℤ, pos, not}
use Rattle.acc_num.specs.Operations.{is_zero, converted_to}
use Rattle.acc_num.specs.declared.fault.NumFault.{NumFault}
use Rattle.acc_num.specs.declared.kind.IntKind.{IntKind}
use Rattle.acc_num.specs.declared.kind.IntKind.TheVariants.{I32, I64}
use Rattle.critical_table.specs.declared.code.Code.{Code}
use Rattle.critical_table.specs.declared.pos.Pos.{Pos}
use Rattle.object_store.specs.declared.pointer.Pointer.{Pointer}
use Rattle.c_types.specs.Compatible.{same_bool}
use Rattle.c_types.specs.CType.{CType, Plain, Function, Pointer as PointerType}
use Rattle.lib_defs.specs.declared.value.Arg.{Arg}
use Rattle.lib_defs.specs.declared.value.Value.{Value}
use Rattle.lib_defs.specs.declared.value.Value.TheVariants.{Num, Ptr, Nothing}
use Rattle.run_defs.specs.State.{State}
use Rattle.run_defs.specs.Evaluation.{Evaluation, Gives, Stops, bind, reached, automatic_made}
use Rattle.run_defs.specs.Loads.{number_loaded, pointer_loaded, found}
use Rattle.c_core.specs.declared.form.Form.{Form}
use Rattle.c_core.specs.declared.form.Form.TheVariants as form
use Rattle.c_core.specs.declared.form.Content.{Content}
use Rattle.c_core.specs.declared.form.Scalar.{Scalar}
use Rattle.c_core.specs.declared.form.Scalar.TheVariants as scalar
use Rattle.c_core.specs.declared.operator.By.{By}
use Rattle.c_core.specs.declared.operator.Change.{Change}
use Rattle.c_core.specs.declared.operator.Change.TheVariants as change
use Rattle.c_core.specs.Forms.{form_of, node_form, scalar_form, given_form, changed_form}
use Rattle.c_core.specs.Named.{Names}
use Rattle.c_core.specs.Tree.{Core, At, Node, Cores, NoCore, MoreCores, type_in}
use Rattle.c_core.specs.Tree as tree
use Rattle.c_core.specs.TreeUnit.{Program}
use Rattle.c_core.specs.Typed.{CoreTyped, NodeTyped, IsCalled}
use Rattle.c_core.specs.Types.{value_form}
use Rattle.lib_defs.specs.Columns.{is_null}
use Rattle.c_core.specs.Operations.{operator_outcome, negation, complement, compares, truth}
use Rattle.vm_code.specs.Pointers.{moved, difference, ordered, same_pointer, member_place, array_pointer}
use Rattle.vm_code.specs.Accesses.{pointer_in, number_in, loaded, copied, scalar_stored}
use Rattle.vm_code.specs.Operators.{computed, told, told_if_found, pointer_moved, assigned, is_true}
use Rattle.vm_code.specs.Slots.{Held}
use Rattle.code_gen.specs.Arguments.{arguments}
use Rattle.code_gen.specs.Calls.{called_type}
use Rattle.code_gen.specs.Evaluating.{Yield, Evaluates, yields, of_one, of_two, of_two_if, one_of, by_test, as_truth}
use Rattle.code_gen.specs.Expressions.{Call, value, node_value, values, result_object, call_value, value_object}
use Rattle.code_gen.specs.Expressions.{argument_object}
use Rattle.code_gen.specs.RunLaw.{HasKind}
use Rattle.code_gen.specs.Updates.{designated, kind_of_reach, updated, new_content, changed_scalar, Contents}
use Rattle.code_gen.proofs.Going.{IfGives}
use Rattle.code_gen.proofs.CallOperands.{unused_kind}

-- ---- evaluations

pub if_bind : {A B : Type 0} (P : B → Type 0) (x : Evaluation A) (next : A → State → Evaluation B)
    → ((v : A) (s : State) → IfGives P (next v s)) → IfGives P (bind x next)
if_bind P (Gives v s) next all = all v s
if_bind P (Stops outcome s) next all = tt

pub if_with : {A B : Type 0} (Q : A → Type 0) (P : B → Type 0) (x : Evaluation A)
    (next : A → State → Evaluation B) → IfGives Q x → ((v : A) (s : State) → Q v → IfGives P (next v s))
    → IfGives P (bind x next)
if_with Q P (Gives v s) next first all = all v s first
if_with Q P (Stops outcome s) next first all = tt

-- ---- what a call gives

-- a value of this form, if there is one; a structure stands where its caller wants it
abbrev pub GivenFits : Form → (result : Pointer) → Option Value → Type 0
GivenFits f result None = Unit {0}
GivenFits form.Nothing result (Some v) = Unit {0}
GivenFits (form.Number kind) result (Some v) = HasKind (form.Number kind) v
GivenFits form.Pointer result (Some v) = HasKind form.Pointer v
GivenFits form.Place result (Some v) = v ≡ Ptr result

pub given_kind : (f : Form) (result : Pointer) (v : Value) → GivenFits f result (Some v) → HasKind f v
given_kind form.Nothing result v fits = tt
given_kind (form.Number kind) result v fits = fits
given_kind form.Pointer result v fits = fits
given_kind form.Place result v fits = (result, fits)

-- a function of the type gives this
abbrev pub CalledGives : CType → Option Content → Type 0
CalledGives (Plain (Function result parameters variadic) quals) gives = value_form result ≡ Some (given_form gives)
CalledGives other gives = ⊥

-- calls give what their types give
abbrev pub CallGives : Call → Type 0
CallGives call = (type : CType) (gives : Option Content) → CalledGives (called_type type) gives → (p : Pointer)
    (args : List Arg) (result : Pointer) (here : Pos) (s : State)
    → IfGives (GivenFits (given_form gives) result) (call type p args result here s)

-- ---- operations

pub computed_kind : (kind : IntKind) (r : Result ℤ NumFault) (here : Pos) (s : State)
    → IfGives (HasKind (form.Number kind)) (computed r here s)
computed_kind kind (Ok n) here s = (n, refl)
computed_kind kind (Err fault) here s = tt

found_kind : (r : Result Bool Code) (here : Pos) (s : State)
    → IfGives (HasKind (form.Number I32)) (told_if_found r here s)
found_kind (Ok b) here s = (_, refl)
found_kind (Err code) here s = tt

moved_kind : (r : Result Pointer Code) (here : Pos) (s : State)
    → IfGives (HasKind form.Pointer) (pointer_moved r here s)
moved_kind (Ok p) here s = (p, refl)
moved_kind (Err code) here s = tt

loaded_kind : (scalar : Scalar) (p : Pointer) (here : Pos) (s : State)
    → IfGives (HasKind (scalar_form scalar)) (loaded scalar p here s)
loaded_kind (scalar.Number kind) p here s = if_bind (HasKind (form.Number kind)) (number_loaded kind p here s)
    (λ n s1. Gives (Num n) s1) (λ n s1. (n, refl))
loaded_kind scalar.Pointer p here s = if_bind (HasKind form.Pointer) (pointer_loaded p here s)
    (λ q s1. Gives (Ptr q) s1) (λ q s1. (q, refl))

new_kind : (change : Change) (old : Value) (n : ℤ) (here : Pos) (s : State)
    → IfGives (HasKind (changed_form change)) (new_content change old n here s)
new_kind (change.Number operator held at) old n here s = if_bind (HasKind (form.Number held))
    (computed (operator_outcome operator at (converted_to at (number_in old)) n) here s)
    (λ v s1. Gives (Num (converted_to held (number_in v))) s1) (λ v s1. (converted_to held (number_in v), refl))
new_kind (change.Pointer stride) old n here s = moved_kind _ here s

old_kind : (change : Change) (p : Pointer) (here : Pos) (s : State)
    → IfGives (HasKind (changed_form change)) (loaded (changed_scalar change) p here s)
old_kind (change.Number operator held at) p here s = loaded_kind (scalar.Number held) p here s
old_kind (change.Pointer stride) p here s = loaded_kind scalar.Pointer p here s

designated_kind : (by : By) (size align : ℕ) (p : Pointer) (here : Pos) (s : State)
    → IfGives (HasKind form.Place) (designated by size align p here s)
designated_kind by size align p here s = if_bind (HasKind form.Place)
    (reached (record { place = p; len = size; align = align; by = kind_of_reach by }) here s) (λ u s1. Gives (Ptr p) s1)
    (λ u s1. (p, refl))

record AreContents (change : Change) (c : Contents) : Type 0 where
  old : HasKind (changed_form change) c.old
  new : HasKind (changed_form change) c.new

updated_kind : (change : Change) (p : Pointer) (n : ℤ) (here : Pos) (s : State)
    → IfGives (AreContents change) (updated change p n here s)
updated_kind change p n here s = if_bind (AreContents change) (reached _ here s) _ (λ u s1.
    if_with (HasKind (changed_form change)) (AreContents change) (loaded (changed_scalar change) p here s1) _
    (old_kind change p here s1) (λ old s2 is_old.
    if_with (HasKind (changed_form change)) (AreContents change) (new_content change old n here s2) _
    (new_kind change old n here s2) (λ new s3 is_new.
    if_bind (AreContents change) (scalar_stored (changed_scalar change) p new here s3) _
    (λ v s4. record { old = is_old; new = is_new }))))

-- ---- how expressions are put together

abbrev pub YieldsKind : Form → Yield → Type 0
YieldsKind f x = HasKind f x.value

one_kind : (f : Form) (operand : Evaluates) (apply : Value → State → Evaluation Value) (made : List ℕ) (s : State)
    → ((v : Value) (s1 : State) → IfGives (HasKind f) (apply v s1))
    → IfGives (YieldsKind f) (of_one operand apply made s)
one_kind f operand apply made s all = if_bind (YieldsKind f) (operand made s) _ (λ x s1.
    if_with (HasKind f) (YieldsKind f) (apply x.value s1) _ (all x.value s1) (λ v s2 has. has))

-- where the kind of the operand counts
one_from : (g f : Form) (operand : Evaluates) (apply : Value → State → Evaluation Value) (made : List ℕ) (s : State)
    → IfGives (YieldsKind g) (operand made s)
    → ((v : Value) (s1 : State) → HasKind g v → IfGives (HasKind f) (apply v s1))
    → IfGives (YieldsKind f) (of_one operand apply made s)
one_from g f operand apply made s is all = if_with (YieldsKind g) (YieldsKind f) (operand made s) _ is (λ x s1 has.
    if_with (HasKind f) (YieldsKind f) (apply x.value s1) _ (all x.value s1 has) (λ v s2 so. so))

two_kind : (f : Form) (left right : Evaluates) (apply : Value → Value → State → Evaluation Value) (made : List ℕ)
    (s : State) → ((v w : Value) (s1 : State) → IfGives (HasKind f) (apply v w s1))
    → IfGives (YieldsKind f) (of_two left right apply made s)
two_kind f left right apply made s all = if_bind (YieldsKind f) (left made s) _ (λ x s1.
    one_kind f right (apply x.value) x.made s1 (all x.value))

two_if_kind : (f : Form) (number_first : Bool) (pointer number : Evaluates)
    (apply : Value → Value → State → Evaluation Value) (made : List ℕ) (s : State)
    → ((v w : Value) (s1 : State) → IfGives (HasKind f) (apply v w s1))
    → IfGives (YieldsKind f) (of_two_if number_first pointer number apply made s)
two_if_kind f false pointer number apply made s all = two_kind f pointer number apply made s all
two_if_kind f true pointer number apply made s all =
    two_kind f number pointer (λ n p. apply p n) made s (λ n p s1. all p n s1)

chosen_kind : (f : Form) (b : Bool) (x y : Evaluates) (made : List ℕ) (s : State)
    → IfGives (YieldsKind f) (x made s) → IfGives (YieldsKind f) (y made s)
    → IfGives (YieldsKind f) (one_of b x y made s)
chosen_kind f true x y made s is_x is_y = is_x
chosen_kind f false x y made s is_x is_y = is_y

test_kind : (f : Form) (test x y : Evaluates) (made : List ℕ) (s : State)
    → ((made1 : List ℕ) (s1 : State) → IfGives (YieldsKind f) (x made1 s1))
    → ((made1 : List ℕ) (s1 : State) → IfGives (YieldsKind f) (y made1 s1))
    → IfGives (YieldsKind f) (by_test test x y made s)
test_kind f test x y made s is_x is_y = if_bind (YieldsKind f) (test made s) _ (λ v s1.
    chosen_kind f (is_true v.value) x y v.made s1 (is_x v.made s1) (is_y v.made s1))

truth_kind : (operand : Evaluates) (made : List ℕ) (s : State)
    → IfGives (YieldsKind (form.Number I32)) (as_truth operand made s)
truth_kind operand made s = one_kind (form.Number I32) operand (λ v. Gives (told (is_true v))) made s
    (λ v s1. (truth (is_true v), refl))

object_kind : (size : ℕ) (made : List ℕ) (s : State)
    → IfGives (YieldsKind form.Place) (value_object size made s)
object_kind size made s = if_bind (YieldsKind form.Place) (automatic_made size s) _ (λ place s1. (place, refl))

argument_kind : (size : ℕ) (from : Pointer) (here : Pos) (made : List ℕ) (s : State)
    → IfGives (YieldsKind form.Place) (argument_object size from here made s)
argument_kind size from here made s =
    if_with (YieldsKind form.Place) (YieldsKind form.Place) (value_object size made s) _ (object_kind size made s)
    (λ x s1 is. if_bind (YieldsKind form.Place) (copied size (pointer_in x.value) from here s1) _ (λ u s2. is))

call_kind : (used : Bool) (gives : Option Content) (result : Pointer) (given : Option Value) (here : Pos) (s : State)
    → GivenFits (given_form gives) result given
    → IfGives (HasKind (given_form gives)) (call_value used gives result given here s)
call_kind used gives result (Some v) here s fits = given_kind (given_form gives) result v fits
call_kind true gives result None here s fits = tt
call_kind false gives result None here s fits = unused_kind gives result

pub called_gives : (type : CType) (gives : Option Content) (operands : Cores) → IsCalled type gives operands
    → CalledGives (called_type type) gives
called_gives (Plain (PointerType (Plain (Function result parameters variadic) quals)) quals2) gives operands is = is.0
called_gives _ gives operands is = absurd is

module _ (program : Program) (call : Call) (gives_kind : CallGives call) (held : List Held) where
  abbrev val : Core → Evaluates
  val core = value program call held core

  abbrev IsOf : Form → Core → Type 0
  IsOf f core = (made : List ℕ) (s : State) → IfGives (YieldsKind f) (val core made s)

  -- the form of a part is this one
  as_form : (f g : Form) (core : Core) → f ≡ g → IsOf f core → IsOf g core
  as_form f g core same is = subst (λ h. IsOf h core) same is

  assigned_kind : (scalar : Scalar) (p : Pointer) (v : Value) (f : Form) (here : Pos) (s : State) → HasKind f v
      → IfGives (HasKind f) (assigned scalar p v here s)
  assigned_kind scalar p v f here s is =
      if_bind (HasKind f) (scalar_stored scalar p v here s) (λ u s1. Gives v s1) (λ u s1. is)

  mutual
    pub value_kind : (names : Names) (core : Core) → CoreTyped names core → IsOf (form_of core) core
    value_kind names (At of here node) t made s = node_kind names here node t.1 made s

    node_kind : (names : Names) (here : Pos) (node : Node) → NodeTyped names node → (made : List ℕ) (s : State)
        → IfGives (YieldsKind (node_form node)) (node_value program call held here node made s)
    node_kind names here (tree.Number kind n) t made s = (n, refl)
    node_kind names here tree.Null t made s = (_, refl)
    node_kind names here (tree.Object name) t made s = (_, refl)
    node_kind names here (tree.Function name) t made s = (_, refl)
    node_kind names here (tree.Reach by size align pointer) t made s =
        one_kind form.Place (val pointer) (λ p. designated by size align (pointer_in p) here) made s
        (λ p s1. designated_kind by size align (pointer_in p) here s1)
    node_kind names here (tree.Member at place) t made s =
        one_kind form.Place (val place) (λ p. Gives (Ptr (member_place at (pointer_in p)))) made s
        (λ p s1. (member_place at (pointer_in p), refl))
    node_kind names here (tree.Load scalar place) t made s =
        one_kind (scalar_form scalar) (val place) (λ p. loaded scalar (pointer_in p) here) made s
        (λ p s1. loaded_kind scalar (pointer_in p) here s1)
    node_kind names here (tree.Narrow size place) t made s =
        one_kind form.Pointer (val place) (λ p. Gives (Ptr (array_pointer size (pointer_in p)))) made s
        (λ p s1. (array_pointer size (pointer_in p), refl))
    node_kind names here (tree.AddressOf place) t made s =
        as_form (form_of place) form.Place place t.0 (value_kind names place t.1) made s
    node_kind names here (tree.Convert kind operand) t made s =
        one_kind (form.Number kind) (val operand) (λ a. Gives (Num (converted_to kind (number_in a)))) made s
        (λ a s1. (converted_to kind (number_in a), refl))
    node_kind names here (tree.Retype pointer) t made s =
        as_form (form_of pointer) form.Pointer pointer t.0 (value_kind names pointer t.1) made s
    node_kind names here (tree.NotNull pointer) t made s =
        one_kind (form.Number I32) (val pointer) (λ p. Gives (told (not (is_null (pointer_in p))))) made s
        (λ p s1. (truth (not (is_null (pointer_in p))), refl))
    node_kind names here (tree.IsNull pointer) t made s =
        one_kind (form.Number I32) (val pointer) (λ p. Gives (told (is_null (pointer_in p)))) made s
        (λ p s1. (truth (is_null (pointer_in p)), refl))
    node_kind names here (tree.Discard operand) t made s =
        one_kind form.Nothing (val operand) (λ a. Gives Nothing) made s (λ a s1. tt)
    node_kind names here (tree.Negate kind operand) t made s =
        one_kind (form.Number kind) (val operand) (λ a. computed (negation kind (number_in a)) here) made s
        (λ a s1. computed_kind kind (negation kind (number_in a)) here s1)
    node_kind names here (tree.Flip kind operand) t made s =
        one_kind (form.Number kind) (val operand) (λ a. Gives (Num (complement kind (number_in a)))) made s
        (λ a s1. (complement kind (number_in a), refl))
    node_kind names here (tree.Not operand) t made s =
        one_kind (form.Number I32) (val operand) (λ a. Gives (told (is_zero (number_in a)))) made s
        (λ a s1. (truth (is_zero (number_in a)), refl))
    node_kind names here (tree.Arithmetic operator kind left right) t made s =
        two_kind (form.Number kind) (val left) (val right)
        (λ a b. computed (operator_outcome operator kind (number_in a) (number_in b)) here) made s
        (λ a b s1. computed_kind kind (operator_outcome operator kind (number_in a) (number_in b)) here s1)
    node_kind names here (tree.Compare comparison left right) t made s =
        two_kind (form.Number I32) (val left) (val right)
        (λ a b. Gives (told (compares comparison (number_in a) (number_in b)))) made s
        (λ a b s1. (truth (compares comparison (number_in a) (number_in b)), refl))
    node_kind names here (tree.Same equal left right) t made s =
        two_kind (form.Number I32) (val left) (val right)
        (λ p q. Gives (told (same_bool equal (same_pointer (pointer_in p) (pointer_in q))))) made s
        (λ p q s1. (truth (same_bool equal (same_pointer (pointer_in p) (pointer_in q))), refl))
    node_kind names here (tree.Order relation left right) t made s =
        two_kind (form.Number I32) (val left) (val right)
        (λ p q. told_if_found (ordered relation (pointer_in p) (pointer_in q)) here) made s
        (λ p q s1. found_kind (ordered relation (pointer_in p) (pointer_in q)) here s1)
    node_kind names here (tree.Step stride number_first pointer number) t made s =
        two_if_kind form.Pointer number_first (val pointer) (val number)
        (λ p n. pointer_moved (moved stride (pointer_in p) (number_in n)) here) made s
        (λ p n s1. moved_kind (moved stride (pointer_in p) (number_in n)) here s1)
    node_kind names here (tree.Difference size left right) t made s =
        two_kind (form.Number I64) (val left) (val right)
        (λ p q s1. bind (found (difference size (pointer_in p) (pointer_in q)) here s1) (λ n s2. Gives (Num n) s2)) made
        s
        (λ p q s1. if_bind (HasKind (form.Number I64)) (found (difference size (pointer_in p) (pointer_in q)) here s1)
        (λ n s2. Gives (Num n) s2) (λ n s2. (n, refl)))
    node_kind names here (tree.AndAlso left right) t made s =
        test_kind (form.Number I32) (val left) (as_truth (val right)) (yields (told false)) made s
        (truth_kind (val right)) (λ made1 s1. (truth false, refl))
    node_kind names here (tree.OrElse left right) t made s =
        test_kind (form.Number I32) (val left) (yields (told true)) (as_truth (val right)) made s
        (λ made1 s1. (truth true, refl)) (truth_kind (val right))
    node_kind names here (tree.Cond test first second) t made s =
        test_kind (form_of first) (val test) (val first) (val second) made s (value_kind names first t.2)
        (as_form (form_of second) (form_of first) second t.3 (value_kind names second t.4))
    node_kind names here (tree.Comma left right) t made s =
        if_bind (YieldsKind (form_of right)) (val left made s) _ (λ x s1. value_kind names right t.2 x.made s1)
    node_kind names here (tree.Assign scalar place operand) t made s =
        if_bind (YieldsKind (scalar_form scalar)) (val place made s) _ (λ x s1.
        one_from (scalar_form scalar) (scalar_form scalar) (val operand)
        (λ a. assigned scalar (pointer_in x.value) a here) x.made s1
        (as_form (form_of operand) (scalar_form scalar) operand t.2 (value_kind names operand t.3) x.made s1)
        (λ a s2 is. assigned_kind scalar (pointer_in x.value) a (scalar_form scalar) here s2 is))
    node_kind names here (tree.AssignWhole size place operand) t made s =
        if_with (YieldsKind form.Place) (YieldsKind form.Place) (val place made s) _
        (as_form (form_of place) form.Place place t.1 (value_kind names place t.2) made s) (λ x s1 is.
        one_kind form.Place (val operand)
        (λ q s2. bind (copied size (pointer_in x.value) (pointer_in q) here s2) (λ u s3. Gives x.value s3)) x.made s1
        (λ q s2. if_bind (HasKind form.Place) (copied size (pointer_in x.value) (pointer_in q) here s2)
        (λ u s3. Gives x.value s3) (λ u s3. is)))
    node_kind names here (tree.Update change place number) t made s =
        two_kind (changed_form change) (val place) (val number)
        (λ p n s1. bind (updated change (pointer_in p) (number_in n) here s1) (λ c s2. Gives c.new s2)) made s
        (λ p n s1.
        if_with (AreContents change) (HasKind (changed_form change))
        (updated change (pointer_in p) (number_in n) here s1) (λ c s2. Gives c.new s2)
        (updated_kind change (pointer_in p) (number_in n) here s1) (λ c s2 are. are.new))
    node_kind names here (tree.Postfix change place) t made s =
        one_kind (changed_form change) (val place)
        (λ p s1. bind (updated change (pointer_in p) (pos 1) here s1) (λ c s2. Gives c.old s2)) made s (λ p s1.
        if_with (AreContents change) (HasKind (changed_form change)) (updated change (pointer_in p) (pos 1) here s1)
        (λ c s2. Gives c.old s2)
        (updated_kind change (pointer_in p) (pos 1) here s1) (λ c s2 are. are.old))
    node_kind names here (tree.Call used gives function operands) t made s =
        if_bind (YieldsKind (given_form gives)) (val function made s) _ (λ f s1.
        if_bind (YieldsKind (given_form gives)) (values program call held operands f.made s1) _ (λ args s2.
        if_bind (YieldsKind (given_form gives)) (result_object gives args.made s2) _ (λ x s3.
        if_with (GivenFits (given_form gives) (pointer_in x.value)) (YieldsKind (given_form gives))
        (call (type_in function) (pointer_in f.value) (arguments operands args.values) (pointer_in x.value) here s3) _
        (gives_kind (type_in function) gives (called_gives (type_in function) gives operands t.3) (pointer_in f.value)
        (arguments operands args.values) (pointer_in x.value) here s3) (λ given s4 fits.
        if_with (HasKind (given_form gives)) (YieldsKind (given_form gives))
        (call_value used gives (pointer_in x.value) given here s4) _
        (call_kind used gives (pointer_in x.value) given here s4 fits) (λ v s5 has. has)))))
    node_kind names here (tree.ValueObject size operand) t made s =
        if_bind (YieldsKind form.Place) (val operand made s) _
        (λ x s1. argument_kind size (pointer_in x.value) here x.made s1)
