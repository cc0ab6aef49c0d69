-- Values of compatible types have the same forms, so a function takes what is passed to it through a compatible type,
-- and gives what that type gives (6.5.2.2p9).
use Rattle.std.proofs.Common.{◌≡◌, ◌∙◌, ℕ, ◌==◌, Bool, true, false, not, ◌&&◌, ◌||◌, List, [], ◌∷◌, refl, sym, ap}
use Rattle.std.proofs.Common.{subst}
use Rattle.std.proofs.Common.{Option, Some, map, eqb-true, unwrap_or}
use Rattle.std.specs.List.{slice_index_or}
use Rattle.lib_defs.specs.declared.value.Value.{Value}
use Rattle.c_types.specs.declared.basic.Basic.{Basic}
use Rattle.c_types.specs.declared.basic.Basic.TheVariants as b
use Rattle.c_types.specs.declared.shape.Quals.{Quals}
use Rattle.c_types.specs.CType.{CType, CTypes, Bare, Plain, Array, BasicType, Pointer, Function, Compound, Enumerated}
use Rattle.c_types.specs.CType.{Nil, Cons, number_of}
use Rattle.c_types.specs.Compatible.{compatible, agree, bare_agree, all_agree, same_bool, same_quals}
use Rattle.c_types.specs.Layouts.{kind_of}
use Rattle.c_core.specs.declared.form.Form.{Form}
use Rattle.c_core.specs.declared.form.Content.{Content}
use Rattle.c_core.specs.declared.form.Content.TheVariants as content
use Rattle.c_core.specs.declared.form.Scalar.TheVariants as scalar
use Rattle.c_core.specs.Forms.{form_of, given_form, content_form}
use Rattle.c_core.specs.Tree.{Cores, NoCore, MoreCores}
use Rattle.c_core.specs.TreeUnit.{Parameter}
use Rattle.c_core.specs.Typed.{ArePassed}
use Rattle.c_core.specs.TypedUnit.{AreTaken, IsDefined}
use Rattle.c_core.specs.Types.{value_form, basic_form}
use Rattle.vm_code.specs.Calling.{fits_form, fit_parameters}
use Rattle.code_gen.specs.RunLaw.{HasKind, AreArguments}
use Rattle.code_gen.specs.UnitCode.{parameter_of}

-- ---- truth values

pub and_first : (x y : Bool) → (x && y) ≡ true → x ≡ true
and_first true y is = refl
and_first false y is = is

pub and_second : (x y : Bool) → (x && y) ≡ true → y ≡ true
and_second true y is = is
and_second false y is = absurd (let none : ⊥ = cc in none)

pub some_is : {A : Type 0} (a c : A) → Some a ≡ Some c → a ≡ c
some_is a c same = ap (λ o. unwrap_or o a) same

-- ---- basic types

abbrev all_basics : List Basic
all_basics = b.Void ∷ b.Bool ∷ b.Char ∷ b.SChar ∷ b.UChar ∷ b.Short ∷ b.UShort ∷ b.Int ∷ b.UInt ∷ b.Long ∷ b.ULong
    ∷ b.LongLong ∷ b.ULongLong ∷ []

abbrev basic_at : ℕ → Basic
basic_at n = slice_index_or all_basics n b.Void

basic_back : (basic : Basic) → basic_at (number_of basic) ≡ basic
basic_back b.Void = refl
basic_back _ = refl

pub basic_same : (x y : Basic) → (number_of x == number_of y) ≡ true → x ≡ y
basic_same x y is = sym (basic_back x) ∙ ap basic_at (eqb-true (number_of x) (number_of y) is) ∙ basic_back y

-- an enumerated type is an `int`
int_is : (x : Basic) → (number_of x == 7) ≡ true → x ≡ b.Int
int_is x is = basic_same x b.Int is

-- ---- the forms of values

bare_forms : (x y : Bare) (q r : Quals) → bare_agree x y ≡ true → value_form (Plain x q) ≡ value_form (Plain y r)
unfolding bare_agree
bare_forms (BasicType x) (BasicType y) q r is = ap (λ t. Some (basic_form (kind_of t))) (basic_same x y is)
bare_forms (BasicType x) (Enumerated n) q r is = ap (λ t. Some (basic_form (kind_of t))) (int_is x is)
bare_forms (Enumerated n) (BasicType y) q r is = sym (ap (λ t. Some (basic_form (kind_of t))) (int_is y is))
bare_forms (Enumerated m) (Enumerated n) q r is = refl
bare_forms (Compound m) (Compound n) q r is = refl
bare_forms (Pointer t) (Pointer u) q r is = refl
bare_forms (Function g ps v) (Function h qs w) q r is = refl
bare_forms _ _ q r is = absurd (let none : ⊥ = cc in none)

pub same_forms : (x y : CType) (strict : Bool) → agree x y strict ≡ true → value_form x ≡ value_form y
unfolding agree
same_forms (Plain x q) (Plain y r) strict is =
    bare_forms x y q r (and_second (not strict || same_quals q r) (bare_agree x y) is)
same_forms (Array t m) (Array u n) strict is = refl
same_forms _ _ strict is = absurd (let none : ⊥ = cc in none)

-- ---- arguments

-- values of these types
abbrev pub AreOfTypes : CTypes → List Value → Type 0
AreOfTypes Nil [] = Unit {0}
AreOfTypes (Cons type types) (v ∷ vs) =
    ((f : Form) × (value_form type ≡ Some f) × HasKind f v) × AreOfTypes types vs
AreOfTypes types vs = ⊥

-- values that these parameters take
abbrev pub AreTakenValues : List Parameter → List Value → Type 0
AreTakenValues [] [] = Unit {0}
AreTakenValues (p ∷ ps) (v ∷ vs) = HasKind (content_form p.content) v × AreTakenValues ps vs
AreTakenValues ps vs = ⊥

pub passed_of_types : (types : CTypes) (cores : Cores) (vs : List Value) → ArePassed types false cores
    → AreArguments cores vs → AreOfTypes types vs
passed_of_types Nil NoCore [] passed are = tt
passed_of_types Nil NoCore (v ∷ vs) passed are = absurd are
passed_of_types Nil (MoreCores first rest) vs passed are = absurd passed
passed_of_types (Cons type types) NoCore vs passed are = absurd passed
passed_of_types (Cons type types) (MoreCores first rest) [] passed are = absurd are
passed_of_types (Cons type types) (MoreCores first rest) (v ∷ vs) passed are =
    ((form_of first, passed.0, are.0), passed_of_types types rest vs passed.2 are.1)

taken_values : (types others : CTypes) (ps : List Parameter) (vs : List Value) → all_agree types others ≡ true
    → AreTaken others ps → AreOfTypes types vs → AreTakenValues ps vs
unfolding all_agree
taken_values Nil Nil [] [] is taken are = tt
taken_values Nil Nil [] (v ∷ vs) is taken are = absurd are
taken_values Nil Nil (p ∷ ps) vs is taken are = absurd taken
taken_values Nil (Cons other others) ps vs is taken are = absurd (let none : ⊥ = cc in none)
taken_values (Cons type types) Nil ps vs is taken are = absurd (let none : ⊥ = cc in none)
taken_values (Cons type types) (Cons other others) [] vs is taken are = absurd taken
taken_values (Cons type types) (Cons other others) (p ∷ ps) [] is taken are = absurd are
taken_values (Cons type types) (Cons other others) (p ∷ ps) (v ∷ vs) is taken are =
    let one : value_form type ≡ value_form other =
    same_forms type other false (and_first (agree type other false) (all_agree types others) is) in
    let same : are.0.0 ≡ content_form p.content =
    some_is are.0.0 (content_form p.content) (sym are.0.1 ∙ one ∙ taken.0) in (
      subst (λ f. HasKind f v) same are.0.2,
      taken_values types others ps vs (and_second (agree type other false) (all_agree types others) is) taken.1 are.1,
    )

-- a function of the unit, and a type through which it may be called
pub record Agrees (result : CType) (types : CTypes) (variadic : Bool) (ps : List Parameter) (gives : Option Content)
    : Type 0 where
  pub fixed : variadic ≡ false
  pub form_is : value_form result ≡ Some (given_form gives)
  pub takes : (vs : List Value) → AreOfTypes types vs → AreTakenValues ps vs

not_variadic : (v : Bool) → same_bool v false ≡ true → v ≡ false
not_variadic true is = absurd (let none : ⊥ = cc in none)
not_variadic false is = refl

pub defined_agrees : (type result : CType) (types : CTypes) (variadic : Bool) (quals : Quals) (ps : List Parameter)
    (gives : Option Content) → IsDefined type ps gives
    → compatible (Plain (Function result types variadic) quals) type ≡ true → Agrees result types variadic ps gives
unfolding agree bare_agree
defined_agrees (Plain (Function other others false) quals2) result types variadic quals ps gives t is =
    let both : ((agree result other true && same_bool variadic false) && all_agree types others) ≡ true =
    and_second (not true || same_quals quals quals2)
    ((agree result other true && same_bool variadic false) && all_agree types others) is in
    let front : (agree result other true && same_bool variadic false) ≡ true =
    and_first (agree result other true && same_bool variadic false) (all_agree types others) both in
    record {
      fixed = not_variadic variadic (and_second (agree result other true) (same_bool variadic false) front);
      form_is = same_forms result other true (and_first (agree result other true) (same_bool variadic false) front)
          ∙ t.0;
      takes = λ vs are. taken_values types others ps vs
          (and_second (agree result other true && same_bool variadic false) (all_agree types others) both) t.1 are;
    }
defined_agrees _ result types variadic quals ps gives t is = absurd t

-- ---- the parameters of the code

kind_fits : (c : Content) (v : Value) → HasKind (content_form c) v → fits_form (content_form c) v ≡ true
kind_fits (content.Scalar (scalar.Number kind)) v has = rw has.1 refl
kind_fits (content.Scalar scalar.Pointer) v has = rw has.1 refl
kind_fits (content.Whole size) v has = rw has.1 refl

pub values_fit : (ps : List Parameter) (vs : List Value) → AreTakenValues ps vs
    → fit_parameters (map parameter_of ps) vs ≡ true
values_fit [] [] are = refl
values_fit [] (v ∷ vs) are = absurd are
values_fit (p ∷ ps) [] are = absurd are
values_fit (p ∷ ps) (v ∷ vs) are = rw (kind_fits p.content v are.0) (values_fit ps vs are.1)
