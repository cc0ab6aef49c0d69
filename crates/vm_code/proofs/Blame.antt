-- One instruction is blamed at most, and none exactly where the code is valid.
use Rattle.std.proofs.Common.{◌≡◌, ◌≢◌, ◌⊎◌, inl, inr, ℕ, zero, suc, ◌<◌, ◌==◌, map}
use Rattle.std.proofs.Common.{refl, arith, if◌then◌else◌}
use Rattle.acc_num.specs.declared.kind.IntKind.TheVariants as k
use Rattle.c_core.specs.declared.form.Form.{Form}
use Rattle.c_core.specs.declared.form.Form.TheVariants as form
use Rattle.vm_code.specs.declared.parts.Parameter.{Parameter}
use Rattle.vm_code.specs.declared.parts.CodeFunction.{CodeFunction}
use Rattle.vm_code.specs.declared.parts.CodeCalled.{CodeCalled}
use Rattle.vm_code.specs.Contents.{Contents}
use Rattle.vm_code.specs.Valid.{HasType, IsValid}
use Rattle.vm_code.specs.FirstFault.{FailsFirst, Misfits, IsBlamed, FirstFault, FirstMisfit, BlameIsFair}
use Rattle.vm_code.proofs.KindsAlike.{alike_by_number, lists_alike}
use Rattle.vm_code.proofs.Faults.{faults_are_there}

-- ---- whether a function has a type is decided

abbrev number_of : Form → ℕ
number_of (form.Number k.Bool) = 1
number_of (form.Number k.I8) = 2
number_of (form.Number k.U8) = 3
number_of (form.Number k.I16) = 4
number_of (form.Number k.U16) = 5
number_of (form.Number k.I32) = 6
number_of (form.Number k.U32) = 7
number_of (form.Number k.I64) = 8
number_of (form.Number k.U64) = 9
number_of form.Pointer = 10
number_of form.Place = 11
number_of form.Nothing = 12

abbrev numbered : ℕ → Form
numbered n =
    if n == 1 then form.Number k.Bool else
    if n == 2 then form.Number k.I8 else
    if n == 3 then form.Number k.U8 else
    if n == 4 then form.Number k.I16 else
    if n == 5 then form.Number k.U16 else
    if n == 6 then form.Number k.I32 else
    if n == 7 then form.Number k.U32 else
    if n == 8 then form.Number k.I64 else
    if n == 9 then form.Number k.U64 else
    if n == 10 then form.Pointer else
    if n == 11 then form.Place else
    form.Nothing

numbered_back : (f : Form) → numbered (number_of f) ≡ f
numbered_back (form.Number k.Bool) = refl
numbered_back (form.Number k.I8) = refl
numbered_back (form.Number k.U8) = refl
numbered_back (form.Number k.I16) = refl
numbered_back (form.Number k.U16) = refl
numbered_back (form.Number k.I32) = refl
numbered_back (form.Number k.U32) = refl
numbered_back (form.Number k.I64) = refl
numbered_back (form.Number k.U64) = refl
numbered_back form.Pointer = refl
numbered_back form.Place = refl
numbered_back form.Nothing = refl

forms_alike : (a b : Form) → (a ≡ b) ⊎ (a ≢ b)
forms_alike = alike_by_number number_of numbered numbered_back

typed : (called : CodeCalled) (f : CodeFunction) → (f.form ≡ called.form) ⊎ (f.form ≢ called.form)
    → (map (λ (p : Parameter). p.form) f.parameters ≡ called.arguments)
    ⊎ (map (λ (p : Parameter). p.form) f.parameters ≢ called.arguments) → HasType called f ⊎ (HasType called f → ⊥)
typed called f (inl gives) (inl takes) = inl (record { gives = gives; takes = takes })
typed called f (inl gives) (inr differ) = inr (λ has. differ has.takes)
typed called f (inr differ) takes = inr (λ has. differ has.gives)

type_decided : (called : CodeCalled) (f : CodeFunction) → HasType called f ⊎ (HasType called f → ⊥)
type_decided called f = typed called f (forms_alike f.form called.form)
    (lists_alike forms_alike (map (λ (p : Parameter). p.form) f.parameters) called.arguments)

-- ---- where nothing is first, there is nothing

abbrev NoneIsFirst : (ℕ → Type 0) → Type 0
NoneIsFirst P = (at : ℕ) → P at → ((before : ℕ) → before < at → P before → ⊥) → ⊥

none_below : (P : ℕ → Type 0) → NoneIsFirst P → (n at : ℕ) → at < n → P at → ⊥
none_below P none zero at below is = let no : ⊥ = omega (arith, below) in no
none_below P none (suc n) at below is =
    none at is (λ before less there. none_below P none n before (omega (arith, below, less)) there)

nowhere : (P : ℕ → Type 0) → NoneIsFirst P → (at : ℕ) → P at → ⊥
nowhere P none at is = none_below P none (suc at) at (omega arith) is

-- ---- blame

same_place : (a b : ℕ) → (a < b → ⊥) → (b < a → ⊥) → a ≡ b
same_place a b not_less not_more = omega (arith, not_less, not_more)

module _ (code : Contents) where
  one_blamed : (a b : ℕ) → IsBlamed code a → IsBlamed code b → a ≡ b
  one_blamed a b (FirstFault fails first) (FirstFault others later) =
      same_place a b (λ less. later a less fails) (λ more. first b more others)
  one_blamed a b (FirstFault fails first) (FirstMisfit none others later) = absurd (none a fails)
  one_blamed a b (FirstMisfit none misfits first) (FirstFault others later) = absurd (none b others)
  one_blamed a b (FirstMisfit none misfits first) (FirstMisfit none_either others later) =
      same_place a b (λ less. later a less misfits) (λ more. first b more others)

  blames_none : IsValid code → (at : ℕ) → IsBlamed code at → ⊥
  blames_none valid at (FirstFault fails first) = (faults_are_there code).1 valid.holds at fails
  blames_none valid at (FirstMisfit none m first) =
      m.differs (valid.own m.type m.called m.is m.number m.f m.listed m.found)

  is_valid : ((at : ℕ) → IsBlamed code at → ⊥) → IsValid code
  is_valid none = record {
    holds = (faults_are_there code).0 none_fails;
    own = λ type called is number f listed found. elim (type_decided called f) [
      | inl has ↦ has
      | inr differs ↦ absurd (none_misfits f.start (record {
        type = type;
        called = called;
        is = is;
        number = number;
        f = f;
        listed = listed;
        found = found;
        starts = refl;
        differs = differs;
      }))
    ];
  }
    where
      none_fails : (at : ℕ) → FailsFirst code at → ⊥
      none_fails = nowhere (FailsFirst code) (λ at fails first. none at (FirstFault fails first))

      none_misfits : (at : ℕ) → Misfits code at → ⊥
      none_misfits = nowhere (Misfits code) (λ at misfits first. none at (FirstMisfit
          (nowhere (FailsFirst code) (λ place fails before. none place (FirstFault fails before))) misfits first))

pub blame_is_fair : BlameIsFair
blame_is_fair code = record { one = one_blamed code; none = (is_valid code, blames_none code) }
