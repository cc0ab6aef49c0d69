-- What the functions of the program ensure: they answer what the walk does, unless memory runs out.
use Rattle.std.specs.Prelude.{◌≡◌, ℤ, List, Option, Result, Ok, Err}
use Rattle.c_types.specs.declared.shape.TypeId.{TypeId}
use Rattle.c_types.specs.CType.{CType, type_of}
use Rattle.c_types.specs.Making.{Grows}
use Rattle.c_types.specs.Types.{Types}
use Rattle.c_core.specs.declared.fault.TypeFault.{TypeFault}
use Rattle.c_core.specs.declared.fault.TypeFault.TheVariants as fault
use Rattle.c_core.specs.Ids.{IdIn}
use Rattle.c_scopes.specs.Clauses.{type_or_none, OptionIn}
use Rattle.c_scopes.specs.Env.{Env, env_of, ScopesIn}
use Rattle.c_scopes.specs.Scopes.{Scope}
use Rattle.c_type_parts.specs.Answers.{Answer, Gives, Refuses}

-- The scopes and the table have become what the rules see as this environment.
pub record Becomes (after : Env) (old : Types) (scopes : List Scope) (types : Types) : Type 0 where
  pub is : env_of scopes types ≡ after
  pub here : ScopesIn types scopes
  pub grown : Grows old types

-- likewise, and there is a type, which the id stands for
pub record BecomesWith (type : CType) (after : Env) (old : Types) (scopes : List Scope) (types : Types) (id : TypeId)
    : Type 0 where
  pub stands_for : type_of types id ≡ type
  pub is_in : IdIn types id
  pub becomes : Becomes after old scopes types

-- The walk gives this, and the environment that the scopes and the table are now.
pub record Given {A : Type 0} (answer : Answer A) (a : A) (In : Types → Type 0) (old : Types) (scopes : List Scope)
    (types : Types) : Type 0 where
  pub is : answer ≡ Gives a (env_of scopes types)
  pub is_in : In types
  pub here : ScopesIn types scopes
  pub grown : Grows old types

abbrev pub Refused : {A : Type 0} → Answer A → TypeFault → Type 0
Refused answer (fault.Constraint number at) = answer ≡ Refuses number at
Refused answer (fault.Memory _) = Unit {0}

module _ {A B : Type 0} (view : Types → B → A) (In : Types → B → Type 0) where
  -- what is answered is what the walk answers
  abbrev pub Answers : Answer A → Types → List Scope → Types → Result B TypeFault → Type 0
  Answers answer old scopes types (Ok x) = Given answer (view types x) (λ t. In t x) old scopes types
  Answers answer old scopes types (Err e) = Refused answer e

abbrev pub AnswersType : Answer CType → Types → List Scope → Types → Result TypeId TypeFault → Type 0
AnswersType = Answers type_of IdIn

abbrev pub AnswersOption : Answer (Option CType) → Types → List Scope → Types → Result (Option TypeId) TypeFault
    → Type 0
AnswersOption = Answers type_or_none OptionIn

-- nothing but what is in scope behind
abbrev pub AnswersUnit : Answer (Unit {0}) → Types → List Scope → Types → Result (Unit {0}) TypeFault → Type 0
AnswersUnit = Answers (λ types done. done) (λ types done. Unit {0})

abbrev pub AnswersNumber : Answer ℤ → Types → List Scope → Types → Result ℤ TypeFault → Type 0
AnswersNumber = Answers (λ types n. n) (λ types n. Unit {0})

abbrev pub AnswersValue : Answer (Option ℤ) → Types → List Scope → Types → Result (Option ℤ) TypeFault → Type 0
AnswersValue = Answers (λ types value. value) (λ types value. Unit {0})
