-- Derivations one by one, the names of parameters let go.
use Rattle.std.proofs.Common.{◌≡◌, ◌∙◌, ◌<◌, ap, refl, sym, subst, ℕ, All, List, [], ◌∷◌, ◌++◌, Bool, map}
use Rattle.std.proofs.lemmas.List.{map_push}
use Rattle.std.specs.Global.{Global}
use Rattle.std.specs.Prelude.{◌&&◌, Box, Option, Some, None, IfSome}
use Rattle.critical_table.specs.declared.pos.Pos.{Pos}
use Rattle.c_syntax.specs.declared.declarator.Declarator as c
use Rattle.c_syntax.specs.declared.expression.Expr as x
use Rattle.c_syntax.specs.declared.specifier.Qualifier.{Qualifier}
use Rattle.c_syntax.specs.Tree.{Declarator, Maybe, Parameters, PointerTo, ArrayOf, FunctionOf}
use Rattle.c_syntax.specs.View.{declarator_of, value_of}
use Rattle.c_types.specs.declared.shape.Quals.{Quals}
use Rattle.c_types.specs.declared.shape.TypeId.{TypeId}
use Rattle.c_types.specs.CType.{CType, CTypes, all_types, types_at}
use Rattle.c_types.specs.Making.{Grows}
use Rattle.c_types.specs.Types.{Types}
use Rattle.c_types.proofs.Kept.{grows_own}
use Rattle.c_core.specs.declared.fault.TypeFault.{TypeFault}
use Rattle.c_core.specs.Ids.{IdIn}
use Rattle.c_scopes.specs.Env.{Env, ScopesIn, env_of}
use Rattle.c_scopes.specs.Scopes.{Scope, no_names}
use Rattle.c_type_rules.specs.declared.functions.ParameterList.{ParameterList}
use Rattle.c_type_rules.specs.Qualified.{quals_of_words}
use Rattle.c_type_parts.specs.declared.derivations.Around.{Around}
use Rattle.c_type_parts.specs.declared.derivations.Derivation.TheVariants as d
use Rattle.c_type_parts.specs.declared.derivations.Derived as e
use Rattle.c_type_parts.specs.Answers.{Answer, Gives, Refuses, and_then, settle}
use Rattle.c_type_parts.specs.Clauses.{Given, Refused}
use Rattle.c_type_parts.specs.Declaring.{Derived, ToArray, ToPointer, ToFunction, array_derived, derivation_place}
use Rattle.c_type_parts.specs.Declaring.{derivation_rule, derived_type, function_derived, is_alone, is_first}
use Rattle.c_type_parts.specs.Declaring.{length_place, of_derivations, plain_derived}
use Rattle.c_type_parts.specs.Environments.{scope_entered, scope_left}
use Rattle.c_type_parts.specs.Seen.{DerivationIn, DerivedIn, derived_list, derived_of}
use Rattle.c_type_parts.proofs.Deriving.{derivation_stays, derivation_stays_in}
use Rattle.c_type_parts.proofs.Onward.{Onward, part_given, part_refused}
use Rattle.c_type_parts.proofs.Steps.{refused_as, refused_then, then_given}
use Rattle.c_expr.specs.Derivations.{left_behind, without_name, without_names}
use Rattle.c_expr.specs.Typing.{array_length, derived, parameters_typed}

-- ---- the type of a declarator reads no name

-- with the names of parameters or without them
type_without_names : (name_at : Option Pos) (around : Pos) (base : CType) (all : List Derived) (env : Env)
    → derived_type name_at around base (map without_name all) env ≡ derived_type name_at around base all env
unfolding derived_type
type_without_names name_at around base [] env = refl
type_without_names name_at around base (first ∷ outer) env =
    ap (λ (answer : Answer CType). and_then answer (λ type env.
    settle (derivation_place name_at around first.length_at) env
    (derivation_rule env.structures type first.derivation)))
    (type_without_names name_at around base outer env)

-- the type by derivations without names
pub of_nameless : (name_at : Option Pos) (around : Pos) (base : CType) (answer : Answer (List Derived))
    → of_derivations name_at around base answer
    ≡ and_then (without_names answer) (λ all env. derived_type name_at around base all env)
unfolding of_derivations and_then
of_nameless name_at around base (Gives all env) = sym (type_without_names name_at around base all env)
of_nameless name_at around base (Refuses number at) = refl

-- ---- one more derivation

-- whether there is one, with names or without
first_without_names : (all : List Derived) → is_first all ≡ is_first (map without_name all)
first_without_names [] = refl
first_without_names (first ∷ rest) = refl

-- behind other derivations, a step that lets names go as they do
behind_derived : (part : Answer (List Derived)) (next other : List Derived → Env → Answer (List Derived))
    → ((all : List Derived) (env : Env) → without_names (next all env) ≡ other (map without_name all) env)
    → without_names (and_then part next) ≡ and_then (without_names part) other
unfolding and_then
behind_derived (Gives all env) next other same = same all env
behind_derived (Refuses number at) next other same = refl

-- behind any other part
behind_part : {A : Type 0} (part : Answer A) (next other : A → Env → Answer (List Derived))
    → ((a : A) (env : Env) → without_names (next a env) ≡ other a env)
    → without_names (and_then part next) ≡ and_then part other
unfolding and_then
behind_part (Gives a env) next other same = same a env
behind_part (Refuses number at) next other same = refl

-- a derivation behind others
with_last : (all : List Derived) (last : Derived) (env : Env)
    → without_names (Gives (all ++ last ∷ []) env) ≡ Gives (map without_name all ++ without_name last ∷ []) env
unfolding and_then
with_last all last env = ap (λ all. Gives all env) (map_push without_name all last)

abbrev pub pointer_next : List Qualifier → List Derived → Env → Answer (List Derived)
pointer_next words all env = Gives (all ++ plain_derived (ToPointer (quals_of_words words)) ∷ []) env

-- `* qualifiers declarator`
pub pointer_step : (around : Around) (words : List Qualifier) (inner : Declarator) (env : Env)
    → without_names (derived around (PointerTo words inner) env)
    ≡ and_then (without_names (derived around inner env)) (pointer_next words)
unfolding derived
pointer_step around words inner env =
    behind_derived (derived around inner env) (pointer_next words) (pointer_next words)
    (λ all env. with_last all (plain_derived (ToPointer (quals_of_words words))) env)

abbrev pub length_next : Maybe → List Derived → Option ℕ → Env → Answer (List Derived)
length_next length all n env = Gives (all ++ array_derived length n ∷ []) env

abbrev pub array_next : Maybe → List Derived → Env → Answer (List Derived)
array_next length all env = and_then (array_length length env) (length_next length all)

-- `declarator [ length ]`
pub array_step : (around : Around) (inner : Declarator) (length : Maybe) (env : Env)
    → without_names (derived around (ArrayOf inner length) env)
    ≡ and_then (without_names (derived around inner env)) (array_next length)
unfolding derived
array_step around inner length env =
    behind_derived (derived around inner env) (array_next length) (array_next length) (λ all env.
    behind_part (array_length length env) (length_next length all) (length_next length (map without_name all))
    (λ n env. with_last all (array_derived length n) env))

-- a function whose parameters are known, behind these derivations
abbrev pub function_last : CTypes → Bool → Bool → Derived
function_last types variadic may_vary = plain_derived (ToFunction types variadic may_vary)

abbrev pub types_next : Around → Bool → List Derived → CTypes → Env → Answer (List Derived)
types_next around variadic all types env =
    Gives (all ++ function_last types variadic (around.may_vary && is_first all) ∷ []) env

abbrev pub function_next : Around → Parameters → Bool → List Derived → Env → Answer (List Derived)
function_next around parameters variadic all env =
    and_then (left_behind (parameters_typed around.at (is_alone parameters variadic) parameters 0 (scope_entered env)))
    (types_next around variadic all)

-- the parameters' names are let go, and their scope is left
behind_left : (around : Around) (variadic : Bool) (all : List Derived) (part : Answer CTypes)
    → without_names (and_then part (λ types env.
    Gives (all ++ function_derived types variadic (around.may_vary && is_first all) env ∷ []) (scope_left env)))
    ≡ and_then (left_behind part) (types_next around variadic (map without_name all))
unfolding and_then
behind_left around variadic all (Gives types env) =
    with_last all (function_derived types variadic (around.may_vary && is_first all) env) (scope_left env)
    ∙ ap (λ (first : Bool). Gives (map without_name all ++ function_last types variadic (around.may_vary && first) ∷ [])
    (scope_left env)) (first_without_names all)
behind_left around variadic all (Refuses number at) = refl

-- `declarator ( parameters )`
pub function_step : (around : Around) (inner : Declarator) (parameters : Parameters) (variadic : Bool) (env : Env)
    → without_names (derived around (FunctionOf inner parameters variadic) env)
    ≡ and_then (without_names (derived around inner env)) (function_next around parameters variadic)
unfolding derived
function_step around inner parameters variadic env =
    behind_derived (derived around inner env) (λ all env.
    and_then (parameters_typed around.at (is_alone parameters variadic) parameters 0 (scope_entered env)) (λ types env.
    Gives (all ++ function_derived types variadic (around.may_vary && is_first all) env ∷ []) (scope_left env)))
    (function_next around parameters variadic) (λ all env.
    behind_left around variadic all
    (parameters_typed around.at (is_alone parameters variadic) parameters 0 (scope_entered env)))

-- ---- the same by what the program holds

module _ (old new : Types) (grown : Grows old new) where
  -- what they are stays
  list_stays : (all : List e.Derived) → DerivedIn old all → derived_list new all ≡ derived_list old all
  list_stays [] h = refl
  list_stays (first ∷ rest) h = λ i. record {
    derivation = derivation_stays old new grown first.derivation h.0 i;
    length_at = first.length_at;
    parameters = no_names;
  } ∷ list_stays rest h.1 i

  -- and each id in them is the table's
  list_stays_in : (all : List e.Derived) → DerivedIn old all → DerivedIn new all
  list_stays_in [] h = tt
  list_stays_in (first ∷ rest) h =
      (derivation_stays_in old new grown first.derivation h.0, list_stays_in rest h.1)

-- of one more likewise
last_in : (types : Types) (all : List e.Derived) (last : e.Derived) → DerivedIn types all
    → DerivationIn types last.derivation → DerivedIn types (all ++ last ∷ [])
last_in types [] last h is_in = (is_in, tt)
last_in types (first ∷ rest) last h is_in = (h.0, last_in types rest last h.1 is_in)

-- a derivation behind those that a table had before
pub last_given : (whole : Answer (List Derived)) (old mid new : Types) (scopes : List Scope) (all more : List e.Derived)
    (last : e.Derived) → Onward whole (Gives (derived_list mid all ++ derived_of new last ∷ []) (env_of scopes new)) old
    scopes new → Grows mid new → DerivedIn mid all → DerivationIn new last.derivation → more ≡ all ++ last ∷ []
    → Given whole (derived_list new more) (λ t. DerivedIn t more) old scopes new
last_given whole old mid new scopes all more last on grown all_in is_in same = record {
  is = on.is ∙ ap (λ (derived : List Derived). Gives (derived ++ derived_of new last ∷ []) (env_of scopes new))
      (sym (list_stays mid new grown all all_in))
      ∙ ap (λ (derived : List Derived). Gives derived (env_of scopes new)) (sym (map_push (derived_of new) all last))
      ∙ ap (λ (all : List e.Derived). Gives (derived_list new all) (env_of scopes new)) (sym same);
  is_in = subst (λ (all : List e.Derived). DerivedIn new all) (sym same)
      (last_in new all last (list_stays_in mid new grown all all_in) is_in);
  here = on.here;
  grown = on.grown;
}

module _ (whole : Answer (List Derived)) (around : Around) (inner : Declarator) (env : Env) (old mid : Types)
    (before : List Scope) (all more : List e.Derived)
    (given : Given (without_names (derived around inner env)) (derived_list mid all) (λ t. DerivedIn t all) old before
    mid) where
  -- behind the inner declarator
  inner_given : (next : List Derived → Env → Answer (List Derived))
      → whole ≡ and_then (without_names (derived around inner env)) next
      → Onward whole (next (derived_list mid all) (env_of before mid)) old before mid
  inner_given next e = record {
    is = e ∙ then_given (without_names (derived around inner env)) (derived_list mid all) (env_of before mid) next
        given.is;
    here = given.here;
    grown = given.grown;
  }

  -- a pointer with these qualifiers
  pub pointer_given : (words : List Qualifier) (quals : Quals)
      → whole ≡ without_names (derived around (PointerTo words inner) env) → quals ≡ quals_of_words words
      → more ≡ all ++ record { derivation = d.Pointer quals; length_at = None } ∷ []
      → Given whole (derived_list mid more) (λ t. DerivedIn t more) old before mid
  pointer_given words quals e same behind =
      let on = inner_given (pointer_next words) (e ∙ pointer_step around words inner env) in
      last_given whole old mid mid before all more (record { derivation = d.Pointer quals; length_at = None }) (record {
        is = on.is ∙ ap (λ (quals : Quals).
            Gives (derived_list mid all ++ plain_derived (ToPointer quals) ∷ []) (env_of before mid)) (sym same);
        here = on.here;
        grown = on.grown;
      }) (grows_own mid) given.is_in tt behind

  -- an array of this length
  pub array_given : (length : Maybe) (n : Option ℕ) (at : Option Pos) (new : Types) (after : List Scope)
      → whole ≡ without_names (derived around (ArrayOf inner length) env) → at ≡ length_place length
      → Given (array_length length (env_of before mid)) n (λ t. IfSome n (λ n. 0 < n)) mid after new
      → more ≡ all ++ record { derivation = d.Array n; length_at = at } ∷ []
      → Given whole (derived_list new more) (λ t. DerivedIn t more) old after new
  array_given length n at new after e same counted behind =
      let on = part_given (array_length length (env_of before mid)) (length_next length (derived_list mid all)) whole
      old mid before n (λ t. IfSome n (λ n. 0 < n)) after new
      (inner_given (array_next length) (e ∙ array_step around inner length env)) counted in
      last_given whole old mid new after all more (record { derivation = d.Array n; length_at = at }) (record {
        is = on.is ∙ ap (λ (at : Option Pos). Gives (derived_list mid all
            ++ record { derivation = ToArray n; length_at = at; parameters = no_names } ∷ []) (env_of after new))
            (sym same);
        here = on.here;
        grown = on.grown;
      }) counted.grown given.is_in counted.is_in behind

  -- a length that is refused
  pub array_refused : (length : Maybe) (fault : TypeFault)
      → whole ≡ without_names (derived around (ArrayOf inner length) env)
      → Refused (array_length length (env_of before mid)) fault → Refused whole fault
  array_refused length fault e refused =
      part_refused (array_length length (env_of before mid)) (length_next length (derived_list mid all)) whole old mid
      before fault (inner_given (array_next length) (e ∙ array_step around inner length env)) refused

  module _ (list : Parameters) (variadic alone : Bool)
      (e : whole ≡ without_names (derived around (FunctionOf inner list variadic) env))
      (by_itself : alone ≡ is_alone list variadic) where
    abbrev list_answer : Answer CTypes
    list_answer = left_behind (parameters_typed around.at alone list 0 (scope_entered (env_of before mid)))

    -- as far as the parameters
    to_parameters : Onward whole (and_then list_answer (types_next around variadic (derived_list mid all))) old before
        mid
    to_parameters =
        let on = inner_given (function_next around list variadic) (e ∙ function_step around inner list variadic env) in
        record {
          is = on.is ∙ ap (λ (alone : Bool). and_then
              (left_behind (parameters_typed around.at alone list 0 (scope_entered (env_of before mid))))
              (types_next around variadic (derived_list mid all))) (sym by_itself);
          here = on.here;
          grown = on.grown;
        }

    -- parameters that are refused
    pub function_refused : (fault : TypeFault) → Refused list_answer fault → Refused whole fault
    function_refused fault refused =
        part_refused list_answer (types_next around variadic (derived_list mid all)) whole old mid before fault
        to_parameters refused

    -- a function of these parameters
    pub function_given : (parameters : ParameterList) (new : Types) (after : List Scope)
        → Given list_answer (types_at (all_types new) parameters.types.items)
        (λ t. All (λ (id : TypeId). IdIn t id) parameters.types.items) mid after new
        → parameters.variadic ≡ variadic → parameters.may_vary ≡ (around.may_vary && is_first (derived_list mid all))
        → more ≡ all ++ record { derivation = d.Function parameters; length_at = None } ∷ []
        → Given whole (derived_list new more) (λ t. DerivedIn t more) old after new
    function_given parameters new after types same varies behind =
        let ids = types_at (all_types new) parameters.types.items in
        let on = part_given list_answer (types_next around variadic (derived_list mid all)) whole old mid before ids
        (λ t. All (λ (id : TypeId). IdIn t id) parameters.types.items) after new to_parameters types in
        last_given whole old mid new after all more (record { derivation = d.Function parameters; length_at = None })
        (record {
          is = on.is ∙ (λ i. Gives (derived_list mid all
              ++ function_last ids (sym same i) (sym varies i) ∷ []) (env_of after new));
          here = on.here;
          grown = on.grown;
        }) types.grown given.is_in types.is_in behind

-- no derivation
pub none_given : (whole : Answer (List Derived)) (scopes : List Scope) (types : Types) (all : List e.Derived)
    → whole ≡ without_names (Gives [] (env_of scopes types)) → all ≡ [] → ScopesIn types scopes
    → Given whole (derived_list types all) (λ t. DerivedIn t all) types scopes types
unfolding and_then
none_given whole scopes types all is none here = record {
  is = is ∙ ap (λ (all : List e.Derived). Gives (derived_list types all) (env_of scopes types)) (sym none);
  is_in = subst (λ (all : List e.Derived). DerivedIn types all) (sym none) tt;
  here = here;
  grown = grows_own types;
}

-- the declarator of an array, by the length that the program holds
pub array_seen : (inner : Box c.Declarator Global) (length : Option (Box x.Expr Global))
    → declarator_of (c.ArrayOf inner length) ≡ ArrayOf (declarator_of inner.value) (value_of length)
array_seen inner None = refl
array_seen inner (Some length) = refl

-- an inner declarator that is refused
pub inner_refused : (whole : Answer (List Derived)) (around : Around) (inner : Declarator) (env : Env)
    (next : List Derived → Env → Answer (List Derived)) (fault : TypeFault)
    → whole ≡ and_then (without_names (derived around inner env)) next
    → Refused (without_names (derived around inner env)) fault → Refused whole fault
inner_refused whole around inner env next fault e refused =
    refused_as whole (and_then (without_names (derived around inner env)) next) fault e
    (refused_then (without_names (derived around inner env)) next fault refused)
