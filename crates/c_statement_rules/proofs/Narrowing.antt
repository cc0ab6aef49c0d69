-- The rule of a definition is that of a declaration with two more constraints.
use Rattle.std.proofs.Common.{◌≡◌, ℕ, List, [], ◌∷◌, true, false, refl, subst, sym}
use Rattle.std.specs.Prelude.{Bool, not, ◌&&◌, ◌||◌, ◌==◌, if◌then◌else◌}
use Rattle.c_types.specs.Functions.{variadic_of}
use Rattle.c_types.specs.Structures.{Structure}
use Rattle.c_types.specs.Types.{Types}
use Rattle.c_scopes.specs.Named.{Named}
use Rattle.c_scopes.specs.Clauses.{Follows}
use Rattle.c_scopes.specs.Ruled.{Ruled, Fits, Breaks, ruled}
use Rattle.c_decl_rules.specs.DeclaredNames.{Seen, function_rule, function_linkage, agrees, function_type, is_library}
use Rattle.c_decl_rules.specs.DeclaredNames.{function_before, was_defined, function_declared}
use Rattle.c_statement_rules.specs.Definitions.{Defines, declares, narrowed, definition_rule, has_result}

-- with the constraints as variables
narrows : (a r l w v g : Bool) (x : Named)
    → ruled ((2, a) ∷ (7, r) ∷ (18, not l) ∷ (20, not w) ∷ (43, v) ∷ []) x
    ≡ narrowed r v (ruled ((2, a) ∷ (7, true) ∷ (18, not l || (g && false)) ∷ (20, not (true && w)) ∷ (47, true) ∷ []) x)
narrows false true l w v g x = refl
narrows false false l w v g x = refl
narrows true false true w v true x = refl
narrows true false true w v false x = refl
narrows true false false true v g x = refl
narrows true false false false v g x = refl
narrows true true true w v true x = refl
narrows true true true w v false x = refl
narrows true true false true v g x = refl
narrows true true false false true g x = refl
narrows true true false false false g x = refl

pub definition_narrows : (structures : List Structure) (definition : Defines) (seen : Seen)
    → definition_rule structures definition seen
    ≡ narrowed (has_result structures definition.type) (not (variadic_of definition.type))
    (function_rule (declares definition) seen)
definition_narrows structures definition seen =
    let linkage = function_linkage (declares definition).manner seen in
    let before = function_before linkage seen.named in
    narrows (not seen.here || agrees (function_type before) definition.type)
    (has_result structures definition.type) (is_library before) (was_defined before)
    (not (variadic_of definition.type)) (agrees (function_type before) definition.type)
    (function_declared (declares definition) linkage before)

-- ---- what is told of a declaration that fits, and of one that breaks

fits : (r v : Bool) (declaration : Ruled Named) (x : Named) → r ≡ true → v ≡ true → declaration ≡ Fits x
    → narrowed r v declaration ≡ Fits x
fits true true declaration x e f g = subst (λ d. narrowed true true d ≡ Fits x) (sym g) refl
fits true false declaration x e f g = absurd (cc)
fits false v declaration x e f g = absurd (cc)

pub follows : {a : Named} {In : Types → Type 0} (old new : Types) (r v : Bool) (declaration : Ruled Named) → r ≡ true
    → v ≡ true → Follows declaration a In old new → Follows (narrowed r v declaration) a In old new
follows old new r v declaration e f t =
    record { is = fits r v declaration _ e f t.is; is_in = t.is_in; kept = t.kept }

pub no_result : (r v : Bool) (declaration : Ruled Named) (x : Named) → r ≡ false → declaration ≡ Fits x
    → narrowed r v declaration ≡ Breaks 7
no_result true v declaration x e g = absurd (cc)
no_result false v declaration x e g = subst (λ d. narrowed false v d ≡ Breaks 7) (sym g) refl

pub variadic : (r v : Bool) (declaration : Ruled Named) (x : Named) → r ≡ true → v ≡ false → declaration ≡ Fits x
    → narrowed r v declaration ≡ Breaks 43
variadic true false declaration x e f g = subst (λ d. narrowed true false d ≡ Breaks 43) (sym g) refl
variadic true true declaration x e f g = absurd (cc)
variadic false v declaration x e f g = absurd (cc)

chosen : (b : Bool) (x y : Ruled Named) → b ≡ true → (if b then x else y) ≡ x
chosen true x y e = refl
chosen false x y e = absurd (cc)

passed : (b : Bool) (x y : Ruled Named) → b ≡ false → (if b then x else y) ≡ y
passed true x y e = absurd (cc)
passed false x y e = refl

pub stays : (r v : Bool) (declaration : Ruled Named) (n : ℕ) → (r || n == 2) ≡ true → declaration ≡ Breaks n
    → narrowed r v declaration ≡ Breaks n
stays r v declaration n e g = subst (λ d. narrowed r v d ≡ Breaks n) (sym g) (chosen (r || n == 2) _ _ e)

pub no_result_before : (r v : Bool) (declaration : Ruled Named) (n : ℕ) → (r || n == 2) ≡ false
    → declaration ≡ Breaks n → narrowed r v declaration ≡ Breaks 7
no_result_before r v declaration n e g =
    subst (λ d. narrowed r v d ≡ Breaks 7) (sym g) (passed (r || n == 2) _ _ e)
