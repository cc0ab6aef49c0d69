-- What is in scope stays typed as names are bound, scopes entered and left, and structures and unions made.
use Rattle.std.proofs.Common.{◌≡◌, ℕ, ◌+◌, ◌==◌, Bool, true, false, cond, List, []}
use Rattle.std.proofs.Common.{◌∷◌, Option, Some, None, IfSome, refl, sym, subst, eq-eqb}
use Rattle.std.specs.Prelude.{IsSome, if◌then◌else◌}
use Rattle.std.specs.Cmp.Lexicographic.{slice_cmp}
use Rattle.std.specs.Map.{lookup}
use Rattle.std.specs.Ordering.{nat_cmp, match_ordering}
use Rattle.std.specs.declared.cmp.Ordering.{Ordering}
use Rattle.std.specs.declared.cmp.Ordering.TheVariants.{Less, Equal, Greater}
use Rattle.std.specs.Str.{bytes_eq}
use Rattle.c_types.specs.Making.{KeepsStructures}
use Rattle.c_types.specs.Structures.{Structure}
use Rattle.c_types.proofs.Kept.{structures_own, structures_pushed}
use Rattle.c_core.specs.declared.statement.Local.{Local}
use Rattle.c_core.specs.declared.named.ObjectName.TheVariants as object
use Rattle.c_core.specs.Named.{Names, NamesObject, Widens, size_in}
use Rattle.c_syntax.specs.Tree.{Parameters, NoParameter, MoreParameters}
use Rattle.c_scopes.specs.Env.{Env}
use Rattle.c_scopes.specs.Named.{Named, names_tag}
use Rattle.c_scopes.specs.Scopes.{no_names, here_in, entry_in, or_else, found, found_here, bound}
use Rattle.c_scopes.specs.Scopes.{Names as Scope}
use Rattle.c_type_parts.specs.Answers.{Answer, Gives, Refuses, and_then}
use Rattle.c_type_parts.specs.Environments.{scope_entered, scope_left, outer_of, with_name, with_compound}
use Rattle.c_type_parts.specs.Environments.{with_enumeration}
use Rattle.c_expr.proofs.Levels.{Innermost, Keeps}
use Rattle.c_typing_law.specs.TypedParts.{NamedTyped}
use Rattle.c_typing_law.proofs.Stays.{stays_typed, declared_formed}
use Rattle.c_walk_law.specs.InScope.{EntriesTyped, ScopesTyped, EnvTyped, Reaches, GivesTyped}
use Rattle.c_walk_law.proofs.Reaching.{widens_own, gives}

module _ (names : Names) (structures : List Structure) where
  abbrev IsTyped : Option Named → Type 0
  IsTyped named = IfSome named (NamedTyped names structures)

  -- ---- looking up

  lookup_typed : (test : List ℕ → Bool) (entries : List (List ℕ × Named)) → EntriesTyped names structures entries
      → IsTyped (lookup test entries)
  lookup_typed test [] h = tt
  lookup_typed test (entry ∷ entries) h = at (test entry.0) (lookup_typed test entries h.1)
    where
      at : (here : Bool) → IsTyped (lookup test entries) → IsTyped (cond here (Some entry.1) (lookup test entries))
      at true rest = h.0
      at false rest = rest

  here_typed : (scope : Scope Named) (tag : Bool) (name : List ℕ) → EntriesTyped names structures scope.names
      → EntriesTyped names structures scope.tags → IsTyped (here_in scope tag name)
  here_typed scope true name h g = lookup_typed (bytes_eq name) scope.tags g
  here_typed scope false name h g = lookup_typed (bytes_eq name) scope.names h

  either_typed : (first other : Option Named) → IsTyped first → IsTyped other → IsTyped (or_else first other)
  either_typed (Some named) other h g = h
  either_typed None other h g = g

  pub found_typed : (scopes : List (Scope Named)) (tag : Bool) (name : List ℕ) → ScopesTyped names structures scopes
      → IsTyped (found scopes tag name)
  found_typed [] tag name h = tt
  found_typed (scope ∷ scopes) tag name h =
      either_typed (here_in scope tag name) (found scopes tag name) (here_typed scope tag name h.0 h.1)
      (found_typed scopes tag name h.2)

  pub found_here_typed : (scopes : List (Scope Named)) (tag : Bool) (name : List ℕ)
      → ScopesTyped names structures scopes → IsTyped (found_here scopes tag name)
  found_here_typed [] tag name h = tt
  found_here_typed (scope ∷ scopes) tag name h = here_typed scope tag name h.0 h.1

  -- ---- binding

  entry_typed : (entries : List (List ℕ × Named)) (name : List ℕ) (named : Named)
      → EntriesTyped names structures entries → NamedTyped names structures named
      → EntriesTyped names structures (entry_in entries name named)
  entry_typed [] name named h g = (g, tt)
  entry_typed (entry ∷ entries) name named h g =
      at (slice_cmp nat_cmp name entry.0) (entry_typed entries name named h.1 g)
    where
      at : (order : Ordering) → EntriesTyped names structures (entry_in entries name named)
          → EntriesTyped names structures (match_ordering order ((name, named) ∷ entry ∷ entries)
          ((entry.0, named) ∷ entries) (entry ∷ entry_in entries name named))
      at Less rest = (g, h)
      at Equal rest = (g, h.1)
      at Greater rest = (h.0, rest)

  bound_typed : (scopes : List (Scope Named)) (tag : Bool) (name : List ℕ) (named : Named)
      → ScopesTyped names structures scopes → NamedTyped names structures named
      → ScopesTyped names structures (bound scopes tag name named)
  bound_typed [] tag name named h g = tt
  bound_typed (scope ∷ scopes) true name named h g = (h.0, entry_typed scope.tags name named h.1 g, h.2)
  bound_typed (scope ∷ scopes) false name named h g = (entry_typed scope.names name named h.0 g, h.1, h.2)

-- a name of something typed is in scope
pub with_name_typed : (names : Names) (env : Env) (name : List ℕ) (named : Named) → EnvTyped names env
    → NamedTyped names env.structures named → EnvTyped names (with_name name named env)
with_name_typed names env name named t h = record {
  structures = t.structures;
  scopes = bound_typed names env.structures env.scopes (names_tag named) name named t.scopes h;
}

pub with_name_reaches : (names : Names) (env : Env) (name : List ℕ) (named : Named) → EnvTyped names env
    → NamedTyped names env.structures named → Reaches names env (with_name name named env)
with_name_reaches names env name named t h =
    record { typed = with_name_typed names env name named t h; kept = structures_own env.structures }

-- ---- as structures and unions grow, and more can be named

module _ (less more : Names) (old new : List Structure) (widens : Widens less more)
    (kept : KeepsStructures old new) where
  entries_stay : (entries : List (List ℕ × Named)) → EntriesTyped less old entries → EntriesTyped more new entries
  entries_stay [] h = tt
  entries_stay (entry ∷ rest) h =
      ((stays_typed old new kept).named less more entry.1 widens h.0, entries_stay rest h.1)

  pub scopes_stay : (scopes : List (Scope Named)) → ScopesTyped less old scopes → ScopesTyped more new scopes
  scopes_stay [] h = tt
  scopes_stay (inner ∷ outer) h = (entries_stay inner.names h.0, entries_stay inner.tags h.1, scopes_stay outer h.2)

-- one more structure or union
pub declared_reaches : (names : Names) (env : Env) (is_union : Bool) → EnvTyped names env
    → Reaches names env (with_compound is_union env)
declared_reaches names env is_union t = record {
  typed = record {
    structures = declared_formed env.structures is_union t.structures;
    scopes =
        scopes_stay names names env.structures (with_compound is_union env).structures (widens_own names)
        (structures_pushed env.structures is_union) env.scopes t.scopes;
  };
  kept = structures_pushed env.structures is_union;
}

-- one more enumeration
pub enumeration_reaches : (names : Names) (env : Env) → EnvTyped names env
    → Reaches names env (with_enumeration env)
enumeration_reaches names env t = record {
  typed = record { structures = t.structures; scopes = t.scopes };
  kept = structures_own env.structures;
}

-- ---- the scope of parameters, where their slots can be named

-- an object in the slot of each parameter from a number on, before others
abbrev slots_before : List Local → ℕ → Parameters → List Local
slots_before objects number NoParameter = objects
slots_before objects number (MoreParameters first rest) =
    record { slot = number; size = 1 } ∷ slots_before objects (number + 1) rest

abbrev pub with_slots : Names → Parameters → Names
with_slots names parameters = record names { objects = slots_before names.objects 0 parameters }

-- the slot of each parameter can be named
abbrev pub SlotsNamed : Names → ℕ → Parameters → Type 0
SlotsNamed names number NoParameter = Unit {0}
SlotsNamed names number (MoreParameters first rest) =
    NamesObject names (object.Slot number) × SlotsNamed names (number + 1) rest

abbrev IsMade : ℕ → List Local → Type 0
IsMade slot objects = IsSome (size_in slot objects)

made_behind : (local : Local) (slot : ℕ) (objects : List Local) → IsMade slot objects → IsMade slot (local ∷ objects)
made_behind local slot objects h = by (local.slot == slot)
  where
    by : (same : Bool) → IsSome (if same then Some local.size else size_in slot objects)
    by true = refl
    by false = h

slots_behind : (names : Names) (local : Local) (number : ℕ) (parameters : Parameters)
    → SlotsNamed names number parameters
    → SlotsNamed (record names { objects = local ∷ names.objects }) number parameters
slots_behind names local number NoParameter h = tt
slots_behind names local number (MoreParameters first rest) h = (
  made_behind local number names.objects h.0,
  slots_behind names local (number + 1) rest h.1,
)

made_first : (number size : ℕ) (objects : List Local)
    → IsMade number (record { slot = number; size = size } ∷ objects)
made_first number size objects = by (number == number) (eq-eqb number number refl)
  where
    by : (same : Bool) → same ≡ true → IsSome (if same then Some size else size_in number objects)
    by true e = refl
    by false e = cc

slots_made : (names : Names) (number : ℕ) (parameters : Parameters)
    → SlotsNamed (record names { objects = slots_before names.objects number parameters }) number parameters
slots_made names number NoParameter = tt
slots_made names number (MoreParameters first rest) = (
  made_first number 1 (slots_before names.objects (number + 1) rest),
  slots_behind (record names { objects = slots_before names.objects (number + 1) rest })
      (record { slot = number; size = 1 }) (number + 1) rest (slots_made names (number + 1) rest),
)

pub all_slots : (names : Names) (parameters : Parameters) → SlotsNamed (with_slots names parameters) 0 parameters
all_slots names parameters = slots_made names 0 parameters

others_made : (objects : List Local) (number : ℕ) (parameters : Parameters) (slot : ℕ) → IsMade slot objects
    → IsMade slot (slots_before objects number parameters)
others_made objects number NoParameter slot h = h
others_made objects number (MoreParameters first rest) slot h =
    made_behind (record { slot = number; size = 1 }) slot (slots_before objects (number + 1) rest)
    (others_made objects (number + 1) rest slot h)

slots_widen : (names : Names) (parameters : Parameters) → Widens names (with_slots names parameters)
slots_widen names parameters = record {
  functions = λ token h. h;
  statics = λ token h. h;
  objects = others_made names.objects 0 parameters;
}

pub entered_typed : (names : Names) (env : Env) (parameters : Parameters) → EnvTyped names env
    → EnvTyped (with_slots names parameters) (scope_entered env)
entered_typed names env parameters t = record {
  structures = t.structures;
  scopes = (
    tt,
    tt,
    scopes_stay names (with_slots names parameters) env.structures env.structures (slots_widen names parameters)
        (structures_own env.structures) env.scopes t.scopes,
  );
}

-- behind the scope the others are as they were
outer_same : {B : Type 0} (inner : B) (scopes others : List B) → Innermost (inner ∷ scopes) others
    → outer_of others ≡ scopes
outer_same inner scopes [] h = absurd h
outer_same inner scopes (other ∷ rest) h = h

left_typed : (names : Names) (env after : Env) → EnvTyped names env → Innermost (no_names ∷ env.scopes) after.scopes
    → (more : Names) → Reaches more (scope_entered env) after → Reaches names env (scope_left after)
left_typed names env after t inner more reaches = record {
  typed = record {
    structures = reaches.typed.structures;
    scopes =
        (let P : List (Scope Named) → Type 0 = ScopesTyped names after.structures in
        subst P (sym (outer_same no_names env.scopes after.scopes inner))
        (scopes_stay names names env.structures after.structures (widens_own names) reaches.kept env.scopes
        t.scopes));
  };
  kept = reaches.kept;
}

-- what the parts of the scope answer, and the scope is left
pub scope_gives : {A B : Type 0} (names more : Names) (env : Env) (Is : List Structure → A → Type 0)
    (Then : List Structure → B → Type 0) (answer : Answer A) (f : A → Env → B) → EnvTyped names env
    → Keeps (scope_entered env) answer → GivesTyped more (scope_entered env) Is answer
    → ((a : A) (after : Env) → Is after.structures a → KeepsStructures env.structures after.structures
    → Then after.structures (f a after))
    → GivesTyped names env Then (and_then answer (λ a after. Gives (f a after) (scope_left after)))
unfolding and_then
scope_gives names more env Is Then (Gives a after) f t keeps h rest =
    gives names env (scope_left after) Then (f a after) (rest a after h.given.0 h.given.1.kept)
    (left_typed names env after t keeps more h.given.1)
scope_gives names more env Is Then (Refuses number at) f t keeps h rest = record { given = tt }
