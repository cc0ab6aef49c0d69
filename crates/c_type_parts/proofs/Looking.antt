-- A name that is looked up: what it stands for, and that its type is the table's.
use Rattle.std.proofs.Common.{◌≡◌, ◌∙◌, ap, sym, ℕ, List, Bool, true, false, cond}
use Rattle.std.specs.Prelude.{Option, Some, None, IfSome, option_map}
use Rattle.c_types.specs.Types.{Types}
use Rattle.c_scopes.specs.declared.binding.Binding.{Binding}
use Rattle.c_scopes.specs.Scopes.{Scope, found, found_here}
use Rattle.c_scopes.specs.Named.{named_of}
use Rattle.c_scopes.specs.Env.{BindingIn, ScopesIn, env_of}
use Rattle.c_scopes.proofs.Seen.{found_in, found_in_here, found_seen, found_here_seen}
use Rattle.c_type_parts.specs.Tagging.{tag_seen}

pub looked_up_in : (types : Types) (scopes : List Scope) (tag : Bool) (name : List ℕ) (result : Option Binding)
    → ScopesIn types scopes → result ≡ found scopes tag name → IfSome result (λ binding. BindingIn types binding)
looked_up_in types scopes tag name (Some binding) here e = found_in types scopes tag name binding here (sym e)
looked_up_in types scopes tag name None here e = tt

pub looked_up : (types : Types) (scopes : List Scope) (tag : Bool) (name : List ℕ) (result : Option Binding)
    → result ≡ found scopes tag name
    → option_map (named_of types) result ≡ found (env_of scopes types).scopes tag name
looked_up types scopes tag name result e = ap (option_map (named_of types)) e ∙ sym (found_seen types scopes tag name)

-- among all scopes, or in the innermost one alone
pub tag_looked_up_in : (types : Types) (scopes : List Scope) (alone : Bool) (name : List ℕ) (result : Option Binding)
    → ScopesIn types scopes → result ≡ cond alone (found_here scopes true name) (found scopes true name)
    → IfSome result (λ binding. BindingIn types binding)
tag_looked_up_in types scopes true name (Some binding) here e =
    found_in_here types scopes true name binding here (sym e)
tag_looked_up_in types scopes false name (Some binding) here e = found_in types scopes true name binding here (sym e)
tag_looked_up_in types scopes alone name None here e = tt

pub tag_looked_up : (types : Types) (scopes : List Scope) (alone : Bool) (name : List ℕ) (result : Option Binding)
    → result ≡ cond alone (found_here scopes true name) (found scopes true name)
    → option_map (named_of types) result ≡ tag_seen alone name (env_of scopes types)
tag_looked_up types scopes true name result e =
    ap (option_map (named_of types)) e ∙ sym (found_here_seen types scopes true name)
tag_looked_up types scopes false name result e =
    ap (option_map (named_of types)) e ∙ sym (found_seen types scopes true name)

-- in the innermost scope alone
pub here_looked_up : (types : Types) (scopes : List Scope) (tag : Bool) (name : List ℕ) (result : Option Binding)
    → result ≡ found_here scopes tag name
    → option_map (named_of types) result ≡ found_here (env_of scopes types).scopes tag name
here_looked_up types scopes tag name result e =
    ap (option_map (named_of types)) e ∙ sym (found_here_seen types scopes tag name)
