-- The value of an enumerator that comes into scope is one that an `int` has.
use mir.Syntax.{w128}
use Rattle.std.proofs.Common.{◌≡◌, ◌&&◌, ℕ, List, Bool, true, false, ap, refl, subst, FitsSigned, arith}
use Rattle.std.proofs.lemmas.Int.{ints}
use Rattle.std.specs.Prelude.{ℤ, pos, negsuc, ◌+ℤ◌, int_le, Option, Some, None, cond, is_some, not}
use Rattle.critical_table.specs.declared.pos.Pos.{Pos}
use Rattle.c_scopes.specs.Env.{Env}
use Rattle.c_scopes.specs.Ruled.{Ruled, Fits, Breaks}
use Rattle.c_scopes.specs.Scopes.{found_here}
use Rattle.c_type_rules.specs.Enumerators.{enumerator, enumerator_rule, is_int, value_or_none}
use Rattle.c_type_parts.specs.Answers.{Answer, Gives, Refuses, and_then, settle}
use Rattle.c_type_parts.specs.Declaring.{enumerator_bound}
use Rattle.c_type_parts.specs.Environments.{with_name}

abbrev ruled_value : Ruled ℤ → ℤ
ruled_value (Fits n) = n
ruled_value (Breaks number) = pos 0

abbrev answered_value : Answer ℤ → ℤ
answered_value (Gives n env) = n
answered_value (Refuses number at) = pos 0

rule_fits : (at : Pos) (x : List ℕ) (rule : Ruled ℤ) (n : ℤ) (env after : Env)
    → and_then (settle at env rule) (λ n env. Gives n (with_name x (enumerator n) env)) ≡ Gives n after
    → rule ≡ Fits n
unfolding and_then settle
rule_fits at x (Fits m) n env after e = ap (λ answer. Fits (answered_value answer)) e
rule_fits at x (Breaks number) n env after e = absurd (cc)

both_hold : (new fits : Bool) (value n : ℤ) → cond new (cond fits (Fits value) (Breaks 14)) (Breaks 2) ≡ Fits n
    → (fits ≡ true) × (value ≡ n)
both_hold true true value n e = (refl, ap ruled_value e)
both_hold true false value n e = absurd (cc)
both_hold false fits value n e = absurd (cc)

of_value : (value : Option ℤ) (n : ℤ) → is_int value ≡ true → value_or_none value ≡ n → is_int (Some n) ≡ true
of_value None n h e = absurd (cc)
of_value (Some m) n h e = subst (λ (k : ℤ). is_int (Some k) ≡ true) e h

pub bound_is_int : (at : Pos) (x : List ℕ) (value : Option ℤ) (n : ℤ) (env after : Env)
    → enumerator_bound at x value env ≡ Gives n after → is_int (Some n) ≡ true
bound_is_int at x value n env after e =
    let here = found_here env.scopes false x in
    let fits = both_hold (not (is_some here)) (is_int value) (value_or_none value) n
    (rule_fits at x (enumerator_rule here value) n env after e) in
    of_value value n fits.0 fits.1

halves : (a b : Bool) → a && b ≡ true → (a ≡ true) × (b ≡ true)
halves true true e = (refl, refl)
halves true false e = absurd (cc)
halves false b e = absurd (cc)

-- and so the next value is there
pub next_fits : (n : ℤ) → is_int (Some n) ≡ true → FitsSigned w128 (n +ℤ pos 1)
next_fits n h =
    let both = halves (int_le (negsuc 2147483647) n) (int_le n (pos 2147483647)) h in
    let low : int_le (negsuc 2147483647) n ≡ true = both.0 in
    let high : int_le n (pos 2147483647) ≡ true = both.1 in
    grind (arith, ints, low, high)
