-- What is told of the declaration is told of the definition, but for the two more constraints.
use Rattle.std.proofs.Common.{◌∙◌, subst, sym}
use Rattle.std.specs.Prelude.{not}
use Rattle.critical_table.specs.declared.pos.Pos.{Pos}
use Rattle.c_types.specs.Structures.{structures_of}
use Rattle.c_scopes.specs.Named.{Named}
use Rattle.c_scopes.specs.Ruled.{Ruled}
use Rattle.c_decl_rules.specs.Clauses.{RulesName, declares_of, seen_of}
use Rattle.c_decl_rules.specs.DeclaredNames.{Declares, function_rule}
use Rattle.c_statement_rules.specs.Definitions.{declares, defines_of, narrowed}
use Rattle.c_statement_rules.proofs.Narrowing.{definition_narrows}
use Rattle.c_statement_rules.proofs.definitions.defined_function.Goals as goal

pub returns : goal.returns
returns c =
    let old = c.args.types.now in
    let new = c.declare_function-declared.new.types in
    let definition = defines_of old c.args.definition.now in
    let seen = seen_of old c.args.visible.now in
    let answer = c.declare_function-declared.result in
    let as_declared = function_rule (declares definition) seen in
    let placed =
    subst (λ (at : Pos). RulesName (function_rule (declares_of old c.declaring-name.result) seen) at old new answer)
    c.declaring-name.ensures.at c.declare_function-declared.ensures in
    let declared =
    subst (λ (d : Declares). RulesName (function_rule d seen) c.args.definition.now.at old new answer)
    (c.declaring-name.ensures.is old) placed in
    let told = c.narrowed.ensures as_declared old new declared in
    let same =
    (λ i. narrowed (c.has_result-complete.ensures i) (not (c.is_variadic-fixed.ensures i)) as_declared)
    ∙ sym (definition_narrows (structures_of old) definition seen) in
    subst (λ (rule : Ruled Named). RulesName rule c.args.definition.now.at old new c.narrowed.result) same told
