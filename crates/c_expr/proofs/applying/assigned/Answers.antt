-- What is assigned is converted, and then assigned.
use Rattle.std.proofs.Common.{subst}
use Rattle.std.specs.Prelude.{Ok}
use Rattle.std.proofs.lemmas.Result.{err_from_is_err_and}
use Rattle.c_types.specs.Structures.{structures_of}
use Rattle.c_core.specs.Ids.{CoreIn}
use Rattle.c_core.specs.View.{core_of}
use Rattle.c_scopes.specs.Clauses.{Rules}
use Rattle.c_conversions.specs.Parts.{Part, part_of, PartIn}
use Rattle.c_operator_rules.specs.Assignment.{assigned_rule, assign_rule}
use Rattle.c_expr.specs.Uses.{joined}
use Rattle.c_expr.proofs.Parts.{part_in_kept, part_kept}
use Rattle.c_type_parts.proofs.Steps.{breaks_refused, refused_then, settled, then_part}
use Rattle.c_expr.proofs.applying.assigned.Goals as goal

pub assign-requires-clause-target : goal.assign-requires-clause-target
assign-requires-clause-target c =
    part_in_kept c.args.types.now c.convert_assigned.new.types c.in_ok-core.ensures.kept.grows c.args.operands.left
    c.requires.0

pub returns : goal.returns
unfolding joined
returns c = λ scopes here.
    let old = c.args.types.now in
    let mid = c.convert_assigned.new.types in
    let left = c.args.operands.left in
    let core = c.in_ok-core.ensures in
    let given = settled core_of CoreIn (assigned_rule (structures_of old) (part_of old left)
    (part_of old c.args.operands.right)) c.args.places.right scopes old mid (Ok c.in_ok-core.core) here core in
    then_part part_of PartIn _ _ _ _ old mid _ scopes _ _ given
    (settled part_of PartIn (assign_rule (structures_of mid) c.args.places.at (part_of old left)
    (core_of mid c.in_ok-core.core)) c.args.places.at scopes mid c.assign.new.types c.assign.result given.here
    (subst (λ (target : Part). Rules part_of PartIn (assign_rule (structures_of mid) c.args.places.at target
    (core_of mid c.in_ok-core.core)) c.args.places.at mid c.assign.new.types c.assign.result)
    (part_kept old mid given.grown left c.requires.0) c.assign.ensures))

pub returns-in_err-core : goal.returns-in_err-core
unfolding joined
returns-in_err-core c = λ scopes here.
    let p = err_from_is_err_and c.from_residual.result c.from_residual.ensures.1 in
    rw (p.1, p.2) (refused_then _ _ _ (breaks_refused _ _ _ _ c.in_err-core.ensures))
