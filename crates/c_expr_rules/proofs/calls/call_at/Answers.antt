-- The arguments of the node are those of the list.
use Rattle.std.proofs.Common.{◌≡◌, map, sym, ◌∙◌, subst}
use Rattle.c_types.specs.CType.{type_of}
use Rattle.c_core.specs.Ids.{CoreIn}
use Rattle.c_core.specs.Tree.{At, Call, cores}
use Rattle.c_core.specs.View.{core_of}
use Rattle.c_core.proofs.Parts.{call_of, call_in}
use Rattle.c_scopes.proofs.Keeps.{keeps_own}
use Rattle.c_conversions.specs.Parts.{part_of, PartIn, value}
use Rattle.c_expr_rules.proofs.calls.call_at.Goals as goal

pub returns : goal.returns
returns c =
    let types = c.args.types.now in
    let how = c.args.how in
    let arguments = c.args.called.arguments in
    let function = c.in_ok-function.function in
    let made = c.value.ensures in
    let held = c.in_ok-function.ensures.ok in
    let same : function.value ≡ c.args.called.function.core = cc in
    let node = call_of types how.0 how.1 function arguments in
    let of = type_of types c.args.at.0 in
    record {
      is = (λ i. part_of types (made i)) ∙ (λ i. value (At of c.args.at.1 (node i)))
          ∙ (λ i. value (At of c.args.at.1
          (Call how.0 how.1 (core_of types (same i)) (cores (map (core_of types) arguments.items)))));
      is_in = subst (PartIn types) (sym made) (
        c.requires.of,
        call_in types how.0 how.1 function arguments
            (subst (CoreIn types) (sym same) c.requires.function) c.requires.arguments,
      );
      kept = keeps_own types;
    }
