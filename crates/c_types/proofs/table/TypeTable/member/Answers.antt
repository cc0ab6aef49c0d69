-- The member that is found is one of the members, and found as a tree.
use Rattle.std.proofs.Common.{◌<◌, List, ap, subst, sym, ◌∙◌}
use Rattle.std.specs.Prelude.{ℕ, Option, IfSome, option_map}
use Rattle.c_types.specs.declared.shape.TypeId.{TypeId}
use Rattle.c_types.specs.Types.{count_of}
use Rattle.c_types.specs.CType.{type_of, all_types}
use Rattle.c_types.specs.Structures.{TypedMember, typed_member_named}
use Rattle.c_types.proofs.Members.{named_there, typed_named}
use Rattle.c_types.proofs.table.TypeTable.member.Goals as goal

pub returns-in_ok-members-in-Compound-clause-is_there : goal.returns-in_ok-members-in-Compound-clause-is_there
returns-in_ok-members-in-Compound-clause-is_there c =
    subst (λ (r : Option (TypeId × ℕ)). IfSome r (λ (m : TypeId × ℕ). m.0.0 < count_of c.args.self.now))
    (sym c.find_member.ensures)
    (named_there (count_of c.args.self.now) c.in_ok-members-in-Compound.field-0.now c.args.name.now
    c.in_ok-members-in-Compound.ensures.are_there)

pub returns-in_ok-members-in-Compound-clause-typed : goal.returns-in_ok-members-in-Compound-clause-typed
returns-in_ok-members-in-Compound-clause-typed c =
    let now = c.args.self.now in
    ap (option_map (λ (m : TypeId × ℕ). (type_of now m.0, m.1))) c.find_member.ensures
    ∙ typed_named (all_types now) c.in_ok-members-in-Compound.field-0.now c.args.name.now
    ∙ ap (λ (ms : List TypedMember). typed_member_named ms c.args.name.now) c.in_ok-members-in-Compound.ensures.typed
