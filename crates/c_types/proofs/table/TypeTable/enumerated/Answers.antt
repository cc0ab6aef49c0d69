-- One more enumerated type: the table stays sound, and has made it.
use Rattle.std.proofs.Common.{◌≡◌, ◌+◌, map, subst, sym, rules, arith}
use Rattle.c_types.specs.declared.shape.TypeId.{TypeId}
use Rattle.c_types.specs.Types.{Types}
use Rattle.c_types.specs.Making.{MakesEnumerated}
use Rattle.c_types.specs.Inner.{types_of, parts_of, compound_of, IsSound}
use Rattle.c_types.proofs.WithEnumeration.{fields-with_enumerated_type, sound-with_enumerated_type}
use Rattle.c_types.proofs.WithEnumeration.{makes-with_enumerated_type}
use Rattle.c_types.proofs.table.TypeTable.enumerated.Goals as goal

pub invariant_of-self-2 : goal.invariant_of-self-2
invariant_of-self-2 c =
    let t = c.self.inside in
    let count : c.in-Some.enumerations ≡ t.enumerations + 1 = omega (arith, c.in-Some.ensures) in
    let same = fields-with_enumerated_type t.made.items c.push.new.self.items (map parts_of t.functions.items)
    (map compound_of t.compounds.items) t.enumerations c.in-Some.enumerations c.in_ok-push.ensures.items count in
    subst IsSound (sym same) (sound-with_enumerated_type (types_of t) c.self.invariant)

pub returns-clause-made : goal.returns-clause-made
returns-clause-made c =
    let t = c.self.inside in
    let id : TypeId = record { 0 = c.len.result } in
    let count : c.in-Some.enumerations ≡ t.enumerations + 1 = omega (arith, c.in-Some.ensures) in
    let same = fields-with_enumerated_type t.made.items c.push.new.self.items (map parts_of t.functions.items)
    (map compound_of t.compounds.items) t.enumerations c.in-Some.enumerations c.in_ok-push.ensures.items count in
    let new = types_of (record {
      alloc = t.alloc;
      made = c.push.new.self;
      functions = t.functions;
      compounds = t.compounds;
      enumerations = c.in-Some.enumerations;
    }) in
    subst (λ (x : Types). MakesEnumerated x new id) c.self.view_is
    (subst (λ (x : Types). MakesEnumerated (types_of t) x id) (sym same)
    (makes-with_enumerated_type (types_of t) id c.self.invariant (search rules)))
