-- One more structure or union: the table stays sound, and has made it.
use Rattle.std.proofs.Common.{◌≡◌, false, is_err, length, sym, subst, rules}
use Rattle.c_types.specs.declared.shape.TypeId.{TypeId}
use Rattle.c_types.specs.Types.{Types}
use Rattle.c_types.specs.Compounds.{MakesCompound}
use Rattle.c_types.specs.Inner.{types_of, IsSound}
use Rattle.c_types.proofs.WithCompound.{sound-with_compound_type, makes-with_compound_type, pushed-compound}
use Rattle.c_types.proofs.table.TypeTable.compound.Goals as goal

pub invariant_of-self-else-is_err : goal.invariant_of-self-else-is_err
invariant_of-self-else-is_err c =
    let t = c.self.inside in
    let no_fault : is_err c.push-2.result ≡ false = cc in
    let number : c.len-number.result ≡ length t.compounds.items = search rules in
    let same = pushed-compound t.made.items c.push.new.self.items t.functions.items t.compounds.items
    c.push-2.new.self.items t.enumerations c.len-number.result c.args.is_union c.plain.result c.push-2.result number
    c.plain.ensures c.in_ok-push.ensures.items no_fault c.push-2.ensures.items in
    subst IsSound (sym same) (sound-with_compound_type (types_of t) c.args.is_union c.self.invariant)

pub returns-clause-made : goal.returns-clause-made
returns-clause-made c =
    let t = c.self.inside in
    let id : TypeId = record { 0 = c.len.result } in
    let no_fault : is_err c.push-2.result ≡ false = cc in
    let number : c.len-number.result ≡ length t.compounds.items = search rules in
    let same = pushed-compound t.made.items c.push.new.self.items t.functions.items t.compounds.items
    c.push-2.new.self.items t.enumerations c.len-number.result c.args.is_union c.plain.result c.push-2.result number
    c.plain.ensures c.in_ok-push.ensures.items no_fault c.push-2.ensures.items in
    let new = types_of (record {
      alloc = t.alloc;
      made = c.push.new.self;
      functions = t.functions;
      compounds = c.push-2.new.self;
      enumerations = t.enumerations;
    }) in
    subst (λ (x : Types). MakesCompound x new id c.args.is_union) c.self.view_is
    (subst (λ (x : Types). MakesCompound (types_of t) x id c.args.is_union) (sym same)
    (makes-with_compound_type (types_of t) c.args.is_union id c.self.invariant (search rules)))
