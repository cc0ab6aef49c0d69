-- One more function type: the table stays sound, and has made it.
use Rattle.std.proofs.Common.{◌≡◌, [], ◌∷◌, false, is_err, length, sym, subst, rules}
use Rattle.c_types.specs.declared.shape.TypeId.{TypeId}
use Rattle.c_types.specs.Types.{Types, count_of}
use Rattle.c_types.specs.CType.{Plain, Function, type_of, types_at, all_types, no_quals}
use Rattle.c_types.specs.Making.{MakesType}
use Rattle.c_types.specs.Composite.{AddsTypes}
use Rattle.c_types.specs.Inner.{types_of, parts_of, IsSound}
use Rattle.c_types.proofs.WithFunction.{sound-with_function_type, makes-with_function_type, pushed-function}
use Rattle.c_types.proofs.WithFunction.{function_entry, IsBelow, Counts}
use Rattle.c_types.proofs.table.TypeTable.push_function.Goals as goal

pub invariant_of-self-else-is_err : goal.invariant_of-self-else-is_err
invariant_of-self-else-is_err c =
    let t = c.self.inside in
    let old = types_of t in
    let f = parts_of c.args.signature in
    let count = c.args.parts in
    let no_fault : is_err c.push-2.result ≡ false = cc in
    let number : c.len-number.result ≡ length t.functions.items = search rules in
    let same = pushed-function t.made.items c.push.new.self.items t.functions.items c.push-2.new.self.items
    t.compounds.items t.enumerations count c.len-number.result c.args.signature c.plain.result c.push-2.result number
    c.plain.ensures c.in_ok-push.ensures.items no_fault c.push-2.ensures.items in
    let below : IsBelow (count_of old) f =
    subst (λ (x : Types). IsBelow (count_of x) f) (sym c.self.view_is) (c.requires.gives, c.requires.parameters) in
    let counts : Counts old f count =
    subst (λ (x : Types). Counts x f count) (sym c.self.view_is) (c.requires.count, c.requires.bound) in
    subst IsSound (sym same) (sound-with_function_type old f count c.self.invariant below counts)

pub returns-clause-made : goal.returns-clause-made
returns-clause-made c =
    let t = c.self.inside in
    let old = types_of t in
    let f = parts_of c.args.signature in
    let id : TypeId = record { 0 = c.len.result } in
    let no_fault : is_err c.push-2.result ≡ false = cc in
    let number : c.len-number.result ≡ length t.functions.items = search rules in
    let same = pushed-function t.made.items c.push.new.self.items t.functions.items c.push-2.new.self.items
    t.compounds.items t.enumerations c.args.parts c.len-number.result c.args.signature c.plain.result
    c.push-2.result number c.plain.ensures c.in_ok-push.ensures.items no_fault c.push-2.ensures.items in
    let makes = makes-with_function_type old f c.args.parts id c.self.invariant (search rules) in
    let new = types_of (record {
      alloc = t.alloc;
      made = c.push.new.self;
      functions = c.push-2.new.self;
      compounds = t.compounds;
      enumerations = t.enumerations;
    }) in
    subst (λ (x : Types). MakesType x new id
    (Plain (Function (type_of x f.gives) (types_at (all_types x) f.parameters) f.variadic) no_quals))
    c.self.view_is
    (subst (λ (x : Types). MakesType old x id
    (Plain (Function (type_of old f.gives) (types_at (all_types old) f.parameters) f.variadic) no_quals))
    (sym same) makes)

pub returns-clause-more : goal.returns-clause-more
returns-clause-more c =
    let t = c.self.inside in
    let old = types_of t in
    let no_fault : is_err c.push-2.result ≡ false = cc in
    let number : c.len-number.result ≡ length t.functions.items = search rules in
    let same = pushed-function t.made.items c.push.new.self.items t.functions.items c.push-2.new.self.items
    t.compounds.items t.enumerations c.args.parts c.len-number.result c.args.signature c.plain.result
    c.push-2.result number c.plain.ensures c.in_ok-push.ensures.items no_fault c.push-2.ensures.items in
    let new = types_of (record {
      alloc = t.alloc;
      made = c.push.new.self;
      functions = c.push-2.new.self;
      compounds = t.compounds;
      enumerations = t.enumerations;
    }) in
    let more : AddsTypes old new = record {
      more = function_entry old c.args.parts ∷ [];
      functions = parts_of c.args.signature ∷ [];
      is = same;
    } in
    subst (λ (x : Types). AddsTypes x new) c.self.view_is more
