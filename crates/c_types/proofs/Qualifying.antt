-- Qualifiers change no layout and no count of parts.
use Rattle.std.proofs.Common.{◌≡◌, refl, ap, sym, ◌∙◌}
use Rattle.std.specs.Prelude.{ℕ, Bool, true, false, ◌&&◌, List, Option, Some, None, option_map}
use Rattle.c_types.specs.declared.layout.Layout.{Layout}
use Rattle.c_types.specs.declared.shape.Shape.TheVariants as s
use Rattle.c_types.specs.declared.shape.Quals.{Quals}
use Rattle.c_types.specs.declared.shape.TypeId.{TypeId}
use Rattle.c_types.specs.CType.{CType, Plain, Array, quals_of, no_quals}
use Rattle.c_types.specs.Structures.{Structure}
use Rattle.c_types.specs.Layouts.{layout_of, times}
use Rattle.c_types.specs.Compatible.{same_bool, same_quals}
use Rattle.c_types.specs.Qualified.{with_quals, without_quals}
use Rattle.c_types.specs.Inner.{KeepsLayout}
use Rattle.c_types.proofs.Composites.{left_true, right_true}

-- a type with more qualifiers has the same layout
pub layout_of-with_quals : (type : CType) (more : Quals) (ss : List Structure) →
    layout_of (with_quals more type) ss ≡ layout_of type ss
layout_of-with_quals (Plain bare quals) more ss = refl
layout_of-with_quals (Array of None) more ss = refl
layout_of-with_quals (Array of (Some n)) more ss = ap (option_map (times n)) (layout_of-with_quals of more ss)

-- so has one without any
pub layout_of-without_quals : (type : CType) (ss : List Structure) → layout_of (without_quals type) ss
    ≡ layout_of type ss
layout_of-without_quals (Plain bare quals) ss = refl
layout_of-without_quals (Array of None) ss = refl
layout_of-without_quals (Array of (Some n)) ss = ap (option_map (times n)) (layout_of-without_quals of ss)

-- an array of other elements with the same layout has the layout of the array
pub keeps-array : (of of2 : TypeId) (len : Option ℕ) (kept : Option Layout) (type type2 : CType)
    (ss ss2 : List Structure) → KeepsLayout (s.Array of len) kept (Array type len) ss →
    layout_of type2 ss2 ≡ layout_of type ss → KeepsLayout (s.Array of2 len) kept (Array type2 len) ss2
keeps-array of of2 None kept type type2 ss ss2 k e = record { layout = k.layout; own = tt }
keeps-array of of2 (Some n) kept type type2 ss ss2 k e = record {
  layout = k.layout ∙ sym (ap (option_map (times n)) e);
  own = k.own;
}

-- a truth value that is equal to false
same_false : (a : Bool) → same_bool a false ≡ true → a ≡ false
same_false false h = refl
same_false true h = sym h

-- no qualifiers but those of none
none_same : (q : Quals) → same_quals q no_quals ≡ true → q ≡ no_quals
none_same q h =
    let front = left_true (same_bool q.constant false && same_bool q.volatile false) (same_bool q.restricted false) h in
    let c = same_false q.constant (left_true (same_bool q.constant false) (same_bool q.volatile false) front) in
    let v = same_false q.volatile (right_true (same_bool q.constant false) (same_bool q.volatile false) front) in
    let r = same_false q.restricted
    (right_true (same_bool q.constant false && same_bool q.volatile false) (same_bool q.restricted false) h) in
    ap (λ (b : Bool). record { constant = b; volatile = q.volatile; restricted = q.restricted }) c
    ∙ ap (λ (b : Bool). record { constant = false; volatile = b; restricted = q.restricted }) v
    ∙ ap (λ (b : Bool). record { constant = false; volatile = false; restricted = b }) r

-- a type without qualifiers is its own unqualified version
pub without-none : (type : CType) → same_quals (quals_of type) no_quals ≡ true → without_quals type ≡ type
without-none (Plain bare quals) h = ap (Plain bare) (sym (none_same quals h))
without-none (Array of len) h = ap (λ t. Array t len) (without-none of h)
