-- Types that come from well-formed ones: with other qualifiers, behind a pointer, of a member.
use Rattle.std.proofs.Common.{◌≡◌, ℕ, ◌<◌, true, false, List, [], ◌∷◌, Option, Some, None}
use Rattle.std.proofs.Common.{is_some, option_map, refl, sym, ap, subst}
use Rattle.std.specs.Str.{bytes_eq}
use Rattle.c_types.specs.declared.basic.Basic.TheVariants as b
use Rattle.c_types.specs.declared.layout.Layout.{Layout}
use Rattle.c_types.specs.declared.shape.Quals.{Quals}
use Rattle.c_types.specs.CType.{CType, Plain, Array, BasicType, Pointer, Function, Compound, Enumerated}
use Rattle.c_types.specs.Layouts.{layout_of, times, largest}
use Rattle.c_types.specs.Qualified.{with_quals, without_quals}
use Rattle.c_types.specs.Structures.{Structure, StructureBody, TypedMember, structure_at, members_of, members_of_body}
use Rattle.c_types.specs.Structures.{typed_member_named}
use Rattle.c_core.specs.declared.form.Form.{Form}
use Rattle.c_core.specs.Types.{value_form, HasForm, IsObject, IsScalar}
use Rattle.c_conversions.specs.Versions.{is_pointer, is_void, is_compound}
use Rattle.c_expr_rules.specs.Members.{member_in, member_or_none}
use Rattle.c_expr_rules.specs.Targets.{target_of, is_complete}
use Rattle.c_typing_law.specs.WellFormed.{TypeFormed, IsElement, StructuresFormed, BodyFormed, MembersFormed}
use Rattle.c_typing_law.proofs.Facts.{if_either}

-- ---- more qualifiers, and none

with_quals_layout : (structures : List Structure) (quals : Quals) (type : CType)
    → layout_of (with_quals quals type) structures ≡ layout_of type structures
with_quals_layout structures quals (Plain bare quals2) = refl
with_quals_layout structures quals (Array of None) = refl
with_quals_layout structures quals (Array of (Some n)) =
    ap (option_map (times n)) (with_quals_layout structures quals of)

pub with_quals_formed : (structures : List Structure) (quals : Quals) (type : CType) → TypeFormed structures type
    → TypeFormed structures (with_quals quals type)
with_quals_formed structures quals (Plain bare quals2) h = h
with_quals_formed structures quals (Array of len) h = (
  with_quals_formed structures quals of h.0,
  (let P : Option Layout → Type 0 = IsElement len in
      subst P (sym (with_quals_layout structures quals of)) h.1),
)

pub without_quals_layout : (structures : List Structure) (type : CType)
    → layout_of (without_quals type) structures ≡ layout_of type structures
without_quals_layout structures (Plain bare quals) = refl
without_quals_layout structures (Array of None) = refl
without_quals_layout structures (Array of (Some n)) =
    ap (option_map (times n)) (without_quals_layout structures of)

pub without_quals_formed : (structures : List Structure) (type : CType) → TypeFormed structures type
    → TypeFormed structures (without_quals type)
without_quals_formed structures (Plain bare quals) h = h
without_quals_formed structures (Array of len) h = (
  without_quals_formed structures of h.0,
  (let P : Option Layout → Type 0 = IsElement len in
      subst P (sym (without_quals_layout structures of)) h.1),
)

pub with_quals_object : (quals : Quals) (type : CType) → IsObject type → IsObject (with_quals quals type)
with_quals_object quals (Plain (BasicType b.Void) quals2) h = h
with_quals_object quals (Plain (BasicType basic) quals2) h = tt
with_quals_object quals (Plain (Pointer to) quals2) h = tt
with_quals_object quals (Plain (Function gives parameters variadic) quals2) h = h
with_quals_object quals (Plain (Compound number) quals2) h = tt
with_quals_object quals (Plain (Enumerated number) quals2) h = tt
with_quals_object quals (Array of len) h = tt

pub unqualified_pointer : (type : CType) → is_pointer type ≡ true → is_pointer (without_quals type) ≡ true
unqualified_pointer (Plain (Pointer to) quals) h = refl
unqualified_pointer (Plain (BasicType basic) quals) h = cc
unqualified_pointer (Plain (Enumerated number) quals) h = cc
unqualified_pointer (Plain (Function gives parameters variadic) quals) h = cc
unqualified_pointer (Plain (Compound number) quals) h = cc
unqualified_pointer (Array of len) h = cc

-- ---- what types leave

same_form : (type : CType) (given f : Form) → Some given ≡ Some f → HasForm type given → HasForm type f
same_form type given f e h =
    let P : Form → Type 0 = HasForm type in let same : given ≡ f = cc in subst P same h

pub form_suits : (type : CType) (f : Form) → value_form type ≡ Some f → HasForm type f
form_suits (Plain (BasicType b.Void) quals) f e = same_form (Plain (BasicType b.Void) quals) _ f e tt
form_suits (Plain (BasicType basic) quals) f e = same_form (Plain (BasicType basic) quals) _ f e refl
form_suits (Plain (Pointer to) quals) f e = same_form (Plain (Pointer to) quals) _ f e tt
form_suits (Plain (Enumerated number) quals) f e = same_form (Plain (Enumerated number) quals) _ f e refl
form_suits (Plain (Compound number) quals) f e = same_form (Plain (Compound number) quals) _ f e tt
form_suits (Plain (Function gives parameters variadic) quals) f e = cc
form_suits (Array of len) f e = cc

same_scalar : (given f : Form) → Some given ≡ Some f → IsScalar given → IsScalar f
same_scalar given f e h = let P : Form → Type 0 = IsScalar in let same : given ≡ f = cc in subst P same h

-- what is neither void nor a structure or union leaves a number or a pointer
pub scalar_left : (type : CType) (f : Form) → value_form type ≡ Some f → is_void type ≡ false
    → is_compound type ≡ false → IsScalar f
scalar_left (Plain (BasicType b.Void) quals) f e v h = cc
scalar_left (Plain (BasicType basic) quals) f e v h = same_scalar _ f e tt
scalar_left (Plain (Pointer to) quals) f e v h = same_scalar _ f e tt
scalar_left (Plain (Enumerated number) quals) f e v h = same_scalar _ f e tt
scalar_left (Plain (Compound number) quals) f e v h = cc
scalar_left (Plain (Function gives parameters variadic) quals) f e v h = cc
scalar_left (Array of len) f e v h = cc

-- ---- targets

pub target_formed : (structures : List Structure) (type : CType) → TypeFormed structures type
    → TypeFormed structures (target_of type)
target_formed structures (Plain (Pointer to) quals) h = h
target_formed structures (Plain (BasicType basic) quals) h = tt
target_formed structures (Plain (Enumerated number) quals) h = tt
target_formed structures (Plain (Function gives parameters variadic) quals) h = tt
target_formed structures (Plain (Compound number) quals) h = tt
target_formed structures (Array of len) h = tt

-- a complete type is an object type
pub complete_object : (structures : List Structure) (type : CType) → is_complete type structures ≡ true → IsObject type
complete_object structures (Plain (BasicType b.Void) quals) h = cc
complete_object structures (Plain (BasicType basic) quals) h = tt
complete_object structures (Plain (Pointer to) quals) h = tt
complete_object structures (Plain (Enumerated number) quals) h = tt
complete_object structures (Plain (Function gives parameters variadic) quals) h = cc
complete_object structures (Plain (Compound number) quals) h = tt
complete_object structures (Array of len) h = tt

-- ---- members

pub record FoundFormed (structures : List Structure) (found : CType × ℕ) : Type 0 where
  pub type : TypeFormed structures found.0
  pub is_object : IsObject found.0
  pub at : found.1 < largest

found_formed : (structures : List Structure) (members : List TypedMember) (name : List ℕ)
    → MembersFormed structures members → is_some (typed_member_named members name) ≡ true
    → FoundFormed structures (member_or_none (typed_member_named members name))
found_formed structures [] name formed h = cc
found_formed structures (member ∷ members) name formed h =
    if_either
    (λ (found : Option (CType × ℕ)). is_some found ≡ true → FoundFormed structures (member_or_none found))
    (bytes_eq member.name name) (Some (member.of, member.at)) (typed_member_named members name)
    (λ same there. record { type = formed.0.type; is_object = formed.0.is_object; at = formed.0.at })
    (λ other there. found_formed structures members name formed.1 there) h

body_members : (structures : List Structure) (body : Option StructureBody)
    → ((given : StructureBody) → body ≡ Some given → BodyFormed structures given)
    → MembersFormed structures (members_of_body body)
body_members structures None formed = tt
body_members structures (Some body) formed = (formed body refl).members

members_formed : (structures : List Structure) → StructuresFormed structures → (type : CType)
    → MembersFormed structures (members_of type structures)
members_formed structures formed (Plain (Compound number) quals) =
    body_members structures (structure_at structures number).body (formed number)
members_formed structures formed (Plain (Pointer to) quals) = tt
members_formed structures formed (Plain (BasicType basic) quals) = tt
members_formed structures formed (Plain (Enumerated number) quals) = tt
members_formed structures formed (Plain (Function gives parameters variadic) quals) = tt
members_formed structures formed (Array of len) = tt

pub member_formed : (structures : List Structure) → StructuresFormed structures → (type : CType) (name : List ℕ)
    → is_some (member_in type structures name) ≡ true
    → FoundFormed structures (member_or_none (member_in type structures name))
member_formed structures formed type name h =
    found_formed structures (members_of type structures) name (members_formed structures formed type) h

-- what has a member is a complete structure or union
pub member_compound : (structures : List Structure) (type : CType) (name : List ℕ)
    → is_some (member_in type structures name) ≡ true → is_compound type ≡ true
member_compound structures (Plain (Compound number) quals) name h = refl
member_compound structures (Plain (Pointer to) quals) name h = cc
member_compound structures (Plain (BasicType basic) quals) name h = cc
member_compound structures (Plain (Enumerated number) quals) name h = cc
member_compound structures (Plain (Function gives parameters variadic) quals) name h = cc
member_compound structures (Array of len) name h = cc

body_complete : (body : Option StructureBody) (name : List ℕ)
    → is_some (typed_member_named (members_of_body body) name) ≡ true
    → is_some (option_map (λ (given : StructureBody). given.layout) body) ≡ true
body_complete None name h = cc
body_complete (Some body) name h = refl

pub member_complete : (structures : List Structure) (type : CType) (name : List ℕ)
    → is_some (member_in type structures name) ≡ true → is_complete type structures ≡ true
member_complete structures (Plain (Compound number) quals) name h =
    body_complete (structure_at structures number).body name h
member_complete structures (Plain (Pointer to) quals) name h = refl
member_complete structures (Plain (BasicType basic) quals) name h = cc
member_complete structures (Plain (Enumerated number) quals) name h = refl
member_complete structures (Plain (Function gives parameters variadic) quals) name h = cc
member_complete structures (Array of len) name h = cc

-- what points to something that has a member is a pointer
pub member_pointer : (structures : List Structure) (type : CType) (name : List ℕ)
    → is_some (member_in (target_of type) structures name) ≡ true → is_pointer type ≡ true
member_pointer structures (Plain (Pointer to) quals) name h = refl
member_pointer structures (Plain (Compound number) quals) name h = cc
member_pointer structures (Plain (BasicType basic) quals) name h = cc
member_pointer structures (Plain (Enumerated number) quals) name h = cc
member_pointer structures (Plain (Function gives parameters variadic) quals) name h = cc
member_pointer structures (Array of len) name h = cc
