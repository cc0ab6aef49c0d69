-- What the rule of arrays says, by what the table does.
use Rattle.std.proofs.Common.{◌≡◌, ◌∙◌, ℕ, ◌*◌, Bool, true, false, cond, List, [], ◌∷◌, refl, subst, sym}
use Rattle.std.specs.Prelude.{Option, Some, None, is_some, not, nat_le, ◌||◌, if◌then◌else◌}
use Rattle.c_types.specs.declared.layout.Layout.{Layout}
use Rattle.c_types.specs.declared.fault.LayoutFault.{LayoutFault}
use Rattle.c_types.specs.declared.fault.LayoutFault.TheVariants.{Incomplete, TooLarge}
use Rattle.c_types.specs.CType.{CType, Plain, Array, BasicType, Pointer, Function, Compound, Enumerated}
use Rattle.c_types.specs.Layouts.{layout_of, array_layout, array_fault, largest}
use Rattle.c_types.specs.Structures.{Structure}
use Rattle.c_scopes.specs.Ruled.{Ruled, Fits, Breaks, Demand, ruled}
use Rattle.c_conversions.specs.Versions.{is_function}
use Rattle.c_type_rules.specs.Arrays.{array_rule, is_without_length, is_layout_small}

-- a function has no layout
pub array_of_function : (structures : List Structure) (of : CType) (length : Option ℕ) → is_function of ≡ true
    → array_rule structures of length ≡ Breaks 10
array_of_function structures (Plain (Function gives parameters variadic) quals) None e = refl
array_of_function structures (Plain (Function gives parameters variadic) quals) (Some n) e = refl
array_of_function structures (Plain (BasicType basic) quals) length e = absurd (cc)
array_of_function structures (Plain (Pointer to) quals) length e = absurd (cc)
array_of_function structures (Plain (Compound number) quals) length e = absurd (cc)
array_of_function structures (Plain (Enumerated number) quals) length e = absurd (cc)
array_of_function structures (Array of len) length e = absurd (cc)

-- an array without a length has none
pub array_without_length : (structures : List Structure) (of : CType) (length : Option ℕ)
    → is_without_length of ≡ true → array_rule structures of length ≡ Breaks 9
array_without_length structures (Array of None) None e = refl
array_without_length structures (Array of None) (Some n) e = refl
array_without_length structures (Array of (Some m)) length e = absurd (cc)
array_without_length structures (Plain bare quals) length e = absurd (cc)

-- ---- what is no function and has its length

abbrev demands : Option Layout → Bool → Bool → Option ℕ → List Demand
demands layout function unknown length = (7, is_some layout || function || unknown)
    ∷ (8, is_layout_small (array_layout layout length)) ∷ (9, not unknown) ∷ (10, not function) ∷ []

-- what is said where the table finds this fault
abbrev Says : Option LayoutFault → Ruled CType → CType → Type 0
Says None verdict made = verdict ≡ Fits made
Says (Some Incomplete) verdict made = verdict ≡ Breaks 7
Says (Some TooLarge) verdict made = verdict ≡ Breaks 8

small : (size : ℕ) (small : Bool) (made : CType) → Says (if small then None else Some TooLarge)
    (cond small (Fits made) (Breaks 8)) made
small size true made = refl
small size false made = refl

says : (layout : Option Layout) (length : Option ℕ) (made : CType) → Says (array_fault layout length)
    (ruled (demands layout false false length) made) made
says None length made = refl
says (Some layout) None made = refl
says (Some layout) (Some n) made = small (n * layout.size) (nat_le (n * layout.size) largest) made

pub array_says : (structures : List Structure) (of : CType) (length : Option ℕ) (function unknown : Bool)
    → function ≡ is_function of → unknown ≡ is_without_length of → function ≡ false → unknown ≡ false
    → Says (array_fault (layout_of of structures) length) (array_rule structures of length) (Array of length)
array_says structures of length function unknown f u ef eu =
    subst (λ (b : Bool). Says (array_fault (layout_of of structures) length)
    (ruled (demands (layout_of of structures) b (is_without_length of) length) (Array of length)) (Array of length))
    (sym ef ∙ f)
    (subst (λ (b : Bool). Says (array_fault (layout_of of structures) length)
    (ruled (demands (layout_of of structures) false b length) (Array of length)) (Array of length))
    (sym eu ∙ u) (says (layout_of of structures) length (Array of length)))

pub array_incomplete : (structures : List Structure) (of : CType) (length : Option ℕ) → is_function of ≡ false
    → is_without_length of ≡ false → array_fault (layout_of of structures) length ≡ Some Incomplete
    → array_rule structures of length ≡ Breaks 7
array_incomplete structures of length f u e =
    subst (λ (fault : Option LayoutFault). Says fault (array_rule structures of length) (Array of length)) e
    (array_says structures of length _ _ refl refl f u)

pub array_large : (structures : List Structure) (of : CType) (length : Option ℕ) → is_function of ≡ false
    → is_without_length of ≡ false → array_fault (layout_of of structures) length ≡ Some TooLarge
    → array_rule structures of length ≡ Breaks 8
array_large structures of length f u e =
    subst (λ (fault : Option LayoutFault). Says fault (array_rule structures of length) (Array of length)) e
    (array_says structures of length _ _ refl refl f u)

pub array_fits : (structures : List Structure) (of : CType) (length : Option ℕ) → is_function of ≡ false
    → is_without_length of ≡ false → array_fault (layout_of of structures) length ≡ None
    → array_rule structures of length ≡ Fits (Array of length)
array_fits structures of length f u e =
    subst (λ (fault : Option LayoutFault). Says fault (array_rule structures of length) (Array of length)) e
    (array_says structures of length _ _ refl refl f u)

-- what the rule says in each case
pub ruleset verdicts = (array_of_function, array_without_length, array_incomplete, array_large, array_fits)
