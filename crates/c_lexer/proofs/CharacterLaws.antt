-- What is read as a character constant or a string literal is one, and each is read.
use Rattle.std.proofs.Common.{◌≡◌, inl, inr, ℕ, List, [], ◌∷◌, ◌++◌, Bool, true, false, ◌==◌, ◌&&◌, cond, refl, sym}
use Rattle.std.proofs.Common.{◌∙◌, ap, subst}
use Rattle.std.proofs.lemmas.Bool.{eqb-true, and_parts}
use Rattle.std.proofs.lemmas.Option.{none-some}
use Rattle.std.proofs.lemmas.Slice.Eq.{bytes_eq-Decides}
use Rattle.std.specs.Prelude.{ℤ, Option, Some, None, IfSome, IfNone, Result, Ok, Err, IfOk}
use Rattle.std.specs.List.{flat_map}
use Rattle.std.specs.Option.{option_map}
use Rattle.std.specs.Str.{bytes_eq}
use Rattle.c_lexer.specs.Characters.{Item, Plain, Letter, Octal, Hexadecimal, IsLongest, item_text, unit_of}
use Rattle.c_lexer.specs.Characters.{encoding_prefix, AreItems, IsCharacter, IsLiteral}
use Rattle.c_lexer.specs.ReadCharacters.{item_at, close_character, character_of, units_at, close_literal, literal_of}
use Rattle.c_lexer.proofs.Cases.{cond_cases}
use Rattle.c_lexer.proofs.ItemLaws.{item_sound, item_full}
use Rattle.c_lexer.proofs.UnitLaws.{units_sound, units_full}

-- texts that the test finds equal are equal
same_text : (a b : List ℕ) → bytes_eq a b ≡ true → a ≡ b
same_text a b h = (bytes_eq-Decides a b).0 h

-- an item and the closing quote are a character constant
close_character_sound : (wide : Bool) (bytes : List ℕ) (o : Option (ℕ × List ℕ)) (found : ℤ × Bool)
    → item_at wide 39 bytes ≡ o → close_character wide o ≡ Some found
    → IsCharacter (encoding_prefix wide ++ (39 ∷ bytes)) found.0 found.1
close_character_sound wide bytes None found at h = absurd (none-some _ h)
close_character_sound wide bytes (Some x) found at h =
    elim (cond_cases (bytes_eq x.1 (39 ∷ [])) (Some (unit_of wide x.0, wide)) None (Some found) h) [
      | inl a ↦
          let i = item_sound wide 39 bytes x at in
          let same : (unit_of wide x.0, wide) ≡ found = (let e = a.1 in cc) in
          let P : ℤ × Bool → Type 0 = λ y. IsCharacter (encoding_prefix wide ++ (39 ∷ bytes)) y.0 y.1 in
          subst P same (record {
            item = i.item;
            code = x.0;
            parts = ap (λ t. encoding_prefix wide ++ (39 ∷ t)) (i.parts
                ∙ ap (λ t. item_text i.item ++ t) (same_text x.1 (39 ∷ []) a.0));
            fits = i.fits;
            same = refl;
          })
      | inr a ↦ absurd (none-some _ a.1)
    ]

-- no escape goes on with a quote
quote_ends : (item : Item) → IsLongest item (39 ∷ [])
quote_ends (Plain byte) = tt
quote_ends (Letter byte) = tt
quote_ends (Octal digits) = λ _. refl
quote_ends (Hexadecimal digits) = refl

-- the item of a character constant is read up to its closing quote
close_character_full : (wide : Bool) (text : List ℕ) (value : ℤ) (c : IsCharacter text value wide)
    → close_character wide (item_at wide 39 (item_text c.item ++ (39 ∷ []))) ≡ Some (value, wide)
close_character_full wide text value c =
    ap (close_character wide) (item_full wide 39 c.item c.code (39 ∷ []) c.fits (quote_ends c.item))
    ∙ ap (λ v. Some (v, wide)) (sym c.same)

-- units and the closing quote are a string literal
close_literal_sound : (wide : Bool) (bytes : List ℕ) (found : List ℤ × Bool)
    → close_literal wide (units_at wide bytes) ≡ Some found
    → IsLiteral (encoding_prefix wide ++ (34 ∷ bytes)) found.0 found.1
close_literal_sound wide bytes found h =
    elim (cond_cases (bytes_eq (units_at wide bytes).1 (34 ∷ [])) (Some ((units_at wide bytes).0, wide)) None
    (Some found) h) [
      | inl a ↦
          let u = units_sound wide bytes in
          let same : ((units_at wide bytes).0, wide) ≡ found = (let e = a.1 in cc) in
          let end : (units_at wide bytes).1 ≡ 34 ∷ [] = same_text (units_at wide bytes).1 (34 ∷ []) a.0 in
          let P : List ℤ × Bool → Type 0 = λ y. IsLiteral (encoding_prefix wide ++ (34 ∷ bytes)) y.0 y.1 in
          subst P same (record {
            items = u.items;
            values = u.values;
            parts = ap (λ t. encoding_prefix wide ++ (34 ∷ t)) (u.parts
                ∙ ap (λ t. flat_map item_text u.items ++ t) end);
            fit = subst (AreItems wide 34 u.items u.values) end u.fit;
            same = u.same;
          })
      | inr a ↦ absurd (none-some _ a.1)
    ]

-- the closing quote is no item
no_item : (wide : Bool) → item_at wide 34 (34 ∷ []) ≡ None
unfolding item_at
no_item true = refl
no_item false = refl

-- the items of a string literal are read up to its closing quote
close_literal_full : (wide : Bool) (text : List ℕ) (units : List ℤ) (l : IsLiteral text units wide)
    → close_literal wide (units_at wide (flat_map item_text l.items ++ (34 ∷ []))) ≡ Some (units, wide)
close_literal_full wide text units l =
    ap (close_literal wide) (units_full wide l.items l.values (34 ∷ []) l.fit (no_item wide))
    ∙ ap (λ v. Some (v, wide)) (sym l.same)

-- what is read as a character constant is one
pub character_sound : (text : List ℕ) (found : ℤ × Bool) → character_of text ≡ Some found
    → IsCharacter text found.0 found.1
unfolding character_of
character_sound [] found h = absurd (none-some _ h)
character_sound (a ∷ []) found h =
    elim (cond_cases (a == 39) (close_character false (item_at false 39 []))
    (cond (a == 76 && false) (close_character true (item_at true 39 [])) None) (Some found) h) [
      | inl x ↦ subst (λ b. IsCharacter (b ∷ []) found.0 found.1) (sym (eqb-true a 39 x.0))
          (close_character_sound false [] (item_at false 39 []) found refl x.1)
      | inr x ↦ elim (cond_cases (a == 76 && false) (close_character true (item_at true 39 [])) None (Some found) x.1)
          [ inl y ↦ absurd (let e = (and_parts (a == 76) false y.0).1 in cc) | inr y ↦ absurd (none-some _ y.1) ]
    ]
character_sound (a ∷ b ∷ rest) found h =
    elim (cond_cases (a == 39) (close_character false (item_at false 39 (b ∷ rest)))
    (cond (a == 76 && b == 39) (close_character true (item_at true 39 rest)) None) (Some found) h) [
      | inl x ↦ subst (λ k. IsCharacter (k ∷ b ∷ rest) found.0 found.1) (sym (eqb-true a 39 x.0))
          (close_character_sound false (b ∷ rest) (item_at false 39 (b ∷ rest)) found refl x.1)
      | inr x ↦ elim (cond_cases (a == 76 && b == 39) (close_character true (item_at true 39 rest)) None
          (Some found) x.1) [
            | inl y ↦
                let both = and_parts (a == 76) (b == 39) y.0 in
                let P : ℕ → ℕ → Type 0 = λ k m. IsCharacter (k ∷ m ∷ rest) found.0 found.1 in
                subst (λ k. P k b) (sym (eqb-true a 76 both.0))
                (subst (P 76) (sym (eqb-true b 39 both.1))
                (close_character_sound true rest (item_at true 39 rest) found refl y.1))
            | inr y ↦ absurd (none-some _ y.1)
          ]
    ]

-- each character constant is read
pub character_full : (text : List ℕ) (value : ℤ) (wide : Bool) → IsCharacter text value wide
    → character_of text ≡ Some (value, wide)
unfolding character_of
character_full text value false c = ap character_of c.parts ∙ close_character_full false text value c
character_full text value true c = ap character_of c.parts ∙ close_character_full true text value c

-- the clauses of `character_of`: what is found is a constant
pub character_found : (text : List ℕ) (r : Option (ℤ × Bool)) → r ≡ character_of text
    → IfSome r (λ found. IsCharacter text found.0 found.1)
character_found text None h = tt
character_found text (Some found) h = character_sound text found (sym h)

-- and where none is found there is none
pub character_none : (text : List ℕ) (r : Option (ℤ × Bool)) → r ≡ character_of text
    → IfNone r ((value : ℤ) (wide : Bool) → IsCharacter text value wide → ⊥)
character_none text (Some found) h = tt
character_none text None h = λ value wide is. none-some _ (h ∙ character_full text value wide is)

-- what is read as a string literal is one
pub literal_sound : (text : List ℕ) (found : List ℤ × Bool) → literal_of text ≡ Some found
    → IsLiteral text found.0 found.1
unfolding literal_of
literal_sound [] found h = absurd (none-some _ h)
literal_sound (a ∷ []) found h =
    elim (cond_cases (a == 34) (close_literal false (units_at false []))
    (cond (a == 76 && false) (close_literal true (units_at true [])) None) (Some found) h) [
      | inl x ↦ subst (λ b. IsLiteral (b ∷ []) found.0 found.1) (sym (eqb-true a 34 x.0))
          (close_literal_sound false [] found x.1)
      | inr x ↦ elim (cond_cases (a == 76 && false) (close_literal true (units_at true [])) None (Some found) x.1)
          [ inl y ↦ absurd (let e = (and_parts (a == 76) false y.0).1 in cc) | inr y ↦ absurd (none-some _ y.1) ]
    ]
literal_sound (a ∷ b ∷ rest) found h =
    elim (cond_cases (a == 34) (close_literal false (units_at false (b ∷ rest)))
    (cond (a == 76 && b == 34) (close_literal true (units_at true rest)) None) (Some found) h) [
      | inl x ↦ subst (λ k. IsLiteral (k ∷ b ∷ rest) found.0 found.1) (sym (eqb-true a 34 x.0))
          (close_literal_sound false (b ∷ rest) found x.1)
      | inr x ↦ elim (cond_cases (a == 76 && b == 34) (close_literal true (units_at true rest)) None (Some found) x.1) [
        | inl y ↦
            let both = and_parts (a == 76) (b == 34) y.0 in
            let P : ℕ → ℕ → Type 0 = λ k m. IsLiteral (k ∷ m ∷ rest) found.0 found.1 in
            subst (λ k. P k b) (sym (eqb-true a 76 both.0))
            (subst (P 76) (sym (eqb-true b 34 both.1)) (close_literal_sound true rest found y.1))
        | inr y ↦ absurd (none-some _ y.1)
      ]
    ]

-- each string literal is read
pub literal_full : (text : List ℕ) (units : List ℤ) (wide : Bool) → IsLiteral text units wide
    → literal_of text ≡ Some (units, wide)
unfolding literal_of
literal_full text units false c = ap literal_of c.parts ∙ close_literal_full false text units c
literal_full text units true c = ap literal_of c.parts ∙ close_literal_full true text units c

-- the same of a list that is kept in memory
pub literal_read : {V E : Type 0} (items : V → List ℤ) (text : List ℕ) (r : Result (Option (V × Bool)) E)
    → IfOk r (λ found. option_map (λ x. (items x.0, x.1)) found ≡ literal_of text)
    → IfOk r (λ o. IfSome o (λ found. IsLiteral text (items found.0) found.1))
literal_read items text (Err e) h = tt
literal_read items text (Ok None) h = tt
literal_read items text (Ok (Some found)) h = literal_sound text (items found.0, found.1) (sym h)

-- and where none is read there is none
pub literal_not_read : {V E : Type 0} (items : V → List ℤ) (text : List ℕ) (r : Result (Option (V × Bool)) E)
    → IfOk r (λ found. option_map (λ x. (items x.0, x.1)) found ≡ literal_of text)
    → IfOk r (λ o. IfNone o ((units : List ℤ) (wide : Bool) → IsLiteral text units wide → ⊥))
literal_not_read items text (Err e) h = tt
literal_not_read items text (Ok (Some found)) h = tt
literal_not_read items text (Ok None) h = λ units wide is. none-some _ (h ∙ literal_full text units wide is)
