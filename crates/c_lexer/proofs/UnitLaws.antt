-- The units of a literal, one item at a time.
use Rattle.std.proofs.Common.{◌≡◌, ℕ, zero, suc, ◌<◌, ◌≤◌, List, [], ◌∷◌, ◌++◌, Bool, length, refl, sym, ◌∙◌, ap}
use Rattle.std.proofs.Common.{subst, arith, append_assoc, length-append}
use Rattle.std.proofs.lemmas.Option.{none-some}
use Rattle.std.specs.Prelude.{ℤ, Option, Some, None, map}
use Rattle.std.specs.List.{flat_map}
use Rattle.c_lexer.specs.Characters.{Item, Plain, Letter, Octal, Hexadecimal, item_text, unit_of, AreItems, IsLongest}
use Rattle.c_lexer.specs.ReadCharacters.{item_at, units_from, units_more, units_at}
use Rattle.c_lexer.proofs.ItemLaws.{item_sound, item_full}

-- an item has bytes
text_some : (item : Item) → 0 < length (item_text item)
text_some (Plain byte) = omega arith
text_some (Letter byte) = omega arith
text_some (Octal digits) = omega arith
text_some (Hexadecimal digits) = omega arith

-- what follows an item is shorter
pub item_shorter : (wide : Bool) (quote : ℕ) (bytes : List ℕ) (found : ℕ × List ℕ)
    → item_at wide quote bytes ≡ Some found → length found.1 < length bytes
item_shorter wide quote bytes found h =
    let i = item_sound wide quote bytes found h in
    omega (arith, text_some i.item, ap length i.parts, length-append (item_text i.item) found.1)

-- no item stands in no bytes
no_item : (wide : Bool) → item_at wide 34 [] ≡ None
unfolding item_at
no_item wide = refl

-- one item more, for `fuel_same`
fuel_step : (n m : ℕ) (wide : Bool) (bytes : List ℕ) (o : Option (ℕ × List ℕ)) → item_at wide 34 bytes ≡ o
    → length bytes ≤ suc n → length bytes ≤ suc m
    → ((after : List ℕ) → length after ≤ n → length after ≤ m → units_from n wide after ≡ units_from m wide after)
    → units_more (units_from n wide) wide bytes o ≡ units_more (units_from m wide) wide bytes o
fuel_step n m wide bytes None at small less same = refl
fuel_step n m wide bytes (Some found) at small less same =
    let shorter = item_shorter wide 34 bytes found at in
    ap (λ (r : List ℤ × List ℕ). (unit_of wide found.0 ∷ r.0, r.1))
    (same found.1 (omega (arith, shorter, small)) (omega (arith, shorter, less)))

-- more turns than bytes change nothing
fuel_same : (n m : ℕ) (wide : Bool) (bytes : List ℕ) → length bytes ≤ n → length bytes ≤ m
    → units_from n wide bytes ≡ units_from m wide bytes
fuel_same zero zero wide bytes small less = refl
fuel_same zero (suc m) wide [] small less = sym (ap (units_more (units_from m wide) wide []) (no_item wide))
fuel_same zero (suc m) wide (b ∷ bytes) small less = absurd (omega (arith, small))
fuel_same (suc n) zero wide [] small less = ap (units_more (units_from n wide) wide []) (no_item wide)
fuel_same (suc n) zero wide (b ∷ bytes) small less = absurd (omega (arith, less))
fuel_same (suc n) (suc m) wide bytes small less =
    fuel_step n m wide bytes (item_at wide 34 bytes) refl small less (fuel_same n m wide)

-- the first unit and those behind it
pub units_step : (wide : Bool) (bytes : List ℕ) (found : ℕ × List ℕ) → item_at wide 34 bytes ≡ Some found
    → units_at wide bytes ≡ (unit_of wide found.0 ∷ (units_at wide found.1).0, (units_at wide found.1).1)
unfolding units_at
units_step wide [] found h = absurd (none-some _ (sym (no_item wide) ∙ h))
units_step wide (b ∷ bytes) found h =
    let shorter = item_shorter wide 34 (b ∷ bytes) found h in
    ap (units_more (units_from (length bytes) wide) wide (b ∷ bytes)) h
    ∙ ap (λ (r : List ℤ × List ℕ). (unit_of wide found.0 ∷ r.0, r.1))
    (fuel_same (length bytes) (length found.1) wide found.1 (omega (arith, shorter)) (omega arith))

-- where no item stands there are no units
pub units_stop : (wide : Bool) (bytes : List ℕ) → item_at wide 34 bytes ≡ None → units_at wide bytes ≡ ([], bytes)
unfolding units_at
units_stop wide [] h = refl
units_stop wide (b ∷ bytes) h = ap (units_more (units_from (length bytes) wide) wide (b ∷ bytes)) h

-- the items that were read
pub record HasUnits (wide : Bool) (bytes : List ℕ) (found : List ℤ × List ℕ) : Type 0 where
  pub items : List Item
  pub values : List ℕ
  pub parts : bytes ≡ flat_map item_text items ++ found.1
  pub fit : AreItems wide 34 items values found.1
  pub same : found.0 ≡ map (unit_of wide) values

-- one item more, for `units_from_sound`
more_sound : (go : List ℕ → List ℤ × List ℕ) (wide : Bool) (bytes : List ℕ) (o : Option (ℕ × List ℕ))
    → item_at wide 34 bytes ≡ o → ((after : List ℕ) → HasUnits wide after (go after))
    → HasUnits wide bytes (units_more go wide bytes o)
more_sound go wide bytes None at all = record { items = []; values = []; parts = refl; fit = tt; same = refl }
more_sound go wide bytes (Some found) at all =
    let i = item_sound wide 34 bytes found at in
    let u = all found.1 in
    record {
      items = i.item ∷ u.items;
      values = found.0 ∷ u.values;
      parts = i.parts
          ∙ (ap (λ t. item_text i.item ++ t) u.parts
          ∙ sym (append_assoc (item_text i.item) (flat_map item_text u.items) (go found.1).1));
      fit = (i.fits, subst (IsLongest i.item) u.parts i.ends, u.fit);
      same = ap (λ t. unit_of wide found.0 ∷ t) u.same;
    }

-- units that are read in so many turns are those of items
units_from_sound : (n : ℕ) (wide : Bool) (bytes : List ℕ) → HasUnits wide bytes (units_from n wide bytes)
units_from_sound zero wide bytes = record { items = []; values = []; parts = refl; fit = tt; same = refl }
units_from_sound (suc n) wide bytes =
    more_sound (units_from n wide) wide bytes (item_at wide 34 bytes) refl (units_from_sound n wide)

-- units that are read are those of items
pub units_sound : (wide : Bool) (bytes : List ℕ) → HasUnits wide bytes (units_at wide bytes)
unfolding units_at
units_sound wide bytes = units_from_sound (length bytes) wide bytes

-- the units of items are read
pub units_full : (wide : Bool) (items : List Item) (values : List ℕ) (after : List ℕ)
    → AreItems wide 34 items values after → item_at wide 34 after ≡ None
    → units_at wide (flat_map item_text items ++ after) ≡ (map (unit_of wide) values, after)
units_full wide [] [] after fit none = units_stop wide after none
units_full wide [] (value ∷ values) after fit none = absurd fit
units_full wide (item ∷ items) [] after fit none = absurd fit
units_full wide (item ∷ items) (value ∷ values) after fit none =
    let rest = flat_map item_text items ++ after in
    let regrouped : flat_map item_text (item ∷ items) ++ after
    ≡ item_text item ++ (flat_map item_text items ++ after) =
    append_assoc (item_text item) (flat_map item_text items) after in
    let first = item_full wide 34 item value (flat_map item_text items ++ after) fit.0 fit.1 in
    ap (units_at wide) regrouped
    ∙ (units_step wide (item_text item ++ (flat_map item_text items ++ after)) (
      value,
      flat_map item_text items ++ after,
    ) first
    ∙ ap (λ (r : List ℤ × List ℕ). (unit_of wide value ∷ r.0, r.1)) (units_full wide items values after fit.2 none))

-- one unit more
pub units_turn : (wide : Bool) (front now : List ℤ) (bytes : List ℕ) (found : ℕ × List ℕ) (whole : List ℤ × List ℕ)
    → item_at wide 34 bytes ≡ Some found → now ≡ front ++ (unit_of wide found.0 ∷ [])
    → (front ++ (units_at wide bytes).0, (units_at wide bytes).1) ≡ whole
    → (now ++ (units_at wide found.1).0, (units_at wide found.1).1) ≡ whole
units_turn wide front now bytes found whole at is kept =
    let more : List ℤ × List ℕ = units_at wide found.1 in
    ap (λ (t : List ℤ). (t ++ more.0, more.1)) is
    ∙ (ap (λ (t : List ℤ). (t, more.1)) (append_assoc front (unit_of wide found.0 ∷ []) more.0)
    ∙ (ap (λ (r : List ℤ × List ℕ). (front ++ r.0, r.1)) (sym (units_step wide bytes found at)) ∙ kept))
