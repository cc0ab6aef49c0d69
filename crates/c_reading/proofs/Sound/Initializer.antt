-- What is read as an initializer or an item of a list in braces is one.
use Rattle.std.proofs.Common.{◌≡◌, inl, inr, ℕ, zero, suc, List, [], ◌∷◌, ◌++◌, Bool, true, false, nat_le, Option}
use Rattle.std.proofs.Common.{Some, None, refl, subst, arith}
use Rattle.std.specs.List.{flat_map}
use Rattle.critical_table.specs.declared.pos.Pos.{Pos}
use Rattle.c_lexer.specs.declared.punct.Punct.TheVariants as p
use Rattle.c_lexer.specs.declared.token.Token.{Token}
use Rattle.c_lexer.specs.declared.token.Body.TheVariants as lexeme
use Rattle.c_syntax.specs.Levels.{assignment, conditional}
use Rattle.c_syntax.specs.HeightUnit.{initializer_height, item_height, items_height}
use Rattle.c_reading.specs.Parser.{Parser, Unfit, Found, ◌>>=◌, pure, fail, skip, expect, next_body, place, tail}
use Rattle.c_reading.specs.ReadBody.{unless_deep, begins_initializer, begins_item, Initializers, listed_items, braces}
use Rattle.c_reading.specs.ReadBody.{initializer_at, member_item, index_item, item_at, initializers}
use Rattle.c_syntax.specs.ViewUnit.{items}
use Rattle.c_reading.specs.ReadSpecifier.{parsers}
use Rattle.c_reading.specs.ReadToken.{is_mark, name_of}
use Rattle.c_syntax.specs.Scopes.{Scope, expr_adds}
use Rattle.c_syntax.specs.ScopesUnit.{item_adds}
use Rattle.c_syntax.specs.SpellingUnit.{spell_initializer, spell_item, spelled_items}
use Rattle.c_syntax.specs.Tokens.{mark, commas, comma_if}
use Rattle.c_syntax.specs.Tree.{Expr}
use Rattle.c_syntax.specs.TreeUnit.{Initializer, Single, Braces, Item, Plain, ForMember, ForIndex}
use Rattle.c_syntax.specs.WellFormedUnit.{HasItem, IsInitializer, IsItem, AreItems}
use Rattle.c_reading.proofs.Sound.Steps.{moved, bind_found, chosen, deeper_found, mark_then, joined, nothing_spelt}
use Rattle.c_reading.proofs.Sound.Steps.{spelt_at, spelt_bare, spelt_mark, listed_found}
use Rattle.c_reading.proofs.Sound.Law.{Read, Listed, Sound, spelt}
use Rattle.c_reading.proofs.Sound.Specifier.{parsers_sound}
use Rattle.c_reading.proofs.TokenTests.{is_mark_is, token_is, name_is}

-- where no height is left nothing is found
pub unless_found : {A : Type 0} (begins : Bool) (tokens rest : List Token) (a : A)
    → unless_deep {A = A} begins tokens ≡ Found a rest → ⊥
unless_found true tokens rest a h = cc (h)
unless_found false tokens rest a h = cc (h)

pub record SoundInitializers (k : ℕ) (r : Initializers) : Type 0 where
  pub initializer : (scope : Scope)
      → Sound (λ one. IsInitializer one scope) initializer_height spell_initializer k (r.initializer scope)
  pub item : (scope : Scope) → Sound (λ one. IsItem one scope) item_height spell_item k (r.item scope)

module _ (k : ℕ) (low : Initializers) (sound : SoundInitializers k low) where
  -- ---- a list in braces

  abbrev MoreRead : Scope → List Token → List Item → Bool → List Token → Type 0
  MoreRead scope tokens more b rest =
      Listed (AreItems (items more) scope) (items_height (items more)) k
      (flat_map (λ part. mark p.Comma ∷ part) (spelled_items (items more))) (comma_if b) tokens rest

  no_item : (scope : Scope) (tokens : List Token) → MoreRead scope tokens [] false tokens
  no_item scope tokens = record {
    mid = tokens;
    spells = nothing_spelt tokens;
    ends = nothing_spelt tokens;
    fits =
        tt;
    within = omega arith;
  }

  comma_last : (scope : Scope) (tokens rest : List Token) (u : Unit {0}) → is_mark p.Comma (next_body tokens) ≡ true
      → is_mark p.CloseBrace (next_body (tail tokens)) ≡ true → Found tt (tail tokens) ≡ Found u rest
      → MoreRead scope tokens [] true rest
  comma_last scope tokens rest u comma closes h =
      moved (λ u. MoreRead scope tokens [] true) h (record {
        mid = tokens;
        spells = nothing_spelt tokens;
        ends =
            spelt_mark p.Comma tokens comma;
        fits = tt;
        within = omega arith;
      })

  one_item : (scope : Scope) (tokens mid rest : List Token) (one : Item) (more : List Item) (b : Bool)
      → is_mark p.Comma (next_body tokens) ≡ true → low.item scope (tail tokens) ≡ Found one mid
      → MoreRead (scope ++ item_adds one) mid more b rest → MoreRead scope tokens (one ∷ more) b rest
  one_item scope tokens mid rest one more b comma h then =
      let x = sound.item scope (tail tokens) mid one h in
      record {
        mid = then.mid;
        spells = joined (joined (spelt_mark p.Comma tokens comma) (spelt x)) then.spells;
        ends = then.ends;
        fits = (x.fits, then.fits);
        within = omega (arith, x.within, then.within);
      }

  abbrev pub ItemsRead : Scope → List Token → List Item × Bool → List Token → Type 0
  ItemsRead scope tokens all rest =
      Listed (HasItem (items all.0) × AreItems (items all.0) scope) (items_height (items all.0)) k
      (commas (spelled_items (items all.0))) (comma_if all.1) tokens rest

  pub listed_items_sound : (scope : Scope) (tokens rest : List Token) (all : List Item × Bool)
      → listed_items k low scope tokens ≡ Found all rest → ItemsRead scope tokens all rest
  unfolding listed_items
  listed_items_sound scope tokens rest all h =
      let x = listed_found (is_mark p.Comma) (is_mark p.CloseBrace) (pure tt) low.item (λ s one. s ++ item_adds one)
      MoreRead
      no_item comma_last one_item scope tokens rest all h in
      let y = sound.item scope tokens x.mid x.first x.first_found in
      let then = x.more_found in
      subst (λ (all : List Item × Bool). ItemsRead scope tokens all rest) x.all_is (record {
        mid = then.mid;
        spells = joined (spelt y) then.spells;
        ends = then.ends;
        fits = (tt, (y.fits, then.fits));
        within = omega (arith, y.within, then.within);
      })

  -- ---- initializers

  abbrev IsRead : Scope → List Token → Initializer → List Token → Type 0
  IsRead scope = Read (λ one. IsInitializer one scope) initializer_height spell_initializer (suc k)

  braces_sound : (scope : Scope) (tokens rest : List Token) (one : Initializer)
      → is_mark p.OpenBrace (next_body tokens) ≡ true → braces k low scope (place tokens) (tail tokens)
      ≡ Found one rest → IsRead scope tokens one rest
  unfolding braces
  braces_sound scope tokens rest one opens h =
      let pos = place tokens in
      let x = bind_found (listed_items k low scope (tail tokens)) (λ all. expect (is_mark p.CloseBrace)
      >>= λ _. pure (Braces pos (items all.0) all.1)) one rest h in
      let c = mark_then p.CloseBrace (pure (Braces pos (items x.value.0) x.value.1)) x.mid rest one x.two in
      let y = listed_items_sound scope (tail tokens) x.mid x.value x.one in
      moved (IsRead scope tokens) {a = Braces pos (items x.value.0) x.value.1} {tokens = c.mid} c.two (record {
        spells = (joined
            (joined (joined
            (spelt_at tokens (lexeme.Mark p.OpenBrace) (is_mark_is p.OpenBrace (next_body tokens) opens)) y.spells)
            y.ends) c.spelt).takes;
        fits = y.fits;
        within = omega (arith, y.within);
      })

  single_sound : (scope : Scope) (tokens rest : List Token) (one : Initializer)
      → ((parsers (suc k)).expr scope assignment >>= λ e. pure (Single e)) tokens ≡ Found one rest
      → IsRead scope tokens one rest
  single_sound scope tokens rest one h =
      let x = bind_found ((parsers (suc k)).expr scope assignment tokens) (λ e. pure (Single e)) one rest h in
      let y = (parsers_sound (suc k)).expr scope assignment (omega arith) tokens x.mid x.value x.one in
      moved (IsRead scope tokens) {a = Single x.value} {tokens =
      x.mid} x.two (record { spells = y.spells; fits = y.fits; within = y.within })

  initializer_at_sound : (scope : Scope)
      → Sound (λ one. IsInitializer one scope) initializer_height spell_initializer (suc k) (initializer_at k low scope)
  unfolding initializer_at
  initializer_at_sound scope tokens rest one h =
      elim (chosen (is_mark p.OpenBrace (next_body tokens)) _ _ tokens (Found one rest) h) [
        | inl x ↦ elim (chosen (nat_le 2 k) _ _ tokens (Found one rest) x.1) [
          | inl y ↦ braces_sound scope tokens rest one x.0 y.1
          | inr y ↦ absurd (cc (y.1))
        ]
        | inr x ↦ single_sound scope tokens rest one x.1
      ]

  -- ---- items

  abbrev IsReadItem : Scope → List Token → Item → List Token → Type 0
  IsReadItem scope = Read (λ one. IsItem one scope) item_height spell_item (suc k)

  -- behind the dot
  abbrev named_item : Scope → Pos → Option (List ℕ) → Parser Item
  named_item scope pos None = fail Unfit
  named_item scope pos (Some x) =
      skip (expect (is_mark p.Assign) >>= λ _. low.initializer scope >>= λ value. pure (ForMember pos x value))

  named_item_sound : (scope : Scope) (tokens rest : List Token) (one : Item) (m : Option (List ℕ))
      → is_mark p.Dot (next_body tokens) ≡ true → name_of (next_body (tail tokens)) ≡ m
      → named_item scope (place tokens) m (tail tokens) ≡ Found one rest → IsReadItem scope tokens one rest
  named_item_sound scope tokens rest one None dot is h = absurd (cc (h))
  named_item_sound scope tokens rest one (Some x) dot is h =
      let pos = place tokens in
      let c = mark_then p.Assign (low.initializer scope >>= λ value. pure (ForMember pos x value))
      (tail (tail tokens)) rest one h in
      let y = bind_found (low.initializer scope c.mid) (λ value. pure (ForMember pos x value)) one rest c.two in
      let z = sound.initializer scope c.mid y.mid y.value y.one in
      let name = spelt_bare (tail tokens) (lexeme.Name x)
      (token_is lexeme.Name _ _ x (name_is (next_body (tail tokens))) is) in
      moved (IsReadItem scope tokens) {a = ForMember pos x y.value} {tokens = y.mid} y.two (record {
        spells = (joined (spelt_at tokens (lexeme.Mark p.Dot) (is_mark_is p.Dot (next_body tokens) dot))
            (joined name (joined c.spelt (spelt z)))).takes;
        fits = z.fits;
        within = omega (arith, z.within);
      })

  member_item_sound : (scope : Scope) (tokens rest : List Token) (one : Item)
      → is_mark p.Dot (next_body tokens) ≡ true → member_item k low scope (place tokens) (tail tokens)
      ≡ Found one rest → IsReadItem scope tokens one rest
  unfolding member_item
  member_item_sound scope tokens rest one dot h =
      named_item_sound scope tokens rest one (name_of (next_body (tail tokens))) dot refl h

  index_item_sound : (scope : Scope) (tokens rest : List Token) (one : Item)
      → is_mark p.OpenBracket (next_body tokens) ≡ true → index_item k low scope (place tokens) (tail tokens)
      ≡ Found one rest → IsReadItem scope tokens one rest
  unfolding index_item
  index_item_sound scope tokens rest one opens h =
      let pos = place tokens in
      let last = λ (index : Expr). low.initializer (scope ++ expr_adds index)
      >>= λ value. pure (ForIndex pos index value) in
      let x = bind_found ((parsers k).expr scope conditional (tail tokens))
      (λ index. expect (is_mark p.CloseBracket) >>= λ _. expect (is_mark p.Assign) >>= λ _. last index) one rest
      h in
      let c = mark_then p.CloseBracket (expect (is_mark p.Assign) >>= λ _. last x.value) x.mid rest one x.two in
      let a = mark_then p.Assign (last x.value) c.mid rest one c.two in
      let y = bind_found (low.initializer (scope ++ expr_adds x.value) a.mid)
      (λ value. pure (ForIndex pos x.value value)) one rest a.two in
      let e = (parsers_sound k).expr scope conditional (omega arith) (tail tokens) x.mid x.value x.one in
      let z = sound.initializer (scope ++ expr_adds x.value) a.mid y.mid y.value y.one in
      moved (IsReadItem scope tokens) {a = ForIndex pos x.value y.value} {tokens = y.mid} y.two (record {
        spells = (joined
            (joined (spelt_at tokens (lexeme.Mark p.OpenBracket)
            (is_mark_is p.OpenBracket (next_body tokens) opens)) (spelt e))
            (joined c.spelt (joined a.spelt (spelt z)))).takes;
        fits = (e.fits, z.fits);
        within = omega (arith, e.within, z.within);
      })

  plain_sound : (scope : Scope) (tokens rest : List Token) (one : Item)
      → (low.initializer scope >>= λ value. pure (Plain value)) tokens ≡ Found one rest
      → IsReadItem scope tokens one rest
  plain_sound scope tokens rest one h =
      let x = bind_found (low.initializer scope tokens) (λ value. pure (Plain value)) one rest h in
      let y = sound.initializer scope tokens x.mid x.value x.one in
      moved (IsReadItem scope tokens) {a = Plain x.value} {tokens =
      x.mid} x.two (record { spells = y.spells; fits = y.fits; within = omega (arith, y.within) })

  item_at_sound : (scope : Scope) → Sound (λ one. IsItem one scope) item_height spell_item (suc k) (item_at k low scope)
  unfolding item_at
  item_at_sound scope tokens rest one h =
      elim (chosen (is_mark p.Dot (next_body tokens)) _ _ tokens (Found one rest) h) [
        | inl x ↦ member_item_sound scope tokens rest one x.0
            (deeper_found k (skip (member_item k low scope (place tokens))) tokens rest one x.1)
        | inr x ↦ elim (chosen (is_mark p.OpenBracket (next_body tokens)) _ _ tokens (Found one rest) x.1) [
          | inl y ↦ index_item_sound scope tokens rest one y.0
              (deeper_found k (skip (index_item k low scope (place tokens))) tokens rest one y.1)
          | inr y ↦ plain_sound scope tokens rest one y.1
        ]
      ]

pub initializers_sound : (k : ℕ) → SoundInitializers k (initializers k)
initializers_sound zero = record {
  initializer =
      λ scope tokens rest one h. absurd (unless_found (begins_initializer scope (next_body tokens)) tokens rest one h);
  item = λ scope tokens rest one h. absurd (unless_found (begins_item scope (next_body tokens)) tokens rest one h);
}
initializers_sound (suc k) =
    let low = initializers k in
    let sound = initializers_sound k in
    record { initializer = initializer_at_sound k low sound; item = item_at_sound k low sound }
