-- Where the reading of an initializer or of an item of a list in braces stops, one begins with what was read.
use Rattle.std.proofs.Common.{◌≡◌, inl, inr, ℕ, zero, suc, ◌<◌, nat_le, List, [], ◌∷◌, ◌++◌, Bool, true, false}
use Rattle.std.proofs.Common.{Option, Some, None, refl, sym, subst, ap, append_assoc, append-nil, arith}
use borrow.Author.Tests.{leb-true}
use Rattle.std.specs.List.{flat_map}
use Rattle.critical_table.specs.declared.pos.Pos.{Pos}
use Rattle.c_lexer.specs.declared.punct.Punct.TheVariants as p
use Rattle.c_lexer.specs.declared.token.Body.TheVariants as lexeme
use Rattle.c_lexer.specs.declared.token.Token.{Token}
use Rattle.c_syntax.specs.declared.spelled.Spelled.{Spelled}
use Rattle.c_syntax.specs.Begin.{Begins, BeginsInitializer, BeginsItem}
use Rattle.c_syntax.specs.Height.{height}
use Rattle.c_syntax.specs.HeightUnit.{initializer_height, item_height, items_height}
use Rattle.c_syntax.specs.Levels.{assignment, conditional}
use Rattle.c_reading.specs.Parser.{Why, Unfit, TooDeep, Stopped, Parser, ◌>>=◌, pure, deeper, skip, fail, choose}
use Rattle.c_reading.specs.Parser.{expect, next_body, place, tail}
use Rattle.c_reading.specs.ReadBody.{Initializers, initializers, listed_items, braces, initializer_at, member_item}
use Rattle.c_reading.specs.ReadBody.{index_item, item_at}
use Rattle.c_syntax.specs.ViewUnit.{items}
use Rattle.c_reading.specs.ReadSpecifier.{parsers}
use Rattle.c_reading.specs.ReadToken.{is_mark, name_of}
use Rattle.c_syntax.specs.Scopes.{Scope, expr_adds}
use Rattle.c_syntax.specs.ScopesUnit.{item_adds}
use Rattle.c_syntax.specs.Spelling.{spell}
use Rattle.c_syntax.specs.SpellingUnit.{spell_initializer, spell_item, spelled_items}
use Rattle.c_syntax.specs.Tokens.{mark, mark_at, name}
use Rattle.c_syntax.specs.Tree.{Expr}
use Rattle.c_syntax.specs.TreeUnit.{Single, Braces, Item, Plain, ForMember, ForIndex, NoItem, MoreItems}
use Rattle.c_syntax.specs.WellFormed.{IsExpr}
use Rattle.c_syntax.specs.WellFormedUnit.{IsInitializer, IsItem, AreItems}
use Rattle.c_reading.proofs.Viable.Completions.{before_part, fewer, refused_behind, Begun, whole_begins, too_deep_here}
use Rattle.c_reading.proofs.Viable.Contexts.{stopped, bind_stopped, given_stopped, close_stopped, mark_stopped}
use Rattle.c_reading.proofs.Viable.Contexts.{listed_stopped, Context, refused, into}
use Rattle.c_reading.proofs.Sound.Steps.{chosen, Spelt, joined, nothing_spelt, spelt_at, spelt_bare, spelt_mark}
use Rattle.c_reading.proofs.Sound.Law.{spelt}
use Rattle.c_reading.proofs.Sound.Initializer.{SoundInitializers, listed_items_sound, initializers_sound}
use Rattle.c_reading.proofs.Sound.Specifier.{parsers_sound}
use Rattle.c_reading.proofs.Viable.Started.{least_expr}
use Rattle.c_reading.proofs.TokenTests.{is_mark_is, token_is, name_is}
use Rattle.c_reading.proofs.Viable.Law.{Holds}
use Rattle.c_reading.proofs.Viable.Declarator.{parsers_viable}

pub record ViableInitializers (k : ℕ) (r : Initializers) : Type 0 where
  pub initializer : (scope : Scope) (tokens rest : List Token) (why : Why) → 0 < k
      → r.initializer scope tokens ≡ Stopped why rest → Holds (BeginsInitializer scope) k tokens why rest
  pub item : (scope : Scope) (tokens rest : List Token) (why : Why) → 1 < k → r.item scope tokens ≡ Stopped why rest
      → Holds (BeginsItem scope) k tokens why rest

-- ---- what stands around each part

abbrev InInitializer : {A : Type 0} → (A → Type 0) → (A → ℕ) → (A → List Spelled) → Scope → (ℕ → ℕ) → ℕ
    → List Spelled → Type 0
InInitializer Fits tall spelled scope =
    Context Fits tall spelled (λ one. IsInitializer one scope) initializer_height spell_initializer

single : (scope : Scope) → InInitializer (λ e. IsExpr e scope assignment) height spell scope (λ j. j) 0 []
single scope = record {
  make = λ e. Single e;
  behind = [];
  fits = λ e fits. fits;
  within =
      λ e j others low. low;
  spells = λ e. sym (append-nil (spell e));
}

abbrev spell_more : List Item → List Spelled
spell_more all = flat_map (λ part. mark p.Comma ∷ part) (spelled_items (items all))

abbrev BeginsMore : Scope → ℕ → List Token → Type 0
BeginsMore scope = Begins (λ all. AreItems (items all) scope) (λ all. items_height (items all)) spell_more

abbrev InMore : {A : Type 0} → (A → Type 0) → (A → ℕ) → (A → List Spelled) → Scope → ℕ → List Spelled → Type 0
InMore Fits tall spelled scope =
    Context Fits tall spelled (λ all. AreItems (items all) scope) (λ all. items_height (items all)) spell_more (λ j. j)

without : (a b : List Spelled) → a ++ [] ++ [] ++ b ≡ a ++ b
without a b = simp append-nil

split_last : (a : List Spelled) (x y : Spelled) (b : List Spelled) → a ++ x ∷ y ∷ b ≡ a ++ x ∷ [] ++ y ∷ [] ++ (b ++ [])
split_last a x y b = simp (append_assoc, append-nil)

first_item : (scope : Scope) (pos : Pos)
    → InInitializer (λ one. IsItem one scope) item_height spell_item scope (λ j. suc j) 0 (mark_at pos p.OpenBrace ∷ [])
first_item scope pos = record {
  make = λ one. Braces pos (MoreItems one NoItem) false;
  behind = mark p.CloseBrace ∷ [];
  fits = λ one fits. (tt, (fits, tt));
  within = λ one j others low. omega arith;
  spells = λ one. without (mark_at pos p.OpenBrace ∷ spell_item one) (mark p.CloseBrace ∷ []);
}

more_items : (scope : Scope) (pos : Pos) (first : Item) → IsItem first scope
    → InInitializer (λ all. AreItems (items all) (scope ++ item_adds first)) (λ all. items_height (items all))
    spell_more scope (λ j. suc j) (item_height first) (mark_at pos p.OpenBrace ∷ spell_item first)
more_items scope pos first is = record {
  make = λ all. Braces pos (MoreItems first (items all)) false;
  behind = mark p.CloseBrace ∷ [];
  fits = λ all fits. (tt, (is, fits));
  within = λ all j others low. omega arith;
  spells = λ all. simp (append_assoc, append-nil);
}

one_behind : (scope : Scope) → InMore (λ one. IsItem one scope) item_height spell_item scope 0 (mark p.Comma ∷ [])
one_behind scope = record {
  make = λ one. one ∷ [];
  behind = [];
  fits = λ one fits. (fits, tt);
  within =
      λ one j others low. omega arith;
  spells = λ one. refl;
}

more_behind : (scope : Scope) (one : Item) → IsItem one scope
    → InMore (λ all. AreItems (items all) (scope ++ item_adds one)) (λ all. items_height (items all)) spell_more
    scope (item_height one) (mark p.Comma ∷ spell_item one)
more_behind scope one is = record {
  make = λ all. one ∷ all;
  behind = [];
  fits = λ all fits. (is, fits);
  within = λ all j others low. omega arith;
  spells = λ all. ap (λ z. (mark p.Comma ∷ spell_item one) ++ z) (sym (append-nil (spell_more all)));
}

abbrev InItem : {A : Type 0} → (A → Type 0) → (A → ℕ) → (A → List Spelled) → Scope → ℕ → List Spelled → Type 0
InItem Fits tall spelled scope = Context Fits tall spelled (λ one. IsItem one scope) item_height spell_item (λ j. suc j)

plain : (scope : Scope) → InItem (λ one. IsInitializer one scope) initializer_height spell_initializer scope 0 []
plain scope = record {
  make = λ one. Plain one;
  behind = [];
  fits = λ one fits. fits;
  within =
      λ one j others low. omega arith;
  spells = λ one. sym (append-nil (spell_initializer one));
}

of_member : (scope : Scope) (pos : Pos) (x : List ℕ)
    → InItem (λ one. IsInitializer one scope) initializer_height spell_initializer scope 0
    (mark_at pos p.Dot ∷ name x ∷ mark p.Assign ∷ [])
of_member scope pos x = record {
  make = λ one. ForMember pos x one;
  behind = [];
  fits = λ one fits. fits;
  within =
      λ one j others low. omega arith;
  spells =
      λ one. ap (λ z. mark_at pos p.Dot ∷ name x ∷ mark p.Assign ∷ z) (sym (append-nil (spell_initializer one)));
}

its_index : (scope : Scope) (pos : Pos)
    → InItem (λ e. IsExpr e scope conditional) height spell scope 1 (mark_at pos p.OpenBracket ∷ [])
its_index scope pos = record {
  make = λ e. ForIndex pos e (Single least_expr);
  behind = mark p.CloseBracket ∷ mark p.Assign ∷ spell least_expr;
  fits = λ e fits. (fits, tt);
  within = λ e j others low. omega arith;
  spells = λ e. refl;
}

at_index : (scope : Scope) (pos : Pos) (index : Expr) → IsExpr index scope conditional
    → InItem (λ one. IsInitializer one (scope ++ expr_adds index)) initializer_height spell_initializer scope
    (height index) ((mark_at pos p.OpenBracket ∷ spell index) ++ mark p.CloseBracket ∷ [] ++ mark p.Assign ∷ [])
at_index scope pos index is = record {
  make = λ one. ForIndex pos index one;
  behind = [];
  fits = λ one fits. (is, fits);
  within = λ one j others low. omega arith;
  spells = λ one. split_last (mark_at pos p.OpenBracket ∷ spell index) (mark p.CloseBracket) (mark p.Assign)
      (spell_initializer one);
}

-- what stands behind the dot of a member
abbrev named_item : Initializers → Scope → Pos → Option (List ℕ) → Parser Item
named_item low scope pos None = fail Unfit
named_item low scope pos (Some x) =
    skip (expect (is_mark p.Assign) >>= λ _. low.initializer scope >>= λ value. pure (ForMember pos x value))

module _ (k : ℕ) (low : Initializers) (sound : SoundInitializers k low) (viable : ViableInitializers k low) where
  module _ (scope : Scope) (tokens rest : List Token) (why : Why) where
    abbrev IsStopped : Why → List Token → Type 0
    IsStopped = Holds (BeginsInitializer scope) (suc k) tokens

    braces_viable : 1 < k → next_body tokens ≡ Some (lexeme.Mark p.OpenBrace)
        → braces k low scope (place tokens) (tail tokens) ≡ Stopped why rest → IsStopped why rest
    unfolding braces listed_items
    braces_viable some is h =
        let pos = place tokens in
        let brace = spelt_at tokens (lexeme.Mark p.OpenBrace) is in
        elim (bind_stopped (listed_items k low scope (tail tokens)) (λ all. expect (is_mark p.CloseBrace)
        >>= λ _. pure (Braces pos (items all.0) all.1)) why rest h) [
          | inl x ↦ listed_stopped (is_mark p.Comma) (is_mark p.CloseBrace) (pure tt) low.item
              (λ s one. s ++ item_adds one) (λ s ts why rest. Holds (BeginsMore s) k ts why rest)
              (λ ts rest why h. cc (h))
              (λ s ts rest why comma h. into (one_behind s) (omega arith) (spelt_mark p.Comma ts comma)
              (viable.item s (tail ts) rest why some h))
              (λ s ts mid rest one why comma h then. let y = sound.item s (tail ts) mid one h in
              into (more_behind s one y.fits) y.within (joined (spelt_mark p.Comma ts comma) (spelt y)) then)
              IsStopped scope (tail tokens) rest why x
              (λ h. into (first_item scope pos) (omega arith) brace (viable.item scope (tail tokens) rest why some h))
              (λ one mid h then. let y = sound.item scope (tail tokens) mid one h in
              into (more_items scope pos one y.fits) y.within (joined brace (spelt y)) then)
          | inr x ↦
              let all = listed_items_sound k low sound scope (tail tokens) x.mid x.value x.one in
              close_stopped p.CloseBrace (Braces pos (items x.value.0) x.value.1) IsStopped x.mid why rest x.two
              (refused (joined (joined brace all.spells) all.ends)
              (record {
                node = Braces pos (items x.value.0) x.value.1;
                more = mark p.CloseBrace ∷ [];
                fits =
                    all.fits;
                within = omega (arith, all.within);
                parts = refl;
              }))
        ]

    opens_viable : (b : Bool) → is_mark p.OpenBrace (next_body tokens) ≡ true → nat_le 2 k ≡ b
        → choose b (skip (braces k low scope (place tokens))) (fail TooDeep) tokens ≡ Stopped why rest
        → IsStopped why rest
    opens_viable true is some h = braces_viable (leb-true 2 k some) (is_mark_is p.OpenBrace (next_body tokens) is) h
    opens_viable false is some h =
        stopped IsStopped h
        (too_deep_here (before_part (single scope) (suc k) least_expr tt (omega arith) (omega arith))
        (subst (Begun (λ one. IsInitializer one scope) initializer_height spell_initializer (place tokens))
        (sym (is_mark_is p.OpenBrace (next_body tokens) is))
        (whole_begins (mark_at (place tokens) p.OpenBrace)
        (Braces (place tokens) (MoreItems (Plain (Single least_expr)) NoItem) false)
        (spell least_expr ++ mark p.CloseBrace ∷ []) refl (tt, (tt, tt)) refl)))

    initializer_at_viable : initializer_at k low scope tokens ≡ Stopped why rest → IsStopped why rest
    unfolding initializer_at
    initializer_at_viable h =
        elim (chosen (is_mark p.OpenBrace (next_body tokens)) _ _ tokens (Stopped why rest) h) [
          | inl x ↦ opens_viable (nat_le 2 k) x.0 refl x.1
          | inr x ↦ into (single scope) (omega arith) (nothing_spelt tokens)
              ((parsers_viable (suc k)).expr scope assignment tokens rest why (omega arith) (omega arith)
              (given_stopped ((parsers (suc k)).expr scope assignment tokens) (λ e. Single e) why rest x.1))
        ]

  module _ (scope : Scope) (tokens rest : List Token) (why : Why) (some : 0 < k) where
    abbrev ItemStopped : Why → List Token → Type 0
    ItemStopped = Holds (BeginsItem scope) (suc k) tokens

    abbrev pos : Pos
    pos = place tokens

    named_viable : (o : Option (List ℕ)) → name_of (next_body (tail tokens)) ≡ o
        → Spelt tokens (mark_at pos p.Dot ∷ []) (tail tokens) → named_item low scope pos o (tail tokens)
        ≡ Stopped why rest → ItemStopped why rest
    named_viable None is dot h =
        stopped ItemStopped h
        (refused dot (fewer (mark_at pos p.Dot ∷ []) (name [] ∷ mark p.Assign ∷ [])
        (before_part (of_member scope pos []) k (Single least_expr) tt (omega (arith, some)) (omega arith))))
    named_viable (Some x) is dot h =
        let front = joined dot
        (spelt_bare (tail tokens) (lexeme.Name x)
        (token_is lexeme.Name _ _ x (name_is (next_body (tail tokens))) is)) in
        mark_stopped p.Assign (low.initializer scope >>= λ value. pure (ForMember pos x value)) ItemStopped
        (tail (tail tokens)) why rest h
        (refused front
        (fewer (mark_at pos p.Dot ∷ name x ∷ []) (mark p.Assign ∷ [])
        (before_part (of_member scope pos x) k (Single least_expr) tt (omega (arith, some)) (omega arith))))
        (λ mid assigns h. into (of_member scope pos x) (omega arith) (joined front assigns)
        (viable.initializer scope mid rest why some
        (given_stopped (low.initializer scope mid) (λ value. ForMember pos x value) why rest h)))

    index_viable : Spelt tokens (mark_at pos p.OpenBracket ∷ []) (tail tokens)
        → index_item k low scope pos (tail tokens) ≡ Stopped why rest → ItemStopped why rest
    unfolding index_item
    index_viable bracket h =
        let last = λ (index : Expr). low.initializer (scope ++ expr_adds index)
        >>= λ value. pure (ForIndex pos index value) in
        elim (bind_stopped ((parsers k).expr scope conditional (tail tokens))
        (λ index. expect (is_mark p.CloseBracket) >>= λ _. expect (is_mark p.Assign) >>= λ _. last index) why
        rest h) [
          | inl x ↦ into (its_index scope pos) (omega (arith, some)) bracket
              ((parsers_viable k).expr scope conditional (tail tokens) rest why (omega arith) some x)
          | inr x ↦
              let read = (parsers_sound k).expr scope conditional (omega arith) (tail tokens) x.mid x.value x.one in
              let context = at_index scope pos x.value read.fits in
              mark_stopped p.CloseBracket (expect (is_mark p.Assign) >>= λ _. last x.value) ItemStopped x.mid why
              rest x.two
              (refused_behind (its_index scope pos) (omega (arith, some)) bracket read)
              (λ closed_mid closed h. mark_stopped p.Assign (last x.value) ItemStopped closed_mid why rest h
              (refused (joined (joined bracket (spelt read)) closed)
              (fewer ((mark_at pos p.OpenBracket ∷ spell x.value) ++ mark p.CloseBracket ∷ []) (mark p.Assign ∷ [])
              (before_part context k (Single least_expr) tt (omega (arith, some)) read.within)))
              (λ mid assigns h. into context read.within (joined (joined (joined bracket (spelt read)) closed) assigns)
              (viable.initializer (scope ++ expr_adds x.value) mid rest why some
              (given_stopped (low.initializer (scope ++ expr_adds x.value) mid)
              (λ value. ForIndex pos x.value value) why rest h))))
        ]

    room : {A : Type 0} (r : Parser A) → deeper k r tokens ≡ Stopped why rest → r tokens ≡ Stopped why rest
    room r h = by k some h
      where
        by : (m : ℕ) → 0 < m → deeper m r tokens ≡ Stopped why rest → r tokens ≡ Stopped why rest
        by zero some h = absurd (omega (arith, some))
        by (suc m) some h = h

    item_at_viable : item_at k low scope tokens ≡ Stopped why rest → ItemStopped why rest
    unfolding item_at member_item
    item_at_viable h =
        elim (chosen (is_mark p.Dot (next_body tokens)) _ _ tokens (Stopped why rest) h) [
          | inl x ↦ named_viable (name_of (next_body (tail tokens))) refl
              (spelt_at tokens (lexeme.Mark p.Dot) (is_mark_is p.Dot (next_body tokens) x.0))
              (room (skip (member_item k low scope pos)) x.1)
          | inr x ↦ elim (chosen (is_mark p.OpenBracket (next_body tokens)) _ _ tokens (Stopped why rest) x.1) [
            | inl y ↦ index_viable
                (spelt_at tokens (lexeme.Mark p.OpenBracket) (is_mark_is p.OpenBracket (next_body tokens) y.0))
                (room (skip (index_item k low scope pos)) y.1)
            | inr y ↦ into (plain scope) (omega arith) (nothing_spelt tokens)
                (viable.initializer scope tokens rest why some
                (given_stopped (low.initializer scope tokens) (λ value. Plain value) why rest y.1))
          ]
        ]

pub initializers_viable : (k : ℕ) → ViableInitializers k (initializers k)
initializers_viable zero = record {
  initializer = λ scope tokens rest why some h. absurd (omega (arith, some));
  item = λ scope tokens rest why some h. absurd (omega (arith, some));
}
initializers_viable (suc k) =
    let low = initializers k in
    let sound = initializers_sound k in
    let viable = initializers_viable k in
    record {
      initializer = λ scope tokens rest why some h. initializer_at_viable k low sound viable scope tokens rest why h;
      item = λ scope tokens rest why some h. item_at_viable k low sound viable scope tokens rest why
          (omega (arith, some)) h;
    }
