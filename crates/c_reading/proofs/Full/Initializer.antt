-- The spelling of a well-formed initializer is read as it.
use Rattle.std.proofs.Common.{◌≡◌, ℕ, zero, suc, nat_le, ◌≤◌, ◌<◌, List, [], ◌∷◌, ◌++◌, Bool, true, false, Option}
use Rattle.std.proofs.Common.{Some, None, refl, sym, ◌∙◌, ap, subst, arith}
use borrow.Author.Tests.{le-leb}
use Rattle.critical_table.specs.declared.pos.Pos.{Pos}
use Rattle.c_lexer.specs.declared.punct.Punct.TheVariants as p
use Rattle.c_lexer.specs.declared.token.Token.{Token}
use Rattle.c_lexer.specs.declared.token.Body.TheVariants as lexeme
use Rattle.c_syntax.specs.Levels.{assignment, conditional}
use Rattle.c_syntax.specs.HeightUnit.{initializer_height, item_height, items_height}
use Rattle.c_reading.specs.Parser.{Found, Parser, ◌>>=◌, pure, fail, skip, expect, Unfit, next_body, place, tail}
use Rattle.c_reading.specs.ReadBody.{begins_initializer, begins_item, Initializers, listed_items, braces}
use Rattle.c_reading.specs.ReadBody.{initializer_at, member_item, index_item, item_at, initializers}
use Rattle.c_syntax.specs.ViewUnit.{items}
use Rattle.c_reading.specs.ReadExpr.{begins_expr}
use Rattle.c_reading.specs.ReadToken.{is_mark, name_of}
use Rattle.c_syntax.specs.Scopes.{Scope, expr_adds}
use Rattle.c_syntax.specs.ScopesUnit.{item_adds}
use Rattle.c_syntax.specs.Spelling.{spell}
use Rattle.c_syntax.specs.SpellingUnit.{spell_initializer, spell_item, spelled_items}
use Rattle.c_syntax.specs.Tokens.{mark, mark_at, name, commas, comma_if}
use Rattle.c_syntax.specs.Tree.{Expr}
use Rattle.c_syntax.specs.TreeUnit as unit
use Rattle.c_syntax.specs.TreeUnit.{Initializer, Item, Items}
use Rattle.c_syntax.specs.WellFormedUnit.{HasItem, IsInitializer, IsItem, AreItems}
use Rattle.c_reading.proofs.Full.Steps.{front, then_read, peek_at, chosen_first, chosen_second, deeper_again}
use Rattle.c_reading.proofs.Full.Steps.{expect_again, Behind, listed_again, behind_commas}
use Rattle.c_reading.proofs.BodyTokens.{no_mark, initializer_begins, item_begins}
use Rattle.c_reading.proofs.Full.Ends.{ends_closed, ends_infix}
use Rattle.c_syntax.specs.declared.operator.Infix.TheVariants as between
use Rattle.c_reading.proofs.FirstTokens.{expr_begins}
use Rattle.c_reading.proofs.Full.Law.{EndsExpr}
use Rattle.c_reading.proofs.Full.Declarator.{parsers_full}
use Rattle.c_reading.proofs.Full.Postfix.{ends_listed}
use Rattle.c_syntax.proofs.HeightLaws.{expr_high, initializer_high}
use Rattle.c_reading.proofs.Takes.{Takes, takes_parted}

pub record FullInitializers (k : ℕ) (r : Initializers) : Type 0 where
  pub initializer : (scope : Scope) (one : Initializer) (tokens rest : List Token) → IsInitializer one scope
      → initializer_height one ≤ k → EndsExpr assignment rest → Takes tokens (spell_initializer one) rest
      → r.initializer scope tokens ≡ Found one rest
  pub item : (scope : Scope) (one : Item) (tokens rest : List Token) → IsItem one scope → item_height one ≤ k
      → EndsExpr assignment rest → Takes tokens (spell_item one) rest
      → r.item scope tokens ≡ Found one rest

-- an item is one node more than its initializer
item_high : (one : Item) → 2 ≤ item_height one
item_high (unit.Plain one) = omega (arith, initializer_high one)
item_high (unit.ForMember pos x one) = omega (arith, initializer_high one)
item_high (unit.ForIndex pos index one) = omega (arith, initializer_high one)

abbrev listed : Items → List Item
listed unit.NoItem = []
listed (unit.MoreItems first rest) = first ∷ listed rest

items_again : (all : Items) → items (listed all) ≡ all
items_again unit.NoItem = refl
items_again (unit.MoreItems first rest) = ap (unit.MoreItems first) (items_again rest)

-- a comma behind the last item, or the closing brace
ends_comma : (comma : Bool) (tokens rest : List Token) → next_body rest ≡ Some (lexeme.Mark p.CloseBrace)
    → Takes tokens (comma_if comma) rest → EndsExpr assignment tokens
ends_comma true tokens rest close all =
    ends_infix assignment tokens between.Comma (front tokens rest (mark p.Comma ∷ []) all).0 (omega arith)
ends_comma false tokens rest close all =
    ends_closed assignment tokens p.CloseBrace (ap next_body all ∙ close) (λ k low left. refl) refl refl

module _ (k : ℕ) (low : Initializers) (full : FullInitializers k low) where
  behind_items : (all : Items) (comma : Bool) (scope : Scope) (tokens mid rest : List Token) → AreItems all scope
      → items_height all ≤ k → next_body rest ≡ Some (lexeme.Mark p.CloseBrace)
      → Takes tokens (behind_commas (spelled_items all)) mid → Takes mid (comma_if comma) rest
      → Behind (is_mark p.Comma) (is_mark p.CloseBrace) (pure tt) low.item (λ s one. s ++ item_adds one)
      (listed all) comma scope tokens rest
  behind_items unit.NoItem false scope tokens mid rest are high close all end = (all ∙ end, ap (is_mark p.Comma) close)
  behind_items unit.NoItem true scope tokens mid rest are high close all end =
      let f = front tokens rest (mark p.Comma ∷ []) (subst (λ ts. Takes ts (mark p.Comma ∷ []) rest) (sym all) end) in (
        ap (is_mark p.Comma) f.0,
        ap (λ ts. is_mark p.CloseBrace (next_body ts)) f.2
            ∙ ap (is_mark p.CloseBrace) close,
        ap (λ ts. Found tt ts) f.2,
        f.3,
      )
  behind_items (unit.MoreItems first more) comma scope tokens mid rest are high close all end =
      let both = takes_parted tokens mid (mark p.Comma ∷ spell_item first) (behind_commas (spelled_items more)) all in
      let f = front tokens both.mid (mark p.Comma ∷ spell_item first) both.one in
      let ends = ends_listed assignment (spelled_items more) both.mid mid (omega arith)
      (ends_comma comma mid rest close end) both.two in
      let begins = item_begins first scope (tail tokens) both.mid are.0 f.2 in (
        both.mid,
        ap (is_mark p.Comma) f.0,
        no_mark p.CloseBrace (begins_item scope) (next_body (tail tokens)) refl begins,
        full.item scope first (tail tokens) both.mid are.0 (omega arith) ends f.2,
        f.3,
        behind_items more comma (scope ++ item_adds first) both.mid mid rest are.1 (omega arith) close both.two end,
      )

  braces_again : (all : Items) (comma : Bool) (scope : Scope) (pos : Pos) (tokens mid end rest : List Token)
      → HasItem all → AreItems all scope → items_height all ≤ k
      → Takes tokens (commas (spelled_items all)) mid → Takes mid (comma_if comma) end
      → Takes end (mark p.CloseBrace ∷ []) rest → braces k low scope pos tokens ≡ Found (unit.Braces pos all comma) rest
  unfolding braces listed_items
  braces_again unit.NoItem comma scope pos tokens mid end rest has are high all dot close = absurd has
  braces_again (unit.MoreItems first more) comma scope pos tokens mid end rest has are high all dot close =
      let g = front end rest (mark p.CloseBrace ∷ []) close in
      let both = takes_parted tokens mid (spell_item first) (behind_commas (spelled_items more)) all in
      let ends = ends_listed assignment (spelled_items more) both.mid mid (omega arith)
      (ends_comma comma mid end g.0 dot) both.two in
      let one = full.item scope first tokens both.mid are.0 (omega arith) ends both.one in
      let behind = behind_items more comma (scope ++ item_adds first) both.mid mid end are.1 (omega arith) g.0
      both.two dot in
      then_read _ _ _ end _ (listed_again _ _ _ _ _ first (listed more) comma scope tokens both.mid end one behind)
      (expect_again (is_mark p.CloseBrace) _ end _ _ refl g.0
      (ap (λ more. Found (unit.Braces pos (unit.MoreItems first more) comma) (tail end)) (items_again more)
      ∙ ap (λ ts. Found (unit.Braces pos (unit.MoreItems first more) comma) ts) g.2))

  some_items : (all : Items) → HasItem all → 2 ≤ items_height all
  some_items unit.NoItem has = absurd has
  some_items (unit.MoreItems first rest) has = let h = item_high first in omega arith

  initializer_full : (scope : Scope) (one : Initializer) (tokens rest : List Token) → IsInitializer one scope
      → initializer_height one ≤ suc k → EndsExpr assignment rest → Takes tokens (spell_initializer one) rest
      → initializer_at k low scope tokens ≡ Found one rest
  unfolding initializer_at
  initializer_full scope (unit.Single e) tokens rest is high ends all =
      let none = no_mark p.OpenBrace (begins_expr scope) (next_body tokens) refl
      (expr_begins e scope assignment tokens rest is all) in
      chosen_second (is_mark p.OpenBrace (next_body tokens)) _ _ tokens _ none
      (then_read _ _ e rest _ ((parsers_full (suc k)).expr scope assignment e tokens rest (omega arith) is high ends
      all) refl)
  initializer_full scope (unit.Braces pos items comma) tokens rest is high ends all =
      let list = mark_at pos p.OpenBrace ∷ commas (spelled_items items) in
      let close = takes_parted tokens rest (list ++ comma_if comma) (mark p.CloseBrace ∷ []) all in
      let both = takes_parted tokens close.mid list (comma_if comma) close.one in
      let f = front tokens both.mid list both.one in
      let two : 2 ≤ k = let h = some_items items is.0 in omega arith in
      chosen_first (is_mark p.OpenBrace (next_body tokens)) _ _ tokens _ (ap (is_mark p.OpenBrace) f.0)
      (chosen_first (nat_le 2 k) _ _ tokens _ (le-leb 2 k two)
      (braces_again items comma scope (place tokens) (tail tokens) both.mid close.mid rest is.0 is.1 (omega arith)
      f.2 both.two close.two
      ∙ ap (λ pos. Found (unit.Braces pos items comma) rest) f.1))

  abbrev named_item : Scope → Pos → Option (List ℕ) → Parser Item
  named_item scope pos None = fail Unfit
  named_item scope pos (Some x) =
      skip (expect (is_mark p.Assign) >>= λ _. low.initializer scope >>= λ value. pure (unit.ForMember pos x value))

  member_again : (scope : Scope) (pos : Pos) (x : List ℕ) (one : Initializer) (tokens rest : List Token)
      → IsInitializer one scope → initializer_height one ≤ k → EndsExpr assignment rest
      → Takes tokens (name x ∷ mark p.Assign ∷ spell_initializer one) rest
      → member_item k low scope pos tokens ≡ Found (unit.ForMember pos x one) rest
  unfolding member_item
  member_again scope pos x one tokens rest is high ends all =
      let f = front tokens rest (name x ∷ mark p.Assign ∷ spell_initializer one) all in
      let g = front (tail tokens) rest (mark p.Assign ∷ spell_initializer one) f.2 in
      peek_at (λ o. named_item scope pos (name_of o)) tokens _ _ f.0
      (expect_again (is_mark p.Assign) _ (tail tokens) _ _ refl g.0
      (then_read _ _ one rest _ (full.initializer scope one (tail (tail tokens)) rest is high ends g.2) refl))

  index_again : (scope : Scope) (pos : Pos) (index : Expr) (one : Initializer) (tokens rest : List Token)
      → IsItem (unit.ForIndex pos index one) scope → item_height (unit.ForIndex pos index one) ≤ suc k
      → EndsExpr assignment rest
      → Takes tokens (spell index ++ mark p.CloseBracket ∷ mark p.Assign ∷ spell_initializer one) rest
      → index_item k low scope pos tokens ≡ Found (unit.ForIndex pos index one) rest
  unfolding index_item
  index_again scope pos index one tokens rest is high ends all =
      let x = takes_parted tokens rest (spell index) (mark p.CloseBracket ∷ mark p.Assign ∷ spell_initializer one)
      all in
      let f = front x.mid rest (mark p.CloseBracket ∷ mark p.Assign ∷ spell_initializer one) x.two in
      let g = front (tail x.mid) rest (mark p.Assign ∷ spell_initializer one) f.2 in
      let closed = ends_closed conditional x.mid p.CloseBracket f.0 (λ k low left. refl) refl refl in
      then_read _ _ index x.mid _ ((parsers_full k).expr scope conditional index tokens x.mid (omega arith) is.0
      (omega arith) closed x.one)
      (expect_again (is_mark p.CloseBracket) _ x.mid _ _ refl f.0
      (expect_again (is_mark p.Assign) _ (tail x.mid) _ _ refl g.0
      (then_read _ _ one rest _ (full.initializer (scope ++ expr_adds index) one (tail (tail x.mid)) rest is.1
      (omega arith) ends g.2) refl)))

  item_full : (scope : Scope) (one : Item) (tokens rest : List Token) → IsItem one scope → item_height one ≤ suc k
      → EndsExpr assignment rest → Takes tokens (spell_item one) rest
      → item_at k low scope tokens ≡ Found one rest
  unfolding item_at
  item_full scope (unit.Plain one) tokens rest is high ends all =
      let begins = initializer_begins one scope tokens rest is all in
      chosen_second (is_mark p.Dot (next_body tokens)) _ _ tokens _
      (no_mark p.Dot (begins_initializer scope) (next_body tokens) refl begins)
      (chosen_second (is_mark p.OpenBracket (next_body tokens)) _ _ tokens _
      (no_mark p.OpenBracket (begins_initializer scope) (next_body tokens) refl begins)
      (then_read _ _ one rest _ (full.initializer scope one tokens rest is (omega arith) ends all) refl))
  item_full scope (unit.ForMember pos x one) tokens rest is high ends all =
      let f = front tokens rest (spell_item (unit.ForMember pos x one)) all in
      let some : 0 < k = let h = initializer_high one in omega arith in
      chosen_first (is_mark p.Dot (next_body tokens)) _ _ tokens _ (ap (is_mark p.Dot) f.0)
      (deeper_again k _ tokens _ some
      (member_again scope (place tokens) x one (tail tokens) rest is (omega arith) ends f.2
      ∙ ap (λ pos. Found (unit.ForMember pos x one) rest) f.1))
  item_full scope (unit.ForIndex pos index one) tokens rest is high ends all =
      let f = front tokens rest (spell_item (unit.ForIndex pos index one)) all in
      let some : 0 < k = let h = expr_high index in omega arith in
      chosen_second (is_mark p.Dot (next_body tokens)) _ _ tokens _ (ap (is_mark p.Dot) f.0)
      (chosen_first (is_mark p.OpenBracket (next_body tokens)) _ _ tokens _ (ap (is_mark p.OpenBracket) f.0)
      (deeper_again k _ tokens _ some
      (index_again scope (place tokens) index one (tail tokens) rest is high ends f.2
      ∙ ap (λ pos. Found (unit.ForIndex pos index one) rest) f.1)))

pub initializers_full : (k : ℕ) → FullInitializers k (initializers k)
initializers_full zero = record {
  initializer = λ scope one tokens rest is high ends all. absurd (let h = initializer_high one in omega arith);
  item = λ scope one tokens rest is high ends all. absurd (let h = item_high one in omega arith);
}
initializers_full (suc k) = record {
  initializer = initializer_full k (initializers k) (initializers_full k);
  item = item_full k (initializers k) (initializers_full k);
}
