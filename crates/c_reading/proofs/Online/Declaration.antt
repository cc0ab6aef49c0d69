-- Initializers, declarations and static assertions are read online.
use Rattle.std.proofs.Common.{ℕ, zero, suc, nat_le, Bool, true, false, List, [], ◌∷◌, ◌++◌, Option, Some, None, refl}
use Rattle.critical_table.specs.declared.pos.Pos.{Pos}
use Rattle.c_lexer.specs.declared.punct.Punct.TheVariants as p
use Rattle.c_lexer.specs.declared.token.Body.{Body}
use Rattle.c_lexer.specs.declared.token.Body.TheVariants as lexeme
use Rattle.c_reading.specs.declared.declarator_form.DeclaratorForm.TheVariants as form
use Rattle.c_syntax.specs.TreeUnit as unit
use Rattle.c_syntax.specs.TreeUnit.{Item, InitDeclarator, Declaration, Assert}
use Rattle.c_syntax.specs.Levels.{assignment, conditional}
use Rattle.c_reading.specs.Parser.{Parser, Unfit, TooDeep, ◌>>=◌, pure, fail, peek, skip, deeper, expect, ones}
use Rattle.c_reading.specs.ReadBody.{begins_initializer, begins_item, unless_deep, Initializers, listed_items, braces}
use Rattle.c_reading.specs.ReadBody.{initializer_at, member_item, index_item, item_at, initializers, init_by, init_on}
use Rattle.c_reading.specs.ReadBody.{init_declarator, init_declarator_adds, more_declarators, declared_on}
use Rattle.c_reading.specs.ReadBody.{declaration_by, declaration_on, declaration_at, message_by, message, assert_on}
use Rattle.c_reading.specs.ReadBody.{assert_at, declaration_lower}
use Rattle.c_syntax.specs.ViewUnit.{items}
use Rattle.c_reading.specs.ReadSpecifier.{parsers}
use Rattle.c_reading.specs.ReadToken.{is_mark, name_of}
use Rattle.c_syntax.specs.Scopes.{Scope, names_types, own_name, declared_if, expr_adds, specifiers_add, declarator_adds}
use Rattle.c_syntax.specs.Tree.{Expr, Specifiers, Declarator}
use Rattle.c_reading.proofs.Online.Steps.{Online, TakesOne, online_pure, online_fail, online_skip, online_peek}
use Rattle.c_reading.proofs.Online.Steps.{online_here, online_choose, online_deeper, online_expect, online_bind}
use Rattle.c_reading.proofs.Online.Steps.{online_before, takes_skip, takes_here, takes_deeper, takes_bind}
use Rattle.c_reading.proofs.Online.Steps.{listed_online, more_listed_online}
use Rattle.c_reading.proofs.Online.Expr.{pieces_online}
use Rattle.c_reading.proofs.Online.All.{parsers_online, parsers_take}

pub online_unless : {A : Type 0} (begins : Option Body → Bool) → Online (peek (λ o. unless_deep {A = A} (begins o)))
online_unless begins = online_peek _ (λ o. online_choose (begins o) _ _ (online_fail TooDeep) (online_fail Unfit))

-- ---- initializers

pub record InitializersOnline (r : Initializers) : Type 0 where
  pub initializer : (scope : Scope) → Online (r.initializer scope)
  pub item : (scope : Scope) → Online (r.item scope)

module _ (k : ℕ) (low : Initializers) (on : InitializersOnline low) where
  listed_items_online : (scope : Scope) → Online (listed_items k low scope)
  unfolding listed_items
  listed_items_online scope = listed_online _ _ _ _ _ refl (online_pure tt) on.item scope

  braces_online : (scope : Scope) (pos : Pos) → Online (braces k low scope pos)
  unfolding braces
  braces_online scope pos =
      online_before _ (is_mark p.CloseBrace) _ (listed_items_online scope)
      (λ all. online_pure (unit.Braces pos (items all.0) all.1))

  initializer_at_online : (scope : Scope) → Online (initializer_at k low scope)
  unfolding initializer_at
  initializer_at_online scope = online_here _ (λ pos. online_peek _ (λ o.
      online_choose (is_mark p.OpenBrace o) _ _
      (online_choose (nat_le 2 k) _ _ (online_skip _ (braces_online scope pos)) (online_fail TooDeep))
      (online_bind _ _ ((parsers_online (suc k)).expr scope assignment) (λ e. online_pure (unit.Single e)))))

  abbrev named_item : Scope → Pos → Option (List ℕ) → Parser Item
  named_item scope pos None = fail Unfit
  named_item scope pos (Some x) =
      skip (expect (is_mark p.Assign) >>= λ _. low.initializer scope >>= λ value. pure (unit.ForMember pos x value))

  named_item_online : (scope : Scope) (pos : Pos) (o : Option (List ℕ)) → Online (named_item scope pos o)
  named_item_online scope pos None = online_fail Unfit
  named_item_online scope pos (Some x) =
      online_skip _
      (online_bind _ _ (online_expect (is_mark p.Assign))
      (λ _. online_bind _ _ (on.initializer scope) (λ value. online_pure (unit.ForMember pos x value))))

  member_item_online : (scope : Scope) (pos : Pos) → Online (member_item k low scope pos)
  unfolding member_item
  member_item_online scope pos =
      online_peek (λ o. named_item scope pos (name_of o)) (λ o. named_item_online scope pos (name_of o))

  index_item_online : (scope : Scope) (pos : Pos) → Online (index_item k low scope pos)
  unfolding index_item
  index_item_online scope pos =
      online_before _ (is_mark p.CloseBracket) _ ((parsers_online k).expr scope conditional) (λ index.
      online_bind _ _ (online_expect (is_mark p.Assign))
      (λ _. online_bind _ _ (on.initializer (scope ++ expr_adds index))
      (λ value. online_pure (unit.ForIndex pos index value))))

  item_at_online : (scope : Scope) → Online (item_at k low scope)
  unfolding item_at
  item_at_online scope = online_here _ (λ pos. online_peek _ (λ o.
      online_choose (is_mark p.Dot o) _ _ (online_deeper k _ (online_skip _ (member_item_online scope pos)))
      (online_choose (is_mark p.OpenBracket o) _ _ (online_deeper k _ (online_skip _ (index_item_online scope pos)))
      (online_bind _ _ (on.initializer scope) (λ value. online_pure (unit.Plain value))))))

pub initializers_online : (k : ℕ) → InitializersOnline (initializers k)
initializers_online zero = record {
  initializer = λ scope. online_unless (begins_initializer scope);
  item =
      λ scope. online_unless (begins_item scope);
}
initializers_online (suc k) =
    record {
      initializer = initializer_at_online k (initializers k) (initializers_online k);
      item =
          item_at_online k (initializers k) (initializers_online k);
    }

module _ (k : ℕ) where
  -- ---- declarations

  init_by_online : (scope : Scope) (one : Declarator) (assigned : Bool) → Online (init_by k scope one assigned)
  init_by_online scope one true =
      online_skip _
      (online_bind _ _ ((initializers_online k).initializer scope)
      (λ value. online_pure {A = InitDeclarator} (record { declarator = one; initializer = Some value })))
  init_by_online scope one false = online_pure {A = InitDeclarator} (record { declarator = one; initializer = None })

  init_on_online : (names_type : Bool) (scope : Scope) (one : Declarator) → Online (init_on k names_type scope one)
  unfolding init_on
  init_on_online names_type scope one =
      online_peek _ (λ o. init_by_online (scope ++ declarator_adds one ++ declared_if names_type (own_name one)) one
      (is_mark p.Assign o))

  pub init_declarator_online : (names_type : Bool) (scope : Scope) → Online (init_declarator k names_type scope)
  unfolding init_declarator
  init_declarator_online names_type scope =
      online_bind _ _ ((parsers_online k).declarator form.Named scope) (init_on_online names_type scope)

  more_declarators_online : (names_type : Bool) (scope : Scope) → Online (more_declarators k names_type scope)
  unfolding more_declarators
  more_declarators_online names_type scope =
      more_listed_online _ _ _ _ _ refl (online_pure tt) (init_declarator_online names_type) scope

  pub declared_on_online : (scope : Scope) (all : Specifiers) (one : Declarator) → Online (declared_on k scope all one)
  unfolding declared_on
  declared_on_online scope all one = online_bind _ _ (init_on_online (names_types all) scope one) (λ first.
      online_before _ (is_mark p.Semicolon) _
      (more_declarators_online (names_types all) (scope ++ init_declarator_adds k (names_types all) first))
      (λ rest. online_pure {A = Declaration} (record { specifiers = all; declarators = first ∷ ones rest })))

  declaration_by_online : (scope : Scope) (all : Specifiers) (over : Bool) → Online (declaration_by k scope all over)
  declaration_by_online scope all true =
      online_skip _ (online_pure {A = Declaration} (record { specifiers = all; declarators = [] }))
  declaration_by_online scope all false =
      online_bind _ _ ((parsers_online k).declarator form.Named scope) (declared_on_online scope all)

  declaration_on_online : (scope : Scope) (all : Specifiers) → Online (declaration_on k scope all)
  unfolding declaration_on
  declaration_on_online scope all =
      online_peek _ (λ o. declaration_by_online (scope ++ specifiers_add all) all (is_mark p.Semicolon o))

  pub declaration_at_online : (scope : Scope) → Online (declaration_at k scope)
  unfolding declaration_at
  declaration_at_online scope = online_bind _ _ ((parsers_online k).specifiers scope) (declaration_on_online scope)

  pub declaration_at_takes : (scope : Scope) → TakesOne (declaration_at k scope)
  unfolding declaration_at
  declaration_at_takes scope =
      takes_bind ((parsers k).specifiers scope) (declaration_on k scope) ((parsers_take k).specifiers scope)
      (declaration_on_online scope)

  -- ---- static assertions

  message_online : (pos : Pos) (test : Expr) → Online (message k pos test)
  unfolding message
  message_online pos test = online_peek _ by
    where
      by : (o : Option Body) → Online (message_by k pos test o)
      by (Some (lexeme.Literal units wide)) =
          online_skip _
          (online_before _ (is_mark p.CloseParen) _ (pieces_online wide)
          (λ more. online_bind _ _ (online_expect (is_mark p.Semicolon))
          (λ _. online_pure {A =
          Assert} (record {
            pos = pos;
            condition = test;
            message =
                record { pieces = units ∷ more; wide = wide };
          }))))
      by (Some next) = online_fail Unfit
      by None = online_fail Unfit

  assert_on_online : (scope : Scope) (pos : Pos) → Online (assert_on k scope pos)
  unfolding assert_on
  assert_on_online scope pos =
      online_bind _ _ (online_expect (is_mark p.OpenParen))
      (λ _. online_before _ (is_mark p.Comma) _ ((parsers_online k).expr scope conditional) (message_online pos))

  pub assert_at_online : (scope : Scope) → Online (assert_at k scope)
  unfolding assert_at
  assert_at_online scope = online_here _ (λ pos. online_deeper k _ (online_skip _ (assert_on_online scope pos)))

  pub assert_at_takes : (scope : Scope) → TakesOne (assert_at k scope)
  unfolding assert_at
  assert_at_takes scope =
      takes_here (λ pos. deeper k (skip (assert_on k scope pos)))
      (λ pos. takes_deeper k (skip (assert_on k scope pos))
      (takes_skip (assert_on k scope pos) (assert_on_online scope pos)))

pub declaration_lower_online : (k : ℕ) (scope : Scope) → Online (declaration_lower k scope)
declaration_lower_online zero scope = online_fail TooDeep
declaration_lower_online (suc k) scope = declaration_at_online k scope
