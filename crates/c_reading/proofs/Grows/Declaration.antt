-- Initializers, declarations and static assertions are read the same with more height.
use Rattle.std.proofs.Common.{ℕ, zero, suc, ◌≤◌, nat_le, Bool, true, false, List, [], ◌∷◌, ◌++◌, Option, Some, None}
use Rattle.std.proofs.Common.{arith}
use Rattle.critical_table.specs.declared.pos.Pos.{Pos}
use Rattle.c_lexer.specs.declared.punct.Punct.TheVariants as p
use Rattle.c_reading.specs.declared.declarator_form.DeclaratorForm.TheVariants as form
use Rattle.c_syntax.specs.TreeUnit as unit
use Rattle.c_syntax.specs.TreeUnit.{Item, InitDeclarator, Declaration}
use Rattle.c_syntax.specs.Levels.{assignment, conditional}
use Rattle.c_reading.specs.Parser.{Parser, Unfit, ◌>>=◌, pure, fail, skip, expect, ones}
use Rattle.c_reading.specs.ReadBody.{begins_initializer, begins_item, Initializers, listed_items, braces}
use Rattle.c_reading.specs.ReadBody.{initializer_at, member_item, index_item, item_at, lowest_initializers}
use Rattle.c_reading.specs.ReadBody.{initializers, init_by, init_on, init_declarator, init_declarator_adds}
use Rattle.c_reading.specs.ReadBody.{more_declarators, declared_on, declaration_by, declaration_on, declaration_at}
use Rattle.c_reading.specs.ReadBody.{message, assert_on, assert_at, declaration_lower}
use Rattle.c_syntax.specs.ViewUnit.{items}
use Rattle.c_reading.specs.ReadToken.{is_mark, name_of}
use Rattle.c_syntax.specs.Scopes.{Scope, names_types, own_name, declared_if, expr_adds, specifiers_add, declarator_adds}
use Rattle.c_syntax.specs.Tree.{Specifiers, Declarator}
use Rattle.c_reading.proofs.Grows.Steps.{Grown, grown_same, deep_grown, grown_bind, grown_then, grown_before}
use Rattle.c_reading.proofs.Grows.Steps.{grown_skip, grown_peek, grown_here, grown_choose, grown_deeper, grown_within}
use Rattle.c_reading.proofs.Grows.Steps.{still_fits, listed_grown, more_listed_grown}
use Rattle.c_reading.proofs.Grows.All.{parsers_grown}
use Rattle.c_reading.proofs.Viable.Unfit.{unless_grown, initializer_at_refuses, item_at_refuses, initializers_refuse}

-- ---- initializers

pub record InitializersGrown (r s : Initializers) : Type 0 where
  pub initializer : (scope : Scope) → Grown (r.initializer scope) (s.initializer scope)
  pub item : (scope : Scope) → Grown (r.item scope) (s.item scope)

module _ (k k' : ℕ) (le : k ≤ k') (low low' : Initializers) (on : InitializersGrown low low') where
  listed_items_grown : (scope : Scope) → Grown (listed_items k low scope) (listed_items k' low' scope)
  unfolding listed_items
  listed_items_grown scope = listed_grown _ _ _ _ _ _ on.item scope

  braces_grown : (scope : Scope) (pos : Pos) → Grown (braces k low scope pos) (braces k' low' scope pos)
  unfolding braces
  braces_grown scope pos =
      grown_then _ _ (λ all. expect (is_mark p.CloseBrace) >>= λ _. pure (unit.Braces pos (items all.0) all.1))
      (listed_items_grown scope)

  initializer_at_grown : (scope : Scope) → Grown (initializer_at k low scope) (initializer_at k' low' scope)
  unfolding initializer_at
  initializer_at_grown scope = grown_here _ _ (λ pos. grown_peek _ _ (λ o.
      grown_choose (is_mark p.OpenBrace o) _ _ _ _
      (grown_within (nat_le 2 k) (nat_le 2 k') _ _ (still_fits 2 k k' le) (grown_skip _ _ (braces_grown scope pos)))
      (grown_then _ _ (λ e. pure (unit.Single e))
      ((parsers_grown (suc k) (suc k') (omega arith)).expr scope assignment))))

  abbrev named_item : (r : Initializers) → Scope → Pos → Option (List ℕ) → Parser Item
  named_item r scope pos None = fail Unfit
  named_item r scope pos (Some x) =
      skip (expect (is_mark p.Assign) >>= λ _. r.initializer scope >>= λ value. pure (unit.ForMember pos x value))

  named_item_grown : (scope : Scope) (pos : Pos) (o : Option (List ℕ))
      → Grown (named_item low scope pos o) (named_item low' scope pos o)
  named_item_grown scope pos None = grown_same (fail Unfit)
  named_item_grown scope pos (Some x) =
      grown_skip _ _
      (grown_bind _ _ _ _ (grown_same (expect (is_mark p.Assign)))
      (λ _. grown_then _ _ (λ value. pure (unit.ForMember pos x value)) (on.initializer scope)))

  member_item_grown : (scope : Scope) (pos : Pos) → Grown (member_item k low scope pos) (member_item k' low' scope pos)
  unfolding member_item
  member_item_grown scope pos =
      grown_peek (λ o. named_item low scope pos (name_of o)) (λ o. named_item low' scope pos (name_of o))
      (λ o. named_item_grown scope pos (name_of o))

  index_item_grown : (scope : Scope) (pos : Pos) → Grown (index_item k low scope pos) (index_item k' low' scope pos)
  unfolding index_item
  index_item_grown scope pos =
      grown_before _ _ (is_mark p.CloseBracket) _ _ ((parsers_grown k k' le).expr scope conditional) (λ index.
      grown_bind _ _ _ _ (grown_same (expect (is_mark p.Assign)))
      (λ _. grown_then _ _ (λ value. pure (unit.ForIndex pos index value))
      (on.initializer (scope ++ expr_adds index))))

  item_at_grown : (scope : Scope) → Grown (item_at k low scope) (item_at k' low' scope)
  unfolding item_at
  item_at_grown scope = grown_here _ _ (λ pos. grown_peek _ _ (λ o.
      grown_choose (is_mark p.Dot o) _ _ _ _ (grown_deeper k k' _ _ le (grown_skip _ _ (member_item_grown scope pos)))
      (grown_choose (is_mark p.OpenBracket o) _ _ _ _
      (grown_deeper k k' _ _ le (grown_skip _ _ (index_item_grown scope pos)))
      (grown_then _ _ (λ value. pure (unit.Plain value)) (on.initializer scope)))))

pub initializers_grown : (k j : ℕ) → k ≤ j → InitializersGrown (initializers k) (initializers j)
initializers_grown zero zero le = record {
  initializer = λ scope. grown_same (lowest_initializers.initializer scope);
  item = λ scope. grown_same (lowest_initializers.item scope);
}
initializers_grown zero (suc j) le = record {
  initializer = λ scope. unless_grown (begins_initializer scope) _ (initializer_at_refuses j (initializers j) scope);
  item = λ scope. unless_grown (begins_item scope) _ (item_at_refuses j (initializers j) (initializers_refuse j) scope);
}
initializers_grown (suc k) zero le = absurd (omega arith)
initializers_grown (suc k) (suc j) le =
    let low : k ≤ j = omega arith in
    let on = initializers_grown k j low in
    record {
      initializer = initializer_at_grown k j low (initializers k) (initializers j) on;
      item =
          item_at_grown k j low (initializers k) (initializers j) on;
    }

module _ (k k' : ℕ) (le : k ≤ k') where
  -- ---- declarations

  init_by_grown : (scope : Scope) (one : Declarator) (assigned : Bool)
      → Grown (init_by k scope one assigned) (init_by k' scope one assigned)
  init_by_grown scope one true =
      grown_skip _ _
      (grown_then _ _ (λ value. pure {A = InitDeclarator} (record { declarator = one; initializer = Some value }))
      ((initializers_grown k k' le).initializer scope))
  init_by_grown scope one false =
      grown_same (pure {A = InitDeclarator} (record { declarator = one; initializer = None }))

  init_on_grown : (names_type : Bool) (scope : Scope) (one : Declarator)
      → Grown (init_on k names_type scope one) (init_on k' names_type scope one)
  unfolding init_on
  init_on_grown names_type scope one =
      grown_peek _ _ (λ o. init_by_grown (scope ++ declarator_adds one ++ declared_if names_type (own_name one)) one
      (is_mark p.Assign o))

  init_declarator_grown : (names_type : Bool) (scope : Scope)
      → Grown (init_declarator k names_type scope) (init_declarator k' names_type scope)
  unfolding init_declarator
  init_declarator_grown names_type scope =
      grown_bind _ _ _ _ ((parsers_grown k k' le).declarator form.Named scope) (init_on_grown names_type scope)

  more_declarators_grown : (names_type : Bool) (scope : Scope)
      → Grown (more_declarators k names_type scope) (more_declarators k' names_type scope)
  unfolding more_declarators
  more_declarators_grown names_type scope = more_listed_grown _ _ _ _ _ _ (init_declarator_grown names_type) scope

  pub declared_on_grown : (scope : Scope) (all : Specifiers) (one : Declarator)
      → Grown (declared_on k scope all one) (declared_on k' scope all one)
  unfolding declared_on
  declared_on_grown scope all one = grown_bind _ _ _ _ (init_on_grown (names_types all) scope one) (λ first.
      grown_then _ _ (λ rest. expect (is_mark p.Semicolon)
      >>= λ _. pure {A = Declaration} (record { specifiers = all; declarators = first ∷ ones rest }))
      (more_declarators_grown (names_types all) (scope ++ init_declarator_adds k (names_types all) first)))

  declaration_by_grown : (scope : Scope) (all : Specifiers) (over : Bool)
      → Grown (declaration_by k scope all over) (declaration_by k' scope all over)
  declaration_by_grown scope all true =
      grown_same (skip (pure {A = Declaration} (record { specifiers = all; declarators = [] })))
  declaration_by_grown scope all false =
      grown_bind _ _ _ _ ((parsers_grown k k' le).declarator form.Named scope) (declared_on_grown scope all)

  declaration_on_grown : (scope : Scope) (all : Specifiers)
      → Grown (declaration_on k scope all) (declaration_on k' scope all)
  unfolding declaration_on
  declaration_on_grown scope all =
      grown_peek _ _ (λ o. declaration_by_grown (scope ++ specifiers_add all) all (is_mark p.Semicolon o))

  pub declaration_at_grown : (scope : Scope) → Grown (declaration_at k scope) (declaration_at k' scope)
  unfolding declaration_at
  declaration_at_grown scope =
      grown_bind _ _ _ _ ((parsers_grown k k' le).specifiers scope) (declaration_on_grown scope)

  -- ---- static assertions

  assert_on_grown : (scope : Scope) (pos : Pos) → Grown (assert_on k scope pos) (assert_on k' scope pos)
  unfolding assert_on message
  assert_on_grown scope pos = grown_bind _ _ _ _ (grown_same (expect (is_mark p.OpenParen))) (λ _.
      grown_then _ _ (λ test. expect (is_mark p.Comma) >>= λ _. message k pos test)
      ((parsers_grown k k' le).expr scope conditional))

  pub assert_at_grown : (scope : Scope) → Grown (assert_at k scope) (assert_at k' scope)
  unfolding assert_at
  assert_at_grown scope = grown_here _ _ (λ pos. grown_deeper k k' _ _ le (grown_skip _ _ (assert_on_grown scope pos)))

pub declaration_lower_grown : (k j : ℕ) → k ≤ j → (scope : Scope)
    → Grown (declaration_lower k scope) (declaration_lower j scope)
declaration_lower_grown zero j le scope = deep_grown (declaration_lower j scope)
declaration_lower_grown (suc k) zero le scope = absurd (omega arith)
declaration_lower_grown (suc k) (suc j) le scope = declaration_at_grown k j (omega arith) scope
