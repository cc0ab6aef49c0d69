-- The spelling of a well-formed external declaration or unit is read as it.
use Rattle.std.proofs.Common.{◌≡◌, ℕ, zero, suc, ◌≤◌, List, [], ◌∷◌, ◌++◌, true, false, ◌&&◌, is_some, Option, Some}
use Rattle.std.proofs.Common.{None, refl, ◌∙◌, ap, arith}
use Rattle.std.specs.List.{flat_map}
use Rattle.std.specs.Option.{IsSome}
use Rattle.c_lexer.specs.declared.punct.Punct.TheVariants as p
use Rattle.c_lexer.specs.declared.token.Token.{Token}
use Rattle.c_lexer.specs.declared.token.Body.TheVariants as lexeme
use Rattle.c_lexer.specs.declared.word.Word.TheVariants as w
use Rattle.c_reading.specs.declared.declarator_form.DeclaratorForm.TheVariants as form
use Rattle.c_syntax.specs.TreeUnit as unit
use Rattle.c_syntax.specs.TreeUnit.{InitDeclarator, BlockItems, Function, External}
use Rattle.c_syntax.specs.First.{IsFirst}
use Rattle.c_syntax.specs.HeightUnit.{block_items_height, function_height, external_height, externals_height}
use Rattle.c_reading.specs.Parser.{Found, next_body, tail}
use Rattle.c_reading.specs.ReadBody.{statements, block_lower, is_body, function_scope, external_declared, external_on}
use Rattle.c_reading.specs.ReadBody.{external_by, external_at, externals}
use Rattle.c_reading.specs.ReadToken.{is_mark, is_word, begins_type}
use Rattle.c_syntax.specs.Scopes.{Scope, predeclared, specifiers_add}
use Rattle.c_syntax.specs.ScopesUnit.{own_parameters, external_adds}
use Rattle.c_syntax.specs.Spelling.{spell_specifiers, spell_declarator}
use Rattle.c_syntax.specs.SpellingUnit.{spell_declaration, spell_assert, spell_block_items, spell_external}
use Rattle.c_syntax.specs.Tokens.{mark}
use Rattle.c_syntax.specs.Tree.{Specifiers, Declarator}
use Rattle.c_syntax.specs.WellFormedUnit.{AreBlockItems, IsFunction, IsExternal, AreExternals}
use Rattle.c_reading.proofs.Full.Steps.{front, then_read, chosen_first, chosen_second, Each, many_again}
use Rattle.c_reading.proofs.BodyTokens.{no_assert, takes_some}
use Rattle.c_reading.proofs.Full.DeclaratorEnds.{declarator_begins, opening, opening_no_mark}
use Rattle.c_syntax.proofs.EmptyLaws.{some_external}
use Rattle.c_syntax.proofs.FirstLaws.{first_specifiers, first_declaration}
use Rattle.c_reading.proofs.FirstTokens.{first_seen}
use Rattle.c_reading.proofs.Full.Block.{block_again}
use Rattle.c_reading.proofs.Full.Declaration.{ends_declarator, named_token, Follows, specified, assert_full}
use Rattle.c_reading.proofs.Full.Declarator.{parsers_full}
use Rattle.c_reading.proofs.Full.Statement.{statements_full}
use Rattle.c_reading.proofs.Takes.{Takes, takes_parted, takes_append}

-- ---- function definitions

-- the body has some height
lower_again : (k : ℕ) (all : BlockItems) (scope : Scope) (tokens rest : List Token) → AreBlockItems all scope
    → suc (block_items_height all) ≤ k → Takes tokens (spell_block_items all ++ mark p.CloseBrace ∷ []) rest
    → block_lower k scope tokens ≡ Found all rest
lower_again zero all scope tokens rest are high takes = absurd (omega arith)
lower_again (suc k) all scope tokens rest are high takes =
    block_again k (statements k) (statements_full k) all scope tokens rest are (omega arith) takes

some_is : {A : Type 0} (o : Option A) → IsSome o → is_some o ≡ true
some_is None some = absurd (cc (some))
some_is (Some a) some = refl

-- a body follows where the declarator has parameters of its own
body_is : (one : Declarator) (tokens : List Token) → IsSome (own_parameters one)
    → next_body tokens ≡ Some (lexeme.Mark p.OpenBrace) → is_body one (next_body tokens) ≡ true
body_is one tokens some e = ap (is_body one) e ∙ some_is (own_parameters one) some

no_body : (one : Declarator) (tokens : List Token) → is_mark p.OpenBrace (next_body tokens) ≡ false
    → is_body one (next_body tokens) ≡ false
no_body one tokens none = ap (λ b. b && is_some (own_parameters one)) none

module _ (k : ℕ) where
  -- behind the specifiers of a function
  function_again : (one : Function) (scope : Scope) (tokens mid rest : List Token) → IsFunction one scope
      → function_height one ≤ suc k → Takes tokens (spell_declarator one.declarator) mid
      → Takes mid (mark p.OpenBrace ∷ spell_block_items one.body ++ mark p.CloseBrace ∷ []) rest
      → external_by k scope one.specifiers false tokens ≡ Found (unit.Defines one) rest
  unfolding external_on
  function_again one scope tokens mid rest is high all behind =
      let f = front mid rest (mark p.OpenBrace ∷ spell_block_items one.body ++ mark p.CloseBrace ∷ []) behind in
      let here = scope ++ specifiers_add one.specifiers in
      then_read _ _ one.declarator mid _
      ((parsers_full k).declarator form.Named here one.declarator tokens mid is.2 is.3 (omega arith)
      (ap ends_declarator f.0) all)
      (ap (λ b. external_declared k scope one.specifiers one.declarator b mid) (body_is one.declarator mid is.4 f.0)
      ∙ then_read _ _ one.body rest _ (lower_again k one.body (function_scope k scope one.specifiers one.declarator)
      (tail mid) rest is.5 (omega arith) f.2) refl)

  -- behind those of a declaration
  declaring_again : (all : Specifiers) (list : List InitDeclarator) (scope : Scope) (tokens rest : List Token)
      → Follows k all list (scope ++ specifiers_add all) tokens rest
      → external_by k scope all (is_mark p.Semicolon (next_body tokens)) tokens
      ≡ Found (unit.Declaring (record { specifiers = all; declarators = list })) rest
  unfolding external_on
  declaring_again all [] scope tokens rest x =
      ap (λ o. external_by k scope all (is_mark p.Semicolon o) tokens) x.0
      ∙ ap (λ ts. Found (unit.Declaring (record { specifiers = all; declarators = [] })) ts) x.1
  declaring_again all (first ∷ more) scope tokens rest x =
      ap (λ b. external_by k scope all b tokens) x.no_semicolon
      ∙ then_read _ _ first.declarator x.mid _ x.reads
      (ap (λ b. external_declared k scope all first.declarator b x.mid) (no_body first.declarator x.mid x.no_brace)
      ∙ then_read _ _ (record { specifiers = all; declarators = first ∷ more }) rest _ x.declares refl)

-- a token that begins a type begins no static assertion
type_no_assert : (scope : Scope) (tokens rest : List Token) (all : List _) → IsFirst true scope all
    → Takes tokens all rest → is_word w.StaticAssert (next_body tokens) ≡ false
type_no_assert scope tokens rest all is takes =
    no_assert (begins_type scope) (next_body tokens) refl (first_seen true scope tokens rest all is takes)

pub external_full : (k : ℕ) (scope : Scope) (one : External) (tokens rest : List Token) → IsExternal one scope
    → external_height one ≤ suc k → Takes tokens (spell_external one) rest
    → external_at k scope tokens ≡ Found one rest
unfolding external_at
external_full k scope (unit.Asserting one) tokens rest fits low_height all =
    let f = front tokens rest (spell_assert one) all in
    chosen_first (is_word w.StaticAssert (next_body tokens)) _ _ tokens _ (ap (is_word w.StaticAssert) f.0)
    (then_read _ _ one rest _ (assert_full k scope one tokens rest fits low_height all) refl)
external_full k scope (unit.Declaring one) tokens rest fits low_height all =
    let x = specified k one.specifiers one.declarators scope tokens rest fits low_height all in
    chosen_second (is_word w.StaticAssert (next_body tokens)) _ _ tokens _
    (type_no_assert scope tokens rest (spell_declaration one) (first_declaration one scope fits) all)
    (then_read _ _ one.specifiers x.mid _ x.reads
    (declaring_again k one.specifiers one.declarators scope x.mid rest x.behind))
external_full k scope (unit.Defines one) tokens rest fits low_height all =
    let body_of = mark p.OpenBrace ∷ spell_block_items one.body in
    let close = takes_parted tokens rest (spell_specifiers one.specifiers ++ spell_declarator one.declarator
    ++ body_of) (mark p.CloseBrace ∷ []) all in
    let y = takes_parted tokens close.mid (spell_specifiers one.specifiers ++ spell_declarator one.declarator)
    body_of close.one in
    let x = takes_parted tokens y.mid (spell_specifiers one.specifiers) (spell_declarator one.declarator) y.one in
    let has = named_token one.declarator fits.3 in
    let begins = declarator_begins form.Named scope one.declarator x.mid y.mid has fits.3 x.two in
    let no_semicolon =
    opening_no_mark p.Semicolon one.declarator (next_body x.mid) refl refl refl
    (opening one.declarator x.mid y.mid has x.two) in
    chosen_second (is_word w.StaticAssert (next_body tokens)) _ _ tokens _
    (type_no_assert scope tokens x.mid (spell_specifiers one.specifiers)
    (first_specifiers one.specifiers scope fits.0 fits.1) x.one)
    (then_read _ _ one.specifiers x.mid _
    ((parsers_full k).specifiers scope one.specifiers tokens x.mid fits.0 fits.1 (omega arith) begins.1 x.one)
    (ap (λ b. external_by k scope one.specifiers b x.mid) no_semicolon
    ∙ function_again k one scope x.mid y.mid rest fits low_height x.two
    (takes_append y.mid close.mid rest body_of (mark p.CloseBrace ∷ []) y.two close.two)))

-- ---- the unit

each_external : (k : ℕ) (all : List External) (scope : Scope) (tokens : List Token) → AreExternals all scope
    → externals_height all ≤ suc k → Takes tokens (flat_map spell_external all) []
    → Each (λ s o. is_some o) (external_at k) (λ s one. s ++ external_adds one) all scope tokens []
each_external k [] scope tokens are high takes = (takes, refl)
each_external k (first ∷ more) scope tokens are high takes =
    let x = takes_parted tokens [] (spell_external first) (flat_map spell_external more) takes in
    let some = takes_some tokens x.mid (spell_external first) (some_external first scope are.0) x.one in (
      x.mid,
      some.0,
      external_full k scope first tokens x.mid are.0 (omega arith) x.one,
      some.1,
      each_external k more (scope ++ external_adds first) x.mid are.1 (omega arith) x.two,
    )

pub externals_full : (k : ℕ) (all : List External) (tokens : List Token) → (all ≡ [] → ⊥)
    → AreExternals all predeclared → externals_height all ≤ suc k → Takes tokens (flat_map spell_external all) []
    → externals k tokens ≡ Found all []
unfolding externals
externals_full k [] tokens some fits low_height takes = absurd (some refl)
externals_full k (first ∷ more) tokens some fits low_height takes =
    let x = takes_parted tokens [] (spell_external first) (flat_map spell_external more) takes in
    let behind = each_external k more (predeclared ++ external_adds first) x.mid fits.1 (omega arith) x.two in
    then_read _ _ first x.mid _ (external_full k predeclared first tokens x.mid fits.0 (omega arith) x.one)
    (then_read _ _ more [] _ (many_again (λ s o. is_some o) (external_at k) (λ s one. s ++ external_adds one) more
    (predeclared ++ external_adds first) x.mid [] behind) refl)
