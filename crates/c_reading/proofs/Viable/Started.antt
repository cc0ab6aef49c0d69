-- The least nodes; and that a token that begins an expression, or specifiers, is the first of some.
use Rattle.std.specs.Prelude.{pos as nonnegative}
use Rattle.std.proofs.Common.{◌≡◌, ◌⊎◌, inl, inr, ℕ, suc, ◌≤◌, Bool, true, false, ◌||◌, not, is_some, List, [], ◌∷◌}
use Rattle.std.proofs.Common.{◌++◌, Option, Some, None, refl, sym, subst, arith}
use Rattle.critical_table.specs.declared.pos.Pos.{Pos}
use Rattle.c_lexer.specs.declared.punct.Punct.TheVariants as p
use Rattle.c_lexer.specs.declared.token.Body.{Body}
use Rattle.c_lexer.specs.declared.token.Body.TheVariants as lexeme
use Rattle.c_lexer.specs.declared.word.Word.{Word}
use Rattle.c_lexer.specs.declared.word.Word.TheVariants as w
use Rattle.c_syntax.specs.declared.expression.Constant.TheVariants as constant
use Rattle.c_syntax.specs.declared.operator.Measure.TheVariants as measure
use Rattle.c_syntax.specs.declared.operator.Prefix.{Prefix}
use Rattle.c_syntax.specs.declared.operator.Prefix.TheVariants as prefix
use Rattle.c_syntax.specs.declared.specifier.BasicWord.{BasicWord}
use Rattle.c_syntax.specs.declared.specifier.BasicWord.TheVariants as basic
use Rattle.c_syntax.specs.declared.specifier.CompoundWord.{CompoundWord}
use Rattle.c_syntax.specs.declared.specifier.CompoundWord.TheVariants as compound
use Rattle.c_syntax.specs.declared.specifier.Qualifier.{Qualifier}
use Rattle.c_syntax.specs.declared.specifier.Qualifier.TheVariants as qualifier
use Rattle.c_syntax.specs.declared.specifier.Storage.{Storage}
use Rattle.c_syntax.specs.declared.specifier.Storage.TheVariants as storage
use Rattle.c_syntax.specs.declared.specifier.Tag.{Tag}
use Rattle.c_syntax.specs.declared.spelled.Spelled.{Spelled}
use Rattle.c_syntax.specs.First.{is_specifier_word}
use Rattle.c_syntax.specs.Height.{height, specifiers_height}
use Rattle.c_syntax.specs.Levels.{unary}
use Rattle.c_syntax.specs.Operators.{prefix_token, storage_word, qualifier_word, basic_word, compound_word}
use Rattle.c_reading.specs.ReadExpr.{begins_expr}
use Rattle.c_reading.specs.ReadToken.{is_mark, is_word, begins_type, prefix_of}
use Rattle.c_syntax.specs.Scopes.{Scope, is_type}
use Rattle.c_syntax.specs.Spelling.{spell, spell_type_name, spell_specifiers}
use Rattle.c_syntax.specs.Tokens.{token_at, mark, name_at}
use Rattle.c_syntax.specs.Tree as tree
use Rattle.c_syntax.specs.Tree.{Expr, TypeName, Specifiers}
use Rattle.c_syntax.specs.WellFormed.{SpecifyOneType, IsExpr, IsTypeName, AreSpecifiers}
use Rattle.c_reading.proofs.Viable.Completions.{Begun, whole_begins}
use Rattle.c_reading.proofs.Viable.Contexts.{Completed}
use Rattle.c_reading.proofs.TokenTests.{is_mark_is, is_word_is, token_is, prefix_is}

-- ---- the least nodes

-- any place: that of a node that is only said to be there
abbrev pub origin : Pos
origin = record { line = 1; column = 1 }

-- a constant; then `int` as specifiers and as a type name, and a tag
abbrev pub least_expr : Expr
least_expr = tree.Const origin (constant.Character (nonnegative 0) false)

-- where nothing is read yet, an expression may follow
pub expr_completed : (scope : Scope) (level k : ℕ) → Completed (λ e. IsExpr e scope level) height spell (suc k) []
expr_completed scope level k = record {
  node = least_expr;
  more = spell least_expr;
  fits = tt;
  within =
      omega arith;
  parts = refl;
}

abbrev pub least_specifiers : Specifiers
least_specifiers = tree.MoreSpecifiers (tree.BasicType origin basic.Int) tree.NoSpecifier

pub one_type : SpecifyOneType least_specifiers
one_type = inl (omega arith, refl)

abbrev pub least_type : TypeName
least_type = tree.NamedType least_specifiers tree.Omitted

pub least_type_fits : (scope : Scope) → IsTypeName least_type scope
least_type_fits scope = (one_type, (tt, tt), tt, refl)

abbrev pub least_tag : Tag
least_tag = record { pos = origin; name = [] }

-- ---- a token that begins an expression

-- the second of two tests holds where the first fails
pub either : (a b : Bool) → (a || b) ≡ true → (a ≡ true) ⊎ (b ≡ true)
either true b h = inl refl
either false b h = inr h

not_true : (b : Bool) → not b ≡ true → b ≡ false
not_true true h = absurd (cc (h))
not_true false h = refl

some_is : {A : Type 0} (o : Option A) → is_some o ≡ true → (a : A) × (o ≡ Some a)
some_is None h = absurd (cc (h))
some_is (Some a) h = (a, refl)

-- some expression of the level begins with the token
abbrev pub ExprBegun : Scope → ℕ → Pos → Option Body → Type 0
ExprBegun scope level = Begun (λ e. IsExpr e scope level) height spell

module _ (scope : Scope) (level : ℕ) (low : level ≤ unary) (pos : Pos) where
  abbrev Begins : Option Body → Type 0
  Begins = ExprBegun scope level pos

  expr_whole : (next : Body) (e : Expr) (more : List Spelled) → IsExpr e scope level
      → spell e ≡ token_at pos next ∷ more → Begins (Some next)
  expr_whole next e more fits same = whole_begins (token_at pos next) e more refl fits same

  -- by the operator, and then by any token that the test lets pass
  pub prefix_begun : (operator : Prefix) → Begins (Some (prefix_token operator))
  prefix_begun operator =
      expr_whole (prefix_token operator) (tree.PrefixOp pos operator least_expr) (spell least_expr) (low, tt) refl

  word_begins : (o : Option Body) → (is_word w.Sizeof o || is_word w.Alignof o) ≡ true → Begins o
  word_begins o h = elim (either (is_word w.Sizeof o) (is_word w.Alignof o) h) [
    | inl x ↦ subst Begins (sym (is_word_is w.Sizeof o x)) (prefix_begun prefix.SizeExpr)
    | inr x ↦ subst Begins (sym (is_word_is w.Alignof o x))
        (expr_whole (lexeme.Word w.Alignof) (tree.MeasureOp pos measure.AlignType least_type)
        (mark p.OpenParen ∷ spell_type_name least_type ++ mark p.CloseParen ∷ []) (low, least_type_fits scope) refl)
  ]

  mark_begins : (o : Option Body) → (is_mark p.OpenParen o || is_some (prefix_of o)) ≡ true → Begins o
  mark_begins o h = elim (either (is_mark p.OpenParen o) (is_some (prefix_of o)) h) [
    | inl x ↦ subst Begins (sym (is_mark_is p.OpenParen o x))
        (whole_begins (mark p.OpenParen) (tree.Paren least_expr) (spell least_expr ++ mark p.CloseParen ∷ []) tt tt
        refl)
    | inr x ↦ let y = some_is (prefix_of o) x in
        subst Begins (sym (token_is prefix_token o (prefix_of o) y.0 (prefix_is o) y.1)) (prefix_begun y.0)
  ]

  pub expr_begun : (o : Option Body) → begins_expr scope o ≡ true → Begins o
  expr_begun (Some (lexeme.Number number)) h =
      expr_whole (lexeme.Number number) (tree.Const pos (constant.Number number)) [] tt refl
  expr_begun (Some (lexeme.Character value wide)) h =
      expr_whole (lexeme.Character value wide) (tree.Const pos (constant.Character value wide)) [] tt refl
  expr_begun (Some (lexeme.Literal units wide)) h =
      expr_whole (lexeme.Literal units wide) (tree.Text pos (record { pieces = units ∷ []; wide = wide })) []
      (λ none. cc (none)) refl
  expr_begun (Some (lexeme.Name x)) h =
      expr_whole (lexeme.Name x) (tree.Id pos x) [] (not_true (is_type scope x) h) refl
  expr_begun (Some (lexeme.Word next)) h = word_begins (Some (lexeme.Word next)) h
  expr_begun (Some (lexeme.Mark next)) h = mark_begins (Some (lexeme.Mark next)) h
  expr_begun None h = absurd (cc (h))

-- ---- a token that begins specifiers

-- some specifiers begin with the token
abbrev pub TypeBegun : Scope → Pos → Option Body → Type 0
TypeBegun scope = Begun (λ all. SpecifyOneType all × AreSpecifiers all scope) specifiers_height spell_specifiers

module _ (scope : Scope) (pos : Pos) where
  abbrev TypeBegins : Option Body → Type 0
  TypeBegins = TypeBegun scope pos

  type_whole : (next : Body) (all : Specifiers) (more : List Spelled) → SpecifyOneType all → AreSpecifiers all scope
      → spell_specifiers all ≡ token_at pos next ∷ more → TypeBegins (Some next)
  type_whole next all more one fits same = whole_begins (token_at pos next) all more refl (one, fits) same

  storage_begins : (word : Storage) → TypeBegins (Some (lexeme.Word (storage_word word)))
  storage_begins word =
      type_whole _ (tree.MoreSpecifiers (tree.StorageClass pos word) least_specifiers)
      (spell_specifiers least_specifiers) one_type (tt, (tt, tt)) refl

  qualifier_begins : (word : Qualifier) → TypeBegins (Some (lexeme.Word (qualifier_word word)))
  qualifier_begins word =
      type_whole _ (tree.MoreSpecifiers (tree.TypeQualifier pos word) least_specifiers)
      (spell_specifiers least_specifiers) one_type (tt, (tt, tt)) refl

  basic_begins : (word : BasicWord) → TypeBegins (Some (lexeme.Word (basic_word word)))
  basic_begins word =
      type_whole _ (tree.MoreSpecifiers (tree.BasicType pos word) tree.NoSpecifier) [] (inl (omega arith, refl))
      (tt, tt) refl

  compound_begins : (word : CompoundWord) → TypeBegins (Some (lexeme.Word (compound_word word)))
  compound_begins word =
      type_whole _ (tree.MoreSpecifiers (tree.CompoundTag pos word least_tag) tree.NoSpecifier)
      (name_at origin [] ∷ []) (inr (refl, refl)) (tt, tt) refl

  specifier_word_begins : (word : Word) → is_specifier_word word ≡ true → TypeBegins (Some (lexeme.Word word))
  specifier_word_begins w.Typedef h = storage_begins storage.Typedef
  specifier_word_begins w.Extern h = storage_begins storage.Extern
  specifier_word_begins w.Static h = storage_begins storage.Static
  specifier_word_begins w.Auto h = storage_begins storage.Auto
  specifier_word_begins w.Register h = storage_begins storage.Register
  specifier_word_begins w.Const h = qualifier_begins qualifier.Const
  specifier_word_begins w.Restrict h = qualifier_begins qualifier.Restrict
  specifier_word_begins w.Volatile h = qualifier_begins qualifier.Volatile
  specifier_word_begins w.Inline h =
      type_whole _ (tree.MoreSpecifiers (tree.Inline pos) least_specifiers) (spell_specifiers least_specifiers)
      one_type (tt, (tt, tt)) refl
  specifier_word_begins w.Void h = basic_begins basic.Void
  specifier_word_begins w.Char h = basic_begins basic.Char
  specifier_word_begins w.Short h = basic_begins basic.Short
  specifier_word_begins w.Int h = basic_begins basic.Int
  specifier_word_begins w.Long h = basic_begins basic.Long
  specifier_word_begins w.Signed h = basic_begins basic.Signed
  specifier_word_begins w.Unsigned h = basic_begins basic.Unsigned
  specifier_word_begins w.Bool h = basic_begins basic.Bool
  specifier_word_begins w.Struct h = compound_begins compound.Struct
  specifier_word_begins w.Union h = compound_begins compound.Union
  specifier_word_begins w.Enum h =
      type_whole _ (tree.MoreSpecifiers (tree.EnumTag pos least_tag) tree.NoSpecifier) (name_at origin [] ∷ [])
      (inr (refl, refl)) (tt, tt) refl
  specifier_word_begins _ h = absurd (cc (h))

  -- each token that the test lets pass begins some
  pub type_begun : (o : Option Body) → begins_type scope o ≡ true → TypeBegins o
  type_begun (Some (lexeme.Word word)) h = specifier_word_begins word h
  type_begun (Some (lexeme.Name x)) h =
      type_whole _ (tree.MoreSpecifiers (tree.TypedefName pos x) tree.NoSpecifier) [] (inr (refl, refl)) (h, tt) refl
  type_begun _ h = absurd (cc (h))
