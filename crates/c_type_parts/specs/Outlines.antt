-- Specifiers: what is seen of a whole list before its parts are walked, and what the parts before have said.
use Rattle.std.specs.Prelude.{ℕ, Bool, true, false, List, Option, Some, None}
use Rattle.critical_table.specs.declared.pos.Pos.{Pos}
use Rattle.c_types.specs.CType.{CType, void}
use Rattle.c_types.specs.Qualified.{with_quals}
use Rattle.c_syntax.specs.declared.specifier.BasicWord.{BasicWord}
use Rattle.c_syntax.specs.declared.specifier.Qualifier.{Qualifier}
use Rattle.c_syntax.specs.declared.specifier.Storage.{Storage}
use Rattle.c_syntax.specs.Tree.{Specifiers}
use Rattle.c_scopes.specs.Env.{Env}
use Rattle.c_scopes.specs.Named.{Named, TypedefOf}
use Rattle.c_scopes.specs.Ruled.{Ruled, Fits, Breaks}
use Rattle.c_scopes.specs.Scopes.{found}
use Rattle.c_type_rules.specs.Qualified.{quals_of_words, restrict_rule}
use Rattle.c_type_rules.specs.Settings.{storage_rule, inline_rule}
use Rattle.c_type_rules.specs.Words.{basic_rule}
use Rattle.c_type_rules.specs.declared.context.Context.{Context}
use Rattle.c_type_rules.specs.declared.context.Setting.{Setting}
use Rattle.c_type_parts.specs.Answers.{Answer, Gives, and_then, settle}
use Rattle.c_type_parts.specs.Shapes.{basic_words, holds_static, qualifier_words, typedef_in}

-- what is seen of a whole list before its parts are walked
pub record Outline : Type 0 where
  pub words : List BasicWord
  pub typedef : Option CType
  pub static : Bool

abbrev pub typedef_type : Option Named → Option CType
typedef_type (Some (TypedefOf type)) = Some type
typedef_type other = None

abbrev pub typedef_seen : Option (List ℕ) → Env → Option CType
typedef_seen None env = None
typedef_seen (Some x) env = typedef_type (found env.scopes false x)

abbrev pub outline : Specifiers → Env → Outline
outline all env = record {
  words = basic_words all;
  typedef = typedef_seen (typedef_in all) env;
  static = holds_static all;
}

-- whether a storage word and a word of a basic type stood before, and the type so far
pub record Before : Type 0 where
  pub storage : Bool
  pub basic : Bool
  pub type : CType

abbrev pub nothing : Before
nothing = record { storage = false; basic = false; type = void }

abbrev pub of_type : Before → CType → Before
of_type before type = record before { type = type }

-- ---- one specifier behind others

abbrev pub storage_on : Setting → Before → Pos → Storage → Env → Answer Before
storage_on setting before at word env =
    and_then (settle at env (storage_rule setting before.storage word))
    (λ stands env. Gives (record { storage = true; basic = before.basic; type = before.type }) env)

abbrev pub qualifier_on : Outline → Before → Pos → Qualifier → Env → Answer Before
qualifier_on whole before at word env =
    and_then (settle at env (restrict_rule whole.typedef word)) (λ stands env. Gives before env)

abbrev pub inline_on : Context → Outline → Before → Pos → Env → Answer Before
inline_on context whole before at env =
    and_then (settle at env (inline_rule context whole.static)) (λ stands env. Gives before env)

-- a specifier that is a type
unfoldable pub type_on : Before → Answer CType → Answer Before
type_on before type = and_then type (λ type env. Gives (of_type before type) env)

-- the words of a basic type are told at the first of them
abbrev pub first_basic : Pos → Outline → Before → Env → Answer Before
first_basic at whole before env =
    and_then (settle at env (basic_rule whole.words))
    (λ type env. Gives (record { storage = before.storage; basic = true; type = type }) env)

abbrev pub basic_on : Pos → Outline → Bool → Before → Env → Answer Before
basic_on at whole true before env = Gives before env
basic_on at whole false before env = first_basic at whole before env

-- A typedef name is in scope wherever a parser takes it for one.
abbrev pub typedef_rule : Option CType → Ruled CType
typedef_rule None = Breaks 1
typedef_rule (Some type) = Fits type

abbrev pub bare_context : Setting → Context
bare_context setting = record { setting = setting; functions = false; alone = false }

-- the type of specifiers, of which each was walked: with the qualifiers among them (6.7.3)
unfoldable pub of_specifiers : Specifiers → Answer Before → Answer CType
of_specifiers all answer =
    and_then answer (λ last env. Gives (with_quals (quals_of_words (qualifier_words all)) last.type) env)
