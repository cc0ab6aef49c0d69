-- The first token of expressions and of declaration specifiers, by which they are told apart.
use Rattle.std.specs.Prelude.{◌≡◌, Bool, true, false, List, [], ◌∷◌}
use Rattle.c_lexer.specs.declared.token.Body.{Body}
use Rattle.c_lexer.specs.declared.token.Body.TheVariants as lexeme
use Rattle.c_lexer.specs.declared.word.Word.{Word}
use Rattle.c_lexer.specs.declared.word.Word.TheVariants as w
use Rattle.c_syntax.specs.declared.spelled.Spelled.{Spelled}
use Rattle.c_syntax.specs.Scopes.{Scope, is_type}

-- the words that begin a declaration specifier (6.7.1 to 6.7.4)
abbrev pub is_specifier_word : Word → Bool
is_specifier_word w.Typedef = true
is_specifier_word w.Extern = true
is_specifier_word w.Static = true
is_specifier_word w.Auto = true
is_specifier_word w.Register = true
is_specifier_word w.Const = true
is_specifier_word w.Restrict = true
is_specifier_word w.Volatile = true
is_specifier_word w.Inline = true
is_specifier_word w.Void = true
is_specifier_word w.Char = true
is_specifier_word w.Short = true
is_specifier_word w.Int = true
is_specifier_word w.Long = true
is_specifier_word w.Signed = true
is_specifier_word w.Unsigned = true
is_specifier_word w.Bool = true
is_specifier_word w.Struct = true
is_specifier_word w.Union = true
is_specifier_word w.Enum = true
is_specifier_word _ = false

-- the token begins a declaration specifier where this is the scope
abbrev pub begins_specifier : Scope → Body → Bool
begins_specifier scope (lexeme.Word word) = is_specifier_word word
begins_specifier scope (lexeme.Name x) = is_type scope x
begins_specifier scope _ = false

-- there is a first token, and it begins a declaration specifier or, as is asked, none
abbrev pub IsFirst : Bool → Scope → List Spelled → Type 0
IsFirst begins scope [] = ⊥
IsFirst begins scope (first ∷ rest) = begins_specifier scope first.body ≡ begins
