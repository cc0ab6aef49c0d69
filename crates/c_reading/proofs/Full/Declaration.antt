-- The spelling of a well-formed declaration or static assertion is read as it.
use Rattle.std.proofs.Common.{◌≡◌, ◌⊎◌, inl, inr, ℕ, ℤ, zero, suc, max, ◌≤◌, ◌<◌, List, [], ◌∷◌, ◌++◌, map, Bool}
use Rattle.std.proofs.Common.{true, false, ◌||◌, is_some, Option, Some, None, refl, sym, ◌∙◌, ap, subst, arith}
use Rattle.std.proofs.Common.{append_assoc}
use Rattle.critical_table.specs.declared.pos.Pos.{Pos}
use Rattle.c_lexer.specs.declared.punct.Punct.TheVariants as p
use Rattle.c_lexer.specs.declared.token.Token.{Token}
use Rattle.c_lexer.specs.declared.token.Body.{Body}
use Rattle.c_lexer.specs.declared.token.Body.TheVariants as lexeme
use Rattle.c_lexer.specs.declared.word.Word.TheVariants as w
use Rattle.c_reading.specs.declared.declarator_form.DeclaratorForm.TheVariants as form
use Rattle.c_syntax.specs.declared.operator.Infix.TheVariants as between
use Rattle.c_syntax.specs.Levels.{assignment, conditional}
use Rattle.c_syntax.specs.Height.{declarator_height}
use Rattle.c_syntax.specs.HeightUnit.{init_height, init_declarators_height, declaration_height, assert_height}
use Rattle.c_reading.specs.Parser.{Outcome, Found, Stopped, Parser, and_then, pure, next_body, place, tail, ones}
use Rattle.c_reading.specs.Parser.{has_ending, more_listed, comma_list, ◌>>=◌}
use Rattle.c_reading.specs.ReadBody.{init_by, init_on, init_declarator, init_declarator_adds, more_declarators}
use Rattle.c_reading.specs.ReadBody.{declared_on, declaration_by, declaration_on, declaration_at, message_by, message}
use Rattle.c_reading.specs.ReadBody.{assert_on, assert_at, declaration_lower}
use Rattle.c_reading.specs.ReadExpr.{piece_by, piece, pieces}
use Rattle.c_reading.specs.ReadSpecifier.{parsers}
use Rattle.c_reading.specs.ReadToken.{is_mark, is_literal, qualifier_of}
use Rattle.c_reading.specs.ReadDeclarator.{begins_declarator}
use Rattle.c_syntax.specs.Scopes.{Scope, names_types, own_name, declared_if, specifiers_add, declarator_adds}
use Rattle.c_syntax.specs.ScopesUnit.{init_adds}
use Rattle.c_syntax.specs.Spelling.{spell, spell_specifiers, spell_declarator}
use Rattle.c_syntax.specs.SpellingUnit.{spell_initializer, spell_init, spell_init_declarator, spell_declaration}
use Rattle.c_syntax.specs.SpellingUnit.{spell_assert}
use Rattle.c_syntax.specs.Tokens.{bare, mark, word_at, commas, spell_pieces}
use Rattle.c_syntax.specs.Tree.{Expr, Specifiers, Declarator, Omitted}
use Rattle.c_syntax.specs.TreeUnit.{Initializer, InitDeclarator, Declaration, Assert}
use Rattle.c_syntax.specs.WellFormed.{DeclaresName, HasToken, IsDeclarator}
use Rattle.c_syntax.specs.WellFormedUnit.{IsInit, AreInitDeclarators, IsDeclaration, IsAssert}
use Rattle.c_reading.proofs.Full.Steps.{front, tail_shorter, then_read, peek_at, deeper_again, expect_again, Each}
use Rattle.c_reading.proofs.Full.Steps.{many_again, Behind, listed_again, behind_commas, behind_seen}
use Rattle.c_reading.proofs.Full.DeclaratorEnds.{declarator_begins, opening, opening_no_mark}
use Rattle.c_reading.proofs.Full.Ends.{ends_closed, ends_infix}
use Rattle.c_reading.proofs.Full.Law.{EndsExpr, EndsDeclarator, ends_specifiers}
use Rattle.c_reading.proofs.Full.Declarator.{parsers_full}
use Rattle.c_reading.proofs.Full.Initializer.{initializers_full}
use Rattle.c_syntax.proofs.HeightLaws.{expr_high}
use Rattle.c_reading.proofs.Takes.{Takes, takes_parted}

-- ---- what follows a declarator

-- the test of what ends a declarator
abbrev pub ends_declarator : Option Body → Bool
ends_declarator o = begins_declarator form.Parameter o || is_some (qualifier_of o)

-- a comma or the semicolon
abbrev Separates : List Token → Type 0
Separates tokens = (next_body tokens ≡ Some (lexeme.Mark p.Comma)) ⊎ (next_body tokens ≡ Some (lexeme.Mark p.Semicolon))

separates_behind : (parts : List _) (tokens rest : List Token) → next_body rest ≡ Some (lexeme.Mark p.Semicolon)
    → Takes tokens (behind_commas parts) rest → Separates tokens
separates_behind parts tokens rest close all = elim (behind_seen parts tokens rest all) [
  | inl e ↦ inl e
  | inr e ↦ inr (ap next_body e ∙ close)
]

separates_test : (A : Type 0) (test : Option Body → A) (a : A) (tokens : List Token)
    → test (Some (lexeme.Mark p.Comma)) ≡ a → test (Some (lexeme.Mark p.Semicolon)) ≡ a → Separates tokens
    → test (next_body tokens) ≡ a
separates_test A test a tokens comma semicolon (inl e) = ap test e ∙ comma
separates_test A test a tokens comma semicolon (inr e) = ap test e ∙ semicolon

separates_expr : (tokens : List Token) → Separates tokens → EndsExpr assignment tokens
separates_expr tokens (inl e) = ends_infix assignment tokens between.Comma e (omega arith)
separates_expr tokens (inr e) = ends_closed assignment tokens p.Semicolon e (λ k low left. refl) refl refl

-- the declarator ends before its initializer
ends_init : (init : Option Initializer) (tokens rest : List Token) → Separates rest
    → Takes tokens (spell_init init) rest → EndsDeclarator tokens
ends_init None tokens rest close all = ap (λ ts. ends_declarator (next_body ts)) all
    ∙ separates_test Bool ends_declarator false rest refl refl close
ends_init (Some one) tokens rest close all =
    ap ends_declarator (front tokens rest (mark p.Assign ∷ spell_initializer one) all).0

no_body : (init : Option Initializer) (tokens rest : List Token) → Separates rest
    → Takes tokens (spell_init init) rest → is_mark p.OpenBrace (next_body tokens) ≡ false
no_body None tokens rest close all = ap (λ ts. is_mark p.OpenBrace (next_body ts)) all
    ∙ separates_test Bool (is_mark p.OpenBrace) false rest refl refl close
no_body (Some one) tokens rest close all =
    ap (is_mark p.OpenBrace) (front tokens rest (mark p.Assign ∷ spell_initializer one) all).0

pub named_token : (one : Declarator) → DeclaresName one → HasToken one
named_token Omitted declares = absurd (cc (declares))
named_token one declares = tt

-- a scope with what a declarator and its initializer add
adds_again : (scope a b c : Scope) → scope ++ a ++ b ++ c ≡ scope ++ (a ++ b ++ c)
adds_again scope a b c = append_assoc (scope ++ a) b c ∙ append_assoc scope a (b ++ c)
    ∙ ap (λ more. scope ++ more) (sym (append_assoc a b c))

-- what stands behind the first of a list is read alone
more_of : {A : Type 0} (g : Outcome (List (Option A))) (first : A) (more : List A) (has : Bool) (rest : List Token)
    → and_then {B = List A × Bool} g (λ others. pure (first ∷ ones others, has_ending others))
    ≡ Found (first ∷ more, has) rest
    → (others : List (Option A)) × (g ≡ Found others rest) × (ones others ≡ more)
more_of {A} (Found others mid) first more has rest e =
    let read : List A × Bool = (first ∷ ones others, has_ending others) in
    let known : List A × Bool = (first ∷ more, has) in
    let both : read ≡ known = cc (e) in
    let list = ap (λ (pair : List A × Bool). pair.0) both in
    (others, ap (λ ts. Found others ts) (cc (e)), cc (list))
more_of (Stopped why mid) first more has rest e = absurd (cc (e))

module _ {S A : Type 0} (is_comma : Option Body → Bool) (ends : Option Body
    → Bool) (ending : Parser (Unit {0})) (one : S → Parser A) (next : S → A → S) where
  more_again : (first : A) (more : List A) (has : Bool) (s : S) (tokens mid rest : List Token)
      → one s tokens ≡ Found first mid → Behind is_comma ends ending one next more has (next s first) mid rest
      → (others : List (Option A))
      × (more_listed is_comma ends ending one next (next s first) mid ≡ Found others rest) × (ones others ≡ more)
  unfolding comma_list
  more_again first more has s tokens mid rest e behind =
      let behind_first : A → Parser (List A × Bool) =
      λ first. more_listed is_comma ends ending one next (next s first)
      >>= λ others. pure (first ∷ ones others, has_ending others) in
      let list = listed_again is_comma ends ending one next first more has s tokens mid rest e behind in
      more_of (more_listed is_comma ends ending one next (next s first) mid) first more has rest
      (ap (λ g. and_then g behind_first) (sym e) ∙ list)

module _ (k : ℕ) (names_type : Bool) where
  init_again : (scope : Scope) (one : Declarator) (init : Option Initializer) (tokens rest : List Token)
      → IsInit init (scope ++ declarator_adds one ++ declared_if names_type (own_name one)) → init_height init ≤ k
      → Separates rest → Takes tokens (spell_init init) rest
      → init_on k names_type scope one tokens ≡ Found (record { declarator = one; initializer = init }) rest
  unfolding init_on
  init_again scope one None tokens rest is high close all =
      let none = ap (λ ts. is_mark p.Assign (next_body ts)) all
      ∙ separates_test Bool (is_mark p.Assign) false rest refl refl close in
      ap (λ b. init_by k (scope ++ declarator_adds one ++ declared_if names_type (own_name one)) one b tokens) none
      ∙ ap (λ ts. Found (record { declarator = one; initializer = None }) ts) all
  init_again scope one (Some value) tokens rest is high close all =
      let behind = scope ++ declarator_adds one ++ declared_if names_type (own_name one) in
      let f = front tokens rest (mark p.Assign ∷ spell_initializer value) all in
      ap (λ b. init_by k behind one b tokens) (ap (is_mark p.Assign) f.0)
      ∙ then_read _ _ value rest _ ((initializers_full k).initializer behind value (tail tokens) rest is high
      (separates_expr rest close) f.2) refl

  -- a declarator is read, and then its initializer
  record One (scope : Scope) (one : InitDeclarator) (tokens rest : List Token) : Type 0 where
    mid : List Token
    reads : (parsers k).declarator form.Named scope tokens ≡ Found one.declarator mid
    inits : init_on k names_type scope one.declarator mid ≡ Found one rest
    no_brace : is_mark p.OpenBrace (next_body mid) ≡ false
    specifies : ends_specifiers (next_body tokens) ≡ true
    no_semicolon : is_mark p.Semicolon (next_body tokens) ≡ false

  one_again : (scope : Scope) (one : InitDeclarator) (tokens rest : List Token) → IsDeclarator one.declarator scope
      → DeclaresName one.declarator
      → IsInit one.initializer (scope ++ declarator_adds one.declarator
      ++ declared_if names_type (own_name one.declarator))
      → max (declarator_height one.declarator) (init_height one.initializer) ≤ k → Separates rest
      → Takes tokens (spell_init_declarator one) rest → One scope one tokens rest
  one_again scope one tokens rest is declares fits high close all =
      let x = takes_parted tokens rest (spell_declarator one.declarator) (spell_init one.initializer) all in
      let has = named_token one.declarator declares in
      record {
        mid = x.mid;
        reads = (parsers_full k).declarator form.Named scope one.declarator tokens x.mid is declares (omega arith)
            (ends_init one.initializer x.mid rest close x.two) x.one;
        inits = init_again scope one.declarator one.initializer x.mid rest fits (omega arith) close x.two;
        no_brace = no_body one.initializer x.mid rest close x.two;
        specifies = (declarator_begins form.Named scope one.declarator tokens x.mid has declares x.one).1;
        no_semicolon =
            opening_no_mark p.Semicolon one.declarator (next_body tokens) refl refl refl
            (opening one.declarator tokens x.mid has x.one);
      }

  read_one : (scope : Scope) (one : InitDeclarator) (tokens rest : List Token) → One scope one tokens rest
      → init_declarator k names_type scope tokens ≡ Found one rest
  unfolding init_declarator
  read_one scope one tokens rest x = then_read _ _ one.declarator x.mid _ x.reads x.inits

  -- the scope behind it
  next_scope : (scope : Scope) (one : InitDeclarator) (more : List InitDeclarator)
      → AreInitDeclarators names_type more (scope ++ declarator_adds one.declarator
      ++ declared_if names_type (own_name one.declarator) ++ init_adds one.initializer)
      → AreInitDeclarators names_type more (scope ++ init_declarator_adds k names_type one)
  next_scope scope one more are =
      subst (AreInitDeclarators names_type more)
      (adds_again scope (declarator_adds one.declarator) (declared_if names_type (own_name one.declarator))
      (init_adds one.initializer)) are

  behind_again : (all : List InitDeclarator) (scope : Scope) (tokens rest : List Token)
      → AreInitDeclarators names_type all scope → init_declarators_height all ≤ k
      → next_body rest ≡ Some (lexeme.Mark p.Semicolon)
      → Takes tokens (behind_commas (map spell_init_declarator all)) rest
      → Behind (is_mark p.Comma) (λ o. false) (pure tt) (init_declarator k names_type)
      (λ s one. s ++ init_declarator_adds k names_type one) all false scope tokens rest
  behind_again [] scope tokens rest are high close all = (all, ap (is_mark p.Comma) close)
  behind_again (first ∷ more) scope tokens rest are high close all =
      let both = takes_parted tokens rest (mark p.Comma ∷ spell_init_declarator first)
      (behind_commas (map spell_init_declarator more)) all in
      let f = front tokens both.mid (mark p.Comma ∷ spell_init_declarator first) both.one in
      let x = one_again scope first (tail tokens) both.mid are.0 are.1 are.2 (omega arith)
      (separates_behind (map spell_init_declarator more) both.mid rest close both.two) f.2 in (
        both.mid,
        ap (is_mark p.Comma) f.0,
        refl,
        read_one scope first (tail tokens) both.mid x,
        f.3,
        behind_again more (scope ++ init_declarator_adds k names_type first) both.mid rest
            (next_scope scope first more are.3) (omega arith) close both.two,
      )

-- ---- declarations

module _ (k : ℕ) (all : Specifiers) where
  -- behind the specifiers the first declarator is read, and then what is behind it
  pub record First (scope : Scope) (first : InitDeclarator) (more : List InitDeclarator) (tokens rest : List Token)
      : Type 0 where
    pub mid : List Token
    pub reads : (parsers k).declarator form.Named scope tokens ≡ Found first.declarator mid
    pub declares : declared_on k scope all first.declarator mid
        ≡ Found (record { specifiers = all; declarators = first ∷ more }) rest
    pub no_brace : is_mark p.OpenBrace (next_body mid) ≡ false
    pub specifies : ends_specifiers (next_body tokens) ≡ true
    pub no_semicolon : is_mark p.Semicolon (next_body tokens) ≡ false

  first_again : (scope : Scope) (first : InitDeclarator) (more : List InitDeclarator) (tokens end : List Token)
      → AreInitDeclarators (names_types all) (first ∷ more) scope → init_declarators_height (first ∷ more) ≤ k
      → next_body end ≡ Some (lexeme.Mark p.Semicolon)
      → Takes tokens (commas (map spell_init_declarator (first ∷ more))) end → First scope first more tokens (tail end)
  unfolding declared_on more_declarators
  first_again scope first more tokens end are high close takes =
      let names_type = names_types all in
      let behind = scope ++ init_declarator_adds k names_type first in
      let both = takes_parted tokens end (spell_init_declarator first)
      (behind_commas (map spell_init_declarator more)) takes in
      let x = one_again k names_type scope first tokens both.mid are.0 are.1 are.2 (omega arith)
      (separates_behind (map spell_init_declarator more) both.mid end close both.two) both.one in
      let reads = read_one k names_type scope first tokens both.mid x in
      let others = more_again (is_mark p.Comma) (λ o. false) (pure tt) (init_declarator k names_type)
      (λ s one. s ++ init_declarator_adds k names_type one) first more false scope tokens both.mid end reads
      (behind_again k names_type more behind both.mid end (next_scope k names_type scope first more are.3)
      (omega arith) close both.two) in
      record {
        mid = x.mid;
        reads = x.reads;
        declares = then_read _ _ first both.mid _ x.inits (then_read _ _ others.0 end _ others.1
            (expect_again (is_mark p.Semicolon) _ end _ _ refl close
            (ap (λ more. Found (record { specifiers = all; declarators = first ∷ more }) (tail end)) others.2)));
        no_brace = x.no_brace;
        specifies = x.specifies;
        no_semicolon = x.no_semicolon;
      }

  -- what follows the specifiers
  abbrev pub Follows : List InitDeclarator → Scope → List Token → List Token → Type 0
  Follows [] scope tokens rest = (next_body tokens ≡ Some (lexeme.Mark p.Semicolon)) × (tail tokens ≡ rest)
  Follows (first ∷ more) scope tokens rest = First scope first more tokens rest

  follows : (list : List InitDeclarator) (scope : Scope) (tokens end : List Token)
      → AreInitDeclarators (names_types all) list scope → init_declarators_height list ≤ k
      → next_body end ≡ Some (lexeme.Mark p.Semicolon)
      → Takes tokens (commas (map spell_init_declarator list)) end → (ends_specifiers (next_body tokens) ≡ true)
      × Follows list scope tokens (tail end)
  follows [] scope tokens end are high close takes = (
    ap (λ ts. ends_specifiers (next_body ts)) takes ∙ ap ends_specifiers close,
    (ap next_body takes ∙ close, ap tail takes),
  )
  follows (first ∷ more) scope tokens end are high close takes = let x =
      first_again scope first more tokens end are high close takes in (x.specifies, x)

  -- the specifiers are read, and then what follows
  pub record Specified (list : List InitDeclarator) (scope : Scope) (tokens rest : List Token) : Type 0 where
    pub mid : List Token
    pub reads : (parsers k).specifiers scope tokens ≡ Found all mid
    pub behind : Follows list (scope ++ specifiers_add all) mid rest

  pub specified : (list : List InitDeclarator) (scope : Scope) (tokens rest : List Token)
      → IsDeclaration (record { specifiers = all; declarators = list }) scope
      → declaration_height (record { specifiers = all; declarators = list }) ≤ suc k
      → Takes tokens (spell_declaration (record { specifiers = all; declarators = list })) rest
      → Specified list scope tokens rest
  specified list scope tokens rest is high takes =
      let close = takes_parted tokens rest (spell_specifiers all ++ commas (map spell_init_declarator list))
      (mark p.Semicolon ∷ []) takes in
      let both = takes_parted tokens close.mid (spell_specifiers all) (commas (map spell_init_declarator list))
      close.one in
      let g = front close.mid rest (mark p.Semicolon ∷ []) close.two in
      let f = follows list (scope ++ specifiers_add all) both.mid close.mid is.2 (omega arith) g.0 both.two in
      record {
        mid = both.mid;
        reads = (parsers_full k).specifiers scope all tokens both.mid is.0 is.1 (omega arith) f.0 both.one;
        behind = subst (λ ts. Follows list (scope ++ specifiers_add all) both.mid ts) g.2 f.1;
      }

  on_again : (list : List InitDeclarator) (scope : Scope) (tokens rest : List Token)
      → Follows list (scope ++ specifiers_add all) tokens rest → declaration_on k scope all tokens
      ≡ Found (record { specifiers = all; declarators = list }) rest
  unfolding declaration_on
  on_again [] scope tokens rest x =
      ap (λ o. declaration_by k (scope ++ specifiers_add all) all (is_mark p.Semicolon o) tokens) x.0
      ∙ ap (λ ts. Found (record { specifiers = all; declarators = [] }) ts) x.1
  on_again (first ∷ more) scope tokens rest x =
      ap (λ b. declaration_by k (scope ++ specifiers_add all) all b tokens) x.no_semicolon
      ∙ then_read _ _ first.declarator x.mid _ x.reads x.declares

pub declaration_full : (k : ℕ) (scope : Scope) (one : Declaration) (tokens rest : List Token)
    → IsDeclaration one scope → declaration_height one ≤ suc k → Takes tokens (spell_declaration one) rest
    → declaration_at k scope tokens ≡ Found one rest
unfolding declaration_at
declaration_full k scope one tokens rest fits low_height all =
    let x = specified k one.specifiers one.declarators scope tokens rest fits low_height all in
    then_read _ _ one.specifiers x.mid _ x.reads (on_again k one.specifiers one.declarators scope x.mid rest x.behind)

-- a declaration has some height
pub lower_full : (k : ℕ) (scope : Scope) (one : Declaration) (tokens rest : List Token) → IsDeclaration one scope
    → declaration_height one ≤ k → Takes tokens (spell_declaration one) rest
    → declaration_lower k scope tokens ≡ Found one rest
lower_full zero scope one tokens rest fits low_height all = absurd (omega arith)
lower_full (suc k) scope one tokens rest fits low_height all =
    declaration_full k scope one tokens rest fits low_height all

-- ---- static assertions

each_piece : (wide : Bool) (all : List (List ℤ)) (tokens rest : List Token)
    → is_literal wide (next_body rest) ≡ false → Takes tokens (map (λ more. bare (lexeme.Literal more wide)) all) rest
    → Each (λ s o. is_literal wide o) (λ (s : Bool). piece) (λ s units. s) all wide tokens rest
unfolding piece
each_piece wide [] tokens rest ends all = (all, ends)
each_piece wide (units ∷ more) tokens rest ends all =
    let f = front tokens rest (map (λ more. bare (lexeme.Literal more wide)) (units ∷ more)) all in (
      tail tokens,
      ap (is_literal wide) f.0 ∙ own wide,
      peek_at piece_by tokens _ _ f.0 refl,
      tail_shorter tokens _ f.0,
      each_piece wide more (tail tokens) rest ends f.2,
    )
  where
    own : (wide : Bool) → is_literal wide (Some (lexeme.Literal units wide)) ≡ true
    own true = refl
    own false = refl

message_again : (k : ℕ) (pos : Pos) (test : Expr) (wide : Bool) (all : List (List ℤ)) (tokens mid rest : List Token)
    → (all ≡ [] → ⊥) → Takes tokens (spell_pieces None wide all) mid
    → Takes mid (mark p.CloseParen ∷ mark p.Semicolon ∷ []) rest
    → message k pos test tokens
    ≡ Found (record { pos = pos; condition = test; message = record { pieces = all; wide = wide } }) rest
unfolding message pieces
message_again k pos test wide [] tokens mid rest some all close = absurd (some refl)
message_again k pos test wide (units ∷ more) tokens mid rest some all close =
    let f = front tokens mid (spell_pieces None wide (units ∷ more)) all in
    let g = front mid rest (mark p.CloseParen ∷ mark p.Semicolon ∷ []) close in
    let h = front (tail mid) rest (mark p.Semicolon ∷ []) g.2 in
    peek_at (message_by k pos test) tokens _ _ f.0
    (then_read _ _ more mid _
    (many_again _ _ _ more wide (tail tokens) mid (each_piece wide more (tail tokens) mid (ends wide g.0) f.2))
    (expect_again (is_mark p.CloseParen) _ mid _ _ refl g.0
    (expect_again (is_mark p.Semicolon) _ (tail mid) _ _ refl h.0
    (ap (λ ts. Found (record {
      pos = pos;
      condition = test;
      message =
          record { pieces = units ∷ more; wide = wide };
    }) ts) h.2))))
  where
    ends : (wide : Bool) → next_body mid ≡ Some (lexeme.Mark p.CloseParen) → is_literal wide (next_body mid) ≡ false
    ends true e = ap (is_literal true) e
    ends false e = ap (is_literal false) e

pub assert_full : (k : ℕ) (scope : Scope) (one : Assert) (tokens rest : List Token) → IsAssert one scope
    → assert_height one ≤ suc k → Takes tokens (spell_assert one) rest
    → assert_at k scope tokens ≡ Found one rest
unfolding assert_at assert_on
assert_full k scope one tokens rest fits low_height all =
    let closed = mark p.CloseParen ∷ mark p.Semicolon ∷ [] in
    let behind = mark p.Comma ∷ spell_pieces None one.message.wide one.message.pieces in
    let test = word_at one.pos w.StaticAssert ∷ mark p.OpenParen ∷ spell one.condition in
    let close = takes_parted tokens rest (test ++ behind) closed all in
    let both = takes_parted tokens close.mid test behind close.one in
    let f = front tokens both.mid test both.one in
    let g = front (tail tokens) both.mid (mark p.OpenParen ∷ spell one.condition) f.2 in
    let h = front both.mid close.mid behind both.two in
    let some : 0 < k = let h = expr_high one.condition in omega arith in
    let reads = (parsers_full k).expr scope conditional one.condition (tail (tail tokens)) both.mid (omega arith)
    fits.0 (omega arith) (ends_infix conditional both.mid between.Comma h.0 (omega arith)) g.2 in
    deeper_again k _ tokens _ some
    (expect_again (is_mark p.OpenParen) _ (tail tokens) _ _ refl g.0
    (then_read _ _ one.condition both.mid _ reads
    (expect_again (is_mark p.Comma) _ both.mid _ _ refl h.0
    (message_again k (place tokens) one.condition one.message.wide one.message.pieces (tail both.mid) close.mid rest
    fits.1 h.2 close.two
    ∙ ap (λ pos. Found (record { pos = pos; condition = one.condition; message = one.message }) rest) f.1))))
