-- The loops over lists with a comma between each two: what they keep, and what they give.
use Rattle.std.proofs.Common.{◌≡◌, ℕ, ◌≤◌, ◌<◌, max, ◌++◌, Bool, true, false, List, [], ◌∷◌, map, length, Option}
use Rattle.std.proofs.Common.{refl, sym, ◌∙◌, ap}
use Rattle.c_lexer.specs.declared.punct.Punct.TheVariants as p
use Rattle.c_lexer.specs.declared.token.Token.{Token}
use Rattle.c_lexer.specs.declared.token.Body.{Body}
use Rattle.c_parser.specs.declared.fault.Fault.{Fault}
use Rattle.c_reading.specs.declared.declarator_form.DeclaratorForm.TheVariants as form
use Rattle.c_parser.specs.Agree.{Refuses}
use Rattle.c_syntax.specs.Levels.{assignment}
use Rattle.c_reading.specs.Parser.{Found, Parser, and_then, pure, skip, next_body, tail, comma_list}
use Rattle.c_reading.specs.ReadDeclarator.{listed_declarators, listed_parameters}
use Rattle.c_reading.specs.ReadExpr.{listed_arguments}
use Rattle.c_reading.specs.ReadSpecifier.{parsers, enumerator, listed_enumerators}
use Rattle.c_reading.specs.ReadToken.{is_mark}
use Rattle.c_syntax.specs.Scopes.{Scope, expr_adds, declarator_adds, parameter_adds, enumerator_adds}
use Rattle.c_reading.proofs.Online.All.{parsers_online, parsers_take}
use Rattle.c_reading.proofs.Online.Specifier.{enumerator_online}
use Rattle.c_reading.proofs.Online.Steps.{Online, online_pure, online_skip}
use Rattle.c_parser.proofs.Pushed.{Row, pushed, row_height, row_scope}
use Rattle.c_parser.proofs.Refused.{refused}
use Rattle.c_parser.proofs.Turns.{list_refused, list_last, list_ended, list_turn, mark_shorter}

-- ---- the parsers

-- a parser of lists, by what may end them and by the parser of one
pub record Lists {A : Type 0} (lists : Scope → Parser (List A × Bool)) (ends : Option Body
    → Bool) (ending : Parser (Unit {0})) (one : Scope → Parser A) (adds : A → Scope) : Type 0 where
  pub is : (s : Scope) (tokens : List Token)
      → lists s tokens ≡ comma_list (is_mark p.Comma) ends ending one (λ s a. s ++ adds a) s tokens
  pub ending_on : Online ending
  pub on : (s : Scope) → Online (one s)

pub arguments_listed : (k : ℕ)
    → Lists (listed_arguments k (parsers k)) (λ o. false) (pure tt) (λ s. (parsers k).expr s assignment) expr_adds
unfolding listed_arguments
arguments_listed k =
    record { is = λ s tokens. refl; ending_on = online_pure tt; on = λ s. (parsers_online k).expr s assignment }

pub declarators_listed : (k : ℕ)
    → Lists (listed_declarators k (parsers k)) (λ o. false) (pure tt) ((parsers k).declarator form.Named)
    declarator_adds
unfolding listed_declarators
declarators_listed k =
    record { is = λ s tokens. refl; ending_on = online_pure tt; on = (parsers_online k).declarator form.Named }

pub parameters_listed : (k : ℕ)
    → Lists (listed_parameters k (parsers k)) (is_mark p.Ellipsis) (skip (pure tt)) (parsers k).parameter parameter_adds
unfolding listed_parameters
parameters_listed k = record {
  is = λ s tokens. refl;
  ending_on = online_skip _ (online_pure tt);
  on =
      (parsers_online k).parameter;
}

pub enumerators_listed : (k : ℕ)
    → Lists (listed_enumerators k (parsers k)) (is_mark p.CloseBrace) (pure tt) (enumerator k (parsers k))
    enumerator_adds
unfolding listed_enumerators
enumerators_listed k =
    record {
      is = λ s tokens. refl;
      ending_on = online_pure tt;
      on =
          enumerator_online k (parsers k) (parsers_online k) (parsers_take k).member;
    }

-- ---- the loops

-- the loop has come to these nodes, as high as this, in this scope before these tokens
pub record Listing {N A : Type 0} (lists : Scope → Parser (List A × Bool)) (view : N → A) (high : List N
    → ℕ) (adds : List N → Scope) (k : ℕ) (start : Scope) (tokens : List Token)
    (all : List N) (tall : ℕ) (behind : Scope) (rest : List Token) : Type 0 where
  pub reads : lists start tokens
      ≡ and_then (lists behind rest) (λ more. pure {A = List A × Bool} (map view all ++ more.0, more.1))
  pub height : (tall ≡ high all) × (tall ≤ k)
  pub scope : behind ≡ start ++ adds all

module _ {N A : Type 0} {lists : Scope → Parser (List A × Bool)} {ends : Option Body
    → Bool} {ending : Parser (Unit {0})} {one : Scope → Parser A} {one_adds : A → Scope}
    {view : N → A} {high : List N → ℕ} {adds : List N → Scope} {k : ℕ} {start : Scope} {tokens : List Token}
    {all : List N} {tall : ℕ} {behind : Scope} {rest : List Token}
    (by : Lists lists ends ending one one_adds)
    (now : Listing lists view high adds k start tokens all tall behind rest) where
  before : lists start tokens
      ≡ and_then (comma_list (is_mark p.Comma) ends ending one (λ s a. s ++ one_adds a) behind rest)
      (λ more. pure {A = List A × Bool} (map view all ++ more.0, more.1))
  before = now.reads
      ∙ ap (λ g. and_then g (λ more. pure {A = List A × Bool} (map view all ++ more.0, more.1))) (by.is behind rest)

  pub listing_stopped : (fault : Fault) → Refuses (one behind rest) fault → Refuses (lists start tokens) fault
  listing_stopped fault h =
      refused _ (one behind rest) fault (λ why after e. list_refused _ ends ending one _ refl by.ending_on by.on _
      (map view all) behind rest before after why e) h

  module _ {node : N} {more : List N} {mid : List Token} (pushes : more ≡ all ++ node ∷ []) (reads : one behind rest
      ≡ Found (view node) mid) where
    pub listing_last : is_mark p.Comma (next_body mid) ≡ false → lists start tokens ≡ Found (map view more, false) mid
    listing_last last =
        list_last _ ends ending one _ refl by.ending_on by.on _ (map view all) behind rest before mid (view node)
        (map view more) (pushed view all node more pushes) reads last

    module _ {past : List Token} (comma : is_mark p.Comma (next_body mid) ≡ true) (passed : past ≡ tail mid) where
      pub listing_ended : {after : List Token} → ends (next_body past) ≡ true → ending past ≡ Found tt after
          → lists start tokens ≡ Found (map view more, true) after
      listing_ended {after} over ended =
          list_ended _ ends ending one _ refl by.ending_on by.on _ (map view all) behind rest before mid after
          (view node) (map view more) (pushed view all node more pushes) reads comma
          (ap (λ ts. ends (next_body ts)) (sym passed) ∙ over) (ap ending (sym passed) ∙ ended)

      pub listing_shorter : length past < length rest
      listing_shorter = mark_shorter (one behind) (by.on behind) p.Comma rest mid past (view node) reads comma passed

      pub listing_on : {one_high : A → ℕ} {one_tall taller : ℕ} {after : Scope}
          → Row view one_high one_adds high adds → ends (next_body past) ≡ false
          → taller ≡ max tall one_tall → (one_tall ≡ one_high (view node)) × (one_tall ≤ k)
          → after ≡ behind ++ one_adds (view node)
          → Listing lists view high adds k start tokens more taller after past
      listing_on {one_high} {one_tall} {taller} {after} row another grows one_height scope = record {
        reads = list_turn _ ends ending one _ refl by.ending_on by.on _ (map view all) behind rest before mid past
            (view node) (map view more) after (pushed view all node more pushes) scope passed reads comma
            (ap (λ ts. ends (next_body ts)) (sym passed) ∙ another)
            ∙ ap (λ g. and_then g (λ rest. pure {A = List A × Bool} (map view more ++ rest.0, rest.1)))
            (sym (by.is after past));
        height = row_height row pushes now.height grows one_height;
        scope = row_scope row all node start pushes now.scope scope;
      }
