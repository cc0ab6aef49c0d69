-- The loops that read one after another: what they give.
use Rattle.std.proofs.Common.{◌≡◌, ◌<◌, ◌++◌, Bool, true, false, List, [], ◌∷◌, length, Option, None, sym, ◌∙◌, ap}
use Rattle.c_lexer.specs.declared.token.Token.{Token}
use Rattle.c_lexer.specs.declared.token.Body.{Body}
use Rattle.c_parser.specs.declared.fault.Fault.{Fault}
use Rattle.c_parser.specs.Agree.{Refuses}
use Rattle.c_reading.specs.Parser.{Outcome, Found, Parser, and_then, pure, next_body, many}
use Rattle.c_reading.proofs.Online.Steps.{Online, TakesOne}
use Rattle.c_parser.proofs.Refused.{refused}
use Rattle.c_parser.proofs.Turns.{all_over, all_refused, all_turn, all_shorter}

-- a parser of all, by the parser of one
pub record Runs {S A : Type 0} (all : S → Parser (List A)) (goes : S → Option Body → Bool) (step : S
    → Parser A) (next : S → A → S) : Type 0 where
  pub is : (s : S) (tokens : List Token) → all s tokens ≡ many goes step next s tokens
  pub on : (s : S) → Online (step s)
  pub ends : (s : S) → goes s None ≡ false
  pub takes : (s : S) → TakesOne (step s)

-- of which these were found before
module _ {S A : Type 0} {all : S → Parser (List A)} {goes : S → Option Body → Bool} {step : S → Parser A} {next : S
    → A → S} (by : Runs all goes step next)
    {whole : Outcome (List A)} (found : List A) (s : S) (rest : List Token) (reads : whole
    ≡ and_then (all s rest) (λ more. pure (found ++ more))) where
  before : whole ≡ and_then (many goes step next s rest) (λ more. pure (found ++ more))
  before = reads ∙ ap (λ g. and_then g (λ more. pure (found ++ more))) (by.is s rest)

  pub run_over : goes s (next_body rest) ≡ false → whole ≡ Found found rest
  run_over over = all_over goes step next by.on by.ends by.takes whole found s rest before over

  module _ (more : goes s (next_body rest) ≡ true) where
    pub run_stopped : (fault : Fault) → Refuses (step s rest) fault → Refuses whole fault
    run_stopped fault h =
        refused whole (step s rest) fault
        (λ why after e. all_refused goes step next by.on by.ends by.takes whole found s rest before after why
        more e) h

    pub run_shorter : {one : A} {past : List Token} → step s rest ≡ Found one past → length past < length rest
    run_shorter {one} {past} e =
        all_shorter goes step next by.on by.ends by.takes whole found s rest before past one more e

    pub run_on : {one : A} {past : List Token} {longer : List A} {after : S} → step s rest ≡ Found one past
        → longer ≡ found ++ one ∷ [] → after ≡ next s one
        → whole ≡ and_then (all after past) (λ more. pure (longer ++ more))
    run_on {one} {past} {longer} {after} e pushes then =
        all_turn goes step next by.on by.ends by.takes whole found s rest before past one longer after pushes
        then more e
        ∙ ap (λ g. and_then g (λ more. pure (longer ++ more))) (sym (by.is after past))
