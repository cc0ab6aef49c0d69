-- What a function of the program ensures: it gives what a parser gives, unless memory runs out.
use Rattle.std.specs.Prelude.{◌≡◌, List, Result, Ok, Err}
use denote.Ref.{Bor}
use Rattle.critical_table.specs.declared.refusal.Refusal.TheVariants.{Syntax, Deep}
use Rattle.c_lexer.specs.declared.token.Token.{Token}
use Rattle.c_lexer.specs.Stream.{Stream}
use Rattle.c_parser.specs.declared.fault.Fault.{Fault}
use Rattle.c_parser.specs.declared.fault.Fault.TheVariants as fault
use Rattle.c_parser.specs.declared.fault.SyntaxFault.{SyntaxFault}
use Rattle.c_parser.specs.declared.fault.SyntaxFault.TheVariants as syntax
use Rattle.c_syntax.specs.Parsing.{RefusedAt}
use Rattle.c_reading.specs.Parser.{Outcome, Found, Stopped, Unfit, TooDeep}

abbrev pub Refuses : {Y : Type 0} → Outcome Y → Fault → Type 0
Refuses got (fault.Unfit rest) = got ≡ Stopped Unfit rest.now
Refuses got (fault.TooDeep rest) = got ≡ Stopped TooDeep rest.now
Refuses got (fault.Memory _) = Unit {0}

-- the value by this view, and the rest
abbrev pub Gives : {X Y : Type 0} → (X → Y) → Outcome Y → Result (X × Bor (List Token)) Fault → Type 0
Gives view got (Ok x) = got ≡ Found (view x.0) x.1.now
Gives view got (Err e) = Refuses got e

-- no value but the rest
abbrev pub GivesRest : Outcome (Unit {0}) → Result (Bor (List Token)) Fault → Type 0
GivesRest got (Ok rest) = got ≡ Found tt rest.now
GivesRest got (Err e) = Refuses got e

-- why the unit is refused, and where, unless memory runs out
abbrev pub IsRefusal : Stream → SyntaxFault → Type 0
IsRefusal stream (syntax.Syntax pos) = RefusedAt stream Syntax pos
IsRefusal stream (syntax.Deep pos) = RefusedAt stream Deep pos
IsRefusal stream (syntax.Memory _) = Unit {0}
