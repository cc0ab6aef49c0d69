-- What an answer of the program says of one parser says of another.
use Rattle.std.proofs.Common.{◌≡◌, List}
use Rattle.c_lexer.specs.declared.token.Token.{Token}
use Rattle.c_parser.specs.Agree.{Refuses}
use Rattle.c_reading.specs.Parser.{Outcome, Stopped, Why, Unfit, TooDeep}
use Rattle.c_parser.specs.declared.fault.Fault.{Fault}
use Rattle.c_parser.specs.declared.fault.Fault.TheVariants as fault

-- where the other stops, this one does
pub refused : {X Y : Type 0} (got : Outcome X) (other : Outcome Y) (e : Fault)
    → ((why : Why) (rest : List Token) → other ≡ Stopped why rest → got ≡ Stopped why rest) → Refuses other e
    → Refuses got e
refused got other (fault.Unfit rest) stops h = stops Unfit rest.now h
refused got other (fault.TooDeep rest) stops h = stops TooDeep rest.now h
refused got other (fault.Memory cause) stops h = tt
