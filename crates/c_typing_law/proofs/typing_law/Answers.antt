-- The law of typing.
use Rattle.c_typing_law.proofs.Binaries.{binary_typed, and_typed, or_typed}
use Rattle.c_typing_law.proofs.Called.{call_typed, pass_typed, further_typed}
use Rattle.c_typing_law.proofs.Chosen.{conditional_typed, comma_typed}
use Rattle.c_typing_law.proofs.Compared.{comparison_typed}
use Rattle.c_typing_law.proofs.Named.{primary_typed}
use Rattle.c_typing_law.proofs.Reached.{index_typed, dot_typed, arrow_typed}
use Rattle.c_typing_law.proofs.Stored.{assignment_rules_typed}
use Rattle.c_typing_law.proofs.Unaries.{unary_typed}
use Rattle.c_typing_law.proofs.Used.{uses_typed}
use Rattle.c_typing_law.proofs.typing_law.Goals as goal

pub returns : goal.returns
returns c = record {
  uses = uses_typed;
  primary = λ names structures formed. primary_typed names structures;
  postfix = λ names structures formed. record {
    index = index_typed names structures formed;
    dot = dot_typed names structures formed;
    arrow = arrow_typed names structures formed;
    call = call_typed names structures formed;
    pass = pass_typed names structures formed;
    further = further_typed names structures formed;
  };
  unary = unary_typed;
  binary = λ names structures formed. record {
    binary = binary_typed names structures formed;
    both = and_typed names structures formed;
    either = or_typed names structures formed;
    comparison = comparison_typed names structures formed;
    conditional = conditional_typed names structures formed;
    comma = comma_typed names structures formed;
  };
  assignment = assignment_rules_typed;
}
