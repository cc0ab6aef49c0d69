-- From the parameters and what the function gives to its type.
use Rattle.c_predeclared.proofs.Parts.{function_made}
use Rattle.c_predeclared.proofs.prototypes.prototype_type.Goals as goal

pub returns : goal.returns
returns c = function_made c.args.parameters.now c.args.gives c.in_ok-parameters.ensures c.in_ok-gives.ensures
    c.deref.ensures.value c.in_ok-function.ensures.made
