-- A name that is held is selected from its first byte.
use Rattle.std.proofs.Common.{◌∙◌, ap, sym}
use Rattle.acc_io.specs.Views.{Selection}
use Rattle.acc_io.proofs.SelectionLemmas.{Selects-left_of}
use Rattle.acc_io.proofs.held_files.HeldFiles.select.Goals as goal

pub returns-clause-found : goal.returns-clause-found
returns-clause-found c = λ yes.
    let found = c.first_of-self-inside.ensures.found in
    Selects-left_of c.self.inside.files.items c.args.self.now.held c.args.name.now c.first_of-self-inside.result
    (ap (λ (it : Selection). it.held.files) c.self.view_is)
    (rw c.as_slice.ensures.value at found)
    (sym c.is_some.ensures ∙ yes)
