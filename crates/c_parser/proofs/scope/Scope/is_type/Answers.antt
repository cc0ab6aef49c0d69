-- The goals of `is_type` that are answered by hand.
use Rattle.std.proofs.Common.{false, ◌∙◌, ap, sym}
use Rattle.std.specs.Option.{unwrap_or, option_copied}
use Rattle.c_parser.proofs.Kept.{kept_is_type}
use Rattle.c_parser.proofs.scope.Scope.is_type.Goals as goal

pub returns-in-None : goal.returns-in-None
returns-in-None c =
    let is = kept_is_type c.self.inside.entries.items c.self.inside.names c.args.name.now c.self.invariant in
    let found = sym c.get.ensures.value ∙ ap option_copied c.in-None.is in
    rw (← c.self.view_is) (sym (is ∙ ap (λ known. unwrap_or known false) found))

pub returns-in-Some : goal.returns-in-Some
returns-in-Some c =
    let is = kept_is_type c.self.inside.entries.items c.self.inside.names c.args.name.now c.self.invariant in
    let found = sym c.get.ensures.value ∙ ap option_copied c.in-Some.is in
    rw (← c.self.view_is) (sym (is ∙ ap (λ known. unwrap_or known false) found))
