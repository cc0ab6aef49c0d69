-- A type without qualifiers is its own unqualified version.
use Rattle.std.proofs.Common.{◌≡◌, ap, subst, sym, ◌∙◌}
use Rattle.std.specs.Prelude.{true}
use Rattle.c_types.specs.declared.shape.Quals.{Quals}
use Rattle.c_types.specs.CType.{CType, quals_of, no_quals, type_of}
use Rattle.c_types.specs.Compatible.{same_quals}
use Rattle.c_types.specs.Making.{MakesType}
use Rattle.c_types.proofs.Kept.{makes_own}
use Rattle.c_types.proofs.Composing.{adds-none}
use Rattle.c_types.proofs.Qualifying.{without-none}
use Rattle.c_types.proofs.table.TypeTable.unqualified.Goals as goal

pub returns-then-same_quals-clause-made : goal.returns-then-same_quals-clause-made
returns-then-same_quals-clause-made c =
    let now = c.args.self.now in
    let none : same_quals (quals_of (type_of now c.args.id)) no_quals ≡ true =
    ap (λ (q : Quals). same_quals q no_quals) (sym c.quals.ensures) ∙ sym c.same_quals.ensures
    ∙ c.if-same_quals.true in
    subst (λ (t : CType). MakesType now now c.args.id t) (sym (without-none (type_of now c.args.id) none))
    (makes_own now c.args.id c.requires)

pub returns-then-same_quals-clause-more : goal.returns-then-same_quals-clause-more
returns-then-same_quals-clause-more c = adds-none _
