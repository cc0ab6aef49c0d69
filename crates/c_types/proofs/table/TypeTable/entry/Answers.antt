-- What is kept for a type.
use Rattle.std.proofs.Common.{◌≡◌, ◌≤◌, ap, subst, sym, ◌∙◌}
use Rattle.std.proofs.lemmas.List.{get_or_read}
use Rattle.c_types.specs.declared.parts.Made.{Made}
use Rattle.c_types.specs.Types.{Types}
use Rattle.c_types.specs.CType.{type_of}
use Rattle.c_types.specs.Structures.{structures_of}
use Rattle.c_types.specs.PartCount.{part_count, most_parts}
use Rattle.c_types.specs.Inner.{types_of, KeepsLayout}
use Rattle.c_types.specs.Shapes.{ShowsType, entry_at, no_entry}
use Rattle.c_types.proofs.Showing.{shows}
use Rattle.c_types.proofs.table.TypeTable.entry.Goals as goal

pub returns : goal.returns
returns c =
    let old = types_of c.self.inside in
    let id = c.args.id in
    let m = c.index.result.now in
    let below = rw (← c.self.view_is) at c.requires in
    let read : m ≡ entry_at old id.0 = get_or_read c.self.inside.made.items _ _ below c.index.ensures no_entry in
    record {
      entry = read ∙ ap (λ (t : Types). entry_at t id.0) c.self.view_is;
      shows = subst (λ (t : Types). ShowsType t id m.shape) c.self.view_is
          (subst (λ (e : Made). ShowsType old id e.shape) (sym read)
          (shows old id below (c.self.invariant.refers _ below)));
      layout = subst (λ (t : Types). KeepsLayout m.shape m.layout (type_of t id) (structures_of t)) c.self.view_is
          (subst (λ (e : Made). KeepsLayout e.shape e.layout (type_of old id) (structures_of old)) (sym read)
          (c.self.invariant.layouts id below));
      parts = ap (λ (e : Made). e.parts) read ∙ (c.self.invariant.parts id below).count
          ∙ ap (λ (t : Types). part_count (type_of t id)) c.self.view_is;
      bound = subst (λ (e : Made). e.parts ≤ most_parts) (sym read) (c.self.invariant.parts id below).bound;
    }
