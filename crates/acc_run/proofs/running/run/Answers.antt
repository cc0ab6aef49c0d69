-- Where nothing can fail, what is due is written, and there is room left.
use Rattle.std.proofs.Common.{◌≡◌, ℕ, List, ◌+◌, [], inl, inr, length, sym, ap, subst, arith}
use Rattle.std.specs.Prelude.{◌⊎◌}
use Rattle.std.proofs.lemmas.Bool.{false≢true}
use Rattle.acc_run.proofs.running.run.Goals as goal

-- room for what is due is room for what is written: all of it, or nothing
room_for : (has_room : ℕ → Type 0) (due written : List ℕ) (more : ℕ) {P Q : Type 0} → (P × (written ≡ due))
    ⊎ (Q × (written ≡ [])) → has_room (length due + more) →
    (left : ℕ) × has_room (length written + left)
room_for has_room due written more (inl all) room =
    (more, subst (λ bytes. has_room (length bytes + more)) (sym all.1) room)
room_for has_room due written more (inr none) room =
    let empty : length written ≡ 0 = ap length none.1 in
    let same : length due + more ≡ length written + (length due + more) = omega arith in
    (length due + more, subst has_room same room)

pub returns-in-Ok-clause-complete : goal.returns-in-Ok-clause-complete
returns-in-Ok-clause-complete g c outcome more due sound room =
    let found = c.due_of_file-due.ensures.complete outcome due sound in
    let left = room_for (g.O.Sink.has_room c.args.out.now) outcome.output c.due_of_file-due.result.output.items more
    found room in (
      elim found [ inl same ↦ inl same.0 | inr memory ↦ inr memory.0 ],
      (left.0, (c.write_all.ensures.room left.0 (rw c.deref.ensures.value left.1)).1),
    )

pub returns-clause-complete : goal.returns-clause-complete
returns-clause-complete g c outcome more due sound room =
    let found = c.due_of_file-due.ensures.complete outcome due sound in
    let left = room_for (g.O.Sink.has_room c.args.out.now) outcome.output c.due_of_file-due.result.output.items more
    found room in
    absurd (false≢true (c.in-Err.ensures.room left.0 (rw c.deref.ensures.value left.1)).0)
