-- What a call did, as the answer of its row.
use Rattle.std.proofs.Common.{◌≡◌, ℕ, false, List, [], refl, sym, subst, ◌∙◌}
use Rattle.critical_table.specs.declared.ended.Ended.TheVariants.{WriteFault}
use Rattle.object_store.specs.Storage.{Storage}
use Rattle.lib_defs.specs.declared.handler.Handler.{Handler}
use Rattle.lib_defs.specs.declared.step.LibStep.{LibStep}
use Rattle.lib_defs.specs.declared.step.LibStep.TheVariants.{End}
use Rattle.lib_defs.specs.World.{Input, World, Reply}
use Rattle.lib_defs.specs.StreamRows.{get_reply}
use Rattle.lib_defs.specs.Answers.{Sight, IsWritten, IsBegun, Answers, world_of, is_write_fault}
use Rattle.guest_io.specs.Streams.{Adds, Cuts, IsStepOf, Writes, Gets}
use Rattle.guest_io.proofs.Adding.{nothing_more, adds_written, cuts_begun}

-- A reply that changes nothing but what is written, which is these bytes.
pub record Prints (r : World → Reply) (s : Storage) (answer : LibStep) (printed told : List ℕ) : Type 0 where
  pub step : (w : World) → w.store ≡ s → IsStepOf (r w) w answer
  pub input : (w : World) → w.store ≡ s → (r w).streams.input ≡ w.streams.input
  pub writes : (w : World) → w.store ≡ s → Writes (r w) w printed told

pub written_answers : (r : World → Reply) (old new : Sight) (s : Storage) (h : Handler) (answer : LibStep)
    (printed told : List ℕ)
    → is_write_fault answer ≡ false
    → ((input : Input) → new.comes input → old.comes input)
    → Adds old.output new.output printed → Adds old.err new.err told → Prints r s answer printed told
    → Answers r old new s s h h answer
written_answers r old new s h answer printed told quiet comes output err is = λ now may. (
  now,
  comes now may,
  λ earlier texts are.
      let w = world_of s h now texts in
      let step = is.step w refl in
      let writes = is.writes w refl in
      rw quiet (record {
        step = step.step;
        store = sym step.store;
        handler = sym step.handler;
        input = sym (is.input w refl);
        output = subst (λ (l : List ℕ). IsWritten new.output earlier.output l) (sym writes.output)
            (adds_written old.output new.output printed earlier.output texts.output output are.output);
        err = subst (λ (l : List ℕ). IsWritten new.err earlier.err l) (sym writes.err)
            (adds_written old.err new.err told earlier.err texts.err err are.err);
      }),
)

pub cut_answers : (r : World → Reply) (old new : Sight) (s : Storage) (h : Handler) (printed told : List ℕ)
    → ((input : Input) → new.comes input → old.comes input)
    → Cuts old.output new.output printed → Cuts old.err new.err told
    → ((w : World) → w.store ≡ s → Writes (r w) w printed told)
    → Answers r old new s s h h (End WriteFault)
cut_answers r old new s h printed told comes output err is = λ now may. (
  now,
  comes now may,
  λ earlier texts are.
      let w = world_of s h now texts in
      let writes = is w refl in
      record {
        store = refl;
        handler = refl;
        output = subst (λ (l : List ℕ). IsBegun new.output earlier.output l) (sym writes.output)
            (cuts_begun old.output new.output printed earlier.output texts.output output are.output);
        err = subst (λ (l : List ℕ). IsBegun new.err earlier.err l) (sym writes.err)
            (cuts_begun old.err new.err told earlier.err texts.err err are.err);
      },
)

abbrev pub gets : World → Reply
gets w = get_reply w w.streams.input.bytes w.streams.input.ending

pub got_answers : (old new : Sight) (s : Storage) (h : Handler) (answer : LibStep)
    → is_write_fault answer ≡ false → Gets old.comes new.comes answer
    → Adds old.output new.output [] → Adds old.err new.err []
    → Answers gets old new s s h h answer
got_answers old new s h answer quiet got output err = λ now may.
    let before = got now may in (
      before.0,
      before.1,
      λ earlier texts are.
          let w = world_of s h before.0 texts in
          let is = before.2 w refl in
          rw quiet (record {
            step = is.step.step;
            store = sym is.step.store;
            handler = sym is.step.handler;
            input = sym is.input;
            output = subst (λ (l : List ℕ). IsWritten new.output earlier.output l)
                (nothing_more texts.output ∙ sym is.output)
                (adds_written old.output new.output [] earlier.output texts.output output are.output);
            err = subst (λ (l : List ℕ). IsWritten new.err earlier.err l) (nothing_more texts.err ∙ sym is.err)
                (adds_written old.err new.err [] earlier.err texts.err err are.err);
          }),
    )
