-- Automatic objects are a stack, so the tests of deaths and marks never matter.
use Rattle.std.proofs.Common.{◌≡◌, ◌∙◌, ℕ, List, [], ◌∷◌, ◌++◌, map, refl, sym, subst, reverse, Option}
use Rattle.std.proofs.Common.{Some, None, true}
use Rattle.object_store.specs.declared.pointer.Pointer.{Pointer}
use Rattle.lib_defs.specs.declared.value.Value.{Value}
use Rattle.lib_defs.specs.declared.row.Row.{Row}
use Rattle.lib_defs.specs.declared.value.Arg.{Arg}
use Rattle.lib_defs.specs.Reply.{Patch, Change, with_made}
use Rattle.lib_defs.specs.Laws.{IfMade, IfReleased, AreReached, DoneFits, IsWorld, KeepsLaws}
use Rattle.object_store.specs.declared.class.Class.TheVariants.{Allocated}
use Rattle.object_store.specs.Storage.{Storage, is_live}
use Rattle.run_defs.specs.Kept.{outlines}
use Rattle.run_defs.specs.Served.{row_made}
use Rattle.run_defs.proofs.RowLines.{all_reached, outlines-patched}
use Rattle.c_core.specs.declared.static_object.Seal.{Seal as StaticSeal}
use Rattle.code_gen.specs.StaticContents.{seal_of}
use Rattle.code_gen.specs.Meaning.{static_object}
use Rattle.code_gen.proofs.LawfulRuns.{static_long}
use Rattle.code_gen.proofs.LivingOn.{static_lies, lives_with_more, lives_as_outlined}
use Rattle.code_gen.proofs.LivingCalls.{made_rests}
use Rattle.lib_defs.specs.Library.{Library}
use Rattle.run_defs.specs.State.{State, patched, all_patched}
use Rattle.run_defs.specs.Evaluation.{Evaluation, Gives, Stops}
use Rattle.c_core.specs.Named.{names_in_block}
use Rattle.c_core.specs.TreeUnit.{Program}
use Rattle.c_core.specs.TypedUnit.{SealsTyped, DefinitionsTyped, tokens_of, static_tokens}
use Rattle.vm_code.specs.Slots.{Held, numbers}
use Rattle.code_gen.specs.Blocks.{parameters_sealed}
use Rattle.code_gen.specs.Evaluating.{Yield}
use Rattle.code_gen.specs.Calls.{enter_below}
use Rattle.code_gen.specs.Lifetimes.{OnGives, Rests, Grows, AllLive}
use Rattle.code_gen.specs.Lifetimes.{MarksLie, its_call, ObjectsNest, TestsNeverMatter, ObjectsAreHeld}
use Rattle.code_gen.specs.Lifetimes.{AutomaticObjectsAreAStack, OthersLive, SealsWithin, IfLives}
use Rattle.code_gen.proofs.LivingSteps.{HeldOnTop, rests_on, gives_from}
use Rattle.code_gen.proofs.LivingParts.{full_dies}
use Rattle.code_gen.proofs.LivingExpressions.{CallRests, value_grows}
use Rattle.code_gen.proofs.LivingStatements.{held_die, locals_live, statement_rests, items_rest}
use Rattle.code_gen.proofs.LivingFunctions.{seals_rest, calls_rest, enters_rest}
use Rattle.code_gen.proofs.LivingHeld.{holds_on, block_holds, parameters_hold, mark_lies, marks_lie}

pub are_held : ObjectsAreHeld
are_held = record {
  function = λ functions statics f t args here s w. parameters_hold f.parameters t.parameters args here s w;
  block = λ slots names locals fresh held s w holds.
      block_holds slots locals names.objects fresh [] held s w holds;
  rests = holds_on;
  mark = mark_lies;
}

any_gives : {A : Type 0} (x : Evaluation A) → OnGives (λ v s. Unit {0}) x
any_gives (Gives v s) = tt
any_gives (Stops outcome s) = tt

with_made_lives : (size : Option ℕ) (store : Storage) (number : ℕ) → is_live store number ≡ true
    → is_live (with_made size store) number ≡ true
with_made_lives None store number lives = lives
with_made_lives (Some size) store number lives = lives_with_more store number size Allocated lives

patches_outlines : (ps : List Patch) (s : State) → AreReached s.world.store ps
    → outlines (all_patched ps s).world.store.objects ≡ outlines s.world.store.objects
patches_outlines [] s each = refl
patches_outlines (p ∷ ps) s each =
    let one : outlines (patched p s).world.store.objects ≡ outlines s.world.store.objects =
    outlines-patched s p.place p.bytes each.0 in
    patches_outlines ps (patched p s) (all_reached s.world.store (patched p s).world.store one ps each.1) ∙ one

module _ (library : Library) (laws : KeepsLaws library) (program : Program)
    (typed : DefinitionsTyped (tokens_of program.functions) (static_tokens program.statics) program.functions)
    (n : ℕ) where
  call_rests : CallRests (its_call library program n)
  call_rests = calls_rest library laws program typed (enter_below n library program)
      (enters_rest library laws program typed n)

  nests : ObjectsNest library program n
  nests = record {
    call = call_rests;
    expression = λ names core t held made s w.
        value_grows program (its_call library program n) call_rests held names core t made s w;
    statement = λ result names flow st t held s w.
        statement_rests program (its_call library program n) call_rests result names flow st t held s w;
  }

  tests : TestsNeverMatter library program n
  tests = record {
    full_expression = λ names core t held s w. gives_from (λ (x : Yield) s1. Grows [] x.made s s1)
        (λ (x : Yield) s1. (s2 : State) → Rests s1 s2 → AllLive x.made s2) _ (nests.expression names core t held [] s w)
        (λ x s1 g s2 r. (full_dies x s s1 s2 g r).lives);
    block = λ result names flow locals items fresh t at held s w.
        gives_from (λ (made : List Held) s1. HeldOnTop [] made s s1) _ _
        (locals_live flow.slots locals names.objects fresh [] s w) (λ made s1 h.
        gives_from (λ f s2. Rests s1 s2) (λ f s2. AllLive (numbers made) s2) _
        (items_rest program (its_call library program n) call_rests result (names_in_block locals names) flow items t at
        (made ++ held) s1 h.world)
        (λ f s2 r. (held_die made s s1 s2 h r).lives));
    function = λ functions statics f t args result here s w.
        gives_from (λ (held : List Held) s1. HeldOnTop [] held s s1 × MarksLie f.parameters (reverse held) s1) _ _
        (marks_lie f.parameters t.parameters args here s w) (λ held s1 h.
        let marked : State = parameters_sealed f.parameters (reverse held) s1 in
        let r : Rests s1 marked = seals_rest f.parameters (reverse held) s1 h.0.world in (
          h.1,
          gives_from (λ flow s2. Rests marked s2) (λ flow s2. AllLive (numbers held) s2) _
              (statement_rests program (its_call library program n) call_rests result _ _ f.body t.body held marked
              r.world)
              (λ flow s2 b. (held_die held s s1 s2 h.0 (rests_on s1 marked s2 r b)).lives),
        ));
  }

seals_within : (size : ℕ) (seals : List StaticSeal) → SealsTyped size seals → SealsWithin size (map seal_of seals)
seals_within size [] t = tt
seals_within size (seal ∷ seals) t = (t.1, seals_within size seals t.2)

release_lives : (row : Row) (args : List Arg) (s : State) (change : Change) (set : Option Pointer) (answer : Value)
    → DoneFits row args s.world change set answer → IsWorld s.world → (size released : Option ℕ)
    → IfMade s.world.store size answer → IfReleased s.world.store args released
    → AreReached (with_made size s.world.store) change.stores
    → OnGives (λ u s1. IfLives released (all_patched change.stores s1)) (row_made size s)
release_lives row args s change set answer fits w size None made released reached =
    gives_from (λ (u : Unit {0}) s1. Unit {0}) _ (row_made size s) (any_gives (row_made size s)) (λ u s1 x. tt)
release_lives row args s change set answer fits w size (Some number) made released reached =
    gives_from (λ (u : Unit {0}) s1. Rests s s1 × (s1.world.store ≡ with_made size s.world.store)) _ (row_made size s)
    (made_rests size answer s made w) (λ u s1 r. lives_as_outlined s1.world.store
    (all_patched change.stores s1).world.store number
    (patches_outlines change.stores s1 (subst (λ store. AreReached store change.stores) (sym r.1) reached))
    (subst (λ store. is_live store number ≡ true) (sym r.1) (with_made_lives size s.world.store number released.live)))

others : OthersLive
others = record {
  static = λ program functions statics static t s. static_lies (static_object program static)
      (subst (λ n. SealsWithin n (map seal_of static.seals)) (sym (static_long program functions statics static t))
      (seals_within static.size static.seals t.seals)) s;
  release = λ row args s change set answer fits w. release_lives row args s change set answer fits w change.made
      change.released fits.made fits.released fits.reached;
}

pub are_a_stack : AutomaticObjectsAreAStack
are_a_stack = (
  are_held,
  others,
  λ library laws program typed. record {
    nest = λ n. nests library laws program typed.functions n;
    tests = λ n. tests library laws program typed.functions n;
  },
)
