-- No instruction fails as long as ways agree exactly where none fails at all.
use Rattle.std.proofs.Common.{◌≡◌, ◌≢◌, ◌⊎◌, inl, inr, ◌↔◌, ℕ, zero, suc, true, [], Contains}
use Rattle.std.proofs.Common.{Some, None, refl, sym, ap, subst, if◌then◌else◌, eq-eqb}
use Rattle.vm_code.specs.declared.instr.Instr.{Instr}
use Rattle.vm_code.specs.declared.parts.CodeFunction.{CodeFunction}
use Rattle.vm_code.specs.Contents.{Contents}
use Rattle.vm_code.specs.OperandKinds.{Kinds, kinds_after}
use Rattle.vm_code.specs.Sound.{is_place, next_places}
use Rattle.vm_code.specs.Ways.{Slots, Step, Way, parameter_slots, slots_after, stretch_of}
use Rattle.vm_code.specs.Valid.{StandsAt, Comes, Fails}
use Rattle.vm_code.specs.Valid as plain
use Rattle.vm_code.specs.Passing.{passing, IsKnown}
use Rattle.vm_code.specs.FirstFault.{AgreeingWay, Agrees, FailsFirst}
use Rattle.vm_code.specs.FirstFault as first
use Rattle.vm_code.proofs.KindsAlike.{kinds_alike}
use Rattle.vm_code.proofs.Passes.{From, one_passed, one_known, onward, start_known}

module _ (code : Contents) (f : CodeFunction) where
  known_start : IsKnown code f f.start []
  known_start = record {
    passed = 0;
    is = ap (λ b. if b then Some [] else None) (eq-eqb f.start f.start refl);
  }

  -- ---- what is known comes by a way that agrees

  comes_with : (n at : ℕ) (kinds : Kinds) → (passing code f n).kinds at ≡ Some kinds
      → (slots : Slots) × (steps : ℕ) × AgreeingWay code f steps at kinds slots
  comes_with zero at kinds is =
      let start : (at ≡ f.start) × (kinds ≡ []) = start_known code f at kinds is in
      (parameter_slots 0 f.parameters, 0, (start.0, start.1, refl))
  comes_with (suc n) at kinds is = elim ((one_passed code f n).fresh at kinds is) [
    | inl before ↦ comes_with n at kinds before
    | inr new ↦
        let from : From code f (passing code f n).kinds at kinds = new.0 in
        let there : (slots : Slots) × (steps : ℕ) × AgreeingWay code f steps from.at from.kinds slots =
        comes_with n from.at from.kinds from.is in (
          slots_after from.instr there.0,
          suc there.1,
          (
            from.at,
            from.kinds,
            there.0,
            there.2,
            record {
              instr = from.instr;
              pos = from.here;
              stands = from.stands;
              operands = from.behind;
              objects = refl;
              next = from.led;
              within = from.within;
            },
            record { passed = suc n; is = is },
          ),
        )
  ]

  -- an agreeing way is a way
  way_of : (n at : ℕ) (kinds : Kinds) (slots : Slots) → AgreeingWay code f n at kinds slots
      → Way code f n at kinds slots
  way_of zero at kinds slots way = way
  way_of (suc n) at kinds slots way =
      (way.0, way.1, way.2, way_of n way.0 way.1 way.2 way.3, way.4)

  comes_of : (at : ℕ) (slots : Slots) → (a : Agrees code f at slots) → Comes code f at a.kinds slots
  comes_of at slots a = record { steps = a.steps; way = way_of a.steps at a.kinds slots a.way }

  comes_known : (at : ℕ) (kinds : Kinds) → IsKnown code f at kinds → (slots : Slots) × Comes code f at kinds slots
  comes_known at kinds known =
      let there : (slots : Slots) × (steps : ℕ) × AgreeingWay code f steps at kinds slots =
      comes_with known.passed at kinds known.is in
      (there.0, record { steps = there.1; way = way_of there.1 at kinds there.0 there.2 })

  -- the kinds of an agreeing way are known
  known_on : (n at : ℕ) (kinds : Kinds) (slots : Slots) → AgreeingWay code f n at kinds slots → IsKnown code f at kinds
  known_on zero at kinds slots way =
      let P : ℕ → Type 0 = λ t. IsKnown code f t kinds in
      let Q : Kinds → Type 0 = λ k. IsKnown code f f.start k in
      subst P (sym way.0) (subst Q (sym way.1) known_start)
  known_on (suc n) at kinds slots way = way.5

  -- ---- where no other kinds come to an instruction, each way agrees

  abbrev pub NoneDiffer : Type 0
  NoneDiffer = (from at : ℕ) (kinds left others : Kinds) (instr : Instr) → IsKnown code f from kinds
      → StandsAt code from instr → kinds_after code f.form instr kinds ≡ Some left
      → Contains (next_places code from instr) at → is_place code (stretch_of code f) at ≡ true
      → IsKnown code f at others → others ≢ left → ⊥

  joins : (at : ℕ) (left others : Kinds) → IsKnown code f at others → (others ≡ left) ⊎ (others ≢ left)
      → (others ≢ left → ⊥) → IsKnown code f at left
  joins at left others known (inl same) none = let P : Kinds → Type 0 = λ k. IsKnown code f at k in subst P same known
  joins at left others known (inr differ) none = absurd (none differ)

  agrees : NoneDiffer → (n at : ℕ) (kinds : Kinds) (slots : Slots) → Way code f n at kinds slots
      → AgreeingWay code f n at kinds slots
  agrees none zero at kinds slots way = way
  agrees none (suc n) at kinds slots way =
      let before : AgreeingWay code f n way.0 way.1 way.2 = agrees none n way.0 way.1 way.2 way.3 in
      let known : IsKnown code f way.0 way.1 = known_on n way.0 way.1 way.2 before in
      let s : Step code f way.0 way.1 way.2 at kinds slots = way.4 in
      let there : (others : Kinds) × IsKnown code f at others =
      onward code f way.0 way.1 kinds s.instr s.pos at known s.stands s.operands s.next s.within in (
        way.0,
        way.1,
        way.2,
        before,
        s,
        joins at kinds there.0 there.1 (kinds_alike there.0 kinds)
            (λ differ. none way.0 at way.1 kinds there.0 s.instr known (s.pos, s.stands) s.operands s.next s.within
            there.1 differ),
      )

  agrees_at : NoneDiffer → (at : ℕ) (kinds : Kinds) (slots : Slots) → Comes code f at kinds slots
      → Agrees code f at slots
  agrees_at none at kinds slots comes =
      record { steps = comes.steps; kinds = kinds; way = agrees none comes.steps at kinds slots comes.way }

  known_at_way : NoneDiffer → (at : ℕ) (kinds : Kinds) (slots : Slots) → Comes code f at kinds slots
      → IsKnown code f at kinds
  known_at_way none at kinds slots comes =
      known_on comes.steps at kinds slots (agrees none comes.steps at kinds slots comes.way)

module _ (code : Contents) where
  none_differ_first : ((at : ℕ) → FailsFirst code at → ⊥) → (f : CodeFunction) → Contains code.functions f
      → NoneDiffer code f
  none_differ_first none f is from at kinds left others instr known stands behind led within there differ =
      none at (first.KindsDiffer f from kinds left others instr is known stands behind led within there differ)

  none_differ : ((at : ℕ) → Fails code at → ⊥) → (f : CodeFunction) → Contains code.functions f → NoneDiffer code f
  none_differ none f is from at kinds left others instr known stands behind led within there differ =
      let before : (slots : Slots) × Comes code f from kinds slots = comes_known code f from kinds known in
      let here : (slots : Slots) × Comes code f at others slots = comes_known code f at others there in
      let on : Comes code f at left (slots_after instr before.0) = record {
        steps = suc before.1.steps;
        way = (
          from,
          kinds,
          before.0,
          before.1.way,
          record {
            instr = instr;
            pos = stands.0;
            stands = stands.1;
            operands = behind;
            objects = refl;
            next = led;
            within = within;
          },
        );
      } in
      none at (plain.KindsDiffer f others left here.0 (slots_after instr before.0) is here.1 on differ)

  none_first : ((at : ℕ) → Fails code at → ⊥) → (at : ℕ) → FailsFirst code at → ⊥
  none_first none at (first.IsUnsound stretch instr is from to stands unsound) =
      none at (plain.IsUnsound stretch instr is from to stands unsound)
  none_first none at (first.CannotStart f is start unsound) = none at (plain.CannotStart f is start unsound)
  none_first none at (first.LacksOperand f kinds instr is known stands lacks) =
      let comes : (slots : Slots) × Comes code f at kinds slots = comes_known code f at kinds known in
      none at (plain.LacksOperand f kinds comes.0 instr is comes.1 stands lacks)
  none_first none at (first.KindsDiffer f from kinds left others instr is known stands behind led within there differ) =
      none_differ none f is from at kinds left others instr known stands behind led within there differ
  none_first none at (first.LacksObject f slots instr is a stands lacks) =
      none at (plain.LacksObject f a.kinds slots instr is (comes_of code f at slots a) stands lacks)
  none_first none at (first.SizesDiffer f slots more slot from len is a b stands differ) =
      none at (plain.SizesDiffer f a.kinds b.kinds slots more slot from len is (comes_of code f at slots a)
      (comes_of code f at more b) stands differ)
  none_first none at (first.KillsNothing f slots slot is a stands nothing) =
      none at (plain.KillsNothing f a.kinds slots slot is (comes_of code f at slots a) stands
      (λ others more comes. nothing more (agrees_at code f (none_differ none f is) at others more comes)))

  none_plain : ((at : ℕ) → FailsFirst code at → ⊥) → (at : ℕ) → Fails code at → ⊥
  none_plain none at (plain.IsUnsound stretch instr is from to stands unsound) =
      none at (first.IsUnsound stretch instr is from to stands unsound)
  none_plain none at (plain.CannotStart f is start unsound) = none at (first.CannotStart f is start unsound)
  none_plain none at (plain.LacksOperand f kinds slots instr is comes stands lacks) =
      none at (first.LacksOperand f kinds instr is
      (known_at_way code f (none_differ_first none f is) at kinds slots comes) stands lacks)
  none_plain none at (plain.LacksObject f kinds slots instr is comes stands lacks) =
      none at (first.LacksObject f slots instr is
      (agrees_at code f (none_differ_first none f is) at kinds slots comes) stands lacks)
  none_plain none at (plain.KindsDiffer f kinds others slots more is comes others_come differ) =
      differ (one_known code f at kinds others
      (known_at_way code f (none_differ_first none f is) at kinds slots comes)
      (known_at_way code f (none_differ_first none f is) at others more others_come))
  none_plain none at (plain.SizesDiffer f kinds others slots more slot from len is comes others_come stands differ) =
      none at (first.SizesDiffer f slots more slot from len is
      (agrees_at code f (none_differ_first none f is) at kinds slots comes)
      (agrees_at code f (none_differ_first none f is) at others more others_come) stands differ)
  none_plain none at (plain.KillsNothing f kinds slots slot is comes stands nothing) =
      none at (first.KillsNothing f slots slot is
      (agrees_at code f (none_differ_first none f is) at kinds slots comes) stands
      (λ more a. nothing a.kinds more (comes_of code f at more a)))

pub faults_are_there : (code : Contents) → ((at : ℕ) → FailsFirst code at → ⊥) ↔ ((at : ℕ) → Fails code at → ⊥)
faults_are_there code = (none_plain code, none_first code)
