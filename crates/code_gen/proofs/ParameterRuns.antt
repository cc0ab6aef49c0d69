-- Parameters: the machine makes and stores them as the meaning does, they stand in the first slots, and their marks are
-- set (6.9.1p9, 6.7.3p6).
use Rattle.std.proofs.Common.{◌≡◌, ◌∙◌, ℕ, suc, ◌+◌, ◌<◌, ◌≤◌, ◌==◌, Bool, true, false, List, [], ◌∷◌, ◌++◌, refl}
use Rattle.std.proofs.Common.{sym, ap, subst, arith, Some, map, length, reverse, drop, append_assoc}
use Rattle.std.proofs.Common.{eqb-true, le-leb, if◌then◌else◌}
use Rattle.std.proofs.Math.Path.{fun_ext}
use Rattle.std.proofs.lemmas.Bool.{eq-eqb, ne_eqb}
use Rattle.std.proofs.lemmas.List.{append-nil, length-append, reverse-append, reverse-reverse}
use Rattle.std.specs.Prelude.{nat_le}
use Rattle.critical_table.specs.declared.pos.Pos.{Pos}
use Rattle.object_store.specs.declared.mark.Mark.TheVariants.{Const}
use Rattle.object_store.specs.declared.pointer.Pointer.{Pointer}
use Rattle.lib_defs.specs.declared.value.Value.{Value}
use Rattle.run_defs.specs.State.{State, sealed}
use Rattle.run_defs.specs.Evaluation.{Evaluation, Gives, Stops, bind, automatic_made}
use Rattle.c_core.specs.declared.form.Content.{Content}
use Rattle.c_core.specs.declared.form.Content.TheVariants as content
use Rattle.c_core.specs.declared.form.Scalar.TheVariants as scalar
use Rattle.c_core.specs.declared.function.Range.{Range}
use Rattle.c_core.specs.Forms.{content_form}
use Rattle.c_core.specs.Named.{size_in}
use Rattle.c_core.specs.TreeUnit.{Parameter}
use Rattle.c_core.specs.Types.{content_size}
use Rattle.c_core.specs.TypedUnit.{parameter_objects, ParametersTyped, LieWithin}
use Rattle.vm_code.specs.declared.instr.Instr.{Instr}
use Rattle.vm_code.specs.declared.instr.Instr.TheVariants as i
use Rattle.vm_code.specs.Accesses.{content_stored}
use Rattle.vm_code.specs.Calling.{argument_stored}
use Rattle.vm_code.specs.Calling as machine
use Rattle.vm_code.specs.Frames.{Place}
use Rattle.vm_code.specs.Slots.{Held, held_in}
use Rattle.code_gen.specs.Blocks.{held_at, first_value, parameters_made, ranges_sealed, parameters_sealed}
use Rattle.code_gen.specs.ExpressionCode.{on}
use Rattle.code_gen.specs.RunLaw.{AreBelow, Comes, StandAt, Running, stands_at}
use Rattle.code_gen.specs.StatementRunLaw.{AreSizes}
use Rattle.code_gen.specs.UnitCode.{range_seals, parameter_seals, parameter_of}
use Rattle.code_gen.proofs.CompatibleForms.{AreTakenValues, some_is}
use Rattle.code_gen.proofs.ExpressionKinds.{if_bind}
use Rattle.code_gen.proofs.Going.{IfGives, comes_on, comes_same, one_step, stand_front, stand_back}
use Rattle.code_gen.proofs.Lengths.{on_long}
use Rattle.code_gen.proofs.PlainStatements.{on_both}
use Rattle.code_gen.proofs.PlainStretches as stretch

-- ---- the machine's parameters are those of the meaning

bind_same : {A B : Type 0} (x y : Evaluation A) (f g : A → State → Evaluation B) → x ≡ y
    → ((v : A) (s : State) → f v s ≡ g v s) → bind x f ≡ bind y g
bind_same x y f g same all =
    ap (λ z. bind z f) same ∙ ap (λ h. bind y h) (fun_ext (λ v. fun_ext (λ s. all v s)))

stored_same : (c : Content) (place : Pointer) (v : Value) (here : Pos) (s : State)
    → argument_stored (content_form c) (content_size c) place v here s ≡ content_stored c place v here s
stored_same (content.Scalar (scalar.Number kind)) place v here s = refl
stored_same (content.Scalar scalar.Pointer) place v here s = refl
stored_same (content.Whole size) place v here s = refl

pub parameters_same : (ps : List Parameter) (vs : List Value) → AreTakenValues ps vs → (slot : ℕ) (made : List Held)
    (here : Pos) (s : State)
    → machine.parameters_made slot (map parameter_of ps) vs made here s ≡ parameters_made ps slot vs made here s
parameters_same [] [] are slot made here s = refl
parameters_same [] (v ∷ vs) are slot made here s = absurd are
parameters_same (p ∷ ps) [] are slot made here s = absurd are
parameters_same (p ∷ ps) (v ∷ vs) are slot made here s =
    let size : ℕ = content_size p.content in
    let one : slot + 1 ≡ suc slot = omega arith in
    bind_same (automatic_made size s) (automatic_made size s) (λ place s1.
    bind (argument_stored (content_form p.content) size place v here s1) (λ u s2.
    machine.parameters_made (slot + 1) (map parameter_of ps) vs (held_at slot place size ∷ made) here s2)) (λ place s1.
    bind (content_stored p.content place v here s1) (λ u s2.
    parameters_made ps (suc slot) vs (held_at slot place size ∷ made) here s2)) refl (λ place s1.
    bind_same (argument_stored (content_form p.content) size place v here s1)
    (content_stored p.content place v here s1) (λ u s2.
    machine.parameters_made (slot + 1) (map parameter_of ps) vs (held_at slot place size ∷ made) here s2) (λ u s2.
    parameters_made ps (suc slot) vs (held_at slot place size ∷ made) here s2) (stored_same p.content place v here s1)
    (λ u s2. ap (λ k. machine.parameters_made k (map parameter_of ps) vs (held_at slot place size ∷ made) here s2) one
    ∙ parameters_same ps vs are.1 (suc slot) (held_at slot place size ∷ made) here s2))

-- ---- where they stand

-- objects for these parameters in slots from one on, in order
abbrev pub AreObjects : ℕ → List Parameter → List Held → Type 0
AreObjects slot [] [] = Unit {0}
AreObjects slot (p ∷ ps) (h ∷ hs) =
    (h.slot ≡ slot) × (h.size ≡ content_size p.content) × AreObjects (suc slot) ps hs
AreObjects slot ps hs = ⊥

-- the objects that are made for parameters, in order, behind others
pub record AreMadeFor (slot : ℕ) (ps : List Parameter) (made held : List Held) : Type 0 where
  pub objects : List Held
  pub is : held ≡ reverse objects ++ made
  pub are : AreObjects slot ps objects

turned : (x : Held) (xs ys : List Held) → reverse xs ++ x ∷ ys ≡ reverse (x ∷ xs) ++ ys
turned x xs ys = sym (ap (λ l. l ++ ys) (reverse-append (x ∷ []) xs) ∙ append_assoc (reverse xs) (x ∷ []) ys)

if_more : (slot : ℕ) (p : Parameter) (ps : List Parameter) (made : List Held) (h : Held) → h.slot ≡ slot
    → h.size ≡ content_size p.content → (x : Evaluation (List Held))
    → IfGives (AreMadeFor (suc slot) ps (h ∷ made)) x → IfGives (AreMadeFor slot (p ∷ ps) made) x
if_more slot p ps made h at size (Stops outcome s) m = tt
if_more slot p ps made h at size (Gives held s) m = record {
  objects = h ∷ m.objects;
  is = m.is ∙ turned h m.objects made;
  are = (at, size, m.are);
}

pub made_for : (ps : List Parameter) (slot : ℕ) (args : List Value) (made : List Held) (here : Pos) (s : State)
    → IfGives (AreMadeFor slot ps made) (parameters_made ps slot args made here s)
made_for [] slot args made here s = record { objects = []; is = refl; are = tt }
made_for (p ∷ ps) slot args made here s =
    let size : ℕ = content_size p.content in
    if_bind (AreMadeFor slot (p ∷ ps) made) (automatic_made size s) (λ place s1.
    bind (content_stored p.content place (first_value args) here s1) (λ u s2.
    parameters_made ps (suc slot) (drop 1 args) (held_at slot place size ∷ made) here s2)) (λ place s1.
    if_bind (AreMadeFor slot (p ∷ ps) made) (content_stored p.content place (first_value args) here s1)
    (λ u s2. parameters_made ps (suc slot) (drop 1 args) (held_at slot place size ∷ made) here s2) (λ u s2.
    if_more slot p ps made (held_at slot place size) refl refl
    (parameters_made ps (suc slot) (drop 1 args) (held_at slot place size ∷ made) here s2)
    (made_for ps (suc slot) (drop 1 args) (held_at slot place size ∷ made) here s2)))

-- objects in later slots are passed over
passed : (t slot : ℕ) (ps : List Parameter) (objects behind : List Held) → AreObjects slot ps objects → t < slot
    → held_in t (reverse objects ++ behind) ≡ held_in t behind
passed t slot [] [] behind are less = refl
passed t slot [] (h ∷ hs) behind are less = absurd are
passed t slot (p ∷ ps) [] behind are less = absurd are
passed t slot (p ∷ ps) (h ∷ hs) behind are less =
    ap (held_in t) (sym (turned h hs behind))
    ∙ passed t (suc slot) ps hs (h ∷ behind) are.2 (omega (arith, less))
    ∙ ap (λ b. if b then Some h else held_in t behind) (ne_eqb h.slot t (λ same. omega (arith, same, are.0, less)))

-- each is found in its slot
abbrev pub AreFound : List Held → List Held → Type 0
AreFound held [] = Unit {0}
AreFound held (h ∷ hs) = (held_in h.slot held ≡ Some h) × AreFound held hs

found : (slot : ℕ) (ps : List Parameter) (objects behind : List Held) → AreObjects slot ps objects
    → AreFound (reverse objects ++ behind) objects
found slot [] [] behind are = tt
found slot [] (h ∷ hs) behind are = absurd are
found slot (p ∷ ps) [] behind are = absurd are
found slot (p ∷ ps) (h ∷ hs) behind are = subst (λ l. AreFound l (h ∷ hs)) (turned h hs behind) (
  passed h.slot (suc slot) ps hs (h ∷ behind) are.2 (omega (arith, are.0))
      ∙ ap (λ b. if b then Some h else held_in h.slot behind) (eq-eqb h.slot h.slot refl),
  found (suc slot) ps hs (h ∷ behind) are.2,
)

below_all : (low slot : ℕ) (ps : List Parameter) (objects behind : List Held) → AreObjects slot ps objects
    → slot + length ps ≤ low → AreBelow low behind → AreBelow low (reverse objects ++ behind)
below_all low slot [] [] behind are le below = below
below_all low slot [] (h ∷ hs) behind are le below = absurd are
below_all low slot (p ∷ ps) [] behind are le below = absurd are
below_all low slot (p ∷ ps) (h ∷ hs) behind are le below =
    subst (AreBelow low) (turned h hs behind)
    (below_all low (suc slot) ps hs (h ∷ behind) are.2 (omega (arith, le)) (omega (arith, are.0, le), below))

sized : (held : List Held) (slot : ℕ) (ps : List Parameter) (objects : List Held) → AreObjects slot ps objects
    → AreFound held objects → (t size : ℕ) → size_in t (parameter_objects slot ps) ≡ Some size
    → (h : Held) × (held_in t held ≡ Some h) × (h.size ≡ size)
sized held slot [] objects are there t size is = absurd (let none : ⊥ = cc in none)
sized held slot (p ∷ ps) [] are there t size is = absurd are
sized held slot (p ∷ ps) (h ∷ hs) are there t size is =
    by_slot (slot == t) refl is (λ later. sized held (suc slot) ps hs are.2 there.1 t size later)
  where
    by_slot : (b : Bool) → (slot == t) ≡ b
        → (if b then Some (content_size p.content) else size_in t (parameter_objects (suc slot) ps)) ≡ Some size
        → (size_in t (parameter_objects (suc slot) ps) ≡ Some size
        → (h : Held) × (held_in t held ≡ Some h) × (h.size ≡ size))
        → (h : Held) × (held_in t held ≡ Some h) × (h.size ≡ size)
    by_slot true same is later =
        let here : h.slot ≡ t = are.0 ∙ eqb-true slot t same in
        (h, ap (λ k. held_in k held) (sym here) ∙ there.0, are.1 ∙ some_is (content_size p.content) size is)
    by_slot false differ is later = later is

-- what a body finds of its parameters
pub record Stand (ps : List Parameter) (low : ℕ) (held : List Held) : Type 0 where
  pub objects : AreObjects 0 ps (reverse held)
  pub there : AreFound held (reverse held)
  pub below : AreBelow low held
  pub sizes : (t size : ℕ) → size_in t (parameter_objects 0 ps) ≡ Some size
      → (h : Held) × (held_in t held ≡ Some h) × (h.size ≡ size)

pub stand : (ps : List Parameter) (low : ℕ) (held : List Held) → AreMadeFor 0 ps [] held → length ps ≤ low
    → Stand ps low held
stand ps low held made le =
    let is : held ≡ reverse made.objects = made.is ∙ append-nil (reverse made.objects) in
    let back : reverse held ≡ made.objects = ap reverse is ∙ reverse-reverse made.objects in
    let there : AreFound held made.objects =
    subst (λ l. AreFound l made.objects) (sym made.is) (found 0 ps made.objects [] made.are) in
    record {
      objects = subst (AreObjects 0 ps) (sym back) made.are;
      there = subst (AreFound held) (sym back) there;
      below = subst (AreBelow low) (sym made.is)
          (below_all low 0 ps made.objects [] made.are (omega (arith, le)) tt);
      sizes = sized held 0 ps made.objects made.are there;
    }

pub parameter_sizes : (slot : ℕ) (ps : List Parameter) → ParametersTyped ps → AreSizes (parameter_objects slot ps)
parameter_sizes slot [] t = tt
parameter_sizes slot (p ∷ ps) t = (t.0, parameter_sizes (suc slot) ps t.2)

-- ---- their marks

module _ (it : Running) (position : Pos) (answered : Bool) where
  abbrev here : ℕ → State → Place
  here at s = stands_at it [] answered at [] s

  abbrev StandsAt : ℕ → List Instr → Type 0
  StandsAt at instrs = StandAt it.code it.function at (on position instrs)

  ranges_come : (slot : ℕ) (h : Held) → held_in slot it.frame.held ≡ Some h → (ranges : List Range)
      → LieWithin h.size ranges → (at : ℕ) → StandsAt at (range_seals slot ranges) → (s : State)
      → Comes it.environment it.code (here at s)
      (here (at + length (range_seals slot ranges)) (ranges_sealed h.number ranges s))
  ranges_come slot h is [] lie at stands s =
      let same : at ≡ at + 0 = omega arith in
      comes_same it.environment it.code _ _ (ap (λ k. here k s) same)
  ranges_come slot h is (range ∷ rest) lie at stands s =
      let fits : nat_le (range.at + range.len) h.size ≡ true = le-leb (range.at + range.len) h.size lie.1 in
      let next : at + 1 + length (range_seals slot rest) ≡ at + length (range_seals slot (range ∷ rest)) =
      omega arith in
      let marked : State = sealed h.number (record { at = range.at; len = range.len; mark = Const }) s in
      comes_on it.environment it.code _ (here (at + 1) marked) _
      (comes_on it.environment it.code _ _ _
      (one_step (stretch.beside it [] answered) at [] s (i.Seal slot range.at range.len) position stands.0)
      (comes_same it.environment it.code _ _ (rw is (rw fits refl))))
      (subst (λ k. Comes it.environment it.code (here (at + 1) marked)
      (here k (ranges_sealed h.number rest marked))) next
      (ranges_come slot h is rest lie.2 (at + 1) stands.1 marked))

  pub seals_come : (slot : ℕ) (ps : List Parameter) (objects : List Held) → AreObjects slot ps objects
      → AreFound it.frame.held objects → ParametersTyped ps → (at : ℕ) → StandsAt at (parameter_seals slot ps)
      → (s : State)
      → Comes it.environment it.code (here at s)
      (here (at + length (parameter_seals slot ps)) (parameters_sealed ps objects s))
  seals_come slot [] [] are there t at stands s =
      let same : at ≡ at + 0 = omega arith in
      comes_same it.environment it.code _ _ (ap (λ k. here k s) same)
  seals_come slot [] (h ∷ hs) are there t at stands s = absurd are
  seals_come slot (p ∷ ps) [] are there t at stands s = absurd are
  seals_come slot (p ∷ ps) (h ∷ hs) are there t at stands s =
      let own : List Instr = range_seals slot p.seals in
      let more : List Instr = parameter_seals (suc slot) ps in
      let both : StandAt it.code it.function at (on position own ++ on position more) =
      subst (λ l. StandAt it.code it.function at l) (on_both position own more) stands in
      let first : StandsAt at own = stand_front it.code it.function at (on position own) (on position more) both in
      let last : StandsAt (at + length own) more =
      stand_back it.code it.function at (length own) (on position own) (on position more) (on_long position own) both in
      let is : held_in slot it.frame.held ≡ Some h = ap (λ k. held_in k it.frame.held) (sym are.0) ∙ there.0 in
      let next : at + length own + length more ≡ at + length (own ++ more) =
      omega (arith, length-append own more) in
      let marked : State = ranges_sealed h.number p.seals s in
      comes_on it.environment it.code _ (here (at + length own) marked) _
      (ranges_come slot h is p.seals (subst (λ n. LieWithin n p.seals) (sym are.1) t.1) at first s)
      (subst (λ k. Comes it.environment it.code (here (at + length own) marked)
      (here k (parameters_sealed ps hs marked))) next
      (seals_come (suc slot) ps hs are.2 there.1 t.2 (at + length own) last marked))
