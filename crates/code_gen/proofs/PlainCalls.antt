-- Calls: how their runs are put together.
use Rattle.std.proofs.Common.{◌≡◌, ◌∙◌, ℕ, ◌+◌, ◌≤◌, ◌==◌, Bool, true, false, List, [], ◌∷◌, ◌++◌, refl}
use Rattle.std.proofs.Common.{ap, sym, subst, arith, Option, Some, None}
use Rattle.std.proofs.lemmas.Bool.{eq-eqb}
use Rattle.critical_table.specs.declared.pos.Pos.{Pos}
use Rattle.object_store.specs.declared.pointer.Pointer.{Pointer}
use Rattle.lib_defs.specs.declared.value.Value.{Value}
use Rattle.lib_defs.specs.declared.value.Value.TheVariants.{Ptr, Nothing}
use Rattle.run_defs.specs.State.{State}
use Rattle.run_defs.specs.Evaluation.{Evaluation, Gives, bind, automatic_made}
use Rattle.run_defs.specs.Functions.{Environment, function_number}
use Rattle.c_core.specs.declared.form.Form.TheVariants as form
use Rattle.c_core.specs.declared.form.Content.{Content}
use Rattle.c_core.specs.declared.form.Content.TheVariants as content
use Rattle.c_core.specs.Forms.{form_of, given_form, content_form}
use Rattle.c_core.specs.Tree.{Core, Cores, NoCore, MoreCores, type_in}
use Rattle.c_core.specs.TreeUnit.{Program}
use Rattle.c_core.specs.Typed.{MayBeUsed}
use Rattle.c_core.specs.Types.{IsLeft}
use Rattle.vm_code.specs.declared.instr.Instr.{Instr}
use Rattle.vm_code.specs.declared.instr.Instr.TheVariants as i
use Rattle.vm_code.specs.declared.parts.CodeFunction.{CodeFunction}
use Rattle.vm_code.specs.Accesses.{pointer_in}
use Rattle.vm_code.specs.Calling.{called_through}
use Rattle.vm_code.specs.Contents.{Contents}
use Rattle.vm_code.specs.Frames.{Active, Place}
use Rattle.vm_code.specs.Machine.{on_operands, on_result, on_pointer, calls, uses}
use Rattle.vm_code.specs.Slots.{Held}
use Rattle.code_gen.specs.Arguments.{arguments}
use Rattle.code_gen.specs.CalledTypes.{Through, through, type_number}
use Rattle.code_gen.specs.Evaluating.{Yield, Evaluates}
use Rattle.code_gen.specs.ExpressionCode.{on, code_at, codes_at, objects_in, objects_among, result_objects, result_size}
use Rattle.code_gen.specs.ExpressionCode.{used_size, size_among, count_among, result_code, used_code}
use Rattle.code_gen.specs.ExpressionCode as code_sizes
use Rattle.code_gen.specs.Expressions.{Call, Yields, value, values, result_object, call_value, unused}
use Rattle.code_gen.specs.RunLaw.{HasKind, pushed, AreValues, Holding, Reaches, StandAt, Left, Running, stands_at}
use Rattle.code_gen.specs.RunLaw.{AreArguments, value_left, IsGivenSo, CallRuns}
use Rattle.code_gen.proofs.Going.{stand_front, stand_back, comes_on, comes_same, one_step, sees, reaches_from}
use Rattle.code_gen.proofs.Going.{reaches_gives, reaches_bind, reaches_known, does_then}
use Rattle.code_gen.proofs.Lengths.{code_long, codes_long, on_long, result_long}
use Rattle.code_gen.proofs.CallOperands.{all_pushed, pushed_left, taken, count_is, result_pushed, IsResult, on_given}
use Rattle.code_gen.proofs.CallOperands.{unused_kind}
use Rattle.code_gen.proofs.PlainParts.{IsLeftAs, pointer_left, a_pointer}
use Rattle.code_gen.proofs.PlainStatements.{on_both}
use Rattle.code_gen.proofs.PlainStretches as stretch
use Rattle.code_gen.proofs.ValueObjects as objects_of

module _ (it : Running) (low : ℕ) (program : Program) (table : List Through) (call : Call) where
  abbrev e : Environment
  e = it.environment

  abbrev code : Contents
  code = it.code

  abbrev function : CodeFunction
  function = it.function

  abbrev here : List Held → Bool → ℕ → List Value → State → Place
  here objects answered at operands s = stands_at it objects answered at operands s

  abbrev val : Core → Evaluates
  val core = value program call it.frame.held core

  abbrev StandsOn : ℕ → Pos → List Instr → Type 0
  StandsOn at position instrs = StandAt code function at (on position instrs)

  -- ---- arguments

  pub record LeftValues (cores : Cores) (next : ℕ) (x : Yields) : Type 0 where
    pub are : AreArguments cores x.values
    pub now : Holding low next x.made

  -- arguments, from one place to another
  abbrev pub ValuesRun : Cores → (from to slot next : ℕ) → Type 0
  ValuesRun cores from to slot next = (operands : List Value) (made : List ℕ) (now : Holding low slot made) (s : State)
      → Reaches e code it.most (here now.objects now.answered from operands s)
      (values program call it.frame.held cores made s) (LeftValues cores next)
      (λ x left s1. here left.now.objects left.now.answered to (all_pushed x.values operands) s1)

  pub none_run : (from slot : ℕ) → ValuesRun NoCore from (from + 0) slot (slot + 0)
  none_run from slot operands made now s =
      let same : from ≡ from + 0 = omega arith in
      reaches_gives e code it.most _ (record { values = []; made = made }) s (LeftValues NoCore (slot + 0))
      (λ x left s1. here left.now.objects left.now.answered (from + 0) (all_pushed x.values operands) s1)
      (record { are = tt; now = stretch.holding_more low slot (slot + 0) made (omega arith) now })
      (ap (λ k. here now.objects now.answered k operands s) same)

  pub more_run : (first : Core) (rest : Cores) (from mid to slot between next : ℕ) → IsLeft (form_of first)
      → stretch.Runs it low (val first) (form_of first) from mid slot between → ValuesRun rest mid to between next
      → ValuesRun (MoreCores first rest) from to slot next
  more_run first rest from mid to slot between next is runs_first runs_rest operands made now s =
      let to_there : (x : Yields) → LeftValues (MoreCores first rest) next x → State → Place =
      λ x left s1. here left.now.objects left.now.answered to (all_pushed x.values operands) s1 in
      reaches_bind e code it.most _ (val first made s) _ (Left (form_of first) low between)
      (stretch.Leads it low (form_of first) between mid operands) (LeftValues (MoreCores first rest) next) to_there
      (runs_first operands made now s)
      (λ x s1 left.
      subst (λ ops. Reaches e code it.most (here left.now.objects left.now.answered mid ops s1)
      (bind (values program call it.frame.held rest x.made s1)
      (λ more s2. Gives (record more { values = x.value ∷ more.values }) s2))
      (LeftValues (MoreCores first rest) next) to_there) (sym (pushed_left (form_of first) x.value operands is))
      (reaches_bind e code it.most _ (values program call it.frame.held rest x.made s1) _ (LeftValues rest next)
      (λ more l s2. here l.now.objects l.now.answered to (all_pushed more.values (x.value ∷ operands)) s2)
      (LeftValues (MoreCores first rest) next) to_there (runs_rest (x.value ∷ operands) x.made left.now s1)
      (λ more s2 l. reaches_gives e code it.most _ (record more { values = x.value ∷ more.values }) s2
      (LeftValues (MoreCores first rest) next) to_there (record { are = (left.kind, l.are); now = l.now }) refl)))

  -- ---- the object for a structure

  record LeftResult (gives : Option Content) (next : ℕ) (x : Yield) : Type 0 where
    is : IsResult gives (pointer_in x.value)
    now : Holding low next x.made

  result_runs : (gives : Option Content) (at slot : ℕ) (position : Pos) (operands : List Value) (made : List ℕ)
      (now : Holding low slot made) (s : State) → low ≤ slot → StandsOn at position (result_code gives slot)
      → Reaches e code it.most (here now.objects now.answered at operands s) (result_object gives made s)
      (LeftResult gives (slot + result_objects gives))
      (λ x left s1. here left.now.objects left.now.answered (at + result_size gives)
      (result_pushed gives (pointer_in x.value) operands) s1)
  result_runs None at slot position operands made now s above stands =
      let same : at ≡ at + 0 = omega arith in
      reaches_gives e code it.most _ (record { value = Nothing; made = made }) s (LeftResult None (slot + 0)) _
      (record { is = refl; now = stretch.holding_more low slot (slot + 0) made (omega arith) now })
      (ap (λ k. here now.objects now.answered k operands s) same)
  result_runs (Some (content.Scalar scalar)) at slot position operands made now s above stands =
      let same : at ≡ at + 0 = omega arith in
      reaches_gives e code it.most _ (record { value = Nothing; made = made }) s
      (LeftResult (Some (content.Scalar scalar)) (slot + 0)) _
      (record { is = refl; now = stretch.holding_more low slot (slot + 0) made (omega arith) now })
      (ap (λ k. here now.objects now.answered k operands s) same)
  result_runs (Some (content.Whole size)) at slot position operands made now s above stands =
      let to_there : (x : Yield) → LeftResult (Some (content.Whole size)) (slot + 1) x → State → Place =
      λ x left s1. here left.now.objects left.now.answered (at + 2) (Ptr (pointer_in x.value) ∷ operands) s1 in
      does_then e code it.most _ (automatic_made size s) _
      (λ place s1. here (objects_of.held_new it low slot place size ∷ now.objects) now.answered (at + 1) operands s1)
      (objects_of.IsWhole size) (LeftResult (Some (content.Whole size)) (slot + 1)) to_there
      (objects_of.make_does it low slot size at position now.objects now.answered operands s (stands.0, tt))
      (λ place s1 is_whole.
      let objects : List Held = objects_of.held_new it low slot place size ∷ now.objects in
      let own : (slot == slot) ≡ true = eq-eqb slot slot refl in
      let next : at + 1 + 1 ≡ at + 2 = omega arith in
      reaches_from e code it.most _ (here objects now.answered (at + 2) (Ptr place ∷ operands) s1)
      (Gives (record { value = Ptr place; made = place.object ∷ made }) s1) _ to_there
      (comes_on e code _ _ _
      (one_step (stretch.beside it objects now.answered) (at + 1) operands s1 (i.Slot slot) position stands.1.0)
      (comes_same e code _ _
      (rw own (ap (λ q. here objects now.answered (at + 1 + 1) (Ptr q ∷ operands) s1) is_whole
      ∙ ap (λ k. here objects now.answered k (Ptr place ∷ operands) s1) next))))
      (reaches_gives e code it.most _ (record { value = Ptr place; made = place.object ∷ made }) s1 _ to_there
      (record {
        is = tt;
        now = record {
          objects = objects;
          slots = (above, omega arith, now.slots);
          same = ap (λ numbers. place.object ∷ numbers) now.same;
          answered = now.answered;
        };
      }) refl))

  -- ---- the value

  -- the value of a call that is used is there, or the run stops
  used_runs : (used : Bool) (gives : Option Content) (result : Pointer) (given : Option Value) (answered : Bool)
      (objects : List Held) (at : ℕ) (position : Pos) (operands : List Value) (s : State) → MayBeUsed used gives
      → IsGivenSo gives given answered → StandsOn at position (used_code used)
      → Reaches e code it.most
      (here objects answered at (pushed (given_form gives) (value_left gives result given) operands) s)
      (call_value used gives result given position s) (HasKind (given_form gives))
      (λ v fits s1. here objects answered (at + used_size used) (pushed (given_form gives) v operands) s1)
  used_runs true None result given answered objects at position operands s may so stands = absurd may
  used_runs true (Some given_content) result (Some v) answered objects at position operands s may so stands =
      let ops : List Value = pushed (content_form given_content) v operands in
      let other : Running = stretch.beside it objects answered in
      reaches_from e code it.most _ (here objects answered (at + 1) ops s) (Gives v s) _ _
      (comes_on e code _ _ _ (one_step other at ops s i.Used position stands.0)
      (comes_same e code _ _ (ap (λ b. uses (sees other at ops position s) b) so.1)))
      (reaches_gives e code it.most _ v s (HasKind (content_form given_content)) _ so.0 refl)
  used_runs true (Some given_content) result None answered objects at position operands s may so stands =
      let ops : List Value =
      pushed (content_form given_content) (unused (Some given_content) result) operands in
      let other : Running = stretch.beside it objects answered in
      record {
        arrives = λ le. comes_on e code _ _ _ (one_step other at ops s i.Used position stands.0)
            (comes_same e code _ _ (ap (λ b. uses (sees other at ops position s) b) so));
      }
  used_runs false None result (Some v) answered objects at position operands s may so stands =
      let same : at ≡ at + 0 = omega arith in
      reaches_gives e code it.most _ v s (HasKind form.Nothing) _ tt
      (ap (λ k. here objects answered k operands s) same)
  used_runs false (Some given_content) result (Some v) answered objects at position operands s may so stands =
      let same : at ≡ at + 0 = omega arith in
      reaches_gives e code it.most _ v s (HasKind (content_form given_content)) _ so.0
      (ap (λ k. here objects answered k (pushed (content_form given_content) v operands) s) same)
  used_runs false gives result None answered objects at position operands s may so stands =
      let same : at ≡ at + 0 = omega arith in
      reaches_gives e code it.most _ (unused gives result) s (HasKind (given_form gives)) _ (unused_kind gives result)
      (ap (λ k. here objects answered k (pushed (given_form gives) (unused gives result) operands) s) same)

  -- ---- the call

  -- from the operands of a call to the call
  call_comes : (gives : Option Content) (operation : Core) (cores : Cores)
      (runs : CallRuns e code it.most it.rest table call gives operation cores) (objects : List Held)
      (answered : Bool) (at : ℕ) (position : Pos) (p result : Pointer) (vs operands : List Value) (s : State)
      → AreArguments cores vs → IsResult gives result
      → StandsOn at position (i.Call (count_among cores) (type_number table (through operation cores)) ∷ [])
      → Reaches e code it.most
      (here objects answered at (result_pushed gives result (all_pushed vs (Ptr p ∷ operands))) s)
      (call (type_in operation) p (arguments cores vs) result position s)
      (λ given. (answered1 : Bool) × IsGivenSo gives given answered1)
      (λ given left s1. here objects left.0 (at + 1)
      (pushed (given_form gives) (value_left gives result given) operands) s1)
  call_comes gives operation cores runs objects answered at position p result vs operands s are is stands =
      let other : Running = stretch.beside it objects answered in
      let type : ℕ = type_number table (through operation cores) in
      let count : ℕ = count_among cores in
      let taken_off : List Value = all_pushed vs (Ptr p ∷ operands) in
      let ops : List Value = result_pushed gives result taken_off in
      let called : Pointer → Pointer → List Value → List Value → Place = λ q r arguments below.
      called_through e code q runs.called (record {
        function = function_number q;
        arguments = arguments;
        result = r;
        pos = position;
      }) (Active (record other.frame { at = at + 1; operands = below }) ∷ it.rest) s in
      let on_rest : Pointer → List Value → Place = λ r below. on_operands count below []
      (λ arguments below1. on_pointer below1 (λ q below2. called q r arguments below2)) in
      reaches_known e code it.most _ _ _ _ (λ few.
      reaches_from e code it.most _ (called p result vs operands) _ _ _
      (comes_on e code _ _ _ (one_step other at ops s (i.Call count type) position stands.0)
      (comes_same e code _ _
      (ap (λ o. calls (sees other at ops position s) count o) runs.stands
      ∙ ap (λ f. on_result f ops on_rest) runs.form_is ∙ on_given gives result taken_off on_rest is
      ∙ taken vs count (Ptr p ∷ operands)
      (λ arguments below1. on_pointer below1 (λ q below2. called q result arguments below2)) (count_is cores vs are))))
      (runs.runs p result vs are position (record other.frame { at = at + 1; operands = operands }) s few))

  pub call_runs : (used : Bool) (gives : Option Content) (operation : Core) (cores : Cores) (position : Pos)
      (at slot : ℕ) → low ≤ slot → form_of operation ≡ form.Pointer → MayBeUsed used gives
      → CallRuns e code it.most it.rest table call gives operation cores
      → StandAt code function at (code_at program table at slot operation
      ++ codes_at program table (at + code_sizes.size_in operation) (slot + objects_in operation) cores
      ++ on position (result_code gives (slot + (objects_in operation + objects_among cores))
      ++ i.Call (count_among cores) (type_number table (through operation cores)) ∷ used_code used))
      → (StandAt code function at (code_at program table at slot operation)
      → stretch.Runs it low (val operation) (form_of operation) at (at + code_sizes.size_in operation) slot
      (slot + objects_in operation))
      → (StandAt code function (at + code_sizes.size_in operation)
      (codes_at program table (at + code_sizes.size_in operation) (slot + objects_in operation) cores)
      → ValuesRun cores (at + code_sizes.size_in operation) (at + code_sizes.size_in operation + size_among cores)
      (slot + objects_in operation) (slot + objects_in operation + objects_among cores))
      → stretch.Runs it low (λ made s.
      bind (val operation made s) (λ f s1.
      bind (values program call it.frame.held cores f.made s1) (λ args s2.
      bind (result_object gives args.made s2) (λ x s3.
      bind (call (type_in operation) (pointer_in f.value) (arguments cores args.values) (pointer_in x.value)
      position s3) (λ given s4.
      bind (call_value used gives (pointer_in x.value) given position s4) (λ v s5.
      Gives (record x { value = v }) s5)))))) (given_form gives) at
      (at + (code_sizes.size_in operation + (size_among cores + (result_size gives + (used_size used + 1))))) slot
      (slot + (objects_in operation + (objects_among cores + result_objects gives)))
  call_runs used gives operation cores position at slot above is_pointer may runs stands runs_f runs_args operands made
      now s =
      let l : ℕ = code_sizes.size_in operation in
      let m : ℕ = size_among cores in
      let r : ℕ = result_size gives in
      let mid : ℕ = at + l in
      let behind : ℕ = at + l + m in
      let between : ℕ = slot + objects_in operation in
      let own : ℕ = slot + (objects_in operation + objects_among cores) in
      let last : ℕ = slot + (objects_in operation + (objects_among cores + result_objects gives)) in
      let there : ℕ = at + (l + (m + (r + (used_size used + 1)))) in
      let a : List (Instr × Pos) = code_at program table at slot operation in
      let b : List (Instr × Pos) = codes_at program table mid between cores in
      let makes : List Instr = result_code gives own in
      let calling : List Instr =
      i.Call (count_among cores) (type_number table (through operation cores)) ∷ used_code used in
      let c : List (Instr × Pos) = on position (makes ++ calling) in
      let both : StandAt code function at (a ++ b) = stand_front code function at (a ++ b) c stands in
      let behind_at : at + (l + m) ≡ behind = omega arith in
      let third : StandsOn behind position (makes ++ calling) = subst (λ k. StandAt code function k c) behind_at
      (stretch.behind_two it low at l m a b c (code_long program table at slot operation)
      (codes_long program table mid between cores) stands) in
      let parted : StandAt code function behind (on position makes ++ on position calling) =
      subst (λ x. StandAt code function behind x) (on_both position makes calling) third in
      let makes_stand : StandsOn behind position makes =
      stand_front code function behind (on position makes) (on position calling) parted in
      let calling_stand : StandsOn (behind + r) position calling =
      stand_back code function behind r (on position makes) (on position calling)
      (on_long position makes ∙ result_long gives own) parted in
      let own_is : between + objects_among cores ≡ own = omega arith in
      let last_is : own + result_objects gives ≡ last = omega arith in
      let end_is : behind + r + 1 + used_size used ≡ there = omega arith in
      let leads : (x : Yield) → Left (given_form gives) low last x → State → Place =
      stretch.Leads it low (given_form gives) last there operands in
      let called : Pointer → List ℕ → State → Evaluation Yield = λ q made1 s1.
      bind (values program call it.frame.held cores made1 s1) (λ args s2.
      bind (result_object gives args.made s2) (λ x s3.
      bind (call (type_in operation) q (arguments cores args.values) (pointer_in x.value) position s3) (λ given s4.
      bind (call_value used gives (pointer_in x.value) given position s4) (λ v s5.
      Gives (record x { value = v }) s5)))) in
      reaches_bind e code it.most _ (val operation made s) _ (Left (form_of operation) low between)
      (stretch.Leads it low (form_of operation) between mid operands) (Left (given_form gives) low last) leads
      (runs_f (stand_front code function at a b both) operands made now s)
      (λ f s1 left_f.
      let p : (q : Pointer) × IsLeftAs (form_of operation) f.value (Ptr q) =
      pointer_left (form_of operation) f.value (a_pointer (form_of operation) is_pointer) left_f.kind in
      subst (λ v. Reaches e code it.most
      (here left_f.now.objects left_f.now.answered mid (pushed (form_of operation) f.value operands) s1)
      (called (pointer_in v) f.made s1) (Left (given_form gives) low last) leads) (sym p.1.value_is)
      (subst (λ ops. Reaches e code it.most (here left_f.now.objects left_f.now.answered mid ops s1)
      (called p.0 f.made s1) (Left (given_form gives) low last) leads) (sym (p.1.on_top operands))
      (reaches_bind e code it.most _ (values program call it.frame.held cores f.made s1) _
      (LeftValues cores (between + objects_among cores))
      (λ args left s2. here left.now.objects left.now.answered behind (all_pushed args.values (Ptr p.0 ∷ operands)) s2)
      (Left (given_form gives) low last) leads
      (runs_args (stand_back code function at l a b (code_long program table at slot operation) both)
      (Ptr p.0 ∷ operands) f.made left_f.now s1)
      (λ args s2 left_args.
      let holds : Holding low own args.made = record {
        objects = left_args.now.objects;
        slots = subst (λ k. AreValues low k left_args.now.objects) own_is left_args.now.slots;
        same = left_args.now.same;
        answered = left_args.now.answered;
      } in
      reaches_bind e code it.most _ (result_object gives args.made s2) _ (LeftResult gives (own + result_objects gives))
      (λ x left s3. here left.now.objects left.now.answered (behind + r)
      (result_pushed gives (pointer_in x.value) (all_pushed args.values (Ptr p.0 ∷ operands))) s3)
      (Left (given_form gives) low last) leads
      (result_runs gives behind own position (all_pushed args.values (Ptr p.0 ∷ operands)) args.made holds s2
      (omega (arith, above)) makes_stand)
      (λ x s3 left_x.
      reaches_bind e code it.most _ _ _ (λ given. (answered1 : Bool) × IsGivenSo gives given answered1)
      (λ given left s4. here left_x.now.objects left.0 (behind + r + 1)
      (pushed (given_form gives) (value_left gives (pointer_in x.value) given) operands) s4)
      (Left (given_form gives) low last) leads
      (call_comes gives operation cores runs left_x.now.objects left_x.now.answered (behind + r) position p.0
      (pointer_in x.value) args.values operands s3 left_args.are left_x.is (calling_stand.0, tt))
      (λ given s4 left_call.
      reaches_bind e code it.most _ (call_value used gives (pointer_in x.value) given position s4) _
      (HasKind (given_form gives))
      (λ v fits s5. here left_x.now.objects left_call.0 (behind + r + 1 + used_size used)
      (pushed (given_form gives) v operands) s5) (Left (given_form gives) low last) leads
      (used_runs used gives (pointer_in x.value) given left_call.0 left_x.now.objects (behind + r + 1) position operands
      s4 may left_call.1 calling_stand.1)
      (λ v s5 fits. reaches_gives e code it.most _ (record x { value = v }) s5 (Left (given_form gives) low last) leads
      (record {
        kind = fits;
        now = record {
          objects = left_x.now.objects;
          slots = subst (λ k. AreValues low k left_x.now.objects) last_is left_x.now.slots;
          same = left_x.now.same;
          answered = left_call.0;
        };
      }) (ap (λ k. here left_x.now.objects left_call.0 k (pushed (given_form gives) v operands) s5) end_is))))))))
