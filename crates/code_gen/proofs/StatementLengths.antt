-- The code of each statement has as many instructions as its size says.
use Rattle.std.proofs.Common.{◌≡◌, ℕ, zero, suc, ◌+◌, List, [], ◌∷◌, ◌++◌, length, reverse, refl, ap, arith, ◌∙◌}
use Rattle.std.proofs.lemmas.List.{length-append, length-map, length-reverse}
use Rattle.std.specs.Prelude.{Option, unwrap_or}
use Rattle.critical_table.specs.declared.pos.Pos.{Pos}
use Rattle.c_core.specs.declared.form.Content.{Content}
use Rattle.c_core.specs.declared.statement.Local.{Local}
use Rattle.c_core.specs.declared.statement.Case.{Case}
use Rattle.c_core.specs.Tree.{Core, pos_in}
use Rattle.c_core.specs.TreeUnit.{Statement, Stands, Action, Statements, NoStatement, MoreStatements, Program}
use Rattle.c_core.specs.TreeUnit as unit
use Rattle.vm_code.specs.declared.instr.Instr.{Instr}
use Rattle.vm_code.specs.declared.instr.Instr.TheVariants as i
use Rattle.code_gen.specs.CalledTypes.{Through}
use Rattle.code_gen.specs.ExpressionCode.{objects_in, size_in, on, code_at}
use Rattle.code_gen.specs.StatementCode.{Around, full_size, statement_size, action_size, items_size, slots_of, makes}
use Rattle.code_gen.specs.StatementCode.{kills, kills_of, slots_down, within_block, in_switch, pairs_to, pairs_by}
use Rattle.code_gen.specs.StatementCode.{switch_code, in_loop, content_code, item_place, default_to}
use Rattle.code_gen.specs.StatementCode.{full_code, statement_code, action_code, items_code}
use Rattle.code_gen.proofs.Lengths.{on_long, one_long, two_long, split_long, both_long}
use Rattle.code_gen.proofs.Lengths.{code_long}

slots_down_long : (slot n : ℕ) → length (slots_down slot n) ≡ n
slots_down_long slot zero = refl
slots_down_long slot (suc n) = ap suc (slots_down_long slot n)

kills_long : (slots : List ℕ) → length (kills slots) ≡ length slots
kills_long slots = length-map slots i.Kill

pub makes_long : (locals : List Local) → length (makes locals) ≡ length locals
makes_long locals = length-map locals (λ (l : Local). i.Make l.slot l.size)

pub slots_long : (locals : List Local) → length (reverse (slots_of locals)) ≡ length locals
slots_long locals = length-reverse (slots_of locals) ∙ length-map locals (λ (l : Local). l.slot)

pub kills_of_long : (locals : List Local) → length (kills_of locals) ≡ length locals
kills_of_long locals = kills_long (reverse (slots_of locals)) ∙ slots_long locals

pub pairs_to_long : (to : ℕ) (cases : List Case) → length (pairs_to to cases) ≡ length cases
pairs_to_long to [] = refl
pairs_to_long to (label ∷ rest) = ap suc (pairs_to_long to rest)

pairs_by_long : (item : ℕ → ℕ) (cases : List Case) → length (pairs_by item cases) ≡ length cases
pairs_by_long item [] = refl
pairs_by_long item (label ∷ rest) = ap suc (pairs_by_long item rest)

pub switch_code_long : (entered passed : ℕ) (item : ℕ → ℕ) (locals : List Local) (cases : List Case)
    (default : Option ℕ)
    → length (switch_code entered passed item locals cases default)
    ≡ length cases + (length locals + (length cases + 5))
switch_code_long entered passed item locals cases default =
    let asks : List Instr = i.Duplicate ∷ i.Cases (length cases) ∷ pairs_to entered cases in
    let enters : List Instr = i.Default (default_to default entered passed) ∷ makes locals in
    let finds : List Instr = i.Cases (length cases) ∷ pairs_by item cases in
    omega (
      arith,
      length-append (asks ++ enters ++ finds) (i.Default (item (unwrap_or default 0)) ∷ []),
      length-append (asks ++ enters) finds,
      length-append asks enters,
      pairs_to_long entered cases,
      pairs_by_long item cases,
      makes_long locals,
    )

-- how many objects a `break` and a `continue` leave in a block
module _ (locals : List Local) (around : Around) where
  pub left_long : length (within_block locals around).left ≡ length around.left + length locals
  left_long = omega (arith, length-append (reverse (slots_of locals)) around.left, slots_long locals)

  pub left_again_long : length (within_block locals around).left_again ≡ length around.left_again + length locals
  left_again_long = omega (arith, length-append (reverse (slots_of locals)) around.left_again, slots_long locals)

pub items_size_at : (items : Statements) (l l2 a a2 : ℕ) → l ≡ l2 → a ≡ a2 → items_size l a items ≡ items_size l2 a2
    items
items_size_at items l l2 a a2 e f = ap (λ n. items_size n a items) e ∙ ap (λ n. items_size l2 n items) f

module _ (program : Program) (table : List Through) where
  pub full_long : (here : Pos) (at : ℕ) (around : Around) (core : Core)
      → length (full_code program table here at around core) ≡ full_size core
  full_long here at around core = one_long here (kills (slots_down around.values (objects_in core))) _ _ _
      (code_long program table at around.values core)
      (kills_long (slots_down around.values (objects_in core)) ∙ slots_down_long around.values (objects_in core))

  -- ---- each node, over the lengths of its parts

  block_long : (here : Pos) (at text : ℕ) (around : Around) (locals : List Local) (items : Statements)
      → length (items_code program table (at + length locals) text (within_block locals around) items)
      ≡ items_size (length (within_block locals around).left) (length (within_block locals around).left_again) items
      → length (action_code program table here at text around (unit.Block locals items))
      ≡ action_size (length around.left) (length around.left_again) (unit.Block locals items)
  block_long here at text around locals items inner =
      let n : ℕ = items_size (length around.left + length locals) (length around.left_again + length locals) items in
      let body : length (items_code program table (at + length locals) text (within_block locals around) items) ≡ n =
      inner ∙ items_size_at items _ _ _ _ (left_long locals around) (left_again_long locals around) in
      let h : length (action_code program table here at text around (unit.Block locals items))
      ≡ length locals + n + length locals = one_long here (kills_of locals) _ _ _
      (both_long _ _ _ _ (on_long here (makes locals) ∙ makes_long locals) body) (kills_of_long locals) in
      omega (arith, h)

  initialize_long : (here : Pos) (at : ℕ) (around : Around) (slot byte : ℕ) (content : Content) (value : Core)
      → length (on here (i.Slot slot ∷ i.Member byte ∷ []) ++ code_at program table (at + 2) around.values value
      ++ on (pos_in value) (content_code content ∷ i.Drop ∷ kills (slots_down around.values (objects_in value))))
      ≡ full_size value + 4
  initialize_long here at around slot byte content value =
      let k : length (kills (slots_down around.values (objects_in value))) ≡ objects_in value =
      kills_long (slots_down around.values (objects_in value)) ∙ slots_down_long around.values (objects_in value) in
      let h : length (on here (i.Slot slot ∷ i.Member byte ∷ []) ++ code_at program table (at + 2) around.values value
      ++ on (pos_in value) (content_code content ∷ i.Drop ∷ kills (slots_down around.values (objects_in value))))
      ≡ 2 + size_in value + (2 + objects_in value) = one_long (pos_in value)
      (content_code content ∷ i.Drop ∷ kills (slots_down around.values (objects_in value)))
      (on here (i.Slot slot ∷ i.Member byte ∷ []) ++ code_at program table (at + 2) around.values value) _ _
      (both_long (on here (i.Slot slot ∷ i.Member byte ∷ [])) _ 2 _ refl
      (code_long program table (at + 2) around.values value)) (omega (arith, k)) in
      omega (arith, h)

  loop_long : (here : Pos) (at text : ℕ) (around : Around) (test : Core) (body : Statement)
      → length (statement_code program table (at + (full_size test + 2)) text
      (in_loop (at + (full_size test + (statement_size 0 0 body + 3))) at around) body) ≡ statement_size 0 0 body
      → length (action_code program table here at text around (unit.While test body))
      ≡ full_size test + (statement_size 0 0 body + 3)
  loop_long here at text around test body inner =
      let end : ℕ = at + (full_size test + (statement_size 0 0 body + 3)) in
      let ahead : List (Instr × Pos) = on here (i.Tick ∷ []) ++ full_code program table here (at + 1) around test
      ++ on here (i.IfZero end ∷ []) in
      let front : length ahead ≡ 1 + (full_size test + 1) = two_long here (i.IfZero end ∷ []) (on here (i.Tick ∷ [])) _
      1 _ 1 refl (full_long here (at + 1) around test) refl in
      let h : length (action_code program table here at text around (unit.While test body))
      ≡ 1 + (full_size test + 1) + (statement_size 0 0 body + 1) =
      two_long here (i.Jump at ∷ []) ahead _ _ _ 1 front inner refl in
      omega (arith, h)

  do_long : (here : Pos) (at text : ℕ) (around : Around) (body : Statement) (test : Core)
      → length (statement_code program table (at + 1) text
      (in_loop (at + (statement_size 0 0 body + 1) + (full_size test + 2)) (at + (statement_size 0 0 body + 1))
      around) body) ≡ statement_size 0 0 body
      → length (action_code program table here at text around (unit.Do body test))
      ≡ statement_size 0 0 body + (full_size test + 3)
  do_long here at text around body test inner =
      let again : ℕ = at + (statement_size 0 0 body + 1) in
      let h : length (action_code program table here at text around (unit.Do body test))
      ≡ 1 + statement_size 0 0 body + (full_size test + 2) =
      two_long here (i.IfZero (again + (full_size test + 2)) ∷ i.Jump at ∷ [])
      (on here (i.Tick ∷ []) ++ statement_code program table (at + 1) text
      (in_loop (again + (full_size test + 2)) again around) body) _ _ _ 2
      (both_long (on here (i.Tick ∷ [])) _ 1 _ refl inner) (full_long here again around test) refl in
      omega (arith, h)

  for_long : (here : Pos) (at text : ℕ) (around : Around) (test step : Core) (body : Statement)
      → length (statement_code program table (at + (full_size test + 2)) text
      (in_loop (at + (full_size test + (statement_size 0 0 body + 2)) + (full_size step + 1))
      (at + (full_size test + (statement_size 0 0 body + 2))) around) body) ≡ statement_size 0 0 body
      → length (action_code program table here at text around (unit.For test step body))
      ≡ full_size test + (statement_size 0 0 body + (full_size step + 3))
  for_long here at text around test step body inner =
      let again : ℕ = at + (full_size test + (statement_size 0 0 body + 2)) in
      let end : ℕ = again + (full_size step + 1) in
      let ahead : List (Instr × Pos) = on here (i.Tick ∷ []) ++ full_code program table here (at + 1) around test
      ++ on here (i.IfZero end ∷ []) in
      let front : length ahead ≡ 1 + (full_size test + 1) = two_long here (i.IfZero end ∷ []) (on here (i.Tick ∷ [])) _
      1 _ 1 refl (full_long here (at + 1) around test) refl in
      let h : length (action_code program table here at text around (unit.For test step body))
      ≡ 1 + (full_size test + 1) + statement_size 0 0 body + (full_size step + 1) =
      two_long here (i.Jump at ∷ [])
      (ahead ++ statement_code program table (at + (full_size test + 2)) text (in_loop end again around) body)
      _ _ _ 1 (both_long ahead _ _ _ front inner)
      (full_long here again around step) refl in
      omega (arith, h)

  switch_long : (here : Pos) (at text : ℕ) (around : Around) (value : Core) (locals : List Local) (items : Statements)
      (cases : List Case) (default : Option ℕ)
      → let entered : ℕ = at + (full_size value + (length cases + 3)) in
      let first : ℕ = entered + (length locals + (length cases + 2)) in
      let again : ℕ = length around.left_again + length locals in
      let passed : ℕ = first + (items_size (length locals) again items + (length locals + 1)) in
      let inside : Around = within_block locals (in_switch (passed + 1) around) in
      length (items_code program table first text inside items)
      ≡ items_size (length inside.left) (length inside.left_again) items
      → length (action_code program table here at text around (unit.Switch value locals items cases default))
      ≡ action_size (length around.left) (length around.left_again) (unit.Switch value locals items cases default)
  switch_long here at text around value locals items cases default inner =
      let entered : ℕ = at + (full_size value + (length cases + 3)) in
      let first : ℕ = entered + (length locals + (length cases + 2)) in
      let again : ℕ = length around.left_again + length locals in
      let n : ℕ = items_size (length locals) again items in
      let passed : ℕ = first + (n + (length locals + 1)) in
      let item : ℕ → ℕ = item_place first (length locals) again items in
      let inside : Around = within_block locals (in_switch (passed + 1) around) in
      let left : length inside.left ≡ length locals = omega (arith, left_long locals (in_switch (passed + 1) around)) in
      let body : length (items_code program table first text inside items) ≡ n =
      inner ∙ items_size_at items _ _ _ _ left (left_again_long locals (in_switch (passed + 1) around)) in
      let asks : List (Instr × Pos) = full_code program table here at around value
      ++ on here (switch_code entered passed item locals cases default) in
      let front : length asks ≡ full_size value + (length cases + (length locals + (length cases + 5))) =
      one_long here (switch_code entered passed item locals cases default) _ _ _
      (full_long here at around value) (switch_code_long entered passed item locals cases default) in
      let back : length (kills_of locals ++ i.Jump (passed + 1) ∷ i.Drop ∷ []) ≡ length locals + 2 = omega (
        arith,
        length-append (kills_of locals) (i.Jump (passed + 1) ∷ i.Drop ∷ []),
        kills_of_long locals,
      ) in
      let h : length (action_code program table here at text around (unit.Switch value locals items cases default))
      ≡ full_size value + (length cases + (length locals + (length cases + 5))) + (n + (length locals + 2)) =
      two_long here (kills_of locals ++ i.Jump (passed + 1) ∷ i.Drop ∷ []) asks
      (items_code program table first text inside items) _ _ _ front body back in
      omega (arith, h)

  break_long : (here : Pos) (slots : List ℕ) (to : ℕ)
      → length (on here (kills slots ++ i.Jump to ∷ [])) ≡ length slots + 1
  break_long here slots to = omega (
    arith,
    on_long here (kills slots ++ i.Jump to ∷ []),
    length-append (kills slots) (i.Jump to ∷ []),
    kills_long slots,
  )

  return_long : (here : Pos) (at : ℕ) (around : Around) (size : ℕ) (value : Core)
      → length (on here (i.Result ∷ []) ++ code_at program table (at + 1) around.values value
      ++ on (pos_in value) (i.Copy size ∷ i.Give ∷ [])) ≡ size_in value + 3
  return_long here at around size value =
      let h : length (on here (i.Result ∷ []) ++ code_at program table (at + 1) around.values value
      ++ on (pos_in value) (i.Copy size ∷ i.Give ∷ [])) ≡ 1 + (size_in value + 2) =
      two_long (pos_in value) (i.Copy size ∷ i.Give ∷ []) (on here (i.Result ∷ [])) _ 1 _ 2 refl
      (code_long program table (at + 1) around.values value) refl in
      omega (arith, h)

  mutual
    pub statement_long : (at text : ℕ) (around : Around) (st : Statement)
        → length (statement_code program table at text around st)
        ≡ statement_size (length around.left) (length around.left_again) st
    statement_long at text around (Stands here action) = action_long here at text around action

    action_long : (here : Pos) (at text : ℕ) (around : Around) (action : Action)
        → length (action_code program table here at text around action)
        ≡ action_size (length around.left) (length around.left_again) action
    action_long here at text around (unit.Block locals items) = block_long here at text around locals items
        (items_long (at + length locals) text (within_block locals around) items)
    action_long here at text around (unit.Zero slot size) = refl
    action_long here at text around (unit.Initialize slot byte content value) = initialize_long here at around slot byte
        content value
    action_long here at text around (unit.InitializeBytes slot byte bytes) = refl
    action_long here at text around (unit.SealBytes slot byte len) = refl
    action_long here at text around (unit.Evaluate core) = full_long here at around core
    action_long here at text around (unit.If test first second) =
        let f : ℕ = statement_size (length around.left) (length around.left_again) first in
        let s : ℕ = statement_size (length around.left) (length around.left_again) second in
        let h : length (action_code program table here at text around (unit.If test first second))
        ≡ full_size test + (1 + (f + 1)) + s = both_long _ _ _ _
        (split_long here _ (i.IfZero (at + (full_size test + (f + 2))) ∷ []) _
        (i.Jump (at + (full_size test + (f + (s + 2)))) ∷ []) _ 1 _ 1 (full_long here at around test) refl
        (statement_long _ _ around first) refl)
        (statement_long _ _ around second) in
        omega (arith, h)
    action_long here at text around (unit.While test body) = loop_long here at text around test body
        (statement_long _ _ _ body)
    action_long here at text around (unit.Do body test) = do_long here at text around body test
        (statement_long _ _ _ body)
    action_long here at text around (unit.For test step body) = for_long here at text around test step body
        (statement_long _ _ _ body)
    action_long here at text around (unit.Switch value locals items cases default) =
        switch_long here at text around value locals items cases default (items_long _ _ _ items)
    action_long here at text around unit.Break = break_long here around.left around.behind
    action_long here at text around unit.Continue = break_long here around.left_again around.again
    action_long here at text around unit.Return = refl
    action_long here at text around (unit.ReturnValue value) =
        one_long here (i.Give ∷ []) _ _ 1 (code_long program table at around.values value) refl
    action_long here at text around (unit.ReturnWhole size value) = return_long here at around size value

    pub items_long : (at text : ℕ) (around : Around) (items : Statements)
        → length (items_code program table at text around items)
        ≡ items_size (length around.left) (length around.left_again) items
    items_long at text around NoStatement = refl
    items_long at text around (MoreStatements first rest) =
        both_long _ _ _ _ (statement_long at text around first) (items_long _ _ around rest)
