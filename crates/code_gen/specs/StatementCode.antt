-- The code of a statement, one clause a node: how many instructions it has, and which they are.
use Rattle.std.specs.Prelude.{ℕ, zero, suc, ◌+◌, List, [], ◌∷◌, ◌++◌, length, reverse, map, Option, Some, None}
use Rattle.std.specs.Prelude.{unwrap_or}
use Rattle.critical_table.specs.declared.pos.Pos.{Pos}
use Rattle.c_core.specs.declared.form.Content.{Content}
use Rattle.c_core.specs.declared.form.Content.TheVariants as content
use Rattle.c_core.specs.declared.statement.Local.{Local}
use Rattle.c_core.specs.declared.statement.Case.{Case}
use Rattle.c_core.specs.Tree.{Core, pos_in}
use Rattle.c_core.specs.TreeUnit.{Statement, Stands, Action, Statements, NoStatement, MoreStatements, Program}
use Rattle.c_core.specs.TreeUnit as unit
use Rattle.vm_code.specs.declared.instr.Instr.{Instr}
use Rattle.vm_code.specs.declared.instr.Instr.TheVariants as i
use Rattle.code_gen.specs.CalledTypes.{Through}
use Rattle.code_gen.specs.ExpressionCode.{objects_in, size_in, on, code_at}

-- ---- how many instructions a statement has

-- a full expression, and the deaths of its value objects
abbrev pub full_size : Core → ℕ
full_size core = size_in core + objects_in core

-- `left` and `again` are how many objects a `break` and a `continue` leave
abbrev mutual
  pub statement_size : (left again : ℕ) → Statement → ℕ
  statement_size left again (Stands here action) = action_size left again action

  pub action_size : (left again : ℕ) → Action → ℕ
  action_size left again (unit.Block locals items) =
      length locals + (items_size (left + length locals) (again + length locals) items + length locals)
  action_size left again (unit.Zero slot size) = 2
  action_size left again (unit.Initialize slot at content value) = full_size value + 4
  action_size left again (unit.InitializeBytes slot at bytes) = 3
  action_size left again (unit.SealBytes slot at len) = 1
  action_size left again (unit.Evaluate core) = full_size core
  action_size left again (unit.If test first second) =
      full_size test + (statement_size left again first + (statement_size left again second + 2))
  action_size left again (unit.While test body) = full_size test + (statement_size 0 0 body + 3)
  action_size left again (unit.Do body test) = statement_size 0 0 body + (full_size test + 3)
  action_size left again (unit.For test step body) =
      full_size test + (statement_size 0 0 body + (full_size step + 3))
  action_size left again (unit.Switch value locals items cases default) =
      full_size value + (length cases + (length locals + (length cases
      + (items_size (length locals) (again + length locals) items + (length locals + 7)))))
  action_size left again unit.Break = left + 1
  action_size left again unit.Continue = again + 1
  action_size left again unit.Return = 1
  action_size left again (unit.ReturnValue value) = size_in value + 1
  action_size left again (unit.ReturnWhole size value) = size_in value + 3

  pub items_size : (left again : ℕ) → Statements → ℕ
  items_size left again NoStatement = 0
  items_size left again (MoreStatements first rest) = statement_size left again first + items_size left again rest

-- where the item with this number stands, among items from a place on
abbrev pub item_place : ℕ → (left again : ℕ) → Statements → ℕ → ℕ
item_place at left again items zero = at
item_place at left again NoStatement (suc k) = at
item_place at left again (MoreStatements first rest) (suc k) =
    item_place (at + statement_size left again first) left again rest k

-- ---- texts

-- the literals that initialize arrays, in order; the k-th of a unit is its text k
abbrev mutual
  pub texts_in : Statement → List (List ℕ)
  texts_in (Stands here action) = texts_of action

  pub texts_of : Action → List (List ℕ)
  texts_of (unit.Block locals items) = texts_among items
  texts_of (unit.InitializeBytes slot at bytes) = bytes ∷ []
  texts_of (unit.If test first second) = texts_in first ++ texts_in second
  texts_of (unit.While test body) = texts_in body
  texts_of (unit.Do body test) = texts_in body
  texts_of (unit.For test step body) = texts_in body
  texts_of (unit.Switch value locals items cases default) = texts_among items
  texts_of other = []

  pub texts_among : Statements → List (List ℕ)
  texts_among NoStatement = []
  texts_among (MoreStatements first rest) = texts_in first ++ texts_among rest

-- ---- which instructions these are

-- Where a statement stands: where a `break` and a `continue` lead, which slots hold objects that they leave, the last
-- made first, and the first slot for value objects.
pub record Around : Type 0 where
  pub behind : ℕ
  pub again : ℕ
  pub left : List ℕ
  pub left_again : List ℕ
  pub values : ℕ

abbrev pub slots_of : List Local → List ℕ
slots_of locals = map (λ (l : Local). l.slot) locals

-- the objects of a block are made, and die, the last made first
abbrev pub makes : List Local → List Instr
makes locals = map (λ (l : Local). i.Make l.slot l.size) locals

abbrev pub kills : List ℕ → List Instr
kills slots = map i.Kill slots

abbrev pub kills_of : List Local → List Instr
kills_of locals = kills (reverse (slots_of locals))

-- so many slots from one on, the last first
abbrev pub slots_down : ℕ → ℕ → List ℕ
slots_down slot zero = []
slots_down slot (suc n) = (slot + n) ∷ slots_down slot n

abbrev pub within_block : List Local → Around → Around
within_block locals around = record around {
  left = reverse (slots_of locals) ++ around.left;
  left_again = reverse (slots_of locals) ++ around.left_again;
}

abbrev pub in_loop : (behind again : ℕ) → Around → Around
in_loop behind again around = record around { behind = behind; again = again; left = []; left_again = [] }

abbrev pub in_switch : ℕ → Around → Around
in_switch behind around = record around { behind = behind; left = [] }

-- an item of an initializer is stored
abbrev pub content_code : Content → Instr
content_code (content.Scalar scalar) = i.Store scalar
content_code (content.Whole size) = i.Copy size

-- the pairs of a `cases`, which lead to one place, or to that of each label's item
abbrev pub pairs_to : ℕ → List Case → List Instr
pairs_to to [] = []
pairs_to to (label ∷ rest) = i.Pair label.value to ∷ pairs_to to rest

abbrev pub pairs_by : (ℕ → ℕ) → List Case → List Instr
pairs_by item [] = []
pairs_by item (label ∷ rest) = i.Pair label.value (item label.at) ∷ pairs_by item rest

-- where a value without a label leads, by whether there is a default
abbrev pub default_to : Option ℕ → (entered passed : ℕ) → ℕ
default_to None entered passed = passed
default_to (Some item) entered passed = entered

-- Behind the value of a switch. It is asked twice: whether a label fits, and, once the objects are made, where.
abbrev pub switch_code : (entered passed : ℕ) → (item : ℕ → ℕ) → List Local → List Case → Option ℕ → List Instr
switch_code entered passed item locals cases default =
    (i.Duplicate ∷ i.Cases (length cases) ∷ pairs_to entered cases)
    ++ (i.Default (default_to default entered passed) ∷ makes locals)
    ++ (i.Cases (length cases) ∷ pairs_by item cases)
    ++ i.Default (item (unwrap_or default 0)) ∷ []

module _ (program : Program) (table : List Through) where
  -- a full expression: its value objects die, the last made first
  abbrev pub full_code : Pos → ℕ → Around → Core → List (Instr × Pos)
  full_code here at around core =
      code_at program table at around.values core ++ on here (kills (slots_down around.values (objects_in core)))

  -- The code that stands at an instruction, with the number of the next text.
  abbrev mutual
    pub statement_code : ℕ → ℕ → Around → Statement → List (Instr × Pos)
    statement_code at text around (Stands here action) = action_code here at text around action

    pub action_code : Pos → ℕ → ℕ → Around → Action → List (Instr × Pos)
    action_code here at text around (unit.Block locals items) =
        on here (makes locals) ++ items_code (at + length locals) text (within_block locals around) items
        ++ on here (kills_of locals)
    action_code here at text around (unit.Zero slot size) = on here (i.Slot slot ∷ i.Zero size ∷ [])
    action_code here at text around (unit.Initialize slot byte content value) =
        on here (i.Slot slot ∷ i.Member byte ∷ [])
        ++ code_at program table (at + 2) around.values value
        ++ on (pos_in value) (content_code content ∷ i.Drop ∷ kills (slots_down around.values (objects_in value)))
    action_code here at text around (unit.InitializeBytes slot byte bytes) =
        on here (i.Slot slot ∷ i.Member byte ∷ i.Pool text ∷ [])
    action_code here at text around (unit.SealBytes slot byte len) = on here (i.Seal slot byte len ∷ [])
    action_code here at text around (unit.Evaluate core) = full_code here at around core
    action_code here at text around (unit.If test first second) =
        let first_size : ℕ = statement_size (length around.left) (length around.left_again) first in
        let second_size : ℕ = statement_size (length around.left) (length around.left_again) second in
        full_code here at around test
        ++ on here (i.IfZero (at + (full_size test + (first_size + 2))) ∷ [])
        ++ statement_code (at + (full_size test + 1)) text around first
        ++ on here (i.Jump (at + (full_size test + (first_size + (second_size + 2)))) ∷ [])
        ++ statement_code (at + (full_size test + (first_size + 2))) (text + length (texts_in first)) around second
    action_code here at text around (unit.While test body) =
        let end : ℕ = at + (full_size test + (statement_size 0 0 body + 3)) in
        on here (i.Tick ∷ []) ++ full_code here (at + 1) around test ++ on here (i.IfZero end ∷ [])
        ++ statement_code (at + (full_size test + 2)) text (in_loop end at around) body ++ on here (i.Jump at ∷ [])
    action_code here at text around (unit.Do body test) =
        let again : ℕ = at + (statement_size 0 0 body + 1) in
        let end : ℕ = again + (full_size test + 2) in
        on here (i.Tick ∷ []) ++ statement_code (at + 1) text (in_loop end again around) body
        ++ full_code here again around test ++ on here (i.IfZero end ∷ i.Jump at ∷ [])
    action_code here at text around (unit.For test step body) =
        let again : ℕ = at + (full_size test + (statement_size 0 0 body + 2)) in
        let end : ℕ = again + (full_size step + 1) in
        on here (i.Tick ∷ []) ++ full_code here (at + 1) around test ++ on here (i.IfZero end ∷ [])
        ++ statement_code (at + (full_size test + 2)) text (in_loop end again around) body
        ++ full_code here again around step ++ on here (i.Jump at ∷ [])
    action_code here at text around (unit.Switch value locals items cases default) =
        let entered : ℕ = at + (full_size value + (length cases + 3)) in
        let first : ℕ = entered + (length locals + (length cases + 2)) in
        let again : ℕ = length around.left_again + length locals in
        let passed : ℕ = first + (items_size (length locals) again items + (length locals + 1)) in
        let item : ℕ → ℕ = item_place first (length locals) again items in
        full_code here at around value ++ on here (switch_code entered passed item locals cases default)
        ++ items_code first text (within_block locals (in_switch (passed + 1) around)) items
        ++ on here (kills_of locals ++ i.Jump (passed + 1) ∷ i.Drop ∷ [])
    action_code here at text around unit.Break = on here (kills around.left ++ i.Jump around.behind ∷ [])
    action_code here at text around unit.Continue = on here (kills around.left_again ++ i.Jump around.again ∷ [])
    action_code here at text around unit.Return = on here (i.Leave ∷ [])
    action_code here at text around (unit.ReturnValue value) =
        code_at program table at around.values value ++ on here (i.Give ∷ [])
    action_code here at text around (unit.ReturnWhole size value) = on here (i.Result ∷ [])
        ++ code_at program table (at + 1) around.values value ++ on (pos_in value) (i.Copy size ∷ i.Give ∷ [])

    pub items_code : ℕ → ℕ → Around → Statements → List (Instr × Pos)
    items_code at text around NoStatement = []
    items_code at text around (MoreStatements first rest) = statement_code at text around first
        ++ items_code (at + statement_size (length around.left) (length around.left_again) first)
        (text + length (texts_in first)) around rest
