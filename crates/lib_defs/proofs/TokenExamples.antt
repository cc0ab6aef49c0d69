-- Runs of the row of tokens.
use Rattle.std.proofs.Common.{◌≡◌, ℕ, List, [], ◌∷◌, Option, Some, None, refl}
use Rattle.std.specs.Prelude.{codes}
use Rattle.critical_table.specs.declared.case.Case.TheVariants.{L5, L8, L12}
use Rattle.critical_table.specs.declared.code.Code.TheVariants.{U05}
use Rattle.object_store.specs.declared.by.By.TheVariants.{TextRead, TextWrite}
use Rattle.object_store.specs.declared.mark.Mark.TheVariants.{Plain, Literal, Const}
use Rattle.object_store.specs.declared.pointer.Pointer.{Pointer}
use Rattle.object_store.specs.Storage.{Storage}
use Rattle.object_store.specs.Load.{number_bytes, pointer_bytes, load_pointer}
use Rattle.object_store.specs.Reach.{reach_table}
use Rattle.lib_defs.specs.declared.value.Value.TheVariants.{Ptr}
use Rattle.lib_defs.specs.declared.violation.Violation.TheVariants.{NullPointer, SizeAbove, TokenNotEnded}
use Rattle.lib_defs.specs.Spans.{span}
use Rattle.lib_defs.specs.Reply.{Broken, Fails, FailsReach, IsUndefined, null}
use Rattle.lib_defs.specs.Rules.{done_with, run_rule}
use Rattle.lib_defs.specs.TokenRows.{both_patches, token_row}
use Rattle.lib_defs.proofs.ExampleStore.{object, store, at, known, text_bytes, wide_bytes, unset}

-- a text, the separators, `rsize_t m`, and `char *p` that is unset or points to a place
abbrev four : List (Option ℕ) → List (Option ℕ) → ℕ → List (Option ℕ) → Storage
four text separators m place = store
    (object Plain text ∷ object Literal separators ∷ object Plain (known (number_bytes 8 m)) ∷ object Plain place ∷ [])

abbrev a : Pointer
a = at 4 0 5

abbrev comma : Pointer
comma = at 6 0 2

abbrev m : Pointer
m = at 8 0 8

abbrev p : Pointer
p = at 10 0 16

abbrev start : Storage
start = four (text_bytes (codes "a,,b")) (text_bytes (codes ",")) 5 (unset 16)

-- strtok_s(a, &m, ",", &p) of "a,,b": the token is "a", its separator becomes null, and the text goes on behind it
first : run_rule (token_row 1 a m comma p) start
    ≡ done_with (record { place = at 4 1 5; bytes = Some 0 ∷ [] } ∷ both_patches m p 3 (at 4 2 5)) (Ptr a)
unfolding span reach_table pointer_bytes load_pointer
first = refl

-- with a null s1 it goes on at p: the next token is ended by the null
abbrev after_first : Storage
after_first = four (known (97 ∷ 0 ∷ 44 ∷ 98 ∷ 0 ∷ [])) (text_bytes (codes ",")) 3 (known (pointer_bytes (at 4 2 5)))

second : run_rule (token_row 1 null m comma p) after_first ≡ done_with (both_patches m p 1 (at 4 4 5)) (Ptr (at 4 3 5))
unfolding span reach_table pointer_bytes load_pointer
second = refl

-- and then there is none
abbrev after_second : Storage
after_second = four (known (97 ∷ 0 ∷ 44 ∷ 98 ∷ 0 ∷ [])) (text_bytes (codes ",")) 1 (known (pointer_bytes (at 4 4 5)))

third : run_rule (token_row 1 null m comma p) after_second ≡ done_with (both_patches m p 1 (at 4 4 5)) (Ptr null)
unfolding span reach_table pointer_bytes load_pointer
third = refl

-- two bytes without a null, size 2: the token is not ended, and nothing is stored; one byte more would be read
not_ended : run_rule (token_row 1 (at 4 0 2) m comma p)
    (four (known (codes "ab")) (text_bytes (codes ",")) 2 (unset 16))
    ≡ Broken 6 TokenNotEnded None (Ptr null)
unfolding span reach_table pointer_bytes load_pointer
not_ended = refl

beyond : run_rule (token_row 1 (at 4 0 2) m comma p) (four (known (codes "ab")) (text_bytes (codes ",")) 3 (unset 16))
    ≡ Fails (FailsReach L12 (at 4 2 2) 1 1 TextRead)
unfolding span reach_table pointer_bytes load_pointer
beyond = refl

-- a window of no units is not ended, but the separators are read
no_window : run_rule (token_row 1 (at 4 0 2) m comma p)
    (four (known (codes "ab")) (text_bytes (codes ",")) 0 (unset 16))
    ≡ Broken 6 TokenNotEnded None (Ptr null)
unfolding span reach_table pointer_bytes load_pointer
no_window = refl

no_separators
    : run_rule (token_row 1 (at 4 0 2) m (at 6 0 1) p) (four (known (codes "ab")) (known (codes ",")) 0 (unset 16))
    ≡ Fails (FailsReach L12 (at 6 1 1) 1 1 TextRead)
unfolding span reach_table pointer_bytes load_pointer
no_separators = refl

-- a null place where s1 is null, and a size above RSIZE_MAX
null_place : run_rule (token_row 1 null m comma p)
    (four (text_bytes (codes "ab")) (text_bytes (codes ",")) 3 (known (pointer_bytes null)))
    ≡ Broken 4 NullPointer None (Ptr null)
unfolding span reach_table pointer_bytes load_pointer
null_place = refl

size_above : run_rule (token_row 1 a m comma p)
    (four (text_bytes (codes "ab")) (text_bytes (codes ",")) 16777217 (unset 16))
    ≡ Broken 5 SizeAbove None (Ptr null)
unfolding span reach_table pointer_bytes load_pointer
size_above = refl

-- the text is a literal: its separator cannot be stored over
literal : run_rule (token_row 1 a m comma p)
    (store (object Literal (text_bytes (codes "a,,b")) ∷ object Literal (text_bytes (codes ",")) ∷ object Plain
    (known (number_bytes 8 5)) ∷ object Plain (unset 16) ∷ []))
    ≡ Fails (FailsReach L5 (at 4 1 5) 1 1 TextWrite)
unfolding span reach_table pointer_bytes load_pointer
literal = refl

-- the same in wide characters, with places in units
wide : run_rule (token_row 4 (at 4 0 20) m (at 6 0 8) p)
    (four (wide_bytes (codes "a,,b")) (wide_bytes (codes ",")) 5 (unset 16))
    ≡ done_with (record { place = at 4 4 20; bytes = known (0 ∷ 0 ∷ 0 ∷ 0 ∷ []) } ∷ both_patches m p 3 (at 4 8 20))
    (Ptr (at 4 0 20))
unfolding span reach_table pointer_bytes load_pointer
wide = refl

-- null pointers to the size, to the separators, to the place
null_size : run_rule (token_row 1 a null null null) start ≡ Broken 1 NullPointer None (Ptr null)
null_size = refl

null_separators : run_rule (token_row 1 a m null null) start ≡ Broken 2 NullPointer None (Ptr null)
null_separators = refl

null_pointer : run_rule (token_row 1 a m comma null) start ≡ Broken 3 NullPointer None (Ptr null)
null_pointer = refl

-- the place is read where s1 is null alone, and then the size; each may be indeterminate
unset_place : run_rule (token_row 1 null m comma p) start ≡ Fails (IsUndefined U05)
unfolding span reach_table pointer_bytes load_pointer
unset_place = refl

unset_size : run_rule (token_row 1 a p comma p) start ≡ Fails (IsUndefined U05)
unfolding span reach_table pointer_bytes load_pointer
unset_size = refl

-- a unit of the window that is indeterminate
unset_unit : run_rule (token_row 1 a m comma p) (four (unset 5) (text_bytes (codes ",")) 5 (unset 16))
    ≡ Fails (IsUndefined U05)
unfolding span reach_table pointer_bytes load_pointer
unset_unit = refl

-- separators alone: with a null behind them there is no token, and without one it is not ended
separators_null : run_rule (token_row 1 (at 4 0 3) m comma p)
    (four (text_bytes (codes ",,")) (text_bytes (codes ",")) 3 (unset 16))
    ≡ done_with (both_patches m p 1 (at 4 2 3)) (Ptr null)
unfolding span reach_table pointer_bytes load_pointer
separators_null = refl

separators_not_ended : run_rule (token_row 1 (at 4 0 3) m comma p)
    (four (text_bytes (codes ",,")) (text_bytes (codes ",")) 2 (unset 16))
    ≡ Broken 6 TokenNotEnded None (Ptr null)
unfolding span reach_table pointer_bytes load_pointer
separators_not_ended = refl

-- no separators: all of the text is the token
no_separator : run_rule (token_row 1 (at 4 0 3) m (at 6 0 1) p)
    (four (text_bytes (codes "ab")) (text_bytes []) 3 (unset 16))
    ≡ done_with (both_patches m p 1 (at 4 2 3)) (Ptr (at 4 0 3))
unfolding span reach_table pointer_bytes load_pointer
no_separator = refl

-- of the size and the place, neither of which can be stored, the size is told
const_both : run_rule (token_row 1 a m comma p)
    (store (object Plain (text_bytes (codes "a,,b")) ∷ object Literal (text_bytes (codes ",")) ∷ object Const
    (known (number_bytes 8 5)) ∷ object Const (unset 16) ∷ []))
    ≡ Fails (FailsReach L8 m 8 8 TextWrite)
unfolding span reach_table pointer_bytes load_pointer
const_both = refl
