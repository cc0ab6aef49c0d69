-- Whether an access reaches its range, or which critical case it is (L.3p2).
use Rattle.std.specs.Prelude.{◌≡◌, ℕ, ◌+◌, ◌%◌, ◌==◌, nat_lt, Bool, true, false, not, ◌&&◌, ◌||◌, List, [], ◌∷◌}
use Rattle.std.specs.Prelude.{length, Option, Some, None, is_none, IsTrue, Result, MatchResult, if◌then◌else◌}
use Rattle.std.specs.Option.{option_map_or, option_or}
use Rattle.std.specs.List.{list_any}
use Rattle.critical_table.specs.declared.case.Case.{Case}
use Rattle.critical_table.specs.declared.case.Case.TheVariants.{L1, L2, L4, L5, L6, L7, L8, L9, L11, L12}
use Rattle.object_store.specs.declared.mark.Mark.{Mark}
use Rattle.object_store.specs.declared.mark.Mark.TheVariants.{Literal, Const, Clash}
use Rattle.object_store.specs.declared.cell.Cell.{Cell}
use Rattle.object_store.specs.declared.by.By.{By}
use Rattle.object_store.specs.declared.by.By.TheVariants.{Star, Arrow, Store, TextRead, TextWrite, OtherRead}
use Rattle.object_store.specs.declared.by.By.TheVariants.{OtherWrite}
use Rattle.object_store.specs.declared.pointer.Pointer.{Pointer}
use Rattle.object_store.specs.Object.{Object, object_of}
use Rattle.object_store.specs.Storage.{Storage}
use Rattle.object_store.specs.Steps.{range}

-- what is accessed: the object with the pointer's number, if there is one, the pointer, the length and the alignment
pub record Access : Type 0 where
  pub object : Option Object
  pub place : Pointer
  pub len : ℕ
  pub align : ℕ

-- the cells of the object, or none
abbrev pub cells : Access → List Cell
cells a = option_map_or (λ o. o.cells) a.object []

-- no object was made with this number; that of a null pointer and of a function is no object's
abbrev pub is_no_object : Access → Bool
is_no_object a = is_none a.object

-- the lifetime of the object ended
abbrev pub is_dead : Access → Bool
is_dead a = option_map_or (λ o. not o.live) a.object false

-- the lifetime ended, at the end of a block or by a release; the number tells an allocated object
abbrev pub is_dead_even : Access → Bool
is_dead_even a = is_dead a && (a.place.object % 2 == 0)

-- the same of an allocated object
abbrev pub is_dead_odd : Access → Bool
is_dead_odd a = is_dead a && (a.place.object % 2 == 1)

-- the pointer's bounds are no part of the object
abbrev pub has_wrong_bounds : Access → Bool
has_wrong_bounds a = nat_lt a.place.high a.place.low || nat_lt (length (cells a)) a.place.high

-- the pointer is just beyond its bounds
abbrev pub is_at_end : Access → Bool
is_at_end a = (a.place.offset == a.place.high) && nat_lt 0 a.len

-- the range is not within the pointer's bounds
abbrev pub is_outside : Access → Bool
is_outside a = nat_lt a.place.offset a.place.low || nat_lt a.place.high (a.place.offset + a.len)

-- the offset is no multiple of the alignment
abbrev pub is_misaligned : Access → Bool
is_misaligned a = not (a.place.offset % a.align == 0)

-- tests of marks
abbrev pub is_clash : Mark → Bool
is_clash Clash = true
is_clash _ = false

abbrev pub is_literal : Mark → Bool
is_literal Literal = true
is_literal _ = false

abbrev pub is_const : Mark → Bool
is_const Const = true
is_const _ = false

-- a byte of the range has such a mark
abbrev pub has_mark : (Mark → Bool) → Access → Bool
has_mark is_it a = list_any (λ c. is_it c.mark) (range (cells a) a.place.offset a.len)

-- a row of the table: a situation, and in each column the case that it is
pub record Row : Type 0 where
  pub situation : Access → Bool
  pub column : By → Option Case

-- the cases of a row, one for each kind of access
abbrev pub columns : (star arrow store text_read text_write other_read other_write : Option Case) → By → Option Case
columns star arrow store text_read text_write other_read other_write Star = star
columns star arrow store text_read text_write other_read other_write Arrow = arrow
columns star arrow store text_read text_write other_read other_write Store = store
columns star arrow store text_read text_write other_read other_write TextRead = text_read
columns star arrow store text_read text_write other_read other_write TextWrite = text_write
columns star arrow store text_read text_write other_read other_write OtherRead = other_read
columns star arrow store text_read text_write other_read other_write OtherWrite = other_write

-- the same case in each column
abbrev pub all : Case → By → Option Case
all case by = Some case

-- The table. Its columns are: by `*` or `[`, by `->`, by a store; read and written by a row of the string and
-- memory functions; read and written by another library row.
unfoldable pub reach_table : List Row
reach_table =
    record {
      situation = is_no_object;
      column = columns (Some L6) (Some L4) (Some L6) (Some L9) (Some L9) (Some L9) (Some L9);
    }
    ∷ record { situation = is_dead_even; column = all L1 }
    ∷ record { situation = is_dead_odd; column = all L11 }
    ∷ record {
      situation = has_wrong_bounds;
      column = columns (Some L6) (Some L4) (Some L6) (Some L9) (Some L9) (Some L9) (Some L9);
    }
    ∷ record {
      situation = is_at_end;
      column = columns (Some L7) (Some L4) (Some L7) (Some L12) (Some L12) (Some L9) (Some L9);
    }
    ∷ record {
      situation = is_outside;
      column = columns (Some L6) (Some L4) (Some L6) (Some L12) (Some L12) (Some L9) (Some L9);
    }
    ∷ record {
      situation = is_misaligned;
      column = columns (Some L6) (Some L4) (Some L6) (Some L9) (Some L9) (Some L9) (Some L9);
    }
    ∷ record { situation = has_mark is_clash; column = columns None None (Some L2) None (Some L2) None (Some L2) }
    ∷ record { situation = has_mark is_literal; column = columns None None (Some L5) None (Some L5) None (Some L5) }
    ∷ record { situation = has_mark is_const; column = columns None None (Some L8) None (Some L8) None (Some L8) }
    ∷ []

-- the case of the first row that holds and has one in the column
abbrev pub first_case : List Row → Access → By → Option Case
first_case [] a by = None
first_case (row ∷ rows) a by = option_or (if row.situation a then row.column by else None) (first_case rows a by)

-- an access in a store
abbrev pub access : Storage → Pointer → ℕ → ℕ → Access
access s place len align = record { object = object_of s.objects place.object; place = place; len = len; align = align }

-- the critical case that the access is; none where it reaches its range
abbrev pub reach : Storage → Pointer → ℕ → ℕ → By → Option Case
reach s place len align by = first_case reach_table (access s place len align) by

-- the answer is this case, or good where there is none
abbrev pub Tells : Result (Unit {0}) Case → Option Case → Type 0
Tells answer found = MatchResult answer (λ _. found ≡ None) (λ case. found ≡ Some case)

-- whether an access of this kind stores
abbrev pub stores : By → Bool
stores Store = true
stores TextWrite = true
stores OtherWrite = true
stores _ = false

-- the range is reached, at some alignment, by some kind of access
pub record IsReached (s : Storage) (place : Pointer) (len : ℕ) : Type 0 where
  pub align : ℕ
  pub by : By
  pub reached : reach s place len align by ≡ None

-- the same, by a kind of access that stores
pub record IsReachedToStore (s : Storage) (place : Pointer) (len : ℕ) : Type 0 where
  pub align : ℕ
  pub by : By
  pub storing : IsTrue (stores by)
  pub reached : reach s place len align by ≡ None
