-- A row that is found by its name has that name, and each name is found.
use Rattle.std.proofs.Common.{◌≡◌, ℕ, suc, ◌+◌, Bool, true, false, cond, List, [], ◌∷◌, slice_get, Option, Some, None}
use Rattle.std.proofs.Common.{IsSome, refl, ap, arith}
use Rattle.std.specs.Option.{option_map}
use Rattle.std.specs.Str.{bytes_eq}
use Rattle.std.proofs.lemmas.Option.{same_Some}
use Rattle.std.proofs.lemmas.Slice.Eq.{bytes_eq-Decides}
use Rattle.lib_defs.specs.declared.row.Row.{Row}
use Rattle.lib_defs.specs.declared.row_name.RowName.{RowName}
use Rattle.lib_defs.specs.declared.row_name.RowName.TheVariants as n
use Rattle.lib_defs.specs.Names.{name_text, row_names}
use Rattle.lib_defs.specs.RowNumbers.{name_at, named_from, row_named, IsRow}

-- the row is the one at this place, counted from k, and has this name
record Named (names : List RowName) (k : ℕ) (text : List ℕ) (row : Row) : Type 0 where
  i : ℕ
  number : row.0 ≡ k + i
  named : option_map name_text (slice_get names i) ≡ Some text

named_if : (name : RowName) (names : List RowName) (k : ℕ) (text : List ℕ) (row : Row) (b : Bool)
    → bytes_eq (name_text name) text ≡ b
    → cond b (Some (record { 0 = k })) (named_from (k + 1) names text) ≡ Some row
    → (named_from (k + 1) names text ≡ Some row → Named names (k + 1) text row) → Named (name ∷ names) k text row
named_if name names k text row true is e rest =
    let same : record { 0 = k } ≡ row = same_Some _ row e in
    let number : k ≡ row.0 = ap (λ (r : Row). r.0) same in
    record { i = 0; number = omega (arith, number); named = ap Some ((bytes_eq-Decides (name_text name) text).0 is) }
named_if name names k text row false is e rest =
    let h = rest e in
    record { i = suc h.i; number = omega (arith, h.number); named = h.named }

named_by : (names : List RowName) (k : ℕ) (text : List ℕ) (row : Row) → named_from k names text ≡ Some row
    → Named names k text row
named_by [] k text row e = cc
named_by (name ∷ names) k text row e =
    named_if name names k text row (bytes_eq (name_text name) text) refl e (named_by names (k + 1) text row)

pub row_has_name : (text : List ℕ) (row : Row) → row_named text ≡ Some row
    → option_map name_text (name_at row) ≡ Some text
row_has_name text row e =
    let h = named_by row_names 0 text row e in
    let same : row.0 ≡ h.i = omega (arith, h.number) in
    rw same h.named

is_row : (found : Option RowName) (text : List ℕ) → option_map name_text found ≡ Some text → IsSome found
is_row None text e = cc
is_row (Some name) text e = refl

pub row_is_row : (text : List ℕ) (row : Row) → row_named text ≡ Some row → IsRow row
row_is_row text row e = is_row (name_at row) text (row_has_name text row e)

pub name_has_row : (name : RowName) → IsSome (row_named (name_text name))
name_has_row n.MemcpyS = refl
name_has_row n.WmemcpyS = refl
name_has_row n.MemmoveS = refl
name_has_row n.WmemmoveS = refl
name_has_row n.MemsetS = refl
name_has_row n.StrcpyS = refl
name_has_row n.WcscpyS = refl
name_has_row n.StrncpyS = refl
name_has_row n.WcsncpyS = refl
name_has_row n.StrcatS = refl
name_has_row n.WcscatS = refl
name_has_row n.StrncatS = refl
name_has_row n.WcsncatS = refl
name_has_row n.StrtokS = refl
name_has_row n.WcstokS = refl
name_has_row n.StrerrorS = refl
name_has_row n.WctombS = refl
name_has_row n.StrnlenS = refl
name_has_row n.WcsnlenS = refl
name_has_row n.StrerrorlenS = refl
name_has_row n.SetConstraintHandlerS = refl
name_has_row n.AbortHandlerS = refl
name_has_row n.IgnoreHandlerS = refl
name_has_row n.Memcpy = refl
name_has_row n.Memmove = refl
name_has_row n.Wmemcpy = refl
name_has_row n.Memset = refl
name_has_row n.Wmemset = refl
name_has_row n.Memcmp = refl
name_has_row n.Memchr = refl
name_has_row n.Strlen = refl
name_has_row n.Wcslen = refl
name_has_row n.Strcpy = refl
name_has_row n.Wcscpy = refl
name_has_row n.Strcat = refl
name_has_row n.Wcscat = refl
name_has_row n.Strncpy = refl
name_has_row n.Strncat = refl
name_has_row n.Strcmp = refl
name_has_row n.Strncmp = refl
name_has_row n.Wcscmp = refl
name_has_row n.Strchr = refl
name_has_row n.Strrchr = refl
name_has_row n.Malloc = refl
name_has_row n.Calloc = refl
name_has_row n.Realloc = refl
name_has_row n.Free = refl
name_has_row n.Exit = refl
name_has_row n.Abort = refl
name_has_row n.Putchar = refl
name_has_row n.Puts = refl
name_has_row n.Getchar = refl
name_has_row n.Printf = refl
