-- How integers and pointers stand in bytes (6.2.6), and what a load of them gives.
use Rattle.std.specs.Prelude.{ℕ, zero, suc, ◌+◌, ◌-◌, ◌*◌, ◌/◌, ◌%◌, ◌^◌, nat_le, ℤ, pos, negsuc}
use Rattle.std.specs.Prelude.{List, [], ◌∷◌, ◌++◌, take, drop, map}
use Rattle.std.specs.Prelude.{Option, Some, None, unwrap_or, ok_or, Result, Ok, Err, if◌then◌else◌}
use Rattle.std.specs.Option.{option_map}
use Rattle.acc_num.specs.declared.kind.IntKind.{IntKind}
use Rattle.acc_num.specs.declared.kind.IntKind.TheVariants.{Bool as Truth, U8}
use Rattle.acc_num.specs.Kinds.{width_of, bytes_of}
use Rattle.acc_num.specs.Operations.{represented_by}
use Rattle.critical_table.specs.declared.code.Code.{Code}
use Rattle.critical_table.specs.declared.code.Code.TheVariants.{U05, U12}
use Rattle.object_store.specs.declared.pointer.Pointer.{Pointer}

-- so many bytes of a number, the least first; of a number that has more, those of it modulo a power of 256
abbrev pub number_bytes : ℕ → ℕ → List ℕ
number_bytes zero number = []
number_bytes (suc n) number = number % 256 ∷ number_bytes n (number / 256)

-- the number whose bytes these are, the least first
abbrev pub bytes_number : List ℕ → ℕ
bytes_number [] = 0
bytes_number (b ∷ bytes) = b + 256 * bytes_number bytes

-- the number that represents a value of the kind: two's complement, so 2^N is added to a negative one (6.2.6.2p2)
abbrev pub representation_of : IntKind → ℤ → ℕ
representation_of kind (pos value) = value
representation_of kind (negsuc n) = 2 ^ width_of kind - (n + 1)

-- the bytes of a value of the kind (6.2.6.1p4)
unfoldable pub integer_bytes : IntKind → ℤ → List ℕ
integer_bytes kind value = number_bytes (bytes_of kind) (representation_of kind value)

-- a pointer is its four numbers, of four bytes each
unfoldable pub pointer_bytes : Pointer → List ℕ
pointer_bytes p = number_bytes 4 p.object ++ number_bytes 4 p.offset ++ number_bytes 4 p.low ++ number_bytes 4 p.high

-- the bytes, where none is indeterminate
abbrev pub known_bytes : List (Option ℕ) → Option (List ℕ)
known_bytes [] = Some []
known_bytes (None ∷ bytes) = None
known_bytes (Some b ∷ bytes) = option_map (λ known. b ∷ known) (known_bytes bytes)

-- the number of the bytes, where none is indeterminate
abbrev pub known_number : List (Option ℕ) → Option ℕ
known_number bytes = option_map bytes_number (known_bytes bytes)

-- the number that a load by the kind finds: an indeterminate byte stops it, beside one by `unsigned char`, which
-- finds 0
abbrev pub loaded_number : IntKind → List (Option ℕ) → Result ℕ Code
loaded_number U8 bytes = Ok (bytes_number (map (λ b. unwrap_or b 0) bytes))
loaded_number kind bytes = ok_or (known_number bytes) U05

-- the value that a number represents in the kind; in `_Bool` only 0 and 1 represent one
abbrev pub value_of_number : IntKind → ℕ → Result ℤ Code
value_of_number Truth number = if nat_le number 1 then Ok (pos number) else Err U12
value_of_number kind number = Ok (represented_by kind (pos number))

-- the value of a number that was found, if one was
abbrev pub value_of_load : IntKind → Result ℕ Code → Result ℤ Code
value_of_load kind (Ok number) = value_of_number kind number
value_of_load kind (Err code) = Err code

-- A load of an integer of the kind.
unfoldable pub load_integer : IntKind → List (Option ℕ) → Result ℤ Code
load_integer kind bytes = value_of_load kind (loaded_number kind bytes)

-- the pointer of four numbers, where each is known
abbrev pub known_pointer : (object offset low high : Option ℕ) → Option Pointer
known_pointer (Some object) (Some offset) (Some low) (Some high) =
    Some (record { object = object; offset = offset; low = low; high = high })
known_pointer _ _ _ _ = None

-- A load of a pointer: an indeterminate byte stops it.
unfoldable pub load_pointer : List (Option ℕ) → Result Pointer Code
load_pointer bytes = ok_or (known_pointer (known_number (take 4 bytes)) (known_number (take 4 (drop 4 bytes)))
    (known_number (take 4 (drop 8 bytes))) (known_number (take 4 (drop 12 bytes)))) U05
