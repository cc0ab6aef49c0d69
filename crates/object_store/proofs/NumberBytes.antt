-- Numbers in bytes, and integers back from them.
use Rattle.std.proofs.Common.{◌≡◌, ℕ, zero, suc, ◌+◌, ◌-◌, ◌/◌, ◌%◌, ◌^◌, ◌<◌, arith, refl, ap, ◌∙◌}
use Rattle.std.proofs.Common.{List, [], ◌∷◌, ◌++◌, length, map, take, set, Some, unwrap_or, Ok, ℤ, pos, negsuc}
use Rattle.std.proofs.Common.{append_assoc}
use Rattle.std.specs.Option.{option_map}
use Rattle.std.proofs.lemmas.List.{take_more_set}
use Rattle.std.proofs.lemmas.Grind.{common_steps}
use Rattle.std.proofs.lemmas.Int.{ints}
use Rattle.acc_num.specs.declared.kind.IntKind.{IntKind}
use Rattle.acc_num.specs.declared.kind.IntKind.TheVariants.{Bool as Truth, I8, U8, I16, U16, I32, U32, I64, U64}
use Rattle.acc_num.specs.Kinds.{bytes_of}
use Rattle.acc_num.specs.Numbers.{InRange}
use Rattle.object_store.specs.Load.{number_bytes, bytes_number, known_bytes, known_number, representation_of}
use Rattle.object_store.specs.Load.{integer_bytes, loaded_number, value_of_number, value_of_load, load_integer}

-- one byte more is written
pub write_more : (bytes : List ℕ) (i rest : ℕ) (all : List ℕ) → i < length bytes
    → take i bytes ++ number_bytes (length bytes - i) rest ≡ all
    → take (i + 1) (set bytes i (rest % 256)) ++ number_bytes (length bytes - (i + 1)) (rest / 256) ≡ all
write_more bytes i rest all more before =
    let left : length bytes - i ≡ suc (length bytes - (i + 1)) = omega arith in
    rw (take_more_set bytes i (rest % 256) more, append_assoc) (rw left at before)

-- as many bytes as the number needs give it back
bytes_number-number_bytes : (n number : ℕ) → number < 256 ^ n → bytes_number (number_bytes n number) ≡ number
bytes_number-number_bytes zero number below = omega arith
bytes_number-number_bytes (suc n) number below =
    let rest : number / 256 < 256 ^ n = omega arith in
    rw (bytes_number-number_bytes n (number / 256) rest) (omega arith)

-- bytes that are all known are these bytes, and their number is known
known_bytes-some : (bytes : List ℕ) → known_bytes (map Some bytes) ≡ Some bytes
known_bytes-some [] = refl
known_bytes-some (b ∷ bytes) = ap (λ known. option_map (λ bs. b ∷ bs) known) (known_bytes-some bytes)

known_number-some : (bytes : List ℕ) → known_number (map Some bytes) ≡ Some (bytes_number bytes)
known_number-some bytes = ap (λ known. option_map bytes_number known) (known_bytes-some bytes)

-- and no 0 stands for one of them
unwrap-some : (bytes : List ℕ) → map (λ b. unwrap_or b 0) (map Some bytes) ≡ bytes
unwrap-some [] = refl
unwrap-some (b ∷ bytes) = ap (λ bs. b ∷ bs) (unwrap-some bytes)

-- each kind finds the number of bytes that are all known
loaded_number-some : (kind : IntKind) (bytes : List ℕ) → loaded_number kind (map Some bytes) ≡ Ok (bytes_number bytes)
loaded_number-some Truth bytes = rw (known_number-some bytes) refl
loaded_number-some I8 bytes = rw (known_number-some bytes) refl
loaded_number-some U8 bytes = rw (unwrap-some bytes) refl
loaded_number-some I16 bytes = rw (known_number-some bytes) refl
loaded_number-some U16 bytes = rw (known_number-some bytes) refl
loaded_number-some I32 bytes = rw (known_number-some bytes) refl
loaded_number-some U32 bytes = rw (known_number-some bytes) refl
loaded_number-some I64 bytes = rw (known_number-some bytes) refl
loaded_number-some U64 bytes = rw (known_number-some bytes) refl

-- a value of a kind is represented by a number of its bytes
representation_below : (kind : IntKind) (value : ℤ) → InRange kind value
    → representation_of kind value < 256 ^ bytes_of kind
representation_below Truth (pos n) h = omega (arith, ints, h)
representation_below Truth (negsuc n) h = omega (arith, ints, h)
representation_below I8 (pos n) h = omega (arith, ints, h)
representation_below I8 (negsuc n) h = omega (arith, ints, h)
representation_below U8 (pos n) h = omega (arith, ints, h)
representation_below U8 (negsuc n) h = omega (arith, ints, h)
representation_below I16 (pos n) h = omega (arith, ints, h)
representation_below I16 (negsuc n) h = omega (arith, ints, h)
representation_below U16 (pos n) h = omega (arith, ints, h)
representation_below U16 (negsuc n) h = omega (arith, ints, h)
representation_below I32 (pos n) h = omega (arith, ints, h)
representation_below I32 (negsuc n) h = omega (arith, ints, h)
representation_below U32 (pos n) h = omega (arith, ints, h)
representation_below U32 (negsuc n) h = omega (arith, ints, h)
representation_below I64 (pos n) h = omega (arith, ints, h)
representation_below I64 (negsuc n) h = omega (arith, ints, h)
representation_below U64 (pos n) h = omega (arith, ints, h)
representation_below U64 (negsuc n) h = omega (arith, ints, h)

-- the number that represents a value is read as that value
value_of_representation : (kind : IntKind) (value : ℤ) → InRange kind value
    → value_of_number kind (representation_of kind value) ≡ Ok value
value_of_representation Truth (pos n) h = grind (arith, ints, common_steps)
value_of_representation Truth (negsuc n) h = absurd (omega (arith, ints))
value_of_representation I8 (pos n) h = grind (arith, ints, common_steps)
value_of_representation I8 (negsuc n) h = grind (arith, ints, common_steps)
value_of_representation U8 (pos n) h = grind (arith, ints, common_steps)
value_of_representation U8 (negsuc n) h = absurd (omega (arith, ints))
value_of_representation I16 (pos n) h = grind (arith, ints, common_steps)
value_of_representation I16 (negsuc n) h = grind (arith, ints, common_steps)
value_of_representation U16 (pos n) h = grind (arith, ints, common_steps)
value_of_representation U16 (negsuc n) h = absurd (omega (arith, ints))
value_of_representation I32 (pos n) h = grind (arith, ints, common_steps)
value_of_representation I32 (negsuc n) h = grind (arith, ints, common_steps)
value_of_representation U32 (pos n) h = grind (arith, ints, common_steps)
value_of_representation U32 (negsuc n) h = absurd (omega (arith, ints))
value_of_representation I64 (pos n) h = grind (arith, ints, common_steps)
value_of_representation I64 (negsuc n) h = grind (arith, ints, common_steps)
value_of_representation U64 (pos n) h = grind (arith, ints, common_steps)
value_of_representation U64 (negsuc n) h = absurd (omega (arith, ints))

-- An integer that was stored is loaded.
pub load_integer-integer_bytes : (kind : IntKind) (value : ℤ) → InRange kind value
    → load_integer kind (map Some (integer_bytes kind value)) ≡ Ok value
unfolding load_integer integer_bytes
load_integer-integer_bytes kind value h =
    let number : bytes_number (integer_bytes kind value) ≡ representation_of kind value =
    bytes_number-number_bytes (bytes_of kind) (representation_of kind value) (representation_below kind value h) in
    ap (value_of_load kind) (loaded_number-some kind (integer_bytes kind value))
    ∙ ap (value_of_number kind) number ∙ value_of_representation kind value h
