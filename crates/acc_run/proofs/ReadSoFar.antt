-- A file is read piece after piece.
use Rattle.std.proofs.Common.{◌≡◌, ℕ, ◌-◌, ◌≤◌, List, [], ◌∷◌, ◌++◌, length, inl, inr, refl, sym, ◌∙◌, ap, subst, arith}
use Rattle.std.proofs.Common.{append_assoc, length-append}
use Rattle.std.specs.Prelude.{Option, Some, None, IfSome}
use Rattle.std.specs.Option.{option_map}
use Rattle.acc_io.specs.Held.{Held, Reads}
use Rattle.acc_run.specs.Loading.{ReadsAtMost, ReadsFile, most_read}

-- the files with these bytes before what is left of the selected one
abbrev front : List ℕ → Held → Held
front bytes held = record { files = held.files; left = bytes ++ held.left }

-- what is left of the selected file, if there is one
abbrev left_of : Option Held → List ℕ
left_of None = []
left_of (Some held) = held.left

-- nothing is read at first
pub read_nothing : (contents : Option Held) → Reads contents contents []
read_nothing None = refl
read_nothing (Some held) = refl

-- a piece more is read
pub read_more : (before between now : Option Held) (bytes more : List ℕ) → Reads before between bytes
    → Reads between now more → Reads before now (bytes ++ more)
read_more before between None bytes more first second = first ∙ ap (option_map (front bytes)) second
read_more before between (Some held) bytes more first second =
    let assoc = sym (append_assoc bytes more held.left) in
    first ∙ (ap (option_map (front bytes)) second
    ∙ ap (λ left. let held : Held = record { files = held.files; left = left } in Some held) assoc)

-- where nothing is left, and an empty piece was read, all is read
pub read_to_end : (selected contents : Option Held) (bytes piece all : List ℕ) → Reads selected contents bytes
    → IfSome contents (λ held. held.left ≡ []) → length piece ≡ 0 → all ≡ bytes ++ piece
    → IfSome selected (λ held. ReadsFile held.left all)
read_to_end None contents bytes piece all so_far end empty is = tt
read_to_end (Some held) None bytes piece all so_far end empty is = cc
read_to_end (Some held) (Some rest) bytes [] all so_far end empty is =
    inl (ap left_of so_far ∙ (ap (λ more. bytes ++ more) end ∙ sym is))
read_to_end (Some held) (Some rest) bytes (x ∷ piece) all so_far end empty is = absurd (omega arith)

-- as much as may be is read
pub read_to_limit : (selected contents : Option Held) (bytes : List ℕ) → Reads selected contents bytes
    → most_read ≤ length bytes → IfSome selected (λ held. ReadsFile held.left bytes)
read_to_limit None contents bytes so_far full = tt
read_to_limit (Some held) None bytes so_far full = cc
read_to_limit (Some held) (Some rest) bytes so_far full = inr (rest.left, ap left_of so_far, omega arith)

-- a failed call reads nothing
pub reads_nothing : (most : ℕ) (before now : Option Held) → now ≡ before → ReadsAtMost most before now
reads_nothing most before now same = ([], omega arith, subst (λ c. Reads before c []) (sym same) (read_nothing before))

-- what was read, and a piece more that is no longer than may be
pub reads_more : (most : ℕ) (before between now : Option Held) (bytes : List ℕ) (count : ℕ) → length bytes ≤ count
    → count ≤ most → Reads before between bytes → ReadsAtMost (most - count) between now → ReadsAtMost most before now
reads_more most before between now bytes count counted short first second =
    let length_of_both : length (bytes ++ second.0) ≤ most = omega (arith, length-append bytes second.0, second.1) in
    (bytes ++ second.0, length_of_both, read_more before between now bytes second.0 first second.2)
