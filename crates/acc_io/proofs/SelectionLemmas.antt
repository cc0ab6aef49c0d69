-- What a look-up that found a place selects.
use Rattle.std.proofs.Common.{◌≡◌, List, ℕ, Option, Some, None, String, Vec, true, refl}
use Rattle.std.specs.Option.{option_map, is_some}
use Rattle.acc_io.specs.declared.place.Place.{Place}
use Rattle.acc_io.specs.Held.{Held, file_of, Selects}
use Rattle.acc_io.specs.Files.{files_of, left_of}

-- where the look-up found a place, the file of that name is selected from that place on
pub Selects-left_of : {Y Z : Type 0} (files : List (String Y × Vec ℕ Z)) (held : Held) (name : List ℕ)
    (place : Option Place)
    → files_of files ≡ held.files
    → file_of (files_of files) name ≡ option_map (λ (it : Place). left_of files (Some it)) place
    → is_some place ≡ true
    → Selects (Some held) (Some (record { files = files_of files; left = left_of files place })) name
Selects-left_of files held name None same found some = absurd (cc some)
Selects-left_of files held name (Some place) same found some =
    rw (← same) (left_of files (Some place), found, refl)
