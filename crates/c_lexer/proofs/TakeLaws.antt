-- What a reader knows after one byte more, and at the end.
use Rattle.std.proofs.Common.{◌≡◌, ◌⊎◌, inl, inr, ℕ, ◌==◌, ◌&&◌, List, [], ◌∷◌, ◌++◌, Bool, true, false, refl, sym}
use Rattle.std.proofs.Common.{◌∙◌, ap, subst}
use Rattle.std.proofs.lemmas.Bool.{eqb-true, eq-eqb, false≢true, not-true}
use Rattle.std.proofs.lemmas.Option.{none-some}
use Rattle.std.specs.Prelude.{Option, Some, None}
use Rattle.critical_table.specs.declared.refusal.Refusal.{Refusal}
use Rattle.critical_table.specs.declared.pos.Pos.{Pos}
use Rattle.c_lexer.specs.declared.ending.Ending.{Ending}
use Rattle.c_lexer.specs.declared.ending.Ending.TheVariants as ending
use Rattle.c_lexer.specs.declared.mode.Mode.{Mode}
use Rattle.c_lexer.specs.declared.mode.Mode.TheVariants as mode
use Rattle.c_lexer.specs.ReadPart.{next, mode_if, is_dots, is_other}
use Rattle.c_lexer.specs.ReaderState.{ReaderState, Closes, after_byte, after_ending, next_part, BeginsOr, IsParted}
use Rattle.c_lexer.specs.ReaderState.{is_pair}
use Rattle.c_lexer.specs.ReadSoFar.{Ahead, Anything, Byte, End, Follows, IsRead, ahead_of}
use Rattle.c_lexer.proofs.Cases.{not_is_false}
use Rattle.c_lexer.proofs.TokenEnds.{Stops}
use Rattle.c_lexer.proofs.ReaderLaws.{closes, part_goes_on, part_begins, stays, gives_back}

-- what is open after a part has ended: nothing, unless the bytes are refused
mode_after_ending : (end : Ending) (before after : ReaderState) → after ≡ after_ending before end
    → before.refused ≡ None → ((after.refused ≡ None) × (after.mode ≡ None))
    ⊎ ((found : Refusal × Pos) × (after.refused ≡ Some found))
mode_after_ending ending.White before after is none =
    inl (ap (λ (r : ReaderState). r.refused) is ∙ none, ap (λ (r : ReaderState). r.mode) is)
mode_after_ending (ending.Token token) before after is none =
    inl (ap (λ (r : ReaderState). r.refused) is ∙ none, ap (λ (r : ReaderState). r.mode) is)
mode_after_ending (ending.Refused why) before after is none =
    inr ((why, before.place.pos), ap (λ (r : ReaderState). r.refused) is)

-- the same, whatever is open
pub mode_after_close : (open_part : Option Mode) (before after : ReaderState) → before.mode ≡ open_part
    → Closes open_part before after → before.refused ≡ None
    → ((after.refused ≡ None) × (after.mode ≡ None)) ⊎ ((found : Refusal × Pos) × (after.refused ≡ Some found))
mode_after_close None before after at c none =
    inl (ap (λ (r : ReaderState). r.refused) c ∙ none, ap (λ (r : ReaderState). r.mode) c ∙ at)
mode_after_close (Some here) before after at c none = mode_after_ending c.0 before after c.2 none

-- the open part, if there is one, ends where this comes
StopsAt : Option Mode → List ℕ → Ahead → Type 0
StopsAt None text ahead = Unit {0}
StopsAt (Some here) text ahead = (here ≡ mode.Dots → ⊥) × ((rest : List ℕ) → Follows ahead rest → Stops here text rest)

-- what is open ends, if anything is
close_any : (ahead : Ahead) (open_part : Option Mode) (before after : ReaderState) (bytes : List ℕ)
    → before.mode ≡ open_part → before.refused ≡ None → StopsAt open_part before.text ahead
    → IsRead ahead before bytes → Closes open_part before after
    → IsRead ahead after bytes
unfolding StopsAt
close_any ahead None before after bytes at none stops read c = subst (λ r. IsRead ahead r bytes) (sym c) read
close_any ahead (Some here) before after bytes at none stops read c =
    closes ahead here before after bytes none at stops.0 stops.1 read c

-- the byte begins a part, unless the bytes are refused
begins_or : (found : Option (Refusal × Pos)) (mid after : ReaderState) (byte : ℕ) (bytes : List ℕ) → mid.refused ≡ found
    → ((mid.refused ≡ None) × (mid.mode ≡ None)) ⊎ ((f : Refusal × Pos) × (mid.refused ≡ Some f))
    → BeginsOr found mid byte after → IsRead (Byte byte) mid bytes → IsRead Anything after (bytes ++ (byte ∷ []))
begins_or None mid after byte bytes at (inl e) b read =
    subst (λ r. IsRead Anything r (bytes ++ (byte ∷ []))) (sym b) (part_begins mid byte bytes e.0 e.1 read)
begins_or None mid after byte bytes at (inr e) b read = absurd (none-some _ (sym at ∙ e.1))
begins_or (Some f) mid after byte bytes at e b read =
    subst (λ r. IsRead Anything r (bytes ++ (byte ∷ []))) (sym b) (stays mid f byte bytes at read)

-- a byte that doesn't go on with what is open ends it
stops_byte : (open_part : Option Mode) (text : List ℕ) (byte : ℕ) → (open_part ≡ Some mode.Dots → byte ≡ 46)
    → next_part open_part text byte ≡ None → StopsAt open_part text (Byte byte)
unfolding StopsAt next
stops_byte None text byte point leads = tt
stops_byte (Some here) text byte point leads = (
  λ is.
      let third : byte ≡ 46 = point (ap Some is) in
      let more : next mode.Dots text byte ≡ Some mode.Mark = ap (λ b. mode_if b mode.Mark) (eq-eqb byte 46 third) in
      none-some _ (sym leads ∙ (ap (λ m. next m text byte) is ∙ more)),
  λ rest follows. subst (Stops here text) (sym follows.1) leads,
)

-- the byte ends what is open, and begins what comes
pub byte_ends_part : (before mid after : ReaderState) (byte : ℕ) (bytes : List ℕ) → before.refused ≡ None
    → (before.mode ≡ Some mode.Dots → byte ≡ 46) → next_part before.mode before.text byte ≡ None
    → Closes before.mode before mid → BeginsOr mid.refused mid byte after
    → IsRead (Byte byte) before bytes → IsRead Anything after (bytes ++ (byte ∷ []))
byte_ends_part before mid after byte bytes none point leads c b read =
    begins_or mid.refused mid after byte bytes refl (mode_after_close before.mode before mid refl c none) b
    (close_any (Byte byte) before.mode before mid bytes refl none
    (stops_byte before.mode before.text byte point leads) read c)

-- the byte goes on with what is open
pub byte_goes_on : (open_part : Option Mode) (before : ReaderState) (then : Mode) (byte : ℕ) (bytes : List ℕ)
    → before.mode ≡ open_part → before.refused ≡ None → next_part open_part before.text byte ≡ Some then
    → IsRead (Byte byte) before bytes
    → IsRead Anything (after_byte before then byte) (bytes ++ (byte ∷ []))
byte_goes_on None before then byte bytes at none leads read = absurd (none-some _ leads)
byte_goes_on (Some here) before then byte bytes at none leads read = part_goes_on before here
    then byte bytes none at leads read

-- two points end where no third comes
stops_points : (coming : Option ℕ) (rest : List ℕ) → is_other coming ≡ true → Follows (ahead_of coming) rest
    → Stops mode.Dots (46 ∷ 46 ∷ []) rest
unfolding next
stops_points None rest other follows = subst (Stops mode.Dots (46 ∷ 46 ∷ [])) (sym follows) tt
stops_points (Some byte) rest other follows =
    subst (Stops mode.Dots (46 ∷ 46 ∷ [])) (sym follows.1) (ap (λ b. mode_if b mode.Mark) (not-true (byte == 46) other))

-- what is no other byte is a point
third_point : (coming : Option ℕ) → is_other coming ≡ false → coming ≡ Some 46
third_point None other = absurd (false≢true (sym other))
third_point (Some byte) other = ap Some (eqb-true byte 46 (not_is_false (byte == 46) other))

-- two points are parted, or what is open is no pair
parts_pair : (coming : Option ℕ) (t : Bool) (before after : ReaderState) (bytes : List ℕ)
    → before.mode ≡ Some mode.Dots → is_other coming ≡ t → before.refused ≡ None → IsParted t before after
    → IsRead (ahead_of coming) before bytes
    → IsRead (ahead_of coming) after bytes × (after.refused ≡ None) × (after.mode ≡ Some mode.Dots → coming ≡ Some 46)
parts_pair coming true before after bytes at other none parted read =
    let back = gives_back (ahead_of coming) before after bytes none at
    (λ rest follows. stops_points coming rest other follows) read parted in
    (back.0, back.1, λ points. let e : Some mode.Dot ≡ Some mode.Dots = sym back.2 ∙ points in cc)
parts_pair coming false before after bytes at other none parted read = (
  subst (λ r. IsRead (ahead_of coming) r bytes) (sym parted) read,
  ap (λ (r : ReaderState). r.refused) parted
      ∙ none,
  λ points. third_point coming other,
)

-- two points are the mode of two points alone
dots_only : (here : Mode) → is_dots here ≡ true → here ≡ mode.Dots
dots_only mode.Dots is = refl
dots_only mode.Word is = absurd (false≢true is)
dots_only mode.Wide is = absurd (false≢true is)
dots_only (mode.Number sign) is = absurd (false≢true is)
dots_only mode.Dot is = absurd (false≢true is)
dots_only mode.Slash is = absurd (false≢true is)
dots_only mode.Mark is = absurd (false≢true is)
dots_only (mode.Quoted quote hidden) is = absurd (false≢true is)
dots_only mode.Quotation is = absurd (false≢true is)
dots_only mode.LineComment is = absurd (false≢true is)
dots_only (mode.BlockComment star) is = absurd (false≢true is)
dots_only mode.Space is = absurd (false≢true is)
dots_only mode.Directive is = absurd (false≢true is)
dots_only mode.Alien is = absurd (false≢true is)

-- the same of any open part
parts_open : (coming : Option ℕ) (here : Mode) (t : Bool) (before after : ReaderState) (bytes : List ℕ)
    → before.mode ≡ Some here → is_dots here ≡ t → before.refused ≡ None → IsParted (t && is_other coming) before after
    → IsRead (ahead_of coming) before bytes → IsRead (ahead_of coming) after bytes × (after.refused ≡ None)
    × (after.mode ≡ Some mode.Dots → coming ≡ Some 46)
parts_open coming here true before after bytes at dots none parted read =
    parts_pair coming (is_other coming) before after bytes (at ∙ ap Some (dots_only here dots)) refl none parted read
parts_open coming here false before after bytes at dots none parted read = (
  subst (λ r. IsRead (ahead_of coming) r bytes) (sym parted) read,
  ap (λ (r : ReaderState). r.refused) parted ∙ none,
  λ points.
      let e : Some here ≡ Some mode.Dots = sym at ∙ (sym (ap (λ (r : ReaderState). r.mode) parted) ∙ points) in
      let is : here ≡ mode.Dots = cc in
      absurd (false≢true (sym dots ∙ ap is_dots is)),
)

-- the same, whatever is open
pub parts : (coming : Option ℕ) (open_part : Option Mode) (before after : ReaderState) (bytes : List ℕ)
    → before.mode ≡ open_part → before.refused ≡ None → IsParted (is_pair open_part coming) before after
    → IsRead (ahead_of coming) before bytes → IsRead (ahead_of coming) after bytes × (after.refused ≡ None)
    × (after.mode ≡ Some mode.Dots → coming ≡ Some 46)
parts coming None before after bytes at none parted read = (
  subst (λ r. IsRead (ahead_of coming) r bytes) (sym parted) read,
  ap (λ (r : ReaderState). r.refused) parted ∙ none,
  λ points. let e : None ≡ Some mode.Dots = sym at ∙ (sym (ap (λ (r : ReaderState). r.mode) parted) ∙ points) in
      absurd (none-some _ e),
)
parts coming (Some here) before after bytes at none parted read =
    parts_open coming here (is_dots here) before after bytes at refl none parted read

-- what is open ends where nothing comes
stops_end : (open_part : Option Mode) (text : List ℕ) → (open_part ≡ Some mode.Dots → ⊥) → StopsAt open_part text End
unfolding StopsAt
stops_end None text point = tt
stops_end (Some here) text point = (λ is. point (ap Some is), λ rest follows. subst (Stops here text) (sym follows) tt)

-- what is open ends with the bytes
pub last_closes : (before after : ReaderState) (bytes : List ℕ) → before.refused ≡ None
    → (before.mode ≡ Some mode.Dots → ⊥) → Closes before.mode before after → IsRead End before bytes
    → IsRead End after bytes
last_closes before after bytes none point c read =
    close_any End before.mode before after bytes refl none (stops_end before.mode before.text point) read c

-- nothing is open where nothing is refused
pub nothing_open : (before after : ReaderState) → before.refused ≡ None → Closes before.mode before after
    → after.refused ≡ None → after.mode ≡ None
nothing_open before after none c whole =
    elim (mode_after_close before.mode before after refl c none) [
      | inl e ↦ e.1
      | inr e ↦ absurd (none-some _ (sym whole ∙ e.1))
    ]
