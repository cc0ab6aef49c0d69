-- What an open word, number or mark is where it ends.
use Rattle.std.proofs.Common.{◌≡◌, ℕ, ◌+◌, ◌≤◌, List, [], ◌∷◌, ◌++◌, Bool, true, false, ◌==◌, ◌||◌}
use Rattle.std.proofs.Common.{cond, length, refl, sym, ◌∙◌, ap, subst, arith, length-append}
use Rattle.std.proofs.lemmas.Option.{none-some}
use Rattle.std.specs.Prelude.{◌≢◌, Some, None, is_some, codes, slice_index}
use Rattle.std.specs.List.{list_all, prefix_len}
use Rattle.std.specs.Option.{option_map}
use Rattle.std.specs.Char.{is_ascii_digit}
use Rattle.critical_table.specs.declared.refusal.Refusal.{Refusal}
use Rattle.critical_table.specs.declared.refusal.Refusal.TheVariants.{Char, Literal, Profile}
use Rattle.c_lexer.specs.declared.ending.Ending.{Ending}
use Rattle.c_lexer.specs.declared.ending.Ending.TheVariants as ending
use Rattle.c_lexer.specs.declared.mode.Mode.{Mode}
use Rattle.c_lexer.specs.declared.mode.Mode.TheVariants as mode
use Rattle.c_lexer.specs.declared.mode.Quote.TheVariants.{Single, Double}
use Rattle.c_lexer.specs.declared.punct.Punct.{Punct}
use Rattle.c_lexer.specs.declared.punct.Punct.TheVariants as p
use Rattle.c_lexer.specs.declared.token.Body.TheVariants as body
use Rattle.c_lexer.specs.Bytes.{is_letter, is_word_byte, is_quote}
use Rattle.c_lexer.specs.Lexing.{Stands}
use Rattle.c_lexer.specs.Lookup.{lookup}
use Rattle.c_lexer.specs.Marks.{mark_text, marks}
use Rattle.c_lexer.specs.Open.{IsOpenWord, IsOpenNumber, IsOpenMark}
use Rattle.c_lexer.specs.LexicalParts.{Part, White, Spelled, IsToken}
use Rattle.c_lexer.specs.ReadPart.{extends, mode_if, next}
use Rattle.c_lexer.specs.Refusals.{goes_on_number}
use Rattle.c_lexer.specs.ReaderState.{EndsTokenAs}
use Rattle.c_lexer.specs.Refusals.{is_exponent, number_len, Fits, IsReason}
use Rattle.c_lexer.specs.Words.{word_of, is_outside}
use Rattle.c_lexer.proofs.WordLaws.{word_full}
use Rattle.c_lexer.proofs.TokenLaws.{one_token}
use Rattle.c_lexer.proofs.Leads.{Other, lead}
use Rattle.c_lexer.proofs.WordPart.{IsRun, word_stands, word_refused}
use Rattle.c_lexer.proofs.NumberPart.{IsNumberRun, number_stands, number_refused}
use Rattle.c_lexer.proofs.MarkPart.{mark_stands}
use Rattle.c_lexer.proofs.MarkFronts.{mark_lead, no_longer, point_alone, slash_alone, point_lead, slash_lead}

-- the part ends: nothing follows, or a byte that doesn't go on with it
abbrev pub Stops : Mode → List ℕ → List ℕ → Type 0
Stops here text [] = Unit {0}
Stops here text (byte ∷ after) = next here text byte ≡ None

-- no part stands, and this is the reason
pub record IsNone (at_line_start : Bool) (bytes : List ℕ) (why : Refusal) : Type 0 where
  pub none : (part : Part) (after : List ℕ) → Stands at_line_start bytes part after → ⊥
  pub is_reason : IsReason at_line_start bytes why

-- the text stands as the part that it is, or is refused
abbrev pub IsEnding : Bool → List ℕ → List ℕ → Ending → Type 0
IsEnding at_line_start text rest ending.White = Stands at_line_start (text ++ rest) (White text) rest
IsEnding at_line_start text rest (ending.Token body) = Stands at_line_start (text ++ rest) (Spelled text body) rest
IsEnding at_line_start text rest (ending.Refused why) = IsNone at_line_start (text ++ rest) why

-- where a refusal other than Char fits, no part stands
pub refuse : (at_line_start : Bool) (bytes : List ℕ) (why reason : Refusal) → reason ≡ why → why ≢ Char
    → Fits at_line_start bytes why → IsReason at_line_start bytes why → IsNone at_line_start bytes reason
refuse at_line_start bytes why reason same other fits is_reason =
    subst (IsNone at_line_start bytes) (sym same)
    (record { none = λ part after stands. stands.no_refusal why other fits; is_reason = is_reason })

-- where a byte doesn't lead on, the test of it fails
pub mode_if_false : (test : Bool) (here : Mode) → mode_if test here ≡ None → test ≡ false
mode_if_false true here stops = absurd (none-some _ (sym stops))
mode_if_false false here stops = refl

-- a word stops where no word byte follows
word_ends : (text rest : List ℕ) → Stops mode.Word text rest → prefix_len is_word_byte rest ≡ 0
unfolding next
word_ends text [] stops = refl
word_ends text (byte ∷ after) stops = rw (mode_if_false (is_word_byte byte) mode.Word stops) refl

-- a whole run of letters and digits ends as a token or is outside of the language
run_end : (at_line_start : Bool) (text rest : List ℕ) (end : Ending) → IsRun text rest
    → EndsTokenAs Profile text end → IsEnding at_line_start text rest end
run_end at_line_start text rest ending.White run what = absurd what
run_end at_line_start text rest (ending.Token token) run what = word_stands at_line_start text rest token run what
run_end at_line_start text rest (ending.Refused why) run what =
    let fits = word_refused at_line_start text rest run what.1 in
    refuse at_line_start (text ++ rest) Profile why what.0 (λ e. cc) fits fits

-- a word ends as a token or is outside of the language
pub word_end : (at_line_start : Bool) (text rest : List ℕ) (end : Ending) → IsOpenWord text → Stops mode.Word text rest
    → EndsTokenAs Profile text end → IsEnding at_line_start text rest end
word_end at_line_start text rest end is stops what =
    run_end at_line_start text rest end (record {
      first = is.first;
      each = is.each;
      ends =
          word_ends text rest stops;
      unquoted = λ wide. absurd (is.not_wide wide);
    }) what

-- neither a letter nor a quote is next
wide_tests : (word double single : Bool)
    → cond word (Some mode.Word)
    (option_map (λ quote. mode.Quoted quote false) (cond double (Some Double) (cond single (Some Single) None))) ≡ None
    → (word ≡ false) × ((double || single) ≡ false)
wide_tests true double single stops = absurd (none-some _ (sym stops))
wide_tests false true single stops = absurd (none-some _ (sym stops))
wide_tests false false true stops = absurd (none-some _ (sym stops))
wide_tests false false false stops = (refl, refl)

-- an L stops where neither a word byte nor a quote follows
wide_ends : (text rest : List ℕ) → Stops mode.Wide text rest → (prefix_len is_word_byte rest ≡ 0)
    × (is_quote (slice_index rest 0) ≡ false)
unfolding next
wide_ends text [] stops = (refl, refl)
wide_ends text (byte ∷ after) stops =
    let tests = wide_tests (is_word_byte byte) (byte == 34) (byte == 39) stops in
    (rw tests.0 refl, tests.1)

-- an L is a name
wide_name : IsToken (codes "L") (body.Name (codes "L"))
unfolding is_outside word_of
wide_name = (
  refl,
  record {
    first = refl;
    each = refl;
    no_word = λ word is. none-some _ (ap word_of is ∙ word_full word);
    inside =
        refl;
  },
)

-- an L alone ends as a name
pub wide_end : (at_line_start : Bool) (text rest : List ℕ) (end : Ending) → text ≡ codes "L" → Stops mode.Wide text rest
    → EndsTokenAs Char text end → IsEnding at_line_start text rest end
wide_end at_line_start text rest ending.White is stops what = absurd what
wide_end at_line_start text rest (ending.Refused why) is stops what =
    absurd (what.1 (body.Name (codes "L")) (subst (λ t. IsToken t (body.Name (codes "L"))) (sym is) wide_name))
wide_end at_line_start text rest (ending.Token token) is stops what =
    let ends = wide_ends text rest stops in
    let run : IsRun text rest = record {
      first = ap (λ t. is_letter (slice_index t 0)) is;
      each = ap (list_all is_word_byte) is;
      ends = ends.0;
      unquoted = λ wide. ends.1;
    } in
    word_stands at_line_start text rest token run what

-- what begins as a number stops where nothing goes on with it
number_ends : (sign : Bool) (text rest : List ℕ) → Stops (mode.Number sign) text rest → number_len sign rest ≡ 0
unfolding next
number_ends sign text [] stops = refl
number_ends sign text (byte ∷ after) stops =
    ap (λ t. cond t (1 + number_len (is_exponent byte) after) 0)
    (mode_if_false (goes_on_number sign byte) (mode.Number (is_exponent byte)) stops)

-- all that goes on as a number ends as one or is refused
number_run_end : (at_line_start : Bool) (text rest : List ℕ) (end : Ending) → IsNumberRun text rest
    → EndsTokenAs Literal text end → IsEnding at_line_start text rest end
number_run_end at_line_start text rest ending.White run what = absurd what
number_run_end at_line_start text rest (ending.Token token) run what =
    number_stands at_line_start text rest token run what
number_run_end at_line_start text rest (ending.Refused why) run what =
    let is_reason = number_refused at_line_start text rest run what.1 in
    refuse at_line_start (text ++ rest) Literal why what.0 (λ e. cc) is_reason.0 is_reason

-- what begins as a number ends as one or is refused
pub number_end : (at_line_start sign : Bool) (text rest : List ℕ) (end : Ending) → IsOpenNumber sign text
    → Stops (mode.Number sign) text rest → EndsTokenAs Literal text end → IsEnding at_line_start text rest end
number_end at_line_start sign text rest end is stops what =
    number_run_end at_line_start text rest end (record {
      begins = is.begins rest;
      ends =
          omega (arith, is.goes_on rest, number_ends sign text rest stops);
    }) what

-- a mark that is the longest stands
mark_end_at : (at_line_start : Bool) (mark : Punct) (text rest : List ℕ) (end : Ending) → text ≡ mark_text mark
    → lead (mark_text mark ++ rest) ≡ Other
    → ((other : Punct) (after : List ℕ) → mark_text mark ++ rest ≡ mark_text other ++ after
    → length (mark_text other) ≤ length (mark_text mark))
    → EndsTokenAs Char text end → IsEnding at_line_start text rest end
mark_end_at at_line_start mark text rest ending.White is at longest what = absurd what
mark_end_at at_line_start mark text rest (ending.Refused why) is at longest what = absurd (what.1 (body.Mark mark) is)
mark_end_at at_line_start mark text rest (ending.Token token) is at longest what =
    let one : body.Mark mark ≡ token = one_token text (body.Mark mark) token is what in
    subst (λ t. Stands at_line_start (t ++ rest) (Spelled t token) rest) (sym is)
    (subst (λ b. Stands at_line_start (mark_text mark ++ rest) (Spelled (mark_text mark) b) rest) one
    (mark_stands at_line_start mark rest at longest))

-- neither a digit nor a point is next
dot_tests : (digit point : Bool) → cond digit (Some (mode.Number false)) (cond point (Some mode.Dots) None) ≡ None
    → (digit ≡ false) × (point ≡ false)
dot_tests true point stops = absurd (none-some _ (sym stops))
dot_tests false true stops = absurd (none-some _ (sym stops))
dot_tests false false stops = (refl, refl)

-- a point stops where neither a digit nor a point follows
dot_ends : (text rest : List ℕ) → Stops mode.Dot text rest → (is_ascii_digit (slice_index rest 0) ≡ false)
    × ((slice_index rest 0 == 46) ≡ false)
unfolding next
dot_ends text [] stops = (refl, refl)
dot_ends text (byte ∷ after) stops = dot_tests (is_ascii_digit byte) (byte == 46) stops

-- a point ends as a mark
pub dot_end : (at_line_start : Bool) (text rest : List ℕ) (end : Ending) → text ≡ codes "." → Stops mode.Dot text rest
    → EndsTokenAs Char text end → IsEnding at_line_start text rest end
dot_end at_line_start text rest end is stops what =
    let ends = dot_ends text rest stops in
    mark_end_at at_line_start p.Dot text rest end is (point_lead rest ends.0)
    (λ other after same. point_alone rest other after ends.1 same) what

-- neither `/` nor `*` nor `=` is next
slash_tests : (slash star equal : Bool)
    → cond slash (Some mode.LineComment)
    (cond star (Some (mode.BlockComment false)) (cond equal (Some mode.Mark) None)) ≡ None
    → (slash ≡ false) × (star ≡ false) × (equal ≡ false)
slash_tests true star equal stops = absurd (none-some _ (sym stops))
slash_tests false true equal stops = absurd (none-some _ (sym stops))
slash_tests false false true stops = absurd (none-some _ (sym stops))
slash_tests false false false stops = (refl, refl, refl)

-- a slash stops where none of these follows
slash_ends : (text rest : List ℕ) → Stops mode.Slash text rest → ((slice_index rest 0 == 47) ≡ false)
    × ((slice_index rest 0 == 42) ≡ false) × ((slice_index rest 0 == 61) ≡ false)
unfolding next
slash_ends text [] stops = (refl, refl, refl)
slash_ends text (byte ∷ after) stops = slash_tests (byte == 47) (byte == 42) (byte == 61) stops

-- a slash ends as a mark
pub slash_end : (at_line_start : Bool) (text rest : List ℕ) (end : Ending) → text ≡ codes "/"
    → Stops mode.Slash text rest → EndsTokenAs Char text end → IsEnding at_line_start text rest end
slash_end at_line_start text rest end is stops what =
    let ends = slash_ends text rest stops in
    mark_end_at at_line_start p.Slash text rest end is (slash_lead rest ends.0 ends.1)
    (λ other after same. slash_alone rest other after ends.2 same) what

-- no longer mark stands where the next byte makes none
longest_mark : (mark : Punct) (text rest : List ℕ) → text ≡ mark_text mark → mark ≢ p.Dot → Stops mode.Mark text rest
    → (other : Punct) (after : List ℕ) → mark_text mark ++ rest ≡ mark_text other ++ after
    → length (mark_text other) ≤ length (mark_text mark)
unfolding next extends
longest_mark mark text [] is dot stops other after same =
    omega (arith, ap length same, length-append (mark_text mark) [], length-append (mark_text other) after)
longest_mark mark text (byte ∷ more) is dot stops other after same =
    no_longer mark byte more other after dot
    (subst (λ t. is_some (lookup marks (t ++ (byte ∷ []))) ≡ false) is
    (mode_if_false (extends text byte) mode.Mark stops)) same

-- the longest mark ends as one
pub mark_end : (at_line_start : Bool) (text rest : List ℕ) (end : Ending) → IsOpenMark text → Stops mode.Mark text rest
    → EndsTokenAs Char text end → IsEnding at_line_start text rest end
mark_end at_line_start text rest end is stops what =
    mark_end_at at_line_start is.mark text rest end is.spelled (mark_lead is.mark rest is.other.0 is.other.1)
    (longest_mark is.mark text rest is.spelled is.other.0 stops) what
