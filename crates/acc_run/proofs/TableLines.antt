-- The lines of the table, one after another.
use Rattle.std.proofs.Common.{◌≡◌, ℕ, zero, suc, ◌+◌, List, [], ◌∷◌, ◌++◌, take, drop, refl, sym, ◌∙◌, ap}
use Rattle.std.proofs.Common.{append_assoc, append-nil, add-one}
use Rattle.std.specs.Prelude.{Some}
use Rattle.std.specs.List.{flat_map, slice_get}
use Rattle.std.proofs.lemmas.Grind.{flat_map-append}
use Rattle.std.proofs.lemmas.List.{take-append-drop}
use Rattle.critical_table.specs.Table.{table_lines}
use Rattle.acc_run.specs.Answer.{table_text}
use Rattle.acc_run.proofs.Ends.{some_injective}

-- the lines as one text
abbrev pub text_of : List (List ℕ) → List ℕ
text_of lines = flat_map (λ line. line) lines

-- one line more in front
more : (lines : List (List ℕ)) (i : ℕ) (line : List ℕ) → slice_get lines i ≡ Some line
    → text_of (take i lines) ++ line ≡ text_of (take (suc i) lines)
more [] i line at = cc
more (x ∷ lines) zero line at = sym (append-nil x ∙ some_injective at)
more (x ∷ lines) (suc i) line at = append_assoc x (text_of (take i lines)) line
    ∙ ap (λ text. x ++ text) (more lines i line at)

-- one line less behind
less : (lines : List (List ℕ)) (i : ℕ) (line : List ℕ) → slice_get lines i ≡ Some line
    → text_of (drop i lines) ≡ line ++ text_of (drop (suc i) lines)
less [] i line at = cc
less (x ∷ lines) zero line at = ap (λ text. text ++ text_of lines) (some_injective at)
less (x ∷ lines) (suc i) line at = less lines i line at

-- the lines before the next are those before this one, and this one
pub one_line_more : (lines : List (List ℕ)) (i : ℕ) (line : List ℕ) → slice_get lines i ≡ Some line
    → text_of (take i lines) ++ line ≡ text_of (take (i + 1) lines)
one_line_more lines i line at = more lines i line at ∙ ap (λ n. text_of (take n lines)) (sym (add-one i))

-- the lines from this one on are this one, and those behind it
pub one_line_less : (lines : List (List ℕ)) (i : ℕ) (line : List ℕ) → slice_get lines i ≡ Some line
    → text_of (drop i lines) ≡ line ++ text_of (drop (i + 1) lines)
one_line_less lines i line at = less lines i line at ∙ ap (λ n. line ++ text_of (drop n lines)) (sym (add-one i))

-- a line, with the lines before it and behind it, is the whole
pub around_line : (lines : List (List ℕ)) (i : ℕ) (line : List ℕ) → slice_get lines i ≡ Some line
    → text_of (take i lines) ++ (line ++ text_of (drop (i + 1) lines)) ≡ text_of lines
around_line lines i line at =
    ap (λ text. text_of (take i lines) ++ text) (sym (one_line_less lines i line at))
    ∙ (sym (flat_map-append (λ line. line) (take i lines) (drop i lines)) ∙ ap text_of (take-append-drop i lines))

-- the 24 lines are all
pub all_lines : text_of (take 24 table_lines) ≡ table_text
unfolding table_lines
all_lines = refl

-- none is behind them
pub no_lines : text_of (drop 24 table_lines) ≡ []
unfolding table_lines
no_lines = refl
