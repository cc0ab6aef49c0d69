-- A run of letters, digits and `_` stands where it spells a token, and is refused where it spells none.
use Rattle.std.proofs.Common.{◌≡◌, ℕ, ◌≤◌, List, [], ◌∷◌, ◌++◌, Bool, true, false, ◌==◌, ◌&&◌, length, take, refl}
use Rattle.std.proofs.Common.{sym, ◌∙◌, ap, subst, arith}
use Rattle.std.proofs.lemmas.Bool.{and_parts, eqb-true, false≢true}
use Rattle.std.specs.Prelude.{slice_index}
use Rattle.std.specs.List.{list_all, prefix_len}
use Rattle.critical_table.specs.declared.refusal.Refusal.TheVariants.{Profile, Literal, Unclosed, Directive}
use Rattle.c_lexer.specs.declared.token.Body.{Body}
use Rattle.c_lexer.specs.declared.token.Body.TheVariants as body
use Rattle.c_lexer.specs.Bytes.{is_letter, is_word_byte, is_quote}
use Rattle.c_lexer.specs.Words.{is_outside}
use Rattle.c_lexer.specs.LexicalParts.{Part, White, Spelled, part_text, IsToken}
use Rattle.c_lexer.specs.Refusals.{IsReason}
use Rattle.c_lexer.specs.Lexing.{Stands}
use Rattle.c_lexer.proofs.Runs.{front_taken, run_whole, run_least}
use Rattle.c_lexer.proofs.TokenLaws.{outside_token}
use Rattle.c_lexer.proofs.Leads.{Letter, lead, Admits, letter_lead, longer_lead, admitted_at}
use Rattle.c_lexer.proofs.LeadRefusals.{no_fit, no_refusal}

-- a whole run that begins with a letter, and is no L before a quote
pub record IsRun (text rest : List ℕ) : Type 0 where
  pub first : is_letter (slice_index text 0) ≡ true
  pub each : list_all is_word_byte text ≡ true
  pub ends : prefix_len is_word_byte rest ≡ 0
  pub unquoted : text ≡ 76 ∷ [] → is_quote (slice_index rest 0) ≡ false

-- a test that excludes the other
and_unless : (t u : Bool) → (t ≡ true → u ≡ false) → (t && u) ≡ false
and_unless true u h = h refl
and_unless false u h = refl

-- a run begins with a letter that is no L before a quote
word_lead : (text rest : List ℕ) → IsRun text rest → lead (text ++ rest) ≡ Letter
word_lead [] rest run = absurd (false≢true run.first)
word_lead (a ∷ []) rest run =
    letter_lead (a ∷ rest) run.first
    (and_unless (a == 76) (is_quote (slice_index rest 0))
    (λ same. run.unquoted (ap (λ x. x ∷ []) (eqb-true a 76 same))))
word_lead (a ∷ b ∷ text) rest run =
    longer_lead a b (text ++ rest) run.first
    (and_parts (is_word_byte b) (list_all is_word_byte text)
    (and_parts (is_word_byte a) (list_all is_word_byte (b ∷ text)) run.each).1).0

-- the run at the front is the text
run_len : (text rest : List ℕ) → IsRun text rest → prefix_len is_word_byte (text ++ rest) ≡ length text
run_len text rest run = run_whole is_word_byte text rest run.each run.ends

-- and so it is taken
run_taken : (text rest : List ℕ) → IsRun text rest → take (prefix_len is_word_byte (text ++ rest)) (text ++ rest) ≡ text
run_taken text rest run = front_taken _ text rest (run_len text rest run)

-- no part at a letter is longer than the run
longest_run : (bytes : List ℕ) (other : Part) (after : List ℕ) → Admits Letter other
    → bytes ≡ part_text other ++ after → length (part_text other) ≤ prefix_len is_word_byte bytes
longest_run bytes (White text) after admits parts = absurd admits
longest_run bytes (Spelled text token) after admits parts =
    subst (λ b. length text ≤ prefix_len is_word_byte b) (sym parts) (run_least is_word_byte text after admits)

-- a run that spells a token stands
pub word_stands : (at_line_start : Bool) (text rest : List ℕ) (token : Body) → IsRun text rest → IsToken text token
    → Stands at_line_start (text ++ rest) (Spelled text token) rest
word_stands at_line_start text rest token run is =
    let at = word_lead text rest run in record {
      parts = refl;
      is = is;
      longest = λ other after parts part.
          let longest =
          longest_run (text ++ rest) other after
          (admitted_at at_line_start (text ++ rest) Letter other after at parts part) parts in
          omega (arith, longest, run_len text rest run);
      no_refusal = no_refusal at_line_start (text ++ rest) (
        λ fits. outside_token text token (ap is_outside (sym (run_taken text rest run)) ∙ fits) is,
        no_fit at_line_start (text ++ rest) Literal at refl,
        no_fit at_line_start (text ++ rest) Unclosed at refl,
        no_fit at_line_start (text ++ rest) Directive at refl,
      );
    }

-- a run that spells no token is a word that is not taken
outside_run : (text rest : List ℕ) (outside : Bool) → is_outside text ≡ outside → IsRun text rest
    → ((token : Body) → IsToken text token → ⊥) → outside ≡ true
outside_run text rest true at run none = refl
outside_run text rest false at run none =
    absurd (none (body.Name text) (
      refl,
      record {
        first = run.first;
        each = run.each;
        no_word =
            λ word is. none (body.Word word) is;
        inside = at;
      },
    ))

-- and is refused as outside of the language
pub word_refused : (at_line_start : Bool) (text rest : List ℕ) → IsRun text rest
    → ((token : Body) → IsToken text token → ⊥) → IsReason at_line_start (text ++ rest) Profile
word_refused at_line_start text rest run none = ap is_outside (run_taken text rest run)
    ∙ outside_run text rest (is_outside text) refl run none
