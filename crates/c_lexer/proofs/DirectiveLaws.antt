-- A directive line is read exactly, but for pragmas.
use Rattle.std.proofs.Common.{◌≡◌, inl, inr, ℕ, ◌+◌, ◌<◌, List, [], ◌∷◌, ◌++◌, Bool, true, false, ◌==◌, ◌&&◌, cond}
use Rattle.std.proofs.Common.{length, take, drop, refl, sym, ◌∙◌, ap, subst, arith}
use Rattle.std.proofs.lemmas.Bool.{and_parts, and_from, eqb-true, eqb-false, false≢true, ne_eqb, not-true, or_cases}
use Rattle.std.proofs.lemmas.Option.{none-some}
use Rattle.std.proofs.lemmas.List.{take-append-drop}
use Rattle.std.proofs.lemmas.List.Folds.{length-prefix_len}
use Rattle.std.proofs.lemmas.Slice.Eq.{bytes_eq-Decides}
use Rattle.std.proofs.Math.Seq.{take-append_seam, drop-append_seam}
use Rattle.std.specs.Prelude.{Option, Some, None, IsTrue, ◌↔◌, not, nat_eq, codes}
use Rattle.std.specs.List.{prefix_len, list_all}
use Rattle.std.specs.Cmp.Lexicographic.{pointwise}
use Rattle.c_lexer.specs.declared.bytes.Class.TheVariants as class
use Rattle.c_lexer.specs.Bytes.{is_blank}
use Rattle.c_lexer.specs.Classes.{is_in}
use Rattle.c_lexer.specs.Directives.{headers, is_header, IsInclude, IsDefine, IsMarker}
use Rattle.c_lexer.specs.ReadComment.{past_quote}
use Rattle.c_lexer.specs.ReadDirective.{strip, holds_on, skip_blanks, all_blank, begins_blank, ends_include}
use Rattle.c_lexer.specs.ReadDirective.{is_include, ends_define, names_extension, is_define, ends_marker, is_marker}
use Rattle.c_lexer.proofs.Tables.{listed_true}
use Rattle.c_lexer.proofs.Cases.{cond_cases}
use Rattle.c_lexer.proofs.Runs.{front_taken, front_dropped, run_all, run_whole}
use Rattle.c_lexer.proofs.CommentLaws.{quote_sound, quote_full}

-- what is left behind a word stands behind it
pub strip_sound : (word text after : List ℕ) → strip word text ≡ Some after → text ≡ word ++ after
strip_sound word text after h =
    elim (cond_cases (pointwise nat_eq (take (length word) text) word) (Some (drop (length word) text)) None
    (Some after) h) [
      | inl a ↦
          let rest : drop (length word) text ≡ after = (let e = a.1 in cc) in
          let front : take (length word) text ≡ word = (bytes_eq-Decides (take (length word) text) word).0 a.0 in
          sym (take-append-drop (length word) text)
          ∙ (ap (λ t. t ++ drop (length word) text) front ∙ ap (λ t. word ++ t) rest)
      | inr a ↦ absurd (none-some _ a.1)
    ]

-- what stands behind a word is left of it
pub strip_full : (word after : List ℕ) → strip word (word ++ after) ≡ Some after
strip_full word after =
    let same : pointwise nat_eq word word ≡ true = (bytes_eq-Decides word word).1 refl in
    let front : take (length word) (word ++ after) ≡ word = take-append_seam word after in
    let back : drop (length word) (word ++ after) ≡ after = drop-append_seam word after in
    ap (λ t. cond (pointwise nat_eq t word) (Some (drop (length word) (word ++ after))) None) front
    ∙ (ap (λ b. cond b (Some (drop (length word) (word ++ after))) None) same ∙ ap Some back)

-- there is a text, and it passes the test
pub record Holds (o : Option (List ℕ)) (test : List ℕ → Bool) : Type 0 where
  pub text : List ℕ
  pub is : o ≡ Some text
  pub holds : test text ≡ true

-- a test that passes has a text
pub holds_on_true : (o : Option (List ℕ)) (test : List ℕ → Bool) → holds_on o test ≡ true → Holds o test
holds_on_true None test h = absurd (false≢true h)
holds_on_true (Some text) test h = record { text = text; is = refl; holds = h }

-- the spaces and tabs at the front
pub blanks_of : List ℕ → List ℕ
blanks_of text = take (prefix_len (is_in class.Blank) text) text

-- a text is the blanks at its front and what follows them
pub skip_blanks_parts : (text : List ℕ) → text ≡ blanks_of text ++ skip_blanks text
unfolding blanks_of
skip_blanks_parts text = sym (take-append-drop (prefix_len (is_in class.Blank) text) text)

-- the blanks at the front are blank
pub blanks_blank : (text : List ℕ) → list_all is_blank (blanks_of text) ≡ true
unfolding blanks_of
blanks_blank text = run_all (is_in class.Blank) text

-- a number that the test finds not to be 0 is above 0
not_zero : (n : ℕ) → not (n == 0) ≡ true → 0 < n
not_zero n h = (let no : n ≡ 0 → ⊥ = eqb-false n 0 (not-true (n == 0) h) in omega (arith, no))

-- a text that begins with a blank has blanks at its front
blanks_some : (text : List ℕ) → begins_blank text ≡ true → 0 < length (blanks_of text)
unfolding blanks_of
blanks_some text h =
    omega (arith, not_zero (prefix_len (is_in class.Blank) text) h, length-prefix_len (is_in class.Blank) text)

-- blanks before something else are all the blanks at the front
blank_run : (blanks rest : List ℕ) → list_all is_blank blanks ≡ true → prefix_len (is_in class.Blank) rest ≡ 0
    → prefix_len (is_in class.Blank) (blanks ++ rest) ≡ length blanks
blank_run blanks rest all ends = run_whole (is_in class.Blank) blanks rest all ends

-- blanks before something else are skipped, and no more
pub skip_blanks_full : (blanks rest : List ℕ) → list_all is_blank blanks ≡ true
    → prefix_len (is_in class.Blank) rest ≡ 0 → skip_blanks (blanks ++ rest) ≡ rest
skip_blanks_full blanks rest all ends = front_dropped _ blanks rest (blank_run blanks rest all ends)

-- the test of a number above 0
some_true : (n m : ℕ) → n ≡ m → 0 < m → not (n == 0) ≡ true
some_true n m is some = ap not (ne_eqb n 0 (λ (e : n ≡ 0). omega (arith, e, is, some)))

-- blanks that are some are found
begins_full : (blanks rest : List ℕ) → list_all is_blank blanks ≡ true → prefix_len (is_in class.Blank) rest ≡ 0
    → 0 < length blanks → begins_blank (blanks ++ rest) ≡ true
begins_full blanks rest all ends some =
    some_true (prefix_len (is_in class.Blank) (blanks ++ rest)) (length blanks) (blank_run blanks rest all ends) some

-- a text of blanks begins with no solid byte
solid_ends : (last : List ℕ) → list_all is_blank last ≡ true → prefix_len (is_in class.Solid) last ≡ 0
solid_ends [] h = refl
solid_ends (b ∷ last) h =
    ap (λ t. cond (not t) (1 + prefix_len (is_in class.Solid) last) 0)
    (and_parts (is_blank b) (list_all is_blank last) h).0

-- a header is solid, and no blank begins it
header_solid : (header last : List ℕ) → is_header header ≡ true → (list_all (is_in class.Solid) header ≡ true)
    × (prefix_len (is_in class.Blank) (header ++ last) ≡ 0)
unfolding is_header
header_solid header last h =
    let both = and_parts _ _
    (listed_true (λ t. list_all (is_in class.Solid) t && prefix_len (is_in class.Blank) (t ++ last) == 0)
    headers header refl h) in
    (both.0, eqb-true _ 0 both.1)

-- what is read as an include is one
pub include_sound : (text : List ℕ) → is_include text ≡ true → IsInclude text
unfolding is_include
include_sound text h =
    let s = holds_on_true (strip (codes "include") text) (λ after. ends_include (skip_blanks after)) h in
    let rest : List ℕ = skip_blanks s.text in
    let n : ℕ = prefix_len (is_in class.Solid) (skip_blanks s.text) in
    let both = and_parts (is_header (take n rest)) (all_blank (drop n rest)) s.holds in
    record {
      before = blanks_of s.text;
      header = take n rest;
      last = drop n rest;
      parts = strip_sound (codes "include") text s.text s.is
          ∙ ap (λ t. codes "include" ++ t) (skip_blanks_parts s.text
          ∙ ap (λ t. blanks_of s.text ++ t) (sym (take-append-drop n rest)));
      known = both.0;
      blanks = (blanks_blank s.text, both.1);
    }

-- each include is read
pub include_full : (text : List ℕ) → IsInclude text → is_include text ≡ true
unfolding is_include
include_full text i =
    let solid = header_solid i.header i.last i.known in
    let start : skip_blanks (i.before ++ (i.header ++ i.last)) ≡ i.header ++ i.last =
    skip_blanks_full i.before (i.header ++ i.last) i.blanks.0 solid.1 in
    let run : prefix_len (is_in class.Solid) (i.header ++ i.last) ≡ length i.header =
    run_whole (is_in class.Solid) i.header i.last solid.0 (solid_ends i.last i.blanks.1) in
    let front : take (prefix_len (is_in class.Solid) (i.header ++ i.last)) (i.header ++ i.last) ≡ i.header =
    front_taken _ i.header i.last run in
    let back : drop (prefix_len (is_in class.Solid) (i.header ++ i.last)) (i.header ++ i.last) ≡ i.last =
    front_dropped _ i.header i.last run in
    ap (λ t. holds_on (strip (codes "include") t) (λ after. ends_include (skip_blanks after))) i.parts
    ∙ (ap (λ o. holds_on o (λ after. ends_include (skip_blanks after)))
    (strip_full (codes "include") (i.before ++ (i.header ++ i.last)))
    ∙ (ap ends_include start ∙ and_from _ _ (ap is_header front ∙ i.known) (ap all_blank back ∙ i.blanks.1)))

-- what is read as the define is it
pub define_sound : (text : List ℕ) → is_define text ≡ true → IsDefine text
unfolding is_define
define_sound text h =
    let s = holds_on_true (strip (codes "define") text) names_extension h in
    let one = and_parts (begins_blank s.text)
    (holds_on (strip (codes "__STDC_WANT_LIB_EXT1__") (skip_blanks s.text)) ends_define) s.holds in
    let t = holds_on_true (strip (codes "__STDC_WANT_LIB_EXT1__") (skip_blanks s.text)) ends_define one.1 in
    let two = and_parts (begins_blank t.text) (holds_on (strip (codes "1") (skip_blanks t.text)) all_blank) t.holds in
    let u = holds_on_true (strip (codes "1") (skip_blanks t.text)) all_blank two.1 in
    let end : skip_blanks t.text ≡ codes "1" ++ u.text = strip_sound (codes "1") (skip_blanks t.text) u.text u.is in
    let middle : skip_blanks s.text ≡ codes "__STDC_WANT_LIB_EXT1__" ++ (blanks_of t.text ++ (codes "1" ++ u.text)) =
    strip_sound (codes "__STDC_WANT_LIB_EXT1__") (skip_blanks s.text) t.text t.is
    ∙ ap (λ x. codes "__STDC_WANT_LIB_EXT1__" ++ x) (skip_blanks_parts t.text
    ∙ ap (λ x. blanks_of t.text ++ x) end) in
    record {
      before = blanks_of s.text;
      between = blanks_of t.text;
      last = u.text;
      parts = strip_sound (codes "define") text s.text s.is
          ∙ ap (λ x. codes "define" ++ x) (skip_blanks_parts s.text ∙ ap (λ x. blanks_of s.text ++ x) middle);
      blanks = (blanks_blank s.text, blanks_blank t.text, u.holds);
      apart = (blanks_some s.text one.0, blanks_some t.text two.0);
    }

-- each such define is read
pub define_full : (text : List ℕ) → IsDefine text → is_define text ≡ true
unfolding is_define
define_full text d =
    let end : List ℕ = codes "1" ++ d.last in
    let middle : List ℕ = codes "__STDC_WANT_LIB_EXT1__" ++ (d.between ++ (codes "1" ++ d.last)) in
    let closing : ends_define (d.between ++ (codes "1" ++ d.last)) ≡ true =
    and_from _ _ (begins_full d.between (codes "1" ++ d.last) d.blanks.1 refl d.apart.1)
    (ap (λ t. holds_on (strip (codes "1") t) all_blank)
    (skip_blanks_full d.between (codes "1" ++ d.last) d.blanks.1 refl)
    ∙ (ap (λ o. holds_on o all_blank) (strip_full (codes "1") d.last) ∙ d.blanks.2)) in
    let naming : names_extension
    (d.before ++ (codes "__STDC_WANT_LIB_EXT1__" ++ (d.between ++ (codes "1" ++ d.last)))) ≡ true =
    and_from _ _ (begins_full d.before (codes "__STDC_WANT_LIB_EXT1__" ++ (d.between ++ (codes "1" ++ d.last)))
    d.blanks.0 refl d.apart.0)
    (ap (λ t. holds_on (strip (codes "__STDC_WANT_LIB_EXT1__") t) ends_define)
    (skip_blanks_full d.before (codes "__STDC_WANT_LIB_EXT1__" ++ (d.between ++ (codes "1" ++ d.last)))
    d.blanks.0 refl)
    ∙ (ap (λ o. holds_on o ends_define)
    (strip_full (codes "__STDC_WANT_LIB_EXT1__") (d.between ++ (codes "1" ++ d.last))) ∙ closing)) in
    ap (λ t. holds_on (strip (codes "define") t) names_extension) d.parts
    ∙ (ap (λ o. holds_on o names_extension)
    (strip_full (codes "define")
    (d.before ++ (codes "__STDC_WANT_LIB_EXT1__" ++ (d.between ++ (codes "1" ++ d.last))))) ∙ naming)

-- what is read as a line marker is one
pub marker_sound : (text : List ℕ) → is_marker text ≡ true → IsMarker text
unfolding is_marker
marker_sound text h =
    let n : ℕ = prefix_len (is_in class.Decimal) text in
    let one = and_parts (not (n == 0)) (holds_on (strip (codes "\"") (skip_blanks (drop n text))) ends_marker) h in
    let s = holds_on_true (strip (codes "\"") (skip_blanks (drop n text))) ends_marker one.1 in
    let t = holds_on_true (past_quote 34 false s.text) (list_all (is_in class.Spaced)) s.holds in
    let q = quote_sound 34 false s.text t.text t.is in
    let opened : skip_blanks (drop n text) ≡ codes "\"" ++ s.text =
    strip_sound (codes "\"") (skip_blanks (drop n text)) s.text s.is in
    record {
      number = take n text;
      between = blanks_of (drop n text);
      file = q.inner;
      last = t.text;
      parts = sym (take-append-drop n text)
          ∙ ap (λ x. take n text ++ x) (skip_blanks_parts (drop n text)
          ∙ ap (λ x. blanks_of (drop n text) ++ x) (opened ∙ ap (λ x. 34 ∷ x) q.parts));
      blank = blanks_blank (drop n text);
      some = omega (arith, not_zero n one.0, length-prefix_len (is_in class.Decimal) text);
      digits = run_all (is_in class.Decimal) text;
      name = q.inside;
      numbers = t.holds;
    }

-- blanks and a quote begin with no digit
decimal_ends : (between after : List ℕ) → list_all is_blank between ≡ true
    → prefix_len (is_in class.Decimal) (between ++ (34 ∷ after)) ≡ 0
decimal_ends [] after h = refl
decimal_ends (b ∷ between) after h =
    elim (or_cases (b == 32) (b == 9) (and_parts (is_blank b) (list_all is_blank between) h).0) [
      | inl e ↦ subst (λ x. prefix_len (is_in class.Decimal) (x ∷ (between ++ (34 ∷ after))) ≡ 0)
          (sym (eqb-true b 32 e)) refl
      | inr e ↦ subst (λ x. prefix_len (is_in class.Decimal) (x ∷ (between ++ (34 ∷ after))) ≡ 0)
          (sym (eqb-true b 9 e)) refl
    ]

-- each line marker is read
pub marker_full : (text : List ℕ) → IsMarker text → is_marker text ≡ true
unfolding is_marker
marker_full text m =
    let after : List ℕ = m.file ++ (34 ∷ m.last) in
    let rest : List ℕ = m.between ++ (34 ∷ (m.file ++ (34 ∷ m.last))) in
    let run : prefix_len (is_in class.Decimal) (m.number ++ (m.between ++ (34 ∷ (m.file ++ (34 ∷ m.last)))))
    ≡ length m.number =
    run_whole (is_in class.Decimal) m.number (m.between ++ (34 ∷ (m.file ++ (34 ∷ m.last)))) m.digits
    (decimal_ends m.between (m.file ++ (34 ∷ m.last)) m.blank) in
    let back : drop (prefix_len (is_in class.Decimal) (m.number ++ (m.between ++ (34 ∷ (m.file ++ (34 ∷ m.last))))))
    (m.number ++ (m.between ++ (34 ∷ (m.file ++ (34 ∷ m.last))))) ≡ m.between ++ (34 ∷ (m.file ++ (34 ∷ m.last))) =
    front_dropped _ m.number (m.between ++ (34 ∷ (m.file ++ (34 ∷ m.last)))) run in
    let closing : ends_marker (m.file ++ (34 ∷ m.last)) ≡ true =
    ap (λ o. holds_on o (list_all (is_in class.Spaced)))
    (quote_full 34 false m.file m.last (λ (e : 34 ≡ 10). omega (arith, e)) m.name) ∙ m.numbers in
    subst (λ t. (not (prefix_len (is_in class.Decimal) t == 0)
    && holds_on (strip (codes "\"") (skip_blanks (drop (prefix_len (is_in class.Decimal) t) t))) ends_marker)
    ≡ true) (sym m.parts)
    (and_from _ _ (some_true _ (length m.number) run m.some)
    (ap (λ t. holds_on (strip (codes "\"") (skip_blanks t)) ends_marker) back
    ∙ (ap (λ t. holds_on (strip (codes "\"") t) ends_marker)
    (skip_blanks_full m.between (34 ∷ (m.file ++ (34 ∷ m.last))) m.blank refl)
    ∙ (ap (λ o. holds_on o ends_marker) (strip_full (codes "\"") (m.file ++ (34 ∷ m.last))) ∙ closing))))

-- a test that is sound and full tells exactly where something holds
pub exactly : (b r : Bool) (P : Type 0) → r ≡ b → (b ≡ true → P) → (P → b ≡ true) → IsTrue r ↔ P
exactly b r P is to from = (λ t. to (sym is ∙ t), λ p. is ∙ from p)
