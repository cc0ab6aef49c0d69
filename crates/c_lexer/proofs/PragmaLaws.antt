-- Where a comment goes on behind a line, and pragmas.
use Rattle.std.proofs.Common.{◌≡◌, ◌⊎◌, inl, inr, ℕ, zero, suc, ◌<◌, ◌≤◌, List, [], ◌∷◌, ◌++◌, Bool, true, false}
use Rattle.std.proofs.Common.{◌==◌, ◌||◌, ◌&&◌, cond, length, take, drop, get_or, ◌-◌, refl, sym, ◌∙◌, ap, subst}
use Rattle.std.proofs.Common.{arith, append_assoc, length-append}
use Rattle.std.proofs.lemmas.Bool.{and_parts, and_from, or_parts, eqb-true, eqb-false, eq-eqb, false≢true, ne_eqb}
use Rattle.std.proofs.lemmas.Bool.{not-true, or_cases}
use Rattle.std.proofs.Math.Seq.{take-length}
use Rattle.std.specs.Prelude.{Option, Some, None, Ok, Err, not, codes, slice_index, ◌≢◌}
use Rattle.std.specs.List.{prefix_len, list_all, flat_map}
use Rattle.c_lexer.specs.declared.bytes.Class.TheVariants as class
use Rattle.c_lexer.specs.Classes.{is_in}
use Rattle.c_lexer.specs.Comments.{NoClose, IsBlockComment, IsQuoted, IsInner}
use Rattle.c_lexer.specs.Directives.{IsSingle, ArePieces, GoesOn, IsPragma}
use Rattle.c_lexer.specs.ReadComment.{past_close, past_quote}
use Rattle.c_lexer.specs.ReadDirective.{strip, holds_on, behind_close, behind_quote, past_piece, by_piece}
use Rattle.c_lexer.specs.ReadDirective.{goes_on_from, goes_on, ends_pragma, is_pragma}
use Rattle.c_lexer.proofs.CommentLaws.{close_sound, close_none, quote_sound, quote_full, close_full}
use Rattle.c_lexer.proofs.DirectiveLaws.{strip_sound, strip_full, holds_on_true}

-- where no comment closes, nothing is found behind one
never_closed : (bytes : List ℕ) (o : Option (List ℕ)) → past_close bytes ≡ o → NoClose bytes → o ≡ None
never_closed bytes None at none = refl
never_closed bytes (Some after) at none = (let c = close_sound bytes after at in absurd (none c.body after c.parts))

-- a comment at the front, and what goes on behind it
block_more : (byte : ℕ) (after : List ℕ) (o : Option (List ℕ)) (go : List ℕ → Bool) → (byte == 47) ≡ true
    → (slice_index after 0 == 42) ≡ true → past_close (drop 1 after) ≡ o
    → ((rest : List ℕ) → go rest ≡ true → GoesOn rest) → by_piece go (behind_close o) ≡ true → GoesOn (byte ∷ after)
block_more byte [] o go slash star at all h = absurd (false≢true star)
block_more byte (b ∷ after) None go slash star at all h = record {
  pieces = [];
  after = after;
  parts = (let e : byte ≡ 47 = eqb-true byte 47 slash in let f : b ≡ 42 = eqb-true b 42 star in
      let g : byte ∷ b ∷ after ≡ 47 ∷ 42 ∷ after = cc in g);
  each = tt;
  open_end = close_none after at;
}
block_more byte (b ∷ after) (Some rest) go slash star at all h =
    let c = close_sound after rest at in
    let g = all rest h in
    let block : IsBlockComment (47 ∷ 42 ∷ (c.body ++ (42 ∷ 47 ∷ []))) =
    record { body = c.body; parts = refl; first = c.first } in
    record {
      pieces = (47 ∷ 42 ∷ (c.body ++ (42 ∷ 47 ∷ []))) ∷ g.pieces;
      after = g.after;
      parts = (let e : byte ≡ 47 = eqb-true byte 47 slash in let f : b ≡ 42 = eqb-true b 42 star in
          let t : byte ∷ b ∷ after ≡ 47 ∷ 42 ∷ after = cc in t)
          ∙ ap (λ t. 47 ∷ 42 ∷ t) (c.parts
          ∙ (sym (append_assoc c.body (42 ∷ 47 ∷ []) rest) ∙ (ap (λ t. (c.body ++ (42 ∷ 47 ∷ [])) ++ t) g.parts
          ∙ sym (append_assoc (c.body ++ (42 ∷ 47 ∷ [])) (flat_map (λ p. p) g.pieces) (codes "/*" ++ g.after)))));
      each = (inl block, g.each);
      open_end = g.open_end;
    }

-- a text between quotes at the front, and what goes on behind it
quote_more : (byte : ℕ) (after : List ℕ) (o : Option (List ℕ)) (go : List ℕ → Bool) → (byte ≡ 34) ⊎ (byte ≡ 39)
    → past_quote byte false after ≡ o
    → ((rest : List ℕ) → go rest ≡ true → GoesOn rest) → by_piece go (behind_quote o) ≡ true → GoesOn (byte ∷ after)
quote_more byte after None go kind at all h = absurd (false≢true h)
quote_more byte after (Some rest) go kind at all h =
    let q = quote_sound byte false after rest at in
    let g = all rest h in
    record {
      pieces = (byte ∷ (q.inner ++ (byte ∷ []))) ∷ g.pieces;
      after = g.after;
      parts = ap (λ t. byte ∷ t) (q.parts
          ∙ (sym (append_assoc q.inner (byte ∷ []) rest) ∙ (ap (λ t. (q.inner ++ (byte ∷ [])) ++ t) g.parts
          ∙ sym (append_assoc (q.inner ++ (byte ∷ [])) (flat_map (λ p. p) g.pieces) (codes "/*" ++ g.after)))));
      each = (
        inr (inl (record { quote = byte; inner = q.inner; kind = kind; parts = refl; inside = q.inside })),
        g.each,
      );
      open_end = g.open_end;
    }

-- the byte behind a slash is another
apart : (byte n m : ℕ) → (byte == 47 && n == m) ≡ false → byte ≡ 47 → n ≢ m
apart byte n m h slash = eqb-false n m (ap (λ b. b && n == m) (sym (eq-eqb byte 47 slash)) ∙ h)

-- a byte at the front that begins neither, and what goes on behind it
single_more : (byte : ℕ) (after : List ℕ) → (byte == 47 && slice_index after 0 == 47) ≡ false
    → (byte == 47 && slice_index after 0 == 42) ≡ false → (byte == 34 || byte == 39) ≡ false → GoesOn after
    → GoesOn (byte ∷ after)
single_more byte after line block quote g =
    let no = or_parts (byte == 34) (byte == 39) quote in
    let one : IsSingle (byte ∷ []) after = record {
      byte = byte;
      parts = refl;
      no_quote = (eqb-false byte 34 no.0, eqb-false byte 39 no.1);
      no_comment = λ slash. (
        apart byte (slice_index after 0) 47 line slash,
        apart byte (slice_index after 0) 42 block slash,
      );
    } in
    record {
      pieces = (byte ∷ []) ∷ g.pieces;
      after = g.after;
      parts = ap (λ t. byte ∷ t) g.parts;
      each = (inr (inr (subst (IsSingle (byte ∷ [])) g.parts one)), g.each);
      open_end = g.open_end;
    }

-- the piece at the front is a text between quotes or one byte
last_step : (byte : ℕ) (after : List ℕ) (go : List ℕ → Bool) (t : Bool)
    → (byte == 47 && slice_index after 0 == 47) ≡ false → (byte == 47 && slice_index after 0 == 42) ≡ false
    → (byte == 34 || byte == 39) ≡ t
    → ((rest : List ℕ) → go rest ≡ true → GoesOn rest)
    → by_piece go (cond t (behind_quote (past_quote byte false after)) (Ok after)) ≡ true → GoesOn (byte ∷ after)
last_step byte after go true line block quote all h =
    quote_more byte after (past_quote byte false after) go
    (elim (or_cases (byte == 34) (byte == 39) quote) [
      | inl e ↦ inl (eqb-true byte 34 e)
      | inr e ↦ inr (eqb-true byte 39 e)
    ]) refl all h
last_step byte after go false line block quote all h = single_more byte after line block quote (all after h)

-- or else a comment
block_step : (byte : ℕ) (after : List ℕ) (go : List ℕ → Bool) (t : Bool)
    → (byte == 47 && slice_index after 0 == 47) ≡ false → (byte == 47 && slice_index after 0 == 42) ≡ t
    → ((rest : List ℕ) → go rest ≡ true → GoesOn rest)
    → by_piece go
    (cond t (behind_close (past_close (drop 1 after)))
    (cond (byte == 34 || byte == 39) (behind_quote (past_quote byte false after)) (Ok after))) ≡ true
    → GoesOn (byte ∷ after)
block_step byte after go true line block all h =
    let both = and_parts (byte == 47) (slice_index after 0 == 42) block in
    block_more byte after (past_close (drop 1 after)) go both.0 both.1 refl all h
block_step byte after go false line block all h =
    last_step byte after go (byte == 34 || byte == 39) line block refl all h

-- or else nothing goes on behind `//`
line_step : (byte : ℕ) (after : List ℕ) (go : List ℕ → Bool) (t : Bool)
    → (byte == 47 && slice_index after 0 == 47) ≡ t → ((rest : List ℕ) → go rest ≡ true → GoesOn rest)
    → by_piece go
    (cond t (Err false) (cond (byte == 47 && slice_index after 0 == 42) (behind_close (past_close (drop 1 after)))
    (cond (byte == 34 || byte == 39) (behind_quote (past_quote byte false after)) (Ok after)))) ≡ true
    → GoesOn (byte ∷ after)
line_step byte after go true line all h = absurd (false≢true h)
line_step byte after go false line all h =
    block_step byte after go (byte == 47 && slice_index after 0 == 42) line refl all h

-- the piece at the front, and what goes on behind it
goes_step : (byte : ℕ) (after : List ℕ) (go : List ℕ → Bool) → ((rest : List ℕ) → go rest ≡ true → GoesOn rest)
    → by_piece go (past_piece byte after) ≡ true → GoesOn (byte ∷ after)
unfolding past_piece
goes_step byte after go all h = line_step byte after go (byte == 47 && slice_index after 0 == 47) refl all h

-- a comment that is found to go on does, in so many turns
goes_from_sound : (n : ℕ) (bytes : List ℕ) → goes_on_from n bytes ≡ true → GoesOn bytes
goes_from_sound zero bytes h = absurd (false≢true h)
goes_from_sound (suc n) [] h = absurd (false≢true h)
goes_from_sound (suc n) (byte ∷ bytes) h = goes_step byte bytes (goes_on_from n) (goes_from_sound n) h

-- a comment that is found to go on does
pub goes_sound : (bytes : List ℕ) → goes_on bytes ≡ true → GoesOn bytes
unfolding goes_on
goes_sound bytes h = goes_from_sound (length bytes) bytes h

-- a closed comment is passed whole
piece_block : (body rest : List ℕ) → NoClose (body ++ (42 ∷ [])) → past_piece 47 (42 ∷ (body ++ (42 ∷ 47 ∷ rest)))
    ≡ Ok rest
unfolding past_piece
piece_block body rest first = ap behind_close (close_full body rest first)

-- an open comment goes on
piece_open : (after : List ℕ) → NoClose after → past_piece 47 (42 ∷ after) ≡ Err true
unfolding past_piece
piece_open after none = ap behind_close (never_closed after (past_close after) refl none)

-- a text between quotes is passed whole
piece_quote : (quote : ℕ) (inner rest : List ℕ) → (quote ≡ 34) ⊎ (quote ≡ 39) → IsInner quote false inner
    → past_piece quote (inner ++ (quote ∷ rest)) ≡ Ok rest
unfolding past_piece
piece_quote quote inner rest (inl e) inside =
    subst (λ q. IsInner q false inner → past_piece q (inner ++ (q ∷ rest)) ≡ Ok rest) (sym e)
    (λ i. ap behind_quote (quote_full 34 false inner rest (λ (x : 34 ≡ 10). omega (arith, x)) i)) inside
piece_quote quote inner rest (inr e) inside =
    subst (λ q. IsInner q false inner → past_piece q (inner ++ (q ∷ rest)) ≡ Ok rest) (sym e)
    (λ i. ap behind_quote (quote_full 39 false inner rest (λ (x : 39 ≡ 10). omega (arith, x)) i)) inside

-- the byte behind a slash is another, as the test has it
no_test : (byte n m : ℕ) → (byte ≡ 47 → n ≢ m) → (t : Bool) → (byte == 47 && n == m) ≡ t → t ≡ false
no_test byte n m h false is = refl
no_test byte n m h true is =
    (let both = and_parts (byte == 47) (n == m) is in absurd (h (eqb-true byte 47 both.0) (eqb-true n m both.1)))

-- a byte that begins neither is passed alone
piece_single : (byte : ℕ) (rest : List ℕ) → byte ≢ 34 → byte ≢ 39
    → (byte ≡ 47 → (slice_index rest 0 ≢ 47) × (slice_index rest 0 ≢ 42)) → past_piece byte rest ≡ Ok rest
unfolding past_piece
piece_single byte rest double single comment =
    rw (
      no_test byte (slice_index rest 0) 47 (λ e. (comment e).0) (byte == 47 && slice_index rest 0 == 47) refl,
      no_test byte (slice_index rest 0) 42 (λ e. (comment e).1) (byte == 47 && slice_index rest 0 == 42) refl,
      ne_eqb byte 34 double,
      ne_eqb byte 39 single,
    ) refl

-- what goes on behind a piece goes on with it
turn : (n byte : ℕ) (after rest : List ℕ) → past_piece byte after ≡ Ok rest → suc (length rest) ≤ n
    → ((m : ℕ) → length rest ≤ m → goes_on_from m rest ≡ true) → goes_on_from n (byte ∷ after) ≡ true
turn zero byte after rest at fits more = absurd (omega arith)
turn (suc n) byte after rest at fits more = ap (by_piece (goes_on_from n)) at ∙ more n (omega (arith, fits))

-- the same, where the piece is a comment
block_turn : (n : ℕ) (body rest : List ℕ) → NoClose (body ++ (42 ∷ [])) → suc (length rest) ≤ n
    → ((m : ℕ) → length rest ≤ m → goes_on_from m rest ≡ true)
    → goes_on_from n (47 ∷ 42 ∷ (body ++ (42 ∷ 47 ∷ rest))) ≡ true
block_turn n body rest first fits more =
    turn n 47 (42 ∷ (body ++ (42 ∷ 47 ∷ rest))) rest (piece_block body rest first) fits more

-- an open comment goes on in any number of turns
open_full : (n : ℕ) (after : List ℕ) → NoClose after → suc zero ≤ n → goes_on_from n (47 ∷ 42 ∷ after) ≡ true
open_full zero after none some = absurd (omega arith)
open_full (suc n) after none some = ap (by_piece (goes_on_from n)) (piece_open after none)

-- a comment is one turn
block_full : (n : ℕ) (text rest : List ℕ) → IsBlockComment text → length (text ++ rest) ≤ n
    → ((m : ℕ) → length rest ≤ m → goes_on_from m rest ≡ true) → goes_on_from n (text ++ rest) ≡ true
block_full n text rest b fits more =
    let regrouped : text ++ rest ≡ 47 ∷ 42 ∷ (b.body ++ (42 ∷ 47 ∷ rest)) = ap (λ t. t ++ rest) b.parts
    ∙ ap (λ t. 47 ∷ 42 ∷ t) (append_assoc b.body (42 ∷ 47 ∷ []) rest) in
    subst (λ t. goes_on_from n t ≡ true) (sym regrouped)
    (block_turn n b.body rest b.first
    (omega (arith, fits, ap length regrouped, length-append b.body (42 ∷ 47 ∷ rest))) more)

-- a text between quotes is one turn
quoted_full : (n : ℕ) (text rest : List ℕ) → IsQuoted text → length (text ++ rest) ≤ n
    → ((m : ℕ) → length rest ≤ m → goes_on_from m rest ≡ true) → goes_on_from n (text ++ rest) ≡ true
quoted_full n text rest q fits more =
    let regrouped : text ++ rest ≡ q.quote ∷ (q.inner ++ (q.quote ∷ rest)) = ap (λ t. t ++ rest) q.parts
    ∙ ap (λ t. q.quote ∷ t) (append_assoc q.inner (q.quote ∷ []) rest) in
    subst (λ t. goes_on_from n t ≡ true) (sym regrouped)
    (turn n q.quote (q.inner ++ (q.quote ∷ rest)) rest (piece_quote q.quote q.inner rest q.kind q.inside)
    (omega (arith, fits, ap length regrouped, length-append q.inner (q.quote ∷ rest))) more)

-- a byte is one turn
single_full : (n : ℕ) (text rest : List ℕ) → IsSingle text rest → length (text ++ rest) ≤ n
    → ((m : ℕ) → length rest ≤ m → goes_on_from m rest ≡ true) → goes_on_from n (text ++ rest) ≡ true
single_full n text rest s fits more =
    let regrouped : text ++ rest ≡ s.byte ∷ rest = ap (λ t. t ++ rest) s.parts in
    subst (λ t. goes_on_from n t ≡ true) (sym regrouped)
    (turn n s.byte rest rest (piece_single s.byte rest s.no_quote.0 s.no_quote.1 s.no_comment)
    (omega (arith, fits, ap length regrouped)) more)

-- behind pieces an open comment goes on
pieces_full : (n : ℕ) (pieces : List (List ℕ)) (after : List ℕ) → ArePieces pieces (codes "/*" ++ after)
    → NoClose after → length (flat_map (λ p. p) pieces ++ (codes "/*" ++ after)) ≤ n
    → goes_on_from n (flat_map (λ p. p) pieces ++ (codes "/*" ++ after)) ≡ true
pieces_full n [] after each none fits = open_full n after none (omega (arith, fits))
pieces_full n (piece ∷ pieces) after each none fits =
    let rest : List ℕ = flat_map (λ p. p) pieces ++ (codes "/*" ++ after) in
    let regrouped : flat_map (λ p. p) (piece ∷ pieces) ++ (codes "/*" ++ after)
    ≡ piece ++ (flat_map (λ p. p) pieces ++ (codes "/*" ++ after)) =
    append_assoc piece (flat_map (λ p. p) pieces) (codes "/*" ++ after) in
    let less : length (piece ++ rest) ≤ n = subst (λ t. length t ≤ n) regrouped fits in
    let more : (m : ℕ) → length rest ≤ m → goes_on_from m rest ≡ true =
    λ m le. pieces_full m pieces after each.1 none le in
    subst (λ t. goes_on_from n t ≡ true) (sym regrouped)
    (elim each.0 [
      | inl b ↦ block_full n piece rest b less more
      | inr (inl q) ↦ quoted_full n piece rest q less more
      | inr (inr s) ↦ single_full n piece rest s less more
    ])

-- a comment that goes on is found
pub goes_full : (bytes : List ℕ) → GoesOn bytes → goes_on bytes ≡ true
unfolding goes_on
goes_full bytes g =
    subst (λ t. goes_on_from (length t) t ≡ true) (sym g.parts)
    (pieces_full _ g.pieces g.after g.each g.open_end (omega arith))

-- what is read as a pragma is one
pub pragma_sound : (text : List ℕ) → is_pragma text ≡ true → IsPragma text
unfolding is_pragma
pragma_sound text h =
    let s = holds_on_true (strip (codes "pragma") text) ends_pragma h in
    let two = and_parts (prefix_len (is_in class.Word) s.text == 0 && list_all (is_in class.Line) s.text)
    (not (goes_on s.text)) s.holds in
    let one = and_parts (prefix_len (is_in class.Word) s.text == 0) (list_all (is_in class.Line) s.text) two.0 in
    record {
      rest = s.text;
      parts = strip_sound (codes "pragma") text s.text s.is;
      word = eqb-true (prefix_len (is_in class.Word) s.text) 0 one.0;
      line_only = one.1;
      within = λ g. false≢true (sym (not-true (goes_on s.text) two.1) ∙ goes_full s.text g);
    }

-- where nothing goes on, the test fails
not_on : (bytes : List ℕ) (t : Bool) → goes_on bytes ≡ t → (GoesOn bytes → ⊥) → not t ≡ true
not_on bytes true is none = absurd (none (goes_sound bytes is))
not_on bytes false is none = refl

-- each pragma is read
pub pragma_full : (text : List ℕ) → IsPragma text → is_pragma text ≡ true
unfolding is_pragma
pragma_full text p =
    ap (λ t. holds_on (strip (codes "pragma") t) ends_pragma) p.parts
    ∙ (ap (λ o. holds_on o ends_pragma) (strip_full (codes "pragma") p.rest)
    ∙ and_from _ _ (and_from _ _ (eq-eqb (prefix_len (is_in class.Word) p.rest) 0 p.word) p.line_only)
    (not_on p.rest (goes_on p.rest) refl p.within))

-- tests that pass together are equal
same_answer : (a b : Bool) → (a ≡ true → b ≡ true) → (b ≡ true → a ≡ true) → a ≡ b
same_answer true b to from = sym (to refl)
same_answer false true to from = absurd (false≢true (from refl))
same_answer false false to from = refl

-- more turns than bytes change nothing
goes_same : (n m : ℕ) (bytes : List ℕ) → length bytes ≤ n → length bytes ≤ m
    → goes_on_from n bytes ≡ goes_on_from m bytes
goes_same n m bytes small less = same_answer (goes_on_from n bytes) (goes_on_from m bytes)
    (λ h. (let g = goes_from_sound n bytes h in
    subst (λ t. goes_on_from m t ≡ true) (sym g.parts)
    (pieces_full m g.pieces g.after g.each g.open_end (subst (λ t. length t ≤ m) g.parts less))))
    (λ h. (let g = goes_from_sound m bytes h in
    subst (λ t. goes_on_from n t ≡ true) (sym g.parts)
    (pieces_full n g.pieces g.after g.each g.open_end (subst (λ t. length t ≤ n) g.parts small))))

-- one piece more
pub goes_turn : (byte : ℕ) (after rest : List ℕ) → past_piece byte after ≡ Ok rest → length rest ≤ length after
    → goes_on rest ≡ goes_on (byte ∷ after)
unfolding goes_on
goes_turn byte after rest at fits = goes_same (length rest) (length after) rest (omega arith) fits
    ∙ sym (ap (by_piece (goes_on_from (length after))) at)

-- where a piece is the last, it tells the answer
pub goes_stop : (byte : ℕ) (after : List ℕ) (open_end : Bool) → past_piece byte after ≡ Err open_end
    → open_end ≡ goes_on (byte ∷ after)
unfolding goes_on
goes_stop byte after open_end at = sym (ap (by_piece (goes_on_from (length after))) at)

-- the same, by the first byte of a list and the others
pub turn_at : (xs rest : List ℕ) → 1 ≤ length xs → past_piece (get_or xs 0 0) (drop 1 xs) ≡ Ok rest
    → length rest ≤ length (drop 1 xs) → goes_on rest ≡ goes_on xs
turn_at [] rest some at fits = absurd (omega (arith, some))
turn_at (x ∷ xs) rest some at fits = goes_turn x xs rest at fits

-- and so the last piece
pub stop_at : (xs : List ℕ) (open_end : Bool) → 1 ≤ length xs → past_piece (get_or xs 0 0) (drop 1 xs)
    ≡ Err open_end → open_end ≡ goes_on xs
stop_at [] open_end some at = absurd (omega (arith, some))
stop_at (x ∷ xs) open_end some at = goes_stop x xs open_end at

-- in no bytes nothing goes on
pub nothing_open : (xs : List ℕ) → length xs < 1 → false ≡ goes_on xs
unfolding goes_on
nothing_open [] none = refl
nothing_open (x ∷ xs) none = absurd (omega (arith, none))

-- all but the first, as a pattern has it
pub tail_is : (xs : List ℕ) → 1 ≤ length xs → take (length xs - 1) (drop 1 xs) ≡ drop 1 xs
tail_is [] some = absurd (omega (arith, some))
tail_is (x ∷ xs) some = ap (λ n. take n xs) (let e : suc (length xs) - 1 ≡ length xs = omega arith in e)
    ∙ take-length xs
