-- What stands between quotes is a token or is refused, and so is what no quote ends.
use Rattle.std.proofs.Common.{◌≡◌, ◌⊎◌, inl, inr, ℕ, ◌≤◌, ◌<◌, List, [], ◌∷◌, ◌++◌, Bool, true, false, length, refl}
use Rattle.std.proofs.Common.{sym, ◌∙◌, ap, subst, arith, append_assoc, length-append}
use Rattle.std.proofs.lemmas.Bool.{and_parts, ne_eqb}
use Rattle.std.proofs.lemmas.Option.{none-some}
use Rattle.std.proofs.lemmas.List.{append-nil, append_cancel_right}
use Rattle.std.specs.Prelude.{Some, None}
use Rattle.std.specs.List.{list_all, flat_map}
use Rattle.std.specs.Char.{is_ascii_hexdigit}
use Rattle.critical_table.specs.declared.refusal.Refusal.TheVariants.{Unclosed, Literal, Directive, Profile}
use Rattle.c_lexer.specs.declared.token.Body.{Body}
use Rattle.c_lexer.specs.declared.token.Body.TheVariants as body
use Rattle.c_lexer.specs.Bytes.{is_octal}
use Rattle.c_lexer.specs.Characters.{Item, Plain, Letter, Octal, Hexadecimal, item_text, escapes, value_at, IsItem}
use Rattle.c_lexer.specs.Characters.{AreItems, encoding_prefix, IsCharacter, IsLiteral}
use Rattle.c_lexer.specs.Comments.{IsInner}
use Rattle.c_lexer.specs.ReadComment.{past_quote}
use Rattle.c_lexer.specs.LexicalParts.{IsToken, Part, White, Spelled, part_text, IsPart}
use Rattle.c_lexer.specs.Refusals.{NoCharacter, NoLiteral, NeverEnds, Fits, IsReason}
use Rattle.c_lexer.specs.Lexing.{Stands}
use Rattle.c_lexer.proofs.Cases.{told_apart, other_byte}
use Rattle.c_lexer.proofs.CommentLaws.{quote_full}
use Rattle.c_lexer.proofs.Leads.{lead, Quoted, IsQuotedToken, IsQuote, each_quote, quoted_lead, comment_lead}
use Rattle.c_lexer.proofs.Leads.{number_lead, Admits, admitted_at}
use Rattle.c_lexer.proofs.LeadRefusals.{no_fit, no_refusal}

-- a quote, or L and a quote, and all up to the quote that ends it
pub record IsQuotation (text : List ℕ) : Type 0 where
  pub wide : Bool
  pub quote : ℕ
  pub inner : List ℕ
  pub kind : (quote ≡ 34) ⊎ (quote ≡ 39)
  pub parts : text ≡ encoding_prefix wide ++ (quote ∷ (inner ++ (quote ∷ [])))
  pub inside : IsInner quote false inner

-- a quote, or L and a quote, that nothing ends on its line
pub record IsOpenQuotation (bytes : List ℕ) : Type 0 where
  pub wide : Bool
  pub quote : ℕ
  pub after : List ℕ
  pub kind : (quote ≡ 34) ⊎ (quote ≡ 39)
  pub parts : bytes ≡ encoding_prefix wide ++ (quote ∷ after)
  pub never : past_quote quote false after ≡ None

-- the bytes at the front say which quote begins there
same_prefix : (wide other : Bool) (quote also : ℕ) (a b : List ℕ) → IsQuote quote → IsQuote also
    → encoding_prefix wide ++ (quote ∷ a) ≡ encoding_prefix other ++ (also ∷ b) → (wide ≡ other) × (quote ≡ also)
    × (a ≡ b)
same_prefix false false quote also a b kind of h = (refl, cc, cc)
same_prefix true true quote also a b kind of h = (refl, cc, cc)
same_prefix false true quote also a b kind of h = absurd (let e : quote ≡ 76 = cc in omega arith)
same_prefix true false quote also a b kind of h = absurd (let e : 76 ≡ also = cc in omega arith)

-- bytes of a class that has no quote, no backslash and no line feed
class_inside : (p : ℕ → Bool) (quote : ℕ) (bytes more : List ℕ) → p 10 ≡ false → p 92 ≡ false → p quote ≡ false
    → list_all p bytes ≡ true → IsInner quote false more → IsInner quote false (bytes ++ more)
class_inside p quote [] more feed backslash end all inside = inside
class_inside p quote (byte ∷ bytes) more feed backslash end all inside =
    let both = and_parts (p byte) (list_all p bytes) all in (
      told_apart p byte 10 both.0 feed,
      told_apart p byte quote both.0 end,
      rw (other_byte p 92 byte backslash both.0) (class_inside p quote bytes more feed backslash end both.1 inside),
    )

-- octal digits behind a backslash stand between quotes
octal_inside : (quote : ℕ) (digits more : List ℕ) → IsQuote quote → 0 < length digits
    → list_all is_octal digits ≡ true → IsInner quote false more → IsInner quote true (digits ++ more)
octal_inside quote [] more kind some all inside = absurd (omega (arith, some))
octal_inside quote (digit ∷ digits) more kind some all inside =
    let both = and_parts (is_octal digit) (list_all is_octal digits) all in (
      told_apart is_octal digit 10 both.0 refl,
      class_inside is_octal quote digits more refl refl
          (each_quote (λ n. is_octal n ≡ false) quote kind refl refl) both.1 inside,
    )

-- a backslash hides what comes next
escape_inside : (quote : ℕ) (bytes : List ℕ) → IsQuote quote → IsInner quote true bytes
    → IsInner quote false (92 ∷ bytes)
escape_inside quote bytes kind inside = (λ (e : 92 ≡ 10). omega arith, λ (e : 92 ≡ quote). omega arith, inside)

-- an item stands between quotes
item_inside : (wide : Bool) (quote : ℕ) (item : Item) (value : ℕ) (more : List ℕ) → IsQuote quote
    → IsItem wide quote item value → IsInner quote false more → IsInner quote false (item_text item ++ more)
item_inside wide quote (Plain byte) value more kind fits inside = (fits.2, fits.0, rw (ne_eqb byte 92 fits.1) inside)
item_inside wide quote (Letter byte) value more kind fits inside =
    escape_inside quote (byte ∷ more) kind (λ e. none-some _ (sym (ap (value_at escapes) e) ∙ fits), inside)
item_inside wide quote (Octal digits) value more kind fits inside =
    escape_inside quote (digits ++ more) kind (octal_inside quote digits more kind fits.0 fits.2 inside)
item_inside wide quote (Hexadecimal digits) value more kind fits inside =
    escape_inside quote (120 ∷ (digits ++ more)) kind (
      λ (e : 120 ≡ 10). omega arith,
      class_inside is_ascii_hexdigit quote digits more refl refl
          (each_quote (λ n. is_ascii_hexdigit n ≡ false) quote kind refl refl) fits.1 inside,
    )

-- items stand between quotes
items_inside : (wide : Bool) (quote : ℕ) (items : List Item) (values after : List ℕ) → IsQuote quote
    → AreItems wide quote items values after → IsInner quote false (flat_map item_text items)
items_inside wide quote [] values after kind fit = refl
items_inside wide quote (item ∷ items) [] after kind fit = absurd fit
items_inside wide quote (item ∷ items) (value ∷ values) after kind fit =
    item_inside wide quote item value (flat_map item_text items) kind fit.0
    (items_inside wide quote items values after kind fit.2)

-- a character constant or a string literal ends at its first unhidden quote
token_quotation : (text : List ℕ) (token : Body) → IsQuotedToken token → IsToken text token → IsQuotation text
token_quotation text (body.Character value wide) quoted is = record {
  wide = wide;
  quote = 39;
  inner = item_text is.item;
  kind = inr refl;
  parts = is.parts;
  inside = subst (IsInner 39 false) (append-nil (item_text is.item))
      (item_inside wide 39 is.item is.code [] (inr refl) is.fits refl);
}
token_quotation text (body.Literal units wide) quoted is =
    record {
      wide = wide;
      quote = 34;
      inner = flat_map item_text is.items;
      kind = inl refl;
      parts =
          is.parts;
      inside = items_inside wide 34 is.items is.values (34 ∷ []) (inl refl) is.fit;
    }
token_quotation text token quoted is = absurd quoted

-- what follows a quotation, behind its closing quote
regroup : (wide : Bool) (quote : ℕ) (inner rest : List ℕ)
    → (encoding_prefix wide ++ (quote ∷ (inner ++ (quote ∷ [])))) ++ rest ≡ encoding_prefix wide
    ++ (quote ∷ (inner ++ (quote ∷ rest)))
regroup wide quote inner rest = simp append_assoc

-- a quotation and what follows it begin with its quote
front : (text rest : List ℕ) (q : IsQuotation text)
    → text ++ rest ≡ encoding_prefix q.wide ++ (q.quote ∷ (q.inner ++ (q.quote ∷ rest)))
front text rest q = ap (λ t. t ++ rest) q.parts ∙ regroup q.wide q.quote q.inner rest

-- a quotation begins with its quote
quotation_lead : (text rest : List ℕ) → IsQuotation text → lead (text ++ rest) ≡ Quoted
quotation_lead text rest q =
    quoted_lead q.wide q.quote (text ++ rest) (q.inner ++ (q.quote ∷ rest)) q.kind (front text rest q)

-- what follows a quotation is what follows its first unhidden quote
past_end : (quote : ℕ) (inner after : List ℕ) → IsQuote quote → IsInner quote false inner
    → past_quote quote false (inner ++ (quote ∷ after)) ≡ Some after
past_end quote inner after kind inside = quote_full quote false inner after (λ e. omega arith) inside

-- no two quotations begin at one place
one_quotation : (text rest other after : List ℕ) → IsQuotation text → IsQuotation other
    → text ++ rest ≡ other ++ after → text ≡ other
one_quotation text rest other after q o h =
    let same = same_prefix q.wide o.wide q.quote o.quote (q.inner ++ (q.quote ∷ rest))
    (o.inner ++ (o.quote ∷ after)) q.kind o.kind (sym (front text rest q) ∙ (h ∙ front other after o)) in
    let one = past_end q.quote q.inner rest q.kind q.inside in
    let two = past_end o.quote o.inner after o.kind o.inside in
    let past : Some rest ≡ Some after =
    sym one ∙ (ap (λ n. past_quote n false (q.inner ++ (q.quote ∷ rest))) same.1
    ∙ (ap (past_quote o.quote false) same.2 ∙ two)) in
    let end : after ≡ rest = cc in
    append_cancel_right text other rest (h ∙ ap (λ t. other ++ t) end)

-- a quotation has two quotes
quotation_long : (text : List ℕ) → IsQuotation text → 2 ≤ length text
quotation_long text q =
    omega (
      arith,
      ap length q.parts,
      length-append (encoding_prefix q.wide) (q.quote ∷ (q.inner ++ (q.quote ∷ []))),
      length-append q.inner (q.quote ∷ []),
    )

-- no part at this place is longer than the quotation
no_longer : (text rest : List ℕ) (part : Part) (at_line_start : Bool) (after : List ℕ) → IsQuotation text
    → text ++ rest ≡ part_text part ++ after → IsPart at_line_start part after → Admits Quoted part
    → length (part_text part) ≤ length text
no_longer text rest (White other) at_line_start after q h is admits = absurd admits
no_longer text rest (Spelled other token) at_line_start after q h is (inl one) = omega (arith, quotation_long text q)
no_longer text rest (Spelled other token) at_line_start after q h is (inr quoted) =
    omega (arith, ap length (one_quotation text rest other after q (token_quotation other token quoted is) h))

-- what ends as a quotation at this place is the one that stands there
same_end : (text rest : List ℕ) (wide : Bool) (quote : ℕ) (inner after : List ℕ) (q : IsQuotation text)
    → IsQuote quote → IsInner quote false inner
    → text ++ rest ≡ encoding_prefix wide ++ (quote ∷ (inner ++ (quote ∷ after)))
    → (text ≡ encoding_prefix wide ++ (quote ∷ (inner ++ (quote ∷ [])))) × (q.wide ≡ wide) × (q.quote ≡ quote)
same_end text rest wide quote inner after q kind inside h =
    let whole = one_quotation text rest (encoding_prefix wide ++ (quote ∷ (inner ++ (quote ∷ [])))) after q
    (record { wide = wide; quote = quote; inner = inner; kind = kind; parts = refl; inside = inside }) (h
    ∙ sym (regroup wide quote inner after)) in
    let same = same_prefix q.wide wide q.quote quote (q.inner ++ (q.quote ∷ [])) (inner ++ (quote ∷ [])) q.kind kind
    (sym q.parts ∙ whole) in
    (whole, same.0, same.1)

-- what spells a token and is a quotation is a constant or a literal
quoted_token : (at_line_start : Bool) (text rest : List ℕ) (token : Body) → IsQuotation text → IsToken text token
    → IsQuotedToken token
quoted_token at_line_start text rest token q is =
    elim (admitted_at at_line_start (text ++ rest) Quoted (Spelled text token) rest (quotation_lead text rest q)
    refl is) [ inl one ↦ absurd (omega (arith, one, quotation_long text q)) | inr quoted ↦ quoted ]

-- what spells one is no wrong character constant
some_character : (text rest : List ℕ) (token : Body) → IsQuotedToken token → IsToken text token
    → NoCharacter (text ++ rest) → ⊥
unfolding token_quotation
some_character text rest (body.Character value wide) quoted is fault =
    let end = same_end text rest fault.wide 39 fault.inner fault.after
    (token_quotation text (body.Character value wide) quoted is) (inr refl) fault.inside fault.parts in
    fault.none value (subst (IsCharacter (encoding_prefix fault.wide ++ (39 ∷ (fault.inner ++ (39 ∷ [])))) value)
    end.1 (subst (λ t. IsCharacter t value wide) end.0 is))
some_character text rest (body.Literal units wide) quoted is fault =
    let end = same_end text rest fault.wide 39 fault.inner fault.after
    (token_quotation text (body.Literal units wide) quoted is) (inr refl) fault.inside fault.parts in
    omega (arith, end.2)
some_character text rest token quoted is fault = quoted

-- and no wrong string literal
some_literal : (text rest : List ℕ) (token : Body) → IsQuotedToken token → IsToken text token
    → NoLiteral (text ++ rest) → ⊥
unfolding token_quotation
some_literal text rest (body.Literal units wide) quoted is fault =
    let end = same_end text rest fault.wide 34 fault.inner fault.after
    (token_quotation text (body.Literal units wide) quoted is) (inl refl) fault.inside fault.parts in
    fault.none units (subst (IsLiteral (encoding_prefix fault.wide ++ (34 ∷ (fault.inner ++ (34 ∷ [])))) units)
    end.1 (subst (λ t. IsLiteral t units wide) end.0 is))
some_literal text rest (body.Character value wide) quoted is fault =
    let end = same_end text rest fault.wide 34 fault.inner fault.after
    (token_quotation text (body.Character value wide) quoted is) (inl refl) fault.inside fault.parts in
    omega (arith, end.2)
some_literal text rest token quoted is fault = quoted

-- so no literal is wrong there
some_token : (at_line_start : Bool) (text rest : List ℕ) (token : Body) → IsQuotation text → IsToken text token
    → Fits at_line_start (text ++ rest) Literal → ⊥
some_token at_line_start text rest token q is (inl fault) =
    (let at = quotation_lead text rest q in let digit = number_lead (text ++ rest) fault.0 in cc)
some_token at_line_start text rest token q is (inr (inl fault)) =
    some_character text rest token (quoted_token at_line_start text rest token q is) is fault
some_token at_line_start text rest token q is (inr (inr fault)) =
    some_literal text rest token (quoted_token at_line_start text rest token q is) is fault

-- what never ends doesn't end here
never_ends : (quote : ℕ) (bytes : List ℕ) (wide : Bool) (also : ℕ) (inner after : List ℕ) → NeverEnds quote bytes
    → IsQuote quote → IsQuote also → bytes ≡ encoding_prefix wide ++ (also ∷ (inner ++ (also ∷ after)))
    → IsInner also false inner → ⊥
never_ends quote bytes wide also inner after unended kind of h inside =
    let same = same_prefix unended.wide wide quote also unended.rest (inner ++ (also ∷ after)) kind of
    (sym unended.parts ∙ h) in
    unended.never inner after (same.2 ∙ ap (λ k. inner ++ (k ∷ after)) (sym same.1))
    (subst (λ k. IsInner k false inner) (sym same.1) inside)

-- what ends is not unclosed
is_closed : (at_line_start : Bool) (text rest : List ℕ) → IsQuotation text
    → Fits at_line_start (text ++ rest) Unclosed → ⊥
is_closed at_line_start text rest q (inl unended) =
    (let at = quotation_lead text rest q in let comment = comment_lead (text ++ rest) unended.parts refl in cc)
is_closed at_line_start text rest q (inr (inl unended)) =
    never_ends 39 (text ++ rest) q.wide q.quote q.inner rest unended (inr refl) q.kind (front text rest q) q.inside
is_closed at_line_start text rest q (inr (inr unended)) =
    never_ends 34 (text ++ rest) q.wide q.quote q.inner rest unended (inl refl) q.kind (front text rest q) q.inside

-- a quotation that spells a token stands
pub quotation_stands : (at_line_start : Bool) (text rest : List ℕ) (token : Body) → IsQuotation text
    → IsToken text token → Stands at_line_start (text ++ rest) (Spelled text token) rest
quotation_stands at_line_start text rest token q is =
    let at = quotation_lead text rest q in
    record {
      parts = refl;
      is = is;
      longest = λ other after h part. no_longer text rest other at_line_start after q h part
          (admitted_at at_line_start (text ++ rest) Quoted other after at h part);
      no_refusal = no_refusal at_line_start (text ++ rest) (
        no_fit at_line_start (text ++ rest) Profile at refl,
        some_token at_line_start text rest token q is,
        is_closed at_line_start text rest q,
        no_fit at_line_start (text ++ rest) Directive at refl,
      );
    }

-- of either quote, what ends so and spells no token is refused
refused_as : (at_line_start wide : Bool) (text rest inner : List ℕ) (quote : ℕ) → IsQuote quote
    → ((token : Body) → IsToken text token → ⊥) → text ≡ encoding_prefix wide ++ (quote ∷ (inner ++ (quote ∷ [])))
    → IsInner quote false inner → Fits at_line_start (text ++ rest) Literal
refused_as at_line_start wide text rest inner quote kind none =
    each_quote (λ n. text ≡ encoding_prefix wide ++ (n ∷ (inner ++ (n ∷ []))) → IsInner n false inner
    → Fits at_line_start (text ++ rest) Literal) quote kind
    (λ parts inside. inr (inr (record {
      wide = wide;
      inner = inner;
      after = rest;
      parts = ap (λ t. t ++ rest) parts ∙ regroup wide 34 inner rest;
      inside = inside;
      none = λ units is. none (body.Literal units wide) (subst (λ t. IsLiteral t units wide) (sym parts) is);
    })))
    (λ parts inside. inr (inl (record {
      wide = wide;
      inner = inner;
      after = rest;
      parts = ap (λ t. t ++ rest) parts ∙ regroup wide 39 inner rest;
      inside = inside;
      none = λ value is. none (body.Character value wide) (subst (λ t. IsCharacter t value wide) (sym parts) is);
    })))

-- a quotation that spells none is refused
pub quotation_refused : (at_line_start : Bool) (text rest : List ℕ) → IsQuotation text
    → ((token : Body) → IsToken text token → ⊥) → IsReason at_line_start (text ++ rest) Literal
quotation_refused at_line_start text rest q none = (
  refused_as at_line_start q.wide text rest q.inner q.quote q.kind none q.parts q.inside,
  no_fit at_line_start (text ++ rest) Profile (quotation_lead text rest q) refl,
)

-- an open quotation never ends
open_never : (bytes : List ℕ) (q : IsOpenQuotation bytes) → NeverEnds q.quote bytes
open_never bytes q = record {
  wide = q.wide;
  rest = q.after;
  parts = q.parts;
  never = λ inner after is inside. none-some _ (sym q.never
      ∙ (ap (past_quote q.quote false) is ∙ past_end q.quote inner after q.kind inside));
}

-- so no literal that ends is wrong there
no_end : (at_line_start : Bool) (bytes : List ℕ) (q : IsOpenQuotation bytes) → lead bytes ≡ Quoted
    → Fits at_line_start bytes Literal → ⊥
no_end at_line_start bytes q at (inl fault) = (let digit = number_lead bytes fault.0 in cc)
no_end at_line_start bytes q at (inr (inl fault)) =
    never_ends q.quote bytes fault.wide 39 fault.inner fault.after (open_never bytes q) q.kind (inr refl)
    fault.parts fault.inside
no_end at_line_start bytes q at (inr (inr fault)) =
    never_ends q.quote bytes fault.wide 34 fault.inner fault.after (open_never bytes q) q.kind (inl refl)
    fault.parts fault.inside

-- an open quotation is refused as unclosed
pub open_quotation_refused : (at_line_start : Bool) (bytes : List ℕ) → IsOpenQuotation bytes
    → IsReason at_line_start bytes Unclosed
open_quotation_refused at_line_start bytes q =
    let at = quoted_lead q.wide q.quote bytes q.after q.kind q.parts in (
      each_quote (λ n. NeverEnds n bytes → Fits at_line_start bytes Unclosed) q.quote q.kind
          (λ never. inr (inr never)) (λ never. inr (inl never)) (open_never bytes q),
      no_fit at_line_start bytes Profile at refl,
      no_end at_line_start bytes q at,
    )
