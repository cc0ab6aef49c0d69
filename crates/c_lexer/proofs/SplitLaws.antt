-- The bytes of a unit are split in one way, so they are one list of tokens or are refused at one place for one reason.
use Rattle.std.proofs.Common.{◌≡◌, ◌⊎◌, inl, inr, ℕ, ◌<◌, List, [], ◌∷◌, ◌++◌, Bool, false, length, take, drop, refl}
use Rattle.std.proofs.Common.{sym, ◌∙◌, ap, subst, arith}
use Rattle.std.proofs.lemmas.Option.{none-some}
use Rattle.critical_table.specs.declared.pos.Pos.{Pos}
use Rattle.critical_table.specs.declared.refusal.Refusal.{Refusal}
use Rattle.critical_table.specs.declared.refusal.Refusal.TheVariants.{Size, Char, Unclosed, Literal, Directive}
use Rattle.critical_table.specs.declared.refusal.Refusal.TheVariants.{Profile, Syntax, Deep, Constraint}
use Rattle.c_lexer.specs.declared.punct.Punct.{Punct}
use Rattle.c_lexer.specs.declared.place.Place.{Place}
use Rattle.c_lexer.specs.declared.token.Body.{Body}
use Rattle.c_lexer.specs.Stream.{Stream}
use Rattle.c_lexer.specs.Lookup.{lookup}
use Rattle.c_lexer.specs.Marks.{mark_text, marks}
use Rattle.c_lexer.specs.Comments.{IsBlockComment, IsLineComment}
use Rattle.c_lexer.specs.LexicalParts.{Part, White, Spelled, part_text, IsToken, IsWhite, IsPart}
use Rattle.c_lexer.specs.Refusals.{IsReason}
use Rattle.c_lexer.specs.Lexing.{start, place_behind, place_after, tokens_of, Stands, Splits, AreTokens, IsRefused}
use Rattle.c_lexer.proofs.MarkLaws.{mark_full}
use Rattle.c_lexer.proofs.Runs.{front_taken, front_dropped}
use Rattle.c_lexer.proofs.TokenLaws.{one_token}
use Rattle.c_lexer.proofs.Leads.{Lead, Quoted, Letter, Digit, Comment, Hash, Space, Other, lead, Admits, part_admitted}
use Rattle.c_lexer.proofs.MarkPart.{mark_at_other}

-- two fronts of one length are one
same_front : (a b x y : List ℕ) → a ++ x ≡ b ++ y → length a ≡ length b → (a ≡ b) × (x ≡ y)
same_front a b x y same long = (
  sym (front_taken (length b) a x (sym long)) ∙ (ap (take (length b)) same ∙ front_taken (length b) b y refl),
  sym (front_dropped (length b) a x (sym long)) ∙ (ap (drop (length b)) same ∙ front_dropped (length b) b y refl),
)

-- a comment is longer than a byte
comment_long : (text : List ℕ) → IsLineComment text ⊎ IsBlockComment text → length text ≡ 1 → ⊥
comment_long text (inl c) one = omega (arith, one, ap length c.parts)
comment_long text (inr c) one = omega (arith, one, ap length c.parts)

-- a text is no white space and a token
white_or_token : (lead : Lead) (text : List ℕ) (token : Body) → Admits lead (White text)
    → Admits lead (Spelled text token) → ⊥
white_or_token Quoted text token white spelled = white
white_or_token Letter text token white spelled = white
white_or_token Digit text token white spelled = white
white_or_token Comment text token white spelled = comment_long text white spelled
white_or_token Hash text token white spelled = spelled
white_or_token Space text token white spelled = spelled
white_or_token Other text token white spelled = white

-- a text is not a white space and the spelling of a token
white_apart : (at_line_start : Bool) (text after other : List ℕ) (token : Body) → text ≡ other
    → IsWhite at_line_start text after → IsToken other token → ⊥
white_apart at_line_start text after other token same white spelled =
    white_or_token (lead (text ++ after)) text token (part_admitted at_line_start (White text) after white)
    (part_admitted at_line_start (Spelled text token) after (subst (λ t. IsToken t token) (sym same) spelled))

-- one text is one part
same_part : (at_line_start : Bool) (p q : Part) (after rest : List ℕ) → part_text p ≡ part_text q
    → IsPart at_line_start p after → IsPart at_line_start q rest → p ≡ q
same_part at_line_start (White text) (White other) after rest same is also = ap White same
same_part at_line_start (White text) (Spelled other token) after rest same is also =
    absurd (white_apart at_line_start text after other token same is also)
same_part at_line_start (Spelled text token) (White other) after rest same is also =
    absurd (white_apart at_line_start other rest text token (sym same) also is)
same_part at_line_start (Spelled text token) (Spelled other also_token) after rest same is also =
    let one : token ≡ also_token = one_token other token also_token (subst (λ t. IsToken t token) same is) also in cc

-- one part stands at a place
pub one_part : (at_line_start : Bool) (bytes : List ℕ) (p q : Part) (after rest : List ℕ)
    → Stands at_line_start bytes p after → Stands at_line_start bytes q rest → (p ≡ q) × (after ≡ rest)
one_part at_line_start bytes p q after rest one other =
    let long : length (part_text p) ≡ length (part_text q) =
    omega (arith, one.longest q rest other.parts other.is, other.longest p after one.parts one.is) in
    let same = same_front (part_text p) (part_text q) after rest (sym one.parts ∙ other.parts) long in
    (same_part at_line_start p q after rest same.0 one.is other.is, same.1)

-- no part can stand
abbrev IsEnd : Bool → List ℕ → Type 0
IsEnd at_line_start bytes = (part : Part) (after : List ℕ) → Stands at_line_start bytes part after → ⊥

-- the front of nothing is nothing
empty_front : (text after : List ℕ) → [] ≡ text ++ after → text ≡ []
empty_front [] after none = refl
empty_front (byte ∷ text) after none = absurd (cc)

-- a mark has bytes
pub mark_some : (mark : Punct) → mark_text mark ≡ [] → ⊥
mark_some mark none = none-some _ (sym (ap (lookup marks) none) ∙ mark_full mark)

-- no part stands in no bytes
no_bytes : (at_line_start : Bool) → IsEnd at_line_start []
unfolding lead
no_bytes at_line_start part after stands =
    let mark = mark_at_other at_line_start [] part after refl stands.parts stands.is in
    mark_some mark.0 (sym mark.1 ∙ empty_front (part_text part) after stands.parts)

-- a token has bytes
pub spelled_some : (text : List ℕ) (token : Body) → IsToken text token → 0 < length text
unfolding lead
spelled_some [] token is =
    (let mark = part_admitted false (Spelled [] token) [] is in
    absurd (mark_some mark.0 (sym (subst (IsToken []) mark.1 is))))
spelled_some (byte ∷ text) token is = omega arith

-- the bytes are split in one way up to where no part can stand
one_split : (place : Place) (bytes : List ℕ) (ps qs : List Part) (left rest : List ℕ)
    → Splits place.at_line_start bytes ps left → Splits place.at_line_start bytes qs rest
    → IsEnd (place_after place ps).at_line_start left → IsEnd (place_after place qs).at_line_start rest
    → (ps ≡ qs) × (left ≡ rest)
one_split place bytes [] [] left rest one other end also = (refl, sym one ∙ other)
one_split place bytes [] (q ∷ qs) left rest one other end also =
    absurd (end q other.0 (subst (λ t. Stands place.at_line_start t q other.0) one other.1))
one_split place bytes (p ∷ ps) [] left rest one other end also =
    absurd (also p one.0 (subst (λ t. Stands place.at_line_start t p one.0) other one.1))
one_split place bytes (p ∷ ps) (q ∷ qs) left rest one other end also =
    let same = one_part place.at_line_start bytes p q one.0 other.0 one.1 other.1 in
    let next : Splits (place_behind place q).at_line_start other.0 ps left =
    subst (λ part. Splits (place_behind place part).at_line_start other.0 ps left) same.0
    (subst (λ t. Splits (place_behind place p).at_line_start t ps left) same.1 one.2) in
    let more = one_split (place_behind place q) other.0 ps qs left rest next other.2
    (subst (λ part. IsEnd (place_after (place_behind place part) ps).at_line_start left) same.0 end) also in
    (let first : p ≡ q = same.0 in let others : ps ≡ qs = more.0 in cc, more.1)

-- tokens and end are all of a stream
same_stream : (a b : Stream) → a.tokens ≡ b.tokens → a.end ≡ b.end → a ≡ b
same_stream a b tokens end = ap (λ t. record { tokens = t; end = a.end }) tokens
    ∙ ap (λ p. record { tokens = b.tokens; end = p }) end

-- the bytes are one list of tokens
pub same_tokens : (bytes : List ℕ) (a b : Stream) → AreTokens bytes a → AreTokens bytes b → a ≡ b
same_tokens bytes a b one other =
    let same = one_split start bytes one.parts other.parts [] [] one.split other.split (no_bytes _) (no_bytes _) in
    same_stream a b (one.tokens ∙ (ap (tokens_of start) same.0 ∙ sym other.tokens)) (one.end ∙ sym other.end)

-- they are not both tokens and refused
pub tokens_or_refused : (bytes : List ℕ) (stream : Stream) (why : Refusal) (pos : Pos) → AreTokens bytes stream
    → IsRefused bytes why pos → ⊥
tokens_or_refused bytes stream why pos tokens refused =
    let same = one_split start bytes tokens.parts refused.parts [] refused.rest tokens.split refused.split
    (no_bytes _) refused.none in
    omega (arith, refused.more, ap length same.1)

-- there is one reason
one_reason : (at_line_start : Bool) (bytes : List ℕ) (why other : Refusal) → IsReason at_line_start bytes why
    → IsReason at_line_start bytes other → why ≡ other
one_reason at_line_start bytes Profile Profile one two = refl
one_reason at_line_start bytes Profile Literal one two = absurd (two.1 one)
one_reason at_line_start bytes Profile Unclosed one two = absurd (two.1 one)
one_reason at_line_start bytes Profile Directive one two = absurd (two.1 one)
one_reason at_line_start bytes Profile Char one two = absurd (two.0 one)
one_reason at_line_start bytes Literal Profile one two = absurd (one.1 two)
one_reason at_line_start bytes Literal Literal one two = refl
one_reason at_line_start bytes Literal Unclosed one two = absurd (two.2 one.0)
one_reason at_line_start bytes Literal Directive one two = absurd (two.2 one.0)
one_reason at_line_start bytes Literal Char one two = absurd (two.1 one.0)
one_reason at_line_start bytes Unclosed Profile one two = absurd (one.1 two)
one_reason at_line_start bytes Unclosed Literal one two = absurd (one.2 two.0)
one_reason at_line_start bytes Unclosed Unclosed one two = refl
one_reason at_line_start bytes Unclosed Directive one two = absurd (two.3 one.0)
one_reason at_line_start bytes Unclosed Char one two = absurd (two.2 one.0)
one_reason at_line_start bytes Directive Profile one two = absurd (one.1 two)
one_reason at_line_start bytes Directive Literal one two = absurd (one.2 two.0)
one_reason at_line_start bytes Directive Unclosed one two = absurd (one.3 two.0)
one_reason at_line_start bytes Directive Directive one two = refl
one_reason at_line_start bytes Directive Char one two = absurd (two.3 one.0)
one_reason at_line_start bytes Char Profile one two = absurd (one.0 two)
one_reason at_line_start bytes Char Literal one two = absurd (one.1 two.0)
one_reason at_line_start bytes Char Unclosed one two = absurd (one.2 two.0)
one_reason at_line_start bytes Char Directive one two = absurd (one.3 two.0)
one_reason at_line_start bytes Char Char one two = refl
one_reason at_line_start bytes why Size one two = absurd two
one_reason at_line_start bytes why Syntax one two = absurd two
one_reason at_line_start bytes why Deep one two = absurd two
one_reason at_line_start bytes why (Constraint number) one two = absurd two
one_reason at_line_start bytes why other one two = absurd one

-- they are refused at one place for one reason
pub same_refusal : (bytes : List ℕ) (why other : Refusal) (pos place : Pos) → IsRefused bytes why pos
    → IsRefused bytes other place → (why ≡ other) × (pos ≡ place)
same_refusal bytes why other pos place one two =
    let same = one_split start bytes one.parts two.parts one.rest two.rest one.split two.split one.none two.none in
    let is_reason =
    subst (λ t. IsReason (place_after start two.parts).at_line_start t why) same.1
    (subst (λ parts. IsReason (place_after start parts).at_line_start one.rest why) same.0 one.is_reason) in (
      one_reason (place_after start two.parts).at_line_start two.rest why other is_reason two.is_reason,
      one.place
          ∙ (ap (λ parts. (place_after start parts).pos) same.0 ∙ sym two.place),
    )
