-- Each unit has a tree, or is refused where its reading stops.
use Rattle.std.proofs.Common.{◌≡◌, ◌⊎◌, inl, inr, List, [], ◌∷◌, ◌++◌, refl, sym, ◌∙◌, subst, append-nil}
use Rattle.critical_table.specs.declared.pos.Pos.{Pos}
use Rattle.critical_table.specs.declared.refusal.Refusal.{Refusal}
use Rattle.critical_table.specs.declared.refusal.Refusal.TheVariants.{Syntax, Deep}
use Rattle.c_lexer.specs.declared.token.Token.{Token}
use Rattle.c_lexer.specs.Stream.{Stream}
use Rattle.c_syntax.specs.Begin.{BeginsTree}
use Rattle.c_syntax.specs.HeightUnit.{greatest_height}
use Rattle.c_syntax.specs.Parsing.{SpelledBy, RefusedAtToken, RefusedAt, stopped_at}
use Rattle.c_reading.specs.Parser.{Outcome, Found, Stopped, Why, Unfit, TooDeep}
use Rattle.c_reading.specs.ReadBody.{externals}
use Rattle.c_syntax.specs.TreeUnit.{External, Tree}
use Rattle.c_reading.proofs.ParseLaws.{spelled_by, none_spelled, not_begun, never_begun}
use Rattle.c_reading.proofs.Viable.Law.{Holds}
use Rattle.c_reading.proofs.Viable.Unit.{externals_viable}

-- where reading stops as unfit, the unit is refused for its syntax, and else as too deep
abbrev pub reason_of : Why → Refusal
reason_of Unfit = Syntax
reason_of TooDeep = Deep

at_token : (stream : Stream) (why : Why) (token : Token) (after : List Token)
    → externals 254 stream.tokens ≡ Stopped why (token ∷ after)
    → Holds BeginsTree greatest_height stream.tokens why (token ∷ after)
    → RefusedAtToken stream (reason_of why) token.pos
at_token stream Unfit token after h x = record {
  before = x.before;
  token = token;
  after = after;
  parts = x.parts;
  place = refl;
  begins = x.begins;
  first = not_begun 254 stream.tokens x.before after token Unfit h x.parts;
  reason = λ most. never_begun 254 most stream.tokens x.before after token h x.parts;
}
at_token stream TooDeep token after h x =
    let d = x.deep refl in
    let same : token ≡ d.0 = (let e = d.2 in cc) in
    record {
      before = x.before;
      token = token;
      after = after;
      parts = x.parts;
      place = refl;
      begins = x.begins;
      first = not_begun 254 stream.tokens x.before after token TooDeep h x.parts;
      reason = (d.3.0, subst (λ t. BeginsTree d.3.0 (x.before ++ t ∷ [])) (sym same) d.3.1);
    }

at_end : (stream : Stream) (why : Why) → externals 254 stream.tokens ≡ Stopped why []
    → Holds BeginsTree greatest_height stream.tokens why [] → RefusedAt stream (reason_of why) stream.end
at_end stream TooDeep h x = (let d = x.deep refl in absurd (let e = d.2 in cc))
at_end stream Unfit h x = inr (record {
  place = refl;
  begins = subst (BeginsTree greatest_height) (sym (x.parts ∙ append-nil x.before)) x.begins;
  none = λ s. none_spelled stream.tokens [] Unfit s.0 h s.1 s.2;
  reason = refl;
})

-- a unit is refused where its reading stops
pub refused_at : (stream : Stream) (why : Why) (rest : List Token) → externals 254 stream.tokens ≡ Stopped why rest
    → RefusedAt stream (reason_of why) (stopped_at stream rest)
refused_at stream why [] h = at_end stream why h (externals_viable 254 stream.tokens [] why h)
refused_at stream why (token ∷ after) h =
    inl (at_token stream why token after h (externals_viable 254 stream.tokens (token ∷ after) why h))

answered : (stream : Stream) (got : Outcome (List External)) → externals 254 stream.tokens ≡ got
    → ((tree : Tree) × SpelledBy stream tree) ⊎ ((why : Refusal) × (pos : Pos) × RefusedAt stream why pos)
answered stream (Found all rest) h = inl (record { externals = all; end = stream.end }, spelled_by stream all rest h)
answered stream (Stopped why rest) h = inr (reason_of why, stopped_at stream rest, refused_at stream why rest h)

-- the reading finds a tree or stops
pub each_answered : (stream : Stream) → ((tree : Tree) × SpelledBy stream tree)
    ⊎ ((why : Refusal) × (pos : Pos) × RefusedAt stream why pos)
each_answered stream = answered stream (externals 254 stream.tokens) refl
