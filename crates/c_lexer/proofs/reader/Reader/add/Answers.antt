-- The token has the span and the place of the open part.
use Rattle.std.proofs.Common.{◌≡◌, length, refl, sym, ◌∙◌, ap, arith}
use Rattle.c_lexer.specs.declared.place.Place.{Place}
use Rattle.c_lexer.proofs.reader.Reader.add.Goals as goal

pub returns-clause-ok : goal.returns-clause-ok
returns-clause-ok c =
    let tokens = c.in_ok-push.ensures.items in
    let text = c.clear.ensures.items in
    let place = c.behind_token-self.ensures.value c.args.body in
    let len : c.len.result ≡ length c.args.self.now.text.items = c.len.ensures
    ∙ (sym c.deref.ensures.len ∙ ap length c.deref.ensures.value) in
    rw (tokens, text, place, c.deref.ensures.value, len) refl

pub returns-clause-within : goal.returns-clause-within
returns-clause-within c =
    let place = c.behind_token-self.ensures.value c.args.body in
    record {
      placed = c.behind_token-self.ensures.placed;
      reach = omega (
        arith,
        ap (λ (p : Place). p.at) place,
        ap length c.clear.ensures.items,
        ap length c.deref.ensures.value,
      );
    }
