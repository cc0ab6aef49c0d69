-- The loops that put one node around another: what they keep, and what they give.
use Rattle.std.proofs.Common.{◌≡◌, ℕ, ◌+◌, ◌-◌, ◌≤◌, ◌<◌, ◌++◌, Bool, true, false, nat_le, List, Option, ◌∙◌, arith}
use borrow.Author.Tests.{le-leb, lt-leb}
use Rattle.c_lexer.specs.declared.token.Token.{Token}
use Rattle.c_lexer.specs.declared.token.Body.{Body}
use Rattle.c_parser.specs.declared.fault.Fault.{Fault}
use Rattle.c_parser.specs.Agree.{Refuses}
use Rattle.c_reading.specs.Parser.{Outcome, Found, Stopped, TooDeep, Parser, next_body, climb}
use Rattle.c_syntax.specs.Scopes.{Scope}
use Rattle.c_reading.proofs.Full.Steps.{climb_over}
use Rattle.c_parser.proofs.Refused.{refused}
use Rattle.c_parser.proofs.Turns.{climb_deep, climb_refused, climb_turn}

-- The loop has come to this node, of this height, in this scope before these tokens. Some number of turns more gives
-- the whole: as many as the height that is left.
pub record Climbing {A : Type 0} (k : ℕ) (goes : A → Option Body → Bool) (high : A → ℕ) (adds : A
    → Scope) (wrap : Scope → A → Parser A)
    (starts : Scope → Type 0) (whole : Scope → Outcome A) (left : A) (height : ℕ) (behind : Scope)
    (rest : List Token) : Type 0 where
  pub known : height ≡ high left
  pub within : height ≤ k + 1
  pub turns : ℕ
  pub enough : k < turns + height
  pub reads : (outer : Scope) → starts outer
      → whole outer ≡ climb goes (λ e. nat_le (high e) k) (wrap outer) turns left rest
  pub scope : (outer : Scope) → starts outer → behind ≡ outer ++ adds left

-- before the first turn
pub climb_start : {A : Type 0} {k : ℕ} {goes : A → Option Body → Bool} {high : A → ℕ} {adds : A
    → Scope} {wrap : Scope → A → Parser A}
    {starts : Scope → Type 0} {whole : Scope → Outcome A} {left : A} {height : ℕ} {behind : Scope} {rest : List Token}
    → height ≡ high left → height ≤ k + 1 → 1 ≤ height
    → ((outer : Scope) → starts outer → whole outer ≡ climb goes (λ e. nat_le (high e) k) (wrap outer) k left rest)
    → ((outer : Scope) → starts outer → behind ≡ outer ++ adds left)
    → Climbing k goes high adds wrap starts whole left height behind rest
climb_start {k = k} known within some reads scope =
    record { known = known; within = within; turns = k; enough = omega arith; reads = reads; scope = scope }

module _ {A : Type 0} {k : ℕ} {goes : A → Option Body → Bool} {high : A → ℕ} {adds : A → Scope} {wrap : Scope → A
    → Parser A}
    {starts : Scope → Type 0} {whole : Scope → Outcome A} {left : A} {height : ℕ} {behind : Scope} {rest : List Token}
    (now : Climbing k goes high adds wrap starts whole left height behind rest) where
  pub climbed : goes left (next_body rest) ≡ false → (outer : Scope) → starts outer → whole outer ≡ Found left rest
  climbed over outer h = now.reads outer h
      ∙ climb_over goes (λ e. nat_le (high e) k) (wrap outer) now.turns left rest over

  pub too_high : goes left (next_body rest) ≡ true → k < height → (outer : Scope) → starts outer
      → whole outer ≡ Stopped TooDeep rest
  too_high more deep outer h =
      let above : k < high left = omega (arith, now.known) in
      now.reads outer h
      ∙ climb_deep goes (λ e. nat_le (high e) k) (wrap outer) now.turns left rest more (lt-leb (high left) k above)

  low_enough : height ≤ k → nat_le (high left) k ≡ true
  low_enough low = le-leb (high left) k (omega (arith, now.known))

  turns_left : height ≤ k → 0 < now.turns
  turns_left low = omega (arith, now.enough)

  pub climb_stopped : goes left (next_body rest) ≡ true → height ≤ k → (fault : Fault)
      → ((outer : Scope) → behind ≡ outer ++ adds left → Refuses (wrap outer left rest) fault)
      → (outer : Scope) → starts outer → Refuses (whole outer) fault
  climb_stopped more low fault stops outer h =
      refused _ (wrap outer left rest) fault
      (λ why after e. now.reads outer h
      ∙ climb_refused goes (λ e. nat_le (high e) k) (wrap outer) now.turns left rest after why (turns_left low)
      more (low_enough low) e)
      (stops outer (now.scope outer h))

  pub climb_on : {around : A} {above : ℕ} {after : Scope} {past : List Token} → goes left (next_body rest) ≡ true
      → height ≤ k
      → ((outer : Scope) → behind ≡ outer ++ adds left → wrap outer left rest ≡ Found around past)
      → (above ≡ high around) × (height < above) × (above ≤ k + 1)
      → ((outer : Scope) → behind ≡ outer ++ adds left → after ≡ outer ++ adds around)
      → Climbing k goes high adds wrap starts whole around above after past
  climb_on {around} {above} {after} {past} more low reads grown scope = record {
    known = grown.0;
    within = grown.2;
    turns = now.turns - 1;
    enough = omega (arith, now.enough, grown.1);
    reads = λ outer h.
        now.reads outer h
        ∙ climb_turn goes (λ e. nat_le (high e) k) (wrap outer) now.turns left around rest past (turns_left low)
        more (low_enough low) (reads outer (now.scope outer h));
    scope = λ outer h. scope outer (now.scope outer h);
  }
