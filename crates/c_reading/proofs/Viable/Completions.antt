-- Wholes that are completed by their parts, and what begins with a token.
use Rattle.std.proofs.Common.{◌≡◌, ℕ, ◌≤◌, max, List, [], ◌∷◌, ◌++◌, Option, Some, refl, sym, ◌∙◌, ap, append_assoc}
use Rattle.std.proofs.Common.{append-nil, arith}
use Rattle.critical_table.specs.declared.pos.Pos.{Pos}
use Rattle.c_lexer.specs.declared.token.Body.{Body}
use Rattle.c_lexer.specs.declared.token.Token.{Token}
use Rattle.c_syntax.specs.declared.spelled.Spelled.{Spelled}
use Rattle.c_syntax.specs.Begin.{Begins}
use Rattle.c_reading.specs.Parser.{Unfit, TooDeep, next_body, place, tail}
use Rattle.c_syntax.specs.Tokens.{StandsAt}
use Rattle.c_reading.proofs.Viable.Contexts.{Completed, Context, refused, too_deep}
use Rattle.c_reading.proofs.Sound.Steps.{Spelt, joined, nothing_spelt}
use Rattle.c_reading.proofs.Sound.Law.{Read, spelt}
use Rattle.c_reading.proofs.Viable.Law.{Holds}

-- what is read begins with itself
pub read_completed : {A : Type 0} {Fits : A → Type 0} {tall : A → ℕ} {spelled : A
    → List Spelled} {most : ℕ} {tokens rest : List Token} {a : A} → Read Fits tall spelled most tokens a rest
    → Completed Fits tall spelled most (spelled a)
read_completed {spelled = spelled} {a = a} read =
    record { node = a; more = []; fits = read.fits; within = read.within; parts = sym (append-nil (spelled a)) }

module _ {A B : Type 0} {Fits : A → Type 0} {tall : A → ℕ} {spelled : A → List Spelled} {Fits' : B
    → Type 0} {tall' : B → ℕ} {spelled' : B → List Spelled} {rise : ℕ → ℕ} {least : ℕ} {front : List Spelled} where
  -- what stands behind the part completes the whole
  pub behind_part : Context Fits tall spelled Fits' tall' spelled' rise least front → (k : ℕ) (a : A) → Fits a
      → tall a ≤ k → least ≤ k → Completed Fits' tall' spelled' (rise k) (front ++ spelled a)
  behind_part context k a fits low others = record {
    node = context.make a;
    more = context.behind;
    fits = context.fits a fits;
    within = context.within a k others low;
    parts = context.spells a ∙ sym (append_assoc front (spelled a) context.behind);
  }

  -- and so do the part and what stands behind it
  pub before_part : Context Fits tall spelled Fits' tall' spelled' rise least front → (k : ℕ) (a : A) → Fits a
      → tall a ≤ k → least ≤ k → Completed Fits' tall' spelled' (rise k) front
  before_part context k a fits low others =
      record {
        node = context.make a;
        more = spelled a ++ context.behind;
        fits = context.fits a fits;
        within =
            context.within a k others low;
        parts = context.spells a;
      }

  -- a token behind a part is none that may follow
  pub refused_behind : {k : ℕ} {a : A} {tokens mid rest : List Token}
      → Context Fits tall spelled Fits' tall' spelled' rise least front → least ≤ k → Spelt tokens front mid
      → Read Fits tall spelled k mid a rest
      → Holds (Begins Fits' tall' spelled') (rise k) tokens Unfit rest
  refused_behind {k = k} {a = a} context others before read =
      refused (joined before (spelt read)) (behind_part context k a read.fits read.within others)

-- what begins with more begins with less
pub fewer : {A : Type 0} {Fits : A → Type 0} {tall : A → ℕ} {spelled : A
    → List Spelled} {most : ℕ} (front more : List Spelled) → Completed Fits tall spelled most (front ++ more)
    → Completed Fits tall spelled most front
fewer front more c = record {
  node = c.node;
  more = more ++ c.more;
  fits = c.fits;
  within = c.within;
  parts =
      c.parts ∙ append_assoc front more c.more;
}

-- ---- what begins with a token

-- some node begins with the token at this place
pub record Begun {A : Type 0} (Fits : A → Type 0) (tall : A → ℕ) (spelled : A
    → List Spelled) (pos : Pos) (o : Option Body) : Type 0 where
  pub next : Spelled
  pub is : o ≡ Some next.body
  pub stands : StandsAt next.place pos
  pub high : ℕ
  pub completed : Completed Fits tall spelled high (next ∷ [])

module _ {A : Type 0} {Fits : A → Type 0} {tall : A → ℕ} {spelled : A → List Spelled} where
  -- a node whose first token it is
  pub whole_begins : {pos : Pos} (next : Spelled) (a : A) (more : List Spelled) → StandsAt next.place pos → Fits a
      → spelled a ≡ next ∷ more → Begun Fits tall spelled pos (Some next.body)
  whole_begins next a more stands fits same =
      record {
        next = next;
        is = refl;
        stands = stands;
        high = tall a;
        completed =
            record { node = a; more = more; fits = fits; within = omega arith; parts = same };
      }

  -- the token is spelled as the first of that node
  pub spelt_next : (tokens : List Token) (b : Begun Fits tall spelled (place tokens) (next_body tokens))
      → Spelt tokens (b.next ∷ []) (tail tokens)
  spelt_next tokens b = by tokens b.is b.stands
    where
      by : (tokens : List Token) → next_body tokens ≡ Some b.next.body → StandsAt b.next.place (place tokens)
          → Spelt tokens (b.next ∷ []) (tail tokens)
      by [] is stands = absurd (cc (is))
      by (token ∷ tokens) is stands = record { takes = (cc (is), stands, refl) }

  -- the token begins a node, and no height is left for one
  pub too_deep_here : {most : ℕ} {tokens : List Token} → Completed Fits tall spelled most []
      → Begun Fits tall spelled (place tokens) (next_body tokens)
      → Holds (Begins Fits tall spelled) most tokens TooDeep tokens
  too_deep_here {tokens = tokens} c b =
      too_deep {high = b.high} (nothing_spelt tokens) (spelt_next tokens b) c b.completed

module _ {A B : Type 0} {Fits : A → Type 0} {tall : A → ℕ} {spelled : A → List Spelled} {Fits' : B
    → Type 0} {tall' : B → ℕ} {spelled' : B → List Spelled} {rise : ℕ → ℕ} {least : ℕ} {front : List Spelled} where
  completed_in : Context Fits tall spelled Fits' tall' spelled' rise least front → (k : ℕ) (us : List Spelled)
      → Completed Fits tall spelled k us → Completed Fits' tall' spelled' (rise (max least k)) (front ++ us)
  completed_in context k us c = record {
    node = context.make c.node;
    more = c.more ++ context.behind;
    fits = context.fits c.node c.fits;
    within = context.within c.node (max least k) (omega arith) (omega (arith, c.within));
    parts = context.spells c.node ∙ ap (λ z. front ++ (z ++ context.behind)) c.parts ∙ simp append_assoc;
  }

  -- the token begins a part, and no height is left for one
  pub too_deep_in : {most : ℕ} {tokens mid : List Token}
      → Context Fits tall spelled Fits' tall' spelled' rise least front → Spelt tokens front mid
      → Completed Fits' tall' spelled' most front
      → Begun Fits tall spelled (place mid) (next_body mid)
      → Holds (Begins Fits' tall' spelled') most tokens TooDeep mid
  too_deep_in {mid = mid} context before c b =
      too_deep before (spelt_next mid b) c (completed_in context b.high (b.next ∷ []) b.completed)

-- what begins a part begins a whole that has nothing before it
pub begins_in : {A B : Type 0} {Fits : A → Type 0} {tall : A → ℕ} {spelled : A → List Spelled} {Fits' : B
    → Type 0} {tall' : B → ℕ} {spelled' : B → List Spelled} {rise : ℕ → ℕ} {least : ℕ} {pos : Pos} {o : Option Body}
    → Context Fits tall spelled Fits' tall' spelled' rise least [] → Begun Fits tall spelled pos o
    → Begun Fits' tall' spelled' pos o
begins_in {rise = rise} {least = least} context b =
    record {
      next = b.next;
      is = b.is;
      stands = b.stands;
      high = rise (max least b.high);
      completed =
          completed_in context b.high (b.next ∷ []) b.completed;
    }
