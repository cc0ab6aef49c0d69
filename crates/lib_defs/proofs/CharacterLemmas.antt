-- The characters of a text are the ones that meet the conditions.
use Rattle.std.proofs.Common.{◌≡◌, ℕ, zero, suc, ◌+◌, ◌<◌, inl, inr, List, [], ◌∷◌, length, Option}
use Rattle.std.proofs.Common.{Some, None, refl, sym, ap, subst, arith}
use Rattle.std.specs.Prelude.{slice_index}
use Rattle.object_store.specs.declared.pointer.Pointer.{Pointer}
use Rattle.object_store.specs.Storage.{Storage}
use Rattle.lib_defs.specs.Units.{unit_place}
use Rattle.lib_defs.specs.Reply.{Stop}
use Rattle.lib_defs.specs.Constraints.{Look, Saw, Stuck}
use Rattle.lib_defs.specs.Characters.{Characters, ended_by, behind, see_character, character_then, IsCharacter}
use Rattle.lib_defs.specs.Characters.{EndsWith, AreRead, characters_from}

module _ (s : Storage) (p : Pointer) where
  abbrev At : ℕ → Look ℕ
  At k = see_character s (unit_place 1 p k)

  first : (k : ℕ) → k ≡ k + 0
  first k = omega arith

  next : (k i : ℕ) → suc k + i ≡ k + suc i
  next k i = omega arith

  -- one more in front
  more_read : (k most c : ℕ) (rest : Characters) → At k ≡ Saw (suc c) → AreRead s p (suc k) most rest
      → AreRead s p k (suc most) (behind (suc c ∷ []) rest)
  more_read k most c rest e h = record {
    within = omega (arith, h.within);
    each = each;
    ended = ended rest.stop h.ended;
  }
    where
      each : (i : ℕ) → i < length (suc c ∷ rest.list) → IsCharacter s p (k + i) (slice_index (suc c ∷ rest.list) i)
      each zero less = record { read = subst (λ (j : ℕ). At j ≡ Saw (suc c)) (first k) e; some = omega arith }
      each (suc i) less =
          subst (λ (j : ℕ). IsCharacter s p j (slice_index rest.list i)) (next k i) (h.each i (omega (arith, less)))

      ended : (stop : Option Stop) → EndsWith s p (suc k) (length rest.list) most stop
          → EndsWith s p k (suc (length rest.list)) (suc most) stop
      ended None (inl same) = inl (omega (arith, same))
      ended None (inr null) = inr (subst (λ (j : ℕ). At j ≡ Saw 0) (next k (length rest.list)) null)
      ended (Some stop) h = (
        omega (arith, h.0),
        subst (λ (j : ℕ). At j ≡ Stuck stop) (next k (length rest.list)) h.1,
      )

  -- what was read meets the conditions
  seen_read : (k most : ℕ) (seen : Look ℕ) → At k ≡ seen → AreRead s p (suc k) most (characters_from s p (suc k) most)
      → AreRead s p k (suc most) (character_then seen (λ u. characters_from s p (suc k) most))
  seen_read k most (Stuck stop) e h = record {
    within = omega arith;
    each = λ i less. absurd (omega (arith, less));
    ended = (omega arith, subst (λ (j : ℕ). At j ≡ Stuck stop) (first k) e);
  }
  seen_read k most (Saw zero) e h = record {
    within = omega arith;
    each = λ i less. absurd (omega (arith, less));
    ended = inr (subst (λ (j : ℕ). At j ≡ Saw 0) (first k) e);
  }
  seen_read k most (Saw (suc c)) e h = more_read k most c (characters_from s p (suc k) most) e h

  pub characters_read : (most k : ℕ) → AreRead s p k most (characters_from s p k most)
  characters_read zero k =
      record { within = omega arith; each = λ i less. absurd (omega (arith, less)); ended = inl refl }
  characters_read (suc most) k = seen_read k most (At k) refl (characters_read most (suc k))

  -- and nothing else does
  abbrev same : List ℕ → Option Stop → Characters
  same list stop = record { list = list; stop = stop }

  none_left : (k : ℕ) (stop : Option Stop) → EndsWith s p k 0 0 stop → ended_by None ≡ same [] stop
  none_left k None h = refl
  none_left k (Some stop) h = absurd (omega (arith, h.0))

  ends_here : (k most : ℕ) (stop : Option Stop) → EndsWith s p k 0 (suc most) stop
      → characters_from s p k (suc most) ≡ same [] stop
  ends_here k most None (inl wrong) = absurd (omega (arith, wrong))
  ends_here k most None (inr null) = let e : At k ≡ Saw 0 = subst (λ (j : ℕ). At j ≡ Saw 0) (sym (first k)) null in
      rw e refl
  ends_here k most (Some stop) h =
      let e : At k ≡ Stuck stop = subst (λ (j : ℕ). At j ≡ Stuck stop) (sym (first k)) h.1 in
      rw e refl

  goes_on : (k most x : ℕ) (xs : List ℕ) (stop : Option Stop) → IsCharacter s p (k + 0) x
      → characters_from s p (suc k) most ≡ same xs stop → characters_from s p k (suc most) ≡ same (x ∷ xs) stop
  goes_on k most zero xs stop h rest = absurd (omega (arith, h.some))
  goes_on k most (suc c) xs stop h rest =
      let e : At k ≡ Saw (suc c) = subst (λ (j : ℕ). At j ≡ Saw (suc c)) (sym (first k)) h.read in
      rw e (ap (λ (d : Characters). behind (suc c ∷ []) d) rest)

  tail_read : (k most x : ℕ) (xs : List ℕ) (stop : Option Stop) → AreRead s p k (suc most) (same (x ∷ xs) stop)
      → AreRead s p (suc k) most (same xs stop)
  tail_read k most x xs stop h = record {
    within = omega (arith, h.within);
    each = λ i less.
        subst (λ (j : ℕ). IsCharacter s p j (slice_index xs i)) (sym (next k i)) (h.each (suc i) (omega (arith, less)));
    ended = ended stop h.ended;
  }
    where
      ended : (stop : Option Stop) → EndsWith s p k (suc (length xs)) (suc most) stop
          → EndsWith s p (suc k) (length xs) most stop
      ended None (inl e) = inl (omega (arith, e))
      ended None (inr null) = inr (subst (λ (j : ℕ). At j ≡ Saw 0) (sym (next k (length xs))) null)
      ended (Some stop) h = (
        omega (arith, h.0),
        subst (λ (j : ℕ). At j ≡ Stuck stop) (sym (next k (length xs))) h.1,
      )

  alone_by : (most k : ℕ) (list : List ℕ) (stop : Option Stop) → AreRead s p k most (same list stop)
      → characters_from s p k most ≡ same list stop
  alone_by zero k [] stop h = none_left k stop h.ended
  alone_by zero k (x ∷ xs) stop h = absurd (omega (arith, h.within))
  alone_by (suc most) k [] stop h = ends_here k most stop h.ended
  alone_by (suc most) k (x ∷ xs) stop h =
      goes_on k most x xs stop (h.each 0 (omega arith))
      (alone_by most (suc k) xs stop (tail_read k most x xs stop h))

  pub characters_alone : (k most : ℕ) (c : Characters) → AreRead s p k most c → characters_from s p k most ≡ c
  characters_alone k most c h = alone_by most k c.list c.stop h
