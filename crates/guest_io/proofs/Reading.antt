-- The characters of a text, as they are read one by one.
use Rattle.std.proofs.Common.{◌≡◌, ℕ, zero, suc, ◌+◌, ◌-◌, ◌*◌, ◌<◌, ◌≤◌, List, [], ◌∷◌, ◌++◌, length, Option}
use Rattle.std.proofs.Common.{Some, None, slice_get, get_or, refl, sym, ap, subst, ◌∙◌, append_assoc, arith}
use Rattle.std.proofs.lemmas.List.{length-append}
use Rattle.critical_table.specs.declared.case.Case.{Case}
use Rattle.object_store.specs.declared.by.By.TheVariants.{OtherRead}
use Rattle.object_store.specs.declared.pointer.Pointer.{Pointer}
use Rattle.object_store.specs.Storage.{Storage}
use Rattle.object_store.specs.Steps.{bytes_at}
use Rattle.object_store.specs.Load.{known_number}
use Rattle.object_store.specs.Ranges.{IsLiveRange}
use Rattle.object_store.specs.Reach.{reach}
use Rattle.object_store.proofs.RangeLemmas.{in_range}
use Rattle.lib_defs.specs.declared.step.LibStep.{LibStep}
use Rattle.lib_defs.specs.Units.{unit_place, rsize_max}
use Rattle.lib_defs.specs.Reply.{Stop}
use Rattle.lib_defs.specs.Constraints.{Look, Saw, Stuck, reach_seen}
use Rattle.lib_defs.specs.PlainMemory.{see_known}
use Rattle.lib_defs.specs.Characters.{Characters, ended_by, behind, see_character, character_then, characters_from}
use Rattle.lib_defs.specs.Characters.{characters_at, string_at, whole}
use Rattle.lib_defs.proofs.CharacterLemmas.{characters_read}
use Rattle.guest_io.specs.Texts.{text_of, IsEnded, IsStopped, IsStuck}

-- one byte is its number
pub known_one : (bytes : List (Option ℕ)) (o : Option ℕ) → length bytes ≡ 1 → slice_get bytes 0 ≡ Some o
    → known_number bytes ≡ o
known_one [] o one e = absurd (omega (arith, one))
known_one (None ∷ []) o one e = cc
known_one (Some b ∷ []) o one e =
    let same : b + 256 * 0 ≡ b = omega arith in
    let is : Some b ≡ o = cc in
    ap (λ (n : ℕ). Some n) same ∙ is
known_one (x ∷ y ∷ bytes) o one e = absurd (omega (arith, one))

-- what was seen lies before the upper bound of its pointer
pub seen_within : (s : Storage) (q : Pointer) (c : ℕ) → see_character s q ≡ Saw c → q.offset < q.high
seen_within s q c e = at_case (reach s q 1 1 OtherRead) refl e
  where
    at_case : (o : Option Case) → reach s q 1 1 OtherRead ≡ o
        → reach_seen o q 1 1 OtherRead (see_known (known_number (bytes_at s q 1))) ≡ Saw c → q.offset < q.high
    at_case None is e =
        let r : IsLiveRange s.objects q 1 = in_range s q 1 (record { align = 1; by = OtherRead; reached = is }) in
        omega (arith, r.within)
    at_case (Some case) is e = cc

-- a text without a stop is all of its characters
pub whole_saw : (c : Characters) → c.stop ≡ None → whole c ≡ Saw c.list
whole_saw c e = rw e refl

pub whole_stuck : (c : Characters) (stop : Stop) → c.stop ≡ Some stop → whole c ≡ Stuck stop
whole_stuck c stop e = rw e refl

-- So many characters were read, and those from there on are still to come.
pub record SoFar (s : Storage) (p : Pointer) (most n : ℕ) : Type 0 where
  pub front : List ℕ
  pub len : length front ≡ n
  pub all : characters_at s p most ≡ behind front (characters_from s p n (most - n))

nothing_behind : (c : Characters) → c ≡ behind [] c
nothing_behind c = refl

behind_both : (xs ys : List ℕ) (c : Characters) → behind xs (behind ys c) ≡ behind (xs ++ ys) c
behind_both xs ys c = ap (λ (l : List ℕ). record c { list = l }) (sym (append_assoc xs ys c.list))

module _ (s : Storage) (p : Pointer) (most : ℕ) where
  pub none_yet : SoFar s p most 0
  none_yet =
      let same : most ≡ most - 0 = omega arith in
      record {
        front = [];
        len = refl;
        all = nothing_behind (characters_at s p most)
            ∙ ap (λ (k : ℕ). behind [] (characters_from s p 0 k)) same;
      }

  one_on : (n : ℕ) → n < most → most - n ≡ suc (most - suc n)
  one_on n less = omega (arith, less)

  from_here : (n : ℕ) → n < most → (seen : Look ℕ) → see_character s (unit_place 1 p n) ≡ seen
      → characters_from s p n (most - n)
      ≡ character_then seen (λ u. characters_from s p (suc n) (most - suc n))
  from_here n less seen e =
      ap (λ (k : ℕ). characters_from s p n k) (one_on n less)
      ∙ ap (λ (l : Look ℕ). character_then l (λ u. characters_from s p (suc n) (most - suc n))) e

  so_far_behind : (n : ℕ) (c : Characters) → (h : SoFar s p most n) → characters_from s p n (most - n) ≡ c
      → characters_at s p most ≡ behind h.front c
  so_far_behind n c h e = h.all ∙ ap (λ (d : Characters). behind h.front d) e

  pub one_more : (n c : ℕ) → n < most → see_character s (unit_place 1 p n) ≡ Saw c → 0 < c → SoFar s p most n
      → SoFar s p most (n + 1)
  one_more n zero less e some h = absurd (omega (arith, some))
  one_more n (suc c) less e some h =
      let next : suc n ≡ n + 1 = omega arith in
      subst (λ (k : ℕ). SoFar s p most k) next (record {
        front = h.front ++ suc c ∷ [];
        len = length-append h.front (suc c ∷ []) ∙ omega (arith, h.len);
        all = so_far_behind n (behind (suc c ∷ []) (characters_from s p (suc n) (most - suc n))) h
            (from_here n less (Saw (suc c)) e)
            ∙ behind_both h.front (suc c ∷ []) (characters_from s p (suc n) (most - suc n));
      })

  -- the text ends so
  abbrev Ends : ℕ → Type 0
  Ends n = ((characters_at s p most).stop ≡ None) × (length (characters_at s p most).list ≡ n)

  ends_by : (n : ℕ) → (h : SoFar s p most n) → characters_at s p most ≡ behind h.front (ended_by None) → Ends n
  ends_by n h e = (
    ap (λ (c : Characters). c.stop) e,
    ap (λ (c : Characters). length c.list) e ∙ length-append h.front [] ∙ omega (arith, h.len),
  )

  pub ends_at : (n : ℕ) → n < most → see_character s (unit_place 1 p n) ≡ Saw 0 → SoFar s p most n → Ends n
  ends_at n less e h = ends_by n h (so_far_behind n (ended_by None) h (from_here n less (Saw 0) e))

  pub ends_there : (n : ℕ) → most ≤ n → SoFar s p most n → Ends n
  ends_there n more h =
      let none : most - n ≡ 0 = omega (arith, more) in
      ends_by n h (so_far_behind n (ended_by None) h (ap (λ (k : ℕ). characters_from s p n k) none))

  pub stops_at : (n : ℕ) (stop : Stop) → n < most → see_character s (unit_place 1 p n) ≡ Stuck stop
      → SoFar s p most n → (characters_at s p most).stop ≡ Some stop
  stops_at n stop less e h =
      ap (λ (c : Characters). c.stop) (so_far_behind n (ended_by (Some stop)) h (from_here n less (Stuck stop) e))

  -- each of the characters is read again
  pub read_again : (k : ℕ) → k < length (characters_at s p most).list
      → see_character s (unit_place 1 p k) ≡ Saw (get_or (characters_at s p most).list k 0)
  read_again k less =
      let same : 0 + k ≡ k = omega arith in
      subst (λ (j : ℕ). see_character s (unit_place 1 p j) ≡ Saw (get_or (characters_at s p most).list k 0)) same
      ((characters_read s p most 0).each k less).read

-- ---- the text at a pointer

saw_same : (x : Look ℕ) (a b : ℕ) → x ≡ Saw a → x ≡ Saw b → a ≡ b
saw_same x a b e f = cc

saw_stuck : (x : Look ℕ) (a : ℕ) (stop : Stop) → x ≡ Saw a → x ≡ Stuck stop → ⊥
saw_stuck x a stop e f = cc

module _ (s : Storage) (p : Pointer) where
  text_is : text_of s p ≡ (string_at s p).list
  unfolding text_of
  text_is = refl

  pub all_there : (string_at s p).stop ≡ None → whole (string_at s p) ≡ Saw (text_of s p)
  all_there e = whole_saw (string_at s p) e ∙ ap (λ (l : List ℕ). Saw l) (sym text_is)

  ends : (n : ℕ) → ((string_at s p).stop ≡ None) × (length (string_at s p).list ≡ n)
      → IsEnded s p × (length (text_of s p) ≡ n)
  ends n h = (record { ended = h.0 }, subst (λ (l : List ℕ). length l ≡ n) (sym text_is) h.1)

  pub ended_at : (n : ℕ) → n < rsize_max + 1 → see_character s (unit_place 1 p n) ≡ Saw 0 → SoFar s p (rsize_max + 1) n
      → IsEnded s p × (length (text_of s p) ≡ n)
  ended_at n less e h = ends n (ends_at s p (rsize_max + 1) n less e h)

  pub ended_there : (n : ℕ) → rsize_max + 1 ≤ n → SoFar s p (rsize_max + 1) n
      → IsEnded s p × (length (text_of s p) ≡ n)
  ended_there n more h = ends n (ends_there s p (rsize_max + 1) n more h)

  pub stopped_at : (n : ℕ) → n < rsize_max + 1 → (q : Pointer) → q ≡ unit_place 1 p n → (answer : LibStep)
      → IsStuck (see_character s q) answer → SoFar s p (rsize_max + 1) n → IsStopped s p answer
  stopped_at n less q at answer stuck h = record {
    stop = stuck.stop;
    stopped = stops_at s p (rsize_max + 1) n stuck.stop less
        (subst (λ (x : Pointer). see_character s x ≡ Stuck stuck.stop) at stuck.stuck) h;
    step = stuck.step;
  }

  pub read_at : (k : ℕ) → k < length (text_of s p)
      → see_character s (unit_place 1 p k) ≡ Saw (get_or (text_of s p) k 0)
  read_at k less =
      subst (λ (l : List ℕ). k < length l → see_character s (unit_place 1 p k) ≡ Saw (get_or l k 0)) (sym text_is)
      (read_again s p (rsize_max + 1) k) less

  pub known_at : (k : ℕ) → k < length (text_of s p) → (q : Pointer) → q ≡ unit_place 1 p k → (c : ℕ)
      → see_character s q ≡ Saw c → c ≡ get_or (text_of s p) k 0
  known_at k less q at c seen =
      saw_same (see_character s (unit_place 1 p k)) c (get_or (text_of s p) k 0)
      (subst (λ (x : Pointer). see_character s x ≡ Saw c) at seen) (read_at k less)

  pub never_stuck : (k : ℕ) → k < length (text_of s p) → (q : Pointer) → q ≡ unit_place 1 p k → (answer : LibStep)
      → IsStuck (see_character s q) answer → ⊥
  never_stuck k less q at answer stuck =
      saw_stuck (see_character s (unit_place 1 p k)) (get_or (text_of s p) k 0) stuck.stop (read_at k less)
      (subst (λ (x : Pointer). see_character s x ≡ Stuck stuck.stop) at stuck.stuck)

  pub within_at : (k : ℕ) → k < length (text_of s p) → p.offset + 1 * k < p.high
  within_at k less = seen_within s (unit_place 1 p k) (get_or (text_of s p) k 0) (read_at k less)
