-- The judge tells a lawful journal, and the first line that does not fit.
use Rattle.std.proofs.Common.{◌≡◌, ℕ, suc, ◌+◌, inl, inr, List, [], ◌∷◌, Option, Some, None, refl, arith, subst, sym}
use Rattle.std.specs.Option.{option_and_then}
use Rattle.run_defs.specs.declared.event.Event.{Event}
use Rattle.run_defs.specs.Replay.{Due, AnyLine, TheStore, TheHandler, TheReturn, TheEnd, NoLine, Replay, step, replay}
use Rattle.run_defs.specs.Replay.{at_start}
use Rattle.run_defs.specs.Judge.{Lawful, Unlawful, at_end, judged_from, judged, IsFirstUnlawful, JudgeIsRight}

-- the lines come to an end, and no line is due there
abbrev Ends : Option Replay → Type 0
Ends found = (last : Replay) × (found ≡ Some last) × (last.due ≡ NoLine)

end_lawful : (due : Due) (n : ℕ) → at_end due n ≡ Lawful → due ≡ NoLine
end_lawful AnyLine n is = cc
end_lawful (TheStore k w) n is = cc
end_lawful (TheHandler k) n is = cc
end_lawful (TheReturn k) n is = cc
end_lawful (TheEnd told) n is = cc
end_lawful NoLine n is = refl

end_unlawful : (due : Due) (n k : ℕ) → at_end due n ≡ Unlawful k → (k ≡ n) × (due ≡ NoLine → ⊥)
end_unlawful AnyLine n k is = (let same : n ≡ k = cc in sym same, λ d. cc)
end_unlawful (TheStore c w) n k is = (let same : n ≡ k = cc in sym same, λ d. cc)
end_unlawful (TheHandler c) n k is = (let same : n ≡ k = cc in sym same, λ d. cc)
end_unlawful (TheReturn c) n k is = (let same : n ≡ k = cc in sym same, λ d. cc)
end_unlawful (TheEnd told) n k is = (let same : n ≡ k = cc in sym same, λ d. cc)
end_unlawful NoLine n k is = cc

sound_on : (journal : List Event) (n : ℕ) → ((r : Replay) → judged r (suc n) journal ≡ Lawful → Ends (replay r journal))
    → (found : Option Replay) → judged_from found n (λ (r : Replay). judged r (suc n) journal) ≡ Lawful
    → Ends (option_and_then (λ (r : Replay). replay r journal) found)
sound_on journal n each None is = cc
sound_on journal n each (Some r) is = each r is

sound_from : (r : Replay) (n : ℕ) (journal : List Event) → judged r n journal ≡ Lawful → Ends (replay r journal)
sound_from r n [] is = (r, refl, end_lawful r.due n is)
sound_from r n (e ∷ journal) is = sound_on journal n (λ r1. sound_from r1 (suc n) journal) (step r e) is

complete_on : (journal : List Event) (n : ℕ)
    → ((r : Replay) → Ends (replay r journal) → judged r (suc n) journal ≡ Lawful)
    → (found : Option Replay) → Ends (option_and_then (λ (r : Replay). replay r journal) found)
    → judged_from found n (λ (r : Replay). judged r (suc n) journal) ≡ Lawful
complete_on journal n each None ends = let no : None ≡ Some ends.0 = ends.1 in cc
complete_on journal n each (Some r) ends = each r ends

complete_from : (r : Replay) (n : ℕ) (journal : List Event) → Ends (replay r journal) → judged r n journal ≡ Lawful
complete_from r n [] ends =
    let same : r ≡ ends.0 = (let found : Some r ≡ Some ends.0 = ends.1 in cc) in rw same (rw ends.2 refl)
complete_from r n (e ∷ journal) ends = complete_on journal n (λ r1. complete_from r1 (suc n) journal) (step r e) ends

-- the number of the line, behind n lines
abbrev First : Replay → ℕ → List Event → ℕ → Type 0
First r n journal k = (i : ℕ) × (k ≡ n + i) × IsFirstUnlawful r journal i

first_on : (r : Replay) (e : Event) (journal : List Event) (n k : ℕ)
    → ((r1 : Replay) → judged r1 (suc n) journal ≡ Unlawful k → First r1 (suc n) journal k)
    → (found : Option Replay) → step r e ≡ found
    → judged_from found n (λ (r1 : Replay). judged r1 (suc n) journal) ≡ Unlawful k → First r n (e ∷ journal) k
first_on r e journal n k each None is told =
    let same : n ≡ k = cc in
    (0, omega arith, record { before = r; fits = refl; fails = inl (omega arith, rw is refl) })
first_on r e journal n k each (Some r1) is told =
    let f = each r1 told in
    let i : ℕ = f.0 in
    let u : IsFirstUnlawful r1 journal i = f.2 in (
      suc i,
      omega (arith, f.1),
      record {
        before = u.before;
        fits = rw is u.fits;
        fails = elim u.fails [
          | inl p ↦ inl (omega (arith, p.0), rw is p.1)
          | inr p ↦ inr (omega (arith, p.0), p.1)
        ];
      },
    )

first_from : (r : Replay) (n : ℕ) (journal : List Event) (k : ℕ) → judged r n journal ≡ Unlawful k
    → First r n journal k
first_from r n [] k told =
    let d = end_unlawful r.due n k told in
    (0, omega (arith, d.0), record { before = r; fits = refl; fails = inr (refl, d.1) })
first_from r n (e ∷ journal) k told =
    first_on r e journal n k (λ r1. first_from r1 (suc n) journal k) (step r e) refl told

pub judge_right : (journal : List Event) → JudgeIsRight journal
judge_right journal = record {
  sound = λ is. let ends = sound_from at_start 0 journal is in
      record { last = ends.0; fits = ends.1; ends = ends.2 };
  complete = λ lawful. complete_from at_start 0 journal (lawful.last, lawful.fits, lawful.ends);
  first = λ k told. let f = first_from at_start 0 journal k told in let same : f.0 ≡ k = omega (arith, f.1) in
      subst (λ i. IsFirstUnlawful at_start journal i) same f.2;
}
