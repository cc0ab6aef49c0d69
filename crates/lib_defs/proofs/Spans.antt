-- Units that pass a test: the reading is the one that meets the conditions.
use Rattle.std.proofs.Common.{◌≡◌, ℕ, zero, suc, ◌+◌, ◌-◌, ◌<◌, ◌≤◌, ◌⊎◌, inl, inr, Bool, true, false}
use Rattle.std.proofs.Common.{cond, Option, Some, None, refl, sym, ap, ◌∙◌, subst, arith}
use Rattle.std.proofs.lemmas.Bool.{cases_eq}
use Rattle.critical_table.specs.declared.case.Case.{Case}
use Rattle.object_store.specs.declared.pointer.Pointer.{Pointer}
use Rattle.object_store.specs.Storage.{Storage}
use Rattle.lib_defs.specs.declared.reading.Reading.{Reading}
use Rattle.lib_defs.specs.declared.reading.Reading.TheVariants.{Length, Unreached, Unknown}
use Rattle.lib_defs.specs.Units.{unit_place}
use Rattle.lib_defs.specs.Spans.{unit_case, unit_number, IsUnit, IsTested, AllPass, Reads}
use Rattle.lib_defs.specs.Spans.{stop_at, stop, or_later, span_from, span}

pub nat_split : (n m : ℕ) → n ≤ m → (n ≡ m) ⊎ (n < m)
nat_split n m le = elim (cases_eq n m) [ inl e ↦ inl e | inr ne ↦ inr (omega arith) ]

module _ (test : ℕ → Bool) (w : ℕ) (s : Storage) (p : Pointer) where
  -- what each unit does to the reading
  stops_case : (k : ℕ) (case : Case) → unit_case w s p k ≡ Some case
      → stop test w s p k ≡ Some (Unreached case (unit_place w p k))
  stops_case k case e = rw e refl

  stops_unknown : (k : ℕ) → IsUnit w s p k None → stop test w s p k ≡ Some Unknown
  stops_unknown k u = rw (u.reached, u.number) refl

  stops_tested : (k : ℕ) → IsTested test false w s p k → stop test w s p k ≡ Some (Length k)
  stops_tested k u = rw (u.unit.reached, u.unit.number, u.answers) refl

  goes_tested : (k : ℕ) → IsTested test true w s p k → stop test w s p k ≡ None
  goes_tested k u = rw (u.unit.reached, u.unit.number, u.answers) refl

  -- one unit of the reading
  pub span_ends : (k m : ℕ) (r : Reading) → stop test w s p k ≡ Some r → span_from test w s p k (suc m) ≡ r
  span_ends k m r e = rw e refl

  pub span_goes : (k m : ℕ) → stop test w s p k ≡ None → span_from test w s p k (suc m) ≡ span_from test w s p (suc k) m
  span_goes k m e = rw e refl

  -- the same where k units are read
  pub left : (k m : ℕ) → k < m → m - k ≡ suc (m - (k + 1))
  left k m lt = omega arith

  skip : (k n m : ℕ) → ((j : ℕ) → k ≤ j → j < k + n → IsTested test true w s p j)
      → span_from test w s p k (n + m) ≡ span_from test w s p (k + n) m
  skip k zero m on = let e : 0 + m ≡ m = omega arith in let e1 : k + 0 ≡ k = omega arith in rw (e, e1) refl
  skip k (suc n) m on =
      let e : suc n + m ≡ suc (n + m) = omega arith in
      let e1 : suc k + n ≡ k + suc n = omega arith in
      ap (λ j. span_from test w s p k j) e ∙ span_goes k (n + m) (goes_tested k (on k (omega arith) (omega arith)))
      ∙ skip (suc k) n m (λ j a b. on j (omega arith) (omega arith)) ∙ ap (λ j. span_from test w s p j m) e1

  behind : (m n : ℕ) → n ≤ m → AllPass test w s p n → span test w s p m ≡ span_from test w s p n (m - n)
  unfolding span
  behind m n le on =
      let e : m ≡ n + (m - n) = omega arith in
      let e1 : 0 + n ≡ n = omega arith in
      ap (λ j. span_from test w s p 0 j) e ∙ skip 0 n (m - n) (λ j a b. on j (omega arith))
      ∙ ap (λ j. span_from test w s p j (m - n)) e1

  at_end : (m n : ℕ) (r : Reading) → n < m → AllPass test w s p n → stop test w s p n ≡ Some r → span test w s p m ≡ r
  at_end m n r lt on e = behind m n (omega arith) on ∙ ap (λ j. span_from test w s p n j) (left n m lt)
      ∙ span_ends n (m - (n + 1)) r e

  full : (m n : ℕ) → n ≡ m → AllPass test w s p n → span test w s p m ≡ Length n
  full m n e on = let z : m - n ≡ 0 = omega arith in behind m n (omega arith) on ∙ ap (λ j. span_from test w s p n j) z

  tested_ends : (m n : ℕ) → n ≤ m → AllPass test w s p n → IsTested test false w s p n → span test w s p m ≡ Length n
  tested_ends m n le on u =
      elim (nat_split n m le) [ inl e ↦ full m n e on | inr lt ↦ at_end m n _ lt on (stops_tested n u) ]

  pub span_is : (m : ℕ) (r : Reading) → Reads test w s p m r → span test w s p m ≡ r
  span_is m (Length n) h = elim h.ended [ inl e ↦ full m n e h.before | inr u ↦ tested_ends m n h.within h.before u ]
  span_is m (Unreached case place) h =
      at_end m h.n _ h.within h.before (stops_case h.n case h.fails ∙ ap (λ q. Some (Unreached case q)) (sym h.at))
  span_is m Unknown h = at_end m h.n _ h.within h.before (stops_unknown h.n h.unit)

  -- and it meets them
  one_more : (k : ℕ) → AllPass test w s p k → IsTested test true w s p k → AllPass test w s p (suc k)
  one_more k on g j lt =
      elim (nat_split j k (omega arith)) [
        | inl e ↦ subst (λ i. IsTested test true w s p i) (sym e) g
        | inr less ↦ on j less
      ]

  reads_tested : (k m : ℕ) → AllPass test w s p k
      → (AllPass test w s p (suc k) → Reads test w s p (suc k + m) (span_from test w s p (suc k) m))
      → (x : ℕ) (b : Bool) → test x ≡ b → IsUnit w s p k (Some x)
      → Reads test w s p (k + suc m) (or_later (cond b None (Some (Length k))) (λ u. span_from test w s p (suc k) m))
  reads_tested k m on rest x true t u =
      let e : suc k + m ≡ k + suc m = omega arith in
      subst (λ j. Reads test w s p j (span_from test w s p (suc k) m)) e
      (rest (one_more k on (record { number = x; unit = u; answers = t })))
  reads_tested k m on rest x false t u =
      record { within = omega arith; before = on; ended = inr (record { number = x; unit = u; answers = t }) }

  reads_at : (k m : ℕ) → AllPass test w s p k
      → (AllPass test w s p (suc k) → Reads test w s p (suc k + m) (span_from test w s p (suc k) m))
      → (c : Option Case) (n : Option ℕ) → unit_case w s p k ≡ c → unit_number w s p k ≡ n
      → Reads test w s p (k + suc m)
      (or_later (stop_at test c n (unit_place w p k) k) (λ u. span_from test w s p (suc k) m))
  reads_at k m on rest (Some case) n e e1 = record { n = k; within = omega arith; before = on; at = refl; fails = e }
  reads_at k m on rest None None e e1 =
      record { n = k; within = omega arith; before = on; unit = record { reached = e; number = e1 } }
  reads_at k m on rest None (Some x) e e1 =
      reads_tested k m on rest x (test x) refl (record { reached = e; number = e1 })

  reads_from : (m k : ℕ) → AllPass test w s p k → Reads test w s p (k + m) (span_from test w s p k m)
  reads_from zero k on = record { within = omega arith; before = on; ended = inl (omega arith) }
  reads_from (suc m) k on = reads_at k m on (reads_from m (suc k)) (unit_case w s p k) (unit_number w s p k) refl refl

  pub span_reads : (m : ℕ) → Reads test w s p m (span test w s p m)
  unfolding span
  span_reads m =
      let e : 0 + m ≡ m = omega arith in
      subst (λ j. Reads test w s p j (span_from test w s p 0 m)) e (reads_from m 0 (λ k lt. absurd (omega arith)))
