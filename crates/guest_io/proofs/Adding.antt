-- What a stream gains by one write after another.
use Rattle.std.proofs.Common.{◌≡◌, ℕ, ◌≤◌, List, [], ◌∷◌, ◌++◌, length, take, drop, Option, Some, None, Result, Ok}
use Rattle.std.proofs.Common.{Err, OnErr, OnOk, get_or, ◌<◌, ◌+◌, take_all, refl, sym, ap, subst, ◌∙◌, append_assoc}
use Rattle.std.proofs.Common.{arith}
use Rattle.std.proofs.lemmas.Grind.{common_steps}
use Rattle.std.proofs.lemmas.List.{take_more, length-append}
use Rattle.std.proofs.Math.Seq.{take-append-add}
use Rattle.acc_io.specs.Bytes.{Gains, GainsPart}
use Rattle.lib_defs.specs.Answers.{Written, IsFront, IsWritten, IsBegun, StaysHanded}
use Rattle.guest_io.specs.Views.{OutputView}
use Rattle.guest_io.specs.Sights.{written_by, written_of}
use Rattle.guest_io.specs.Streams.{Adds, Cuts}

-- fronts
pub front_all : (xs ys : List ℕ) → IsFront xs (xs ++ ys)
front_all xs ys = record { rest = ys; front = refl }

pub front_same : (xs : List ℕ) → IsFront xs xs
front_same xs = record { rest = []; front = grind (arith, common_steps) }

pub front_front : (xs ys zs : List ℕ) → IsFront xs ys → IsFront ys zs → IsFront xs zs
front_front xs ys zs a b = record {
  rest = a.rest ++ b.rest;
  front = b.front ∙ ap (λ (l : List ℕ). l ++ b.rest) a.front ∙ append_assoc xs a.rest b.rest;
}

pub front_more : (xs ys zs : List ℕ) → IsFront xs ys → IsFront xs (ys ++ zs)
front_more xs ys zs a = front_front xs ys (ys ++ zs) a (front_all ys zs)

take_front : (n : ℕ) (xs : List ℕ) → xs ≡ take n xs ++ drop n xs
take_front n xs = grind (arith, common_steps)

pub front_take : (n : ℕ) (xs : List ℕ) → IsFront (take n xs) xs
front_take n xs = record { rest = drop n xs; front = take_front n xs }

-- a front behind the same bytes
front_behind : (ws xs ys : List ℕ) → IsFront xs ys → IsFront (ws ++ xs) (ws ++ ys)
front_behind ws xs ys a = record {
  rest = a.rest;
  front = ap (λ (l : List ℕ). ws ++ l) a.front ∙ sym (append_assoc ws xs a.rest);
}

pub nothing_more : (xs : List ℕ) → xs ++ [] ≡ xs
nothing_more xs = grind (arith, common_steps)

-- what a sink gains, by what was held back
pub gains_adds : (before now : Option (List ℕ)) (held bytes : List ℕ) → Gains before now (held ++ bytes)
    → Adds (written_by before held) (written_by now []) bytes
gains_adds None now held bytes e = rw e tt
gains_adds (Some handed) now held bytes e = rw e (record {
  all = nothing_more (handed ++ (held ++ bytes)) ∙ sym (append_assoc handed held bytes);
  stays = front_all handed (held ++ bytes);
})

pub part_cuts : (before now : Option (List ℕ)) (held bytes : List ℕ) → GainsPart before now (held ++ bytes)
    → Cuts (written_by before held) (written_by now []) bytes
part_cuts None now held bytes h = rw h.2 tt
part_cuts (Some handed) now held bytes h = rw h.2 (record {
  front = subst (λ (l : List ℕ). IsFront (handed ++ take h.0 (held ++ bytes)) l) (sym (append_assoc handed held bytes))
      (front_behind handed (take h.0 (held ++ bytes)) (held ++ bytes) (front_take h.0 (held ++ bytes)));
  stays = front_all handed (take h.0 (held ++ bytes));
})

pub none_cuts : (before now : Option (List ℕ)) (held : List ℕ) → GainsPart before now held
    → Cuts (written_by before held) (written_by now []) []
none_cuts before now held h =
    part_cuts before now held [] (subst (λ (l : List ℕ). GainsPart before now l) (sym (nothing_more held)) h)

pub held_adds : (told : Option (List ℕ)) (held bytes : List ℕ)
    → Adds (written_by told held) (written_by told (held ++ bytes)) bytes
held_adds None held bytes = tt
held_adds (Some handed) held bytes = record {
  all = sym (append_assoc handed held bytes);
  stays = front_same handed;
}

pub same_adds : (w : Option Written) → Adds w w []
same_adds None = tt
same_adds (Some w) = record { all = sym (nothing_more (w.handed ++ w.held)); stays = front_same w.handed }

pub same_cuts : (w : Option Written) (bytes : List ℕ) → Cuts w w bytes
same_cuts None bytes = tt
same_cuts (Some w) bytes = record {
  front = front_more w.handed (w.handed ++ w.held) bytes (front_all w.handed w.held);
  stays = front_same w.handed;
}

-- one after another
pub adds_adds : (a b c : Option Written) (xs ys : List ℕ) → Adds a b xs → Adds b c ys → Adds a c (xs ++ ys)
adds_adds None None None xs ys h i = tt
adds_adds None None (Some c) xs ys h i = absurd i
adds_adds None (Some b) c xs ys h i = absurd h
adds_adds (Some a) None c xs ys h i = absurd h
adds_adds (Some a) (Some b) None xs ys h i = absurd i
adds_adds (Some a) (Some b) (Some c) xs ys h i = record {
  all = i.all ∙ ap (λ (l : List ℕ). l ++ ys) h.all ∙ append_assoc (a.handed ++ a.held) xs ys;
  stays = front_front a.handed b.handed c.handed h.stays i.stays;
}

pub adds_cuts : (a b c : Option Written) (xs ys : List ℕ) → Adds a b xs → Cuts b c ys → Cuts a c (xs ++ ys)
adds_cuts None None None xs ys h i = tt
adds_cuts None None (Some c) xs ys h i = absurd i
adds_cuts None (Some b) c xs ys h i = absurd h
adds_cuts (Some a) None c xs ys h i = absurd h
adds_cuts (Some a) (Some b) None xs ys h i = absurd i
adds_cuts (Some a) (Some b) (Some c) xs ys h i = record {
  front = subst (λ (l : List ℕ). IsFront c.handed l)
      (ap (λ (l : List ℕ). l ++ ys) h.all ∙ append_assoc (a.handed ++ a.held) xs ys) i.front;
  stays = front_front a.handed b.handed c.handed h.stays i.stays;
}

pub cuts_more : (a c : Option Written) (xs ys : List ℕ) → Cuts a c xs → Cuts a c (xs ++ ys)
cuts_more None None xs ys h = tt
cuts_more None (Some c) xs ys h = absurd h
cuts_more (Some a) None xs ys h = absurd h
cuts_more (Some a) (Some c) xs ys h = record {
  front = subst (λ (l : List ℕ). IsFront c.handed l) (append_assoc (a.handed ++ a.held) xs ys)
      (front_more c.handed ((a.handed ++ a.held) ++ xs) ys h.front);
  stays = h.stays;
}

-- what that says of the streams of a world
pub adds_written : (a b : Option Written) (bytes earlier text : List ℕ) → Adds a b bytes → IsWritten a earlier text
    → IsWritten b earlier (text ++ bytes)
adds_written None None bytes earlier text h w = tt
adds_written None (Some b) bytes earlier text h w = absurd h
adds_written (Some a) None bytes earlier text h w = absurd h
adds_written (Some a) (Some b) bytes earlier text h w =
    h.all ∙ ap (λ (l : List ℕ). l ++ bytes) w ∙ append_assoc earlier text bytes

pub cuts_begun : (a b : Option Written) (bytes earlier text : List ℕ) → Cuts a b bytes → IsWritten a earlier text
    → IsBegun b earlier (text ++ bytes)
cuts_begun None None bytes earlier text h w = tt
cuts_begun None (Some b) bytes earlier text h w = absurd h
cuts_begun (Some a) None bytes earlier text h w = absurd h
cuts_begun (Some a) (Some b) bytes earlier text h w =
    subst (λ (l : List ℕ). IsFront b.handed l)
    (ap (λ (l : List ℕ). l ++ bytes) w ∙ append_assoc earlier text bytes) h.front

pub adds_stays : (a b : Option Written) (bytes : List ℕ) → Adds a b bytes → StaysHanded a b
adds_stays None None bytes h = tt
adds_stays None (Some b) bytes h = absurd h
adds_stays (Some a) None bytes h = absurd h
adds_stays (Some a) (Some b) bytes h = h.stays

pub cuts_stays : (a b : Option Written) (bytes : List ℕ) → Cuts a b bytes → StaysHanded a b
cuts_stays None None bytes h = tt
cuts_stays None (Some b) bytes h = absurd h
cuts_stays (Some a) None bytes h = absurd h
cuts_stays (Some a) (Some b) bytes h = h.stays

-- the next of some bytes is written
pub next_adds : (a b c : Option Written) (bytes : List ℕ) (k : ℕ) → k < length bytes → Adds a b (take k bytes)
    → Adds b c (get_or bytes k 0 ∷ []) → Adds a c (take (k + 1) bytes)
next_adds a b c bytes k less h i =
    subst (λ (l : List ℕ). Adds a c l) (sym (take_more bytes k 0 less))
    (adds_adds a b c (take k bytes) (get_or bytes k 0 ∷ []) h i)

pub next_cuts : (a b c : Option Written) (bytes : List ℕ) (k : ℕ) → k < length bytes → Adds a b (take k bytes)
    → Cuts b c (get_or bytes k 0 ∷ []) → Cuts a c bytes
next_cuts a b c bytes k less h i =
    subst (λ (l : List ℕ). Cuts a c l) (sym (take_front (k + 1) bytes))
    (cuts_more a c (take (k + 1) bytes) (drop (k + 1) bytes)
    (subst (λ (l : List ℕ). Cuts a c l) (sym (take_more bytes k 0 less))
    (adds_cuts a b c (take k bytes) (get_or bytes k 0 ∷ []) h i)))

pub none_taken : (w : Option Written) (bytes : List ℕ) → Adds w w (take 0 bytes)
none_taken w [] = same_adds w
none_taken w (b ∷ bytes) = same_adds w

pub all_taken : (a b : Option Written) (bytes : List ℕ) (k : ℕ) → length bytes ≤ k → Adds a b (take k bytes)
    → Adds a b bytes
all_taken a b bytes k le h = subst (λ (l : List ℕ). Adds a b l) (take_all k bytes le) h

-- in an answer
pub on_ok : {T E : Type 0} {P Q : Type 0} (r : Result T E) → (P → Q) → OnOk r P → OnOk r Q
on_ok (Ok t) f h = f h
on_ok (Err e) f h = tt

pub on_error : {T E : Type 0} {P Q : Type 0} (r : Result T E) → (P → Q) → OnErr r P → OnErr r Q
on_error (Ok t) f h = tt
on_error (Err e) f h = f h

pub on_any_ok : {T E : Type 0} {P : Type 0} (r : Result T E) → P → OnOk r P
on_any_ok (Ok t) p = p
on_any_ok (Err e) p = tt

pub on_any_error : {T E : Type 0} {P : Type 0} (r : Result T E) → P → OnErr r P
on_any_error (Ok t) p = tt
on_any_error (Err e) p = p

-- all that was held back is written, and then a front of the bytes
pub gains_both : (a b c : Option (List ℕ)) (xs ys : List ℕ) → Gains a b xs → Gains b c ys → Gains a c (xs ++ ys)
gains_both None b c xs ys first second = rw (second, first) refl
gains_both (Some written) b c xs ys first second =
    rw (second, first) (ap (λ (all : List ℕ). Some all) (append_assoc written xs ys))

pub part_behind : (a b c : Option (List ℕ)) (xs ys : List ℕ) → Gains a b xs → GainsPart b c ys
    → GainsPart a c (xs ++ ys)
part_behind a b c xs ys first part =
    let le : length xs + part.0 ≤ length (xs ++ ys) = omega (arith, length-append xs ys, part.1) in (
      length xs + part.0,
      le,
      subst (λ (l : List ℕ). Gains a c l) (sym (take-append-add xs ys part.0))
          (gains_both a b c xs (take part.0 ys) first part.2),
    )

-- a sink that hands on has been handed the same
pub flushed_adds : {O : Type 0} (told : O → Option (List ℕ)) (a : Option Written) (mid new : OutputView O)
    (bytes : List ℕ)
    → told new.sink ≡ told mid.sink → new.held ≡ mid.held → Adds a (written_of told mid) bytes
    → Adds a (written_of told new) bytes
flushed_adds told a mid new bytes e f h = rw (e, f) h

pub adds_is_cut : (a b : Option Written) (bytes : List ℕ) → Adds a b bytes → Cuts a b bytes
adds_is_cut None None bytes h = tt
adds_is_cut None (Some b) bytes h = absurd h
adds_is_cut (Some a) None bytes h = absurd h
adds_is_cut (Some a) (Some b) bytes h = record {
  front = subst (λ (l : List ℕ). IsFront b.handed l) h.all (front_all b.handed b.held);
  stays = h.stays;
}
