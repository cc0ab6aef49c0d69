-- What each row prints, and what its call answers.
use Rattle.std.proofs.Common.{◌≡◌, ℕ, false, List, [], ◌∷◌, ◌++◌, Option, refl, sym, subst}
use Rattle.std.specs.Prelude.{ℤ, pos, codes}
use Rattle.critical_table.specs.declared.ended.Ended.TheVariants.{Aborted, WriteFault}
use Rattle.object_store.specs.declared.pointer.Pointer.{Pointer}
use Rattle.object_store.specs.Storage.{Storage}
use Rattle.lib_defs.specs.declared.handler.Handler.{Handler}
use Rattle.lib_defs.specs.declared.step.LibStep.{LibStep}
use Rattle.lib_defs.specs.declared.step.LibStep.TheVariants.{Done, End}
use Rattle.lib_defs.specs.declared.value.Value.TheVariants.{Num}
use Rattle.lib_defs.specs.Reply.{Stop, stop_step}
use Rattle.lib_defs.specs.RowTable.{modulo_byte}
use Rattle.lib_defs.specs.Constraints.{Look, Saw, Stuck}
use Rattle.lib_defs.specs.Characters.{string_at, whole}
use Rattle.lib_defs.specs.World.{Ending, AtEnd, Broken, World, Reply}
use Rattle.lib_defs.specs.StreamRows.{put_reply, puts_by, puts_reply, get_reply, abort_by, abort_reply}
use Rattle.lib_defs.specs.Answers.{Answers, StayHanded, is_read_fault, is_write_fault}
use Rattle.guest_io.specs.Views.{GuestView}
use Rattle.guest_io.specs.Sights.{comes_of, comes_behind, written_of, sight_of, sight_behind}
use Rattle.guest_io.specs.Streams.{Adds, Cuts, Writes, Gets}
use Rattle.guest_io.specs.Texts.{text_of, IsEnded, IsStopped, abort_text}
use Rattle.guest_io.proofs.Adding.{nothing_more, same_adds, same_cuts, adds_stays, cuts_stays}
use Rattle.guest_io.proofs.Reading.{all_there, whole_stuck}
use Rattle.guest_io.proofs.Answering.{Prints, written_answers, cut_answers, gets, got_answers}

-- ---- the replies

put_prints : (c : ℤ) (s : Storage) → Prints (λ w. put_reply w c) s (Done (Num (pos (modulo_byte c))))
    (modulo_byte c ∷ []) []
put_prints c s = record {
  step = λ w e. record { step = refl; store = refl; handler = refl };
  input = λ w e. refl;
  writes = λ w e. record { output = refl; err = sym (nothing_more w.streams.err) };
}

-- a row that prints what it looks at, by what it sees
abbrev Sees : (World → Look (List ℕ)) → Storage → Look (List ℕ) → Type 0
Sees looks s seen = (w : World) → w.store ≡ s → looks w ≡ seen

puts_prints : (looks : World → Look (List ℕ)) (s : Storage) (text : List ℕ) → Sees looks s (Saw text)
    → Prints (λ w. puts_by (looks w) w) s (Done (Num (pos 0))) (text ++ codes "\n") []
puts_prints looks s text sees = record {
  step = λ w e. rw (sees w e) (record { step = refl; store = refl; handler = refl });
  input = λ w e. rw (sees w e) refl;
  writes = λ w e. rw (sees w e) (record { output = refl; err = sym (nothing_more w.streams.err) });
}

puts_stops : (looks : World → Look (List ℕ)) (s : Storage) (stop : Stop) → Sees looks s (Stuck stop)
    → Prints (λ w. puts_by (looks w) w) s (stop_step stop) [] []
puts_stops looks s stop sees = record {
  step = λ w e. rw (sees w e) (record { step = refl; store = refl; handler = refl });
  input = λ w e. rw (sees w e) refl;
  writes = λ w e. rw (sees w e) (record {
    output = sym (nothing_more w.streams.output);
    err = sym (nothing_more w.streams.err);
  });
}

abort_prints : (looks : World → Look (List ℕ)) (s : Storage) (text : List ℕ) → Sees looks s (Saw text)
    → Prints (λ w. abort_by (looks w) w) s (End Aborted) []
    (codes "abort_handler_s: " ++ text ++ codes "\n")
abort_prints looks s text sees = record {
  step = λ w e. rw (sees w e) (record { step = refl; store = refl; handler = refl });
  input = λ w e. rw (sees w e) refl;
  writes = λ w e. rw (sees w e) (record { output = sym (nothing_more w.streams.output); err = refl });
}

abort_stops : (looks : World → Look (List ℕ)) (s : Storage) (stop : Stop) → Sees looks s (Stuck stop)
    → Prints (λ w. abort_by (looks w) w) s (stop_step stop) [] []
abort_stops looks s stop sees = record {
  step = λ w e. rw (sees w e) (record { step = refl; store = refl; handler = refl });
  input = λ w e. rw (sees w e) refl;
  writes = λ w e. rw (sees w e) (record {
    output = sym (nothing_more w.streams.output);
    err = sym (nothing_more w.streams.err);
  });
}

-- ---- the text at a pointer

abbrev looks_at : Pointer → World → Look (List ℕ)
looks_at p w = whole (string_at w.store p)

sees_text : (s : Storage) (p : Pointer) → IsEnded s p → Sees (looks_at p) s (Saw (text_of s p))
sees_text s p ended w e =
    subst (λ (x : Storage). whole (string_at x p) ≡ Saw (text_of s p)) (sym e) (all_there s p ended.ended)

sees_stop : (s : Storage) (p : Pointer) (answer : LibStep) → (h : IsStopped s p answer)
    → Sees (looks_at p) s (Stuck h.stop)
sees_stop s p answer h w e =
    subst (λ (x : Storage). whole (string_at x p) ≡ Stuck h.stop) (sym e)
    (whole_stuck (string_at s p) h.stop h.stopped)

-- ---- the calls

module _ {I O E : Type 0} (left : I → Option (List ℕ)) (told_out : O → Option (List ℕ))
    (told_err : E → Option (List ℕ)) where
  -- the calls that read nothing leave the input as it is
  abbrev Answered : (World → Reply) → Storage → GuestView I O E → GuestView I O E → LibStep → Type 0
  Answered r s old new answer = (handler : Handler)
      → Answers r (sight_of left told_out told_err old) (sight_of left told_out told_err new) s s handler handler answer

  -- the view of the parts, before and after
  pub from_view : (r : World → Reply) (s : Storage) (shape old new : GuestView I O E) (answer : LibStep)
      → shape ≡ old → Answered r s shape new answer → Answered r s old new answer
  from_view r s shape old new answer e h = subst (λ (v : GuestView I O E). Answered r s v new answer) e h

  pub to_fault : (r : World → Reply) (s : Storage) (old shape new : GuestView I O E) (answer : LibStep)
      → answer ≡ End WriteFault → new ≡ shape → Answered r s old shape (End WriteFault) → Answered r s old new answer
  to_fault r s old shape new answer is e h =
      subst (λ (v : GuestView I O E). Answered r s old v answer) (sym e)
      (subst (λ (a : LibStep). Answered r s old shape a) (sym is) h)

  done : (r : World → Reply) (s : Storage) (old new : GuestView I O E) (answer : LibStep) (printed told : List ℕ)
      → is_write_fault answer ≡ false → new.input ≡ old.input
      → Adds (written_of told_out old.out) (written_of told_out new.out) printed
      → Adds (written_of told_err old.err) (written_of told_err new.err) told → Prints r s answer printed told
      → Answered r s old new answer
  done r s old new answer printed told quiet same out err prints = λ handler.
      written_answers r (sight_of left told_out told_err old) (sight_of left told_out told_err new) s handler answer
      printed told quiet (λ input h. rw same at h) out err prints

  cut : (r : World → Reply) (s : Storage) (old new : GuestView I O E) (printed told : List ℕ)
      → new.input ≡ old.input → Cuts (written_of told_out old.out) (written_of told_out new.out) printed
      → Cuts (written_of told_err old.err) (written_of told_err new.err) told
      → ((w : World) → w.store ≡ s → Writes (r w) w printed told) → Answered r s old new (End WriteFault)
  cut r s old new printed told same out err writes = λ handler.
      cut_answers r (sight_of left told_out told_err old) (sight_of left told_out told_err new) s handler printed told
      (λ input h. rw same at h) out err writes

  pub put_done : (c : ℤ) (s : Storage) (old new : GuestView I O E) → new.input ≡ old.input → new.err ≡ old.err
      → Adds (written_of told_out old.out) (written_of told_out new.out) (modulo_byte c ∷ [])
      → Answered (λ w. put_reply w c) s old new (Done (Num (pos (modulo_byte c))))
  put_done c s old new same err out =
      done (λ w. put_reply w c) s old new (Done (Num (pos (modulo_byte c)))) (modulo_byte c ∷ []) [] refl same out
      (rw err (same_adds (written_of told_err old.err))) (put_prints c s)

  pub put_cut : (c : ℤ) (s : Storage) (old new : GuestView I O E) → new.input ≡ old.input → new.err ≡ old.err
      → Cuts (written_of told_out old.out) (written_of told_out new.out) (modulo_byte c ∷ [])
      → Answered (λ w. put_reply w c) s old new (End WriteFault)
  put_cut c s old new same err out =
      cut (λ w. put_reply w c) s old new (modulo_byte c ∷ []) [] same out
      (rw err (same_cuts (written_of told_err old.err) [])) (put_prints c s).writes

  pub puts_done : (s : Storage) (p : Pointer) (old new : GuestView I O E) → IsEnded s p → new.input ≡ old.input
      → new.err ≡ old.err
      → Adds (written_of told_out old.out) (written_of told_out new.out) (text_of s p ++ codes "\n")
      → Answered (λ w. puts_reply w p) s old new (Done (Num (pos 0)))
  puts_done s p old new ended same err out =
      done (λ w. puts_reply w p) s old new (Done (Num (pos 0))) (text_of s p ++ codes "\n") [] refl same out
      (rw err (same_adds (written_of told_err old.err))) (puts_prints (looks_at p) s (text_of s p) (sees_text s p
      ended))

  pub puts_cut : (s : Storage) (p : Pointer) (old new : GuestView I O E) → IsEnded s p → new.input ≡ old.input
      → new.err ≡ old.err
      → Cuts (written_of told_out old.out) (written_of told_out new.out) (text_of s p ++ codes "\n")
      → Answered (λ w. puts_reply w p) s old new (End WriteFault)
  puts_cut s p old new ended same err out =
      cut (λ w. puts_reply w p) s old new (text_of s p ++ codes "\n") [] same out
      (rw err (same_cuts (written_of told_err old.err) []))
      (puts_prints (looks_at p) s (text_of s p) (sees_text s p ended)).writes

  -- nothing is written where the text is not read
  pub puts_stopped : (s : Storage) (p : Pointer) (old : GuestView I O E) (answer : LibStep) → IsStopped s p answer
      → is_write_fault answer ≡ false → Answered (λ w. puts_reply w p) s old old answer
  puts_stopped s p old answer h quiet =
      done (λ w. puts_reply w p) s old old answer [] [] quiet refl (same_adds (written_of told_out old.out))
      (same_adds (written_of told_err old.err))
      (subst (λ (a : LibStep). Prints (λ w. puts_reply w p) s a [] []) (sym h.step)
      (puts_stops (looks_at p) s h.stop (sees_stop s p answer h)))

  pub abort_done : (s : Storage) (p : Pointer) (old new : GuestView I O E) → IsEnded s p → new.input ≡ old.input
      → Adds (written_of told_out old.out) (written_of told_out new.out) []
      → Adds (written_of told_err old.err) (written_of told_err new.err) (abort_text s p)
      → Answered (λ w. abort_reply w p) s old new (End Aborted)
  abort_done s p old new ended same out err =
      done (λ w. abort_reply w p) s old new (End Aborted) [] (abort_text s p) refl same out err
      (abort_prints (looks_at p) s (text_of s p) (sees_text s p ended))

  pub abort_cut : (s : Storage) (p : Pointer) (old new : GuestView I O E) → IsEnded s p → new.input ≡ old.input
      → Cuts (written_of told_out old.out) (written_of told_out new.out) []
      → Cuts (written_of told_err old.err) (written_of told_err new.err) (abort_text s p)
      → Answered (λ w. abort_reply w p) s old new (End WriteFault)
  abort_cut s p old new ended same out err =
      cut (λ w. abort_reply w p) s old new [] (abort_text s p) same out err
      (abort_prints (looks_at p) s (text_of s p) (sees_text s p ended)).writes

  pub abort_stopped : (s : Storage) (p : Pointer) (old : GuestView I O E) (answer : LibStep) → IsStopped s p answer
      → is_write_fault answer ≡ false → Answered (λ w. abort_reply w p) s old old answer
  abort_stopped s p old answer h quiet =
      done (λ w. abort_reply w p) s old old answer [] [] quiet refl (same_adds (written_of told_out old.out))
      (same_adds (written_of told_err old.err))
      (subst (λ (a : LibStep). Prints (λ w. abort_reply w p) s a [] []) (sym h.step)
      (abort_stops (looks_at p) s h.stop (sees_stop s p answer h)))

  -- what the sinks were handed stays
  pub adds_stay : (old new : GuestView I O E) (printed told : List ℕ)
      → Adds (written_of told_out old.out) (written_of told_out new.out) printed
      → Adds (written_of told_err old.err) (written_of told_err new.err) told
      → StayHanded (sight_of left told_out told_err old) (sight_of left told_out told_err new)
  adds_stay old new printed told out err = record {
    output = adds_stays (written_of told_out old.out) (written_of told_out new.out) printed out;
    err = adds_stays (written_of told_err old.err) (written_of told_err new.err) told err;
  }

  pub cuts_stay : (old new : GuestView I O E) (printed told : List ℕ)
      → Cuts (written_of told_out old.out) (written_of told_out new.out) printed
      → Cuts (written_of told_err old.err) (written_of told_err new.err) told
      → StayHanded (sight_of left told_out told_err old) (sight_of left told_out told_err new)
  cuts_stay old new printed told out err = record {
    output = cuts_stays (written_of told_out old.out) (written_of told_out new.out) printed out;
    err = cuts_stays (written_of told_err old.err) (written_of told_err new.err) told err;
  }

  -- a read
  pub got_done : (s : Storage) (old new : GuestView I O E) (answer : LibStep) → is_write_fault answer ≡ false
      → Gets (comes_of left old.input) (comes_behind (is_read_fault answer) (comes_of left new.input)) answer
      → Adds (written_of told_out old.out) (written_of told_out new.out) []
      → Adds (written_of told_err old.err) (written_of told_err new.err) []
      → (handler : Handler) → Answers gets (sight_of left told_out told_err old)
      (sight_behind (is_read_fault answer) (sight_of left told_out told_err new)) s s handler handler answer
  got_done s old new answer quiet got out err = λ handler.
      got_answers (sight_of left told_out told_err old)
      (sight_behind (is_read_fault answer) (sight_of left told_out told_err new)) s handler answer quiet got out err

  got_writes : (w : World) → Writes (gets w) w [] []
  got_writes w = writes w.streams.input.bytes w.streams.input.ending
    where
      writes : (bytes : List ℕ) (ending : Ending) → Writes (get_reply w bytes ending) w [] []
      writes [] AtEnd = record { output = sym (nothing_more w.streams.output); err = sym (nothing_more w.streams.err) }
      writes [] Broken = record { output = sym (nothing_more w.streams.output); err = sym (nothing_more w.streams.err) }
      writes (b ∷ bytes) ending =
          record { output = sym (nothing_more w.streams.output); err = sym (nothing_more w.streams.err) }

  pub got_cut : (s : Storage) (old new : GuestView I O E) → new.input ≡ old.input
      → Cuts (written_of told_out old.out) (written_of told_out new.out) [] → new.err ≡ old.err
      → Answered gets s old new (End WriteFault)
  got_cut s old new same out err =
      cut gets s old new [] [] same out (rw err (same_cuts (written_of told_err old.err) [])) (λ w e. got_writes w)
