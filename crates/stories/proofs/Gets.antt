-- A get behind a put that a replay carried out.
use Rattle.stories.proofs.Words.{◌≡◌, ◌⊎◌, ℕ, List, ◌∷◌, ◌++◌, Option, Some, ap, sym, subst, ◌∙◌, append_assoc, reverse, reverse-reverse, run_back, steps_begin_none, run-lines, put_is_got_later, told_then, File, Answer, Ended, HoldsForgery, heard_in, lines_of, file_in, file_object, CarriesOut, NoneAsksOn, LeavesFree, GetEnds, Seen, Ending, devices_of_seen, AreLeft, called_behind, got_behind, IsGot, WentOn}
use Rattle.stories.specs.Words.{Got, Begin, Begun, GetJob, Moment, now, State, Instruction}
use Rattle.stories.specs.Files.{put_of}
use Rattle.stories.proofs.Puts.{puts-file, called-free}
use Rattle.stories.proofs.Said.{got-said, written-as}

module _ (front middle : List Instruction) (name bytes : List ℕ) (own : Option ℕ) (p g : ℕ) (start : State)
    (ms : List Moment)
    (old new : Seen) (end : Ending) (asks : NoneAsksOn name middle)
    (leaves : LeavesFree name front) where
  -- a get that a replay carried out, and that its moments end with it
  pub is-got : (W : WentOn start ms (reverse (got_behind (middle ++ put_of front name bytes own p) name g))
      old new end) → (G : IsGot front middle own start (called_behind start ms) old new end p g name bytes)
      × (W.later ++ called_behind start ms
      ≡ G.last ∷ (G.gaps ++ G.begin ∷ (G.before ++ called_behind start ms)))
  is-got W = (let C = subst (λ cs. CarriesOut cs W.later W.lines)
      (reverse-reverse (got_behind (middle ++ put_of front name bytes own p) name g)) W.carried_out in
      let B = C.6 in
      let called : List Moment = called_behind start ms in
      let before : List Moment = B.1 ++ called in
      let split = ap (λ l. l ++ called) (C.4 ∙ ap (λ l. C.0 ∷ (C.1 ++ l)) B.3)
      ∙ ap (λ l. C.0 ∷ l) (append_assoc C.1 (B.0 ∷ B.1) called) in
      let there = subst (λ l. AreLeft start l (devices_of_seen new)) split W.left in
      let put = puts-file front middle name bytes own p B.1 called B.2 B.5 asks leaves (called-free name start ms) start
      there.starts (run_back 8 start C.1 (B.0 ∷ before) there.run.2).2 in
      let text_is : new.sink ≡ told_then old.sink ((B.2 ++ lines_of B.0.outcome) ++ lines_of C.0.outcome) =
      W.written ∙ ap (told_then old.sink) (C.7 ∙ ap (λ l. l ++ lines_of C.0.outcome) B.6) in
      let ends : (how : Answer) → B.0.outcome ≡ Begun g → C.0.outcome ≡ Ended how →
      GetEnds B.0 C.1 C.0 g name how = λ how begun ended. record {
        begin_event = B.4;
        begun = begun;
        none = (steps_begin_none g g name C.1 C.5.before).0;
        end_event = C.5.step;
        ended = ended;
      } in (
        record {
          before = B.1;
          begin = B.0;
          gaps = C.1;
          last = C.0;
          lines = B.2;
          put = put;
          begins = B.4;
          run_ends = C.5;
          left = there;
          written = text_is;
          ends = ends;
          right = λ got put_begun put_ended get_begun get_ended. subst (λ h. (got ≡ bytes) ⊎
              ((file : File) × (file_in (now start before) name ≡ Some file) × HoldsForgery
              (file_object (now start before) file) bytes g h)) (sym (W.heard ∙ ap (heard_in start) split))
              (put_is_got_later 8 start before C.1 B.0 C.0 g name bytes got there.starts there.run
              (put.stored put_begun put_ended) (ends (Got got) get_begun get_ended));
          said = λ taken text how taken_is text_said says.
              (let X = got-said 8 start B.0 C.0 C.1 before (Begin (GetJob name)) g how B.2 text front p middle
              there.run B.4 tt C.5.step (run-lines (middle ++ put_of front name bytes own p) B.1 B.2 B.5)
              (written-as old.sink new.sink ((B.2 ++ lines_of B.0.outcome) ++ lines_of C.0.outcome) taken
              text text_is taken_is text_said) says in
              let Y = put.said X.0 in
              (Y.0, Y.1, X.1, X.2));
        },
        split,
      ))
