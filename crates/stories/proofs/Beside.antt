-- Gets beside puts of the same name.
use Rattle.stories.proofs.Words.{◌≡◌, ◌⊎◌, ℕ, List, [], ◌∷◌, ◌++◌, Option, refl, ap, sym, subst, ◌∙◌, inl, inr, append_assoc, arith, reverse, reverse-reverse, run_back, GotRight, PutsOnly, Drops, AsksPutsOnly, carried_apart, carried_end, ends_read, puts_only, none_for, one_call, gave_only, told_then, heard_in, CarriesOut, LeavesFree, NoneCalls, Seen, Ending, devices_of_seen, AreLeft, called_behind, IsOldOrNew, IsBeside, WentOn}
use Rattle.machine_defs.specs.Heard.{NoneContinues}
use Rattle.effect_laws.proofs.Since as since
use Rattle.stories.specs.Words.{Moment, IsRun, State, Instruction}
use Rattle.stories.specs.Files.{put_of}
use Rattle.stories.proofs.Puts.{puts-file, called-free}

-- the last of moments whose puts are of some bytes are such
only-ahead : (name bytes : List ℕ) (later ahead : List Moment) → PutsOnly name bytes (later ++ ahead) →
    PutsOnly name bytes ahead
only-ahead name bytes [] ahead only = only
only-ahead name bytes (m ∷ later) ahead only = only-ahead name bytes later ahead only.1

-- the first of moments in one call are so
same-call : (after ahead : List Moment) → NoneContinues (after ++ ahead) → NoneContinues after
same-call [] ahead none = tt
same-call (m ∷ after) ahead none = (none.0, same-call after ahead none.1)

-- what a get gave is the ones or the others, or a forgery is heard
pub old-or-new : (start : State) (end : Ending) (g : ℕ) (name bytes other got : List ℕ) (at all : List Moment) →
    end.heard ≡ heard_in start all →
    (GotRight start at all g name bytes got ⊎ GotRight start at all g name other got) →
    IsOldOrNew start at end g name bytes other got
old-or-new start end g name bytes other got at all heard (inl (inl is)) = inl is
old-or-new start end g name bytes other got at all heard (inr (inl is)) = inr (inl is)
old-or-new start end g name bytes other got at all heard (inl (inr (file, stands, forged))) =
    inr (inr (bytes, inl refl, file, stands, rw heard forged))
old-or-new start end g name bytes other got at all heard (inr (inr (file, stands, forged))) =
    inr (inr (other, inr refl, file, stands, rw heard forged))

module _ (front behind : List Instruction) (name bytes other : List ℕ) (own : Option ℕ) (p : ℕ)
    (start : State) (ms : List Moment) (old new : Seen) (end : Ending) (leaves : LeavesFree name front)
    (only : AsksPutsOnly name other behind) (no_calls : NoneCalls behind) where
  abbrev called : List Moment
  called = called_behind start ms

  pub is-beside : WentOn start ms (reverse (behind ++ put_of front name bytes own p)) old new end →
      IsBeside front behind own start (called_behind start ms) old new end p name bytes other
  is-beside W = (let all = behind ++ put_of front name bytes own p in
      let A = carried_apart behind (put_of front name bytes own p) W.later W.lines
      (subst (λ cs. CarriesOut cs W.later W.lines) (reverse-reverse all) W.carried_out) in
      let split = ap (λ l. l ++ called) A.moments ∙ append_assoc A.later A.older called in
      let left = subst (λ l. AreLeft start l (devices_of_seen new)) split W.left in
      let E = carried_end behind A.later A.more A.owns in
      let reads = ends_read behind A.later E.0 E.1 in
      let put = puts-file front [] name bytes own p A.older called A.before A.rest tt leaves
      (called-free name start ms) start left.starts (run_back 8 start A.later (A.older ++ called) left.run) in
      record {
        later = A.later;
        older = A.older;
        lines = A.before;
        more = A.more;
        put = put;
        carried = A.owns;
        left = left;
        written = W.written ∙ ap (told_then old.sink) A.lines_are;
        right = λ begun ended g got after gaps ahead begin last is G.
            (let seen = ap (λ l. l ++ (A.older ++ called)) is
            ∙ (append_assoc after (last ∷ (gaps ++ begin ∷ ahead)) (A.older ++ called)
            ∙ ap (λ l. after ++ last ∷ l) (append_assoc gaps (begin ∷ ahead) (A.older ++ called))) in
            old-or-new start end g name bytes other got (ahead ++ (A.older ++ called))
            (after ++ last ∷ (gaps ++ begin ∷ (ahead ++ (A.older ++ called))))
            (W.heard ∙ ap (heard_in start) (split ∙ seen))
            (gave_only 8 start after gaps begin last g name got left.starts
            (same-call after (last ∷ (gaps ++ begin ∷ ahead))
            (subst NoneContinues is (one_call behind A.later E.0 reads no_calls))) G ahead (A.older ++ called)
            bytes (omega arith, omega arith) (subst (IsRun 8 start) seen left.run) (put.stored begun ended)
            other (only-ahead name other (after ++ last ∷ (gaps ++ begin ∷ [])) ahead
            (subst (PutsOnly name other) (is ∙ behind-all after last gaps begin ahead)
            (puts_only name other behind A.later E.0 reads only)))));
        there = λ begun ended none. since.there 8 start A.later (A.older ++ called) name bytes
            (omega arith, omega arith) left.starts left.run (put.stored begun ended)
            (none_for (Drops name) behind A.later E.0 reads none);
      })
    where
      behind-all : (after : List Moment) (last : Moment) (gaps : List Moment) (begin : Moment)
          (ahead : List Moment) → after ++ last ∷ (gaps ++ begin ∷ ahead)
          ≡ (after ++ last ∷ (gaps ++ begin ∷ [])) ++ ahead
      behind-all after last gaps begin ahead = sym (append_assoc after (last ∷ (gaps ++ begin ∷ [])) ahead
          ∙ ap (λ l. after ++ last ∷ l) (append_assoc gaps (begin ∷ []) ahead))
