-- A file that is put, put again and dropped: the run of it, and what its text tells.
use Rattle.effect_laws.proofs.Words.{◌≡◌, ℕ, ◌<◌, ◌^◌, List, [], ◌∷◌, ◌++◌, refl, inl, inr, arith, sym, subst, ◌∙◌, append_assoc, append-nil, digits, AllByRecursion, PutJob, DropJob, actions_of, Put, Dropped, Begin, Reopen, Names, Opened, Listed, set_up, IsPutBegin, run_back, Moment, IsRun, IsStart, setup_in, Once, CarriesOut, NoneUnderWay, IsFree, lines_of_all, Stored, PutsUnder, Drops, NoPutBegan, DroppedOut, IsToldByLines, NoneCalls, ReadsAs, EndsApart, TellsJob, name, byte, other, told_file, first_commands, put_commands, commands, again_commands, again_outcomes, PutsAgain, first_outcomes, put_outcomes, outcomes, first, second, instructions, moments}
use Rattle.record_defs.specs.Examples.{four}
use Rattle.made_runs.specs.Instructions.{AreFit}
use Rattle.made_runs.proofs.Instructions.{are-run}
use Rattle.made_runs.proofs.Written.{carries}
use Rattle.effect_laws.proofs.Lists.{whole}
use Rattle.effect_laws.proofs.Jobs.{tells, stores, drops, frees}
use Rattle.effect_laws.proofs.Asked.{none_for, puts_only, free_behind, tested_calls}
use Rattle.effect_laws.proofs.Apart.{ends_apart}

-- the store that was set up is a start of a run
pub starts : IsStart set_up
starts = record {
  records = inr (four, refl, refl);
  journal = refl;
  first_area = refl;
  unswitched = refl;
  none_alone = refl;
  jobs = refl;
  first_job = refl;
  append = refl;
  doubt = refl;
  closed = refl;
  unbarred = refl;
}

few : (1 < 2 ^ 32) × (2 < 2 ^ 32) × (3 < 2 ^ 32)
few = omega arith

-- it can go so
fit-first : AreFit 8 set_up first
unfolding setup_in actions_of
fit-first = (assumption few, (assumption, (assumption, tt)))

fit-second : AreFit 8 set_up second
unfolding setup_in actions_of
fit-second = ((tt, (refl, refl)), (assumption few, (assumption, fit-first)))

fit : AreFit 8 set_up instructions
unfolding setup_in actions_of
fit = ((tt, (refl, refl)), (assumption few, (assumption, fit-second)))

pub run : IsRun 8 set_up moments
run = are-run 8 set_up instructions fit

-- what it writes is told whole
pub lines : CarriesOut commands moments (lines_of_all outcomes)
unfolding setup_in actions_of digits
lines = carries set_up instructions refl

pub none-calls : NoneCalls commands
none-calls = tested_calls commands refl

pub all-told : AllByRecursion IsToldByLines outcomes
all-told = (
  record { few = omega arith; each = tt },
  (
    tt,
    (
      omega arith,
      (
        record { few = omega arith; each = (record { name = refl; size = omega arith }, tt) },
        (tt, (omega arith, (tt, (omega arith, (tt, tt))))),
      ),
    ),
  ),
)

pub reads : ReadsAs commands moments outcomes
reads = whole 8 set_up [] moments commands (lines_of_all outcomes) outcomes (omega arith, omega arith) starts
    (subst (IsRun 8 set_up) (sym (append-nil moments)) run) none-calls lines all-told refl refl

-- the drop, with a list behind it; the second put before it, and the first before that
drop-told : TellsJob (Once Names ∷ []) [] (Once Names ∷ put_commands) (Begin (DropJob name)) 3 Dropped
    moments (Listed [] ∷ []) (Listed (told_file ∷ []) ∷ put_outcomes)
drop-told = tells (Once Names ∷ []) [] (Once Names ∷ put_commands) (Begin (DropJob name)) 3 Dropped moments
    (Listed [] ∷ []) [] (Listed (told_file ∷ []) ∷ put_outcomes) reads refl refl tt

put-told : TellsJob (Once Names ∷ []) [] first_commands (Begin (PutJob name other)) 2 Put drop-told.older
    (Listed (told_file ∷ []) ∷ []) first_outcomes
put-told = tells (Once Names ∷ []) [] first_commands (Begin (PutJob name other)) 2 Put drop-told.older
    (Listed (told_file ∷ []) ∷ []) [] first_outcomes drop-told.before refl refl tt

module _ (ms : List Moment) (E : ReadsAs first_commands ms first_outcomes) where
  first-told : TellsJob [] [] (Once Reopen ∷ []) (Begin (PutJob name byte)) 1 Put ms [] (Opened ∷ [])
  first-told = tells [] [] (Once Reopen ∷ []) (Begin (PutJob name byte)) 1 Put ms [] [] (Opened ∷ []) E refl
      refl tt

  free-first : IsFree name (first-told.older ++ [])
  free-first = free_behind name (Once Reopen ∷ []) first-told.older [] (Opened ∷ []) first-told.before
      (inl tt) NoneUnderWay.at_start

  free-put : IsFree name (ms ++ [])
  free-put = frees [] [] (Once Reopen ∷ []) 1 name ms [] [] (Opened ∷ []) (Begin (PutJob name byte)) Put
      first-told tt tt free-first

  -- the first put has stored its file
  is-stored : Stored ms name byte
  is-stored = subst (λ l. Stored l name byte) (append-nil ms) (stores [] [] (Once Reopen ∷ []) 1 name ms [] []
      (Opened ∷ []) (Begin (PutJob name byte)) byte (inl refl) first-told tt tt free-first)

-- the name is free before the drop, so that has taken it out
free-drop : IsFree name (drop-told.older ++ [])
free-drop = frees (Once Names ∷ []) [] first_commands 2 name drop-told.older []
    (Listed (told_file ∷ []) ∷ []) first_outcomes (Begin (PutJob name other)) Put put-told
    ((λ on. on), tt) tt (free-put put-told.older put-told.before)

pub is-dropped : DroppedOut moments name
is-dropped = subst (λ l. DroppedOut l name) (append-nil moments)
    (drops (Once Names ∷ []) [] (Once Names ∷ put_commands) 3 name moments [] (Listed [] ∷ [])
    (Listed (told_file ∷ []) ∷ put_outcomes) drop-told ((λ on. on), tt) tt free-drop)

-- the second put and the list behind the first
apart : EndsApart again_commands first_commands drop-told.older again_outcomes first_outcomes
apart = ends_apart again_commands first_commands drop-told.older again_outcomes first_outcomes
    drop-told.before refl

pub is-again : PutsAgain
is-again = record {
  later = apart.later;
  older = apart.older;
  run = subst (IsRun 8 set_up) apart.moments (run_back 8 set_up (drop-told.later ++ drop-told.end
      ∷ (drop-told.gap ++ drop-told.begin ∷ [])) drop-told.older
      (subst (IsRun 8 set_up) (drop-told.moments ∙ split) run));
  stored = is-stored apart.older apart.rest;
  puts = puts_only name other again_commands apart.later again_outcomes apart.owns (
    (λ q is. absurd (no_begin q is)),
    (same-bytes, tt),
  );
  drops = none_for (Drops name) again_commands apart.later again_outcomes apart.owns
      ((λ on. on), ((λ on. on), tt));
}
  where
    split : drop-told.later ++ drop-told.end ∷ (drop-told.gap ++ drop-told.begin ∷ drop-told.older)
        ≡ (drop-told.later ++ drop-told.end ∷ (drop-told.gap ++ drop-told.begin ∷ [])) ++ drop-told.older
    split = cc (
      append_assoc drop-told.later (drop-told.end ∷ (drop-told.gap ++ drop-told.begin ∷ [])) drop-told.older,
      append_assoc drop-told.gap (drop-told.begin ∷ []) drop-told.older,
    )

    no_begin : (q : List ℕ) → IsPutBegin Names name q → ⊥
    no_begin q (inl is) = cc is
    no_begin q (inr (profile, is)) = cc is

    same-bytes : (q : List ℕ) → IsPutBegin (Begin (PutJob name other)) name q → q ≡ other
    same-bytes q (inl is) = (let e : Begin (PutJob name other) ≡ Begin (PutJob name q) = is in cc)
    same-bytes q (inr (profile, is)) = absurd (cc is)

-- nobody put another name
pub none-other : NoPutBegan (98 ∷ []) moments
none-other = none_for (PutsUnder (98 ∷ [])) commands moments outcomes reads
    ((λ on. on), ((λ on. on), ((λ on. on), (other_name, (other_name, ((λ on. on), tt))))))
  where
    other_name : ◌≡◌ {A = List ℕ} (97 ∷ []) (98 ∷ []) → ⊥
    other_name is = (let e : ◌≡◌ {A = ℕ} 97 98 = cc in omega arith)
