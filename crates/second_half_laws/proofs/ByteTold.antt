-- The put of one byte and the get of it, told by events and outcomes alone.
use Rattle.second_half_laws.proofs.Words.{drop, refl, inl, inr, arith, PutJob, GetJob, Put, Got, Begin, Step, Reopen, Opened, Begun, Ended, actions_of, IsStart, setup_in, Moment, now, Once, RunJob, GoOn, set_up, four, stored, put_steps, state_1, state_2, state_14, state_15, job_at, given_up, ended, NoneAsksOn, NoneOn, IsUntouched, both_none, steps_begin_none, Stored, GetEnds}
use Rattle.std.specs.Prelude.{◌≡◌, ℕ, List, [], ◌∷◌}
use Rattle.machine_defs.proofs.PutRun.{is_run as is_stored}
use Rattle.second_half_laws.specs.Told.{IsTold}
use Rattle.second_half_laws.proofs.ByteRun.{get_begin, get_end, moments, steps, is_run}

-- the reopening, the begin of the put and its end
abbrev pub reopening : Moment
reopening = record { event = Reopen; outcome = Opened; state = state_1 }

abbrev pub put_begin : Moment
put_begin = record { event = Begin (PutJob (97 ∷ []) (111 ∷ [])); outcome = Begun 1; state = state_2 }

abbrev pub put_end : Moment
put_end = record { event = Step 1; outcome = Ended Put; state = state_15 }

pub put_goes_on : GoOn 1 put_steps
put_goes_on = (
  refl,
  refl,
  (
    refl,
    refl,
    (
      refl,
      refl,
      (
        refl,
        refl,
        (
          refl,
          refl,
          (
            refl,
            refl,
            (refl, refl, (refl, refl, (refl, refl, (refl, refl, (refl, refl, (refl, refl, tt)))))),
          ),
        ),
      ),
    ),
  ),
)

get_goes_on : GoOn 2 steps
get_goes_on = (refl, refl, (refl, refl, (refl, refl, (refl, refl, (refl, refl, tt)))))

-- the put is stored
pub is_told : Stored stored (97 ∷ []) (111 ∷ [])
is_told = record {
  later = [];
  end = put_end;
  between = put_steps;
  begin = put_begin;
  older = reopening ∷ [];
  number = 1;
  split = refl;
  free = given_up reopening [] tt;
  begin_event = inl refl;
  begun = refl;
  none = (steps_begin_none 1 1 (97 ∷ []) put_steps put_goes_on).0;
  none_between = (steps_begin_none 1 1 (97 ∷ []) put_steps put_goes_on).1;
  end_event = refl;
  ended = refl;
  none_since = tt;
}

-- the get of it ended with the byte
pub is_got : GetEnds get_begin steps get_end 2 (97 ∷ []) (Got (111 ∷ []))
is_got = record {
  begin_event = refl;
  begun = refl;
  none = (steps_begin_none 2 2 (97 ∷ []) steps get_goes_on).0;
  end_event = refl;
  ended = refl;
}

-- the store that was set up is a start of a run
pub starts : IsStart set_up
starts = record {
  records = inr (four, refl, refl);
  journal = refl;
  first_area = refl;
  unswitched = refl;
  none_alone = refl;
  jobs = refl;
  first_job = refl;
  append = refl;
  doubt = refl;
  closed = refl;
  unbarred = refl;
}

-- none on the name runs, or is in flight or in doubt, behind the put
none_behind : NoneOn (97 ∷ []) state_15
none_behind = λ k j h t. (cc h)

untouched : IsUntouched (97 ∷ []) state_15
untouched = record { none_runs = none_behind; none_flies = λ a h. (cc h); none_takes = λ d h. (cc h) }

-- all that is told
pub all_told : IsTold stored steps get_begin get_end
unfolding is_told setup_in actions_of
all_told = record {
  start = starts;
  run = is_run;
  stored = is_told;
  got = is_got;
  steps = get_goes_on;
  get = job_at (now set_up (drop 1 moments)) 2;
  get_runs = refl;
  put = job_at state_14 1;
  put_ends = record { event = refl; outcome = refl; runs = refl; kind = refl };
  none_before = (λ on n is. on, tt);
  none_ran = λ k j h t. (cc h);
  none_later = (
    λ on n is. on,
    both_none (97 ∷ []) steps (get_begin ∷ []) (steps_begin_none 2 2 (97 ∷ []) steps get_goes_on).1
        (λ on n is. on, tt),
  );
  free = ended put_end put_begin put_steps (reopening ∷ []) 1 Put refl refl is_told.none_between refl
      (given_up reopening [] tt);
  untouched = untouched;
  refused = (refl, (refl, inr refl, refl), is_stored);
}

other_name : ◌≡◌ {A = List ℕ} (97 ∷ []) (98 ∷ []) → ⊥
other_name is = (let e : ◌≡◌ {A = ℕ} 97 98 = cc in omega arith)

-- the commands of the schedule are no begins of a put or a drop of another name
pub none_asks : NoneAsksOn (98 ∷ []) (RunJob 2 ∷ Once (Begin (GetJob (97 ∷ []))) ∷ RunJob 1
    ∷ Once (Begin (PutJob (97 ∷ []) (111 ∷ []))) ∷ Once Reopen ∷ [])
none_asks = (λ on. on, (other_name, (λ on. on, tt)))
