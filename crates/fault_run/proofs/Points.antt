-- The places in the run, computed; and parts of a run, by what is known of its events.
use Rattle.std.proofs.Common.{◌≡◌, ℕ, suc, Bool, true, false, List, [], ◌∷◌, Option, Some, None, is_some, not, take, option_and_then, refl, ap, sym, ◌∙◌, inl, arith, ◌++◌, length, nat_le, if◌then◌else◌, option_map, subst, inr}
use Rattle.std.proofs.lemmas.Bool.{false≢true}
use Rattle.code_defs.proofs.Values.{is_seen-none}
use Rattle.machine_defs.specs.Begins.{new_job}
use Rattle.machine_defs.specs.Given.{block_given, answer_given}
use Rattle.machine_defs.specs.Steps.{next_action, holder_of}
use Rattle.machine_defs.proofs.JobLists.{number_of}
use Rattle.second_half_laws.proofs.Finished.{unscrubbed}
use Rattle.damage_run.specs.Words.{Record, PutDone, Held, Given, GetJob, Job, job_of, Action, Store, Fetch, Ask, Remove, actions_of, Got, Lost, Event, Begin, Step, Continue, Refused, Ended, State, Append, Doubt, setup_in, Moment, first_moments, scrubbed, Makes, takes_out, NeverTakenOut, NoneContinues, OfOthers, set_up, IsRun, now, Count, count_in, RoseBy, IsMarkedRun, GaveAmiss, HasFailures}
use Rattle.damage_run.specs.Points.{name, byte, at}
use Rattle.damage_run.proofs.CalmRun.{calm_by_test, tell}
use Rattle.damage_run.proofs.Points.{event_of, is-event}
use Rattle.damage_run.proofs.Told.{all_pass, each, no_scrub}
use Rattle.damage_run.proofs.Values.{right, same_first, agrees_at}
use Rattle.machine_defs.specs.Refusals as refusal
use Rattle.fault_run.specs.Faults.{IsFaulty, Fails, HasFaults}
use Rattle.fault_run.proofs.Run.{moments, is_run}
use Rattle.damage_run.proofs.Run.{first_run, block_sized, block, starts}

-- the moments are the run: calm, with no scrub, and with the events of the schedule
pub faulty : IsFaulty moments
unfolding setup_in actions_of
faulty = (let none = no_scrub moments refl in assumption (
  starts,
  tell,
  is_run,
  none,
  calm_by_test (λ moments. 0) moments refl,
  unscrubbed 8 (λ moments. 0) set_up moments starts is_run none,
  calm_by_test (scrubbed set_up) moments refl,
  unscrubbed 8 (scrubbed set_up) set_up moments starts is_run none,
))

-- event k
abbrev pub event_at : ℕ → Moment
event_at k = event_of moments k

-- ---- what is found in a state: compared with itself, a computed job costs more than can be paid

-- what is found, or this
abbrev or_else : {A : Type 0} → A → Option A → A
or_else none None = none
or_else none (Some x) = x

-- it is found where the test says so
is-some : {A : Type 0} (none : A) (found : Option A) → is_some found ≡ true →
    found ≡ Some (or_else none found)
is-some none None h = absurd (false≢true h)
is-some none (Some x) h = refl

-- a job that does nothing, and an append that nothing writes
abbrev no_job : Job
no_job = new_job set_up 0 (GetJob [])

abbrev no_append : Append
no_append = record { job = 0; entry = PutDone 0 0; moves = 0 }

-- the job of a number
abbrev the_job : State → ℕ → Job
the_job w n = or_else no_job (job_of w.jobs n)

-- it is that of its own number, in a step in which it made an action, or failed at it
module _ (w : State) (n : ℕ) (some : is_some (job_of w.jobs n) ≡ true) where
  its-number : (the_job w n).number ≡ n
  its-number = number_of w.jobs n (the_job w n) (is-some no_job (job_of w.jobs n) some)

  its-job : job_of w.jobs (the_job w n).number ≡ Some (the_job w n)
  its-job = ap (job_of w.jobs) its-number ∙ is-some no_job (job_of w.jobs n) some

  makes-so : (m : Moment) (action : Action) → m.event ≡ Step n → w.is_open ≡ true → w.is_barred ≡ false →
      w.alone ≡ None → next_action w (the_job w n) ≡ Some action → holder_of w.append action ≡ None →
      Makes w m (the_job w n) action
  makes-so m action event is_open unbarred none_alone next unheld =
      assumption (event ∙ ap Step (sym its-number), its-job)

-- ---- what failed calls gave

-- a call that failed
fails-so : (ms : List Moment) (k n j : ℕ) (action : Action) →
    first_moments (suc k) ms ≡ event_of ms k ∷ first_moments k ms →
    Makes (at k ms) (event_of ms k) (the_job (at k ms) n) action →
    GaveAmiss (at k ms) (event_of ms k) (the_job (at k ms) n) j action → Fails ms k (OfOthers j)
fails-so ms k n j action is makes amiss = record {
  moment = event_of ms k;
  is = is;
  failure = record { job = the_job (at k ms) n; action = action; makes = makes; amiss = amiss };
}

no_value : {A : Type 0} (x : A) → None ≡ Some x → ⊥
no_value x e = cc

abbrev given_of : Option Job → List Given
given_of None = []
given_of (Some job) = job.given

some_right : right 2 ≡ None → ⊥
some_right none = grind (arith, is_seen-none, agrees_at 2)

-- ---- the first file stays, and no later call of the program begins

abbrev pub is_left : List ℕ → List Record → Option Doubt → Bool
is_left called rs None = true
is_left called rs (Some d) = not (takes_out rs called d.entry)

-- a name that passes the test in all moments is never taken out
pub never_by_test : (called : List ℕ) (ms : List Moment) →
    all_pass (λ m older. is_left called m.state.records m.state.doubt) ms ≡ true → NeverTakenOut called ms
never_by_test called = each (λ m older. is_left called m.state.records m.state.doubt) (NeverTakenOut called)
    tt (λ m ms t rest. (λ d e. grind arith, rest))

abbrev goes_on : Event → Bool
goes_on Continue = false
goes_on event = true

none_by_test : (ms : List Moment) → all_pass (λ m older. goes_on m.event) ms ≡ true → NoneContinues ms
none_by_test = each (λ m older. goes_on m.event) NoneContinues tt
    (λ m ms t rest. (λ e. false≢true (ap goes_on (sym e) ∙ t), rest))

-- ---- all of them

-- at its places the run has the faults that the premises of the laws ask for
pub faults : HasFaults moments
unfolding setup_in actions_of
faults = record {
  fetch_fails = fails-so moments 16 2 0 (Fetch 0 1 0) refl
      (makes-so (at 16 moments) 2 refl (event_at 16) (Fetch 0 1 0) refl refl refl refl refl refl) (
        refl,
        λ seen goes gives. no_value (block 0)
            (ap (λ job. block_given (given_of job) 1 0 0) goes ∙ (gives ∙ sym (block_sized 0))),
      );
  store_fails = record { moment = event_at 26; is = refl; failure = refl };
  sync_fails = record { moment = event_at 35; is = refl; failure = tt };
  reopening_fails = record { moment = event_at 38; is = refl; failure = tt };
  ask_fails = fails-so moments 55 6 2 (Ask 2 1 0) refl
      (makes-so (at 55 moments) 6 refl (event_at 55) (Ask 2 1 0) refl refl refl refl refl refl) (
        refl,
        λ symbol goes gives. some_right (same_first _ _ refl
            ∙ sym (ap (λ job. answer_given (given_of job) 1 0 2) goes ∙ gives)),
      );
  removal_fails = fails-so moments 71 7 3 (Remove 3 1) refl
      (makes-so (at 71 moments) 7 refl (event_at 71) (Remove 3 1) refl refl refl refl refl refl) (
        refl,
        λ gone. no_value (block 3) (sym (ap (option_and_then (λ (held : Held). held 1 0)) gone)),
      );
  get_missed = record {
    job = the_job (at 20 moments) 2;
    runs = is-some no_job (job_of (at 20 moments).jobs 2) refl;
    number_is = refl;
    kind_is = refl;
    pinned = (0, omega arith, refl);
    provider_in = omega arith;
    stripe_in = omega arith;
    missed = (3, omega arith, refl);
  };
  get_rose = λ low. omega arith;
  get_lost = is-event moments 20 (Step 2) (Ended (Lost 0 0)) refl refl refl;
  must_reopen = (is-event moments 36 (Begin (GetJob name)) (Refused refusal.MustReopen) refl refl refl, refl);
  no_memory = (is-event moments 40 (Begin (GetJob name)) (Refused refusal.Memory) refl refl refl, refl);
  cut_in_doubt = (refl, refl);
  cut_ended = refl;
  cut_profile = refl;
  stop = event_at 37;
  stopped = refl;
  cut_settled = refl;
  cut_in_effect = refl;
  later = take 49 (first_moments 63 moments);
  came_moment = event_at 13;
  first_split = refl;
  first_came = record { version = 1; done = refl; profiled = λ first. refl; started = refl; named = refl };
  never_out = never_by_test name (take 49 (first_moments 63 moments)) refl;
  first_got = is-event moments 47 (Step 5) (Ended (Got byte)) refl refl refl;
  has_stored = inl (record {
    job = the_job (at 6 moments) 1;
    name = name;
    bytes = byte;
    provider = 0;
    stripe = 0;
    makes = makes-so (at 6 moments) 1 refl (event_at 6) (Store 0 1 0) refl refl refl refl refl refl;
    puts = refl;
    begun_is = refl;
  });
  has_asked = inl (record {
    job = the_job (at 53 moments) 6;
    provider = 0;
    makes = makes-so (at 53 moments) 6 refl (event_at 53) (Ask 0 1 0) refl refl refl refl refl refl;
    audits = refl;
    begun_is = refl;
    number_is = refl;
  });
  end_in_flight = record {
    append = or_else no_append (at 58 moments).append;
    in_flight = is-some no_append (at 58 moments).append refl;
    entry_is = refl;
    job = the_job (at 58 moments) 6;
    runs = is-some no_job (job_of (at 58 moments).jobs 6) refl;
  };
  after_get = take 12 (first_moments 60 moments);
  reported = record {
    moment = event_at 47;
    job = the_job (at 47 moments) 5;
    before = first_moments 47 moments;
    split = refl;
    ends = record { answer = Got byte; event = refl; outcome = refl; runs = its-job (at 47 moments) 5 refl };
    none_continues = none_by_test (take 12 (first_moments 60 moments)) refl;
  };
  begun_anew = refl;
}

-- ---- parts of a run

-- a run up to an event
pub run_to : (ms : List Moment) (k : ℕ) (m : Moment) → IsRun 8 set_up ms →
    first_moments (suc k) ms ≡ m ∷ first_moments k ms → IsRun 8 set_up (m ∷ first_moments k ms)
run_to ms k m run is = subst (IsRun 8 set_up) is (first_run 8 set_up (suc k) ms run)

-- a run that is calm by its start is so up to any moment
pub marked_to : (k : ℕ) (ms : List Moment) → IsMarkedRun 8 (λ moments. 0) set_up ms →
    IsMarkedRun 8 (λ moments. 0) set_up (first_moments k ms)
marked_to k [] h = h
marked_to k (m ∷ ms) h =
    by (nat_le (length (m ∷ ms)) k) (marked_to k ms (assumption (h.run.2, h.calm.1, h.marks.1)))
  where
    by : (b : Bool) → IsMarkedRun 8 (λ moments. 0) set_up (first_moments k ms) →
        IsMarkedRun 8 (λ moments. 0) set_up (if b then m ∷ ms else first_moments k ms)
    by true rest = h
    by false rest = rest

-- a failed call raises its count by one, or the count stands at its last value, as the law on counts says
pub counted : ((limit : ℕ) (start : State) (later ms : List Moment) (count : Count) (n : ℕ) →
    IsRun limit start (later ++ ms) → HasFailures count (now start ms) later n →
    RoseBy (count_in count (now start ms)) (count_in count (now start (later ++ ms))) n) →
    (ms : List Moment) {k : ℕ} {count : Count} → IsFaulty ms → Fails ms k count →
    RoseBy (count_in count (at k ms)) (count_in count (at (suc k) ms)) 1
counted law ms {k} {count} faulty f = rw f.is (law 8 set_up (f.moment ∷ []) (first_moments k ms) count 1
    (run_to ms k f.moment faulty.run f.is) (inr (0, refl, f.failure, refl)))

-- what a value was made of is there
pub there : {A B : Type 0} (f : A → B) (o : Option A) (y : B) → option_map f o ≡ Some y →
    (x : A) × (o ≡ Some x) × (f x ≡ y)
there f None y h = (let e : None ≡ Some y = h in absurd (cc e))
there f (Some x) y h = (let e : f x ≡ y = cc in (x, refl, e))
