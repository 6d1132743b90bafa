-- A finished scrub is a mark, and so the second half holds of runs that are calm counted from finished
-- scrubs; who was not replaced since its begin holds the own columns; where no scrub begins, scrubs are calm.
use Rattle.second_half_laws.proofs.Words.{true, ◌⊎◌, refl, subst, inl, inr, arith, IsSome, nat_lt, false≢true, In, some-not-none, stripes, columns, Setup, is_setup, File, Held, with_symbol, without_block, HasPlace, Job, job_of, Action, Store, Work, End, pinned_stripes, Event, Init, Step, Alter, Lose, Names, Outcome, Ended, State, Scrub, Alone, Scrubbing, IsStart, setup_in, file_object, file_in, pinned_file, unalone, Scrubs, StepsScrub, StepsJob, StepsMine, StepsOne, StepsOpen, Steps, InitsBy, Inits, ReplacesIf, Lists, Happens, Moment, now, IsRun, Mark, relies, IsCalm, scrub_begun, mark_scrubbed, scrubbed, AreScrubsCalm, IsScrubCalm, AllTell, SecondHalf, told_block, found_none, IsLone, changes, all, IsBad, IsReplaced, PrecedesPuts, IsMark, IsExact, AreMarks, IsMarkedRun, BeginsNoScrub}
use Rattle.std.proofs.Common.{◌≡◌, ℕ, ◌<◌, ◌==◌, Bool, false, List, [], ◌∷◌, ◌++◌, length, Option, Some, None}
use Rattle.machine_defs.specs.Answers as answer
use Rattle.run_laws.proofs.InEffect as eff
use Rattle.second_half_laws.proofs.Onward.{all_tell}
use Rattle.second_half_laws.proofs.Scrubbing.{Scrub_is}
use Rattle.second_half_laws.proofs.Blocks.{since_more, right_block, no_first_file}
use Rattle.second_half_laws.proofs.EveryRun.{always}
use Rattle.second_half_laws.proofs.ScrubFacts.{Scrubbed}
use Rattle.second_half_laws.proofs.Swept.{IsEnded, Swept, swept_step}
use Rattle.second_half_laws.proofs.SecondHalf.{start_moment, mark_now, calm_scrub, scrub_was, scrub_on, half_by_mark}
use Rattle.second_half_laws.proofs.Exact.{Owns}
use Rattle.second_half_laws.proofs.InRuns.{mark_stays, owns_stay, before_stays}

-- ---- how a scrub ends Ok

-- a scrub that had its end alone still to do has made it
pub record HasEnded (old new : State) (scrub : Scrub) : Type 0 where
  pub rest : List Action
  pub todo : scrub.todo ≡ End ∷ rest
  pub is : new ≡ unalone old

module _ (moment : ℕ) (old new : State) (lone : IsLone old) (scrub : Scrub)
    (at : old.alone ≡ Some (Scrubbing scrub)) (a : ℕ) (xs ys : List ℕ) where
  scrubs : (action : Action) (rest : List Action) → scrub.todo ≡ action ∷ rest →
      Scrubs old scrub action rest (Ended (answer.Scrubbed a xs ys)) new → HasEnded old new scrub
  scrubs End rest todo (p, q, r, is) = record { rest = rest; todo = todo; is = is }
  scrubs action rest todo h = absurd h

  steps_scrub : (todo : List Action) → scrub.todo ≡ todo →
      StepsScrub old scrub todo (Ended (answer.Scrubbed a xs ys)) new → HasEnded old new scrub
  steps_scrub [] is h = absurd h
  steps_scrub (action ∷ rest) is h = scrubs action rest is h

  no_job : (job : Option Job) → job ≡ None → StepsJob old job (Ended (answer.Scrubbed a xs ys)) new →
      HasEnded old new scrub
  no_job None is h = absurd h
  no_job (Some job) is h = absurd (some-not-none (Some job) job refl is)

  steps_mine : (number : ℕ) (mine : Bool) →
      StepsMine old number (Scrubbing scrub) mine (Ended (answer.Scrubbed a xs ys)) new →
      HasEnded old new scrub
  steps_mine number true h = steps_scrub scrub.todo refl h
  steps_mine number false h = no_job (job_of old.jobs number) (cc (lone (Scrubbing scrub) at)) h

  steps_open : (number : ℕ) (is_barred : Bool) →
      StepsOpen old number is_barred (Ended (answer.Scrubbed a xs ys)) new → HasEnded old new scrub
  steps_open number true h = absurd h
  steps_open number false h = steps_mine number (scrub.number == number)
      (subst (λ x. StepsOne old number x (Ended (answer.Scrubbed a xs ys)) new) at h)

  steps : (number : ℕ) (is_open : Bool) → Steps old number is_open (Ended (answer.Scrubbed a xs ys)) new →
      HasEnded old new scrub
  steps number false h = absurd h
  steps number true h = steps_open number old.is_barred h

  inits_by : (s : Setup) (good : Bool) → InitsBy old s good (Ended (answer.Scrubbed a xs ys)) new →
      HasEnded old new scrub
  inits_by s true h = absurd h
  inits_by s false h = absurd h

  inits : (s : Setup) (is_open : Bool) → Inits old s is_open (Ended (answer.Scrubbed a xs ys)) new →
      HasEnded old new scrub
  inits s true h = absurd h
  inits s false h = inits_by s (is_setup s) h

  replaces_if : (handed : Bool) (j : ℕ) (IsThere : Held → Type 0) (changed : Held → Held) →
      ReplacesIf handed old j IsThere changed (Ended (answer.Scrubbed a xs ys)) new → HasEnded old new scrub
  replaces_if true j IsThere changed h = absurd h
  replaces_if false j IsThere changed h = absurd h

  lists : (is_open : Bool) → Lists old is_open (Ended (answer.Scrubbed a xs ys)) new → HasEnded old new scrub
  lists true h = absurd h
  lists false h = absurd h

  scrub_ends : (limit : ℕ) (e : Event) → Happens limit moment old e (Ended (answer.Scrubbed a xs ys)) new →
      HasEnded old new scrub
  scrub_ends limit (Init s) h = inits s old.is_open h
  scrub_ends limit (Step number) h = steps number old.is_open h
  scrub_ends limit (Alter j object stripe place symbol) h = replaces_if (nat_lt j old.handed) j
      (λ held. HasPlace (held object stripe) place) (with_symbol object stripe place symbol) h
  scrub_ends limit (Lose j object stripe) h = replaces_if (nat_lt j old.handed) j
      (λ held. IsSome (held object stripe)) (without_block object stripe) h
  scrub_ends limit Names h = lists old.is_open h
  scrub_ends limit e h = absurd h

-- ---- then its begin is a mark

bad_same : (w : State) (p o i s : ℕ) → IsBad (unalone w) p o i s → IsBad w p o i s
unfolding setup_in
bad_same w p o i s h = h

below_same : (w : State) (i : ℕ) → i < (setup_in (unalone w)).n → i < (setup_in w).n
unfolding setup_in
below_same w i h = h

stripe_same : (w : State) (f : File) (s : ℕ) →
    s < stripes (file_object (unalone w) f) (length ((unalone w).bytes f.id)) →
    s < pinned_stripes (setup_in w) (pinned_file w f)
unfolding setup_in
stripe_same w f s h = h

own_same : (w : State) (f : File) (i s : ℕ) (block : Option (List ℕ)) →
    block ≡ Some (columns (file_object w f) (w.bytes f.id) i s) →
    block ≡ Some (columns (file_object (unalone w) f) ((unalone w).bytes f.id) i s)
unfolding setup_in
own_same w f i s block h = h

-- a moment is a mark, and who was not replaced since then holds the own columns
abbrev pub Since : State → List Moment → ℕ → Type 0
Since start ms from = IsMark start ms from × Owns start ms from

-- what holds of marks and of the scrub that runs
pub record Sweep (start : State) (ms : List Moment) : Type 0 where
  pub marks : AreMarks (scrubbed start) start ms
  pub scrubs : (scrub : Scrub) → (now start ms).alone ≡ Some (Scrubbing scrub) →
      Scrubbed (scrubbed start) start ms scrub
  pub swept : (scrub : Scrub) → (now start ms).alone ≡ Some (Scrubbing scrub) → Swept start ms scrub
  pub owns : Owns start ms (scrubbed start ms)

module _ (limit : ℕ) (start : State) (m : Moment) (ms : List Moment) (clean : IsStart start)
    (tell : AllTell start) (run : IsRun limit start (m ∷ ms)) (calm : IsCalm relies (scrubbed start) ms)
    (calm_scrubs : AreScrubsCalm (scrubbed start) ms)
    (W : Sweep start ms) where
  -- the state after these moments
  abbrev here : State
  here = now start ms

  marked : IsMarkedRun limit (scrubbed start) start ms
  marked = record { clean = clean; tell = tell; run = run.2; calm = calm; marks = W.marks }

  stays : Since start (m ∷ ms) (scrubbed start ms)
  stays = (let moment = mark_now (scrubbed start) start ms W.marks in (
    mark_stays limit (scrubbed start) start m ms marked calm_scrubs run (scrubbed start ms) moment,
    owns_stay limit (scrubbed start) start m ms marked calm_scrubs run (scrubbed start ms) moment.before W.owns,
  ))

  lone : IsLone here
  lone = (all limit start clean ms run.2).numbers.idle.lone

  finished : (scrub : Scrub) → here.alone ≡ Some (Scrubbing scrub) → HasEnded here m.state scrub →
      Since start (m ∷ ms) scrub.begun
  finished scrub at H = (
    record {
      before = record {
        early = (let l = (W.scrubs scrub at).begun in omega arith);
        puts = λ number job name bytes runs kind. absurd (found_none m.state.jobs number job
            (cc (lone (Scrubbing scrub) at)) runs);
        doubts = λ d version id size profile in_doubt e. absurd ((always limit start clean ms run.2).lone_sure
            scrub d at (cc));
      };
      clear = λ q f i s h l k bad. clear q f i s (stood q f h) (within i l) (below f s k)
          (bad_same here f.profile f.id i s (rw H.is at bad));
    },
    λ q f i s block h l k unreplaced told. elim (swept q f i s block (stood q f h) (within i l) (below f s k)
        (cc)) [
          | inl own ↦ cc (own_same here f i s block own)
          | inr r ↦ absurd (false≢true (cc (since_more scrub.begun i m ms r)))
        ],
  )
    where
      C : Swept start ms scrub
      C = W.swept scrub at

      stood : (q : List ℕ) (f : File) → file_in m.state q ≡ Some f → file_in here q ≡ Some f
      stood q f h = cc

      within : (i : ℕ) → i < (setup_in m.state).n → i < (setup_in here).n
      within i l = below_same here i (rw H.is at l)

      below : (f : File) (s : ℕ) → s < stripes (file_object m.state f) (length (m.state.bytes f.id)) →
          s < pinned_stripes (setup_in here) (pinned_file here f)
      below f s k = stripe_same here f s (rw H.is at k)

      none_left : (x : Action) → (x ≡ End → ⊥) → In x scrub.todo → ⊥
      none_left x other h = elim (rw H.todo at h) [
        | inl e ↦ other e
        | inr r ↦ (subst (In x) (subst IsEnded H.todo C.ended) r)
      ]

      -- nothing is left to do: each block is the provider's own column, or its provider was replaced
      swept : (q : List ℕ) (f : File) (i s : ℕ) (block : Option (List ℕ)) → file_in here q ≡ Some f →
          i < (setup_in here).n → s < pinned_stripes (setup_in here) (pinned_file here f) →
          told_block here i f.id s ≡ Some block → (block ≡ Some (columns (file_object here f)
          (here.bytes f.id) i s)) ⊎ IsReplaced scrub.begun i ms
      swept q f i s block h l k told = elim (C.left (pinned_file here f) i s block (C.all q f h) l k told) [
        | inl own ↦ inl own
        | inr (inl r) ↦ inr r
        | inr (inr (inl w)) ↦ absurd (none_left (Work f.id s) (λ e. (cc e)) w)
        | inr (inr (inr st)) ↦ absurd (none_left (Store i f.id s) (λ e. (cc e)) st)
      ]

      clear : (q : List ℕ) (f : File) (i s : ℕ) → file_in here q ≡ Some f → i < (setup_in here).n →
          s < pinned_stripes (setup_in here) (pinned_file here f) → IsBad here f.profile f.id i s →
          IsReplaced scrub.begun i (m ∷ ms) ⊎ ⊥
      clear q f i s h l k (block, told, wrong) = elim (swept q f i s block h l k told) [
        | inl own ↦ absurd (right_block (file_object here f) (here.bytes f.id) i s (cc))
        | inr r ↦ inl (since_more scrub.begun i m ms r)
      ]

  by_alone : (x : Option Alone) → here.alone ≡ x → (a : ℕ) (xs ys : List ℕ) →
      m.outcome ≡ Ended (answer.Scrubbed a xs ys) → Since start (m ∷ ms) (scrub_begun x (scrubbed start ms))
  by_alone (Some (Scrubbing scrub)) at a xs ys is = finished scrub at
      (scrub_ends (length ms) here m.state lone scrub at a xs ys limit m.event (rw is at run.1))
  by_alone x at a xs ys is = stays

  by_outcome : (r : Outcome) → m.outcome ≡ r → Since start (m ∷ ms) (mark_scrubbed here.alone r
      (scrubbed start ms))
  by_outcome (Ended (answer.Scrubbed a xs ys)) is = by_alone here.alone refl a xs ys is
  by_outcome r is = stays

  sweep_step : Sweep start (m ∷ ms)
  sweep_step = (let A = all limit start clean ms run.2 in let since = by_outcome m.outcome refl in record {
    marks = (since.0, W.marks);
    owns = since.1;
    scrubs = scrub_on limit (scrubbed start) start m ms clean tell run calm_scrubs
        (mark_now (scrubbed start) start ms W.marks) W.scrubs;
    swept = swept_step limit (scrubbed start) start m ms A (eff.facts limit start ms clean run.2)
        (changes limit (length ms) here m.event m.outcome m.state A.numbers.idle run.1) (all_tell limit start
        ms tell run.2) W.scrubs W.swept (calm_scrub (scrubbed start) start clean ms calm_scrubs)
        (scrub_was limit start m ms clean run);
  })

sweep : (limit : ℕ) (start : State) → IsStart start → AllTell start → (ms : List Moment) →
    IsRun limit start ms → IsCalm relies (scrubbed start) ms → AreScrubsCalm (scrubbed start) ms →
    Sweep start ms
sweep limit start clean tell [] run calm scrubs = record {
  marks = start_moment start clean;
  scrubs = λ scrub h. absurd (some-not-none _ _ h clean.none_alone);
  swept = λ scrub h. absurd (some-not-none _ _ h clean.none_alone);
  owns = λ q f i s block h l k unreplaced told. absurd (no_first_file start.records q f clean.records h);
}
sweep limit start clean tell (m ∷ ms) run calm scrubs = sweep_step limit start m ms clean tell run calm.1
    scrubs.1 (sweep limit start clean tell ms run.2 calm.1 scrubs.1)

-- a run that is calm counted from finished scrubs is calm by a mark: the begin of the last of these
pub scrub_marked : (limit : ℕ) (start : State) (ms : List Moment) → IsStart start → AllTell start →
    IsRun limit start ms → IsScrubCalm start ms → IsMarkedRun limit (scrubbed start) start ms
scrub_marked limit start ms clean tell run h =
    record {
      clean = clean;
      tell = tell;
      run = run;
      calm = h.jobs;
      marks = (sweep limit start clean tell ms run h.jobs h.scrubs).marks;
    }

-- the second half holds of each run that is calm counted from finished scrubs
pub half_by_scrubs : (limit : ℕ) (start : State) (ms : List Moment) → IsStart start → AllTell start →
    IsRun limit start ms → IsScrubCalm start ms → SecondHalf start ms
half_by_scrubs limit start ms clean tell run h = half_by_mark limit (scrubbed start) start clean tell ms run
    h.jobs (sweep limit start clean tell ms run h.jobs h.scrubs).marks

-- own columns stay so at each later moment
owns_later : (limit : ℕ) (start : State) → IsStart start → AllTell start → (before later : List Moment) →
    IsRun limit start (later ++ before) → IsCalm relies (scrubbed start) (later ++ before) →
    AreScrubsCalm (scrubbed start) (later ++ before) →
    PrecedesPuts start (later ++ before) (scrubbed start before) ×
    Owns start (later ++ before) (scrubbed start before)
owns_later limit start clean tell before [] run calm scrubs =
    (let S = sweep limit start clean tell before run calm scrubs in
    ((mark_now (scrubbed start) start before S.marks).before, S.owns))
owns_later limit start clean tell before (m ∷ later) run calm scrubs =
    (let P = owns_later limit start clean tell before later run.2 calm.1 scrubs.1 in (
      before_stays limit start m _ _ clean run P.0,
      owns_stay limit _ start m _ (scrub_marked limit start (later ++ before) clean tell run.2
          (record { jobs = calm.1; scrubs = scrubs.1 })) scrubs.1 run (scrubbed start before) P.0 P.1,
    ))

-- each provider that was not replaced since the begin of a finished scrub holds its own columns
pub exact_by_scrubs : (limit : ℕ) (start : State) (later before : List Moment) → IsStart start →
    AllTell start → IsRun limit start (later ++ before) → IsScrubCalm start (later ++ before) →
    IsExact start (later ++ before) (scrubbed start before)
exact_by_scrubs limit start later before clean tell run h q f i s in_effect l k unreplaced =
    by_told _ refl (all_tell limit start (later ++ before) tell run i)
  where
    by_told : (x : Option Held) → ((now start (later ++ before)).providers i).held ≡ x → IsSome x →
        told_block (now start (later ++ before)) i f.id s
        ≡ Some (Some (columns (file_object (now start (later ++ before)) f)
        ((now start (later ++ before)).bytes f.id) i s))
    by_told None is some = absurd (false≢true some)
    by_told (Some held) is some = (cc ((owns_later limit start clean tell before later run h.jobs h.scrubs).1
        q f i s (held f.id s) in_effect l k unreplaced cc))

-- ---- where no scrub begins

none_runs : (limit : ℕ) (start : State) → IsStart start → (ms : List Moment) → IsRun limit start ms →
    BeginsNoScrub ms → (scrub : Scrub) → (now start ms).alone ≡ Some (Scrubbing scrub) → ⊥
none_runs limit start clean [] run none scrub h = some-not-none _ _ h clean.none_alone
none_runs limit start clean (m ∷ ms) run none scrub h =
    by_scrub (none_runs limit start clean ms run.2 none.1) (scrub_was limit start m ms clean run scrub h)
  where
    by_scrub : ((other : Scrub) → (now start ms).alone ≡ Some (Scrubbing other) → ⊥) →
        Scrub_is (length ms) m.event (now start ms) m.state scrub → ⊥
    by_scrub before (Scrub_is.kept was b) = before scrub was
    by_scrub before (Scrub_is.begun event is alone is_open unbarred b) = none.0 event
    by_scrub before (Scrub_is.went other was goes b) = before other was

-- a run in which no scrub begins is calm for scrubs, by whatever mark
pub unscrubbed : (limit : ℕ) (mark : Mark) (start : State) (ms : List Moment) → IsStart start →
    IsRun limit start ms → BeginsNoScrub ms → AreScrubsCalm mark ms
unscrubbed limit mark start [] clean run none = tt
unscrubbed limit mark start (m ∷ ms) clean run none = (
  λ scrub h. absurd (none_runs limit start clean (m ∷ ms) run none scrub h),
  unscrubbed limit mark start ms clean run.2 none.1,
)
