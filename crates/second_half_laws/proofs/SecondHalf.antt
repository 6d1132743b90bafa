-- The second half of the main theorem.
use Rattle.second_half_laws.proofs.Words.{true, ◌⊎◌, refl, ap, sym, subst, ◌∙◌, inl, inr, arith, IsTrue, cases_lt, In, some-not-none, upto, stripes, is_wrong_block, count_of, count_of-within, Setup, File, Rose, last_count, Kind, GetJob, Pinned, Job, job_of, Fetch, Work, Answer, Event, Begin, Step, Outcome, Refused, Ended, next_action, object_of, profiled, stripes_of, pinned_stripes, State, Scrub, Scrubbing, IsStart, setup_in, file_object, file_in, pinned_file, block_given, Moment, now, first_moments, is_replaced_since, came, IsRun, Mark, relies, replaced_count, since, IsCalm, MissesNone, NoneMissed, AreScrubsCalm, begun_of, CountRose, GivesOrRose, EndsWell, KeepsSecondHalf, SecondHalf, AllTell, SecondHalfHolds, number_of, found_none, setup_same, all, is_wrong_given, IsFewWrong, event_end, IsLone, HasMade, RoseSince, IsMark, AreMarks, IsLostByFaults, GivesOrIsLost, got_right}
use Rattle.std.proofs.Common.{◌≡◌, ℕ, zero, suc, ◌≤◌, ◌<◌, List, [], ◌∷◌, length, Option, Some, None}
use Rattle.machine_defs.specs.Answers as answer
use Rattle.second_half_laws.proofs.GetEnds.{have_files, Get_ends, get_ends, few_give, few_not_lost}
use Rattle.second_half_laws.proofs.Names.{begins_stored}
use Rattle.second_half_laws.proofs.Onward.{run_onward, all_tell}
use Rattle.second_half_laws.proofs.Places.{fetched_before_work, fetched_before_end}
use Rattle.second_half_laws.proofs.MadeFacts.{given_block, made_fetch_gave}
use Rattle.second_half_laws.proofs.Walk.{walked}
use Rattle.second_half_laws.proofs.Blocks.{no_first_file, no_first_due}
use Rattle.second_half_laws.proofs.MovePlaces.{read_within}
use Rattle.second_half_laws.proofs.EveryRun.{always, around}
use Rattle.second_half_laws.proofs.Points.{Facts, begin_of, mark_of}
use Rattle.second_half_laws.proofs.Audits.{Audited}
use Rattle.second_half_laws.proofs.Audits as aud
use Rattle.second_half_laws.proofs.Scrubbing.{Scrub_is, scrub_is}
use Rattle.second_half_laws.proofs.ScrubFacts.{scrub_mark, Scrubbed, scrubs_right, scrubbed_step}
use Rattle.second_half_laws.proofs.Readers as rd
use Rattle.second_half_laws.proofs.NoForgery.{no_forgery}

-- ---- the facts, at each moment

-- the start of a run is a mark
pub start_moment : (start : State) → IsStart start → IsMark start [] 0
start_moment start clean = record {
  before = record {
    early = omega arith;
    puts = λ k j name bytes h kind. absurd (found_none start.jobs k j clean.jobs h);
    doubts = λ d version id size profile h e. absurd (some-not-none start.doubt d h clean.doubt);
  };
  clear = λ q f i s h l k bad. absurd (no_first_file start.records q f clean.records h);
}

-- the mark now is one
pub mark_now : (mark : Mark) (start : State) (ms : List Moment) → AreMarks mark start ms →
    IsMark start ms (mark ms)
mark_now mark start [] marks = marks
mark_now mark start (m ∷ ms) marks = marks.0

start_facts : (mark : Mark) (start : State) → IsStart start → IsMark start [] (mark []) → Facts mark start []
start_facts mark start clean moment = record {
  moment = moment;
  marked = λ k j h. absurd (found_none start.jobs k j clean.jobs h);
  reads = λ k j f i s h in_f l b bad. absurd (found_none start.jobs k j clean.jobs h);
  counts = λ k j i h. absurd (found_none start.jobs k j clean.jobs h);
  gave = λ k j f i s block h in_f l b given wrong. absurd (found_none start.jobs k j clean.jobs h);
  rows = λ k j o s symbols h kind given. absurd (found_none start.jobs k j clean.jobs h);
  rewrote = λ k j i o s b h kind made none told. absurd (found_none start.jobs k j clean.jobs h);
}

start_audited : (start : State) → IsStart start → Audited start []
start_audited start clean = record {
  audit = λ k j h kind. absurd (found_none start.jobs k j clean.jobs h);
  audit_doubt = λ d number u c h e. absurd (some-not-none start.doubt d h clean.doubt);
  due = λ u h. absurd (no_first_due start.records u clean.records h);
  repair = λ k j h kind. absurd (found_none start.jobs k j clean.jobs h);
  repair_doubt = λ d number h e. absurd (some-not-none start.doubt d h clean.doubt);
}

-- calm, of a scrub that runs now
pub calm_scrub : (mark : Mark) (start : State) → IsStart start → (ms : List Moment) → AreScrubsCalm mark ms →
    (scrub : Scrub) → (now start ms).alone ≡ Some (Scrubbing scrub) →
    replaced_count (now start ms) (scrub_mark mark ms scrub) ms ≤ (setup_in (now start ms)).b
calm_scrub mark start clean [] calm scrub h = absurd (some-not-none _ _ h clean.none_alone)
calm_scrub mark start clean (m ∷ ms) calm scrub h = calm.0 scrub h

-- how a scrub that runs came to be what it is
pub scrub_was : (limit : ℕ) (start : State) (m : Moment) (ms : List Moment) → IsStart start →
    IsRun limit start (m ∷ ms) → (scrub : Scrub) → m.state.alone ≡ Some (Scrubbing scrub) →
    Scrub_is (length ms) m.event (now start ms) m.state scrub
scrub_was limit start m ms clean run =
    scrub_is (length ms) (now start ms) (all limit start clean ms run.2).numbers.idle.lone
    (always limit start clean ms run.2).lone_open limit m.event m.outcome m.state run.1

-- what holds of a scrub, one event more
pub scrub_on : (limit : ℕ) (mark : Mark) (start : State) (m : Moment) (ms : List Moment) → IsStart start →
    AllTell start → IsRun limit start (m ∷ ms) → AreScrubsCalm mark ms → IsMark start ms (mark ms) →
    ((scrub : Scrub) → (now start ms).alone ≡ Some (Scrubbing scrub) → Scrubbed mark start ms scrub) →
    (next : Scrub) → m.state.alone ≡ Some (Scrubbing next) → Scrubbed mark start (m ∷ ms) next
scrub_on limit mark start m ms clean tell run calm moment K = (let N = around limit start m ms clean run in
    scrubbed_step limit mark start m ms N.facts N.files N.changed (all_tell limit start ms tell run.2) moment
    K (calm_scrub mark start clean ms calm) (scrub_was limit start m ms clean run))

-- in a run whose scrubs are calm by a mark which at each moment is one
pub marked_scrubs : (limit : ℕ) (mark : Mark) (start : State) → IsStart start → AllTell start →
    (ms : List Moment) → IsRun limit start ms → AreScrubsCalm mark ms → AreMarks mark start ms →
    (scrub : Scrub) → (now start ms).alone ≡ Some (Scrubbing scrub) → Scrubbed mark start ms scrub
marked_scrubs limit mark start clean tell [] run calm marks =
    λ scrub h. absurd (some-not-none _ _ h clean.none_alone)
marked_scrubs limit mark start clean tell (m ∷ ms) run calm marks =
    scrub_on limit mark start m ms clean tell run calm.1 (mark_now mark start ms marks.1)
    (marked_scrubs limit mark start clean tell ms run.2 calm.1 marks.1)

-- calm, of a job that runs now
pub calm_now : (mark : Mark) (start : State) → IsStart start → (ms : List Moment) → IsCalm relies mark ms →
    (k : ℕ) (j : Job) → job_of (now start ms).jobs k ≡ Some j → IsTrue (relies j.kind) →
    replaced_count (now start ms) (mark_of mark ms j) ms ≤ (setup_in (now start ms)).b
calm_now mark start clean [] calm k j h reads = absurd (found_none start.jobs k j clean.jobs h)
calm_now mark start clean (m ∷ ms) calm k j h reads = calm.0 k j h reads

-- one event more, where the mark is such a moment after it
facts_step : (limit : ℕ) (mark : Mark) (start : State) (m : Moment) (ms : List Moment) → IsStart start →
    AllTell start → IsRun limit start (m ∷ ms) → IsCalm relies mark ms → Facts mark start ms →
    IsMark start (m ∷ ms) (mark (m ∷ ms)) → Facts mark start (m ∷ ms)
facts_step limit mark start m ms clean tell run calm F moment = (let N = around limit start m ms clean run in
    let G = walked (length ms) (now start ms) limit m.event m.outcome m.state N.facts.numbers.idle.lone run.1
    in
    let O = run_onward limit start m ms run in
    let told = all_tell limit start ms tell run.2 in
    let quiet = calm_now mark start clean ms calm in
    rd.step N F G O told quiet moment)

-- in a run that is calm by a mark
pub marked_facts : (limit : ℕ) (mark : Mark) (start : State) → IsStart start → AllTell start →
    (ms : List Moment) → IsRun limit start ms → IsCalm relies mark ms → AreMarks mark start ms →
    Facts mark start ms
marked_facts limit mark start clean tell [] run calm marks = start_facts mark start clean marks
marked_facts limit mark start clean tell (m ∷ ms) run calm marks = facts_step limit mark start m ms clean tell
    run calm.1 (marked_facts limit mark start clean tell ms run.2 calm.1 marks.1) marks.0

-- with the begin of the last settled audit as the mark, both
pub record Both (start : State) (ms : List Moment) : Type 0 where
  pub facts : Facts (since start) start ms
  pub audited : Audited start ms
  pub scrubs : (scrub : Scrub) → (now start ms).alone ≡ Some (Scrubbing scrub) →
      Scrubbed (since start) start ms scrub

both_step : (limit : ℕ) (start : State) (m : Moment) (ms : List Moment) → IsStart start → AllTell start →
    IsRun limit start (m ∷ ms) → IsCalm relies (since start) ms → AreScrubsCalm (since start) ms →
    MissesNone start ms m.state (came (now start ms) m.state) → Both start ms → Both start (m ∷ ms)
both_step limit start m ms clean tell run calm calm_scrubs missed B =
    (let N = around limit start m ms clean run in
    let R = scrubs_right (since start) start ms N.facts B.scrubs in
    let clear = aud.mark_clear N B.facts R B.audited missed B.facts.moment.clear in
    record {
      facts = facts_step limit (since start) start m ms clean tell run calm B.facts
          (record { before = (always limit start clean (m ∷ ms) run).mark; clear = clear });
      audited = aud.audited_step N B.facts R B.audited missed;
      scrubs = scrub_on limit (since start) start m ms clean tell run calm_scrubs B.facts.moment B.scrubs;
    })

-- in a calm run in which no audit missed damage, what hangs on the mark and on audits holds
pub both : (limit : ℕ) (start : State) → IsStart start → AllTell start → (ms : List Moment) →
    IsRun limit start ms → IsCalm relies (since start) ms → AreScrubsCalm (since start) ms →
    NoneMissed start ms → Both start ms
both limit start clean tell [] run calm scrubs missed = record {
  facts = start_facts (since start) start clean (start_moment start clean);
  audited = start_audited start clean;
  scrubs = λ scrub h. absurd (some-not-none _ _ h clean.none_alone);
}
both limit start clean tell (m ∷ ms) run calm scrubs missed = both_step limit start m ms clean tell run calm.1
    scrubs.1 missed.0 (both limit start clean tell ms run.2 calm.1 scrubs.1 missed.1)

-- the begins of settled audits are marks
pub are_marks : (limit : ℕ) (start : State) → IsStart start → AllTell start → (ms : List Moment) →
    IsRun limit start ms → IsCalm relies (since start) ms → AreScrubsCalm (since start) ms →
    NoneMissed start ms → AreMarks (since start) start ms
are_marks limit start clean tell [] run calm scrubs missed = start_moment start clean
are_marks limit start clean tell (m ∷ ms) run calm scrubs missed = (
  (both limit start clean tell (m ∷ ms) run calm scrubs missed).facts.moment,
  are_marks limit start clean tell ms run.2 calm.1 scrubs.1 missed.1,
)

-- ---- a count rose, or did not

rose_or_not : (a b : ℕ) → Rose a b ⊎ (Rose a b → ⊥)
rose_or_not a b = elim (cases_lt a last_count) [
  | inr k ↦ inl (λ l. omega (arith, k, l))
  | inl k ↦ elim (cases_lt a b) [
    | inl l ↦ inl (λ z. l)
    | inr l ↦ inr (λ rose. (omega (arith, rose k, l)))
  ]
]

-- the count of one of these providers rose, or of none
pub some_rose : (w v : State) (n : ℕ) → ((i : ℕ) × (i < n) × RoseSince w v i) ⊎
    ((i : ℕ) → i < n → RoseSince w v i → ⊥)
some_rose w v zero = inr (λ i l rose. omega (arith, l))
some_rose w v (suc n) = elim (some_rose w v n) [
  | inl p ↦ inl (p.0, (omega (arith, p.1)), p.2)
  | inr none ↦ elim (rose_or_not _ _) [
    | inl rose ↦ inl (n, omega arith, rose)
    | inr other ↦ inr (λ i l rose. elim (cases_lt i n) [
      | inl k ↦ none i k rose
      | inr k ↦ other (subst (RoseSince w v) (omega (arith, l, k)) rose)
    ])
  ]
]

-- ---- gets

module _ (limit : ℕ) (mark : Mark) (start : State) (m : Moment) (ms : List Moment) (clean : IsStart start)
    (run : IsRun limit start (m ∷ ms)) (calm : IsCalm relies mark ms) (F : Facts mark start ms) where
  -- the state after these moments
  abbrev here : State
  here = now start ms

  module _ (job : Job) (name : List ℕ) (runs : job_of here.jobs job.number ≡ Some job) (kind : job.kind
      ≡ GetJob name) (file : File) (in_effect : file_in (begin_of start ms job) name ≡ Some file)
      (pinned : job.pinned ≡ pinned_file (begin_of start ms job) file ∷ []) (setup : setup_in here ≡ setup_in
      (begin_of start ms job)) where
    abbrev b : State
    b = begin_of start ms job

    lone : IsLone here
    lone = (all limit start clean ms run.2).numbers.idle.lone

    in_file : In (pinned_file (begin_of start ms job) file) job.pinned
    in_file = subst (In (pinned_file (begin_of start ms job) file)) (sym pinned) (inl refl)

    own_bytes : (begin_of start ms job).bytes file.id ≡ here.bytes file.id
    own_bytes = (always limit start clean ms run.2).pinned job.number job
        (pinned_file (begin_of start ms job) file) runs in_file

    -- where no count rose, few providers gave a wrong block of a stripe of which all were asked
    few : ((i : ℕ) → i < (setup_in (begin_of start ms job)).n → RoseSince (begin_of start ms job) here i →
        ⊥) → (stripe : ℕ) → stripe < stripes (file_object (begin_of start ms job) file)
        (length ((begin_of start ms job).bytes file.id)) → ((i : ℕ) → i < (setup_in here).n →
        HasMade (setup_in here) job (Fetch i file.id stripe)) → IsFewWrong (begin_of start ms job) file job
        stripe
    few none stripe below asked = (let c = calm_now mark start clean ms calm job.number job runs (cc) in
        omega (
          arith,
          count_of-within (is_wrong_given (begin_of start ms job) file job stripe)
              (λ i. is_replaced_since (mark_of mark ms job) i ms) 0 (setup_in (begin_of start ms job)).n
              (λ i l wrong. one i (omega (arith, l)) wrong),
          (subst (λ (t : Setup). count_of (λ i. is_replaced_since (mark_of mark ms job) i ms) (upto t.n) ≤ t.b)
              setup c),
        ))
      where
        one : (i : ℕ) → i < (setup_in (begin_of start ms job)).n →
            is_wrong_given (begin_of start ms job) file job stripe i ≡ true →
            is_replaced_since (mark_of mark ms job) i ms ≡ true
        one i l wrong = (let k = rw (← setup) at l in
            let g = made_fetch_gave limit start clean ms run.2 job.number job i file.id stripe runs
            (asked i k) in elim (F.gave job.number job (pinned_file (begin_of start ms job) file) i stripe
            (block_given job.given file.id stripe i) runs in_file k (subst
            (λ (t : Setup). stripe < stripes_of (profiled t file.profile) (length (here.bytes file.id)))
            (sym setup) (subst (λ (y : List ℕ). stripe < stripes_of
            (profiled (setup_in (begin_of start ms job)) file.profile) (length y)) own_bytes below))
            (given_block job.given i file.id stripe g.0 g.1) (subst
            (λ (t : Setup). is_wrong_block (object_of (profiled t file.profile) file.id)
            (here.bytes file.id) i stripe (block_given job.given file.id stripe i) ≡ true) (sym setup)
            (subst (λ (y : List ℕ). is_wrong_block (file_object (begin_of start ms job) file) y i stripe
            (block_given job.given file.id stripe i) ≡ true) own_bytes wrong))) [
              | inl r ↦ r
              | inr q ↦ absurd (none i l q.1)
            ])

    in_stripes : (stripe : ℕ) → (f : Pinned) × In f job.pinned × (f.id ≡ file.id) × (stripe < pinned_stripes
        (setup_in here) f) → stripe < stripes (file_object (begin_of start ms job) file)
        (length ((begin_of start ms job).bytes file.id))
    in_stripes stripe (f, in_f, id_is, l) = elim (rw pinned at in_f) [
      | inl e ↦ (rw setup at (subst (λ (x : Pinned). stripe < pinned_stripes (setup_in here) x) e l))
      | inr none ↦ absurd none
    ]

    -- a get is lost only where a provider's count rose
    lost_by : (how : Answer) (stripe row : ℕ) → m.event ≡ Step job.number → m.outcome ≡ Ended how →
        how ≡ answer.Lost stripe row → next_action here job ≡ Some (Work file.id stripe) →
        IsLostByFaults (begin_of start ms job) m.state how
    lost_by how stripe row event outcome is next_is =
        elim (some_rose (begin_of start ms job) here (setup_in (begin_of start ms job)).n) [
          | inl (i, l, rose) ↦ record {
            stripe = stripe;
            row = row;
            lost = is;
            provider = i;
            provider_in = l;
            rose = rd.rose_on _ _ _ rose ((run_onward limit start m ms run).provider i).others;
          }
          | inr none ↦ absurd (few_not_lost limit start m ms job name clean run runs kind event file in_effect
              stripe row (outcome ∙ ap Ended is) (few none stripe (in_stripes stripe (read_within here job
              name file.id stripe kind next_is)) (λ i l. fetched_before_work here job file.id stripe i next_is
              l)))
        ]

    -- a get ends with the bytes in effect at its begin, or is lost so
    ends_sharply : (how : Answer) → m.event ≡ Step job.number → m.outcome ≡ Ended how →
        GivesOrIsLost (begin_of start ms job) m.state name how
    ends_sharply how event outcome = by_end (get_ends limit start m ms job name
        (pinned_file (begin_of start ms job) file) how lone run event outcome runs kind pinned)
      where
        by_end : Get_ends here job (pinned_file (begin_of start ms job) file) how →
            GivesOrIsLost (begin_of start ms job) m.state name how
        by_end (Get_ends.with_bytes bytes is) = (let g = got_right limit start m ms job name bytes clean run
            (record { event = event; outcome = outcome ∙ ap Ended is; runs = runs; kind = kind }) in
            record {
              file = g.file;
              in_effect = g.in_effect;
              gives = elim g.right [
                | inl same ↦ inl (is ∙ ap answer.Got same)
                | inr forged ↦ absurd (no_forgery limit mark start ms clean run.2 F
                    (calm_now mark start clean ms calm) job.number job name g.file runs kind g.in_effect
                    forged)
              ];
            })
        by_end (Get_ends.is_lost stripe row is next_is lost) =
            record {
              file = file;
              in_effect = in_effect;
              gives = inr (lost_by how stripe row event outcome is next_is);
            }

    gives : (how : Answer) → m.event ≡ Step job.number → m.outcome ≡ Ended how →
        GivesOrRose (begin_of start ms job) m.state name how
    gives how event outcome =
        record {
          file = file;
          in_effect = in_effect;
          gives = by_rose (some_rose (begin_of start ms job) here (setup_in (begin_of start ms job)).n);
        }
      where
        by_end : ((i : ℕ) → i < (setup_in (begin_of start ms job)).n →
            RoseSince (begin_of start ms job) here i → ⊥) →
            Get_ends here job (pinned_file (begin_of start ms job) file) how →
            how ≡ answer.Got ((begin_of start ms job).bytes file.id)
        by_end none (Get_ends.with_bytes bytes is) =
            cc (few_give limit start m ms job name clean run runs kind event file in_effect bytes (outcome
            ∙ ap Ended is) (λ stripe below. few none stripe below (λ i l. fetched_before_end here job name
            (pinned_file (begin_of start ms job) file) stripe i kind (event_end limit (length ms) here m.event
            m.outcome m.state job (answer.Got bytes) (λ h. h) event (outcome ∙ ap Ended is) runs run.1).0
            in_file (rw (← setup) at below) l)))
        by_end none (Get_ends.is_lost stripe row is next_is lost) =
            absurd (few_not_lost limit start m ms job name clean run runs kind event file in_effect stripe row
            (outcome ∙ ap Ended is) (few none stripe (in_stripes stripe (read_within here job name file.id
            stripe kind next_is)) (λ i l. fetched_before_work here job file.id stripe i next_is l)))

        by_rose : ((i : ℕ) × (i < (setup_in (begin_of start ms job)).n) × RoseSince (begin_of start ms job)
            here i) ⊎ ((i : ℕ) → i < (setup_in (begin_of start ms job)).n →
            RoseSince (begin_of start ms job) here i → ⊥) →
            (how ≡ answer.Got ((begin_of start ms job).bytes file.id)) ⊎ CountRose (begin_of start ms job)
            m.state
        by_rose (inl (i, l, rose)) = inr (inr (
          i,
          l,
          inr (rd.rose_on _ _ _ rose ((run_onward limit start m ms run).provider i).others),
        ))
        by_rose (inr none) = inl (by_end none (get_ends limit start m ms job name
            (pinned_file (begin_of start ms job) file) how lone run event outcome runs kind pinned))

  get_gives : (job : Job) (name : List ℕ) (how : Answer) → job_of here.jobs job.number ≡ Some job →
      job.kind ≡ GetJob name → m.event ≡ Step job.number → m.outcome ≡ Ended how →
      GivesOrRose (begin_of start ms job) m.state name how
  get_gives job name how runs kind event outcome =
      (let H = have_files limit start clean ms run.2 job.number job name runs kind in
      gives job name runs kind H.file H.in_effect H.pinned (setup_same here (begin_of start ms job) H.setup)
      how event outcome)

  -- a get that a step ends gave the bytes in effect at its begin, or is lost and a provider's count rose
  pub get_sharply : (job : Job) (name : List ℕ) (how : Answer) → job_of here.jobs job.number ≡ Some job →
      job.kind ≡ GetJob name → m.event ≡ Step job.number → m.outcome ≡ Ended how →
      GivesOrIsLost (begin_of start ms job) m.state name how
  get_sharply job name how runs kind event outcome =
      (let H = have_files limit start clean ms run.2 job.number job name runs kind in
      ends_sharply job name runs kind H.file H.in_effect H.pinned (setup_same here (begin_of start ms job)
      H.setup) how event outcome)

  by_job : (number : ℕ) (how : Answer) → m.event ≡ Step number → m.outcome ≡ Ended how →
      KeepsSecondHalf start ms (Step number) (Ended how) m.state
  by_job number how event outcome = go (job_of here.jobs number) refl
    where
      by_kind : (job : Job) → job_of here.jobs number ≡ Some job → (kd : Kind) → job.kind ≡ kd →
          EndsWell (begin_of start ms job) m.state (Some (record job { kind = kd })) how
      by_kind job runs (GetJob name) is = (let n = number_of here.jobs number job runs in
          get_gives job name how (cc) is (event ∙ ap Step (sym n)) outcome)
      by_kind job runs kd is = tt

      go : (found : Option Job) → job_of here.jobs number ≡ found →
          EndsWell (now start (first_moments (begun_of found) ms)) m.state found how
      go None is = tt
      go (Some job) is = by_kind job is job.kind refl

  keeps : (e : Event) (r : Outcome) → m.event ≡ e → m.outcome ≡ r → KeepsSecondHalf start ms e r m.state
  keeps (Step number) (Ended how) event outcome = by_job number how event outcome
  keeps (Begin (GetJob name)) (Refused why) event outcome =
      λ file h. begins_stored limit start m ms name file why clean run event outcome h
  keeps e r event outcome = tt

-- the second half, of every run that is calm by a mark
pub half_by_mark : (limit : ℕ) (mark : Mark) (start : State) → IsStart start → AllTell start →
    (ms : List Moment) → IsRun limit start ms → IsCalm relies mark ms → AreMarks mark start ms →
    SecondHalf start ms
half_by_mark limit mark start clean tell [] run calm marks = tt
half_by_mark limit mark start clean tell (m ∷ ms) run calm marks = (
  keeps limit mark start m ms clean run calm.1
      (marked_facts limit mark start clean tell ms run.2 calm.1 marks.1) m.event m.outcome refl refl,
  half_by_mark limit mark start clean tell ms run.2 calm.1 marks.1,
)

-- the second half holds of every calm run in which no audit missed damage
pub second_half : SecondHalfHolds
second_half limit start ms clean tell run calm scrubs missed = half_by_mark limit (since start) start clean
    tell ms run calm (are_marks limit start clean tell ms run calm scrubs missed)
