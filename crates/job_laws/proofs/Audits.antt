-- What an audit leaves whose job was the only one.
use Rattle.job_laws.proofs.Words.{◌≡◌, ℕ, ◌<◌, ◌≤◌, ◌⊎◌, List, [], ◌∷◌, ◌++◌, length, take, Option, None, Some, refl, ap, sym, subst, ◌∙◌, inl, inr, arith, slice_get, IfSome, option_map, flat_map, cases_lt, Each, each_get, each_append, each_map, each_mono, each_flat, each_take, upto, honest_answer, Sums, Judges, Held, Provider, rose-before, Setup, Record, AuditStart, AuditDone, File, next_audit, files_of, AuditJob, Given, Answered, Job, profiled, object_of, Action, WriteBody, Store, Fetch, Ask, Work, Remove, End, append_actions, ask_actions, rounds_of, actions_of, appends_left, Answer, challenge_in, HasSums, answer_given, answers_given, pinned_size, Entry, entries_of, State, Doubt, setup_in, ended, next_action, EndsAs, Question, files_by_number, questions, challenge_at, answer_heard, answer_entries, HearsRounds, JudgesOne, no_sums, CountsHeard, audit_records, AuditIsCut, AuditGives, AuditLeaves, RunsJob, Leaves, Ran, ran_from, object_at_begin, IsWhole, IsTruthful, valid-shape, audit_rest, audit-list, audit-first, audit-later, setup-valid, With, Made, object_made, IsOpenAtRest, MayName, RecordsAre, with_job_of, Walked, made-split, Wrote, wrote, runs, opened-sound, first-body}
use Rattle.std.proofs.Common.{map}
use Rattle.machine_defs.specs.Answers as answer
use Rattle.job_laws.proofs.Runs.{Ends, job-ends}
use Rattle.job_laws.proofs.Given.{answer-heard}
use Rattle.job_laws.proofs.Providers.{Called, each-upto, made-keeps}
use Rattle.job_laws.proofs.Heard.{AreDistinct, entries-made}
use Rattle.job_laws.proofs.Lasts.{Faults, NoRoom}
use Rattle.job_laws.proofs.Moving.{IsMove, IsUnmoved, moved-first, moved-second}
use Rattle.job_laws.proofs.Leaving.{counts-rise, others-stay}
use Rattle.job_laws.proofs.Endings.{move-ends, act-ends, first-doubted, Stand, two-stand, two-cut, end-left, end-sure, end-made}
use Rattle.job_laws.proofs.Asked.{pinned-by_number, asks_of, asks-questions, distinct-asks, entries-questions, each-by_number}
use Rattle.job_laws.proofs.Profiles.{made-numbered, numbered-file}
use Rattle.run_laws.proofs.Sums.{sums-one}
use Rattle.job_laws.proofs.Judged.{files-questions}
use Rattle.job_laws.proofs.Truth.{if-some, IsQuiet, asks-told}
use Rattle.job_laws.proofs.Questions.{each-in, held-sizes, each-both, all-each, each-question, sizes-pinned, Fits, told-questions, lacks-questions}

-- ---- the actions of an audit

-- an ask of one of n providers, a move of an append, or the end
abbrev pub IsAuditing : ℕ → Action → Type 0
IsAuditing n (Ask j object round) = j < n
IsAuditing n (Store j object stripe) = ⊥
IsAuditing n (Fetch j object stripe) = ⊥
IsAuditing n (Work object stripe) = ⊥
IsAuditing n (Remove j object) = ⊥
IsAuditing n action = Unit {0}

auditing-asks : (s : Setup) (job : Job) → Each (IsAuditing s.n) (ask_actions s job)
auditing-asks s job =
    each_flat (IsAuditing s.n) _ job.pinned (λ f. each_flat (IsAuditing s.n)
    (λ round. map (λ j. Ask j f.id round) (upto s.n)) (rounds_of (profiled s f.profile) (length f.bytes))
    (λ round. each-upto (IsAuditing s.n) (λ j. Ask j f.id round) 0 s.n (λ k l. omega (arith, l))))

-- ---- moves change nothing of providers

moves-still : (x : With) (old new : ℕ → Provider) (given now : List Given) →
    Made x append_actions old new given now → (new ≡ old) × (now ≡ given)
moves-still x old new given now (a, ga, da, (b, gb, db, (c, gc, dc, (d, gd, dd, last)))) =
    (last.0 ∙ (dd.0 ∙ (dc.0 ∙ (db.0 ∙ da.0))), last.1 ∙ (dd.1 ∙ (dc.1 ∙ (db.1 ∙ da.1))))

module _ (start : State) (O : IsOpenAtRest start 1) (w : State) (job : Job)
    (W : Walked start AuditJob w job) where
  abbrev s : Setup
  s = setup_in start

  abbrev x : With
  x = with_job_of start AuditJob job

  list-is : actions_of s job ≡ append_actions ++ audit_rest s job
  list-is = audit-list s job W.kind_is

  auditing-all : Each (IsAuditing s.n) (actions_of s job)
  auditing-all = rw list-is (each_append (IsAuditing s.n) append_actions (audit_rest s job)
      (tt, (tt, (tt, (tt, tt)))) (each_append (IsAuditing s.n) (ask_actions s job) (append_actions ++ End ∷ [])
      (auditing-asks s job) (tt, (tt, (tt, (tt, (tt, tt)))))))

  auditing-next : (action : Action) → next_action w job ≡ Some action → (action ≡ End → ⊥) →
      IsAuditing s.n action
  auditing-next action next n = each_get (IsAuditing s.n) (actions_of s job) job.place action auditing-all
      (cc)

  -- providers hold what they held, and were fetched from no more
  kept : (i : ℕ) → ((w.providers i).held ≡ (start.providers i).held) ×
      ((w.providers i).fetches ≡ (start.providers i).fetches)
  kept i = made-keeps x i (λ p q. (q.held ≡ p.held) × (q.fetches ≡ p.fetches)) (IsAuditing s.n)
      (λ p. (refl, refl)) (λ p q r a b. (b.0 ∙ a.0, b.1 ∙ a.1)) step (take job.place (actions_of s job))
      start.providers w.providers [] job.given
      (each_take (IsAuditing s.n) (actions_of s job) job.place auditing-all) W.made
    where
      step : (a : Action) (given now : List Given) (p q : Provider) → IsAuditing s.n a →
          Called x a given now i p q → (q.held ≡ p.held) × (q.fetches ≡ p.fetches)
      step (Ask j o r) given now p q u (e, (symbol, c, is)) = (c.held, c.counts.fetches)
      step (Store j o t) given now p q u c = absurd u
      step (Fetch j o t) given now p q u c = absurd u
      step (Work o t) given now p q u c = absurd u
      step (Remove j o) given now p q u c = absurd u
      step a given now p q u c = absurd c

  -- ---- an audit that a fault or want of memory ended

  abbrev number : ℕ
  number = next_audit start.records

  -- ---- an audit at a move of one of its appends

  unmoved-asks : Each IsUnmoved (ask_actions s job)
  unmoved-asks = each_flat IsUnmoved _ job.pinned
      (λ f. each_flat IsUnmoved (λ round. map (λ j. Ask j f.id round) (upto s.n))
      (rounds_of (profiled s f.profile) (length f.bytes))
      (λ round. each_map IsUnmoved (λ j. Ask j f.id round) (upto s.n) (λ j. (λ m. m))))

  module _ (action : Action) (next : next_action w job ≡ Some action) (n : action ≡ End → ⊥)
      (move : IsMove action) where
    here : slice_get (append_actions ++ (ask_actions s job ++ (append_actions ++ End ∷ []))) job.place
        ≡ Some action
    here = cc (ap (λ xs. slice_get xs job.place) (sym list-is))

    made-so-far : Made x (take job.place
        (append_actions ++ (ask_actions s job ++ (append_actions ++ End ∷ [])))) start.providers w.providers
        [] job.given
    made-so-far = rw list-is at W.made

    heard-none : appends_left (setup_in w) job ≡ 2 → job.given ≡ []
    heard-none two = elim (cases_lt job.place 4) [
      | inl l ↦ (moved-first x (ask_actions s job) (End ∷ []) job.place action move unmoved-asks
          ((λ m. m), tt) start.providers w.providers job.given here made-so-far l).1
      | inr l ↦ absurd (omega (arith, audit-later (setup_in w) job W.kind_is l, two))
    ]

    second : appends_left (setup_in w) job ≡ 1 → 4 ≤ job.place
    second one = elim (cases_lt job.place 4) [
      | inl l ↦ absurd (omega (arith, audit-first (setup_in w) job W.kind_is l, one))
      | inr l ↦ l
    ]

    asks-at : 4 ≤ job.place → Made x (ask_actions s job) start.providers w.providers [] job.given
    asks-at l = moved-second x (ask_actions s job) (End ∷ []) job.place action move unmoved-asks
        ((λ m. m), tt) start.providers w.providers job.given here made-so-far l

  -- ---- an audit that came to its end

  module _ (next : next_action w job ≡ Some End) where
    -- all actions but the end were made
    made-asks : Made x (ask_actions s job) start.providers w.providers [] job.given
    made-asks = (let a = made-split x append_actions (ask_actions s job ++ (append_actions ++ End ∷ []))
        start.providers w.providers [] job.given (subst (λ xs. Made x xs start.providers w.providers []
        job.given) list-is (end-made O W refl next)) in
        let b = made-split x (ask_actions s job) (append_actions ++ End ∷ []) a.0 w.providers a.1 job.given
        a.3 in let c = made-split x append_actions (End ∷ []) b.0 w.providers b.1 job.given b.3 in
        let first = moves-still x start.providers a.0 [] a.1 a.2 in
        let p : w.providers ≡ b.0 = cc in
        let g : job.given ≡ b.1 = cc in
        subst (λ f. Made x (ask_actions s job) f w.providers [] job.given) first.0
        (rw first.1 at (subst (λ f. Made x (ask_actions s job) a.0 f a.1 job.given) (sym p)
        (subst (λ h. Made x (ask_actions s job) a.0 b.0 a.1 h) (sym g) b.2))))

  -- ---- an audit that has made all its asks

  module _ (asks : Made x (ask_actions s job) start.providers w.providers [] job.given) where
    abbrev files : List File
    files = files_of start.records

    abbrev asked : List Question
    asked = questions s files

    asks-are : ask_actions s job ≡ asks_of s.n asked
    asks-are = asks-questions s start job files W.pinned (held-sizes start O)

    made-questions : Made x (asks_of s.n asked) start.providers w.providers [] job.given
    made-questions = subst (λ xs. Made x xs start.providers w.providers [] job.given) asks-are asks

    distinct-questions : AreDistinct (asks_of s.n asked)
    distinct-questions = rw asks-are at (distinct-asks s 0 job.pinned (W.sound.jobs job.number job
        (runs start O AuditJob w job W)).ascending)

    quiet-questions : Each IsQuiet (asks_of s.n asked)
    quiet-questions = subst (Each IsQuiet) asks-are
        (each_mono (IsAuditing s.n) IsQuiet (ask_actions s job) one (auditing-asks s job))
      where
        one : (y : Action) → IsAuditing s.n y → IsQuiet y
        one (Store j o t) u = absurd u
        one (Fetch j o t) u = absurd u
        one (Work o t) u = absurd u
        one (Remove j o) u = absurd u
        one y u = tt

    -- what it heard is an entry for each question and provider
    heard-entries : entries_of 1 job.given ≡ flat_map (λ (q : Question). map (λ j. record {
      job = 1;
      given = Answered j q.file.id q.round (answer_given job.given q.file.id q.round j);
    })
        (upto s.n)) asked
    heard-entries = entries-made 1 x (asks_of s.n asked) start.providers w.providers
        [] job.given distinct-questions made-questions ∙ entries-questions s.n 1 job.given asked

    abbrev heard_all : List Entry
    heard_all = entries_of 1 job.given

    -- in the words of the command
    module _ (new : State) (providers : new.providers ≡ w.providers) where
      abbrev ran : Ran
      ran = ran_from start new heard_all

      entries-are : ran.heard ≡ answer_entries ran
      unfolding setup_in
      entries-are = heard-entries
          ∙ (λ i. flat_map (λ (q : Question). map
          (λ j. record {
            job = 1;
            given = Answered j q.file.id q.round (sym (answer-heard 1 job.given q.file.id q.round j) i);
          }) (upto s.n)) asked)

      abbrev gave : ℕ → Question → Option ℕ
      gave j q = answer_heard ran q.file.id q.round j

      abbrev honest : Held → Question → Option ℕ
      honest held q = honest_answer (challenge_at ran job.subject q) (held q.file.id)

      -- the object that it asks of is the file's
      abbrev IsMade : File → Type 0
      IsMade f = object_made x f.id ≡ object_at_begin ran f

      files-made : Each IsMade files
      files-made = each-in IsMade files (λ f i. made-numbered start O AuditJob job ran refl refl f.id
          ∙ numbered-file ran O.rest.accepted f i)

      files-known : Each (λ (q : Question). (pinned_size x.pinned q.file.id ≡ q.file.size) × IsMade q.file)
          asked
      files-known = each-question s (λ (f : File). (pinned_size x.pinned f.id ≡ f.size) × IsMade f)
          (files_by_number files)
          (each-both (λ (f : File). pinned_size x.pinned f.id ≡ f.size) IsMade (files_by_number files)
          (rw (← (pinned-by_number start files)) at (sizes-pinned start (files_by_number files)
          (each-by_number (λ (f : File). length (start.bytes f.id) ≡ f.size) files (held-sizes start O))))
          (each-by_number IsMade files files-made))

      fits : (held : Held) (j : ℕ) (below : j < s.n) →
          Each (Fits x job.given held j s.n below (gave j) (honest held)) asked
      unfolding setup_in
      fits held j below = each_mono
          (λ (q : Question). (pinned_size x.pinned q.file.id ≡ q.file.size) × IsMade q.file)
          (Fits x job.given held j s.n below (gave j) (honest held)) asked
          (λ q e. (answer-heard 1 job.given q.file.id q.round j, cc)) files-known

      truth : (j : ℕ) → j < s.n →
          IfSome (start.providers j).held
          (λ held. IsTruthful (gave j) (honest held) asked (start.providers j).other_faults
          (new.providers j).other_faults)
      truth j below = if-some (start.providers j).held _ (λ held e.
          (let t = asks-told x j held job.given (asks_of s.n asked) start.providers w.providers
          [] quiet-questions distinct-questions made-questions e in
          let f = fits held j below in
          record {
            each = all-each (λ q. (gave j q ≡ honest held q) ⊎ (gave j q ≡ None)) asked
                (told-questions x job.given held j s.n below (gave j) (honest held) asked f t.0);
            few = λ l. (let same : (new.providers j).other_faults ≡ (w.providers j).other_faults = cc in omega (
              arith,
              t.1 (omega (arith, l, same)),
              lacks-questions x job.given held j s.n below (gave j) (honest held) asked f,
            ));
          }))

      hears : HearsRounds ran job.subject
      unfolding setup_in
      hears = record { heard = entries-are; truthful = truth }

      judged : (sums : Sums) → HasSums (setup_in w) job sums →
          CountsHeard ran job.subject sums.undecided sums.counts
      unfolding setup_in
      judged sums has = files-questions ran s start job one (files_by_number files) (no_sums ran) sums
          (each-by_number (λ (f : File). length (start.bytes f.id) ≡ f.size) files (held-sizes start O))
          (rw (W.pinned ∙ pinned-by_number start files) at (subst (λ (t : Setup). HasSums t job sums) W.setup
          has))
        where
          one : (q : Question) (old now : Sums) →
              Judges (object_of (profiled s q.file.profile) q.file.id)
              (challenge_in (profiled s q.file.profile) job q.file.id q.file.size q.round)
              (answers_given job.given s.n q.file.id q.round) old now → JudgesOne ran job.subject q old now
          one q old now h = subst (λ (g : ℕ → Option ℕ). Judges
              (object_of (profiled s q.file.profile) q.file.id)
              (challenge_in (profiled s q.file.profile) job q.file.id q.file.size q.round) (map g (upto s.n))
              old now) (λ i j. sym (answer-heard 1 job.given q.file.id q.round j) i) h

      whole : next_action w job ≡ Some End → (sums : Sums) → HasSums (setup_in w) job sums →
          new.records ≡ w.records → new.doubt ≡ w.doubt →
          IsWhole ran (audit_records start.records sums.undecided sums.counts)
      whole next sums has records doubt =
          record {
            after = records ∙ by_records w.records refl W.records;
            sure = cc (end-sure O W refl next);
          }
        where
          by_records : (rs : List Record) → w.records ≡ rs → RecordsAre start AuditJob job rs →
              w.records ≡ AuditDone number sums.undecided sums.counts ∷ AuditStart number ∷ start.records
          by_records rs e (RecordsAre.none l is) = absurd (omega (arith, end-left O W refl next, l))
          by_records rs e (RecordsAre.one l is) = absurd (omega (arith, end-left O W refl next, l))
          by_records rs e (RecordsAre.two entry l sec is) =
              cc (sums-one s job (valid-shape s (setup-valid 8 start (opened-sound start O) O.opened)) sec.0
              sums sec.1 (subst (λ (t : Setup). HasSums t job sums) W.setup has))

-- ---- all ends of an audit

module _ (start new : State) (how : Answer) (heard : List Entry) (O : IsOpenAtRest start 1)
    (E : Ends start AuditJob None how heard new) where
  abbrev w : State
  w = E.before

  abbrev job : Job
  job = E.job

  W : Walked start AuditJob E.before E.job
  W = E.walked

  -- what it heard
  heard-is : heard ≡ entries_of 1 E.job.given
  heard-is = cc

  -- what an audit leaves by its answer, and providers as they were
  abbrev Gives : Answer → Type 0
  Gives a = AuditGives (ran_from start new heard) a × (new.providers ≡ E.before.providers) ×
      (E.before.disk_faults ≤ new.disk_faults)

  -- the number that it drew
  drawn-number : E.action ≡ End → E.job.subject ≡ next_audit start.records
  drawn-number at = E.walked.subject ((first-body start O AuditJob E.before E.job E.walked E.action E.next
      (λ e. (let f : End ≡ WriteBody = sym at ∙ e in cc)) AuditJob refl).1 refl)

  audit-ends : (a : Answer) → E.action ≡ End → EndsAs E.before E.job AuditJob a → new ≡ ended E.before E.job →
      Gives a
  audit-ends a at so is = by_answer a so
    where
      next : next_action E.before E.job ≡ Some End
      next = cc

      providers : new.providers ≡ E.before.providers
      providers = cc

      asks : Made (with_job_of start AuditJob E.job)
          (ask_actions (setup_in start) E.job) start.providers E.before.providers [] E.job.given
      asks = made-asks start O E.before E.job E.walked next

      by_answer : (a : Answer) → EndsAs E.before E.job AuditJob a → Gives a
      by_answer (answer.Audited number undecided counts) (number_is, has) = (
        subst (λ h. AuditGives (ran_from start new h) (answer.Audited number undecided counts)) (sym heard-is) (
          number_is ∙ drawn-number at,
          whole start O E.before E.job E.walked asks new providers next
              (record { counts = counts; undecided = undecided }) has (ap (λ (v : State). v.records) is)
              (ap (λ (v : State). v.doubt) is),
          (rw (← number_is) at (hears start O E.before E.job E.walked asks new providers)),
          (rw (← number_is) at (judged start O E.before E.job E.walked asks new providers
              (record { counts = counts; undecided = undecided }) has)),
        ),
        providers,
        (omega (arith, ap (λ (v : State). v.disk_faults) is)),
      )
      by_answer a h = absurd h

  -- a move of an append failed
  module _ (action : Action) (at : E.action ≡ action) (n : action ≡ End → ⊥) (move : IsMove action)
      (F : Faults start O AuditJob E.before E.job E.walked new) where
    next-is : next_action E.before E.job ≡ Some action
    next-is = E.next ∙ ap Some at

    cut-first : appends_left (setup_in E.before) E.job ≡ 2 → E.before.records ≡ start.records →
        AuditIsCut (ran_from start new heard)
    cut-first two is = AuditIsCut.at_start (F.records
        ∙ is) (first-doubted O E.walked F (λ l. omega (arith, l, two))) (cc (heard-none start O E.before E.job
        E.walked action next-is n move two))

    module _ (one : appends_left (setup_in E.before) E.job ≡ 1) where
      asks : Made (with_job_of start AuditJob E.job)
          (ask_actions (setup_in start) E.job) start.providers E.before.providers [] E.job.given
      asks = asks-at start O E.before E.job E.walked action next-is n move
          (second start O E.before E.job E.walked action next-is n move one)

      number-is : E.job.subject ≡ next_audit start.records
      number-is = E.walked.subject (omega (
        arith,
        second start O E.before E.job E.walked action next-is n move one,
      ))

      heard-all : HearsRounds (ran_from start new heard) (next_audit start.records)
      heard-all = rw (← heard-is) at (subst (HearsRounds (ran_from start new (entries_of 1 E.job.given)))
          number-is (hears start O E.before E.job E.walked asks new F.providers))

      counted-all : (sums : Sums) → HasSums (setup_in start) E.job sums →
          CountsHeard (ran_from start new heard) (next_audit start.records) sums.undecided sums.counts
      counted-all sums has =
          rw (← heard-is) at (subst (λ k. CountsHeard (ran_from start new (entries_of 1 E.job.given)) k
          sums.undecided sums.counts) number-is (judged start O E.before E.job E.walked asks new
          F.providers sums (subst (λ (t : Setup). HasSums t E.job sums) (sym E.walked.setup) has)))

      cut-second : E.before.records ≡ AuditStart (next_audit start.records) ∷ start.records →
          AuditIsCut (ran_from start new heard)
      cut-second is = elim F.doubt [
        | inl none ↦ AuditIsCut.before_done (F.records ∙ is)
            (ap (option_map (λ (d : Doubt). d.entry)) none) heard-all
        | inr (d, in_doubt, writes) ↦
            elim (wrote start O AuditJob E.before E.job E.walked d.entry F.left writes) [
              | Wrote.first l same entry ↦ absurd (omega (arith, l, one))
              | Wrote.second l same sec ↦ (let sums : Sums = sec.0 in
                  AuditIsCut.at_done sums.undecided sums.counts (F.records ∙ is)
                  (ap (option_map (λ (z : Doubt). z.entry)) in_doubt ∙ ap Some sec.2) heard-all
                  (counted-all sums sec.1))
            ]
      ]

    faulted : Gives answer.DiskFault
    faulted = (
      (
        rose-before start.disk_faults E.before.disk_faults new.disk_faults E.walked.disk F.low F.rose,
        elim (two-stand O E.walked refl F.left) [
          | Stand.at_first l is ↦ cut-first l is
          | Stand.at_second l is ↦ cut-second l is
        ],
      ),
      F.providers,
      F.low,
    )

  no-room : NoRoom start O AuditJob E.before E.job E.walked new → Gives answer.Memory
  no-room N = (
    (
      0,
      [],
      two-cut O E.walked refl new heard (AuditDone (next_audit start.records) 0 []) N.left N.records N.doubt,
    ),
    N.providers,
    N.low,
  )

  -- an audit gives what its answer says, and calls no provider in its last step
  pub gives : Gives how
  gives = act-ends E Gives (audit-ends how) (λ action at move tail h. move-ends O E Gives action at
      (λ failed F. faulted action at (λ e. subst IsMove e move) move F) no-room h)
      (λ j o t at h. absurd (auditing-next start O E.before E.job E.walked (Store j o t) (E.next ∙ ap Some at)
      (λ e. cc))) (λ o t at h. absurd (auditing-next start O E.before E.job E.walked (Work o t)
      (E.next ∙ ap Some at) (λ e. cc)))

  audit-leaves : AuditLeaves (ran_from start new heard) how
  unfolding setup_in
  audit-leaves = record {
    gives = gives.0;
    held = λ j l. ap (λ (g : ℕ → Provider). (g j).held) gives.1 ∙ (kept start O E.before E.job E.walked j).0;
    fetches = λ j l. ap (λ (g : ℕ → Provider). (g j).fetches) gives.1
        ∙ (kept start O E.before E.job E.walked j).1;
  }

-- an audit leaves its records, what it heard and its counts, and providers hold what they held
pub audits-leave : (start new : State) (moment : ℕ) (how : Answer) (heard : List Entry) →
    IsOpenAtRest start 1 → RunsJob start moment AuditJob None how heard new →
    Leaves (ran_from start new heard) AuditJob None how
unfolding setup_in
audits-leave start new moment how heard O r =
    (let E = job-ends start new moment AuditJob None how heard O tt (MayName.none refl) r in
    record {
      by_kind = audit-leaves start new how heard O E;
      counts = counts-rise start new AuditJob None how heard O E;
      others = others-stay start new AuditJob None how heard O E;
    })
