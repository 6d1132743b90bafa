-- The stripe at hand of a stream, over begins and steps of jobs.
use Rattle.vault.proofs.Words.{◌≡◌, ℕ, zero, suc, ◌+◌, ◌*◌, ◌<◌, cond, List, [], ◌∷◌, ◌++◌, Option, Some, None, ◌⊎◌, refl, sym, ap, subst, ◌∙◌, inl, inr, arith, slice_get, slice_set, nat_lt, remove, option_map, cases_Bool, eqb-true, eq-eqb, ne_eqb, ltb-true, ltb-false, none-some, get-set_there, Setup, Kind, PutJob, Job, job_of, with_job, without_job, State, setup_in, cond_true, cond_false, same_value, found_with, found_without, found_more, AreNumbered, numbered-below, CoreIs, CoreJob, CoreView, job_in, told_by, told_in, wanted_at, wanted_by, wants_in, pair_some, Running, Task, task_of, hand_of, IsOn, HasGiven, HasLast, HasAtHand, AreAtHand, KeepsStreams, IsTask, AreRunning}
use Rattle.std.proofs.Common.{◌==◌}
use Rattle.machine_defs.specs.Actions.{Action}
use Rattle.vault.specs.declared.tasks.Task.TheVariants as task
use Rattle.vault.proofs.CoreJobs.{core_of}
use Rattle.vault.proofs.JobPlaces.{at_number, before, found}

-- ---- tasks by their numbers

-- the job at the place of a number has the number
pub number_at : (rs : List Running) (k p : ℕ) (r : Running) → at_number rs k ≡ Some p
    → slice_get rs p ≡ Some r → r.number ≡ k
number_at [] k p r at there = absurd (none-some p at)
number_at (x ∷ rs) k p r at there = elim (cases_Bool (x.number == k)) [
  | inl t ↦ (
      let same = same_value _ x r (ap (slice_get (x ∷ rs)) (sym (same_value _ 0 p
      (cond_true (x.number == k) (Some 0) (option_map suc (at_number rs k)) t) at))) there in
      (rw same at (eqb-true x.number k t)))
  | inr f ↦ (
      let behind = before (at_number rs k) p
      (sym (cond_false (x.number == k) (Some 0) (option_map suc (at_number rs k)) f) ∙ at) in
      number_at rs k behind.0 r behind.1 (ap (slice_get (x ∷ rs)) (sym behind.2) ∙ there))
]

-- and what it works with is that of the number
pub task_at : (rs : List Running) (k p : ℕ) (r : Running) → at_number rs k ≡ Some p
    → slice_get rs p ≡ Some r → task_of rs k ≡ Some r.task
task_at [] k p r at there = absurd (none-some p at)
task_at (x ∷ rs) k p r at there = elim (cases_Bool (x.number == k)) [
  | inl t ↦ (
      let same = same_value _ x r (ap (slice_get (x ∷ rs)) (sym (same_value _ 0 p
      (cond_true (x.number == k) (Some 0) (option_map suc (at_number rs k)) t) at))) there in
      cond_true (x.number == k) (Some x.task) (task_of rs k) t ∙ ap (λ y. Some y.task) same)
  | inr f ↦ (
      let behind = before (at_number rs k) p
      (sym (cond_false (x.number == k) (Some 0) (option_map suc (at_number rs k)) f) ∙ at) in
      cond_false (x.number == k) (Some x.task) (task_of rs k) f
      ∙ task_at rs k behind.0 r behind.1 (ap (slice_get (x ∷ rs)) (sym behind.2) ∙ there))
]

-- that of another number stays where one is set
pub task_set : (rs : List Running) (p m : ℕ) (r r' : Running) → slice_get rs p ≡ Some r → r'.number ≡ r.number
    → (r.number ≡ m → ⊥) → task_of (slice_set rs p r') m ≡ task_of rs m
task_set [] p m r r' there same other = refl
task_set (x ∷ rs) zero m r r' there same other =
    let one : x ≡ r = (let e : Some x ≡ Some r = there in cc) in
    cond_false (r'.number == m) (Some r'.task) (task_of rs m)
    (ne_eqb r'.number m (λ e. other (sym same ∙ e)))
    ∙ sym (cond_false (x.number == m) (Some x.task) (task_of rs m)
    (ne_eqb x.number m (λ e. other (ap (λ (y : Running). y.number) (sym one) ∙ e))))
task_set (x ∷ rs) (suc p) m r r' there same other =
    ap (λ (o : Option Task). cond (x.number == m) (Some x.task) o) (task_set rs p m r r' there same other)

-- and where one is removed
task_removed : (rs : List Running) (p m : ℕ) (r : Running) → slice_get rs p ≡ Some r
    → (r.number ≡ m → ⊥) → task_of (remove rs p) m ≡ task_of rs m
task_removed [] p m r there other = absurd (none-some r there)
task_removed (x ∷ rs) zero m r there other =
    let one : x ≡ r = (let e : Some x ≡ Some r = there in cc) in
    sym (cond_false (x.number == m) (Some x.task) (task_of rs m)
    (ne_eqb x.number m (λ e. other (ap (λ (y : Running). y.number) (sym one) ∙ e))))
task_removed (x ∷ rs) (suc p) m r there other =
    ap (λ (o : Option Task). cond (x.number == m) (Some x.task) o) (task_removed rs p m r there other)

-- a number among one job more is one of the jobs before, or of that job
task_pushed : (rs : List Running) (r : Running) (m : ℕ) (t : Task) → task_of (rs ++ r ∷ []) m ≡ Some t
    → (task_of rs m ≡ Some t) ⊎ ((task_of rs m ≡ None) × (t ≡ r.task))
task_pushed [] r m t is = elim (cases_Bool (r.number == m)) [
  | inl y ↦ inr (refl, same_value _ t r.task is (cond_true (r.number == m) (Some r.task) None y))
  | inr n ↦ absurd (none-some t (sym (cond_false (r.number == m) (Some r.task) None n) ∙ is))
]
task_pushed (x ∷ rs) r m t is = elim (cases_Bool (x.number == m)) [
  | inl y ↦ inl (cond_true (x.number == m) (Some x.task) (task_of rs m) y
      ∙ sym (cond_true (x.number == m) (Some x.task) (task_of (rs ++ r ∷ []) m) y) ∙ is)
  | inr n ↦ elim (task_pushed rs r m t
      (sym (cond_false (x.number == m) (Some x.task) (task_of (rs ++ r ∷ []) m) n) ∙ is)) [
        | inl h ↦ inl (cond_false (x.number == m) (Some x.task) (task_of rs m) n ∙ h)
        | inr h ↦ inr (cond_false (x.number == m) (Some x.task) (task_of rs m) n ∙ h.0, h.1)
      ]
]

-- a job that runs in the machine works with something, and no other number does
task_there : (s : Setup) (rs : List Running) (js : List Job) (k : ℕ) (j : Job) → AreRunning s rs js
    → job_of js k ≡ Some j → task_of rs k ≡ None → ⊥
task_there s rs js k j are runs none =
    let f = found s rs js k j are runs in
    absurd (none-some f.running.task (sym none ∙ task_at rs k f.place f.running f.at f.there))

task_none : (s : Setup) (rs : List Running) (js : List Job) (k : ℕ) (t : Task) → AreRunning s rs js
    → task_of rs k ≡ Some t → (j : Job) × (job_of js k ≡ Some j)
task_none s [] [] k t are is = absurd (none-some t is)
task_none s (r ∷ rs) (j ∷ js) k t are is = elim (cases_Bool (r.number == k)) [
  | inl y ↦ (j, cond_true (j.number == k) (Some j) (job_of js k) (ap (λ n. n == k) (sym are.0.number) ∙ y))
  | inr n ↦ (
      let more = task_none s rs js k t are.1
      (sym (cond_false (r.number == k) (Some r.task) (task_of rs k) n) ∙ is) in (
        more.0,
        cond_false (j.number == k) (Some j) (job_of js k) (ap (λ m. m == k) (sym are.0.number) ∙ n) ∙ more.1,
      ))
]
task_none s _ _ k t are is = absurd are

-- ---- what a core was told

-- a core that was not told of its streams is told what it was before
pub keeps_same : (c : CoreView) → KeepsStreams c c
keeps_same c =
    record { setup = refl; none = λ h. h; told = λ number j is. ap told_by (sym is) }

-- a job that runs was told what it was before
pub told_same : (c c' : CoreView) (new : State) (k : ℕ) (j : Job) → CoreIs c' new → KeepsStreams c c'
    → job_of new.jobs k ≡ Some j → told_in c'.jobs k ≡ told_in c.jobs k
told_same c c' new k j is keeps runs =
    let o = core_of c'.setup c'.jobs new.jobs k j is.jobs runs in
    ap told_by o.runs ∙ keeps.told k o.job o.runs

-- a job whose next action comes waits for no stripe
pub waits_not : (c : CoreView) (w : State) (k : ℕ) (j : Job) → CoreIs c w → job_of w.jobs k ≡ Some j
    → wants_in c k ≡ None → wanted_at (setup_in w) j.place (told_in c.jobs k) ≡ None
waits_not c w k j is runs wants =
    let o = core_of c.setup c.jobs w.jobs k j is.jobs runs in
    (λ i. wanted_at (sym is.setup i) (sym o.is.place i) (ap told_by o.runs i))
    ∙ ap (wanted_by c.setup) (sym o.runs) ∙ wants

-- a number that the core was told of is that of a job that runs
pub told_runs : (c : CoreView) (w : State) (k stripes : ℕ) → CoreIs c w → told_in c.jobs k ≡ Some stripes
    → (j : Job) × (job_of w.jobs k ≡ Some j)
told_runs c w k stripes is told = by_job (job_in c.jobs k) refl told
  where
    by_job : (o : Option CoreJob) → job_in c.jobs k ≡ o → told_by o ≡ Some stripes
        → (j : Job) × (job_of w.jobs k ≡ Some j)
    by_job None found_is told = absurd (none-some stripes told)
    by_job (Some j) found_is told =
        let p = pair_some c.setup c.jobs w.jobs k j is.jobs found_is in (p.job, p.runs)

-- so it is below the next number
pub told_below : (c : CoreView) (w : State) (k stripes : ℕ) → CoreIs c w → told_in c.jobs k ≡ Some stripes
    → k < w.next_job
told_below c w k stripes is told =
    let j = told_runs c w k stripes is told in
    numbered-below 0 w.jobs w.next_job k j.0 is.sound.numbered j.1

-- ---- one job

-- an open stream that does not wait is before the place where it does
pub before_wait : (s : Setup) (stripes : ℕ) (hand : Option ℕ) (job : Job) →
    wanted_at s job.place (Some stripes) ≡ None → HasGiven s stripes hand job → job.place < 4 + stripes * s.n
before_wait s stripes hand job wants is = elim (cases_Bool (nat_lt job.place (4 + stripes * s.n))) [
  | inl t ↦ ltb-true job.place (4 + stripes * s.n) t
  | inr f ↦ (
      let most = ltb-false job.place (4 + stripes * s.n) f in
      let least = is.within in
      absurd (none-some stripes (sym wants
      ∙ cond_true (job.place == 4 + stripes * s.n) (Some stripes) None
      (eq-eqb job.place (4 + stripes * s.n) (omega (arith, most, least))))))
]

-- a stream that does not wait goes on with what it has at hand
module _ (s : Setup) (job next : Job) (place : next.place ≡ job.place + 1) (kind : next.kind ≡ job.kind)
    (profile : next.profile ≡ job.profile) where
  on_further : (stripe : ℕ) (hand : Option ℕ) → IsOn s stripe hand job → IsOn s stripe hand next
  on_further stripe hand on = (on.0, (let p = on.1 in omega (arith, p, place)))

  last_on : (hand : Option ℕ) (k : Kind) → HasLast s hand job k → HasLast s hand next k
  last_on hand (PutJob name bytes) (stripe, on, few) = (
    stripe,
    on_further stripe hand on,
    (rw (← profile) at few),
  )
  last_on hand _ is = absurd is

  given_on : (stripes : ℕ) (hand : Option ℕ) → wanted_at s job.place (Some stripes) ≡ None
      → HasGiven s stripes hand job → HasGiven s stripes hand next
  given_on stripes hand wants is = record {
    within = (let l = before_wait s stripes hand job wants is in omega (arith, l, place));
    last = λ stripe e. on_further stripe hand (is.last stripe e);
  }

  pub hand_on : (told : Option ℕ) (hand : Option (Option ℕ)) → wanted_at s job.place told ≡ None
      → HasAtHand s told hand job → HasAtHand s told hand next
  hand_on told None wants is = is
  hand_on None (Some hand) wants is = subst (HasLast s hand next) (sym kind) (last_on hand job.kind is)
  hand_on (Some stripes) (Some hand) wants is = given_on stripes hand wants is

-- a job that is no put has no stripe at hand
pub no_hand : (s : Setup) (job : Job) (rest : List Action) (t : Task)
    → ((name bytes : List ℕ) → job.kind ≡ PutJob name bytes → ⊥) → IsTask s job rest t → hand_of t ≡ None
no_hand s job rest (task.Stream t) other is = absurd (other is.name is.bytes is.kind)
no_hand s job rest _ other is = refl

-- ---- all jobs

-- what is at hand, read of another number, task and job
moved : (s : Setup) (a b : Option ℕ) (t u : Task) (i j : Job) → a ≡ b → t ≡ u → i ≡ j
    → HasAtHand s a (hand_of t) i → HasAtHand s b (hand_of u) j
moved s a b t u i j told same job is = subst (λ x. HasAtHand s b (hand_of u) x) job
    (rw same at (subst (λ (x : Option ℕ). HasAtHand s x (hand_of t) i) told is))

module _ (s : Setup) (c c' : CoreView) (rs : List Running) (js : List Job)
    (are : AreAtHand s c.jobs rs js) (new : State) (core : CoreIs c' new) (keeps : KeepsStreams c c') where
  -- one of them goes on
  pub hands_with : (k p : ℕ) (r r' : Running) (j j' : Job) → at_number rs k ≡ Some p
      → slice_get rs p ≡ Some r → r'.number ≡ r.number → job_of js k ≡ Some j → j'.number ≡ k
      → (HasAtHand s (told_in c.jobs k) (hand_of r.task) j
      → HasAtHand s (told_in c.jobs k) (hand_of r'.task) j')
      → at_number (slice_set rs p r') k ≡ at_number rs k
      → new.jobs ≡ with_job js j' → AreAtHand s c'.jobs (slice_set rs p r') new.jobs
  hands_with k p r r' j j' at there number runs mine goes at_same jobs m t job tasks runs' =
      let told = told_same c c' new m job core keeps runs' in
      elim (found_with js j' m job (ap (λ l. job_of l m) (sym jobs) ∙ runs')) [
        | inl h ↦ (
            let m_is : m ≡ k = h.0 ∙ mine in
            moved s (told_in c.jobs k) (told_in c'.jobs m) r'.task t j' job
            (ap (told_in c.jobs) (sym m_is) ∙ sym told)
            (same_value _ r'.task t (task_at (slice_set rs p r') k p r' (at_same ∙ at)
            (get-set_there rs p r r' there)) (ap (task_of (slice_set rs p r')) (sym m_is) ∙ tasks))
            (sym h.1)
            (goes (are k r.task j (task_at rs k p r at there) runs)))
        | inr h ↦ (
            moved s (told_in c.jobs m) (told_in c'.jobs m) t t job job (sym told) refl refl
            (are m t job (sym (task_set rs p m r r' there number (λ e. h.0
            (sym e ∙ number_at rs k p r at there ∙ sym mine))) ∙ tasks) h.1))
      ]

  -- one of them ends
  pub hands_without : (k p : ℕ) (r : Running) → at_number rs k ≡ Some p → slice_get rs p ≡ Some r
      → (rs' : List Running) → rs' ≡ remove rs p → new.jobs ≡ without_job js k
      → AreAtHand s c'.jobs rs' new.jobs
  hands_without k p r at there rs' removed jobs m t job tasks runs =
      let told = told_same c c' new m job core keeps runs in
      let h = found_without js k m job (ap (λ (l : List Job). job_of l m) (sym jobs) ∙ runs) in
      let other : r.number ≡ m → ⊥ = (λ e. h.0 (sym e ∙ number_at rs k p r at there)) in
      moved s (told_in c.jobs m) (told_in c'.jobs m) t t job job (sym told) refl refl
      (are m t job (sym (task_removed rs p m r there other)
      ∙ ap (λ (l : List Running). task_of l m) (sym removed) ∙ tasks) h.1)

-- one more begins, under a number that no job has
pub hands_more : (s : Setup) (cs cs' : List CoreJob) (rs : List Running) (js : List Job) (r : Running)
    (j : Job) (next : ℕ) → AreRunning s rs js → AreNumbered 0 js next → j.number ≡ next
    → ((m : ℕ) → (m ≡ next → ⊥) → told_in cs' m ≡ told_in cs m)
    → HasAtHand s (told_in cs' next) (hand_of r.task) j → AreAtHand s cs rs js
    → AreAtHand s cs' (rs ++ r ∷ []) (js ++ j ∷ [])
hands_more s cs cs' rs js r j next running numbered mine others is are m t job tasks runs =
    elim (found_more js j m job runs) [
      | inl h ↦ (
          let m_is : m ≡ next = h.0 ∙ mine in
          elim (task_pushed rs r m t tasks) [
            | inl a ↦ (
                let o = task_none s rs js m t running a in
                absurd (let l = numbered-below 0 js next m o.0 numbered o.1 in omega (arith, l, m_is)))
            | inr b ↦ moved s (told_in cs' next) (told_in cs' m) r.task t j job
                (ap (told_in cs') (sym m_is)) (sym b.1) (sym h.1) is
          ])
      | inr h ↦ (
          let other : m ≡ next → ⊥ =
          (λ e. let l = numbered-below 0 js next m job numbered h in omega (arith, l, e)) in
          elim (task_pushed rs r m t tasks) [
            | inl a ↦ moved s (told_in cs m) (told_in cs' m) t t job job (sym (others m other)) refl refl
                (are m t job a h)
            | inr b ↦ absurd (task_there s rs js m job running h b.0)
          ])
    ]
