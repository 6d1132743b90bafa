-- What a core and a vault tell of an ask, and the ask as a step of the machine.
use Rattle.vault.proofs.Words.{◌≡◌, ℕ, zero, suc, ◌+◌, ◌-◌, ◌*◌, ◌/◌, ◌<◌, ◌≤◌, ◌^◌, Bool, true, false, cond, List, [], ◌∷◌, ◌++◌, take, drop, map, Option, Some, None, refl, sym, ap, subst, ◌∙◌, inl, inr, arith, slice_get, slice_set, nat_lt, list_all, Contains, mul-le-mul_right, cases_eq, eq-eqb, ne_eqb, eqb-true, and_parts, false≢true, lt-ltb, append-nil, sum_by-cons, Each, each_middle, profile_of, challenge_of, honest_answer, stripes, Cells, Provider, Asks, Setup, Plan, WriteBody, End, actions_of, actions_by, actions_left, append_actions, ask_actions, challenge_in, asked_challenge, HasSums, More, pinned_size, pinned_profile, Kind, AuditJob, Answered, Job, job_of, advanced_with, profiled, object_of, State, setup_in, going_on, with_provider, cond_true, cond_false, number_of, same_value, found_itself, counted, ShapeValue, next-left, get-drop, setup-rounds, setup-valid, moves_made, IsPadded, Counts, IsJobOf, ComesNext, pin_of, is_last_ask, is_last_ask_of, next_in, HasReply, TakesReply, Tells, CoreJob, CoreView, job_in, PinnedValue, Reply, Question, AuditTask, Running, Task, Desk, pin_of_job, pin_in, profile_or, IsAuditNumber, IsQuestion, challenge_put, sums_on, TakesAsk, HasJudged, CanAsk, Asked, MayAsk, TellsAsk, MayTell, MayPut, vault_object, AreHanded, devices, is_ask, Round, rounds_in, asked_after, AsksOn, place_in, KeepsAll, IsFed, DeskStands, Comes, DeskMakesStep, IsTask, IsRunning, IsAudit, empty_sums, asks_ask, hand_of, setup_same}
use Rattle.std.proofs.Common.{◌==◌, ◌&&◌, length}
use Rattle.machine_defs.specs.Actions.{Action, Ask}
use Rattle.machine_defs.specs.Jobs.{Pinned}
use Rattle.file_layout.specs.Files as layout
use Rattle.state_laws.specs.SoundJobs.{IsSoundJob}
use Rattle.vault_core.specs.Coming.{Acts}
use Rattle.vault_core.proofs.Links.{rest-is}
use Rattle.vault_core.specs.declared.reply.Reply.TheVariants as reply
use Rattle.vault.specs.declared.tasks.Task.TheVariants as task
use Rattle.vault.specs.declared.turn.Turn.TheVariants as turn
use Rattle.vault.proofs.Allowed.{IsAllowed, next_allowed}
use Rattle.vault.proofs.Asks.{Rising, IsRound, rounds_rise, each_round, sizes_found, contains_each, few_rounds, enough_answers, sums_within, as_files, behind_last}
use Rattle.vault.proofs.AskStep.{IsNext, IsPut, next_round, audit_kept, audit_judged, zero_all}
use Rattle.vault.proofs.Fetched.{after}
use Rattle.vault.proofs.Limits.{setup-picks}
use Rattle.vault.proofs.Pins.{pin_by_id, among_is, pins_found, profile_found, core_job}
use Rattle.vault.proofs.Ways.{actions_same, handed_on, goes_on, at_place, working}
use Rattle.vault.proofs.CoreJobs.{shown_subject, shown_pins, audit_untold}

-- ---- numbers

profile_some : (n : ℕ) → 1 ≤ (profile_of n).size
profile_some (suc (suc (suc (suc more)))) = omega arith
profile_some _ = omega arith

times_some : (a b : ℕ) → 1 ≤ a → 1 ≤ b → 1 ≤ a * b
times_some a b x y = (let m = mul-le-mul_right b x in omega (arith, m, y))

all_small : (limit m : ℕ) → m < limit → (n : ℕ) (xs : List ℕ) → Each (λ count. count ≤ m) (take n xs) →
    list_all (λ count. count == 0) (drop n xs) ≡ true → list_all (λ count. nat_lt count limit) xs ≡ true
all_small limit m l zero (x ∷ xs) each zeros =
    let p = and_parts (x == 0) (list_all (λ count. count == 0) xs) zeros in
    let small : x < limit = omega (arith, eqb-true x 0 p.0, l) in
    λ i. lt-ltb x limit small i && all_small limit m l zero xs each p.1 i
all_small limit m l (suc n) (x ∷ xs) each zeros =
    λ i. lt-ltb x limit (omega (arith, each.0, l)) i && all_small limit m l n xs each.1 zeros i
all_small limit m l _ [] each zeros = refl

-- ---- an ask of an audit

-- an audit asks behind its first append
asks_late : (s : Setup) (job : Job) (k o r : ℕ) (asks : List Action) →
    slice_get (append_actions ++ asks) job.place ≡ Some (Ask k o r) → 4 ≤ job.place
asks_late s job k o r asks is = by_place job.place is
  where
    by_place : (n : ℕ) → slice_get (append_actions ++ asks) n ≡ Some (Ask k o r) → 4 ≤ n
    by_place (suc (suc (suc (suc n)))) e = omega arith
    by_place _ e = (let f : ⊥ = cc in absurd f)

starts_append : (k o r : ℕ) (rest : List Action) → is_last_ask (Ask k o r ∷ rest) ≡ true →
    (more : List Action) × (rest ≡ WriteBody ∷ more)
starts_append k o r (WriteBody ∷ more) h = (more, refl)
starts_append k o r _ h = absurd (false≢true h)

late_by : (s : Setup) (job : Job) (k o r : ℕ) (rest : List Action) → job.kind ≡ AuditJob →
    actions_left s job ≡ Ask k o r ∷ rest → 4 ≤ job.place
unfolding actions_of
late_by s job k o r rest kind left = asks_late s job k o r (ask_actions s job ++ (append_actions ++ End ∷ []))
    (sym (get-drop (append_actions ++ (ask_actions s job ++ (append_actions ++ End ∷ []))) job.place)
    ∙ ap (λ l. slice_get l 0) (sym (ap (drop job.place) (ap (actions_by s job) kind)) ∙ left))

last_tail : (s : Setup) (job : Job) (k o r : ℕ) (more : List Action) → job.kind ≡ AuditJob →
    actions_left s job ≡ Ask k o r ∷ WriteBody ∷ more →
    drop (suc job.place) (actions_of s job) ≡ append_actions ++ End ∷ []
unfolding actions_of
last_tail s job k o r more kind left =
    let is = ap (actions_by s job) kind in
    ap (drop (suc job.place)) is
    ∙ behind_last (ask_actions s job) (asks_ask s job) job.place k o r more
    (sym (ap (drop job.place) is) ∙ left)

none_left : (n : ℕ) (xs : List Round) (c : ℕ) → AsksOn n xs c (append_actions ++ End ∷ []) → xs ≡ []
none_left n [] c h = refl
none_left n (x ∷ xs) c h = h.0

abbrev AsksAt : Setup → Job → List Action → ℕ → ℕ → ℕ → Task → Type 0
AsksAt s job tail k o r t = (a : AuditTask) × (t ≡ task.Audit a) × IsAudit s a job (Ask k o r ∷ tail)

audit_of : (s : Setup) (job : Job) (tail : List Action) (k o r : ℕ) → IsAllowed s.n job.kind (Ask k o r) →
    (t : Task) → IsTask s job (Ask k o r ∷ tail) t → AsksAt s job tail k o r t
audit_of s job tail k o r allowed (task.Audit t) is = (t, refl, is)
audit_of s job tail k o r allowed task.Upgrade is = absurd (rw is at allowed)
audit_of s job tail k o r allowed _ is = absurd (subst (λ (x : Kind). IsAllowed s.n x (Ask k o r)) is.kind
    allowed)

-- what is known of a job whose next action is an ask
record IsAsking (v : Desk) (w : State) (number k o r : ℕ) : Type 0 where
  next : ComesNext w number (Ask k o r) None
  left_is : actions_left (setup_in w) next.job ≡ Ask k o r ∷ after w next.job
  sound_job : IsSoundJob (setup_in w) w.records w.bytes (moves_made w.append number) next.job
  in_core : (c : CoreJob) × (job_in v.core.jobs number ≡ Some c) × IsJobOf v.core.setup c next.job
  setup_is : v.core.setup ≡ setup_in w
  n_is : v.shape.n ≡ (setup_in w).n
  l_is : v.shape.l ≡ (setup_in w).l
  b_is : v.shape.b ≡ (setup_in w).b
  picks_are : v.setup.picks ≡ (setup_in w).picks
  picks_fit : (1 ≤ (setup_in w).picks) × ((setup_in w).picks ≤ 64)
  master_is : v.master.0 ≡ (setup_in w).master
  rounds_are : (setup_in w).rounds ≤ 64
  rising : Rising 0 0 (rounds_in (setup_in w) next.job.pinned)

asking : (v : Desk) (w : State) (holds : Option Cells) (faults number k o r : ℕ) (ps : List Provider) →
    DeskStands v (devices holds faults ps) w → Comes v.core number (Ask k o r) → IsAsking v w number k o r
asking v w holds faults number k o r ps stands comes =
    let next = comes.machine w stands.core in
    let sound_job = stands.core.sound.jobs number next.job next.runs in
    record {
      next = next;
      left_is = next-left w next.job (Ask k o r) next.comes (λ e. absurd (let f : ⊥ = cc in f));
      sound_job = sound_job;
      in_core = core_job v.core.setup v.core.jobs w.jobs number next.job stands.core.jobs next.runs;
      setup_is = stands.core.setup;
      n_is = stands.shaped.n ∙ sym (ap (λ (s : Setup). s.n) stands.setup);
      l_is = stands.shaped.l ∙ sym (ap (λ (s : Setup). s.l) stands.setup);
      b_is = stands.shaped.b ∙ sym (ap (λ (s : Setup). s.b) stands.setup);
      picks_are = sym (ap (λ (s : Setup). s.picks) stands.setup);
      picks_fit = setup-picks (setup_in w) (setup-valid 8 w stands.core.sound stands.core.is_open);
      master_is = sym (ap (λ (s : Setup). s.master) stands.setup);
      rounds_are = setup-rounds 8 w stands.core.sound stands.core.is_open;
      rising = rounds_rise (setup_in w) 0 next.job.pinned sound_job.ascending;
    }

-- it works with an audit
audit_in : (v : Desk) (w : State) (number k o r : ℕ) (it : IsAsking v w number k o r) → (x : Running) →
    IsRunning (setup_in w) x it.next.job → AsksAt (setup_in w) it.next.job (after w it.next.job) k o r x.task
audit_in v w number k o r it x running = audit_of (setup_in w) it.next.job (after w it.next.job) k o r
    (next_allowed w it.next.job (Ask k o r) it.next.comes) x.task (rw it.left_is at running.task)

module _ (v : Desk) (w : State) (number k o r : ℕ) (it : IsAsking v w number k o r) (t : AuditTask)
    (is : IsAudit (setup_in w) t it.next.job (Ask k o r ∷ after w it.next.job)) where
  nx : IsNext (setup_in w) t it.next.job k o r (after w it.next.job)
  nx = next_round (setup_in w) t it.next.job k o r (after w it.next.job) is

  of_file : (P : Pinned → Type 0) → Each P it.next.job.pinned → IsRound (setup_in w) P nx.x
  of_file P each = each_middle (IsRound (setup_in w) P) nx.over nx.x nx.xs
      (subst (Each (IsRound (setup_in w) P)) nx.rounds (each_round (setup_in w) P it.next.job.pinned each))

  size_is : pinned_size it.next.job.pinned nx.x.file.id ≡ length nx.x.file.bytes
  size_is = (of_file (λ (f : Pinned). pinned_size it.next.job.pinned f.id ≡ length f.bytes)
      (sizes_found 0 it.next.job.pinned it.sound_job.ascending)).file

  found : pin_by_id (map pin_of it.next.job.pinned) nx.x.file.id ≡ Some (pin_of nx.x.file)
  found = (of_file (λ (f : Pinned). pin_by_id (map pin_of it.next.job.pinned) f.id ≡ Some (pin_of f))
      (pins_found 0 it.next.job.pinned it.sound_job.ascending)).file

  told_file : pin_in v.core number o ≡ Some (pin_of nx.x.file)
  told_file = ap (λ (j : Option CoreJob). pin_of_job j o) it.in_core.1
      ∙ among_is it.in_core.0.plan.pins o
      ∙ (λ i. pin_by_id (it.in_core.2.plan i).pins (nx.id_is i))
      ∙ ap (λ (l : List PinnedValue). pin_by_id l nx.x.file.id) (shown_pins it.in_core.0.told it.next.job)
      ∙ found

  -- its profile is the one under which the machine asks
  profile_asked : nx.x.file.profile ≡ pinned_profile (setup_in w).profile it.next.job.pinned o
  profile_asked = ap (profile_or (setup_in w).profile) (sym found)
      ∙ profile_found (setup_in w).profile it.next.job.pinned nx.x.file.id
      ∙ ap (pinned_profile (setup_in w).profile it.next.job.pinned) (sym nx.id_is)

  may_put : MayPut v number o
  may_put = record {
    some_picks = rw (← it.picks_are) at it.picks_fit.0;
    few_picks = rw (← it.picks_are) at it.picks_fit.1;
    file = pin_of nx.x.file;
    found = told_file;
    few = (it.sound_job.pinned nx.x.file
        (of_file (Contains it.next.job.pinned) (contains_each it.next.job.pinned)).file).size;
    rows = times_some (stripes (vault_object v nx.x.file.profile o) (length nx.x.file.bytes))
        (profile_of nx.x.file.profile).size (subst (λ m. 1 ≤ m) (sym
        (λ i. (length nx.x.file.bytes + (16 * (it.l_is i * (profile_of nx.x.file.profile).keep) - 1)) /
        (16 * (it.l_is i * (profile_of nx.x.file.profile).keep)))) (of_file (Contains it.next.job.pinned)
        (contains_each it.next.job.pinned)).rows) (profile_some nx.x.file.profile);
  }

  -- there is room, and the counters are small
  may_ask : (n : ℕ) → n ≡ (setup_in w).n → CanAsk n k t
  may_ask n same =
      let asks = sum_by-cons (λ a. cond (is_ask a) 1 0) (Ask k o r) (after w it.next.job) in
      let within = sums_within (setup_in w) it.next.job nx.over (sums_on t) nx.sums in
      let most = mul-le-mul_right (setup_in w).rounds it.sound_job.few in
      let small : length nx.over ≤ 65536 = omega (
        arith,
        few_rounds (setup_in w) it.next.job.pinned,
        ap length nx.rounds ∙ Rattle.std.proofs.Common.length-append nx.over (nx.x ∷ nx.xs),
        it.rounds_are,
        most,
      ) in
      let few : length nx.over < 2 ^ 31 = omega arith in
      let heard = enough_answers nx.x k t.heard.symbols.items it.next.job.given nx.answered in
      record {
        room = record { asks = omega (arith, is.room_asks); symbols = omega (arith, is.room_symbols) };
        counts = record {
          n_is = is.counts.0 ∙ sym same;
          small = all_small (2 ^ 31) (length nx.over) few t.counts.n t.counts.by within.counts
              (ap (list_all (λ count. count == 0)) is.counts.1.zeros ∙ zero_all (16 - t.counts.n));
          few = omega (arith, within.undecided);
        };
        heard = λ last. omega (arith, t.heard.symbols.ok.0);
      }

  module _ (q : Question) (put : IsQuestion v number o r q) where
    q_file : put.file ≡ pin_of nx.x.file
    q_file = same_value _ put.file (pin_of nx.x.file) put.found told_file

    q_length : q.file.length ≡ length nx.x.file.bytes
    q_length = put.length_is ∙ ap (λ (f : PinnedValue). f.length) q_file

    q_number : q.number ≡ it.next.job.subject
    q_number = subst (λ (j : Option CoreJob). IsAuditNumber j q.number) it.in_core.1 put.number_is
        ∙ ap (λ (p : Plan PinnedValue). p.subject) it.in_core.2.plan
        ∙ shown_subject it.in_core.0.told it.next.job

    q_n : q.file.shape.n ≡ (setup_in w).n
    q_n = ap (λ (x : ShapeValue). x.n) put.shape_is ∙ it.n_is

    q_object : layout.shaped_object (setup_in w).master q.file
        ≡ object_of (profiled (setup_in w) nx.x.file.profile) nx.x.file.id
    q_object = λ i. record {
      shape = record {
        n = q_n i;
        l = (ap (λ (x : ShapeValue). x.l) put.shape_is ∙ it.l_is) i;
        b = (ap (λ (x : ShapeValue). x.b) put.shape_is ∙ it.b_is) i;
      };
      profile = (put.profile_is ∙ ap (λ (f : PinnedValue). profile_of f.profile) q_file) i;
      master = (setup_in w).master;
      id = (put.id_is ∙ nx.id_is) i;
    }

    is_put : IsPut (setup_in w) it.next.job nx.x q
    is_put = record {
      object = q_object;
      challenge = λ i. challenge_of (q_object i) (q_length i) ((put.picks_is ∙ it.picks_are) i) (q_number i)
          ((put.round_is ∙ nx.number_is) i);
      id_is = put.id_is ∙ nx.id_is;
      round_is = put.round_is ∙ nx.number_is;
      n_is = q_n;
    }

    -- what the audit works with after the ask
    audit_on : (u : AuditTask) (symbol : Option ℕ) → TakesAsk v.master.0 q k t u symbol →
        IsAudit (setup_in w) u (advanced_with it.next.job (Answered k o r symbol)) (after w it.next.job)
    audit_on u symbol takes = subst (λ a. IsAudit (setup_in w) u
        (advanced_with it.next.job (Answered k a r symbol)) (after w it.next.job)) (sym nx.id_is)
        (subst (λ a. IsAudit (setup_in w) u (advanced_with it.next.job (Answered k nx.x.file.id a symbol))
        (after w it.next.job)) (sym nx.number_is) here)
      where
        is_here : IsAudit (setup_in w) t it.next.job (Ask k nx.x.file.id nx.x.number ∷ after w it.next.job)
        is_here = subst (λ a. IsAudit (setup_in w) t it.next.job (Ask k nx.x.file.id a ∷ after w it.next.job))
            nx.number_is (subst (λ a. IsAudit (setup_in w) t it.next.job (Ask k a r ∷ after w it.next.job))
            nx.id_is is)

        here : IsAudit (setup_in w) u (advanced_with it.next.job (Answered k nx.x.file.id nx.x.number symbol))
            (after w it.next.job)
        here = elim (cases_eq (k + 1) (setup_in w).n) [
          | inl last ↦ audit_judged (setup_in w) it.next.job it.rising (late_by (setup_in w) it.next.job k o r
              (after w it.next.job) is.kind it.left_is) k nx.x nx.xs nx.over (after w it.next.job) symbol t u
              takes.mid q is_here nx.rounds nx.answered nx.sums is_put takes.hears last
              (subst (λ m. HasJudged m q takes.mid u) it.master_is (takes.judged (last ∙ sym q_n)))
              (subst (λ c. AsksOn (setup_in w).n nx.xs c (after w it.next.job))
              (cond_true (k + 1 == (setup_in w).n) 0 (k + 1) (eq-eqb (k + 1) (setup_in w).n last))
              (subst (λ l. AsksOn (setup_in w).n l (asked_after (setup_in w).n k) (after w it.next.job))
              (cond_true (k + 1 == (setup_in w).n) nx.xs (nx.x ∷ nx.xs) (eq-eqb (k + 1) (setup_in w).n last))
              nx.order))
          | inr other ↦ subst (λ m. IsAudit (setup_in w) m (advanced_with it.next.job
              (Answered k nx.x.file.id nx.x.number symbol)) (after w it.next.job))
              (sym (takes.kept (λ e. other (e ∙ q_n)))) (audit_kept (setup_in w) it.next.job it.rising
              (late_by (setup_in w) it.next.job k o r (after w it.next.job) is.kind it.left_is) k nx.x nx.xs
              nx.over (after w it.next.job) symbol t u takes.mid q is_here nx.rounds nx.answered nx.sums
              is_put takes.hears (subst (λ c. AsksOn (setup_in w).n (nx.x ∷ nx.xs) c (after w it.next.job))
              (cond_false (k + 1 == (setup_in w).n) 0 (k + 1) (ne_eqb (k + 1) (setup_in w).n other))
              (subst (λ l. AsksOn (setup_in w).n l (asked_after (setup_in w).n k) (after w it.next.job))
              (cond_false (k + 1 == (setup_in w).n) nx.xs (nx.x ∷ nx.xs)
              (ne_eqb (k + 1) (setup_in w).n other)) nx.order)))
        ]

module _ (v : Desk) (w : State) (number k o r : ℕ) (it : IsAsking v w number k o r) where
  -- after the last ask all rounds are judged
  all_judged : (symbol : Option ℕ) (u : AuditTask) →
      IsAudit (setup_in w) u (advanced_with it.next.job (Answered k o r symbol)) (after w it.next.job)
      → is_last_ask_of v.core.setup (job_in v.core.jobs number) ≡ true →
      HasSums (setup_in w) (advanced_with it.next.job (Answered k o r symbol)) (sums_on u)
  all_judged symbol u is last =
      let job = it.next.job in
      let s = setup_in w in
      let is_last : is_last_ask (Ask k o r ∷ after w job) ≡ true = ap is_last_ask
      (sym (rest-is v.core.setup it.in_core.0 job it.in_core.2
      (audit_untold v.core.setup it.in_core.0.told job is.kind it.in_core.2.told)
      ∙ ap (λ (x : Setup). actions_left x job) it.setup_is ∙ it.left_is))
      ∙ sym (ap (is_last_ask_of v.core.setup) it.in_core.1) ∙ last in
      let st = starts_append k o r (after w job) is_last in
      let one : job.place + 1 ≡ suc job.place = omega arith in
      let none : is.left ≡ [] = none_left s.n is.left is.asked
      (subst (AsksOn s.n is.left is.asked) (ap (λ (m : ℕ). drop m (actions_of s job)) one
      ∙ last_tail s job k o r st.0 is.kind (it.left_is ∙ ap (λ (l : List Action). Ask k o r ∷ l) st.1))
      is.order) in
      let all : rounds_in s job.pinned ≡ is.over = is.rounds ∙ ap (λ l. is.over ++ l) none
      ∙ append-nil is.over in
      as_files s (advanced_with job (Answered k o r symbol)) job.pinned (empty_sums s) (sums_on u)
      (rw (← all) at is.sums)

-- ---- the reply to an ask

-- a reply that tells what an ask came to is one that the ask has
told_has : (c : CoreView) (number k o r : ℕ) (is_last : Bool) (y : Task) (told : Reply)
    → is_last ≡ is_last_ask_of c.setup (job_in c.jobs number) → TellsAsk is_last y told → MayTell c.setup.n y
    → HasReply c number (Acts (Ask k o r)) told
told_has c number k o r false y reply.Done last tells may = sym last
told_has c number k o r true (task.Audit t) (reply.Verdict undecided counts) last tells may = (
  sym last,
  ap (λ (x : Counts). x.n) tells.1 ∙ may.0,
  subst IsPadded (sym tells.1) may.1,
)
told_has c number k o r is_last y told last tells may = absurd tells

-- so the core takes it
pub told_takes : (c : CoreView) (number k o r : ℕ) (is_last : Bool) (y : Task) (told : Reply)
    → next_in c number ≡ Acts (Ask k o r) → is_last ≡ is_last_ask_of c.setup (job_in c.jobs number)
    → TellsAsk is_last y told → MayTell c.setup.n y → TakesReply c number told
told_takes c number k o r is_last y told next last tells may =
    rw (← next) at (told_has c number k o r is_last y told last tells may)

-- ---- what the ask comes to

-- there is something to ask for
pub put_there : (v : Desk) (w : State) (holds : Option Cells) (faults moment number k o r : ℕ)
    (ps : List Provider) → DeskStands v (devices holds faults ps) w → Comes v.core number (Ask k o r) →
    MayPut v number o
put_there v w holds faults moment number k o r ps stands comes =
    let it = asking v w holds faults number k o r ps stands comes in
    let f = working v (devices holds faults ps) w number (Ask k o r) stands it.next in
    let audit = audit_in v w number k o r it f.running f.is in
    may_put v w number k o r it audit.0 audit.2

module _ (v : Desk) (w : State) (holds : Option Cells) (faults moment number k o r : ℕ) (ps : List Provider)
    (stands : DeskStands v (devices holds faults ps) w) (comes : Comes v.core number (Ask k o r))
    (place : ℕ) (x : Running) (at : place_in v.jobs.items number ≡ Some place)
    (there : slice_get v.jobs.items place ≡ Some x) (q : Question) (put : IsQuestion v number o r q) where
  it : IsAsking v w number k o r
  it = asking v w holds faults number k o r ps stands comes

  runs : IsRunning (setup_in w) x it.next.job
  runs = at_place v (devices holds faults ps) w number place (Ask k o r) x stands it.next at there

  -- it can be asked
  pub ask_there : MayAsk q.file.shape.n k x.task
  ask_there =
      let a = audit_in v w number k o r it x runs in
      subst (MayAsk q.file.shape.n k) (sym a.1)
      (may_ask v w number k o r it a.0 a.2 q.file.shape.n
      (ap (λ (y : ShapeValue). y.n) put.shape_is ∙ it.n_is))

  abbrev AsksStill : Task → Option ℕ → Type 0
  AsksStill y symbol = (u : AuditTask) × (y ≡ task.Audit u) ×
      IsAudit (setup_in w) u (advanced_with it.next.job (Answered k o r symbol)) (after w it.next.job)

  still : (y : Task) (symbol : Option ℕ) → Asked v.master.0 q k x.task y symbol → AsksStill y symbol
  still y symbol asked = (let a = audit_in v w number k o r it x runs in
      by_task a.0 a.2 y (subst (λ (z : Task). Asked v.master.0 q k z y symbol) a.1 asked))
    where
      by_task : (t : AuditTask) → IsAudit (setup_in w) t it.next.job (Ask k o r ∷ after w it.next.job) →
          (y : Task) → Asked v.master.0 q k (task.Audit t) y symbol → AsksStill y symbol
      by_task t is (task.Audit u) takes = (u, refl, audit_on v w number k o r it t is q put u symbol takes)
      by_task t is _ takes = absurd takes

  -- a last ask has a verdict
  pub tell_there : (y : Task) (symbol : Option ℕ) → Asked v.master.0 q k x.task y symbol
      → MayTell v.core.setup.n y
  tell_there y symbol asked =
      let u = still y symbol asked in
      subst (MayTell v.core.setup.n) (sym u.1)
      (u.2.counts.0 ∙ sym (ap (λ s. s.n) stands.core.setup), u.2.counts.1)

  -- the reply tells what the ask came to
  tells_more : (symbol : Option ℕ) (y : Task) (p' : Provider) (is_last : Bool) (told : Reply) →
      Asked v.master.0 q k x.task y symbol → is_last ≡ is_last_ask_of v.core.setup
      (job_in v.core.jobs number) →
      TellsAsk is_last y told
      → Tells number told More
      (record (going_on w (advanced_with it.next.job (Answered k o r symbol)))
      { providers = with_provider w.providers k p' })
  tells_more symbol y p' is_last told asked last_is tells = (let u = still y symbol asked in
      by_reply is_last told last_is u.0 (rw u.1 at tells) u.2)
    where
      new : State
      new = record (going_on w (advanced_with it.next.job (Answered k o r symbol)))
          { providers = with_provider w.providers k p' }

      by_reply : (is_last : Bool) (told : Reply) → is_last ≡ is_last_ask_of v.core.setup
          (job_in v.core.jobs number) →
          (u : AuditTask) → TellsAsk is_last (task.Audit u) told
          → IsAudit (setup_in w) u (advanced_with it.next.job (Answered k o r symbol)) (after w it.next.job) →
          Tells number told More new
      by_reply false reply.Done last u tells is = tt
      by_reply true (reply.Verdict undecided counts) last u tells is = λ j found.
          let mine : it.next.job.number ≡ number = number_of w.jobs number it.next.job it.next.runs in
          let same : advanced_with it.next.job (Answered k o r symbol) ≡ j =
          same_value _ _ j (found_itself w.jobs (advanced_with it.next.job (Answered k o r symbol))
          it.next.job (subst (λ (m : ℕ). job_of w.jobs m ≡ Some it.next.job) (sym mine) it.next.runs))
          (subst (λ (m : ℕ). job_of new.jobs m ≡ Some j) (sym mine) found) in
          let sums : sums_on u ≡ record { counts = counted counts; undecided = undecided } =
          (λ i. record { counts = counted ((sym tells.1) i); undecided = (sym tells.0) i }) in
          subst (λ s. HasSums s j (record { counts = counted counts; undecided = undecided }))
          (sym (setup_same w new refl))
          (rw same at (subst (HasSums (setup_in w) (advanced_with it.next.job (Answered k o r symbol))) sums
          (all_judged v w number k o r it symbol u is (sym last))))
      by_reply _ _ last u tells is = absurd tells

  -- the ask is a step of the machine
  pub ask_step : (v' : Desk) (ps' : List Provider) (p p' : Provider) (y : Running) (symbol : Option ℕ)
      (is_last : Bool) (told : Reply) → y.number ≡ x.number → Asked v.master.0 q k x.task y.task symbol
      → Asks (honest_answer (challenge_put v.master.0 q)) q.file.id p symbol p' → slice_get ps k ≡ Some p →
      ps' ≡ slice_set ps k p'
      → is_last ≡ is_last_ask_of v.core.setup (job_in v.core.jobs number) → TellsAsk is_last y.task told
      → v'.jobs.items ≡ slice_set v.jobs.items place y → KeepsAll v v' → v'.flight ≡ v.flight →
      IsFed v.core number told v'.core
      → DeskMakesStep w moment number turn.More v' (devices holds faults ps) (devices holds faults ps')
  ask_step v' ps' p p' y symbol is_last told same_number asked call p_is ps_is last_is tells jobs keeps flight fed =
      let job = it.next.job in
      let a = audit_in v w number k o r it x runs in
      let u = still y.task symbol asked in
      let next_job = advanced_with job (Answered k o r symbol) in
      let new : State = record (going_on w next_job) { providers = with_provider w.providers k p' } in
      let round = nx v w number k o r it a.0 a.2 in
      let asked_is = is_put v w number k o r it a.0 a.2 q put in
      let seen : p ≡ w.providers k = same_value _ p (w.providers k) p_is
      (stands.devices.providers.each k (is_handed_in)) in
      let profile : (round.x).file.profile ≡ pinned_profile (setup_in w).profile job.pinned o =
      profile_asked v w number k o r it a.0 a.2 in
      let challenge : challenge_put v.master.0 q ≡ asked_challenge (setup_in w) job o r =
      ap (λ (m : List ℕ). challenge_put m q) it.master_is ∙ asked_is.challenge
      ∙ (λ i. challenge_in (profiled (setup_in w) (profile i)) job ((sym round.id_is) i)
      ((sym (size_is v w number k o r it a.0 a.2) ∙ ap (pinned_size job.pinned) (sym round.id_is)) i)
      ((sym round.number_is) i)) in
      let called : Asks (honest_answer (asked_challenge (setup_in w) job o r)) o (w.providers k) symbol p' =
      subst (λ (z : Provider). Asks (honest_answer (asked_challenge (setup_in w) job o r)) o z symbol p') seen
      (subst (λ (m : ℕ). Asks (honest_answer (asked_challenge (setup_in w) job o r)) m p symbol p') put.id_is
      (subst (λ c. Asks (honest_answer c) q.file.id p symbol p') challenge call)) in
      let tail_is : actions_left (setup_in w) next_job ≡ after w job =
      ap (drop (job.place + 1))
      (actions_same (setup_in w) job (job.place + 1) (Answered k o r symbol ∷ job.given)) in
      let running : IsRunning (setup_in w) y next_job = record {
        number = same_number ∙ runs.number;
        task = subst (λ (l : List Action). IsTask (setup_in w) next_job l y.task) (sym tail_is)
            (subst (IsTask (setup_in w) next_job (after w job)) (sym u.1) u.2);
      } in
      goes_on v v' w new holds faults moment number place ps ps' (Ask k o r) x y next_job told stands it.next
      (symbol, (p', called, refl))
      (record { records = refl; journal = refl; area = refl; switching = refl; doubt = refl; append = refl; faults = refl; barred = refl })
      refl refl running at there jobs
      (subst (λ (l : List Provider). AreHanded l new) (sym ps_is)
      (handed_on ps w new k p' stands.devices.providers is_handed_in refl (λ j. refl)))
      keeps flight fed (tells_more symbol y.task p' is_last told asked last_is tells)
      (record {
        wants = comes.wants;
        number_is = same_number;
        hand = ap hand_of u.1 ∙ sym (ap hand_of a.1);
        kind = refl;
        profile = refl;
        place_is = refl;
      })
    where
      is_handed_in : k < length ps
      is_handed_in = Rattle.vault.proofs.AskStep.provider_there v w holds faults number k o r ps stands comes
