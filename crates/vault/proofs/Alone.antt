-- When nothing may run alone, and the state in which a number is drawn for what does.
use Rattle.vault.proofs.Words.{◌≡◌, ◌<◌, ◌≤◌, ◌+◌, ℕ, true, false, List, [], ◌∷◌, Option, None, Some, refl, ap, sym, subst, ◌∙◌, inl, inr, arith, ∥∥₁_map, is_some, nat_le, nat_lt, list_any, cases_Bool, false≢true, lt-ltb, alone_refusal, pack_refusal, Job, Cause, first_refusal, aims_of, sight_of, is_shut, is_upgrade, State, Alone, setup_in, AreNumbered, IsSound, CoreIs, IsCoreFlight, refusal_of, CoreView, BeginFault, Devices, devices, Desk, DeskStands, IsAtWork, KeepsAll, AreRunning, Running, AreAtHand, found_none, setup_same, handed_same}
use Rattle.std.proofs.Common.{◌||◌, length}
use Rattle.machine_defs.specs.Refusals as refusal
use Rattle.machine_defs.specs.States.{Append}
use Rattle.vault.proofs.AtWork.{beside_sound}
use Rattle.vault.proofs.Free.{none_run}
use Rattle.vault.proofs.Ways.{stands_on}

-- ---- why nothing may run alone

-- the causes for which a core is barred
abbrev pub barring : State → List Cause
barring w =
    record { applies = w.is_barred; refusal = refusal.MustReopen }
    ∷ record { applies = is_shut (sight_of w) || nat_le 8 (length w.jobs); refusal = refusal.Busy } ∷ []

-- an upgrade or eight jobs are a job that runs
some_job : (js : List Job) (o : Option Alone) → o ≡ None
    → ((is_some o || list_any is_upgrade (aims_of js)) || nat_le 8 (length js)) ≡ true
    → (nat_lt 0 (length js) || is_some o) ≡ true
some_job [] None none h = absurd (false≢true h)
some_job [] (Some x) none h = refl
some_job (j ∷ js) o none h = ap (λ b. b || is_some o) (lt-ltb 0 (length (j ∷ js)) (omega arith))

module _ (w : State) (lone : w.alone ≡ None) where
  -- where a core is barred, nothing may run alone, for the same cause
  pub barred_alone : (why : BeginFault) → Some (refusal_of why) ≡ first_refusal (barring w)
      → alone_refusal w [] ≡ Some (refusal_of why)
  barred_alone why told = elim (cases_Bool w.is_barred) [
    | inl t ↦ (let a : alone_refusal w [] ≡ Some refusal.MustReopen = rw t refl in
        let b : first_refusal (barring w) ≡ Some refusal.MustReopen = rw t refl in a ∙ sym (told ∙ b))
    | inr f ↦ elim (cases_Bool (is_shut (sight_of w) || nat_le 8 (length w.jobs))) [
      | inl t ↦ (let some = some_job w.jobs w.alone lone t in
          let a : alone_refusal w [] ≡ Some refusal.Busy = rw (f, some) refl in
          let b : first_refusal (barring w) ≡ Some refusal.Busy = rw (f, t) refl in a ∙ sym (told ∙ b))
      | inr g ↦ absurd (let b : first_refusal (barring w) ≡ None = rw (f, g) refl in
          let e : Some (refusal_of why) ≡ None = told ∙ b in cc)
    ]
  ]

  -- where it is not, no disk call failed
  pub unbarred : None ≡ first_refusal (barring w) → w.is_barred ≡ false
  unbarred told = elim (cases_Bool w.is_barred) [
    | inl t ↦ absurd (let e : None ≡ Some refusal.MustReopen = told ∙ (rw t refl) in cc)
    | inr f ↦ f
  ]

  -- beside a job nothing may run alone
  pub busy_alone : w.is_barred ≡ false → 0 < length w.jobs → alone_refusal w [] ≡ Some refusal.Busy
  busy_alone free some = (let one = lt-ltb 0 (length w.jobs) some in rw (free, one) refl)

  -- nor may a pack
  pub busy_pack : w.is_barred ≡ false → 0 < length w.jobs → pack_refusal w ≡ Some refusal.Busy
  busy_pack free some = (let one = lt-ltb 0 (length w.jobs) some in rw (free, one) refl)

  -- else it may
  pub free_alone : w.is_barred ≡ false → w.jobs ≡ [] → alone_refusal w [] ≡ None
  free_alone free none = rw (free, none, lone) refl

-- ---- the number of what runs alone

-- a state whose next number is drawn
abbrev pub drawn : State → State
drawn w = record w { next_job = w.next_job + 1 }

-- it is as sound as before
drawn_sound : (w : State) → w.is_open ≡ true → w.jobs ≡ [] → IsSound 8 w → IsSound 8 (drawn w)
drawn_sound w opened idle S =
    beside_sound w w.providers w.handed w.disk_faults (w.next_job + 1) (S.handed opened)
    (subst (λ (js : List Job). AreNumbered 0 js (w.next_job + 1)) (sym idle) (omega arith)) S

flight_on : (c : CoreView) (k : ℕ) (o : Option Append) → IsCoreFlight c o
    → IsCoreFlight (record c { next_job = k }) o
flight_on c k _ is = is

core_drawn : (c : CoreView) (w : State) → w.jobs ≡ [] → CoreIs c w
    → CoreIs (record c { next_job = c.next_job + 1 }) (drawn w)
core_drawn c w idle is = record {
  sound = drawn_sound w is.is_open idle is.sound;
  is_open = is.is_open;
  none_alone = is.none_alone;
  table = is.table;
  setup = is.setup ∙ sym (setup_same w (drawn w) refl);
  end = is.end;
  jobs = is.jobs;
  next_job = ap (λ (k : ℕ). k + 1) is.next_job;
  append = flight_on c (c.next_job + 1) w.append is.append;
  barred = is.barred;
}

-- a desk whose core drew it stands for that state
pub drawn_stands : (v v' : Desk) (d : Devices) (w : State) → w.jobs ≡ []
    → v'.core ≡ record v.core { next_job = v.core.next_job + 1 } → KeepsAll v v' → v'.flight ≡ v.flight
    → v'.jobs.items ≡ v.jobs.items → DeskStands v d w → DeskStands v' d (drawn w)
drawn_stands v v' d w idle core keeps flight jobs S =
    stands_on v v' w (drawn w) d.holds d.faults d.providers d.providers S
    (record { records = refl; journal = refl; area = refl; switching = refl; doubt = refl; append = refl; faults = refl; barred = refl })
    (handed_same d.providers w (drawn w) S.devices.providers refl (λ j. refl))
    (subst (λ (c : CoreView). CoreIs c (drawn w)) (sym core) (core_drawn v.core w idle S.core)) keeps flight
    (subst (λ (items : List Running). AreRunning (setup_in w) items w.jobs) (sym jobs) S.jobs)
    (subst (λ (c : CoreView). AreAtHand (setup_in w) c.jobs v'.jobs.items w.jobs) (sym core)
    (subst (λ (items : List Running). AreAtHand (setup_in w) v.core.jobs items w.jobs) (sym jobs) S.streams))

-- and goes on to be at work
pub drawn_works : (v v' : Desk) → length v.core.jobs ≤ 0
    → v'.core ≡ record v.core { next_job = v.core.next_job + 1 } → KeepsAll v v' → v'.flight ≡ v.flight
    → v'.jobs.items ≡ v.jobs.items → IsAtWork v → IsAtWork v'
drawn_works v v' few core keeps flight jobs at = λ rest bytes. ∥∥₁_map (at rest bytes) (λ x. (
  drawn x.0,
  x.1,
  x.2,
  drawn_stands v v' (devices None x.1 x.2) x.0
      (none_run v.core.setup v.core.jobs x.0.jobs x.3.core.jobs few) core keeps flight jobs x.3,
  λ number stripes job told runs. absurd (found_none x.0.jobs number job
      (none_run v.core.setup v.core.jobs x.0.jobs x.3.core.jobs few) runs),
))
