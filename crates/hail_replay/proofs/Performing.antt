-- The arms of a call that performs an event.
use Rattle.hail_replay.proofs.Words.{◌≡◌, ℕ, ◌<◌, ◌^◌, Bool, true, false, List, [], ◌++◌, Option, Some, None, Result, inl, inr, refl, ap, sym, subst, IfSome, is_some, cases_Bool, Cells, Provider, Event, Begin, BeginAt, BeginScrub, BeginPack, put_event, Step, Names, Entry, heard_by, heard_at, reported_after, Kind, PutJob, job_of, Happens, Moment, State, Once, RunJob, event_command, Devices, devices, Client, ClientTurn, is_open, client_coming, IsSame, client_begin_outcome, step_outcome, HeardIs, replace_outcome, ClientStands, MakesEvent, IsReached, RunsJobOn, IsNoJob, Came, StandsWhereOpen, KeepsStanding, IsPerformed}
use Rattle.schedule_text.specs.declared.event.Event.{Event as Read}
use Rattle.schedule_text.specs.declared.event.Event.TheVariants as read
use Rattle.vault_core.specs.declared.wish.BeginFault.{BeginFault}
use Rattle.hail_replay.specs.declared.came.Came.TheVariants as came
use Rattle.hail_replay.proofs.Same.{Same, OneMore, begins, begins_alone}
use Rattle.hail_replay.proofs.Arms.{begun-kept, closed-kept, closed-coming, step-kept, run-kept, replaced-kept, same-kept}
use Rattle.hail_replay.proofs.Behind.{once, run, not-run, turn-heard}
use Rattle.hail_replay.proofs.Standing.{lists}

-- it is this event
pub performed-as : (event other : Read) (came : Option Came) (c next : Client) (d e : Devices) → event ≡ other
    → IsPerformed (event_command other) came c next d e → IsPerformed (event_command event) came c next d e
performed-as event other came c next d e is P =
    subst (λ (x : Read). IsPerformed (event_command x) came c next d e) (sym is) P

-- a call that begins a job, where the event draws at most one number and tells of no job
begun-by : (event : Event) (c next : Client) (d : Devices) (result : Option (Result ℕ BeginFault))
    → ((w u : State) → Happens 8 0 w event (client_begin_outcome result) u → OneMore w u)
    → ((w : State) (es : List Entry)
    → reported_after event es ++ heard_at w event (client_begin_outcome result) ≡ es ++ [])
    → StandsWhereOpen c d
    → ((w : State) (there : Devices) (moment : ℕ) → ClientStands c there w →
    MakesEvent w moment event (client_begin_outcome result) next there)
    → IsPerformed (Once event) (Some (came.Begun result)) c next d d
begun-by event c next d result leaves quiet S makes = record {
  machine = λ start ms told R. once event (Some (came.Begun result)) c next d d
      (λ w moment T. makes w d moment T) (λ w es T. quiet w es) start ms R;
  kept = begun-kept c next d event (client_begin_outcome result) leaves S makes;
}

-- a begin
pub begun : (c next : Client) (d : Devices) (kind : Kind) (result : Option (Result ℕ BeginFault)) →
    StandsWhereOpen c d
    → ((w : State) (there : Devices) (moment : ℕ) → ClientStands c there w →
    MakesEvent w moment (Begin kind) (client_begin_outcome result) next there)
    → IsPerformed (Once (Begin kind)) (Some (came.Begun result)) c next d d
begun c next d kind result S makes = begun-by (Begin kind) c next d result
    (λ w u h. begins w 8 0 kind None (client_begin_outcome result) u h) (λ w es. refl) S makes

-- the begin of a scrub
pub scrub-begun : (c next : Client) (d : Devices) (result : Option (Result ℕ BeginFault)) →
    StandsWhereOpen c d
    → ((w : State) (there : Devices) (moment : ℕ) → ClientStands c there w →
    MakesEvent w moment BeginScrub (client_begin_outcome result) next there)
    → IsPerformed (Once BeginScrub) (Some (came.Begun result)) c next d d
scrub-begun c next d result S makes = begun-by BeginScrub c next d result
    (λ w u h. begins_alone w _ _ (client_begin_outcome result) u h) (λ w es. refl) S makes

-- the begin of a pack
pub pack-begun : (c next : Client) (d : Devices) (result : Option (Result ℕ BeginFault)) →
    StandsWhereOpen c d
    → ((w : State) (there : Devices) (moment : ℕ) → ClientStands c there w →
    MakesEvent w moment BeginPack (client_begin_outcome result) next there)
    → IsPerformed (Once BeginPack) (Some (came.Begun result)) c next d d
pack-begun c next d result S makes = begun-by BeginPack c next d result
    (λ w u h. begins_alone w _ _ (client_begin_outcome result) u h) (λ w es. refl) S makes

-- the begin of a put
pub put-begun : (c next : Client) (d : Devices) (name bytes : List ℕ) (own : Option ℕ)
    (result : Option (Result ℕ BeginFault)) → StandsWhereOpen c d
    → ((w : State) (there : Devices) (moment : ℕ) → ClientStands c there w →
    MakesEvent w moment (put_event own name bytes) (client_begin_outcome result) next there)
    → IsPerformed (event_command (read.BeginPut name bytes own)) (Some (came.Begun result)) c next d d
put-begun c next d name bytes None result S makes = begun c next d (PutJob name bytes) result S makes
put-begun c next d name bytes (Some profile) result S makes = begun-by (BeginAt profile name bytes) c next d
    result (λ w u h. begins w 8 0 (PutJob name bytes) (Some profile) (client_begin_outcome result) u h)
    (λ w es. refl) S makes

-- a step, which does nothing where no vault is open
pub stepped : (job : ℕ) (c next : Client) (d e : Devices) (t : Option ClientTurn) → StandsWhereOpen c d →
    is_some e.holds ≡ is_some d.holds →
    ((w : State) (moment : ℕ) → ClientStands c d w → MakesEvent w moment (Step job) (step_outcome t) next e) →
    ((w : State) → ClientStands c d w → IfSome t (λ turn. HeardIs turn (heard_by (job_of w.jobs job)))) →
    (client_coming c job ≡ IsNoJob → IsSame c next × (e ≡ d)) →
    IsPerformed (Once (Step job)) (Some (came.Stepped t)) c next d e
stepped job c next d e t S tells makes heard none = record {
  machine = λ start ms told R. once (Step job) (Some (came.Stepped t)) c next d e makes
      (λ w es T. ap (λ (x : List Entry). es ++ x) (turn-heard w job t (heard w T))) start ms R;
  kept = elim (cases_Bool (is_open c)) [
    | inl opened ↦ step-kept c next d e tells job (step_outcome t) S opened makes
    | inr closed ↦ (let n = none (closed-coming c job closed) in
        subst (λ (x : Devices). KeepsStanding c next d x) (sym n.1) (closed-kept c next d closed n.0))
  ];
}

-- a run of a job over an open vault
pub ran : (job : ℕ) (c next : Client) (d e : Devices) (t : Option ClientTurn) → StandsWhereOpen c d →
    is_open c ≡ true → is_some e.holds ≡ is_some d.holds
    → ((start : State) (ms : List Moment) → IsReached start ms c d → RunsJobOn start ms job t next e)
    → IsPerformed (RunJob job) (Some (came.Stepped t)) c next d e
ran job c next d e t S opened tells runs = record {
  machine = λ start ms told R. run start ms job t next e (runs start ms R);
  kept = run-kept c next d e tells job t S opened runs;
}

-- and over none
pub not-ran : (job : ℕ) (c : Client) (d : Devices) → job < 2 ^ 32 → StandsWhereOpen c d → is_open c ≡ false
    → IsPerformed (RunJob job) (Some (came.Stepped None)) c c d d
not-ran job c d spelled S closed = record {
  machine = λ start ms told R. not-run job spelled c d closed start ms R;
  kept = same-kept c d S;
}

-- an alteration or a loss
pub replaced : (event : Event) (c : Client) (holds : Option Cells) (faults : ℕ) (ps qs : List Provider)
    (result : Bool)
    → ((w u : State) → Happens 8 0 w event (replace_outcome result) u → Same w u)
    → ((w : State) (es : List Entry) → reported_after event es ++ heard_at w event (replace_outcome result)
    ≡ es ++ [])
    → ((w : State) (holds : Option Cells) (faults moment : ℕ) → ClientStands c (devices holds faults ps) w →
    MakesEvent w moment event (replace_outcome result) c (devices holds faults qs))
    → StandsWhereOpen c (devices holds faults ps)
    → IsPerformed (Once event) (Some (came.Replaced result)) c c (devices holds faults ps)
    (devices holds faults qs)
replaced event c holds faults ps qs result leaves quiet makes S = record {
  machine = λ start ms told R. once event (Some (came.Replaced result)) c c (devices holds faults ps)
      (devices holds faults qs)
      (λ w moment T. makes w holds faults moment T) (λ w es T. quiet w es) start ms R;
  kept = replaced-kept c event (replace_outcome result) holds faults ps qs leaves makes S;
}

-- a list
pub listed : (c : Client) (d : Devices) → StandsWhereOpen c d → IsPerformed (Once Names) None c c d d
listed c d S = record {
  machine = λ start ms told R. once Names None c c d d (λ w moment T. lists w moment c d T)
      (λ w es T. refl) start ms R;
  kept = same-kept c d S;
}
