-- Begins, steps and lists of files, as events of the machine.
use Rattle.hail_client.proofs.Words.{◌≡◌, ℕ, ◌<◌, ◌^◌, ◌||◌, false, List, Option, Some, None, Result, Err, refl, ap, sym, subst, ◌∙◌, inl, IfSome, OnErr, is_some, list_any, Begin, put_event, Closed, IsSpelledKind, Kind, PutJob, aim_of, job_of, heard_by, State, cond_true, cond_false, BeginFault, Vault, Devices, held_by, IsUnchanged, Stands, MakesBegin, Alone, Client, client_begin_outcome, StandsBy, ClientStands, MakesEvent, ClientMakesStep}
use Rattle.std.proofs.Common.{true}
use Rattle.machine_defs.specs.Begins.{BeginsAt, refusal_of_begin}
use Rattle.machine_defs.specs.Refusals as refusal
use Rattle.machine_defs.specs.Sights.{sight_of, is_busy, is_upgrade, aims_of, are_jobs_in_the_way}
use Rattle.machine_defs.specs.States as states
use Rattle.vault_core.specs.declared.wish.BeginFault.TheVariants as fault
use Rattle.vault.specs.declared.turn.Turn.{Turn}
use Rattle.vault.specs.Outcomes.{IfEnded, begin_outcome}
use Rattle.vault.specs.Stands as vault
use Rattle.hail_client.specs.declared.turn.ClientTurn.TheVariants as client_turn
use Rattle.hail_client.proofs.Beside.{beside-of, same-alone}
use Rattle.hail_client.proofs.Standing.{stands-of, parts-of, open-of}

-- beside what runs alone no job begins
busy-alone : (w : State) (a : states.Alone) (kind : Kind) (own : Option ℕ) → w.is_barred ≡ false →
    w.alone ≡ Some a → refusal_of_begin 8 w kind own ≡ Some refusal.Busy
busy-alone w a kind own free alone = cond_false w.is_barred _ _ free
    ∙ cond_true (is_busy 8 (sight_of w) (aim_of kind)) _ _
    (ap (λ (x : Option states.Alone). (is_some x || list_any is_upgrade (aims_of w.jobs))
    || are_jobs_in_the_way 8 (aims_of w.jobs) (aim_of kind)) alone)

module _ (c new : Client) (v next : Vault) (result : Result ℕ BeginFault) (is : c.vault ≡ Some v)
    (new_is : new.vault ≡ Some next) (alone_is : new.alone ≡ c.alone) (number_is : new.next_job ≡ c.next_job)
    (busy : is_some (held_by v) ≡ true → result ≡ Err fault.Busy)
    (unchanged : OnErr result (IsUnchanged v next)) where
  -- a begin that was made, of a put also with a profile of its own
  record WasBegun (w : State) (moment : ℕ) (kind : Kind) (own : Option ℕ) (d : Devices) : Type 0 where
    state : State
    begins : BeginsAt 8 moment w kind own (begin_outcome result) state
    stands : ClientStands new d state

  begun-by : (o : Option Alone) → c.alone ≡ o → (kind : Kind) (own : Option ℕ) →
      ((w : State) (d : Devices) (moment : ℕ) → Stands v d w → MakesBegin w moment kind own result next d) →
      (w : State) (d : Devices) (moment : ℕ) → StandsBy (Some v) o c.next_job d w →
      WasBegun w moment kind own d
  begun-by None none kind own makes w d moment S = (let M = makes w d moment S in
      record {
        state = M.state;
        begins = M.begins;
        stands = stands-of new (Some next) None c.next_job new_is (alone_is ∙ none) number_is d M.state M.stands;
      })
  begun-by (Some x) some kind own makes w d moment S = (let A = beside-of v x d w S in
      let held : is_some (held_by v) ≡ true = ap is_some A.held in
      let is_busy : result ≡ Err fault.Busy = busy held in
      record {
        state = w;
        begins = subst (λ (r : Result ℕ BeginFault). BeginsAt 8 moment w kind own (begin_outcome r) w)
            (sym is_busy) (
              A.is_open,
              inl (busy-alone w A.what kind own A.unbarred A.alone_is),
              refl,
            );
        stands = stands-of new (Some next) (Some x) c.next_job new_is (alone_is ∙ some) number_is d w
            (same-alone v next x d w
            (subst (λ (r : Result ℕ BeginFault). OnErr r (IsUnchanged v next)) is_busy unchanged) S);
      })

  begun : (kind : Kind) (own : Option ℕ) →
      ((w : State) (d : Devices) (moment : ℕ) → Stands v d w → MakesBegin w moment kind own result next d) →
      (w : State) (d : Devices) (moment : ℕ) → ClientStands c d w → WasBegun w moment kind own d
  begun kind own makes w d moment S =
      begun-by c.alone refl kind own makes w d moment (parts-of c (Some v) c.alone is refl d w S)

  -- an open vault makes them
  pub begin-of : (kind : Kind) → IsSpelledKind kind →
      ((w : State) (d : Devices) (moment : ℕ) → Stands v d w → MakesBegin w moment kind None result next d) →
      (w : State) (d : Devices) (moment : ℕ) → ClientStands c d w →
      MakesEvent w moment (Begin kind) (client_begin_outcome (Some result)) new d
  begin-of kind spelled makes w d moment S = (let M = begun kind None makes w d moment S in
      record { state = M.state; spelled = spelled; happens = M.begins; stands = M.stands })

  -- a begin of a put, of a file with a profile of its own where one is named
  pub put-of : (own : Option ℕ) (name bytes : List ℕ) → IfSome own (λ profile. profile < 256) →
      IsSpelledKind (PutJob name bytes) → ((w : State) (d : Devices) (moment : ℕ) → Stands v d w →
      MakesBegin w moment (PutJob name bytes) own result next d) →
      (w : State) (d : Devices) (moment : ℕ) → ClientStands c d w →
      MakesEvent w moment (put_event own name bytes) (client_begin_outcome (Some result)) new d
  put-of None name bytes fits spelled makes w d moment S =
      begin-of (PutJob name bytes) spelled makes w d moment S
  put-of (Some profile) name bytes fits spelled makes w d moment S =
      (let M = begun (PutJob name bytes) (Some profile) makes w d moment S in
      record { state = M.state; spelled = (fits, spelled); happens = M.begins; stands = M.stands })

module _ (c new : Client) (v next : Vault) (number : ℕ) (turn : Turn) (old d : Devices) (is : c.vault ≡ Some v)
    (none : c.alone ≡ None) where
  opened : (w : State) → ClientStands c old w → Stands v old w
  opened w S = parts-of c (Some v) None is none old w S

  -- a step of an open client's vault is a step of the machine's job
  pub step-of : new.vault ≡ Some next → new.alone ≡ None →
      ((w : State) (moment : ℕ) → Stands v old w → vault.MakesStep w moment number turn next old d) →
      number < 2 ^ 32 → (w : State) (moment : ℕ) → ClientStands c old w →
      ClientMakesStep w moment number (Some (client_turn.Job turn)) new old d
  step-of new_is still makes spelled w moment S = (let M = makes w moment (opened w S) in
      record {
        makes = record {
          state = M.state;
          spelled = spelled;
          happens = M.happens;
          stands = stands-of new (Some next) None new.next_job new_is still refl d M.state M.stands;
        };
        beyond = M.beyond;
        torn = M.torn;
      })

  -- what a vault's job heard by its end is what the machine's job heard
  pub heard-of :
      ((w : State) (moment : ℕ) → Stands v old w → vault.MakesStep w moment number turn next old d) →
      (w : State) → ClientStands c old w → IfEnded turn (λ ended. ended.heard ≡ heard_by (job_of w.jobs number))
  heard-of makes w S = (makes w 0 (opened w S)).heard

-- none does where no vault is open
closed-by : (c : Client) (w : State) (d : Devices) → c.vault ≡ None → ClientStands c d w → w.is_open ≡ false
closed-by c w d none S = open-of c.vault c.alone c.next_job d w S ∙ ap (λ (o : Option Vault). is_some o) none

-- a begin of a put by a client with no vault changes nothing
pub put-closed : (c new : Client) (own : Option ℕ) (name bytes : List ℕ) → c.vault ≡ None →
    new.vault ≡ c.vault → new.alone ≡ c.alone → new.next_job ≡ c.next_job →
    IfSome own (λ profile. profile < 256) → IsSpelledKind (PutJob name bytes) →
    (w : State) (d : Devices) (moment : ℕ) → ClientStands c d w →
    MakesEvent w moment (put_event own name bytes) Closed new d
put-closed c new None name bytes none vault scrub number fits spelled w d moment S = record {
  state = w;
  spelled = spelled;
  happens = (closed-by c w d none S, refl);
  stands = stands-of new c.vault c.alone c.next_job vault scrub number d w S;
}
put-closed c new (Some profile) name bytes none vault scrub number fits spelled w d moment S = record {
  state = w;
  spelled = (fits, spelled);
  happens = (closed-by c w d none S, refl);
  stands = stands-of new c.vault c.alone c.next_job vault scrub number d w S;
}
