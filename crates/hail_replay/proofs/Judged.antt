-- An audit that ended leaves its vault open, and the vault's table has the setup by which it flags.
use Rattle.hail_replay.proofs.Words.{◌≡◌, ℕ, Bool, true, false, List, ◌∷◌, length, Option, Some, None, refl, ap, sym, subst, ◌∙◌, IsSome, nat_lt, false≢true, Held, without_block, with_symbol, HasPlace, unalone, Event, Init, Begin, BeginAt, BeginScrub, BeginPack, Step, Alter, Lose, Stop, Reopen, Names, Continue, Outcome, Ended, Lists, Happens, ReplacesIf, Moment, now, State, setup_in, Steps, Vault, Devices, Client, names_of, StandsBy, IsReached, flagged_by, table_tolerance, FlagsBy}
use Rattle.std.specs.Option.{option_map}
use Rattle.record_defs.specs.Records.{Setup, is_setup}
use Rattle.machine_defs.specs.Answers.{Audited}
use Rattle.machine_defs.specs.Openings.{InitsBy, Inits}
use Rattle.machine_defs.specs.Setups.{setup_or_none}
use Rattle.vault.specs.Packing.{plain}
use Rattle.vault.specs.Seen.{table_of}
use Rattle.vault_core.proofs.Alike.{table-like}
use Rattle.hail_client.specs.declared.alone.Alone.{Alone}
use Rattle.hail_client.specs.declared.alone.Alone.TheVariants as alone
use Rattle.hail_replay.proofs.Same as same

module _ (old new : State) (number undecided : ℕ) (counts : List ℕ) where
  abbrev audited : Outcome
  audited = Ended (Audited number undecided counts)

  steps : (job : ℕ) (is_open : Bool) → old.is_open ≡ is_open → Steps old job is_open audited new →
      new.is_open ≡ true
  steps job true opened h = (same.steps old job audited new
      (subst (λ b. Steps old job b audited new) (sym opened) h)).is_open ∙ opened
  steps job false opened h = absurd h

  inits_by : (s : Setup) (good : Bool) → InitsBy old s good audited new → new.is_open ≡ true
  inits_by s true h = absurd h
  inits_by s false h = absurd h

  inits : (s : Setup) (is_open : Bool) → Inits old s is_open audited new → new.is_open ≡ true
  inits s true h = absurd h
  inits s false h = inits_by s (is_setup s) h

  replaces_if : (handed : Bool) (j : ℕ) (IsThere : Held → Type 0) (changed : Held → Held) →
      ReplacesIf handed old j IsThere changed audited new → new.is_open ≡ true
  replaces_if true j IsThere changed h = absurd h
  replaces_if false j IsThere changed h = absurd h

  lists : (is_open : Bool) → Lists old is_open audited new → new.is_open ≡ true
  lists true h = absurd h
  lists false h = absurd h

  -- an audit that ended leaves the vault open
  audited-open : (moment : ℕ) (e : Event) → Happens 8 moment old e audited new → new.is_open ≡ true
  audited-open moment (Init s) h = inits s old.is_open h
  audited-open moment (Begin kind) h = absurd h
  audited-open moment (BeginAt profile name bytes) h = absurd h
  audited-open moment BeginScrub h = absurd h
  audited-open moment BeginPack h = absurd h
  audited-open moment (Step job) h = steps job old.is_open refl h
  audited-open moment (Alter j object stripe place symbol) h = replaces_if (nat_lt j old.handed) j
      (λ held. HasPlace (held object stripe) place) (with_symbol object stripe place symbol) h
  audited-open moment (Lose j object stripe) h = replaces_if (nat_lt j old.handed) j
      (λ held. IsSome (held object stripe)) (without_block object stripe) h
  audited-open moment (Stop picks) h = absurd h
  audited-open moment Reopen h = absurd h
  audited-open moment Names h = lists old.is_open h
  audited-open moment Continue h = absurd h

-- an open vault has the setup in effect; where none is open, no audit ended
flags-by : (o : Option Vault) (s : Option Alone) (next : ℕ) (d : Devices) (old new : State) (moment : ℕ)
    (e : Event) (outcome : Outcome) → StandsBy o s next d new → Happens 8 moment old e outcome new
    → flagged_by (setup_in new).tolerance outcome ≡ flagged_by (table_tolerance (option_map table_of o)) outcome
unfolding setup_in
flags-by (Some v) None next d old new moment e outcome S h =
    ap (λ (x : Option Setup). flagged_by (setup_or_none x).tolerance outcome)
    (sym (table-like v.desk.core new S.desk.core).setup)
flags-by (Some v) (Some (alone.Scrub job)) next d old new moment e outcome S h =
    ap (λ (x : Option Setup). flagged_by (setup_or_none x).tolerance outcome)
    (sym (table-like v.desk.core (unalone new) S.beside.desk.core).setup)
flags-by (Some v) (Some (alone.Pack job)) next d old new moment e outcome S h =
    ap (λ (x : Option Setup). flagged_by (setup_or_none x).tolerance outcome)
    (sym (table-like v.desk.core (plain new) S.beside.desk.core).setup)
flags-by None s next d old new moment e (Ended (Audited number undecided counts)) S h =
    absurd (false≢true (sym S.closed ∙ audited-open old new number undecided counts moment e h))
flags-by None s next d old new moment e outcome S h = refl

-- the last moment of a run flags by the tolerance that the client's table has
pub judged : (start : State) (ms : List Moment) (m : Moment) (c : Client) (d : Devices) →
    IsReached start (m ∷ ms) c d → (tolerance : ℕ) → tolerance ≡ table_tolerance (names_of c)
    → FlagsBy tolerance m
judged start ms m c d R tolerance is =
    flags-by c.vault c.alone c.next_job d (now start ms) m.state (length ms) m.event m.outcome R.stands R.run.1
    ∙ ap (λ (t : ℕ). flagged_by t m.outcome) (sym is)
