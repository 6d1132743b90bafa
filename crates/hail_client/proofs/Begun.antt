-- An init as an event of the machine.
use Rattle.hail_client.proofs.Words.{◌≡◌, inl, inr, ℕ, Bool, false, List, Option, Some, None, Result, refl, ap, sym, subst, ◌∙◌, arith, IsSome, is_some, false≢true, Cells, Provider, is_setup, Outcome, Init, Ready, Refused, IsSpelled, State, Settles, Inits, InitsBy, InitsClosed, events-sound, Vault, Devices, devices, AreDevices, Alone, Client, StandsBy, ClientStands, MakesEvent}
use Rattle.std.proofs.Common.{true}
use Rattle.record_defs.specs.Records.{Setup}
use Rattle.machine_defs.specs.Refusals as refusal
use Rattle.vault_open.specs.declared.fault.InitFault.{InitFault}
use Rattle.vault_open.specs.Inits.{MayInit, MakesInit}
use Rattle.vault_open.specs.Inits.{init_outcome}
use Rattle.hail_client.proofs.Standing.{open-of}

-- a vault is open or not as before, and job numbers go on
abbrev Keeps : State → State → Type 0
Keeps old new = (new.is_open ≡ old.is_open) × (new.next_job ≡ old.next_job)

same-keeps : (old new : State) → new ≡ old → Keeps old new
same-keeps old new is = (ap (λ (u : State). u.is_open) is, ap (λ (u : State). u.next_job) is)

settled-keeps : (old mid : State) → Settles old mid → Keeps old mid
settled-keeps old mid (inl is) = (ap (λ (u : State). u.is_open) is, ap (λ (u : State). u.next_job) is)
settled-keeps old mid (inr (d, in_doubt, is)) =
    (ap (λ (u : State). u.is_open) is, ap (λ (u : State). u.next_job) is)

closed-keeps : (old new : State) (s : Setup) (r : Outcome) → InitsClosed old s r new → Keeps old new
closed-keeps old new s (Refused refusal.DiskFault) (doubt, leaves, (faults, low, rose, is)) =
    (ap (λ (u : State). u.is_open) is, ap (λ (u : State). u.next_job) is)
closed-keeps old new s (Refused refusal.Memory) (doubt, leaves, is) =
    (ap (λ (u : State). u.is_open) is, ap (λ (u : State). u.next_job) is)
closed-keeps old new s (Refused refusal.Already) (mid, settles, up, (faults, low, is)) =
    (let k = settled-keeps old mid settles in
    (ap (λ (u : State). u.is_open) is ∙ k.0, ap (λ (u : State). u.next_job) is ∙ k.1))
closed-keeps old new s Ready (mid, settles, down, (faults, low, is)) =
    (let k = settled-keeps old mid settles in
    (ap (λ (u : State). u.is_open) is ∙ k.0, ap (λ (u : State). u.next_job) is ∙ k.1))
closed-keeps old new s r h = absurd h

by-keeps : (old new : State) (s : Setup) (valid : Bool) (r : Outcome) → InitsBy old s valid r new →
    Keeps old new
by-keeps old new s false (Refused refusal.BadSetup) is = same-keeps old new is
by-keeps old new s true r h = closed-keeps old new s r h
by-keeps old new s false r h = absurd h

inits-keep : (old new : State) (s : Setup) (is_open : Bool) (r : Outcome) → Inits old s is_open r new →
    Keeps old new
inits-keep old new s true (Refused refusal.Already) is = same-keeps old new is
inits-keep old new s false r h = by-keeps old new s (is_setup s) r h
inits-keep old new s true r h = absurd h

-- ---- events

module _ (w : State) (moment : ℕ) (s : Setup) (spelled : IsSpelled (Init s)) where
  -- while a vault is open
  pub init-open : (c : Client) (d : Devices) → is_some c.vault ≡ true → ClientStands c d w →
      MakesEvent w moment (Init s) (Refused refusal.Already) c d
  init-open c d some S = record {
    state = w;
    spelled = spelled;
    happens = subst (λ b. Inits w s b (Refused refusal.Already) w)
        (sym (open-of c.vault c.alone c.next_job d w S ∙ some)) refl;
    stands = S;
  }

  init-by : (o : Option Vault) (x : Option Alone) (next : ℕ) (old new : Option Cells) (f g : ℕ) (ps : List Provider)
      (result : Result Unit InitFault) → is_some o ≡ false → IsSome old →
      (MayInit w old → AreDevices (devices old f ps) w → MakesInit w moment s result (devices new g ps)) →
      StandsBy o x next (devices old f ps) w →
      (M : MakesInit w moment s result (devices new g ps)) × StandsBy o x next (devices new g ps) M.state
  init-by (Some v) x next old new f g ps result none told makes S = absurd (false≢true (sym none))
  init-by None x next old new f g ps result none told makes S =
      (let M = makes (record { sound = S.sound; closed = S.closed; told_is = told }) S.devices in
      let k = inits-keep w M.state s w.is_open (init_outcome result) M.happens in (
        M,
        record {
          devices = M.devices;
          sound = events-sound 8 moment w S.sound (omega arith, omega arith) (Init s)
              (init_outcome result) M.state spelled M.happens;
          closed = k.0 ∙ S.closed;
          next_job_is = k.1 ∙ S.next_job_is;
        },
      ))

  -- while none is open
  pub init-closed : (c : Client) (old new : Option Cells) (f g : ℕ) (ps : List Provider)
      (result : Result Unit InitFault) → is_some c.vault ≡ false → IsSome old →
      (MayInit w old → AreDevices (devices old f ps) w → MakesInit w moment s result (devices new g ps)) →
      ClientStands c (devices old f ps) w →
      MakesEvent w moment (Init s) (init_outcome result) c (devices new g ps)
  init-closed c old new f g ps result none told makes S =
      (let M = init-by c.vault c.alone c.next_job old new f g ps result none told makes S in
      record { state = M.0.state; spelled = spelled; happens = M.0.happens; stands = M.1 })
