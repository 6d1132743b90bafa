-- What a client and its devices stand for.
use Rattle.hail_client.proofs.Words.{◌≡◌, ℕ, ◌≤◌, Option, Some, None, refl, ap, sym, subst, ◌∙◌, arith, is_some, option_map, files_of, unalone, Continue, Continued, Listed, Closed, Lists, State, IsStart, continued, IsSound, start-sound, events-sound, Vault, DeskStands, plain, table_of, provider_count, Devices, devices, AreDevices, Alone, Client, next_job_by, uses_by, names_outcome, StandsClosed, StandsBy, ClientStands, shown-again}
use Rattle.std.proofs.Common.{length}
use Rattle.record_defs.specs.Records.{Setup}
use Rattle.vault_core.proofs.Alike.{table-like}
use Rattle.hail_client.specs.declared.alone.Alone.TheVariants as alone

-- a client whose parts are these
pub stands-of : (c : Client) (o : Option Vault) (s : Option Alone) (next : ℕ) → c.vault ≡ o → c.alone ≡ s →
    c.next_job ≡ next → (d : Devices) (w : State) → StandsBy o s next d w → ClientStands c d w
stands-of c o s next vault scrub number d w S = subst (λ (x : Option Vault). StandsBy x c.alone c.next_job d
    w) (sym vault) (subst (λ (x : Option Alone). StandsBy o x c.next_job d w) (sym scrub)
    (subst (λ (n : ℕ). StandsBy o s n d w) (sym number) S))

-- and what it says of its parts
pub parts-of : (c : Client) (o : Option Vault) (s : Option Alone) → c.vault ≡ o → c.alone ≡ s →
    (d : Devices) (w : State) → ClientStands c d w → StandsBy o s c.next_job d w
parts-of c o s vault scrub d w S = subst (λ (x : Option Vault). StandsBy x s c.next_job d w) vault
    (subst (λ (x : Option Alone). StandsBy c.vault x c.next_job d w) scrub S)

-- devices are those of a state, whether or not something runs alone in it
pub beside-devices : (d : Devices) (w : State) → AreDevices d (unalone w) → AreDevices d w
beside-devices d w are = record {
  images = shown-again d.holds (unalone w) w refl refl refl refl are.images;
  faults = are.faults;
  providers = record { count = are.providers.count; each = are.providers.each };
}

-- devices that stand for a state are those of that state
pub devices-of : (o : Option Vault) (s : Option Alone) (next : ℕ) (d : Devices) (w : State) →
    StandsBy o s next d w → AreDevices d w
devices-of (Some v) None next d w S = S.desk.devices
devices-of (Some v) (Some (alone.Scrub job)) next d w S = beside-devices d w S.beside.desk.devices
devices-of (Some v) (Some (alone.Pack job)) next d w S = S.devices
devices-of None s next d w S = S.devices

-- client and devices stand for sound states only
pub sound-of : (o : Option Vault) (s : Option Alone) (next : ℕ) (d : Devices) (w : State) →
    StandsBy o s next d w → IsSound 8 w
sound-of (Some v) None next d w S = S.desk.core.sound
sound-of (Some v) (Some (alone.Scrub job)) next d w S = S.sound
sound-of (Some v) (Some (alone.Pack job)) next d w S = S.sound
sound-of None s next d w S = S.sound

-- the next job's number of a client is that of the state it stands for
pub next-of : (o : Option Vault) (s : Option Alone) (next : ℕ) (d : Devices) (w : State) →
    StandsBy o s next d w → w.next_job ≡ next_job_by o next
next-of (Some v) None next d w S = sym S.desk.core.next_job
next-of (Some v) (Some (alone.Scrub job)) next d w S = sym S.beside.desk.core.next_job
next-of (Some v) (Some (alone.Pack job)) next d w S = sym S.beside.desk.core.next_job
next-of None s next d w S = S.next_job_is

-- a vault is open in both or in neither
pub open-of : (o : Option Vault) (s : Option Alone) (next : ℕ) (d : Devices) (w : State) →
    StandsBy o s next d w → w.is_open ≡ is_some o
open-of (Some v) None next d w S = S.desk.core.is_open
open-of (Some v) (Some (alone.Scrub job)) next d w S = S.beside.desk.core.is_open
open-of (Some v) (Some (alone.Pack job)) next d w S = S.beside.desk.core.is_open
open-of None s next d w S = S.closed

listed : (v : Vault) (d : Devices) (w u : State) → u.records ≡ w.records → u.is_open ≡ w.is_open →
    DeskStands v.desk d u → Lists w w.is_open (Listed (table_of v).files) w
listed v d w u records opened S = subst (λ b. Lists w b (Listed (table_of v).files) w)
    (sym S.core.is_open ∙ opened) ((table-like v.desk.core u S.core).files ∙ ap files_of records, refl)

-- the files that a client lists are those in effect
pub lists-of : (o : Option Vault) (s : Option Alone) (next : ℕ) (d : Devices) (w : State) →
    StandsBy o s next d w → Lists w w.is_open (names_outcome (option_map table_of o)) w
lists-of (Some v) None next d w S = listed v d w w refl refl S.desk
lists-of (Some v) (Some (alone.Scrub job)) next d w S = listed v d w (unalone w) refl refl S.beside.desk
lists-of (Some v) (Some (alone.Pack job)) next d w S =
    listed v (devices None d.faults d.providers) w (plain w) refl refl S.beside.desk
lists-of None s next d w S = subst (λ b. Lists w b Closed w) (sym S.closed) refl

enough-by : (v : Vault) (d : Devices) (w : State) → DeskStands v.desk d w → provider_count v ≤ length d.providers
enough-by v d w S = (let a = S.core.sound.handed S.core.is_open in
    let b = S.devices.providers.count in
    let c = ap (λ (z : Setup). z.n) S.setup in
    omega (arith, a, b, c))

-- there are as many providers as the vault of a client uses
pub enough-of : (o : Option Vault) (s : Option Alone) (next : ℕ) (d : Devices) (w : State) →
    StandsBy o s next d w → uses_by o ≤ length d.providers
enough-of (Some v) None next d w S = enough-by v d w S.desk
enough-of (Some v) (Some (alone.Scrub job)) next d w S = enough-by v d (unalone w) S.beside.desk
enough-of (Some v) (Some (alone.Pack job)) next d w S =
    enough-by v (devices None d.faults d.providers) (plain w) S.beside.desk
enough-of None s next d w S = omega arith

-- a client with no vault open stands for a state before the first event
pub start-stands : (d : Devices) (w : State) → IsStart w → AreDevices d w → StandsClosed 1 d w
start-stands d w start are =
    record {
      devices = are;
      sound = start-sound 8 w start;
      closed = start.closed;
      next_job_is = start.first_job;
    }

-- and for the state in which a later call of the program goes on
pub continued-stands : (d : Devices) (w : State) → IsSound 8 w → AreDevices d w →
    StandsClosed 1 d (continued w)
continued-stands d w sound are = record {
  devices = record {
    images = shown-again d.holds w (continued w) refl refl refl refl are.images;
    faults = are.faults;
    providers = record { count = are.providers.count; each = are.providers.each };
  };
  sound = events-sound 8 0 w sound (omega arith, omega arith) Continue Continued (continued w) tt refl;
  closed = refl;
  next_job_is = refl;
}
