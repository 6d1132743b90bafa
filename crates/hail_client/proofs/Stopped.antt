-- A stop as an event of the machine.
use Rattle.hail_client.proofs.Words.{◌≡◌, ℕ, List, Option, Some, None, refl, sym, subst, ◌∙◌, Cells, Goes, Provider, Record, Area, Stop, AreBytes, State, StandsForState, IsSound, devices, AreDevices, bytes-shown, Client, client_next_job, without_vault, StandsClosed, ClientStands, MakesEvent}
use Rattle.device_defs.specs.Disks.{Stopped}
use Rattle.machine_defs.specs.Events as events
use Rattle.hail_client.proofs.Standing.{devices-of, sound-of, next-of}
use Rattle.hail_client.proofs.Settled.{AreLeft, left_with, left-rereads, left-sound, same-left, image-left}

-- the vault is given up over devices that stand for the state with these records and nothing in doubt
closed-stands : (w : State) (rs js : List Record) (area : Area) (told : Option Cells) (faults next : ℕ)
    (ps : List Provider) → IsSound 8 w → AreLeft w rs js area → w.next_job ≡ next → w.disk_faults ≡ faults →
    (ws : AreDevices (devices told faults ps) (left_with w rs js area)) →
    StandsClosed next (devices told faults ps) (left_with w rs js area)
closed-stands w rs js area told faults next ps sound left next_is faults_are are =
    record { devices = are; sound = left-sound w rs js area sound left; closed = refl; next_job_is = next_is }

-- the records and the journal that are left, over a disk that was stopped
record StoppedAt (w : State) (new : Option Cells) : Type 0 where
  records : List Record
  journal : List Record
  area : Area
  left : AreLeft w records journal area
  stands : StandsForState new (left_with w records journal area)

-- where the disk goes, there is one of those that it stands for
stopped-left : (w : State) (old new : Option Cells) → Goes Stopped old new → StandsForState old w →
    StoppedAt w new
stopped-left w None None goes stands =
    record { records = w.records; journal = w.journal; area = w.area; left = same-left w; stands = tt }
stopped-left w None (Some new) goes stands = absurd goes
stopped-left w (Some old) None goes stands = absurd goes
stopped-left w (Some old) (Some new) (image, is, new_is) stands =
    let L = image-left w image (stands image is) in
    record {
      records = L.records;
      journal = L.journal;
      area = L.area;
      left = L.left;
      stands = subst (λ (c : Cells). StandsForState (Some c) (left_with w L.records L.journal L.area))
          (sym new_is) (bytes-shown image (left_with w L.records L.journal L.area) L.shows);
    }

-- a stop of client and disk is one of the machine: the client is left without its vault
pub stops : (w : State) (moment : ℕ) (picks : List ℕ) (c next : Client) (old new : Option Cells) (f g : ℕ)
    (ps : List Provider) → AreBytes picks → next ≡ without_vault (client_next_job c) →
    Goes Stopped old new → g ≡ f → ClientStands c (devices old f ps) w →
    MakesEvent w moment (Stop picks) events.Stopped next (devices new g ps)
stops w moment picks c next old new f g ps spelled next_is goes same S =
    let are = devices-of c.vault c.alone c.next_job (devices old f ps) w S in
    let sound = sound-of c.vault c.alone c.next_job (devices old f ps) w S in
    let k = stopped-left w old new goes are.images in
    let after = left_with w k.records k.journal k.area in
    record {
      state = after;
      spelled = spelled;
      happens = left-rereads w k.records k.journal k.area k.left;
      stands = subst (λ (x : Client). ClientStands x (devices new g ps) after) (sym next_is)
          (closed-stands w k.records k.journal k.area new g (client_next_job c) ps sound k.left
          (next-of c.vault c.alone c.next_job (devices old f ps) w S) (are.faults ∙ sym same) (record {
            images = k.stands;
            faults = are.faults ∙ sym same;
            providers = record { count = are.providers.count; each = are.providers.each };
          }));
    }
