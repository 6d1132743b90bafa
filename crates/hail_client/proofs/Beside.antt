-- A vault that is held, beside a scrub or a pack.
use mathlib.Core.Bool.{Bool-set}
use mathlib.Core.HLevel.{is_prop→PathP}
use Rattle.hail_client.proofs.Words.{◌≡◌, ℕ, ◌≤◌, false, [], Option, Some, None, Result, Err, List, ap, sym, subst, ◌∙◌, OnErr, IfSome, is_some, ∥∥₁_elim, ∥∥₁_map, ∥∥₁_prop, ℕ_set, is_some-none, with_master, Pack, WritesText, number_alone, unalone, State, setup_in, other_area, CoreIs, BeginFault, Devices, devices, PackJob, Vault, DeskStands, IsAtWork, IsShaped, IsFlight, IsPackText, IsPackOf, StandsPacking, plain, held_by, IsUnchanged, wants_of, IsStreamless, KeepsStreamless, by_work, Alone, ScrubJob, Client, StandsHeld, StandsAlone}
use Rattle.std.specs.Prelude.{true}
use Rattle.record_codec.specs.declared.setup.Setup.{Setup}
use Rattle.journal_pack.specs.Tables.{packed_table}
use Rattle.machine_defs.specs.States as states
use Rattle.vault_core.specs.View.{CoreView}
use Rattle.vault_core.specs.declared.wish.BeginFault.TheVariants as fault
use Rattle.vault.specs.declared.desk.Desk.{Desk}
use Rattle.vault.specs.declared.flight.Flight.{Flight}
use Rattle.vault.specs.declared.tasks.Running.{Running}
use Rattle.vault.specs.AtHand.{AreAtHand}
use Rattle.vault.specs.Running.{IsSameDesk}
use Rattle.vault.specs.Tasks.{AreRunning}
use Rattle.hail_client.specs.AtWork as client
use Rattle.hail_client.specs.declared.alone.Alone.TheVariants as alone

-- clients of the same parts are one
pub same-client : (a b : Client) → a.vault ≡ b.vault → a.alone ≡ b.alone → a.next_job ≡ b.next_job → a ≡ b
same-client a b vault alone number = λ i. record {
  vault = vault i;
  alone = alone i;
  next_job = number i;
  at_work = is_prop→PathP (λ j. ∥ client.IsAloneAtWork (vault j) (alone j) ∥₁) (λ j. ∥∥₁_prop)
      a.at_work b.at_work i;
  streamless = is_prop→PathP (λ j. ∥ IfSome (vault j) IsStreamless ∥₁) (λ j. ∥∥₁_prop) a.streamless b.streamless i;
}

-- a desk at work has the shape of its setup
shaped : (v : Desk) → IsAtWork v → IsShaped v
shaped v at = record {
  n = by_work (ℕ_set _ _) v (λ w faults ps S. S.shaped.n) at;
  l = by_work (ℕ_set _ _) v (λ w faults ps S. S.shaped.l) at;
  b = by_work (ℕ_set _ _) v (λ w faults ps S. S.shaped.b) at;
}

-- a desk stands for what it stood for, where nothing of it changed but spare room
pub same-desk : (v next : Desk) (d : Devices) (w : State) → IsAtWork next → IsSameDesk v next →
    DeskStands v d w → DeskStands next d w
same-desk v next d w at same S = record {
  devices = S.devices;
  core = subst (λ (c : CoreView). CoreIs c w) (sym same.core) S.core;
  base = same.base ∙ S.base;
  setup = S.setup ∙ sym (λ i. with_master (same.setup i) (same.master i).0);
  shaped = shaped next at;
  jobs = subst (λ (l : List Running). AreRunning (setup_in w) l w.jobs) (sym same.jobs) S.jobs;
  streams = subst (λ (c : CoreView). AreAtHand (setup_in w) c.jobs next.jobs.items w.jobs) (sym same.core)
      (subst (λ (l : List Running). AreAtHand (setup_in w) v.core.jobs l w.jobs) (sym same.jobs) S.streams);
  flight = λ free. subst (λ (f : Option Flight). IsFlight f w.append w.area w.journal d.holds) (sym same.flight)
      (S.flight free);
}

-- so does a vault beside a scrub
pub same-held : (v next : Vault) (job : ScrubJob) (d : Devices) (w : State) → IsUnchanged v next →
    StandsHeld v job d w → StandsHeld next job d w
same-held v next job d w same S = record {
  scrub = S.scrub;
  number_is = S.number_is;
  beside = record {
    held = same.1 ∙ S.beside.held;
    desk = same-desk v.desk next.desk d (unalone w) next.at_work same.0 S.beside.desk;
    idle = S.beside.idle;
    unbarred = S.beside.unbarred;
  };
  stands = S.stands;
  sound = S.sound;
}

same-beside : (v next : Vault) (job : ScrubJob) → IsUnchanged v next → client.IsBesideVault v job →
    client.IsBesideVault next job
same-beside v next job same is = record {
  held = same.1 ∙ is.held;
  going = is.going;
  fits = subst (λ (n : ℕ). job.scrub.providers ≤ n) (sym (ap (λ (s : Setup). s.n) same.0.setup)) is.fits;
  scrub = is.scrub;
}

-- and beside a pack
same-text : (v next : Desk) (p : Pack) → IsSameDesk v next → IsPackText v p → IsPackText next p
same-text v next p same T = record {
  writes = λ area base. subst (λ (c : CoreView). WritesText (other_area area) (packed_table c.table) p)
      (sym same.core) (T.writes area (sym same.base ∙ base));
  version = ap (λ (c : CoreView). c.table.version) same.core ∙ T.version;
}

same-pack : (v next : Vault) (job : PackJob) → IsUnchanged v next → IsPackOf v job → IsPackOf next job
same-pack v next job same is = record {
  held = same.1 ∙ is.held;
  quiet = record {
    idle = ap (λ (c : CoreView). c.jobs) same.0.core ∙ is.quiet.idle;
    unbarred = ap (λ (c : CoreView). c.barred) same.0.core ∙ is.quiet.unbarred;
    flight = same.0.flight ∙ is.quiet.flight;
  };
  text = λ going. same-text v.desk next.desk job.pack same.0 (is.text going);
}

same-packing : (v next : Vault) (job : PackJob) (d : Devices) (w : State) → IsUnchanged v next →
    StandsPacking v job d w → StandsPacking next job d w
same-packing v next job d w same S = record {
  pack = S.pack;
  alone = S.alone;
  number_is = S.number_is;
  before_is = S.before_is;
  moves_are = S.moves_are;
  is_of = same-pack v next job same S.is_of;
  sound = S.sound;
  devices = S.devices;
  beside = record {
    held = same.1 ∙ S.beside.held;
    desk = same-desk v.desk next.desk (devices None d.faults d.providers) (plain w) next.at_work same.0
        S.beside.desk;
    idle = S.beside.idle;
    unbarred = S.beside.unbarred;
  };
  on_way = S.on_way;
  switching = S.switching;
  made = S.made;
}

-- so does one beside what runs alone
pub same-alone : (v next : Vault) (x : Alone) (d : Devices) (w : State) → IsUnchanged v next →
    StandsAlone v x d w → StandsAlone next x d w
same-alone v next (alone.Scrub job) d w same S = same-held v next job d w same S
same-alone v next (alone.Pack job) d w same S = same-packing v next job d w same S

same-beside-alone : (v next : Vault) (x : Alone) → IsUnchanged v next → client.IsBeside v x →
    client.IsBeside next x
same-beside-alone v next (alone.Scrub job) same is = same-beside v next job same is
same-beside-alone v next (alone.Pack job) same is = same-pack v next job same is

-- ---- what runs alone in a state

-- the vault is held, and the machine has it too
pub record IsAlone (v : Vault) (x : Alone) (w : State) : Type 0 where
  pub held : held_by v ≡ Some (client.alone_number x)
  pub is_open : w.is_open ≡ true
  pub unbarred : w.is_barred ≡ false
  pub idle : w.jobs ≡ []
  pub what : states.Alone
  pub alone_is : w.alone ≡ Some what
  pub number_is : client.alone_number x ≡ number_alone what

pub beside-of : (v : Vault) (x : Alone) (d : Devices) (w : State) → StandsAlone v x d w → IsAlone v x w
beside-of v (alone.Scrub job) d w S = record {
  held = S.beside.held ∙ ap Some (sym S.number_is);
  is_open = S.beside.desk.core.is_open;
  unbarred = S.beside.unbarred;
  idle = S.beside.idle;
  what = states.Scrubbing S.scrub;
  alone_is = S.stands.alone;
  number_is = S.number_is;
}
beside-of v (alone.Pack job) d w S = record {
  held = S.beside.held;
  is_open = S.beside.desk.core.is_open;
  unbarred = S.beside.unbarred;
  idle = S.beside.idle;
  what = states.Packing S.pack;
  alone_is = S.alone;
  number_is = S.number_is;
}

-- ---- a client is at work

-- what runs alone runs beside a vault that is held
pub held-at : (v : Vault) (x : Alone) → client.IsBeside v x → is_some (held_by v) ≡ true
held-at v (alone.Scrub job) is = ap is_some is.held
held-at v (alone.Pack job) is = ap is_some is.held

-- a client is at work as before a begin
pub begun-works : {T : Type 0} (v next : Vault) (o : Option Alone) (result : Result T BeginFault) →
    (is_some (held_by v) ≡ true → result ≡ Err fault.Busy) → OnErr result (IsUnchanged v next) →
    client.IsAloneAtWork (Some v) o → client.IsAloneAtWork (Some next) o
begun-works v next None result busy unchanged at = tt
begun-works {T} v next (Some x) result busy unchanged at = same-beside-alone v next x
    (subst (λ (r : Result T BeginFault). OnErr r (IsUnchanged v next)) (busy (held-at v x at)) unchanged) at

-- the same of a client whose vault this is
pub begun-at : {T : Type 0} (v next : Vault) (o : Option Vault) (s : Option Alone) (result : Result T BeginFault) →
    o ≡ Some v → (is_some (held_by v) ≡ true → result ≡ Err fault.Busy) → OnErr result (IsUnchanged v next) →
    ∥ client.IsAloneAtWork o s ∥₁ → ∥ client.IsAloneAtWork (Some next) s ∥₁
begun-at v next o s result is busy unchanged at = ∥∥₁_map at (λ x. begun-works v next s result busy unchanged
    (subst (λ (p : Option Vault). client.IsAloneAtWork p s) is x))

-- no stream of a client is open, as before
pub streamless-on : (v next : Vault) (o : Option Vault) → o ≡ Some v → KeepsStreamless v next →
    ∥ IfSome o IsStreamless ∥₁ → ∥ IsStreamless next ∥₁
streamless-on v next o is keeps none =
    ∥∥₁_map none (λ x. keeps (subst (λ (p : Option Vault). IfSome p IsStreamless) is x))

-- so no job of it waits for a stripe
pub none-wait : (v : Vault) (o : Option Vault) (job : ℕ) → o ≡ Some v → (IsStreamless v → wants_of v job ≡ None) →
    ∥ IfSome o IsStreamless ∥₁ → wants_of v job ≡ None
none-wait v o job is waits none = is_some-none (wants_of v job)
    (∥∥₁_elim (streamless-on v v o is (λ x. x) none) (Bool-set _ _) (λ x. ap is_some (waits x)))

-- a client with a vault open and nothing alone is at work
pub free-works : (v : Vault) (o : Option Alone) → o ≡ None → ∥ client.IsAloneAtWork (Some v) o ∥₁
free-works v o none = subst (λ (s : Option Alone). ∥ client.IsAloneAtWork (Some v) s ∥₁) (sym none) ∣ tt ∣₁

-- what a client has alone runs beside its vault
pub beside-at : (o : Option Vault) (s : Option Alone) (v : Vault) (x : Alone) → o ≡ Some v → s ≡ Some x →
    ∥ client.IsAloneAtWork o s ∥₁ → ∥ client.IsBeside v x ∥₁
beside-at o s v x is some at = ∥∥₁_map at (λ y. subst (λ (q : Option Alone). client.IsAloneAtWork (Some v) q)
    some (subst (λ (p : Option Vault). client.IsAloneAtWork p s) is y))

-- ---- what is taken out of a client

-- what was taken was there
pub taken : (o r : Option Alone) (x y : Alone) → r ≡ o → r ≡ Some x → x ≡ y → o ≡ Some y
taken o r x y was is same = sym was ∙ (is ∙ ap Some same)

-- and has this number
pub number-taken : (x y : Alone) (number job : ℕ) → x ≡ y → number ≡ client.alone_number x → number ≡ job →
    client.alone_number y ≡ job
number-taken x y number job same is fits = sym (ap client.alone_number same) ∙ (sym is ∙ fits)
