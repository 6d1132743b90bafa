-- A pack that runs alone beside a client's vault: its begin and its steps, as events of the machine.
use mathlib.Core.Bool.{Bool-set}
use Rattle.hail_client.proofs.Words.{◌≡◌, ℕ, zero, suc, ◌==◌, ◌<◌, ◌≤◌, ◌^◌, false, List, [], ◌∷◌, Option, None, Some, Result, Err, refl, ap, sym, subst, ◌∙◌, inl, inr, ◌⊎◌, arith, is_some, unwrap_or, ∥∥₁_elim, ℕ_set, false≢true, eq-eqb, is_some-none, Cells, Provider, Pack, moves_of, pack_causes, pack_refusal, BeginsPack, BeginPack, Step, Refused, More, Ended, Happens, State, cond_true, version_of, refusal_of, IsNoJob, calls_disk, called_provider, calls-nothing, BeginFault, Devices, devices, PackJob, Vault, IsPackOf, StandsPacking, pack_answer, PacksOver, MakesPackStep, held_by, IsUnchanged, Stands, client_coming, coming_by, pack_coming, pack_alone, Alone, Client, client_begin_outcome, StandsBy, ClientStands, MakesEvent, ClientMakesStep}
use Rattle.std.proofs.Common.{true, length}
use Rattle.std.proofs.Props.{props}
use Rattle.disk_model.specs.declared.disk.Disk.{Ghosts as DiskGhosts}
use Rattle.provider_model.specs.declared.provider.Provider.{Ghosts as ProviderGhosts}
use Rattle.machine_defs.specs.Refusals as refusal
use Rattle.machine_defs.specs.States as states
use Rattle.vault_core.specs.Coming.{Coming}
use Rattle.vault_core.specs.declared.wish.BeginFault.TheVariants as fault
use Rattle.stripe_bench.proofs.Sights.{called-none}
use Rattle.vault.specs.Steps.{CallsNext, CallsPack}
use Rattle.vault.specs.declared.packing.PackAnswer.{PackAnswer}
use Rattle.vault.specs.declared.packing.PackTurn.{PackTurn}
use Rattle.vault.specs.declared.packing.PackTurn.TheVariants as turn
use Rattle.hail_client.specs.declared.alone.Alone.TheVariants as alone
use Rattle.hail_client.specs.declared.turn.ClientTurn.TheVariants as client_turn
use Rattle.hail_client.specs.declared.turn.PackStep.TheVariants as pack_step
use Rattle.hail_client.proofs.Beside.{beside-of, same-alone}
use Rattle.hail_client.proofs.Scrubs.{alone-busy}
use Rattle.hail_client.proofs.Standing.{stands-of, parts-of}

-- ---- what is known of a pack beside a vault

-- the moves of the one that runs alone
pub its-pack : (o : Option Alone) (job : PackJob) (p : Pack) → o ≡ Some (alone.Pack job) → pack_alone o ≡ Some p →
    job.pack ≡ p
its-pack o job p runs is = ap (λ (x : Option Pack). unwrap_or x job.pack) (sym (ap pack_alone runs) ∙ is)

-- no items in a list of none
none-of : {X : Type 0} (xs : List X) → length xs ≡ 0 → xs ≡ []
none-of [] e = refl
none-of (x ∷ xs) e = absurd (omega (arith, e))

-- a pack is one of a vault in one way
pub pack-of : (v : Vault) (job : PackJob) → ∥ IsPackOf v job ∥₁ → IsPackOf v job
pack-of v job at = record {
  held = ∥∥₁_elim at (hlevel props) (λ x. x.held);
  quiet = record {
    idle = none-of v.desk.core.jobs (∥∥₁_elim at (ℕ_set _ _) (λ x. ap length x.quiet.idle));
    unbarred = ∥∥₁_elim at (Bool-set _ _) (λ x. x.quiet.unbarred);
    flight = is_some-none v.desk.flight (∥∥₁_elim at (Bool-set _ _) (λ x. ap is_some x.quiet.flight));
  };
  text = λ going. record {
    writes = λ area base. ∥∥₁_elim at (hlevel props) (λ x. (x.text going).writes area base);
    version = ∥∥₁_elim at (ℕ_set _ _) (λ x. (x.text going).version);
  };
}

-- ---- begins

-- a begin is refused as busy
abbrev IsBusy : Result PackJob BeginFault → Type 0
IsBusy result = result ≡ Err fault.Busy

busy-why : (w : State) (a : states.Alone) → w.is_barred ≡ false → w.alone ≡ Some a →
    pack_refusal w ≡ Some refusal.Busy
busy-why w a free alone_is = alone-busy w a free alone_is
    (pack_causes (version_of w.records) w.area w.journal)

refused-why : (w : State) (why : BeginFault) →
    ((pack_refusal w ≡ Some (refusal_of why)) ⊎ (why ≡ fault.Memory)) →
    ((pack_refusal w ≡ Some (refusal_of why)) ⊎ (refusal_of why ≡ refusal.Memory))
refused-why w why (inl e) = inl e
refused-why w why (inr m) = inr (ap refusal_of m)

-- a begin of a vault that was refused is one that the machine refuses
pub pack-refused : (c new : Client) (v next : Vault) (why : BeginFault) → c.vault ≡ Some v →
    new.vault ≡ Some next → new.alone ≡ c.alone → new.next_job ≡ c.next_job →
    ((w : State) (d : Devices) → Stands v d w → PacksOver w d (Err why) next) →
    (is_some (held_by v) ≡ true → IsBusy (Err why)) → IsUnchanged v next →
    (w : State) (d : Devices) (moment : ℕ) → ClientStands c d w →
    MakesEvent w moment BeginPack (client_begin_outcome (Some (Err why))) new d
pack-refused c new v next why is new_is alone_is number packs busy unchanged w d moment C =
    (let h = by c.alone (parts-of c (Some v) c.alone is refl d w C) in
    record {
      state = w;
      spelled = tt;
      happens = h.0;
      stands = stands-of new (Some next) c.alone c.next_job new_is alone_is number d w h.1;
    })
  where
    by : (o : Option Alone) → StandsBy (Some v) o c.next_job d w →
        BeginsPack w (Refused (refusal_of why)) w × StandsBy (Some next) o c.next_job d w
    by None S = (let h = packs w d S in ((S.desk.core.is_open, refused-why w why h.0, refl), h.1))
    by (Some x) S = (let L = beside-of v x d w S in
        let e : IsBusy (Err why) = busy (ap is_some L.held) in
        let same : why ≡ fault.Busy = cc in (
          (
            L.is_open,
            inl (busy-why w L.what L.unbarred L.alone_is
                ∙ sym (ap (λ (f : BeginFault). Some (refusal_of f)) same)),
            refl,
          ),
          same-alone v next x d w unchanged S,
        ))

-- ---- steps

-- where no job is, no device is called
module _ {W X : Type 0} (D : DiskGhosts W) (P : ProviderGhosts X) (disk : W) (ps : List X) where
  pub calls-idle : (coming : Coming) → coming ≡ IsNoJob → CallsNext D P coming disk ps disk ps
  calls-idle coming none = calls-nothing D P disk ps IsNoJob coming (sym none) refl refl

-- what comes next for a pack calls no provider
no-provider : (moves : ℕ) → called_provider (pack_coming moves) ≡ None
no-provider zero = refl
no-provider (suc zero) = refl
no-provider (suc (suc zero)) = refl
no-provider (suc (suc (suc zero))) = refl
no-provider (suc (suc (suc (suc moves)))) = refl

-- it is something
something : (moves : ℕ) → pack_coming moves ≡ IsNoJob → ⊥
something zero e = absurd cc
something (suc zero) e = absurd cc
something (suc (suc zero)) e = absurd cc
something (suc (suc (suc zero))) e = absurd cc
something (suc (suc (suc (suc moves)))) e = absurd cc

-- it calls the disk until four moves are made
calls-first : (moves : ℕ) → calls_disk (pack_coming moves) ≡ true → moves < 4
calls-first zero e = omega arith
calls-first (suc zero) e = omega arith
calls-first (suc (suc zero)) e = omega arith
calls-first (suc (suc (suc zero))) e = omega arith
calls-first (suc (suc (suc (suc moves)))) e = absurd (false≢true e)

calls-last : (moves : ℕ) → moves ≤ 4 → calls_disk (pack_coming moves) ≡ false → moves ≡ 4
calls-last zero l e = absurd (false≢true (sym e))
calls-last (suc zero) l e = absurd (false≢true (sym e))
calls-last (suc (suc zero)) l e = absurd (false≢true (sym e))
calls-last (suc (suc (suc zero))) l e = absurd (false≢true (sym e))
calls-last (suc (suc (suc (suc moves)))) l e = omega (arith, l)

module _ (c : Client) (v : Vault) (job : PackJob) (number : ℕ) (is : c.vault ≡ Some v)
    (some : c.alone ≡ Some (alone.Pack job)) (same : job.number ≡ number) where
  coming : client_coming c number ≡ pack_coming (moves_of job.pack)
  coming = (λ i. coming_by (is i) (some i) number)
      ∙ cond_true (job.number == number) _ _ (eq-eqb job.number number same)

  -- it calls the disk as long as moves are left, and no provider
  pub calls-pack : {W X : Type 0} (D : DiskGhosts W) (P : ProviderGhosts X) (disk new : W) (ps : List X)
      (t : PackTurn) → CallsPack D job.pack t disk new →
      CallsNext D P (client_coming c number) disk ps new ps
  calls-pack D P disk new ps t calls = record {
    tells = calls.tells;
    still = λ e. (calls.ends (calls-last (moves_of job.pack) job.undone (sym (ap calls_disk coming) ∙ e))).1;
    one_disk_call = λ e. calls.called (calls-first (moves_of job.pack) (sym (ap calls_disk coming) ∙ e));
    called = called-none P.calls _ ps (ap called_provider coming ∙ no-provider (moves_of job.pack));
  }

  -- something is next for it
  pub has-move : {X : Type 0} → client_coming c number ≡ IsNoJob → X
  has-move e = absurd (something (moves_of job.pack) (sym coming ∙ e))

  module _ (old new : Option Cells) (f g : ℕ) (ps : List Provider) (fits : number < 2 ^ 32) (next : Client)
      (left : Vault) (is_left : next.vault ≡ Some left) where
    -- a step that goes on is one of the machine
    pub packs-on : (after : PackJob) → next.alone ≡ Some (alone.Pack after) →
        ((w : State) → StandsPacking v job (devices old f ps) w →
        MakesPackStep w job.number (turn.More after) left (devices new g ps)) →
        (w : State) (moment : ℕ) → ClientStands c (devices old f ps) w →
        ClientMakesStep w moment number (Some (client_turn.Pack pack_step.More)) next (devices old f ps)
        (devices new g ps)
    packs-on after alone_is makes w moment C =
        (let M = makes w (parts-of c (Some v) (Some (alone.Pack job)) is some (devices old f ps) w C) in
        record {
          makes = record {
            state = M.state;
            spelled = fits;
            happens = subst (λ (k : ℕ). Happens 8 moment w (Step k) More M.state) same (M.happens 8 moment);
            stands = stands-of next (Some left) (Some (alone.Pack after)) next.next_job is_left alone_is refl
                (devices new g ps) M.state M.stands;
          };
          beyond = tt;
          torn = tt;
        })

    -- and so is one at which it ends
    pub packs-end : (answer : PackAnswer) → next.alone ≡ None →
        ((w : State) → StandsPacking v job (devices old f ps) w →
        MakesPackStep w job.number (turn.Done answer) left (devices new g ps)) →
        (w : State) (moment : ℕ) → ClientStands c (devices old f ps) w →
        ClientMakesStep w moment number (Some (client_turn.Pack (pack_step.Done answer))) next
        (devices old f ps) (devices new g ps)
    packs-end answer alone_is makes w moment C =
        (let M = makes w (parts-of c (Some v) (Some (alone.Pack job)) is some (devices old f ps) w C) in
        record {
          makes = record {
            state = M.state;
            spelled = fits;
            happens = subst (λ (k : ℕ). Happens 8 moment w (Step k) (Ended (pack_answer answer)) M.state) same
                (M.happens 8 moment);
            stands = stands-of next (Some left) None next.next_job is_left alone_is refl (devices new g ps)
                M.state M.stands;
          };
          beyond = tt;
          torn = tt;
        })
