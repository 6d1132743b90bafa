-- Steps of a scrub, as events of the machine.
use mathlib.Core.HLevel.{⊥_prop}
use Rattle.hail_client.proofs.Words.{◌≡◌, ◌≢◌, ℕ, ◌==◌, ◌<◌, ◌≤◌, ◌^◌, Bool, false, List, [], ◌∷◌, Option, Some, None, refl, ap, sym, subst, ◌∙◌, arith, slice_get, ∥∥₁_elim, false≢true, eq-eqb, Cells, Provider, unalone, Scrubs, StepsScrub, Step, Outcome, Ended, cond_true, Happens, State, Scrub, Scrubbing, setup_in, IsSound, events-sound, handed_same, setup_same, step_beside, ScrubIs, ScrubStands, MakesScrubStep, scrub_outcome, ScrubView, scrub_left, next_to_do, called_by, Vault, coming_of, provider_count, Stands, StandsBeside, held_replaced, Acts, IsNoJob, calls_disk, called_provider, Devices, devices, IsScrub, IsBesideVault, ScrubJob, Client, uses_by, scrub_coming, coming_by, client_coming, provider_or_empty, StandsHeld, ClientStands, ClientMakesStep}
use Rattle.std.proofs.Common.{true, length}
use Rattle.std.specs.Coded.{Unit-prop, le_prop}
use Rattle.disk_model.specs.declared.disk.Disk.{Ghosts as DiskGhosts}
use Rattle.provider_model.specs.declared.provider.Provider.{Ghosts as ProviderGhosts}
use Rattle.stripe_bench.specs.Calls.{CallsOnly}
use Rattle.vault.specs.Steps.{CallsNext}
use Rattle.journal_core.proofs.BeyondLemmas.{goes_still}
use Rattle.machine_defs.specs.Actions.{Action, WriteBody, SyncBody, WriteGate, SyncGate, Store, Fetch, Ask, Work, Remove, End}
use Rattle.machine_defs.specs.Answers as answers
use Rattle.machine_defs.specs.Steps.{StepsMine}
use Rattle.record_defs.specs.Records.{Setup}
use Rattle.hail_scrub.specs.declared.turn.ScrubAnswer.{ScrubAnswer}
use Rattle.hail_scrub.specs.declared.turn.ScrubAnswer.TheVariants as answer
use Rattle.hail_scrub.specs.declared.turn.ScrubTurn.{ScrubTurn}
use Rattle.hail_scrub.specs.declared.turn.ScrubTurn.TheVariants as turn
use Rattle.hail_client.specs.declared.alone.Alone.TheVariants as alone
use Rattle.hail_client.specs.declared.turn.ClientTurn.TheVariants as client_turn
use Rattle.hail_client.proofs.Fresh.{each-at}
use Rattle.hail_client.proofs.Replaced.{after}
use Rattle.hail_client.proofs.Standing.{stands-of, parts-of}

-- ---- the actions of a scrub

-- an action that a scrub has
abbrev pub IsScrubAction : Action → Type 0
IsScrubAction (Fetch j object stripe) = Unit {0}
IsScrubAction (Work object stripe) = Unit {0}
IsScrubAction (Store j object stripe) = Unit {0}
IsScrubAction End = Unit {0}
IsScrubAction action = ⊥

-- only these come to anything
acts-as-scrub : (w new : State) (m : Scrub) (action : Action) (rest : List Action) (outcome : Outcome) →
    Scrubs w m action rest outcome new → IsScrubAction action
acts-as-scrub w new m (Fetch j object stripe) rest outcome h = tt
acts-as-scrub w new m (Work object stripe) rest outcome h = tt
acts-as-scrub w new m (Store j object stripe) rest outcome h = tt
acts-as-scrub w new m End rest outcome h = tt
acts-as-scrub w new m WriteBody rest outcome h = absurd h
acts-as-scrub w new m SyncBody rest outcome h = absurd h
acts-as-scrub w new m WriteGate rest outcome h = absurd h
acts-as-scrub w new m SyncGate rest outcome h = absurd h
acts-as-scrub w new m (Ask j object round) rest outcome h = absurd h
acts-as-scrub w new m (Remove j object) rest outcome h = absurd h

-- what is next for a scrub, as what comes next for a client
pub record IsNext (v : ScrubView) : Type 0 where
  pub disk : calls_disk (scrub_coming (next_to_do v)) ≡ false
  pub provider : called_provider (scrub_coming (next_to_do v)) ≡ called_by (next_to_do v)
  pub some : scrub_coming (next_to_do v) ≢ IsNoJob

acts-no-job : (action : Action) → Acts action ≢ IsNoJob
acts-no-job action e = absurd cc

next-by : (v : ScrubView) (todo : List Action) → v.todo ≡ todo →
    ((action : Action) (rest : List Action) → todo ≡ action ∷ rest → IsScrubAction action) →
    0 < scrub_left v → IsNext v
next-by v [] is acts going = absurd (let l : 0 < scrub_left (record v { todo = [] }) =
    subst (λ (t : List Action). 0 < scrub_left (record v { todo = t })) is going in omega (arith, l))
next-by v (action ∷ rest) is acts going = by action (acts action rest refl) (ap (λ (t : List Action). slice_get t 0) is)
  where
    by : (a : Action) → IsScrubAction a → next_to_do v ≡ Some a → IsNext v
    by (Fetch j object stripe) h e = record {
      disk = ap (λ x. calls_disk (scrub_coming x)) e;
      provider = ap (λ x. called_provider (scrub_coming x)) e ∙ sym (ap called_by e);
      some = λ none. acts-no-job (Fetch j object stripe) (sym (ap scrub_coming e) ∙ none);
    }
    by (Work object stripe) h e = record {
      disk = ap (λ x. calls_disk (scrub_coming x)) e;
      provider = ap (λ x. called_provider (scrub_coming x)) e ∙ sym (ap called_by e);
      some = λ none. acts-no-job (Work object stripe) (sym (ap scrub_coming e) ∙ none);
    }
    by (Store j object stripe) h e = record {
      disk = ap (λ x. calls_disk (scrub_coming x)) e;
      provider = ap (λ x. called_provider (scrub_coming x)) e ∙ sym (ap called_by e);
      some = λ none. acts-no-job (Store j object stripe) (sym (ap scrub_coming e) ∙ none);
    }
    by End h e = record {
      disk = ap (λ x. calls_disk (scrub_coming x)) e;
      provider = ap (λ x. called_provider (scrub_coming x)) e ∙ sym (ap called_by e);
      some = λ none. acts-no-job End (sym (ap scrub_coming e) ∙ none);
    }
    by WriteBody h e = absurd h
    by SyncBody h e = absurd h
    by WriteGate h e = absurd h
    by SyncGate h e = absurd h
    by (Ask j object round) h e = absurd h
    by (Remove j object) h e = absurd h

-- ---- a scrub that is one of the machine, over any providers

module _ (v new : ScrubView) (ps qs : List Provider) (t : ScrubTurn)
    (makes : (w : State) (m : Scrub) → ScrubStands v ps w m → MakesScrubStep w m t new qs) where
  module _ (is : IsScrub v) where
    abbrev lone : State
    lone = record is.state {
      alone = Some (Scrubbing is.scrub);
      providers = provider_or_empty ps;
      handed = length ps;
      is_open = true;
      is_barred = false;
    }

    stands-alone : ScrubStands v ps lone is.scrub
    stands-alone = record {
      alone = refl;
      handed = record { count = refl; each = each-at ps };
      scrub = subst (λ (s : Setup). ScrubIs v s is.scrub) (sym (setup_same is.state lone refl)) is.is;
    }

    made-alone : MakesScrubStep lone is.scrub t new qs
    made-alone = makes lone is.scrub stands-alone

    steps-mine : (b : Bool) → b ≡ true → (outcome : Outcome) (u : State) →
        StepsMine lone is.scrub.number (Scrubbing is.scrub) b outcome u →
        StepsScrub lone is.scrub is.scrub.todo outcome u
    steps-mine true e outcome u h = h
    steps-mine false e outcome u h = absurd (false≢true e)

    acts : (action : Action) (rest : List Action) → v.todo ≡ action ∷ rest → IsScrubAction action
    acts action rest todo =
        (let h = steps-mine (is.scrub.number == is.scrub.number) (eq-eqb is.scrub.number is.scrub.number refl)
        (scrub_outcome (setup_in lone).n t) made-alone.state (made-alone.happens 8 0 refl refl) in
        acts-as-scrub lone made-alone.state is.scrub action rest (scrub_outcome (setup_in lone).n t)
        (subst (λ (l : List Action). StepsScrub lone is.scrub l (scrub_outcome (setup_in lone).n t)
        made-alone.state) (is.is.todo_is ∙ todo) h))

-- a fact by cases that has one proof
scrub-action-prop : (a : Action) → IsProp (IsScrubAction a)
scrub-action-prop (Fetch j object stripe) = Unit-prop
scrub-action-prop (Work object stripe) = Unit-prop
scrub-action-prop (Store j object stripe) = Unit-prop
scrub-action-prop End = Unit-prop
scrub-action-prop WriteBody = ⊥_prop
scrub-action-prop SyncBody = ⊥_prop
scrub-action-prop WriteGate = ⊥_prop
scrub-action-prop SyncGate = ⊥_prop
scrub-action-prop (Ask j object round) = ⊥_prop
scrub-action-prop (Remove j object) = ⊥_prop

-- what is next for a scrub that runs beside a vault
pub next-at : (v : Vault) (job : ScrubJob) (new : ScrubView) (ps qs : List Provider) (t : ScrubTurn) →
    ((w : State) (m : Scrub) → ScrubStands job.scrub ps w m → MakesScrubStep w m t new qs) →
    ∥ IsBesideVault v job ∥₁ → IsNext job.scrub
next-at v job new ps qs t makes at = next-by job.scrub job.scrub.todo refl
    (λ action rest todo. ∥∥₁_elim at (scrub-action-prop action)
    (λ B. acts job.scrub new ps qs t makes B.scrub action rest todo)) (∥∥₁_elim at le_prop (λ B. B.going))

-- it has a step left
pub going-at : (v : Vault) (job : ScrubJob) → ∥ IsBesideVault v job ∥₁ → 0 < scrub_left job.scrub
going-at v job at = ∥∥₁_elim at le_prop (λ B. B.going)

-- and uses no more providers than there are
pub there-at : (o : Option Vault) (v : Vault) (job : ScrubJob) (n : ℕ) → o ≡ Some v → uses_by o ≤ n →
    ∥ IsBesideVault v job ∥₁ → job.scrub.providers ≤ n
there-at o v job n is enough at =
    ∥∥₁_elim at le_prop (λ B. (let f = B.fits in let e = ap uses_by is in omega (arith, f, e, enough)))

-- where it goes on, it is still one
pub scrub-on : (v new : ScrubView) (ps qs : List Provider)
    (makes : (w : State) (m : Scrub) → ScrubStands v ps w m → MakesScrubStep w m turn.More new qs) →
    IsScrub v → IsScrub new
scrub-on v new ps qs makes is = (let made = made-alone v new ps qs turn.More makes is in
    record { state = made.state; scrub = made.left.next; is = made.left.stands.scrub })

-- and runs beside the vault still
pub beside-on : (v : Vault) (job : ScrubJob) (new : ScrubView) (ps qs : List Provider) → 0 < scrub_left new →
    new.providers ≡ job.scrub.providers →
    ((w : State) (m : Scrub) → ScrubStands job.scrub ps w m → MakesScrubStep w m turn.More new qs) →
    IsBesideVault v job → IsBesideVault v (record { number = job.number; scrub = new })
beside-on v job new ps qs going count makes B = record {
  held = B.held;
  going = going;
  fits = subst (λ (n : ℕ). n ≤ provider_count v) (sym count) B.fits;
  scrub = scrub-on job.scrub new ps qs makes B.scrub;
}

-- ---- what comes next for a client

-- for a job, where no scrub runs
pub vault-coming : (c : Client) (v : Vault) (number : ℕ) → c.vault ≡ Some v → c.alone ≡ None →
    client_coming c number ≡ coming_of v number
vault-coming c v number is none = λ i. coming_by (is i) (none i) number

module _ (c : Client) (v : Vault) (job : ScrubJob) (number : ℕ) (is : c.vault ≡ Some v)
    (some : c.alone ≡ Some (alone.Scrub job)) (same : job.number ≡ number) (next : IsNext job.scrub) where
  coming : client_coming c number ≡ scrub_coming (next_to_do job.scrub)
  coming = (λ i. coming_by (is i) (some i) number)
      ∙ cond_true (job.number == number) _ _ (eq-eqb job.number number same)

  -- it calls no disk, and of the providers only the one that its next action names
  pub calls-scrub : {W X : Type 0} (D : DiskGhosts W) (P : ProviderGhosts X) (disk : W) (ps qs : List X) →
      CallsOnly P.calls (called_by (next_to_do job.scrub)) ps qs →
      CallsNext D P (client_coming c number) disk ps disk qs
  calls-scrub D P disk ps qs calls = record {
    tells = refl;
    still = λ none. refl;
    one_disk_call = λ e. absurd (false≢true (sym next.disk ∙ (sym (ap calls_disk coming) ∙ e)));
    called = subst (λ (o : Option ℕ). CallsOnly P.calls o ps qs)
        (sym (ap called_provider coming ∙ next.provider)) calls;
  }

  -- something is next for it
  pub has-next : {X : Type 0} → client_coming c number ≡ IsNoJob → X
  has-next e = absurd (next.some (sym coming ∙ e))

-- ---- in a state that a client stands for

-- a scrub never answers that a call of the disk failed
never-disk : (n : ℕ) (t : ScrubTurn) → scrub_outcome n t ≢ Ended answers.DiskFault
never-disk n turn.More e = absurd cc
never-disk n (turn.Done (answer.Scrubbed stripes symbols blocks)) e = absurd cc
never-disk n (turn.Done (answer.Lost stripe row)) e = absurd cc
never-disk n (turn.Done (answer.ProviderFault provider)) e = absurd cc
never-disk n (turn.Done answer.Memory) e = absurd cc

module _ (v : Vault) (job : ScrubJob) (holds : Option Cells) (faults : ℕ) (ps qs : List Provider) (w : State)
    (S : StandsHeld v job (devices holds faults ps) w) (new : ScrubView) (t : ScrubTurn)
    (made : MakesScrubStep w S.scrub t new qs) where
  abbrev state : State
  state = made.state

  beside_is : unalone state ≡ after (unalone w) state.providers
  beside_is = step_beside w S.scrub t new qs made

  open-still : w.is_open ≡ true
  open-still = S.beside.desk.core.is_open

  happens : (moment : ℕ) → Happens 8 moment w (Step job.number) (scrub_outcome (setup_in w).n t) state
  happens moment = subst (λ (k : ℕ). Happens 8 moment w (Step k) (scrub_outcome (setup_in w).n t) state)
      (sym S.number_is) (made.happens 8 moment open-still S.beside.unbarred)

  sound : job.number < 2 ^ 32 → IsSound 8 state
  sound fits = events-sound 8 0 w S.sound (omega arith, omega arith) (Step job.number)
      (scrub_outcome (setup_in w).n t) state fits (happens 0)

  beside : StandsBeside v (devices holds faults qs) (unalone state) S.scrub.number
  beside = subst (λ (u : State). StandsBeside v (devices holds faults qs) u S.scrub.number) (sym beside_is)
      (held_replaced (devices holds faults ps) (unalone w) qs state.providers v S.scrub.number S.beside
      (handed_same qs state (after (unalone w) state.providers) made.handed
      (ap (λ (u : State). u.handed) (sym beside_is)) (λ k. refl)))

  -- the vault has the machine's number of providers
  count-is : v.desk.setup.n ≡ (setup_in w).n
  count-is = sym (ap (λ (s : Setup). s.n) (sym (setup_same w (unalone w) refl) ∙ S.beside.desk.setup))

-- a scrub that goes on runs beside the vault still
held-on : (v : Vault) (job : ScrubJob) (holds : Option Cells) (faults : ℕ) (ps qs : List Provider) (w : State)
    (S : StandsHeld v job (devices holds faults ps) w) (new : ScrubView) → job.number < 2 ^ 32 →
    (made : MakesScrubStep w S.scrub turn.More new qs) →
    StandsHeld v (record { number = job.number; scrub = new }) (devices holds faults qs) made.state
held-on v job holds faults ps qs w S new fits made = record {
  scrub = made.left.next;
  number_is = S.number_is ∙ sym made.left.number_stays;
  beside = subst (StandsBeside v (devices holds faults qs) (unalone made.state)) (sym made.left.number_stays)
      (beside v job holds faults ps qs w S new turn.More made);
  stands = made.left.stands;
  sound = sound v job holds faults ps qs w S new turn.More made fits;
}

-- a vault that is released once its scrub has ended stands for the state without it
freed : (v left : Vault) (job : ScrubJob) (holds : Option Cells) (faults : ℕ) (ps qs : List Provider) (w : State)
    (S : StandsHeld v job (devices holds faults ps) w) (new : ScrubView) (a : ScrubAnswer) →
    ((u : State) (number : ℕ) → StandsBeside v (devices holds faults qs) u number
    → Stands left (devices holds faults qs) u) →
    (made : MakesScrubStep w S.scrub (turn.Done a) new qs) → Stands left (devices holds faults qs) made.state
freed v left job holds faults ps qs w S new a frees made =
    subst (Stands left (devices holds faults qs)) (λ i. record made.state { alone = sym made.left i })
    (frees (unalone made.state) S.scrub.number (beside v job holds faults ps qs w S new (turn.Done a) made))

-- ---- as steps of a client

module _ (c : Client) (v : Vault) (job : ScrubJob) (is : c.vault ≡ Some v) (some : c.alone ≡ Some (alone.Scrub job))
    (holds : Option Cells) (faults : ℕ) (ps : List Provider) where
  abbrev Held : State → Type 0
  Held w = StandsHeld v job (devices holds faults ps) w

  held-by : (w : State) → ClientStands c (devices holds faults ps) w → Held w
  held-by w S = parts-of c (Some v) (Some (alone.Scrub job)) is some (devices holds faults ps) w S

  module _ (next : Client) (qs : List Provider) (t : ScrubTurn) (number n : ℕ) (fits : number < 2 ^ 32)
      (same : job.number ≡ number) (n_is : n ≡ v.desk.setup.n) (new : ScrubView)
      (makes : (w : State) (m : Scrub) → ScrubStands job.scrub ps w m → MakesScrubStep w m t new qs)
      (stands : (w : State) (S : Held w) (made : MakesScrubStep w S.scrub t new qs)
      → ClientStands next (devices holds faults qs) made.state) where
    -- a step of a scrub is one of the machine
    steps-scrub : (w : State) (moment : ℕ) → ClientStands c (devices holds faults ps) w →
        ClientMakesStep w moment number (Some (client_turn.Scrub n t)) next (devices holds faults ps)
        (devices holds faults qs)
    steps-scrub w moment C = (let S = held-by w C in
        let made = makes w S.scrub S.stands in
        let count : n ≡ (setup_in w).n = n_is ∙ count-is v job holds faults ps qs w S new t made in
        record {
          makes = record {
            state = made.state;
            spelled = fits;
            happens = subst (λ (k : ℕ). Happens 8 moment w (Step k) (scrub_outcome n t) made.state) same
                (subst (λ (k : ℕ). Happens 8 moment w (Step job.number) (scrub_outcome k t) made.state)
                (sym count) (happens v job holds faults ps qs w S new t made moment));
            stands = stands w S made;
          };
          beyond = λ ended. goes_still _ holds holds refl;
          torn = λ ended. absurd (never-disk n t ended);
        })

  -- one that goes on
  pub goes-on : (next : Client) (qs : List Provider) (number n : ℕ) (fits : number < 2 ^ 32)
      (same : job.number ≡ number) (n_is : n ≡ v.desk.setup.n) (new : ScrubView) →
      next.vault ≡ Some v → next.alone ≡ Some (alone.Scrub (record { number = job.number; scrub = new })) →
      ((w : State) (m : Scrub) → ScrubStands job.scrub ps w m → MakesScrubStep w m turn.More new qs) →
      (w : State) (moment : ℕ) → ClientStands c (devices holds faults ps) w →
      ClientMakesStep w moment number (Some (client_turn.Scrub n turn.More)) next (devices holds faults ps)
      (devices holds faults qs)
  goes-on next qs number n fits same n_is new vault alone_is makes =
      steps-scrub next qs turn.More number n fits same n_is new makes
      (λ w S made. stands-of next (Some v) (Some (alone.Scrub (record { number = job.number; scrub = new }))) next.next_job
      vault alone_is refl (devices holds faults qs) made.state
      (held-on v job holds faults ps qs w S new (subst (λ (k : ℕ). k < 2 ^ 32) (sym same) fits) made))

  -- one that ends
  pub ends : (next : Client) (left : Vault) (qs : List Provider) (number n : ℕ) (fits : number < 2 ^ 32)
      (same : job.number ≡ number) (n_is : n ≡ v.desk.setup.n) (new : ScrubView) (a : ScrubAnswer) →
      next.vault ≡ Some left → next.alone ≡ None →
      ((u : State) (d : Devices) (k : ℕ) → StandsBeside v d u k → Stands left d u) →
      ((w : State) (m : Scrub) → ScrubStands job.scrub ps w m → MakesScrubStep w m (turn.Done a) new qs) →
      (w : State) (moment : ℕ) → ClientStands c (devices holds faults ps) w →
      ClientMakesStep w moment number (Some (client_turn.Scrub n (turn.Done a))) next
      (devices holds faults ps) (devices holds faults qs)
  ends next left qs number n fits same n_is new a vault alone_is frees makes = steps-scrub next qs
      (turn.Done a) number n fits same n_is new makes (λ w S made. stands-of next (Some left) None
      next.next_job vault alone_is refl (devices holds faults qs) made.state
      (freed v left job holds faults ps qs w S new a (λ u k h. frees u (devices holds faults qs) k h) made))
