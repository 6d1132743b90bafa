-- Clients over a disk of no known state: a run begins at each reopening.
use Rattle.hail_client.proofs.Words.{◌≡◌, ℕ, ◌<◌, ◌≤◌, false, List, [], Option, Some, None, Result, Err, refl, ap, sym, subst, inl, arith, IsSome, IsTrue, IsErrAnd, is_some, list_all, false≢true, is_some-none, Cells, Provider, Goes, Record, is_in_grammar, largest_journal, AreAccepted, Area, A, end_in, Outcome, Reopen, State, setup_in, IsSetUp, Rereads, Reopens, StandsForState, IsSound, IsAtRest, journal-whole, rest-sound, StartFault, Vault, IsJustOpened, devices, IsResynced, provider_count, Stands, IsStreamless, Client, ReopenFault, client_next_job, with_vault, without_vault, start_refusal, reopen_outcome, UnlessBadJournal, provider_or_empty, StandsClosed, StandsBy, IsMadeAnew, IsStanding, OpensOver, err-is}
use Rattle.std.proofs.Common.{true, length, Ok}
use Rattle.machine_defs.specs.Events as events
use Rattle.machine_defs.specs.Refusals as refusal
use Rattle.vault_open.specs.declared.fault.StartFault.TheVariants as start_fault
use Rattle.vault_open.specs.Disks.{StartsOver}
use Rattle.vault.specs.Started.{IsStarted}
use Rattle.hail_client.specs.declared.fault.ReopenFault.TheVariants as reopen_fault
use Rattle.hail_client.proofs.Held.{zeros, zeros-held}
use Rattle.hail_client.proofs.Fresh.{each-at}
use Rattle.hail_client.proofs.Reopened.{stands-opened, count-is, up, opened}
use Rattle.hail_client.proofs.Settled.{same-left}

-- by whether a disk tells
pub by-told : {A X : Type 0} (told : Option A) → (IsSome told → X) → (is_some told ≡ false → X) → X
by-told None f g = g refl
by-told (Some a) f g = f refl

untold-goes : {A : Type 0} (step : A → A → Type 0) (old new : Option A) → is_some old ≡ false →
    Goes step old new → new ≡ None
untold-goes step None None is goes = refl
untold-goes step None (Some new) is goes = absurd goes
untold-goes step (Some old) new is goes = absurd (false≢true (sym is))

-- a state in which no vault is open, over these records, which the disk holds in this area
abbrev pub closed-over : Area → List Record → ℕ → ℕ → List Provider → State
closed-over area rs next faults ps = record {
  records = rs;
  journal = rs;
  area = area;
  is_switching = false;
  bytes = zeros rs;
  audits = λ number. 0;
  jobs = [];
  next_job = next;
  alone = None;
  append = None;
  doubt = None;
  providers = provider_or_empty ps;
  handed = length ps;
  disk_faults = faults;
  is_open = false;
  is_barred = false;
}

rests-over : (area : Area) (rs : List Record) → (rs ≡ [] → area ≡ A) → AreAccepted rs →
    IsTrue (list_all is_in_grammar rs) → end_in area rs ≤ largest_journal →
    (next faults : ℕ) (ps : List Provider) → IsAtRest (closed-over area rs next faults ps)
rests-over area rs first accepted spelled room next faults ps = record {
  idle = (refl, refl, refl, refl);
  undoubted = refl;
  unswitched = refl;
  journal = journal-whole (closed-over area rs next faults ps) refl first accepted spelled;
  accepted = accepted;
  in_grammar = spelled;
  room = room;
  files = zeros-held rs accepted;
  set_up = λ is. absurd (false≢true is);
  handed = λ is. absurd (false≢true is);
}

none-rests : (next faults : ℕ) (ps : List Provider) → IsAtRest (closed-over A [] next faults ps)
none-rests = rests-over A [] (λ none. refl) tt refl (omega arith)

-- devices that stand for it
stands-over : (area : Area) (rs : List Record) →
    ((next faults : ℕ) (ps : List Provider) → IsAtRest (closed-over area rs next faults ps)) →
    (next faults : ℕ) (ps : List Provider) (holds : Option Cells) →
    StandsForState holds (closed-over area rs next faults ps) →
    StandsClosed next (devices holds faults ps) (closed-over area rs next faults ps)
stands-over area rs rest next faults ps holds images = record {
  devices = record { images = images; faults = refl; providers = record { count = refl; each = each-at ps } };
  sound = rest-sound 8 (closed-over area rs next faults ps) (rest next faults ps);
  closed = refl;
  next_job_is = refl;
}

-- a disk that tells nothing stands for every state
untold-images : (holds : Option Cells) (w : State) → holds ≡ None → StandsForState holds w
untold-images holds w is = subst (λ (o : Option Cells). StandsForState o w) (sym is) tt

-- where no vault is open, client and devices stand for a state over no record
pub closed-standing : (c : Client) (faults : ℕ) (ps : List Provider) (holds : Option Cells) →
    is_some c.vault ≡ false → holds ≡ None → IsStanding c (devices holds faults ps)
closed-standing c faults ps holds none is =
    let start = closed-over A [] c.next_job faults ps in
    record {
      state = start;
      stands = subst (λ (o : Option Vault). StandsBy o c.alone c.next_job (devices holds faults ps) start)
          (sym (is_some-none c.vault none))
          (stands-over A [] none-rests c.next_job faults ps holds (untold-images holds start is));
    }

-- ---- reopenings

-- a closed state whose disk is read again stays
same-rereads-over : (area : Area) (rs : List Record) (next f : ℕ) (ps : List Provider) →
    Rereads (closed-over area rs next f ps) (closed-over area rs next f ps)
same-rereads-over area rs next f ps = (rs, area, inl (refl, refl), inl refl)

module _ (moment next f g : ℕ) (ps : List Provider) (old new : Option Cells) (old_is : old ≡ None)
    (new_is : new ≡ None) (never : f ≤ g) where
  abbrev AnewBy : Outcome → Client → Type 0
  AnewBy outcome c = IsMadeAnew moment next Reopen outcome c (devices old f ps) (devices new g ps)

  -- no vault is open afterwards, over the same records
  closed-anew : (area : Area) (rs : List Record) → ((n h : ℕ) (qs : List Provider) → IsAtRest (closed-over area rs n h qs)) →
      (why : refusal.Refusal) →
      Reopens (closed-over area rs next f ps) (events.Refused why) (closed-over area rs next g ps) →
      AnewBy (events.Refused why) (without_vault next)
  closed-anew area rs rest why happens = record {
    before = closed-over area rs next f ps;
    stands_before = stands-over area rs rest next f ps old (untold-images old (closed-over area rs next f ps) old_is);
    makes = record {
      state = closed-over area rs next g ps;
      spelled = tt;
      happens = happens;
      stands = stands-over area rs rest next g ps new (untold-images new (closed-over area rs next g ps) new_is);
    };
  }

  fault-anew : {T : Type 0} (why : StartFault) → StartsOver {T = T} old new f g (Err why) →
      UnlessBadJournal (Err (reopen_fault.NotOpened why))
      (AnewBy (events.Refused (start_refusal why)) (without_vault next))
  fault-anew start_fault.DiskFault start =
      closed-anew A [] none-rests refusal.DiskFault (g, never, start.disk.called.cause.rose refl, refl)
  fault-anew start_fault.Memory start = closed-anew A [] none-rests refusal.Memory
      (ap (λ n. closed-over A [] next n ps) (start.disk.called.no_fault (λ e. cc)))
  fault-anew start_fault.NotSetUp start = closed-anew A [] none-rests refusal.NotSetUp
      (closed-over A [] next f ps, same-rereads-over A [] next f ps, refl, (g, never, refl))
  fault-anew (start_fault.BadJournal at) start = tt

-- records were read
module _ {v : Vault} {told holds : Option Cells} {g next : ℕ} (s : IsStarted v told holds g next) where
  rest : (n h : ℕ) (qs : List Provider) → IsAtRest (closed-over s.area s.records n h qs)
  rest = rests-over s.area s.records (λ none. absurd (s.is_read.some none)) s.is_read.accepted
      s.is_read.in_grammar s.is_read.room

  module _ (f : ℕ) (ps : List Provider) where
    abbrev start : State
    start = closed-over s.area s.records next f ps

    sound : IsSound 8 start
    sound = rest-sound 8 start (rest next f ps)

    is-up : IsSetUp start
    is-up = up start s.records s.records s.area sound (same-left start) s.is_read.some

    -- the vault that was opened has as many providers as the setup that it read
    pub uses-as : provider_count v ≡ (setup_in start).n
    uses-as = count-is start s.records s.records s.area sound (same-left start) s.is_read.some v holds g next
        refl s.stands

    -- with enough providers, the vault that was opened stands for an open state over them
    pub stands-open : provider_count v ≤ length ps → Stands v (devices holds g ps)
        (opened start s.records s.records s.area (provider_or_empty ps) (length ps) g)
    stands-open enough = stands-opened start s.records s.records s.area sound (same-left start) s.is_read.some
        v holds g next refl s.stands (provider_or_empty ps) ps (record { count = refl; each = each-at ps })
        (let e = uses-as in omega (arith, enough, e))

    -- there is a state that was just opened over them
    pub just-opened : provider_count v ≤ length ps →
        IsJustOpened (record (closed-over s.area s.records next g ps) { is_open = true }) s.area s.records
        next g ps
    unfolding setup_in
    just-opened enough = record {
      at_rest = record {
        rest = (let r = rest next g ps in record {
          idle = r.idle;
          undoubted = r.undoubted;
          unswitched = refl;
          journal = (let j = r.journal in record {
            accepted = j.accepted;
            spelled = j.spelled;
            alike = j.alike;
            started = j.started;
            whole = j.whole;
            first = j.first;
          });
          accepted = r.accepted;
          in_grammar = r.in_grammar;
          room = r.room;
          files = r.files;
          set_up = λ is. is-up;
          handed = λ is. (let e = uses-as in omega (arith, enough, e));
        });
        opened = refl;
        next = refl;
      };
      journal = refl;
      area_is = refl;
      faults_are = refl;
      handed = record { count = refl; each = each-at ps };
    }

    module _ (moment : ℕ) (old : Option Cells) (old_is : old ≡ None) (holds_is : holds ≡ None)
        (never : f ≤ g) where
      few-anew : length ps < provider_count v →
          IsMadeAnew moment next Reopen (events.Refused refusal.TooFewProviders) (without_vault next)
          (devices old f ps) (devices holds g ps)
      few-anew few = closed-anew moment next f g ps old holds old_is holds_is never s.area s.records rest
          refusal.TooFewProviders (
            start,
            same-rereads-over s.area s.records next f ps,
            is-up,
            (let e = uses-as in omega (arith, few, e)),
            (g, never, refl),
          )

      opened-anew : provider_count v ≤ length ps → (streamless : IsStreamless v) →
          IsMadeAnew moment next Reopen events.Opened (with_vault v streamless next) (devices old f ps)
          (devices holds g ps)
      opened-anew enough streamless = record {
        before = start;
        stands_before = stands-over s.area s.records rest next f ps old (untold-images old start old_is);
        makes = record {
          state = opened start s.records s.records s.area (provider_or_empty ps) (length ps) g;
          spelled = tt;
          happens = (
            start,
            same-rereads-over s.area s.records next f ps,
            is-up,
            (let e = uses-as in omega (arith, enough, e)),
            (g, never, refl),
          );
          stands = stands-open enough;
        };
      }

-- ---- by the client

module _ (c left : Client) (left_is : left ≡ without_vault (client_next_job c)) where
  -- a client that holds no vault stands, with its devices, for some closed state
  pub left-standing : (old new : Option Cells) (g : ℕ) (ps : List Provider) → is_some old ≡ false →
      Goes IsResynced old new → IsStanding left (devices new g ps)
  left-standing old new g ps none goes = rw left_is (closed-standing (without_vault (client_next_job c)) g ps
      new refl (untold-goes IsResynced old new none goes))

  module _ {old new : Option Cells} {f g : ℕ} (ps : List Provider) (none : is_some old ≡ false) (moment : ℕ)
      {T : Type 0} where
    -- a reopening that fails, for what it read or by the disk, is an event of some closed state
    pub refused-anew : (why : StartFault) (result : Result Unit ReopenFault) →
        IsErrAnd result (λ e. e ≡ reopen_fault.NotOpened why) → StartsOver {T = T} old new f g (Err why) →
        UnlessBadJournal result
        (IsMadeAnew moment (client_next_job c) Reopen (reopen_outcome result) left (devices old f ps)
        (devices new g ps))
    refused-anew why result is start =
        rw (left_is, err-is result (reopen_fault.NotOpened why) is)
        (fault-anew moment (client_next_job c) f g ps old new (is_some-none old none)
        (untold-goes IsResynced old new none start.disk.resynced) start.disk.called.cause.never_falls why start)

    module _ {x : T} (start : StartsOver old new f g (Ok x)) {v : Vault}
        (s : IsStarted v old new g left.next_job) where
      -- a reopening with too few providers is refused, as an event of some closed state
      pub few-are : length ps < provider_count v →
          IsMadeAnew moment (client_next_job c) Reopen (events.Refused refusal.TooFewProviders) left
          (devices old f ps) (devices new g ps)
      few-are few = rw left_is (few-anew (rw left_is at s) f ps moment old (is_some-none old none)
          (untold-goes IsResynced old new none start.disk.resynced) start.disk.called.cause.never_falls few)

      -- a reopening with enough providers opens, as an event of some closed state
      pub enough-are : provider_count v ≤ length ps → (streamless : IsStreamless v) →
          IsMadeAnew moment (client_next_job c) Reopen events.Opened (with_vault v streamless left.next_job)
          (devices old f ps) (devices new g ps)
      enough-are enough streamless = rw left_is (opened-anew (rw left_is at s) f ps moment old
          (is_some-none old none) (untold-goes IsResynced old new none start.disk.resynced)
          start.disk.called.cause.never_falls enough streamless)

  -- a vault over enough providers stands for each state just opened over what was read, and there is one
  pub opens-over : {old new : Option Cells} {g : ℕ} {v : Vault} (handed : ℕ)
      (s : IsStarted v old new g left.next_job) → provider_count v ≤ handed →
      OpensOver old (client_next_job c) handed (with_vault v s.streams left.next_job) new g
  opens-over {old} {new} {g} handed s enough =
      (let all : IsStarted _ old new g (client_next_job c) = rw left_is at s in
      rw left_is (record {
        area = all.area;
        records = all.records;
        is_read = all.is_read;
        each = λ w providers just. all.stands w providers just;
        one = λ providers as_many. (
          record (closed-over all.area all.records (client_next_job c) g providers) { is_open = true },
          just-opened all g providers (omega (arith, enough, as_many)),
        );
      }))
