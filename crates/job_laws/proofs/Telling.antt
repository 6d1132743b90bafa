-- From the run of a job, as a command tells it, to what it leaves.
use Rattle.job_laws.proofs.Words.{◌≡◌, ◌≢◌, ℕ, zero, suc, ◌<◌, ◌≤◌, ◌⊎◌, false, List, [], ◌∷◌, ◌++◌, length, Option, None, Some, refl, sym, subst, ◌∙◌, inl, inr, arith, slice_get, IsSomeAnd, option_map, cases_lt, Provider, each_image-mono, Record, Area, StandsActive, Kind, PutJob, GetJob, DropJob, AuditJob, RepairJob, UpgradeJob, Answer, IsSpelledKind, Entry, State, Doubt, StandsPlain, StandsWithDoubt, StandsSwitched, Seen, nobody, provider_at, setup_in_effect, ran_from, AreHanded, IsOpenAtRest, IsJustOpened, RunsJob, Leaves, LeftAlone, RanAlone, RunsAlone, MayName}
use Rattle.command_defs.specs.Opens as opens
use Rattle.opening_defs.proofs.Opened.{has-setup, state_with, opened-with}
use Rattle.job_laws.proofs.Runs.{job-ends}
use Rattle.job_laws.proofs.Keeping.{Keeps, runs-keep, keeps-whole}
use Rattle.job_laws.proofs.Audits.{audits-leave}
use Rattle.job_laws.proofs.Repairs.{repairs-leave}
use Rattle.job_laws.proofs.Gets.{all-leaves}
use Rattle.job_laws.proofs.Puts.{put-leaves}
use Rattle.job_laws.proofs.Drops.{drop-leaves}
use Rattle.job_laws.proofs.Upgrades.{upgrade-leaves}
use Rattle.job_laws.proofs.Refused.{drop-has}

-- ---- over records that a start read there is a state just opened

-- the state in which these records are the journal and the whole history, with zeros for the bytes of its
-- files
abbrev pub opened_state : Area → List Record → ℕ → List Provider → State
opened_state area records faults providers =
    state_with area records faults (provider_at providers) (length providers)

-- a provider that was handed in, and one that was not
pub get-provider : (ps : List Provider) (j : ℕ) → j < length ps → slice_get ps j ≡ Some (provider_at ps j)
get-provider [] j l = absurd (omega (arith, l))
get-provider (p ∷ ps) zero l = refl
get-provider (p ∷ ps) (suc j) l = get-provider ps j (omega (arith, l))

pub get-none : (ps : List Provider) (j : ℕ) → length ps ≤ j → provider_at ps j ≡ nobody
get-none [] j l = refl
get-none (p ∷ ps) zero l = absurd (omega (arith, l))
get-none (p ∷ ps) (suc j) l = get-none ps j (omega (arith, l))

-- it is one whose vault was just opened over them
pub state-over : (records : List Record) (faults : ℕ) (old : Seen) (R : opens.IsOpened old records) →
    IsJustOpened (opened_state R.area records faults old.providers) R.area records 1 faults old.providers
state-over records faults old R = opened-with R.area records faults old.providers (provider_at old.providers)
    R.read.accepted R.read.in_grammar R.read.room (has-setup records R.read.accepted R.read.some) R.enough
    (get-provider old.providers)

-- ---- what a last state tells

-- each provider is as it is seen, where those beyond the setup's stay
pub providers-seen : (w last : State) (old new : Seen) (n : ℕ) → w.providers ≡ provider_at old.providers →
    n ≤ length old.providers → length new.providers ≡ length old.providers → AreHanded new.providers last →
    ((j : ℕ) → n ≤ j → last.providers j ≡ w.providers j) → (j : ℕ) →
    last.providers j ≡ provider_at new.providers j
providers-seen w last old new n first enough same handed others j = elim (cases_lt j (length new.providers)) [
  | inl l ↦ (let e : Some (last.providers j) ≡ Some (provider_at new.providers j) =
      sym (handed.each j l) ∙ get-provider new.providers j l in
      let f : last.providers j ≡ provider_at new.providers j = cc in f)
  | inr l ↦ cc (
    others j (omega (arith, enough, l, same)),
    get-none old.providers j (omega (arith, l, same)),
    get-none new.providers j l,
  )
]

-- records with more on top are some where there were some
some-more : (added records : List Record) → records ≢ [] → added ++ records ≢ []
some-more [] records some = some
some-more (r ∷ added) records some = λ e. cc

-- an image of the disk after a job that kept the area stands for its records, or for them with the one in
-- doubt
pub image-kept : (w last : State) (area : Area) (records : List Record) → Keeps w last → w.records ≡ records →
    w.journal ≡ records → w.area ≡ area → w.is_switching ≡ false → records ≢ [] → (image : List ℕ) →
    StandsPlain last image ⊎ (StandsWithDoubt last image ⊎ StandsSwitched last image) →
    StandsActive image area last.records ⊎ IsSomeAnd (option_map (λ (d : Doubt). d.entry) last.doubt)
    (λ entry. StandsActive image area (entry ∷ last.records))
image-kept w last area records K history journal area_is unswitched some image h = by h
  where
    whole : last.journal ≡ last.records
    whole = cc

    stands : (rs : List Record) → StandsActive image last.area rs → StandsActive image area rs
    stands rs h = (rw (K.area ∙ area_is) at h)

    by : StandsPlain last image ⊎ (StandsWithDoubt last image ⊎ StandsSwitched last image) →
        StandsActive image area last.records ⊎ IsSomeAnd (option_map (λ (d : Doubt). d.entry) last.doubt)
        (λ entry. StandsActive image area (entry ∷ last.records))
    by (inl (inl h)) = inl (rw whole at (stands last.journal h))
    by (inl (inr h)) = absurd (some-more K.added records some (cc))
    by (inr (inl h)) = inr (subst (λ (d : Option Doubt). IsSomeAnd (option_map (λ (d : Doubt). d.entry) d)
        (λ entry. StandsActive image area (entry ∷ last.records))) (sym h.in_doubt)
        (rw whole at (stands (h.doubt.entry ∷ last.journal) h.stands)))
    by (inr (inr h)) = cc

-- ---- what is left of the run

module _ (records : List Record) (kind : Kind) (own : Option ℕ) (answer : Answer) (old new : Seen)
    (heard : List Entry) (spelled : IsSpelledKind kind) (named : MayName kind own)
    (law : (w last : State) (moment : ℕ) → IsOpenAtRest w 1 → RunsJob w moment kind own answer heard last →
    Leaves (ran_from w last heard) kind own answer)
    (R : opens.IsOpened old records) (same : length new.providers ≡ length old.providers)
    (A : RunsAlone R.area records kind own answer old new heard) where
  abbrev w : State
  w = opened_state R.area records A.faults old.providers

  over : IsJustOpened w R.area records 1 A.faults old.providers
  over = state-over records A.faults old R

  abbrev ran : RanAlone R.area records kind own answer old new heard A.faults w 1
  ran = A.ran w 1 over

  left-by : Leaves (ran_from w ran.last heard) kind own answer
  left-by = law w ran.last 1 over.at_rest ran.runs

  -- the disk holds the whole history, in the same area
  kept : Keeps w ran.last
  kept = runs-keep w over.at_rest kind own ran.last 1 answer heard spelled named ran.runs

  -- what a job left, with the records that are in effect after its run from some state over this history
  pub record LeftAfter : Type 0 where
    pub left : LeftAlone R.area records kind own answer old new heard
    pub state : State
    pub over : IsJustOpened state R.area records 1 A.faults old.providers
    pub history : state.records ≡ records
    pub after_is : left.after ≡ (A.ran state 1 over).last.records

  -- what a command tells of its job's run leaves what a job of its kind leaves
  pub left-after : LeftAfter
  left-after = record {
    left = record {
      faults = A.faults;
      before = A.before;
      after = ran.last.records;
      doubt = option_map (λ (d : Doubt). d.entry) ran.last.doubt;
      leaves = rw ran.faults_are at (subst (λ (f : ℕ → Provider).
          Leaves (record (ran_from w ran.last heard) { new = f }) kind own answer)
          (λ i j. providers-seen w ran.last old new (setup_in_effect records).n refl R.enough same
          ran.handed left-by.others j i) left-by);
      images = each_image-mono new.disk _ _
          (image-kept w ran.last R.area records kept refl refl refl refl R.read.some) ran.images;
      outside_text = rw (keeps-whole w ran.last kept refl) at ran.outside_text;
    };
    state = w;
    over = over;
    history = refl;
    after_is = refl;
  }

  pub left-alone : LeftAlone R.area records kind own answer old new heard
  left-alone = left-after.left

-- ---- each kind of job

-- only a put names a profile
others-name-none : (kind : Kind) (p : ℕ) → MayName kind (Some p) →
    ((name bytes : List ℕ) → kind ≡ PutJob name bytes → ⊥) → ⊥
others-name-none kind p (MayName.none e) other = absurd (cc e)
others-name-none kind p (MayName.put name bytes e) other = other name bytes e

-- a job of each kind that runs alone leaves what its kind says
pub jobs-leave : (kind : Kind) (own : Option ℕ) (w last : State) (moment : ℕ) (answer : Answer)
    (heard : List Entry) → IsSpelledKind kind → MayName kind own → IsOpenAtRest w 1 →
    RunsJob w moment kind own answer heard last → Leaves (ran_from w last heard) kind own answer
jobs-leave (PutJob name bytes) own w last moment answer heard spelled named O r = put-leaves w last name bytes
    own answer heard O (job-ends w last moment (PutJob name bytes) own answer heard O spelled named r)
jobs-leave (GetJob name) None w last moment answer heard spelled named O r = all-leaves w last name answer
    heard O (job-ends w last moment (GetJob name) None answer heard O spelled named r)
jobs-leave (DropJob name) None w last moment answer heard spelled named O r =
    (let f = drop-has 8 w name r.begins.1 in
    drop-leaves w last name answer heard O
    (job-ends w last moment (DropJob name) None answer heard O spelled named r) f.0 f.1)
jobs-leave AuditJob None w last moment answer heard spelled named O r =
    audits-leave w last moment answer heard O r
jobs-leave RepairJob None w last moment answer heard spelled named O r =
    repairs-leave w last moment answer heard O r
jobs-leave UpgradeJob None w last moment answer heard spelled named O r = upgrade-leaves w last answer heard O
    (job-ends w last moment UpgradeJob None answer heard O spelled named r)
jobs-leave kind (Some p) w last moment answer heard spelled named O r =
    absurd (others-name-none kind p named (λ n b e. cc))
