-- From the hold and the steps of a scrub to what its command tells of it.
use Rattle.command_jobs.proofs.Words.{◌≡◌, ℕ, ◌+◌, ◌≤◌, true, false, List, [], length, Option, None, Ok, Err, refl, ap, sym, subst, ◌∙◌, arith, Cells, Provider, Record, Area, alone_refusal, new_scrub, BeginScrub, Begun, Happens, StandsForState, State, Scrub, Alone, setup_in, Seen, setup_in_effect, GoesOnTo, AreHanded, IsOpenAtRest, IsJustOpened, ScrubAnswer, ScrubIs, ScrubStands, scrub_answer, ScrubView, BeginFault, Devices, devices, Vault, Stands, StandsBeside, HoldsOver, IsFreshOver, IsSeenBefore, IsSeenAfter, SweepsToEnd, ScrubEndsOver}
use Rattle.record_defs.specs.Records.{Setup}
use Rattle.machine_defs.specs.Answers.{Answer}
use Rattle.command_defs.specs.Opens as opens
use Rattle.command_defs.specs.Scrubs.{RanScrub, ScrubsAlone, ScrubbedAlone}
use Rattle.hail_scrub.specs.Begins.{held}
use Rattle.command_jobs.proofs.Fresh.{ThereIsOne, setup-over}
use Rattle.command_jobs.proofs.Alone.{opened-one}

-- what the laws say: of opened states, of the begin of a scrub, of what is left, and of a held vault
abbrev pub RefusesNone : Type 0
RefusesNone = (w : State) → IsOpenAtRest w 1 → alone_refusal w [] ≡ None

abbrev pub ScrubsBegin : Type 0
ScrubsBegin = (w : State) (moment limit : ℕ) → w.is_open ≡ true → alone_refusal w [] ≡ None →
    Happens limit moment w BeginScrub (Begun w.next_job) (held w moment)

abbrev pub BegunStands : Type 0
BegunStands = (w : State) (moment : ℕ) (v : ScrubView) (ps : List Provider) → AreHanded ps w →
    ScrubIs v (setup_in w) (new_scrub w moment) → ScrubStands v ps (held w moment) (new_scrub w moment)

abbrev pub ScrubsLeave : Type 0
ScrubsLeave = (records : List Record) (answer : Answer) (old new : Seen) →
    (opened : opens.IsOpened old records) → length new.providers ≡ length old.providers →
    ScrubsAlone opened.area records answer old new → ScrubbedAlone records answer old new

abbrev pub StandsOver : Type 0
StandsOver = (v : Vault) (d : Devices) (w : State) (ps : List Provider) (providers : ℕ → Provider)
    (number : ℕ) → StandsBeside v d w number → AreHanded ps (record w { providers = providers }) →
    StandsBeside v (devices d.holds d.faults ps) (record w { providers = providers }) number

-- the setup of a scrub is that of the state in which it began
setup-held : (w : State) (moment : ℕ) → setup_in (held w moment) ≡ setup_in w
unfolding setup_in
setup-held w moment = refl

-- no hold is refused over a vault that was just opened
pub never-refused : ThereIsOne → (v : Vault) (area : Area) (records : List Record) (holds : Option Cells)
    (faults : ℕ) → IsFreshOver v area records holds faults → RefusesNone → (next : Vault) (why : BeginFault)
    (providers : List Provider) → (setup_in_effect records).n ≤ length providers →
    ((w : State) (d : Devices) → Stands v d w → HoldsOver w d (Err why) next) → ⊥
never-refused there v area records holds faults F none next why providers enough holds_over =
    (let x = opened-one there v area records holds faults F providers enough in
    let h = holds_over x.0 (devices holds faults providers) x.1.stands in
    cc (sym h.0 ∙ none x.0 x.1.over.at_rest))

module _ (v : Vault) (records : List Record) (holds : Option Cells) (faults : ℕ) (old new : Seen)
    (R : opens.IsOpened old records) (F : IsFreshOver v R.area records holds faults)
    (begin : ScrubsBegin) (stand : BegunStands) (leave : ScrubsLeave) (over_others : StandsOver)
    (beside : Vault) (number : ℕ) (scrub : ScrubView) (answer : ScrubAnswer)
    (providers after : List Provider)
    (holds_over : (w : State) (d : Devices) → Stands v d w → HoldsOver w d (Ok number) beside)
    (makes : (w : State) (d : Devices) (moment : ℕ) → Stands v d w →
    ScrubIs scrub (setup_in w) (new_scrub w moment))
    (goes : (w : State) (m : Scrub) (moment : ℕ) → w.is_open ≡ true → w.is_barred ≡ false → w.jobs ≡ [] →
    ScrubStands scrub providers w m → SweepsToEnd w m.number moment answer after)
    (same : length after ≡ length providers)
    (B : IsSeenBefore old (devices holds faults providers))
    (A : IsSeenAfter new (devices holds faults after)) where
  abbrev told : Answer
  told = scrub_answer (setup_in_effect records).n answer

  enough : (setup_in_effect records).n ≤ length providers
  enough = subst (λ (ps : List Provider). (setup_in_effect records).n ≤ length ps) B.providers R.enough

  ran-alone : (w : State) (moment : ℕ) → IsJustOpened w R.area records 1 faults providers →
      RanScrub records told old new faults w moment
  ran-alone w moment over = (let d = devices holds faults providers in
      let stands = F.stands w providers over in
      let h = holds_over w d stands in
      let rest = over.at_rest.rest.idle in
      let G = goes (held w moment) (new_scrub w moment) (moment + 1) over.at_rest.opened rest.2 rest.0
      (stand w moment scrub providers over.handed (makes w d moment stands)) in
      let last_is : G.last ≡ record w { next_job = w.next_job + 1; providers = G.last.providers } =
      G.beside ∙ ap (λ (a : Option Alone).
      record w { next_job = w.next_job + 1; alone = a; providers = G.last.providers })
      (G.ended ∙ sym rest.3) in
      let S = over_others beside d (record w { next_job = w.next_job + 1 }) after G.last.providers number h.2
      (subst (λ (y : State). AreHanded after y) last_is G.handed) in
      record {
        last = G.last;
        runs = record {
          begun = held w moment;
          job = w.next_job;
          begins = begin w moment 8 over.at_rest.opened h.0;
          goes_on = subst
              (λ n. GoesOnTo (held w moment) (moment + 1) w.next_job (scrub_answer n answer) [] G.last)
              (ap (λ (s : Setup). s.n) (setup-held w moment ∙ setup-over w R.area records faults providers over))
              G.goes;
        };
        images = subst (λ cells. StandsForState cells G.last) (sym A.disk)
            (subst (λ (y : State). StandsForState holds y) (sym last_is) S.desk.devices.images);
        faults_are = ap (λ (y : State). y.disk_faults) last_is ∙ over.faults_are ∙ sym A.faults;
        handed = subst (λ (ps : List Provider). AreHanded ps G.last) (sym A.providers) G.handed;
      })

  runs-alone : ScrubsAlone R.area records told old new
  runs-alone = record {
    faults = faults;
    before = (let b = B.faults in omega (arith, b));
    ran = λ w moment over. ran-alone w moment
        (subst (λ (ps : List Provider). IsJustOpened w R.area records 1 faults ps) B.providers over);
  }

  handed-same : length new.providers ≡ length old.providers
  handed-same = ap length A.providers ∙ (same ∙ sym (ap length B.providers))

  left-alone : ScrubbedAlone records told old new
  left-alone = leave records told old new R handed-same runs-alone

  -- how the scrub ended, over what the journal held
  pub scrub-ends : ScrubEndsOver R.area records answer old new
  scrub-ends = record {
    runs = runs-alone;
    left = left-alone;
    counts = record {
      disk = (let b = B.faults in let a = A.faults in omega (arith, a, b));
      handed = handed-same;
      stores = left-alone.leaves.counts.stores;
      others = left-alone.leaves.counts.others;
    };
  }
