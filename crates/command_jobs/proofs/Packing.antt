-- From the begin and the steps of a pack to what its command tells of it.
use Rattle.command_jobs.proofs.Words.{◌≡◌, ℕ, ◌+◌, ◌≤◌, List, [], ◌∷◌, length, replicate, Option, Some, None, Ok, Err, refl, ap, sym, subst, ◌∙◌, inl, inr, arith, is_some, option_map, length-replicate, Cells, reads, Provider, Record, Area, Step, More, heard_by, job_of, Moment, now, StandsForState, State, pack_refusal, AreHanded, IsJustOpened, Seen, nobody, provider_at, setup_in_effect, AreSteps, GoesOnTo, pack-refusal-of, BeginFault, Devices, devices, PackAnswer, PackJob, Vault, pack_answer, pack_begun, StandsPacking, PacksOver, MakesPackStep, Stands, IsFreshOver, IsSeenBefore, IsSeenAfter, PackEndsOver, IsPackRefused}
use Rattle.machine_defs.specs.Answers.{Answer}
use Rattle.command_defs.specs.Opens as opens
use Rattle.command_defs.specs.Packs.{RanPack, PacksAlone, PackedAlone}
use Rattle.command_defs.specs.Refusals.{pack_refusal_over}
use Rattle.vault.specs.declared.packing.PackTurn.TheVariants as turn
use Rattle.command_jobs.proofs.Fresh.{ThereIsOne}
use Rattle.command_jobs.proofs.Alone.{opened-one}

-- what the laws on commands say of what a pack leaves
abbrev pub PacksLeave : Type 0
PacksLeave = (records : List Record) (answer : Answer) (old new : Seen) → (opened : opens.IsOpened old records) →
    length new.providers ≡ length old.providers → PacksAlone opened.area records answer old new →
    PackedAlone opened.area records answer old new

-- what the vault says of the begin of its pack
abbrev pub PacksAs : Vault → PackJob → Vault → Type 0
PacksAs old job new = (w : State) (d : Devices) → Stands old d w → PacksOver w d (Ok job) new

-- ---- step by step

-- the pack has made these steps, and vault, pack and devices stand for the state after them
pub record OnPack (w : State) (number moment : ℕ) (v : Vault) (job : PackJob) (d : Devices) : Type 0 where
  pub steps : List Moment
  pub are_steps : AreSteps w moment number steps
  pub stands : StandsPacking v job d (now w steps)

-- the pack goes on to this end, and vault and devices stand for the last state
pub record PacksToEnd (w : State) (number moment : ℕ) (answer : PackAnswer) (v : Vault)
    (d : Devices) : Type 0 where
  pub last : State
  pub goes : GoesOnTo w moment number (pack_answer answer) [] last
  pub stands : Stands v d last

-- before its first step
pub no-pack : (w : State) (number moment : ℕ) (v : Vault) (job : PackJob) (d : Devices) →
    StandsPacking v job d w → OnPack w number moment v job d
no-pack w number moment v job d stands = record { steps = []; are_steps = tt; stands = stands }

module _ (w : State) (number moment : ℕ) (v next : Vault) (job : PackJob) (d e : Devices)
    (same : job.number ≡ number) (way : OnPack w number moment v job d) where
  -- one step more
  pub pack-more : (more : PackJob) → MakesPackStep (now w way.steps) job.number (turn.More more) next e →
      OnPack w number moment next more e
  pack-more more M = record {
    steps = record { event = Step number; outcome = More; state = M.state } ∷ way.steps;
    are_steps = (refl, refl, (rw same at (M.happens 8 (moment + length way.steps))), way.are_steps);
    stands = M.stands;
  }

  -- the step that ends it
  pub pack-end : (answer : PackAnswer) → MakesPackStep (now w way.steps) job.number (turn.Done answer) next e →
      PacksToEnd w number moment answer next e
  pack-end answer M = record {
    last = M.state;
    goes = record {
      steps = way.steps;
      are_steps = way.are_steps;
      ends = rw same at (M.happens 8 (moment + length way.steps));
      heard_is = ap (λ js. heard_by (job_of js number)) (sym way.stands.beside.idle);
    };
    stands = M.stands;
  }

-- ---- over a vault that was just opened

-- why a pack is refused over the journal
pack-over : (w : State) (area : Area) (records : List Record) (faults : ℕ) (providers : List Provider) →
    IsJustOpened w area records 1 faults providers → pack_refusal w ≡ pack_refusal_over area records
pack-over w area records faults providers J = pack-refusal-of w J.at_rest
    ∙ (λ i. pack_refusal_over (J.area_is i) (J.journal i))

-- a begin is refused for the first cause over what the journal holds
pub pack-refused : ThereIsOne → (v : Vault) (area : Area) (records : List Record) (holds : Option Cells)
    (faults : ℕ) → IsFreshOver v area records holds faults → (next : Vault) (why : BeginFault) →
    ((w : State) (d : Devices) → Stands v d w → PacksOver w d (Err why) next) → IsPackRefused area records why
pack-refused there v area records holds faults F next why refuses =
    (let ps = replicate (setup_in_effect records).n nobody in
    let x = opened-one there v area records holds faults F ps (let e = length-replicate
    (setup_in_effect records).n nobody in omega (arith, e)) in
    elim (refuses x.0 (devices holds faults ps) x.1.stands).0 [
      | inl e ↦ inr (sym (pack-over x.0 area records faults ps x.1.over) ∙ e)
      | inr e ↦ inl e
    ])

module _ (there : ThereIsOne) (v : Vault) (records : List Record) (holds : Option Cells) (faults : ℕ)
    (old new : Seen) (R : opens.IsOpened old records) (F : IsFreshOver v R.area records holds faults)
    (next last : Vault) (job : PackJob) (answer : PackAnswer) (providers : List Provider)
    (new_holds : Option Cells) (new_faults : ℕ) (begins : PacksAs v job next)
    (goes : (w : State) (moment : ℕ) → StandsPacking next job (devices holds faults providers) w →
    PacksToEnd w job.number moment answer last (devices new_holds new_faults providers))
    (rises : faults ≤ new_faults) (tells : is_some new_holds ≡ is_some holds)
    (B : IsSeenBefore old (devices holds faults providers))
    (A : IsSeenAfter new (devices new_holds new_faults providers)) where
  enough : (setup_in_effect records).n ≤ length providers
  enough = subst (λ (ps : List Provider). (setup_in_effect records).n ≤ length ps) B.providers R.enough

  same-providers : new.providers ≡ old.providers
  same-providers = A.providers ∙ sym B.providers

  ran-pack : (w : State) (moment : ℕ) → IsJustOpened w R.area records 1 faults providers →
      RanPack records (pack_answer answer) old new w moment
  ran-pack w moment over = (let h = begins w (devices holds faults providers) (F.stands w providers over) in
      let G = goes (pack_begun w) (moment + 1) h.2 in
      record {
        last = G.last;
        runs = record {
          begun = pack_begun w;
          job = job.number;
          begins = (over.at_rest.opened, h.0, h.1, refl);
          goes_on = G.goes;
        };
        images = subst (λ told. StandsForState told G.last) (sym A.disk) G.stands.desk.devices.images;
        faults_are = G.stands.desk.devices.faults ∙ sym A.faults;
        handed = subst (λ ps. AreHanded ps G.last) (sym A.providers) G.stands.desk.devices.providers;
      })

  -- what a disk reads tells whether it tells
  told-alike : (a b : Option Cells) → option_map reads a ≡ option_map reads b → is_some a ≡ is_some b
  told-alike None None e = refl
  told-alike (Some a) (Some b) e = refl
  told-alike None (Some b) e = cc
  told-alike (Some a) None e = cc

  packs-alone : PacksAlone R.area records (pack_answer answer) old new
  packs-alone = record {
    faults = faults;
    before = let b = B.faults in omega arith;
    tells = ap is_some A.disk ∙ (tells ∙ told-alike holds old.disk B.reads);
    ran = λ w moment over. ran-pack w moment (rw B.providers at over);
  }

  unrefused : pack_refusal_over R.area records ≡ None
  unrefused = (let x = opened-one there v R.area records holds faults F providers enough in
      sym (pack-over x.0 R.area records faults providers x.1.over)
      ∙ (begins x.0 (devices holds faults providers) x.1.stands).0)

  -- how the pack ended, over what the journal held
  pub pack-ends : PacksLeave → PackEndsOver R.area records answer old new
  pack-ends leave = record {
    unrefused = unrefused;
    runs = packs-alone;
    left = leave records (pack_answer answer) old new R (ap length same-providers) packs-alone;
    counts = record {
      disk = (let b = B.faults in let a = A.faults in omega (arith, a, b, rises));
      handed = ap length same-providers;
      stores = λ j. (let e = ap (λ ps. (provider_at ps j).store_faults) same-providers in omega (arith, e));
      others = λ j. (let e = ap (λ ps. (provider_at ps j).other_faults) same-providers in omega (arith, e));
    };
  }
