-- From the begin and the steps of a job to what its command tells of it.
use Rattle.command_jobs.proofs.Words.{◌≡◌, ℕ, ◌+◌, ◌*◌, ◌<◌, ◌≤◌, List, [], length, replicate, take, drop, Option, Some, None, Ok, Err, refl, ap, sym, subst, ◌∙◌, inl, inr, arith, IfSome, option_map, mul-le-mul_right, length-replicate, Cells, reads, Provider, Record, Area, base_of, end_in, Kind, PutJob, job_of, profiled, stripes_of, Step, IsSpelledKind, chosen, beginning, Entry, heard_by, Happens, Moment, now, State, setup_in, StandsForState, Seen, nobody, setup_in_effect, AreHanded, IsOpenAtRest, IsJustOpened, AreSteps, outside, with_next, SameAround, SameOutside, LeavesBy, RanAlone, RunsAlone, LeftAlone, MayHaveEnd, ran_alone, MayName, WalkedAt, walk-begin, found, BeginFault, refusal_of, Vault, Devices, devices, machine_answer, Stands, MakesBegin, IsFreshOver, IsOnly, IsUnderWay, IsEarly, EndsEarly, IsSeenBefore, IsSeenAfter, IsRefusedOver, EndsOver, refusal-of, WalkedOn, walk-on}
use Rattle.machine_defs.specs.Jobs.{Job}
use Rattle.machine_defs.specs.Answers as answer
use Rattle.machine_defs.specs.Answers.{Answer}
use Rattle.machine_defs.specs.Events as events
use Rattle.machine_defs.specs.Refusals as refusal
use Rattle.command_defs.specs.Opens as opens
use Rattle.command_defs.specs.Refusals as commands
use Rattle.vault_core.specs.declared.wish.BeginFault.TheVariants as begin_fault
use Rattle.vault.specs.declared.turn.Ended.{Ended}
use Rattle.job_laws.proofs.Telling.{LeftAfter, left-after, jobs-leave}
use Rattle.command_jobs.proofs.Early.{no-put, fault-first, not-whole}
use Rattle.command_jobs.proofs.Begins.{spelled-begun}
use Rattle.command_jobs.proofs.Fresh.{ThereIsOne, there-opened, setup-over}

-- what the laws on commands say of what is left
abbrev pub LeavesAll : Type 0
LeavesAll = (records : List Record) (kind : Kind) (own : Option ℕ) (answer : Answer) (old new : Seen)
    (heard : List Entry) → (opened : opens.IsOpened old records) → IsSpelledKind kind → MayName kind own →
    length new.providers ≡ length old.providers → RunsAlone opened.area records kind own answer old new heard →
    LeftAlone opened.area records kind own answer old new heard

-- ---- what the disk reads outside the text, from the time before the opening on

pub outside-of : (area : Area) (rs : List Record) (a b : Option Cells) →
    option_map reads b ≡ option_map reads a → option_map (outside area rs) b ≡ option_map (outside area rs) a
outside-of area rs a b e = sym (through b) ∙ (ap (option_map parts) e ∙ through a)
  where
    parts : List ℕ → List ℕ × List ℕ
    parts bytes = (take (base_of area) bytes, drop (end_in area rs) bytes)

    through : (told : Option Cells) → option_map parts (option_map reads told)
        ≡ option_map (outside area rs) told
    through None = refl
    through (Some cells) = refl

around-before : (area : Area) (kind : Kind) (own : Option ℕ) (before after : List Record)
    (a b c : Option Cells) → option_map reads b ≡ option_map reads a →
    SameAround area kind own before after b c → SameAround area kind own before after a c
around-before area kind own before after a b c e h = record {
  next = h.next;
  is_next = h.is_next;
  same = h.same ∙ outside-of area (with_next h.next after) a b e;
}

outside-before : (area : Area) (kind : Kind) (own : Option ℕ) (how : Answer) (before after : List Record)
    (a b c : Option Cells) → option_map reads b ≡ option_map reads a →
    SameOutside area kind own how before after b c → SameOutside area kind own how before after a c
outside-before area kind own answer.Put before after a b c e h = h ∙ outside-of area after a b e
outside-before area kind own (answer.Got bytes) before after a b c e h = h ∙ outside-of area after a b e
outside-before area kind own answer.Dropped before after a b c e h = h ∙ outside-of area after a b e
outside-before area kind own (answer.Audited number undecided counts) before after a b c e h = h ∙ outside-of area after a b e
outside-before area kind own (answer.Repaired number) before after a b c e h = h ∙ outside-of area after a b e
outside-before area kind own (answer.Lost stripe row) before after a b c e h = h ∙ outside-of area after a b e
outside-before area kind own (answer.ProviderFault j) before after a b c e h = h ∙ outside-of area after a b e
outside-before area kind own answer.DiskFault before after a b c e h =
    around-before area kind own before after a b c e h
outside-before area kind own answer.Memory before after a b c e h =
    around-before area kind own before after a b c e h
outside-before area kind own answer.Upgraded before after a b c e h = h ∙ outside-of area after a b e
outside-before area kind own (answer.Scrubbed stripes symbols blocks) before after a b c e h =
    h ∙ outside-of area after a b e
outside-before area kind own (answer.Packed length_before length_after) before after a b c e h =
    h ∙ outside-of area after a b e

-- ---- the begin

-- what the vault says of its begin
abbrev pub BeginsAs : Vault → Kind → Option ℕ → ℕ → Vault → Type 0
BeginsAs old kind own number new =
    (w : State) (d : Devices) (moment : ℕ) → Stands old d w → MakesBegin w moment kind own (Ok number) new d

abbrev pub RefusesAs : Vault → Kind → Option ℕ → BeginFault → Vault → Type 0
RefusesAs old kind own why new =
    (w : State) (d : Devices) (moment : ℕ) → Stands old d w → MakesBegin w moment kind own (Err why) new d

-- a job that began over a state just opened
pub record HasBegun (w : State) (moment : ℕ) (kind : Kind) (own : Option ℕ) (number : ℕ) (v : Vault) (d : Devices) : Type 0 where
  pub made : MakesBegin w moment kind own (Ok number) v d
  pub spelled : IsSpelledKind kind
  pub first : number ≡ 1
  pub walked : WalkedAt w kind (chosen (setup_in w) own) made.state (beginning w moment kind own)
  pub only : IsOnly w kind own made.state
  pub place : only.job.place ≡ 0
  pub unrefused : commands.refusal_over w.area w.journal kind own ≡ None

pub has-begun : (w : State) (moment : ℕ) (kind : Kind) (own : Option ℕ) (number : ℕ) (old new : Vault)
    (d : Devices) → MayName kind own → IsOpenAtRest w 1 → Stands old d w → BeginsAs old kind own number new → HasBegun w moment kind own number new d
has-begun w moment kind own number old new d named O stands begins = (let M = begins w d moment stands in
    let s = spelled-begun w M.state moment kind own number O.rest.idle.0 M.begins M.stands.desk.core.sound in
    let b = walk-begin moment number w M.state kind own named O s M.begins in
    record {
      made = M;
      spelled = s;
      first = b.0;
      walked = b.1;
      only = record {
        opened = O;
        job = beginning w moment kind own;
        walked = b.1;
        area = ap (λ (x : State). x.area) M.begins.3;
        added = [];
        journal = ap (λ (x : State). x.journal) M.begins.3;
        records = ap (λ (x : State). x.records) M.begins.3;
      };
      place = refl;
      unrefused = sym (refusal-of w O kind own) ∙ M.begins.1;
    })

-- ---- over a vault that was just opened

module _ (there : ThereIsOne) (v : Vault) (area : Area) (records : List Record) (holds : Option Cells)
    (faults : ℕ) (F : IsFreshOver v area records holds faults) where
  -- a state that was just opened, for which the vault stands
  pub record Opened (providers : List Provider) (w : State) : Type 0 where
    pub over : IsJustOpened w area records 1 faults providers
    pub stands : Stands v (devices holds faults providers) w

  pub opened-one : (providers : List Provider) → (setup_in_effect records).n ≤ length providers →
      (w : State) × Opened providers w
  opened-one providers enough = (let x = there-opened there area records faults providers F.read enough in
      (x.0, record { over = x.1; stands = F.stands x.0 providers x.1 }))

  -- the one job that was begun has number 1 and is under way
  pub under-way : (next : Vault) (kind : Kind) (own : Option ℕ) (number : ℕ) (providers : List Provider) →
      MayName kind own → (setup_in_effect records).n ≤ length providers → BeginsAs v kind own number next →
      (number ≡ 1) × IsUnderWay next (devices holds faults providers)
  under-way next kind own number providers named enough begins = (let x = opened-one providers enough in
      let h = has-begun x.0 1 kind own number v next (devices holds faults providers) named x.1.over.at_rest
      x.1.stands begins in (
        h.first,
        record {
          start = x.0;
          kind = kind;
          own = own;
          state = h.made.state;
          only = h.only;
          stands = h.made.stands;
        },
      ))

  -- why a job is refused, over the journal
  pub over-journal : (w : State) (providers : List Provider) (kind : Kind) (own : Option ℕ) →
      IsJustOpened w area records 1 faults providers →
      commands.refusal_over w.area w.journal kind own ≡ commands.refusal_over area records kind own
  over-journal w providers kind own J = λ i. commands.refusal_over (J.area_is i) (J.journal i) kind own

  memory-is : (why : BeginFault) → refusal_of why ≡ refusal.Memory → why ≡ begin_fault.Memory
  memory-is begin_fault.Memory e = refl
  memory-is _ e = cc

  -- a begin is refused for the first cause over what the journal holds
  pub refused-over : (next : Vault) (kind : Kind) (own : Option ℕ) (why : BeginFault) →
      RefusesAs v kind own why next → IsRefusedOver area records kind own why
  refused-over next kind own why refuses = (let ps = replicate (setup_in_effect records).n nobody in
      let x = opened-one ps (let e = length-replicate (setup_in_effect records).n nobody in omega (arith, e)) in
      elim (refuses x.0 (devices holds faults ps) 1 x.1.stands).begins.1 [
        | inl e ↦ inr (sym (over-journal x.0 ps kind own x.1.over)
            ∙ (sym (refusal-of x.0 x.1.over.at_rest kind own) ∙ e))
        | inr e ↦ inl (memory-is why e)
      ])

-- the one job that was begun went on from each state that may have been just opened
module _ (there : ThereIsOne) (v : Vault) (records : List Record) (holds : Option Cells) (faults : ℕ)
    (old new : Seen) (R : opens.IsOpened old records) (F : IsFreshOver v R.area records holds faults)
    (next last : Vault) (kind : Kind) (own : Option ℕ) (number : ℕ)
    (ended : Ended) (named : MayName kind own)
    (providers after : List Provider) (new_holds : Option Cells) (new_faults : ℕ) (told : Option ℕ)
    (begins : BeginsAs v kind own number next)
    (goes : (start w : State) (moment : ℕ) → (only : IsOnly start kind own w) → only.job.place ≡ 0 →
    Stands next (devices holds faults providers) w →
    EndsEarly start kind own w moment told ended last (devices holds faults providers)
    (devices new_holds new_faults after))
    (same : length after ≡ length providers)
    (B : IsSeenBefore old (devices holds faults providers))
    (A : IsSeenAfter new (devices new_holds new_faults after)) where
  enough : (setup_in_effect records).n ≤ length providers
  enough = subst (λ (ps : List Provider). (setup_in_effect records).n ≤ length ps) B.providers R.enough

  -- the run from a state, of which so many steps went on before the last one
  pub record RanTo (w : State) (moment : ℕ) : Type 0 where
    pub ran : RanAlone R.area records kind own (machine_answer ended.answer) old new ended.heard faults w moment
    pub opened : IsOpenAtRest w 1
    pub begun : WalkedAt w kind (chosen (setup_in w) own) ran.runs.begun (beginning w moment kind own)
    pub first : ran.runs.job ≡ 1
    pub early : IfSome told (λ stripes. length ran.runs.goes_on.steps < 4 + stripes * (setup_in w).n)

  ran-to : (w : State) (moment : ℕ) → IsJustOpened w R.area records 1 faults providers → RanTo w moment
  ran-to w moment over = (let h = has-begun w moment kind own number v next (devices holds faults providers)
      named over.at_rest (F.stands w providers over) begins in
      let E = goes w h.made.state (moment + 1) h.only h.place h.made.stands in
      let G = E.to_end in
      record {
        ran = record {
          last = G.last;
          runs = record {
            begun = h.made.state;
            job = number;
            begins = h.made.begins;
            goes_on = record {
              steps = G.goes.steps;
              are_steps = subst (λ n. AreSteps h.made.state (moment + 1) n G.goes.steps) (sym h.first)
                  G.goes.are_steps;
              ends = subst (λ n. Happens 8 ((moment + 1) + length G.goes.steps)
                  (now h.made.state G.goes.steps) (Step n) (events.Ended (machine_answer ended.answer)) G.last)
                  (sym h.first) G.goes.ends;
              heard_is = subst (λ n. ended.heard ≡ heard_by (job_of (now h.made.state G.goes.steps).jobs n))
                  (sym h.first) G.goes.heard_is;
            };
          };
          images = subst (λ told. StandsForState told G.last) (sym A.disk) G.stands.desk.devices.images;
          faults_are = G.stands.desk.devices.faults ∙ sym A.faults;
          handed = subst (λ ps. AreHanded ps G.last) (sym A.providers) G.stands.desk.devices.providers;
          outside_text = subst (λ told. SameOutside R.area kind own (machine_answer ended.answer) records
              G.last.journal old.disk told) (sym A.disk) (outside-before R.area kind own
              (machine_answer ended.answer) records G.last.journal old.disk holds new_holds B.reads
              (subst (λ rs. SameOutside R.area kind own (machine_answer ended.answer) rs G.last.journal holds
              new_holds) over.journal (subst (λ a. SameOutside a kind own (machine_answer ended.answer)
              w.journal G.last.journal holds new_holds) over.area_is G.outside_text)));
        };
        opened = over.at_rest;
        begun = h.walked;
        first = h.first;
        early = early-by told w h.made.state (length G.goes.steps) h.only.job E.early
            (found w over.at_rest kind h.made.state h.only.job h.only.walked) h.place;
      })
    where
      early-by : (told : Option ℕ) (w v : State) (count : ℕ) (job : Job) → IsEarly w v count told →
          job_of v.jobs 1 ≡ Some job → job.place ≡ 0 →
          IfSome told (λ stripes. count < 4 + stripes * (setup_in w).n)
      early-by None w v count job h is zero_place = tt
      early-by (Some stripes) w v count job h is zero_place =
          (let l = h job is in let z = zero_place in omega (arith, l, z))

  pub all-ran-to : (w : State) (moment : ℕ) → IsJustOpened w R.area records 1 faults old.providers → RanTo w moment
  all-ran-to w moment over = ran-to w moment
      (subst (λ (ps : List Provider). IsJustOpened w R.area records 1 faults ps) B.providers over)

  abbrev pub runs-alone : RunsAlone R.area records kind own (machine_answer ended.answer) old new ended.heard
  runs-alone = record {
    faults = faults;
    before = (let b = B.faults in omega (arith, b));
    ran = λ w moment over. (all-ran-to w moment over).ran;
  }

  pub begun-one : (w : State) ×
      (HasBegun w 1 kind own number next (devices holds faults providers)
      × IsJustOpened w R.area records 1 faults providers)
  begun-one = (let x = opened-one there v R.area records holds faults F providers enough in (
    x.0,
    (
      has-begun x.0 1 kind own number v next (devices holds faults providers) named x.1.over.at_rest
          x.1.stands begins,
      x.1.over,
    ),
  ))

  pub spelled-here : IsSpelledKind kind
  spelled-here = begun-one.1.0.spelled

  pub as-many : length new.providers ≡ length old.providers
  as-many = ap length A.providers ∙ (same ∙ sym (ap length B.providers))

  -- how the one job ended, over what the journal held, where this is what it left
  abbrev pub ends-with : LeftAlone R.area records kind own (machine_answer ended.answer) old new ended.heard →
      EndsOver R.area records kind own ended old new
  ends-with left = record {
    unrefused = sym (over-journal there v R.area records holds faults F begun-one.0 providers kind own
        begun-one.1.1) ∙ begun-one.1.0.unrefused;
    runs = runs-alone;
    left = left;
    counts = record {
      disk = (let a = left.before in let b = left.leaves.counts.disk in omega (arith, a, b));
      handed = as-many;
      stores = left.leaves.counts.stores;
      others = left.leaves.counts.others;
    };
  }

  pub ends-over : LeavesAll → EndsOver R.area records kind own ended old new
  ends-over leaves = ends-with (leaves records kind own (machine_answer ended.answer) old new ended.heard R
      spelled-here named as-many runs-alone)

  -- ---- a put that was an open stream as it ended

  module _ (name bytes : List ℕ) (is_put : kind ≡ PutJob name bytes) (stripes : ℕ)
      (is_open : told ≡ Some stripes)
      (within : stripes ≤ stripes_of (profiled (setup_in_effect records)
      (chosen (setup_in_effect records) own)) (length bytes)) where
    L : LeftAfter records kind own (machine_answer ended.answer) old new ended.heard spelled-here named
        (λ w last moment O r. jobs-leave kind own w last moment (machine_answer ended.answer) ended.heard
        spelled-here named O r) R as-many runs-alone
    L = left-after records kind own (machine_answer ended.answer) old new ended.heard spelled-here named
        (λ w last moment O r. jobs-leave kind own w last moment (machine_answer ended.answer) ended.heard
        spelled-here named O r) R as-many runs-alone

    r : RanTo L.state 1
    r = all-ran-to L.state 1 L.over

    abbrev steps : List Moment
    steps = r.ran.runs.goes_on.steps

    walk : WalkedOn L.state kind (chosen (setup_in L.state) own) (beginning L.state 1 kind own) (length steps)
        (now r.ran.runs.begun steps)
    walk = walk-on L.state r.ran.runs.begun kind (chosen (setup_in L.state) own)
        (beginning L.state 1 kind own) (1 + 1) steps r.opened r.begun
        (subst (λ n. AreSteps r.ran.runs.begun (1 + 1) n steps) r.first r.ran.runs.goes_on.are_steps)

    walked : WalkedAt L.state (PutJob name bytes) (chosen (setup_in L.state) own)
        (now r.ran.runs.begun steps) walk.next
    walked = subst (λ (k : Kind). WalkedAt L.state k (chosen (setup_in L.state) own)
        (now r.ran.runs.begun steps) walk.next) is_put walk.walked

    happens : Happens 8 ((1 + 1) + length steps) (now r.ran.runs.begun steps) (Step 1)
        (events.Ended (machine_answer ended.answer)) r.ran.last
    happens = rw r.first at r.ran.runs.goes_on.ends

    early : walk.next.place < 4 + stripes_of (profiled (setup_in L.state) (chosen (setup_in L.state) own))
        (length bytes) * (setup_in L.state).n
    early = (let l = subst (λ o. IfSome o (λ stripes. length steps < 4 + stripes * (setup_in L.state).n))
        is_open r.early in
        let p = walk.place in
        let m = mul-le-mul_right (setup_in L.state).n (rw (← (setup-over L.state R.area records faults
        old.providers L.over)) at within) in
        omega (arith, l, p, m))

    none-put : machine_answer ended.answer ≡ answer.Put → ⊥
    none-put e = no-put L.state (now r.ran.runs.begun steps) r.ran.last name bytes own walk.next r.opened
        walked early ((1 + 1) + length steps) (rw e at happens)

    none-kept : machine_answer ended.answer ≡ answer.DiskFault → L.left.after ≡ records
    unfolding r
    none-kept e = L.after_is
        ∙ (fault-first L.state (now r.ran.runs.begun steps) r.ran.last name bytes own walk.next r.opened
        walked early ((1 + 1) + length steps)
        (rw e at happens) ∙ L.history)

    pub left-open : LeftAlone R.area records kind own (machine_answer ended.answer) old new ended.heard
    left-open = L.left

    -- its last record is neither in effect nor in doubt
    pub not-ended : MayHaveEnd records left-open.after left-open.doubt name (length bytes) own → ⊥
    unfolding L left-open
    not-ended m = not-whole (ran_alone records old new ended.heard L.left.faults L.left.after L.left.doubt)
        own name bytes (machine_answer ended.answer) (subst (λ (k : Kind). LeavesBy
        (ran_alone records old new ended.heard L.left.faults L.left.after L.left.doubt) k own
        (machine_answer ended.answer)) is_put L.left.leaves.by_kind).0 none-put none-kept m
