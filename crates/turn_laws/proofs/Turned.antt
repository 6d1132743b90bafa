-- Jobs that are given by their turns run alone from every state that was just opened over four providers, and
-- commands that run them end so: the state that is left is computed.
use Rattle.std.proofs.Common.{◌≡◌, ◌⊎◌, ℕ, zero, suc, ◌+◌, ◌≤◌, true, false, List, [], ◌∷◌, length, ◌++◌, Option, Some, None, IfSome, refl, ap, sym, subst, ◌∙◌, inl, inr, arith, slice_get, reverse, option_map}
use Rattle.std.proofs.lemmas.Bool.{false≢true}
use Rattle.turn_laws.proofs.Words.{Cells, EachImage, Provider, then_told, Record, largest_file, Area, A, StandsActive, Answer, Step, Ended, IsSpelledKind, Entry, Kind, PutJob, Job, job_of, Happens, Moment, now, StandsPlain, StandsWithDoubt, StandsSwitched, StandsForState, State, Doubt, AreHanded, IsJustOpened, MayName, AnswersAlone, AnswersPut, AreSteps, IsNext, IsNextRecord, SameAround, SameOutside, RanAlone, RunsAlone, EndsByAnswer, AnswersJob, outside, text_of, IsOpened, setup_in_effect, refusal_over, is_unknown, Seen, Ending, SameSource, provider_at, can_step, Turn, Goes, Gives, LosesOne, StoreFails, Cut, gone_by, can_go_by, turned, FitsTurn, FitsStep, AreFitTurns, told, after_step, job_run, is_more, with_new, each, with_doubt, Left, left_by, seen_as, MayBegin, starting, at_end, GoesSo}
use Rattle.job_laws.proofs.BeginRefusals.{refusal-alone}
use Rattle.job_laws.proofs.Alike.{ran-alike}
use Rattle.job_laws.proofs.Telling.{left-alone, jobs-leave}
use Rattle.made_runs.proofs.Steps.{first, second, steps}
use Rattle.made_runs.proofs.Turns.{goes-so}
use Rattle.turn_laws.proofs.Shape.{four, spelled-is}

-- plain steps go on the steps of a job
plain : (w : State) (moment : ℕ) (ms : List Moment) (n k : ℕ) → can_go_by w ms n k ≡ true →
    AreSteps w moment n ms → AreSteps w moment n (gone_by w ms n k)
plain w moment ms n zero c r = r
plain w moment ms n (suc k) c r = (
  refl,
  refl,
  steps 8 (moment + length (gone_by w ms n k)) (now w (gone_by w ms n k)) n
      (first (can_step (now w (gone_by w ms n k)) n) (can_go_by w ms n k) c),
  plain w moment ms n k (second (can_step (now w (gone_by w ms n k)) n) (can_go_by w ms n k) c) r,
)

-- so does a turn
turn-steps : (w : State) (moment : ℕ) (ms : List Moment) (n : ℕ) (turn : Turn) → is_more turn ≡ true →
    FitsTurn w ms n turn → AreSteps w moment n ms → AreSteps w moment n (turned w ms n turn)
turn-steps w moment ms n (Goes k) m f r = plain w moment ms n k f r
turn-steps w moment ms n (Gives answer) m f r = absurd (false≢true m)
turn-steps w moment ms n (LosesOne stripe row) m f r = absurd (false≢true m)
turn-steps w moment ms n (StoreFails j) m f r = absurd (false≢true m)
turn-steps w moment ms n Cut m f r = absurd (false≢true m)
turn-steps w moment ms n turn m f r = (refl, refl, goes-so 8 (moment + length ms) (now w ms) n turn f, r)

-- turns of a job that all answer more are its steps
pub are-steps : (w : State) (moment n : ℕ) (turns : List Turn) → AreFitTurns w [] n turns →
    AreSteps w moment n (job_run w [] n turns)
are-steps w moment n [] f = tt
are-steps w moment n (turn ∷ turns) f =
    turn-steps w moment (job_run w [] n turns) n turn f.0 f.1 (are-steps w moment n turns f.2)

-- ---- what is left

by_doubt : (w : State) (image : List ℕ) (doubt : Option Doubt) → w.doubt ≡ doubt →
    StandsActive image w.area (with_doubt doubt w.journal) →
    StandsPlain w image ⊎ (StandsWithDoubt w image ⊎ StandsSwitched w image)
by_doubt w image None is stands = inl (inl stands)
by_doubt w image (Some doubt) is stands = inr (inl (record { doubt = doubt; in_doubt = is; stands = stands }))

-- images that stand for what is left stand for its state
pub stand-so : (told : Option Cells) (w : State) (job : Option Job) (left : Left) → left_by w job ≡ left →
    EachImage told (λ image. StandsActive image left.area left.records) → StandsForState told w
stand-so None w job left is each = tt
stand-so (Some cells) w job left is each = λ image has. by_doubt w image w.doubt refl
    (subst (λ (l : Left). StandsActive image l.area l.records) (sym is) (each image has))

-- the providers are those handed in where there are four
pub handed-four : {seen : List Provider} (w : State) → w.handed ≡ 4 → each w.providers ≡ seen →
    AreHanded seen w
handed-four w count is = subst (λ ps. AreHanded ps w) is (record {
  count = count;
  each = four (λ j. slice_get (each w.providers) j ≡ Some (w.providers j)) refl refl refl refl;
})

-- ---- a job from a state spelled out

-- a turn ends it
pub ends-by : (w : State) (n : ℕ) (final : Turn) (answer : Answer) → told final ≡ Ended answer →
    FitsStep w 1 final → Happens 8 n w (Step 1) (Ended answer) (after_step w 1 final)
ends-by w n final answer is fits =
    subst (λ o. Happens 8 n w (Step 1) o (after_step w 1 final)) is (goes-so 8 n w 1 final fits)

module _ (area : Area) (rs : List Record) (kind : Kind) (own : Option ℕ) (answer : Answer) (old new : Seen)
    (heard : List Entry) (see : (ℕ → List ℕ) → ℕ → List ℕ) where
  abbrev start : State → State
  start w = starting area rs old see w

  abbrev after_these : List Turn → State → ℕ → State
  after_these turns w n = at_end area rs kind own answer old new heard see turns w n

  -- a job that goes so from each such state runs alone
  pub alone-so : (after : List Record) (turns : List Turn) (last : State → ℕ → State) →
      ((w : State) → IsJustOpened w area rs 1 0 old.providers → see w.bytes ≡ w.bytes) →
      MayBegin area rs kind own old →
      ((w : State) (n : ℕ) → StandsForState new.disk (last w n)) →
      ((w : State) (n : ℕ) → AreFitTurns (with_new (start w) n kind own) [] 1 turns) →
      ((w : State) (n : ℕ) → Happens 8 n (after_these turns w n) (Step 1) (Ended answer) (last w n)) →
      ((w : State) (n : ℕ) → left_by (last w n) (job_of (after_these turns w n).jobs 1)
      ≡ seen_as area after new heard w.handed) →
      ((w : State) (n : ℕ) → SameOutside area kind own answer rs (last w n).journal old.disk new.disk) →
      RunsAlone area rs kind own answer old new heard
  alone-so after turns last sees may images fit ends left same = record {
    faults = 0;
    before = omega (arith, may.0);
    ran = λ w n V. let U : IsJustOpened w area rs 1 0 (each (provider_at old.providers))
        = subst (λ ps. IsJustOpened w area rs 1 0 ps) may.1 V in
        ran-alike w V.at_rest area rs kind own answer old new heard 0 n may.3 may.4
        (subst (λ u. RanAlone area rs kind own answer old new heard 0 u n)
        (spelled-is area rs (see w.bytes) old.providers w (sees w V) U) (record {
          last = last w n;
          runs = record {
            begun = with_new (start w) n kind own;
            job = 1;
            begins = (refl, refusal-alone (start w) kind own ∙ may.2, refl, refl);
            goes_on = record {
              steps = job_run (with_new (start w) n kind own) [] 1 turns;
              are_steps = are-steps (with_new (start w) n kind own) (n + 1) 1 turns (fit w n);
              ends = ends w n;
              heard_is = sym (ap (λ (l : Left). l.heard) (left w n));
            };
          };
          images = images w n;
          faults_are = ap (λ (l : Left). l.faults) (left w n);
          handed = handed-four (last w n) (ap (λ (l : Left). l.handed) (left w n) ∙ U.handed.count)
              (ap (λ (l : Left). l.providers) (left w n));
          outside_text = same w n;
        }));
  }

  -- so does one that ends by a turn
  pub turns-so : (after : List Record) (turns : List Turn) (final : Turn) → told final ≡ Ended answer →
      ((w : State) → IsJustOpened w area rs 1 0 old.providers → see w.bytes ≡ w.bytes) →
      MayBegin area rs kind own old → EachImage new.disk (λ image. StandsActive image area after) →
      GoesSo area rs kind own answer old new heard see after turns final
      (RunsAlone area rs kind own answer old new heard)
  turns-so after turns final is sees may images fit goes left =
      alone-so after turns (λ w n. after_step (after_these turns w n) 1 final) sees may
      (λ w n. stand-so new.disk (after_step (after_these turns w n) 1 final)
      (job_of (after_these turns w n).jobs 1) (seen_as area after new heard w.handed) (left w n) images) fit
      (λ w n. ends-by (after_these turns w n) n final answer is (goes w n)) left

-- ---- commands

-- a job ends so whose run is this
pub job-ends : {rs : List Record} {kind : Kind} {own : Option ℕ} {answer : Answer} {old new : Seen}
    {end : Ending} (opened : IsOpened old rs) → length new.providers ≡ length old.providers →
    IsSpelledKind kind → MayName kind own → refusal_over opened.area rs kind own ≡ None →
    RunsAlone opened.area rs kind own answer old new end.heard →
    EndsByAnswer (text_of (setup_in_effect rs).tolerance kind answer) answer old new end →
    AnswersJob kind own opened.area rs old new end
job-ends {rs} {kind} {own} {answer} {old} {new} {end} opened same named may begins runs ends =
    AnswersJob.ended answer begins runs (left-alone rs kind own answer old new end.heard named may
    (λ w last n O r. jobs-leave kind own w last n answer end.heard named may O r) opened same runs) ends

-- a job runs alone, and its command ends so
pub record Run (area : Area) (rs : List Record) (kind : Kind) (answer : Answer) (old new : Seen)
    (end : Ending) : Type 0 where
  pub alone : RunsAlone area rs kind None answer old new end.heard
  pub answers : AnswersAlone kind old new end × SameSource old new

-- it is not refused, ends by this turn, and finds and leaves four providers, and the source
abbrev pub BeginsSo : Area → List Record → Kind → Turn → Answer → Seen → Seen → Type 0
BeginsSo area rs kind final answer old new = (told final ≡ Ended answer) × (old.disk_faults ≡ 0)
    × (old.providers ≡ each (provider_at old.providers)) × (length new.providers ≡ 4)
    × (refusal_over area rs kind None ≡ None) × IsSpelledKind kind × SameSource old new

-- a job runs so that goes by these turns and the last one from each state over the store
pub ran-over : {rs : List Record} {kind : Kind} {answer : Answer} {old new : Seen} {end : Ending}
    (see : (ℕ → List ℕ) → ℕ → List ℕ) (after : List Record) (turns : List Turn) (final : Turn)
    (opened : IsOpened old rs) → BeginsSo opened.area rs kind final answer old new →
    ((w : State) → IsJustOpened w opened.area rs 1 0 old.providers → see w.bytes ≡ w.bytes) →
    EachImage new.disk (λ image. StandsActive image opened.area after) →
    EndsByAnswer (text_of (setup_in_effect rs).tolerance kind answer) answer old new end →
    GoesSo opened.area rs kind None answer old new end.heard see after turns final
    (Run opened.area rs kind answer old new end)
ran-over {rs} {kind} {answer} {old} {new} {end} see after turns final opened begins sees images ends fit goes
    left same =
    (let alone = turns-so opened.area rs kind None answer old new end.heard see after turns final begins.0
    sees (begins.1, begins.2, begins.4, begins.5, MayName.none refl) images fit goes left same in record {
      alone = alone;
      answers = (
        AnswersAlone.begun rs opened (job-ends opened (begins.3 ∙ sym (ap length begins.2)) begins.5
            (MayName.none refl) begins.4 alone ends),
        begins.6,
      );
    })

-- so does one that looks at no bytes of files
pub ran-plain : {rs : List Record} {kind : Kind} {answer : Answer} {old new : Seen} {end : Ending}
    (after : List Record) (turns : List Turn) (final : Turn) (opened : IsOpened old rs) →
    BeginsSo opened.area rs kind final answer old new →
    EachImage new.disk (λ image. StandsActive image opened.area after) →
    EndsByAnswer (text_of (setup_in_effect rs).tolerance kind answer) answer old new end →
    GoesSo opened.area rs kind None answer old new end.heard (λ bytes. bytes) after turns final
    (Run opened.area rs kind answer old new end)
ran-plain after turns final opened begins images ends =
    ran-over (λ bytes. bytes) after turns final opened begins (λ w V. refl) images ends

-- ---- puts

-- a put of these bytes runs alone, and its command ends so
pub record PutRun (area : Area) (rs : List Record) (name bytes : List ℕ) (own : Option ℕ) (answer : Answer)
    (old new : Seen) (status : ℕ) : Type 0 where
  pub alone : RunsAlone area rs (PutJob name bytes) own answer old new []
  pub answers : AnswersPut name own old new (record { status = status; at = 0; heard = [] })

-- it may begin, reads its source to the end, and finds and leaves four providers
abbrev pub PutsSo : Area → List Record → List ℕ → List ℕ → Option ℕ → Seen → Seen → Type 0
PutsSo area rs name bytes own old new = (old.disk_faults ≡ 0) ×
    (old.providers ≡ each (provider_at old.providers)) × (refusal_over area rs (PutJob name bytes) own ≡ None)
    × IsSpelledKind (PutJob name bytes) × (is_unknown own ≡ false) ×
    (length new.providers ≡ length old.providers) × (old.source ≡ then_told bytes new.source) × IfSome
    new.source (λ left. left ≡ []) × (length bytes ≤ largest_file)

module _ {rs : List Record} {name bytes : List ℕ} {own : Option ℕ} {answer : Answer} {old new : Seen}
    {status : ℕ} (may : MayName (PutJob name bytes) own) where
  -- its command ends so
  pub put-ends : (opened : IsOpened old rs) → PutsSo opened.area rs name bytes own old new →
      EndsByAnswer (text_of (setup_in_effect rs).tolerance (PutJob name bytes) answer) answer old new
      (record { status = status; at = 0; heard = [] }) →
      RunsAlone opened.area rs (PutJob name bytes) own answer old new [] →
      PutRun opened.area rs name bytes own answer old new status
  unfolding job-ends
  put-ends opened puts ends alone = record {
    alone = alone;
    answers = AnswersPut.begun rs bytes opened puts.4 (record { are_bytes = puts.3.1; front = puts.6 })
        puts.8 (job-ends opened puts.5 puts.3 may puts.2 alone ends) (λ m. puts.7) (λ b. absurd b);
  }

  -- one that ends by a turn
  pub put-so : (after : List Record) (turns : List Turn) (final : Turn) → told final ≡ Ended answer →
      (opened : IsOpened old rs) → PutsSo opened.area rs name bytes own old new →
      EachImage new.disk (λ image. StandsActive image opened.area after) →
      EndsByAnswer (text_of (setup_in_effect rs).tolerance (PutJob name bytes) answer) answer old new
      (record { status = status; at = 0; heard = [] }) →
      GoesSo opened.area rs (PutJob name bytes) own answer old new [] (λ bytes. bytes) after turns final
      (PutRun opened.area rs name bytes own answer old new status)
  put-so after turns final is opened puts images ends fit goes left same = put-ends opened puts ends
      (turns-so opened.area rs (PutJob name bytes) own answer old new [] (λ bytes. bytes) after turns final is
      (λ w V. refl) (puts.0, puts.1, puts.2, puts.3, may) images fit goes left same)

-- ---- how it goes

-- a turn that answers more fits, and so do those before it
pub turn : {Z X Y : Type 0} {more : Z} → X → Y → (more ≡ more) × ((true ≡ true) × ((true ≡ true) × X)) × Y
turn x y = (refl, (refl, (refl, x)), y)

-- a record of a job comes next, the last one, behind these
pub next : {own earlier after : List Record} {entry : Record} (done : List Record) →
    own ≡ done ++ entry ∷ [] → after ≡ reverse done ++ earlier → IsNextRecord own earlier after entry
next done parts is = record { done = done; rest = []; parts = parts; after_is = is }

-- outside the text with it the disk reads as before
pub behind : {kind : Kind} {earlier after : List Record} {old new : Option Cells} (entry : Record) →
    IsNext kind None earlier after entry →
    option_map (outside A (entry ∷ after)) new ≡ option_map (outside A (entry ∷ after)) old →
    SameAround A kind None earlier after old new
behind entry is same = record { next = Some entry; is_next = is; same = same }
