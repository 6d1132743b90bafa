-- How gets end, and that few wrong blocks leave a get its file.
use Rattle.second_half_laws.proofs.Words.{true, refl, ap, sym, subst, ◌∙◌, arith, slice_get, Each, each_get, each_append, each_map, each_flat, flat_map-range_same, IsShape, upto, Object, stripes, symbols_in, bytes_of_symbols, row_polynomial, is_wrong_block, GivesSymbols, LosesRow, OpensFile, block_at, count_of, count_of-within, profile-room, row-right, symbols-right, Setup, File, Kind, GetJob, Pinned, Given, Job, job_of, profiled, pinned_stripes, Action, Fetch, Work, End, on_each_provider, on_each_stripe, open_actions, read_actions, Answer, Event, Step, Outcome, Ended, State, Alone, IsStart, setup_in, object_in, file_object, pinned_object, file_in, pinned_file, block_given, blocks_given, next_action, Ends, Acts, ActsOrWaits, StepsOn, StepsJob, StepsOne, StepsOpen, Steps, Happens, Moment, now, first_moments, IsRun, heard_by, given_to, found_none, IsLone, Changes, changes, next_is_by, Pins_is, pins_is, setup_same, setup_kept, All, all, first_more, first_all, HasFile, own_profile, got_is_opened, heard_blocks, get_file, block_at-given, bytes_back, valid_setup, valid_shape, held_file, first_run, shape_in, IsFewWrong}
use Rattle.std.proofs.Common.{◌≡◌, ℕ, ◌<◌, ◌≤◌, Bool, false, List, [], ◌∷◌, ◌++◌, length, Option, Some, None}
use Rattle.code_defs.proofs.Profiles.{some_kept}
use Rattle.machine_defs.specs.Answers as answer

-- ---- a get has one file, that of its name at its begin

-- the state at the begin of a job
abbrev pub begin_of : State → List Moment → Job → State
begin_of start ms job = now start (first_moments job.begun ms)

abbrev pub HaveFiles : State → List Moment → Type 0
HaveFiles start ms = (k : ℕ) (j : Job) (name : List ℕ) → job_of (now start ms).jobs k ≡ Some j →
    j.kind ≡ GetJob name → HasFile (begin_of start ms j) (now start ms) j name

module _ (limit : ℕ) (start : State) (m : Moment) (ms : List Moment) (A : All start ms)
    (F : HaveFiles start ms) (X : Changes limit (length ms) (now start ms) m.event m.outcome m.state) where
  file_step : HaveFiles start (m ∷ ms)
  file_step k j name h kind = elim (pins_is limit start m ms A.numbers A.pins X k j h) [
    | Pins_is.had x runs pinned kind_x begun g ↦ (let f = F k x name runs (sym kind_x ∙ kind) in
        let same : begin_of start ms x ≡ begin_of start (m ∷ ms) j =
        cc (first_more x.begun m ms (A.held.begun k x runs)) in
        record {
          file = f.file;
          in_effect = cc;
          pinned = cc;
          setup = cc (setup_kept limit start m ms A.numbers A.pins X k j h);
        })
    | Pins_is.new_one kd wish is k_is allowed rec ↦ (let kd_is : kd ≡ GetJob name = cc in
        let g = get_file limit (now start ms) name wish (file_in (now start ms) name) refl (cc) in
        let begun : j.begun ≡ length ms = cc in let same : now start ms ≡ begin_of start (m ∷ ms) j =
        cc (first_more (length ms) m ms (omega arith), first_all ms) in
        record {
          file = g.0;
          in_effect = cc;
          pinned = ap (λ (x : Job). x.pinned) is ∙ (cc);
          setup = cc;
        })
  ]

-- in every run a running get works on the file that was in effect under its name at its begin
pub have_files : (limit : ℕ) (start : State) → IsStart start → (ms : List Moment) → IsRun limit start ms →
    HaveFiles start ms
have_files limit start clean [] run = λ k j name h kind. absurd (found_none start.jobs k j clean.jobs h)
have_files limit start clean (m ∷ ms) run = (let A = all limit start clean ms run.2 in
    file_step limit start m ms A (have_files limit start clean ms run.2)
    (changes limit (length ms) (now start ms) m.event m.outcome m.state A.numbers.idle run.1))

-- ---- the actions of a get

abbrev IsOfGet : ℕ → Action → Type 0
IsOfGet id (Fetch i o s) = o ≡ id
IsOfGet id (Work o s) = o ≡ id
IsOfGet id End = Unit {0}
IsOfGet id action = ⊥

of_get : (t : Setup) (f : Pinned) → Each (IsOfGet f.id) (read_actions t (f ∷ []) ++ End ∷ [])
of_get t f = each_append (IsOfGet f.id) (read_actions t (f ∷ [])) (End ∷ [])
    (each_append (IsOfGet f.id) (on_each_stripe (profiled t f.profile) (length f.bytes) (open_actions t f.id))
    [] (each_flat (IsOfGet f.id) (open_actions t f.id) (upto (pinned_stripes t f))
    (λ s. each_append (IsOfGet f.id) (on_each_provider t (λ j. Fetch j f.id s)) (Work f.id s ∷ [])
    (each_map (IsOfGet f.id) (λ j. Fetch j f.id s) (upto t.n) (λ j. refl)) (refl, tt))) tt) (tt, tt)

get_next : (w : State) (job : Job) (name : List ℕ) (f : Pinned) → job.kind ≡ GetJob name →
    job.pinned ≡ f ∷ [] →
    next_action w job ≡ slice_get (read_actions (setup_in w) (f ∷ []) ++ End ∷ []) job.place
get_next w job name f kind pinned = cc (next_is_by w job)

is_of_get : (w : State) (job : Job) (name : List ℕ) (f : Pinned) (action : Action) → job.kind ≡ GetJob name →
    job.pinned ≡ f ∷ [] → next_action w job ≡ Some action → IsOfGet f.id action
is_of_get w job name f action kind pinned h =
    each_get _ _ _ action (of_get (setup_in w) f) (sym (get_next w job name f kind pinned) ∙ h)

-- ---- how a get ends

-- beside a job that runs nothing runs alone
pub none_beside : (w : State) (k : ℕ) (job : Job) → IsLone w → job_of w.jobs k ≡ Some job → w.alone ≡ None
none_beside w k job lone runs = by_alone w.alone refl
  where
    by_alone : (o : Option Alone) → w.alone ≡ o → w.alone ≡ None
    by_alone None is = is
    by_alone (Some x) is = absurd (found_none w.jobs k job (lone x is) runs)

-- a get's end by a step: with bytes, or lost at a row
pub data Get_ends (old : State) (job : Job) (f : Pinned) (how : Answer) : Type 0 where
  with_bytes : (bytes : List ℕ) → how ≡ answer.Got bytes → Get_ends old job f how
  is_lost : (stripe row : ℕ) → how ≡ answer.Lost stripe row → next_action old job ≡ Some (Work f.id stripe) →
      LosesRow (pinned_object old f) stripe (blocks_given job.given (setup_in old).n f.id stripe) row →
      Get_ends old job f how

module _ (old : State) (job : Job) (name : List ℕ) (f : Pinned) (new : State) (kind : job.kind ≡ GetJob name)
    (pinned : job.pinned ≡ f ∷ []) (lone : IsLone old) where
  at_end : (kd : Kind) → kd ≡ GetJob name → (how : Answer) → Ends old job kd how → Get_ends old job f how
  at_end kd is how h = by_answer how (rw is at h)
    where
      by_answer : (a : Answer) → Ends old job (GetJob name) a → Get_ends old job f a
      by_answer (answer.Got bytes) g = Get_ends.with_bytes bytes refl
      by_answer a g = absurd g

  at_work : (o s : ℕ) → o ≡ f.id → next_action old job ≡ Some (Work o s) → (how : Answer) →
      Acts old job (Work o s) (Ended how) new → Get_ends old job f how
  at_work o s o_is next_is (answer.Lost t row) (t_is, lost, is) =
      Get_ends.is_lost t row refl (cc) (subst (λ n. LosesRow (pinned_object old f) n (blocks_given job.given
      (setup_in old).n f.id n) row) (sym t_is) (rw o_is at (subst (λ p. LosesRow (object_in old p o) s
      (blocks_given job.given (setup_in old).n o s) row) (own_profile _ _ f o pinned o_is) lost)))
  at_work o s o_is next_is how h = absurd h

  at_fetch : (i o s : ℕ) (how : Answer) → Acts old job (Fetch i o s) (Ended how) new → ⊥
  at_fetch i o s _ h = h

  acts : (action : Action) → IsOfGet f.id action → next_action old job ≡ Some action → (how : Answer) →
      Acts old job action (Ended how) new → Get_ends old job f how
  acts End of next_is how h = at_end job.kind kind how h.0
  acts (Work o s) of next_is how h = at_work o s of next_is how h
  acts (Fetch i o s) of next_is how h = absurd (at_fetch i o s how h)
  acts action of next_is how h = absurd of

  waits : (action : Action) (holder : Option ℕ) (how : Answer) → next_action old job ≡ Some action →
      ActsOrWaits old job action holder (Ended how) new → Get_ends old job f how
  waits action None how next_is h =
      acts action (is_of_get old job name f action kind pinned next_is) next_is how h
  waits action (Some n) how next_is h = absurd h

  on : (action : Option Action) (how : Answer) → next_action old job ≡ action →
      StepsOn old job action (Ended how) new → Get_ends old job f how
  on None how is h = absurd h
  on (Some action) how is h = waits action _ how is h

  by_job : (found : Option Job) (how : Answer) → found ≡ Some job → StepsJob old found (Ended how) new →
      Get_ends old job f how
  by_job None how is h = absurd h
  by_job (Some x) how is h = on (next_action old job) how refl (rw (let e : x ≡ job = cc in e) at h)

  by_bar : (is_barred : Bool) (how : Answer) → job_of old.jobs job.number ≡ Some job →
      StepsOpen old job.number is_barred (Ended how) new → Get_ends old job f how
  by_bar true how runs h = absurd h
  by_bar false how runs h = by_job _ how runs (subst (λ x. StepsOne old job.number x
      (Ended how) new) (none_beside old job.number job lone runs) h)

  by_step : (is_open : Bool) (how : Answer) → job_of old.jobs job.number ≡ Some job →
      Steps old job.number is_open (Ended how) new → Get_ends old job f how
  by_step true how runs h = by_bar old.is_barred how runs h
  by_step false how runs h = absurd h

-- a get that a step ends gave bytes, or is lost at a row of the stripe that it worked on
pub get_ends : (limit : ℕ) (start : State) (m : Moment) (ms : List Moment) (job : Job) (name : List ℕ)
    (f : Pinned) (how : Answer) → IsLone (now start ms) → IsRun limit start (m ∷ ms) →
    m.event ≡ Step job.number → m.outcome ≡ Ended how → job_of (now start ms).jobs job.number ≡ Some job →
    job.kind ≡ GetJob name → job.pinned ≡ f ∷ [] → Get_ends (now start ms) job f how
get_ends limit start m ms job name f how lone run event outcome runs kind pinned =
    (by_step (now start ms) job name f m.state kind pinned lone (now start ms).is_open how runs
    (subst (λ (x : Event). Happens limit (length ms) (now start ms) x (Ended how) m.state) event
    (subst (λ (r : Outcome). Happens limit (length ms) (now start ms) m.event r m.state) outcome run.1)))

-- ---- few wrong blocks leave the file

shape_of_file : (limit : ℕ) (start : State) (ms : List Moment) (name : List ℕ) (file : File) → IsStart start →
    IsRun limit start ms → file_in (now start ms) name ≡ Some file →
    IsShape (setup_in (now start ms)).n (setup_in (now start ms)).l (setup_in (now start ms)).b
shape_of_file limit start ms name file clean run h =
    shape_in (now start ms) (λ s e. valid_shape s (valid_setup limit start ms s clean run e))
    (held_file limit start ms name file clean run h).up

few_seen : (o : Object) (bytes : List ℕ) (given : List Given) (object stripe : ℕ) →
    count_of (λ j. is_wrong_block o bytes j stripe (block_given given object stripe j))
    (upto o.shape.n) ≤ o.shape.b →
    count_of (λ j. is_wrong_block o bytes j stripe (block_at (blocks_given given o.shape.n object stripe) j))
    (upto o.shape.n) ≤ o.shape.b
few_seen o bytes given object stripe few = (omega (
  arith,
  count_of-within (λ j. is_wrong_block o bytes j stripe (block_at (blocks_given given o.shape.n
      object stripe) j)) (λ j. is_wrong_block o bytes j stripe (block_given given object stripe j)) 0 o.shape.n
      (λ j l h. cc (block_at-given given o.shape.n object stripe j (omega (arith, l)))),
  few,
))

module _ (limit : ℕ) (start : State) (m : Moment) (ms : List Moment) (job : Job) (name : List ℕ)
    (clean : IsStart start) (run : IsRun limit start (m ∷ ms))
    (runs : job_of (now start ms).jobs job.number ≡ Some job) (kind : job.kind ≡ GetJob name)
    (event : m.event ≡ Step job.number) (file : File)
    (in_effect : file_in (begin_of start ms job) name ≡ Some file) where
  abbrev b : State
  b = begin_of start ms job

  run_b : IsRun limit start (first_moments job.begun ms)
  run_b = first_run limit start job.begun ms run.2

  -- a get to which at most b providers gave a wrong block of each stripe gives the file's bytes
  pub few_give : (bytes : List ℕ) → m.outcome ≡ Ended (answer.Got bytes) →
      ((stripe : ℕ) → stripe < stripes (file_object (begin_of start ms job) file)
      (length ((begin_of start ms job).bytes file.id)) →
      IsFewWrong (begin_of start ms job) file job stripe) → bytes ≡ (begin_of start ms job).bytes file.id
  few_give bytes outcome few = (let got = got_is_opened limit start m ms job name bytes clean run
      (record { event = event; outcome = outcome; runs = runs; kind = kind }) in
      let same : got.file ≡ file = cc in
      by_file got.file same got.opens)
    where
      by_file : (g : File) → g ≡ file →
          OpensFile (file_object b g) (length (b.bytes g.id))
          (blocks_given (given_to job.number (heard_by (Some job))) (setup_in b).n g.id) bytes →
          bytes ≡ b.bytes file.id
      by_file g same opens_g = (let o = file_object b file in let own = b.bytes file.id in
          let shape = shape_of_file limit start (first_moments job.begun ms) name file clean run_b in_effect
          in let opens : OpensFile o (length own) (blocks_given (given_to job.number (heard_by (Some job)))
          (setup_in b).n file.id) bytes =
          subst (λ x. OpensFile (file_object b x) (length (b.bytes x.id))
          (blocks_given (given_to job.number (heard_by (Some job))) (setup_in b).n x.id) bytes) same opens_g
          in cc (
            flat_map-range_same (λ s. bytes_of_symbols (opens.symbols s)) (λ s. bytes_of_symbols
                (symbols_in o own s)) 0 (stripes o (length own)) (λ s l. ap bytes_of_symbols (symbols-right o own
                file.profile s (blocks_given job.given (setup_in b).n file.id s) (opens.symbols s) refl shape
                (few_seen o own job.given file.id s (few s (omega (arith, l))))
                (subst (λ seen. GivesSymbols o s seen (opens.symbols s)) (heard_blocks job name (setup_in b).n
                file.id s kind) (opens.given s (omega (arith, l)))))),
            bytes_back o own shape.2 (some_kept file.profile) (held_file limit start (first_moments job.begun
                ms) name file clean run_b in_effect).bytes,
          ))

  -- a get to which at most b providers gave a wrong block of a stripe is not lost there
  pub few_not_lost : (stripe row : ℕ) → m.outcome ≡ Ended (answer.Lost stripe row) →
      IsFewWrong (begin_of start ms job) file job stripe → ⊥
  few_not_lost stripe row outcome few =
      (let H = have_files limit start clean ms run.2 job.number job name runs kind in
      let same : H.file ≡ file = cc in
      by_end (setup_same (now start ms) b H.setup) (get_ends limit start m ms job name _ _ (all limit start
      clean ms run.2).numbers.idle.lone run event outcome runs kind (cc)))
    where
      by_end : setup_in (now start ms) ≡ setup_in b →
          Get_ends (now start ms) job (pinned_file b file) (answer.Lost stripe row) → ⊥
      by_end s (Get_ends.with_bytes bytes e) = (cc e)
      by_end s (Get_ends.is_lost t r e next_is lost) = (contradicts (cc e) (rw s at lost))
        where
          contradicts : t ≡ stripe →
              LosesRow (file_object b file) t (blocks_given job.given (setup_in b).n file.id t) r → ⊥
          contradicts t_is l = l.lost (row_polynomial (file_object b file)
              (symbols_in (file_object b file) (b.bytes file.id) t) l.place)
              (row-right _ _ _ t _ _ _ refl (shape_of_file limit start _ name file clean run_b in_effect)
              (few_seen (file_object b file) (b.bytes file.id) job.given file.id t (rw (← t_is) at few))
              l.opens (omega (arith, profile-room (file_object b file) file.profile refl, l.kept)))
