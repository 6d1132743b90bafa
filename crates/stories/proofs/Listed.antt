-- A list of the names in a replay.
use Rattle.stories.proofs.Words.{◌≡◌, ℕ, Bool, true, false, suc, List, [], ◌∷◌, ◌++◌, length, Option, None, Some, refl, ap, sym, subst, ◌∙◌, append_assoc, arith, Dropped, Names, Listed, DropJob, Happens, Lists, Touches, run_back, stored_is_kept, IsRead, IsListedAs, ReadsAs, PutsUnder, NoPutBegan, AreButBlocks, NonePuts, AreOverOn, ends_apart, both_none, none_for, tells, drops, lists, over, done_by, File, Ended, IsStart, file_in, Once, NoneAsksOn, Seen, Ending, called_behind, WasTold}
use Rattle.record_defs.specs.Table.{find_file}
use Rattle.machine_defs.specs.Events.{Event, Outcome}
use Rattle.effect_laws.proofs.Drops.{dropped_out}
use Rattle.effect_laws.proofs.Origin.{none_put_none}
use Rattle.epoch_laws.proofs.Told.{stored-behind}
use Rattle.stories.specs.Words.{Put, Begin, Begun, Moment, now, IsRun, State, Instruction}
use Rattle.stories.specs.Files.{put_of}
use Rattle.stories.proofs.Puts.{called-free}
use Rattle.stories.proofs.Told.{but-apart, but-cons, job-told, over-but}

-- the moments up to the list, and those behind it
pub record Apart (commands : List Instruction) (outcomes : List Outcome) (told : List File) (start : State)
    (base ms : List Moment) : Type 0 where
  pub later : List Moment
  pub older : List Moment
  pub own : List Outcome
  pub moments : ms ++ base ≡ later ++ (older ++ base)
  pub buts : AreButBlocks own (Listed told ∷ outcomes)
  pub reads : ReadsAs (Once Names ∷ commands) older own
  pub clean : IsStart start
  pub run : IsRun 8 start (older ++ base)

pub apart : (behind commands : List Instruction) (own rs outcomes : List Outcome) (told : List File)
    (start : State) (ms : List Moment) (new : Seen) (end : Ending) →
    AreButBlocks own (rs ++ Listed told ∷ outcomes) →
    (W : WasTold (behind ++ Once Names ∷ commands) own start ms new end) → length rs ≡ length behind →
    Apart commands outcomes told start (called_behind start ms) W.later
apart behind commands own rs outcomes told start ms new end but W many =
    (let base : List Moment = called_behind start ms in
    let P = but-apart own rs (Listed told ∷ outcomes) but in
    let A = ends_apart behind (Once Names ∷ commands) W.later P.first P.rest
    (subst (ReadsAs (behind ++ Once Names ∷ commands) W.later) P.is W.reads) (P.as_many ∙ many) in
    let split = ap (λ l. l ++ base) A.moments ∙ append_assoc A.later A.older base in
    record {
      later = A.later;
      older = A.older;
      own = P.rest;
      moments = split;
      buts = P.rests;
      reads = A.rest;
      clean = W.left.starts;
      run = run_back 8 start A.later (A.older ++ base) (subst (IsRun 8 start) split W.left.run);
    })

-- a list changes nothing
list-stays : (start : State) (m : Moment) (ms : List Moment) (told : List File) → IsRun 8 start (m ∷ ms) →
    m.event ≡ Names → IsRead m.outcome (Listed told) → m.state ≡ now start ms
list-stays start m ms told run event (files, is, same) = go (now start ms).is_open
    (subst (λ (e : Event). Happens 8 (length ms) (now start ms) e (Listed files) m.state) event
    (subst (λ (r : Outcome). Happens 8 (length ms) (now start ms) m.event r m.state) is run.1))
  where
    go : (o : Bool) → Lists (now start ms) o (Listed files) m.state → m.state ≡ now start ms
    go true h = h.1
    go false h = absurd h

-- it tells what stands
pub each : (commands : List Instruction) (outcomes : List Outcome) (told : List File) (start : State)
    (base ms : List Moment) (A : Apart commands outcomes told start base ms) (name : List ℕ) →
    IsListedAs (file_in (now start (A.older ++ base)) name) (find_file told name)
each commands outcomes told start base ms A name = (let C = but-cons A.own (Listed told) outcomes A.buts in
    let reads = subst (ReadsAs (Once Names ∷ commands) A.older) (C.2 ∙ ap (λ r. r ∷ C.1) C.3) A.reads in
    let m : Moment = reads.0 in
    let before : List Moment = reads.1 ++ base in
    let split = ap (λ l. l ++ base) reads.2 in
    let all = subst (IsRun 8 start) split A.run in
    subst (λ l. IsListedAs (file_in (now start l) name) (find_file told name)) (sym split)
    (subst (λ (w : State). IsListedAs (file_in w name) (find_file told name))
    (sym (list-stays start m before told all reads.3 reads.4))
    (lists 8 start m before told all reads.3 reads.4 name)))

-- of a file in effect there is one, and of none there is none
one-listed : (told : Option File) (file : File) (size : ℕ) → IsListedAs (Some file) told → file.size ≡ size →
    (found : File) × (told ≡ Some found) × (found.size ≡ size)
one-listed None file size is sized = absurd is
one-listed (Some found) file size is sized = (found, refl, sym is ∙ sized)

none-listed : (told : Option File) → IsListedAs None told → told ≡ None
none-listed None is = refl
none-listed (Some found) is = absurd is

module _ (front middle : List Instruction) (us ts : List Outcome) (told : List File) (name : List ℕ)
    (start : State) (ms whole : List Moment) where
  -- a file that was put, and that no put or drop asked for since touches
  pub put-listed : (bytes : List ℕ) (profile : Option ℕ) (p : ℕ) →
      Apart (middle ++ put_of front name bytes profile p) (ts ++ Ended Put ∷ Begun p ∷ us) told start
      (called_behind start ms) whole → length ts ≡ length middle → AreOverOn name front us →
      NoneAsksOn name middle → (file : File) × (find_file told name ≡ Some file) × (file.size ≡ length bytes)
  put-listed bytes profile p A many leaves asks = (let base : List Moment = called_behind start ms in
      let commands = middle ++ put_of front name bytes profile p in
      let P = job-told A.own (Listed told ∷ ts) us Put p tt A.buts in
      let S = stored-behind front (Once Names ∷ middle) name bytes profile p A.older base P.behind P.before
      (subst (ReadsAs (Once Names ∷ commands) A.older) P.is A.reads) (P.as_many ∙ ap suc many) ((λ on. on), asks)
      (over-but (Touches name) front P.before us [] P.rests leaves) (called-free name start ms) in
      let F = stored_is_kept 8 start (A.older ++ base) name bytes A.clean A.run S in
      one-listed (find_file told name) F.file (length bytes) (subst (λ o. IsListedAs o (find_file told name))
      F.kept.in_effect (each commands (ts ++ Ended Put ∷ Begun p ∷ us) told start base whole A name)) F.size)

  -- one that was dropped, and that no put asked for since brings back
  pub drop-listed : (d : ℕ) → Apart (middle ++ done_by (Begin (DropJob name)) d front)
      (ts ++ Ended Dropped ∷ Begun d ∷ us) told start (called_behind start ms) whole → length ts ≡ length middle →
      AreOverOn name front us → NonePuts name middle → find_file told name ≡ None
  drop-listed d A many leaves asks = (let base : List Moment = called_behind start ms in
      let commands = middle ++ done_by (Begin (DropJob name)) d front in
      let P = job-told A.own (Listed told ∷ ts) us Dropped d tt A.buts in
      let T = tells (Once Names ∷ middle) [] front (Begin (DropJob name)) d Dropped A.older P.behind [] P.before
      (subst (ReadsAs (Once Names ∷ commands) A.older) P.is A.reads) (P.as_many ∙ ap suc many) refl tt in
      none-listed (find_file told name) (subst (λ o. IsListedAs o (find_file told name))
      (dropped_out 8 start (A.older ++ base) name (omega arith, omega arith) A.clean A.run
      (drops (Once Names ∷ middle) [] front d name A.older base P.behind P.before T ((λ on. on), asks) tt
      (over (Touches name) front T.older base P.before T.before
      (over-but (Touches name) front P.before us [] P.rests leaves) (called-free name start ms))))
      (each commands (ts ++ Ended Dropped ∷ Begun d ∷ us) told start base whole A name)))

-- one that nobody put
pub unput-listed : (commands : List Instruction) (outcomes : List Outcome) (told : List File) (name : List ℕ)
    (start : State) (ms whole : List Moment) → Apart commands outcomes told start (called_behind start ms) whole →
    NonePuts name commands → NoPutBegan name ms → find_file told name ≡ None
unput-listed commands outcomes told name start ms whole A none before =
    (let base : List Moment = called_behind start ms in
    none-listed (find_file told name) (subst (λ o. IsListedAs o (find_file told name))
    (none_put_none 8 start (A.older ++ base) name A.clean A.run
    (both_none (PutsUnder name) A.older base
    (none_for (PutsUnder name) (Once Names ∷ commands) A.older A.own A.reads ((λ on. on), none))
    ((λ t n is. t), before))) (each commands outcomes told start base whole A name)))
