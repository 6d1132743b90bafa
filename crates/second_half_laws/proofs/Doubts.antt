-- What stands of the job that wrote a record in doubt; and that setups stay.
use Rattle.second_half_laws.proofs.Words.{refl, ap, sym, subst, ◌∙◌, slice_get, In, Setup, Record, SetUp, setup_of, Kind, PutJob, Given, Job, job_of, advanced, Action, actions_of, State, Append, Doubt, IsStart, setup_in, Moment, now, IsRun, Records_is, Changes, IsWritten, changes, setup_same, wrote_setup, All, all, stands_by, WasMade}
use Rattle.std.proofs.Common.{◌≡◌, ℕ, ◌<◌, ◌≤◌, List, [], ◌∷◌, ◌++◌, length, Some, None}
use Rattle.machine_defs.proofs.PutProfiles as own
use Rattle.run_laws.proofs.InEffect as eff
use Rattle.run_laws.proofs.PutBytes.{Stands}
use Rattle.second_half_laws.proofs.Walk.{Doubted, Walked, walked}
use Rattle.second_half_laws.proofs.Passing.{later_same, later_advanced}
use Rattle.second_half_laws.proofs.MadeFacts as made
use Rattle.second_half_laws.proofs.MadeFacts.{CameBy, HasGift, came_on, made_on}
use Rattle.second_half_laws.proofs.Finals.{Final, Flights, flight_step, start_flights}

-- what a job had made and was given when it wrote its last gate
pub record Done (start : State) (ms : List Moment) (x : Job) (entry : Record) : Type 0 where
  pub final : Final (setup_in (now start ms)) x entry x.kind
  pub made : (p : ℕ) (action : Action) → p < x.place →
      slice_get (actions_of (setup_in (now start ms)) x) p ≡ Some action →
      WasMade start ms (advanced x) action × HasGift action x.given
  pub came : (gift : Given) → In gift x.given → CameBy start ms (advanced x) gift
  pub own : (name bytes : List ℕ) → x.kind ≡ PutJob name bytes → 4 ≤ x.place →
      Stands (now start ms) x.subject bytes

pub data Standing (start : State) (ms : List Moment) (d : Doubt) : Type 0 where
  bare : (s : Setup) → d.entry ≡ SetUp s → d.maker ≡ None → setup_of (now start ms).records ≡ None →
      Standing start ms d
  by_job : (x : Job) → d.maker ≡ Some (advanced x) → Done start ms x d.entry → Standing start ms d

pub record Facts (start : State) (ms : List Moment) : Type 0 where
  pub made : made.Facts start ms
  pub flights : Flights start ms
  pub doubt : (d : Doubt) → (now start ms).doubt ≡ Some d → Standing start ms d

done_on : (limit : ℕ) (start : State) (m : Moment) (ms : List Moment) (x : Job) (entry : Record) →
    IsWritten (now start ms) → Changes limit (length ms) (now start ms) m.event m.outcome m.state →
    setup_in m.state ≡ setup_in (now start ms) → Done start ms x entry → Done start (m ∷ ms) x entry
done_on limit start m ms x entry N X setup d = record {
  final = rw (← setup) at d.final;
  made = λ p action l at. (let f = d.made p action l (cc) in
      (made_on start m ms (advanced x) (advanced x) action (later_same (advanced x)) f.0, f.1));
  came = λ gift i. came_on start m ms (advanced x) (advanced x) gift setup (later_same (advanced x))
      (d.came gift i);
  own = λ name bytes kind late. stands_by limit _ _ _ _ _ _ bytes N X (d.own name bytes kind late);
}

module _ (limit : ℕ) (start : State) (m : Moment) (ms : List Moment) (A : All start ms)
    (V : own.Facts start ms) (I : eff.Facts (now start ms)) (F : Facts start ms)
    (X : Changes limit (length ms) (now start ms) m.event m.outcome m.state)
    (W : Walked (length ms) (now start ms) m.event m.outcome m.state) where
  -- the state after these moments
  abbrev w : State
  w = now start ms

  done_now : (x : Job) (a : Append) → job_of w.jobs x.number ≡ Some x → w.append ≡ Some a → a.job ≡ x.number →
      m.state.records ≡ w.records → Done start (m ∷ ms) x a.entry
  done_now x a runs flight mine rec = (let setup = setup_same m.state w (ap setup_of rec) in
      record {
        final = rw (← setup) at (F.flights a x flight (cc));
        made = λ p action l at. (let f = F.made.made x.number x p action runs l (cc) in
            (made_on start m ms x (advanced x) action (later_advanced x) f.0, f.1));
        came = λ gift i. came_on start m ms x (advanced x) gift setup (later_advanced x)
            (F.made.came x.number x gift runs i);
        own = λ name bytes kind late. stands_by limit _ w _ _ _ _ bytes A.numbers.written X (record {
          below = A.numbers.below x.number x runs (cc, late);
          bytes_are = I.kept x.number x name bytes runs kind late;
        });
      })

  doubt_step : (d : Doubt) → m.state.doubt ≡ Some d → Standing start (m ∷ ms) d
  doubt_step d h = elim (W.doubt d h) [
    | Doubted.kept before rec ↦ on (F.doubt d before) (setup_same m.state w (ap setup_of rec)) rec
    | Doubted.gated x a runs next_is flight mine is rec ↦
        Standing.by_job x (cc) (subst (Done start (m ∷ ms) x) (cc) (done_now x a runs flight mine rec))
    | Doubted.set_up s is none_ ↦ Standing.bare s (cc) (cc) none_
  ]
    where
      on : Standing start ms d → setup_in m.state ≡ setup_in w → m.state.records ≡ w.records →
          Standing start (m ∷ ms) d
      on (Standing.bare s entry maker none_) setup rec = Standing.bare s entry maker (ap setup_of rec ∙ none_)
      on (Standing.by_job x maker done) setup rec =
          Standing.by_job x maker (done_on limit start m ms x d.entry A.numbers.written X setup done)

  step_facts : Facts start (m ∷ ms)
  step_facts = record {
    made = made.step_facts limit start m ms A F.made X W;
    flights = flight_step limit start m ms A V F.made F.flights X W;
    doubt = doubt_step;
  }

-- in every run a record in doubt is a first setup, or its job had made and was given all that it tells of
pub facts : (limit : ℕ) (start : State) → IsStart start → (ms : List Moment) → IsRun limit start ms →
    Facts start ms
facts limit start clean [] run =
    record {
      made = made.start_facts start clean;
      flights = start_flights start clean;
      doubt = λ d h. absurd (cc (sym clean.doubt ∙ h));
    }
facts limit start clean (m ∷ ms) run = (let A = all limit start clean ms run.2 in
    step_facts limit start m ms A (own.facts limit start clean ms run.2)
    (eff.facts limit start ms clean run.2) (facts limit start clean ms run.2)
    (changes limit (length ms) (now start ms) m.event m.outcome m.state A.numbers.idle run.1)
    (walked (length ms) (now start ms) limit m.event m.outcome m.state A.numbers.idle.lone run.1))

-- ---- setups stay

final_setup : (t : Setup) (x : Job) (entry : Record) (kind : Kind) (rs : List Record) → Final t x entry kind →
    setup_of (entry ∷ rs) ≡ setup_of rs
final_setup t x (SetUp s) kind rs h = absurd h
final_setup t x entry kind rs h = refl

setup_step : (limit : ℕ) (start : State) (m : Moment) (ms : List Moment) (s : Setup) → All start ms →
    Facts start ms → Changes limit (length ms) (now start ms) m.event m.outcome m.state →
    setup_of (now start ms).records ≡ Some s → setup_of m.state.records ≡ Some s
setup_step limit start m ms s A F X h = elim X.records [
  | Records_is.same rec ↦ ap setup_of rec ∙ h
  | Records_is.finished x a runs next_is flight mine moves rec ↦
      ap setup_of rec ∙ (wrote_setup x x.kind _ _ (A.pins.wrote a x flight (cc)) ∙ h)
  | Records_is.settled d in_doubt rec ↦ cc (on_top d (F.doubt d in_doubt))
  | Records_is.set_up t none_ rec ↦ absurd (let e : None ≡ Some s = sym none_ ∙ h in cc)
  | Records_is.settled_set_up t d in_doubt none_ rec ↦
      absurd (let e : None ≡ Some s = cc (on_top d (F.doubt d in_doubt)) in cc)
]
  where
    on_top : (d : Doubt) → Standing start ms d → setup_of (d.entry ∷ (now start ms).records)
        ≡ setup_of (now start ms).records
    on_top d (Standing.bare t entry maker none_) = absurd (let e : None ≡ Some s = sym none_ ∙ h in cc)
    on_top d (Standing.by_job x maker done) =
        final_setup (setup_in (now start ms)) x d.entry x.kind (now start ms).records done.final

-- a setup in effect stays in effect for the rest of a run
pub setups_stay : (limit : ℕ) (start : State) (later ms : List Moment) (s : Setup) → IsStart start →
    IsRun limit start (later ++ ms) → setup_of (now start ms).records ≡ Some s →
    setup_of (now start (later ++ ms)).records ≡ Some s
setups_stay limit start [] ms s clean run h = h
setups_stay limit start (m ∷ later) ms s clean run h = (let A = all limit start clean (later ++ ms) run.2 in
    setup_step limit start m (later ++ ms) s A (facts limit start clean (later ++ ms) run.2)
    (changes limit (length (later ++ ms)) (now start (later ++ ms)) m.event m.outcome m.state A.numbers.idle
    run.1)
    (setups_stay limit start later ms s clean run.2 h))
