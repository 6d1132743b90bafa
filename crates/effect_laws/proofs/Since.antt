-- What stands under a name since a put of it ended well.
use Rattle.effect_laws.proofs.Words.{◌≡◌, ◌⊎◌, ℕ, List, [], ◌∷◌, ◌++◌, length, Option, Some, None, refl, sym, subst, inl, inr, File, file_of, Kind, PutJob, DropJob, Put, State, IsStart, file_in, with_doubt, Moment, now, IsRun, Touches, all, none_under_way, none_left, run_back, Stored, IsLimit, run-sound, WasPut, PutsOnly, NoDropBegan, MayStand, HasFile}
use Rattle.run_laws.proofs.ByEvents.{stored_is_kept}
use Rattle.effect_laws.proofs.Offers.{Fits, Allows, Offers, offers}
use Rattle.effect_laws.proofs.Allowed.{none_touched}
use Rattle.effect_laws.proofs.Origin.{stands_fit, each_was_put}
use Rattle.effect_laws.proofs.Steady.{goes_on, steady}

-- a job that does not touch the name is allowed
untouched : (Fit : List ℕ → Type 0) (Absent : Type 0) (name : List ℕ) (kind : Kind) → (Touches name kind → ⊥) →
    Allows Fit Absent name kind
untouched Fit Absent name (PutJob q bytes) none = λ same. absurd (none same)
untouched Fit Absent name (DropJob q) none = λ same. absurd (none same)
untouched Fit Absent name kind none = tt

-- at the end of the put, and until another put or drop of the name begins
pub stored_offers : (Fit : List ℕ → Type 0) (Absent : Type 0) (limit : ℕ) (start : State) (ms : List Moment)
    (name bytes : List ℕ) → IsLimit limit → IsStart start → IsRun limit start ms → Stored ms name bytes →
    Fit bytes → Offers Fit Absent name (now start ms)
stored_offers Fit Absent limit start ms name bytes fits clean run S fit =
    (let old = S.between ++ S.begin ∷ S.older in
    let all_run = subst (IsRun limit start) S.split run in
    let end_run = run_back limit start S.later (S.end ∷ old) all_run in
    let none_on = none_under_way (Touches name) limit start clean S.older S.free
    (run_back limit start S.between (S.begin ∷ S.older) end_run.2).2 in
    let none = none_left (Touches name) limit start clean S.between S.older S.end S.begin S.number Put end_run
    none_on S.none_between S.begun S.end_event S.ended in
    let here : Stored (S.end ∷ old) name bytes = record {
      later = [];
      end = S.end;
      between = S.between;
      begin = S.begin;
      older = S.older;
      number = S.number;
      split = refl;
      free = S.free;
      begin_event = S.begin_event;
      begun = S.begun;
      none = S.none;
      none_between = S.none_between;
      end_event = S.end_event;
      ended = S.ended;
      none_since = tt;
    } in
    let K = stored_is_kept limit start (S.end ∷ old) name bytes clean end_run here in
    let below = ((all limit start clean (S.end ∷ old) end_run).pins.sound.file name K.file
    K.kept.in_effect).0 in
    let on = (goes_on limit (length old) (now start old) S.end.event S.end.outcome S.end.state S.number Put
    (λ x. x) S.end_event S.ended end_run.1).1 in
    let at_end = steady Fit Absent name limit (now start (S.end ∷ old))
    (run-sound limit start (S.end ∷ old) fits clean end_run) on
    (subst (Fits Fit Absent name (now start (S.end ∷ old))) (sym K.kept.in_effect)
    (below, subst Fit (sym K.bytes_are) fit))
    (λ k j h. untouched Fit Absent name j.kind (none k j h)) in
    rw S.split (offers Fit Absent name limit start clean S.later (S.end ∷ old) all_run at_end
    (none_touched Fit Absent name S.later S.none_since)))

-- the stored bytes, or those of a put since
abbrev pub OldOrNew : List Moment → List ℕ → List ℕ → List ℕ → Type 0
OldOrNew later name bytes own = (own ≡ bytes) ⊎ WasPut later name own

module _ (limit : ℕ) (start : State) (later ms : List Moment) (name bytes : List ℕ) (fits : IsLimit limit)
    (clean : IsStart start) (run : IsRun limit start (later ++ ms)) (S : Stored ms name bytes) where
  since : (Absent : Type 0) → (Absent ⊎ NoDropBegan name later) →
      Offers (OldOrNew later name bytes) Absent name (now start (later ++ ms))
  since Absent drops = offers (OldOrNew later name bytes) Absent name limit start clean later ms run
      (stored_offers (OldOrNew later name bytes) Absent limit start ms name bytes fits clean
      (run_back limit start later ms run) S (inl refl))
      (each_was_put (OldOrNew later name bytes) Absent name [] later (λ own put. inr put) drops)

  -- a file that may stand under the name has the stored bytes, or those of a put since
  pub whose : (file : File) → MayStand (now start (later ++ ms)) name file →
      OldOrNew later name bytes ((now start (later ++ ms)).bytes file.id)
  whose file stands = stands_fit (OldOrNew later name bytes) (Unit {0}) name (now start (later ++ ms)) file
      (since (Unit {0}) (inl tt)) stands

  -- and there is one, where no drop began
  pub there : NoDropBegan name later → HasFile (now start (later ++ ms)) name
  there none = (let O = since ⊥ (inr none) in record {
    in_effect = some_file (now start (later ++ ms)) (file_in (now start (later ++ ms)) name) O.effect;
    with_doubt = λ d h. some_file (now start (later ++ ms)) (file_of (with_doubt (now start (later ++ ms)) d) name)
        (O.doubt d h);
  })
    where
      some_file : (w : State) (o : Option File) → Fits (OldOrNew later name bytes) ⊥ name w o →
          (file : File) × (o ≡ Some file)
      some_file w None h = absurd h
      some_file w (Some file) h = (file, refl)

-- what was put among moments whose puts are of these bytes is these
pub put_only : (name bytes own : List ℕ) (ms : List Moment) → PutsOnly name bytes ms → WasPut ms name own →
    own ≡ bytes
put_only name bytes own ms only put = go put.later (subst (PutsOnly name bytes) put.split only)
  where
    go : (later : List Moment) → PutsOnly name bytes (later ++ put.begin ∷ put.before) → own ≡ bytes
    go [] h = h.0 own put.number put.event put.begun
    go (x ∷ later) h = go later h.1
