-- A file in effect is that of a put begun in the run.
use Rattle.effect_laws.proofs.Words.{◌≡◌, ◌⊎◌, ℕ, List, [], ◌∷◌, ◌++◌, Option, Some, None, refl, ap, sym, subst, inl, inr, append_assoc, append-nil, some-not-none, Record, File, file_of, State, AreFirst, IsStart, file_in, Moment, now, IsRun, found_none, WasPut, NoPutBegan, NoDropBegan, MayStand}
use Rattle.effect_laws.proofs.Offers.{Fits, Offers, AllAllowed, offers}
use Rattle.effect_laws.proofs.Allowed.{allowed_by, none_put}

-- the records of a start have no file
first : (name : List ℕ) (rs : List Record) → AreFirst rs → file_of rs name ≡ None
first name rs (inl e) = ap (λ l. file_of l name) e
first name rs (inr (s, valid, e)) = ap (λ l. file_of l name) e

-- at a start no file stands under any name
pub at_start : (Fit : List ℕ → Type 0) (name : List ℕ) (start : State) → IsStart start →
    Offers Fit (Unit {0}) name start
at_start Fit name start clean = record {
  effect = subst (Fits Fit (Unit {0}) name start) (sym (first name start.records clean.records)) tt;
  flight = λ a h. absurd (some-not-none start.append a h clean.append);
  doubt = λ d h. absurd (some-not-none start.doubt d h clean.doubt);
  jobs = λ k j h. absurd (found_none start.jobs k j clean.jobs h);
}

-- the bytes of a file that may stand under a name fit
pub stands_fit : (Fit : List ℕ → Type 0) (Absent : Type 0) (name : List ℕ) (w : State) (file : File) →
    Offers Fit Absent name w → MayStand w name file → Fit (w.bytes file.id)
stands_fit Fit Absent name w file O (inl is) = (rw is at O.effect).1
stands_fit Fit Absent name w file O (inr (d, in_doubt, is)) = (rw is at (O.doubt d in_doubt)).1

-- where no bytes fit there is no file
pub none_fit : (Absent : Type 0) (name : List ℕ) (w : State) (o : Option File) →
    Fits (λ bytes. ⊥) Absent name w o → o ≡ None
none_fit Absent name w None h = refl
none_fit Absent name w (Some file) h = absurd h.1

-- the puts that moments behind others began are allowed where those of all moments are
pub each_was_put : (Fit : List ℕ → Type 0) (Absent : Type 0) (name : List ℕ) (front ms : List Moment) →
    ((bytes : List ℕ) → WasPut (front ++ ms) name bytes → Fit bytes) →
    (Absent ⊎ NoDropBegan name ms) → AllAllowed Fit Absent name ms
each_was_put Fit Absent name front [] fits drops = tt
each_was_put Fit Absent name front (m ∷ ms) fits drops = (
  allowed_by Fit Absent name m (λ bytes n event begun. fits bytes (record {
    later = front;
    begin = m;
    before = ms;
    number = n;
    split = refl;
    event = event;
    begun = begun;
  }))
      (λ on n begun. elim drops [ inl absent ↦ absent | inr none ↦ absurd (none.0 on n begun) ]),
  each_was_put Fit Absent name (front ++ m ∷ []) ms
      (λ bytes put. fits bytes (subst (λ l. WasPut l name bytes) (append_assoc front (m ∷ []) ms) put))
      (elim drops [ inl absent ↦ inl absent | inr none ↦ inr none.1 ]),
)

-- what stands under a name at each moment, by what begins
pub from_start : (Fit : List ℕ → Type 0) (limit : ℕ) (start : State) (ms : List Moment) (name : List ℕ) →
    IsStart start → IsRun limit start ms → AllAllowed Fit (Unit {0}) name ms →
    Offers Fit (Unit {0}) name (now start ms)
from_start Fit limit start ms name clean run allowed =
    rw append-nil at (offers Fit (Unit {0}) name limit start clean ms [] (rw append-nil run)
    (at_start Fit name start clean) allowed)

-- a file that may stand under a name is that of a put
pub was_put : (limit : ℕ) (start : State) (ms : List Moment) (name : List ℕ) (file : File) → IsStart start →
    IsRun limit start ms → MayStand (now start ms) name file → WasPut ms name ((now start ms).bytes file.id)
was_put limit start ms name file clean run stands = stands_fit (WasPut ms name) (Unit {0}) name (now start ms)
    file (from_start (WasPut ms name) limit start ms name clean run
    (each_was_put (WasPut ms name) (Unit {0}) name [] ms (λ bytes put. put) (inl tt))) stands

-- a name that nobody put has no file
pub none_put_none : (limit : ℕ) (start : State) (ms : List Moment) (name : List ℕ) → IsStart start →
    IsRun limit start ms → NoPutBegan name ms → file_in (now start ms) name ≡ None
none_put_none limit start ms name clean run none = none_fit (Unit {0}) name (now start ms)
    (file_in (now start ms) name) (from_start (λ bytes. ⊥) limit start ms name clean run
    (none_put (λ bytes. ⊥) (Unit {0}) name ms tt none)).effect
