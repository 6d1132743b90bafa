-- Each run has left devices; what a command over them does, by its clauses.
use Rattle.std.proofs.Common.{◌≡◌, ℕ, ◌-◌, IsTrue, List, [], ◌∷◌, ◌++◌, length, refl, ap, sym, ◌∙◌, inl, arith, true, subst, inr, append_assoc, drop, take, IsSome}
use Rattle.std.proofs.Math.Seq.{drop-append_seam}
use Rattle.std.proofs.lemmas.List.{length-replicate}
use Rattle.std.proofs.lemmas.List.FromFn.{length-map-range_with_len}
use Rattle.std.specs.List.{list_all}
use Rattle.record_defs.proofs.Standing.{base-least}
use Rattle.machine_defs.proofs.Survive.{survives}
use Rattle.second_half_laws.proofs.Lists.{get_map_upto}
use Rattle.state_laws.specs.Sound.{IsSound}
use Rattle.state_laws.proofs.Events.{run-sound}
use Rattle.opening_defs.specs.Opened.{AreHanded}
use Rattle.vault_open.proofs.Images.{bytes-shown}
use Rattle.damage_run.proofs.Points.{event_of}
use Rattle.damage_run.proofs.Told.{all_pass}
use Rattle.fault_run.proofs.Points.{is_left, never_by_test}
use Rattle.schedule_runs.specs.Words.{Record, is_in_grammar, Area, A, B, base_of, magic_front, switch_of, area_of, entries, StandsActive, File, Moment, IsRun, now, first_moments, State, IsStart, set_up, AllTell, NoneTakesOut, NeverTakenOut, IsKept, ComesIn, Devices, Seen, Form, Ending, AreLeft, call_from, devices_of_seen, KeepsTheHeadline}
use Rattle.schedule_runs.specs.Left.{zeros_to, disk_text, devices_left, GoesOnWith, KeepsItsFile, KeepsSecondHalf}

named : (area : Area) → area_of (switch_of area) ≡ area
named A = refl
named B = refl

zeros-long : (area : Area) → length (zeros_to area) ≡ base_of area - 8
unfolding zeros_to
zeros-long area = length-replicate (base_of area - 8) 0

-- all that stands before the text of an area
abbrev front : Area → List ℕ
front area = magic_front ++ switch_of area ∷ zeros_to area

front-long : (area : Area) → base_of area ≡ length (front area)
front-long area = (let z = zeros-long area in let b = base-least area in omega (arith, z, b))

-- the text of records in an area stands for them there
disk-stands : (area : Area) (rs : List Record) → IsTrue (list_all is_in_grammar rs) →
    StandsActive (disk_text area rs) area rs
disk-stands area rs all = record {
  active = record { switch = switch_of area; front = refl; names = named area };
  holds = record {
    in_grammar = all;
    gate = 0;
    rest = [];
    closed = λ e. omega (arith, e);
    bytes_are = ap (λ (k : ℕ). drop k (front area ++ (entries rs ++ 0 ∷ []))) (front-long area)
        ∙ drop-append_seam (front area) (entries rs ++ 0 ∷ []);
  };
}

handed : (w : State) → AreHanded (devices_left w).providers w
handed w = (let long = length-map-range_with_len w.providers 0 w.handed in record {
  count = sym long;
  each = λ j l. get_map_upto w.providers w.handed j (omega (arith, l, long));
})

-- each run has left such devices
pub left-of : (start : State) (ms : List Moment) → IsStart start → IsRun 8 start ms →
    AreLeft start ms (devices_left (now start ms))
left-of start ms starts run = (let w : State = now start ms in
    let sound : IsSound 8 w = run-sound 8 start ms (omega arith, omega arith) starts run in record {
      starts = starts;
      run = run;
      devices = record {
        images = bytes-shown (disk_text w.area w.journal) w
            (inl (inl (disk-stands w.area w.journal sound.journal.spelled)));
        faults = refl;
        providers = handed w;
      };
    })

-- ---- a command over them

-- devices that a run has left, as they are seen
pub seen : (start : State) (ms : List Moment) (d : Devices) (old : Seen) → AreLeft start ms d →
    IsSome d.holds → devices_of_seen old ≡ d → IsSome old.disk × AreLeft start ms (devices_of_seen old)
seen start ms d old left told is =
    (subst (λ (x : Devices). IsSome x.holds) (sym is) told, subst (AreLeft start ms) (sym is) left)

-- a command does nothing, or goes on with the run that has left the devices
pub goes-on : (start : State) (ms : List Moment) (d : Devices) (form : Form) (old new : Seen) (end : Ending) →
    AreLeft start ms d → IsSome d.holds → devices_of_seen old ≡ d → KeepsTheHeadline form old new end →
    GoesOnWith start ms old new end
goes-on start ms d form old new end left told is (inl (status, at, other, undone)) = inl (status, at, undone)
goes-on start ms d form old new end left told is (inr asks) =
    (let at = seen start ms d old left told is in inr (asks.goes_on start ms at.0 at.1).goes)

-- so it does over those of the last state
pub goes-with : (start : State) (ms : List Moment) (form : Form) (old new : Seen) (end : Ending) →
    IsStart start → IsRun 8 start ms → devices_of_seen old ≡ devices_left (now start ms) →
    KeepsTheHeadline form old new end → GoesOnWith start ms old new end
goes-with start ms form old new end starts run is headline =
    goes-on start ms (devices_left (now start ms)) form old new end (left-of start ms starts run) refl is headline

-- gets end well behind the command where the whole is calm, counted from finished scrubs
pub keeps-half : (start : State) (ms : List Moment) (old new : Seen) (end : Ending) → AllTell start →
    GoesOnWith start ms old new end → KeepsSecondHalf start ms old new end
keeps-half start ms old new end tell (inl undone) = inl undone
keeps-half start ms old new end tell (inr goes) = inr (record {
  goes_on = goes;
  half = λ calm. goes.carries.headline.scrub_calm_gets_end_well tell calm;
})

-- ---- a file stays until a record takes it out

never-more : (name : List ℕ) (xs ys : List Moment) → NeverTakenOut name xs → NeverTakenOut name ys →
    NeverTakenOut name (xs ++ ys)
never-more name [] ys a b = b
never-more name (x ∷ xs) ys a b = (a.0, never-more name xs ys a.1 b)

-- a file came in before the command and was not taken out: so it is behind the command
keeps-file : (later before : List Moment) (m : Moment) (name : List ℕ) (file : File) (old new : Seen)
    (end : Ending) → IsStart set_up → ComesIn (now set_up before) m.state name file →
    NeverTakenOut name later → NoneTakesOut name (now set_up (later ++ m ∷ before)) →
    GoesOnWith set_up (later ++ m ∷ before) old new end →
    KeepsItsFile set_up (later ++ m ∷ before) name file old new end
keeps-file later before m name file old new end starts comes never at_end (inl undone) = inl undone
keeps-file later before m name file old new end starts comes never at_end (inr goes) = inr (record {
  goes_on = goes;
  kept = λ none. subst (λ (ms : List Moment). IsKept (now set_up ms) name file) split
      (survives 8 set_up (goes.later ++ call ∷ later) before m name file starts
      (subst (IsRun 8 set_up) (sym split) goes.carries.run) comes
      (never-more name goes.later (call ∷ later) none (at_end, never)));
})
  where
    call : Moment
    call = call_from (now set_up (later ++ m ∷ before))

    split : (goes.later ++ call ∷ later) ++ m ∷ before ≡ goes.later ++ call ∷ (later ++ m ∷ before)
    split = append_assoc goes.later (call ∷ later) (m ∷ before)

-- so it is of a run whose event k brings the file in, which none of the last so many events takes out
pub keeps : (ms : List Moment) (count k : ℕ) (name : List ℕ) (file : File) → IsStart set_up →
    IsRun 8 set_up ms → take count ms ++ event_of ms k ∷ first_moments k ms ≡ ms →
    ComesIn (now set_up (first_moments k ms)) (event_of ms k).state name file →
    all_pass (λ m older. is_left name m.state.records m.state.doubt) (take count ms) ≡ true →
    NoneTakesOut name (now set_up ms) → (form : Form) (old new : Seen) (end : Ending) →
    devices_of_seen old ≡ devices_left (now set_up ms) → KeepsTheHeadline form old new end →
    KeepsItsFile set_up ms name file old new end
keeps ms count k name file starts run split comes never none form old new end is headline =
    subst (λ l. NoneTakesOut name (now set_up l) → GoesOnWith set_up l old new end →
    KeepsItsFile set_up l name file old new end) split (keeps-file (take count ms) (first_moments k ms)
    (event_of ms k) name file old new end starts comes (never_by_test name (take count ms) never)) none
    (goes-with set_up ms form old new end starts run is headline)
