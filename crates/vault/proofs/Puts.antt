-- Begins of puts.
use Rattle.vault.proofs.Words.{◌≡◌, ℕ, ◌<◌, true, false, List, [], ◌∷◌, ◌++◌, Option, None, Some, refl, sym, ap, ◌∙◌, IsTrue, not, nat_lt, lt-ltb, false≢true, Setup, is_name, largest_file, beginning, chosen, PutJob, aim_of, Cause, first_refusal, sight_of, is_crowded_for, is_full, unknown_profile, too_old, State, setup_in, Devices, with_master, IsBenchFor, is_unknown, DeskStands, IsPutTask, Desk}
use Rattle.std.proofs.Common.{length}
use Rattle.machine_defs.specs.Refusals as refusal
use Rattle.vault.specs.declared.tasks.PutTask.{PutTask}
use Rattle.vault.proofs.BenchLemmas.{bench-is}

-- the causes of a put behind that of its name
abbrev pub causes_of_put : State → List ℕ → List ℕ → Option ℕ → List Cause
causes_of_put w name bytes profile = (unknown_profile profile ++ record {
  applies = nat_lt largest_file (length bytes);
  refusal = refusal.TooLong;
}
    ∷ (too_old (sight_of w) profile
    ++ record { applies = is_crowded_for (sight_of w) name; refusal = refusal.TooManyFiles } ∷ []))
    ++ record {
      applies = is_full (sight_of w) (aim_of (PutJob name bytes));
      refusal = refusal.JournalFull;
    } ∷ []

-- the cause of its name
abbrev pub name_cause : List ℕ → Cause
name_cause name = record { applies = not (is_name name); refusal = refusal.BadName }

-- a profile that there is not is the first cause, behind that of a name
pub bad-profile : (w : State) (name bytes : List ℕ) (profile : Option ℕ) → IsTrue (is_name name)
    → is_unknown profile ≡ true
    → first_refusal (name_cause name ∷ causes_of_put w name bytes profile) ≡ Some refusal.BadProfile
bad-profile w name bytes None named h = absurd (false≢true h)
bad-profile w name bytes (Some p) named h = rw (named, h) refl

-- a file that is too long is the first cause, behind those of a name and a profile
pub too-long : (w : State) (name bytes : List ℕ) (profile : Option ℕ) → IsTrue (is_name name)
    → is_unknown profile ≡ false → largest_file < length bytes
    → first_refusal (name_cause name ∷ causes_of_put w name bytes profile) ≡ Some refusal.TooLong
too-long w name bytes None named known long =
    let long_is = lt-ltb largest_file (length bytes) long in
    rw (named, long_is) refl
too-long w name bytes (Some p) named known long =
    rw (named, known, lt-ltb largest_file (length bytes) long) refl

-- what a put begins with
pub put-task : (v : Desk) (d : Devices) (w : State) (moment : ℕ) (name : List ℕ) (own : Option ℕ)
    (t : PutTask) (size profile : ℕ) → DeskStands v d w → IsBenchFor v 0 size profile t.bench
    → ((key : List ℕ) → profile ≡ chosen (with_master v.setup key) own)
    → IsPutTask (setup_in w) t (beginning w moment (PutJob name t.bytes) own)
put-task v d w moment name own t size profile stands bench is = record {
  name = name;
  kind = refl;
  bench = rw (is v.master.0 ∙ ap (λ (s : Setup). chosen s own) (sym stands.setup)) at
      (bench-is v (setup_in w) 0 size profile t.bench stands.shaped stands.setup bench);
}
