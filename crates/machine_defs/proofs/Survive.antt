-- A file that came into effect stays until a record that takes it out is in doubt.
use Rattle.machine_defs.proofs.Words.{◌≡◌, suc, Bool, false, refl, ap, sym, ◌∙◌, inl, inr, arith, cases_Bool, ne_eqb, Record, Setup, SetUp, PutDone, Drop, PutDoneIn, InEffect, File, file_as, setup_of, profile_in, started_as, is_start_of, is_same_name, file_of, done_record, State, Doubt, IsStart, Moment, now, newest, came, IsRun, ComesIn, takes_out, NoneTakesOut, IsKept, Survives, same-refl}
use Rattle.std.proofs.Common.{ℕ, ◌==◌, List, [], ◌∷◌, ◌++◌, length, Some, None}
use Rattle.machine_defs.proofs.JobLists.{cond_true, cond_false}
use Rattle.machine_defs.proofs.Changes.{Records_is, Doubt_is, IsGated, Changes}
use Rattle.machine_defs.proofs.Events.{changes}
use Rattle.machine_defs.proofs.Numbers.{objects}
use Rattle.machine_defs.proofs.Done.{put_ended, profile_done, done-ended, done-file}
use Rattle.machine_defs.proofs.Numbers as num

pub gated : (limit : ℕ) (start : State) → IsStart start → (ms : List Moment) → IsRun limit start ms →
    IsGated (now start ms)
gated limit start clean [] run = λ a h three. absurd (let e : None ≡ Some a = sym clean.append ∙ h in cc)
gated limit start clean (m ∷ ms) run = (changes limit (length ms) (now start ms) m.event m.outcome m.state
    (num.facts objects limit start clean ms run.2).idle run.1).gated (gated limit start clean ms run.2)

-- a record that takes no file of a name out leaves the one in effect
file_kept : (rs : List Record) (r : Record) (name : List ℕ) → takes_out rs name r ≡ false →
    file_of (r ∷ rs) name ≡ file_of rs name
file_kept rs (PutDone id size) name h = cond_false (is_start_of name (started_as rs id))
    (Some (file_as name id size (profile_in (setup_of rs)))) (file_of rs name) h
file_kept rs (Drop n) name h = cond_false (is_same_name n name) None (file_of rs name) h
file_kept rs (PutDoneIn id size profile) name h =
    cond_false (is_start_of name (started_as rs id)) (Some (file_as name id size profile)) (file_of rs name) h
file_kept rs (InEffect id size profile kept) name h =
    cond_false (is_same_name kept name) (Some (file_as name id size profile)) (file_of rs name) h
file_kept rs r name h = refl

pub shorter : (r : Record) (rs : List Record) → rs ≡ r ∷ rs → ⊥
shorter r rs e = (let l : length rs ≡ suc (length rs) = ap length e in omega arith)

pub came_none : (old new : State) (r : Record) → came old new ≡ Some r → new.records ≡ old.records → ⊥
came_none old new r h rec = (cc (sym (cond_false (nat_same (length new.records) (suc (length old.records)))
    (newest new.records) None (ne_eqb (length new.records) (suc (length old.records))
    (λ e. (let l = ap length rec in omega arith)))) ∙ h))
  where
    nat_same : ℕ → ℕ → Bool
    nat_same a b = a == b

pub came_one : (old new : State) (r s : Record) (rs : List Record) → came old new ≡ Some r →
    new.records ≡ s ∷ rs → s ≡ r
came_one old new r s rs h rec = elim (cases_Bool (length new.records == suc (length old.records))) [
  | inl t ↦ (let e : Some s ≡ Some r = sym (ap newest rec)
      ∙ (sym (cond_true _ (newest new.records) None t) ∙ h) in let f : s ≡ r = cc in f)
  | inr f ↦ (let e : None ≡ Some r = sym (cond_false _ (newest new.records) None f) ∙ h in cc)
]

module _ (limit : ℕ) (start : State) (m : Moment) (ms : List Moment) (G : IsGated (now start ms))
    (X : Changes limit (length ms) (now start ms) m.event m.outcome m.state) where
  abbrev old : State
  old = now start ms

  -- at the moment at which it comes in
  pub comes : (name : List ℕ) (file : File) → ComesIn old m.state name file → IsKept m.state name file
  comes name file c = record { in_effect = at; with_doubt = λ d h. doubt d h }
    where
      ended : Record
      ended = done_record c.version file.id file.size file.profile

      same_profile : profile_done c.version old.records file.profile ≡ file.profile
      same_profile = elim (cases_Bool (c.version == 2)) [
        | inl t ↦ cond_true (c.version == 2) file.profile (profile_in (setup_of old.records)) t
        | inr f ↦ cond_false (c.version == 2) file.profile (profile_in (setup_of old.records)) f
            ∙ sym (c.profiled f)
      ]

      done : (rs : List Record) → m.state.records ≡ ended ∷ rs → rs ≡ old.records →
          file_of m.state.records name ≡ Some file
      done rs rec is = ap (λ l. file_of l name) (rec ∙ ap (λ l. ended ∷ l) is)
          ∙ (done-file c.version file.id file.size file.profile old.records name
          ∙ (cond_true (is_start_of name (started_as old.records file.id)) _
          (file_of old.records name) (ap (is_start_of name) c.started ∙ same-refl name)
          ∙ (ap (λ p. Some (file_as name file.id file.size p)) same_profile
          ∙ ap Some (ap (λ (n : List ℕ). file_as n file.id file.size file.profile) (sym c.named)))))

      top : (r : Record) (rs : List Record) → m.state.records ≡ r ∷ rs → m.state.records ≡ ended ∷ rs
      top r rs rec = rec ∙ ap (λ (x : Record). x ∷ rs) (came_one old m.state ended r rs c.done rec)

      not_setup : (s : Setup) → SetUp s ≡ ended → ⊥
      not_setup s e = (let f : None ≡ Some file.id = ap put_ended e
          ∙ done-ended c.version file.id file.size file.profile in cc)

      no_setup : (s : Setup) (rs : List Record) → m.state.records ≡ SetUp s ∷ rs → ⊥
      no_setup s rs rec = not_setup s (came_one old m.state ended (SetUp s) rs c.done rec)

      at : file_of m.state.records name ≡ Some file
      at = elim X.records [
        | Records_is.same rec ↦ absurd (came_none old m.state ended c.done rec)
        | Records_is.finished x a runs next_is flight mine moves rec ↦
            done old.records (top a.entry old.records rec) refl
        | Records_is.settled d in_doubt rec ↦ done old.records (top d.entry old.records rec) refl
        | Records_is.set_up s out rec ↦ absurd (no_setup s old.records rec)
        | Records_is.settled_set_up s d in_doubt out rec ↦ absurd (no_setup s (d.entry ∷ old.records) rec)
      ]

      doubt : (d : Doubt) → m.state.doubt ≡ Some d → file_of (d.entry ∷ m.state.records) name ≡ Some file
      doubt d h = elim (X.doubt d h) [
        | Doubt_is.kept before rec ↦ absurd (came_none old m.state ended c.done rec)
        | Doubt_is.gated a flight entry rec ↦ absurd (came_none old m.state ended c.done rec)
        | Doubt_is.set_up s entry ↦ ap (λ (r : Record). file_of (r ∷ m.state.records) name) entry ∙ at
      ]

  -- at each later one
  pub stays : (name : List ℕ) (file : File) → IsKept old name file → NoneTakesOut name m.state →
      IsKept m.state name file
  stays name file k none = record { in_effect = at; with_doubt = λ d h. doubt d h }
    where
      at : file_of m.state.records name ≡ Some file
      at = elim X.records [
        | Records_is.same rec ↦ ap (λ l. file_of l name) rec ∙ k.in_effect
        | Records_is.finished x a runs next_is flight mine moves rec ↦ (let g = G a flight moves in
            ap (λ l. file_of l name) (rec ∙ ap (λ (r : Record). r ∷ old.records) (sym g.2))
            ∙ k.with_doubt g.0 g.1)
        | Records_is.settled d in_doubt rec ↦ ap (λ l. file_of l name) rec ∙ k.with_doubt d in_doubt
        | Records_is.set_up s out rec ↦ ap (λ l. file_of l name) rec ∙ k.in_effect
        | Records_is.settled_set_up s d in_doubt out rec ↦ ap (λ l. file_of l name) rec
            ∙ k.with_doubt d in_doubt
      ]

      doubt : (d : Doubt) → m.state.doubt ≡ Some d → file_of (d.entry ∷ m.state.records) name ≡ Some file
      doubt d h = elim (X.doubt d h) [
        | Doubt_is.kept before rec ↦ ap (λ l. file_of (d.entry ∷ l) name) rec ∙ k.with_doubt d before
        | Doubt_is.gated a flight entry rec ↦ file_kept m.state.records d.entry name (none d h) ∙ at
        | Doubt_is.set_up s entry ↦ ap (λ (r : Record). file_of (r ∷ m.state.records) name) entry ∙ at
      ]

-- a file that came in stays at every later moment until a record that takes it out is in doubt
pub survives : Survives
survives limit start [] ms m name file clean run c never =
    comes limit start m ms (gated limit start clean ms run.2) (changes limit (length ms) (now start ms)
    m.event m.outcome m.state (num.facts objects limit start clean ms run.2).idle run.1) name file c
survives limit start (x ∷ later) ms m name file clean run c never =
    (let k = survives limit start later ms m name file clean run.2 c never.1 in
    stays limit start x (later ++ m ∷ ms) (gated limit start clean (later ++ m ∷ ms) run.2)
    (changes limit (length (later ++ m ∷ ms)) (now start (later ++ m ∷ ms)) x.event x.outcome x.state
    (num.facts objects limit start clean (later ++ m ∷ ms) run.2).idle run.1) name file k never.0)
