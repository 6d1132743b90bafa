-- How a get ends over a disk that tells its records.
use Rattle.command_laws.proofs.Words.{◌≡◌, ℕ, ◌+◌, ◌≤◌, ◌⊎◌, cond, not, List, [], length, None, Some, refl, sym, subst, ◌∙◌, inl, inr, arith, Option, is_some, IsShape, Rose, told_then, TakesFront, Record, Area, File, file_of, Kind, GetJob, Answer, AreBytes, Entry, HoldsForgery, Seen, Ending, IsOpened, setup_in_effect, object_in_effect, refusal_over, Ran, ran_alone, job_number, text_of, GetLeaves, EndsByAnswer, LeftAlone, AnswersAlone, bad_seen, IsKnown, GivesUnlessMemory, find-files_of, file-spelled, shape-of, get-complete, get-right, get-forged, opened_state, state-over}
use Rattle.machine_defs.specs.Answers as answer
use Rattle.machine_defs.specs.Refusals as refusal
use Rattle.command_laws.proofs.Known.{none-written, written-well, written-zero, written-front, alone-known}
use Rattle.command_laws.proofs.Early.{IsEarly, early-at, early-not, alone-well, job-cases}

-- the setup of records that are read is of a shape
pub shape-at : (old : Seen) (records : List Record) → IsOpened old records →
    IsShape (setup_in_effect records).n (setup_in_effect records).l (setup_in_effect records).b
shape-at old records R = (let w = opened_state R.area records 0 old.providers in
    shape-of w w [] (state-over records 0 old R).at_rest)

-- what was left, as it is seen
abbrev pub ran_left : {area : Area} (records : List Record) (kind : Kind) {own : Option ℕ} (how : Answer)
    (old new : Seen) (heard : List Entry) → LeftAlone area records kind own how old new heard → Ran
ran_left records kind how old new heard left =
    ran_alone records old new heard left.faults left.after left.doubt

module _ (name bytes : List ℕ) (records : List Record) (file : File) (old new : Seen) (end : Ending)
    (K : IsKnown old records) (in_effect : file_of records name ≡ Some file) (fits : AreBytes bytes)
    (size : length bytes ≡ file.size) where
  shape : IsShape (setup_in_effect records).n (setup_in_effect records).l (setup_in_effect records).b
  shape = shape-at old records K.opened

  begins : refusal_over K.opened.area records (GetJob name) None ≡ None
  begins = (λ i. cond (not ((file-spelled records name file K.opened.read.in_grammar in_effect).0 i))
      (Some refusal.BadName)
      (cond (not (is_some ((find-files_of records name ∙ in_effect) i))) (Some refusal.NoSuchName) None))

  -- what a get ends with, by its answer
  abbrev EndsWith : Answer → Type 0
  EndsWith how = EndsByAnswer (text_of (setup_in_effect records).tolerance (GetJob name) how) how old new end

  -- at most a front of the file's bytes was given, and all at status 0
  abbrev Right : Type 0
  Right = TakesFront old.sink new.sink bytes × (end.status ≡ 0 → new.sink ≡ told_then old.sink bytes)

  early-right : IsEarly old new end → Right
  early-right E = (
    none-written bytes old.sink new.sink E.refused.sink,
    λ zero. absurd (early-not E 0 refl zero),
  )

  -- what was heard holds a forgery
  abbrev Forged : Type 0
  Forged = HoldsForgery (object_in_effect records file) bytes job_number end.heard

  right-by : (Else : Type 0) (x : Ran) (how : Answer) →
      ((got : List ℕ) → how ≡ answer.Got got → (got ≡ bytes) ⊎ Else) → GetLeaves x name how → EndsWith how →
      Right ⊎ Else
  right-by Else x (answer.Got got) right L by = elim (right got refl) [
    | inl same ↦ (let told = rw same at by.written in
        inl (written-front bytes old new end told, written-zero bytes old new end told))
    | inr other ↦ inr other
  ]
  right-by Else x (answer.Lost stripe row) right L by = inl (
    none-written bytes old.sink new.sink by.sink,
    λ zero. absurd (omega (arith, sym by.status_is ∙ zero)),
  )
  right-by Else x how right L by = absurd L.gives

  -- so it is after a get, or else, where what it got is the file's bytes, or else
  ended-right : (Else : Type 0) → ((how : Answer)
      (left : LeftAlone K.opened.area records (GetJob name) None how old new end.heard) (got : List ℕ) →
      GetLeaves (ran_left records (GetJob name) how old new end.heard left) name (answer.Got got) →
      (got ≡ bytes) ⊎ Else) → AnswersAlone (GetJob name) old new end → Right ⊎ Else
  ended-right Else right A = elim (alone-known (GetJob name) old new end records K A) [
    | inl (inl (rose, r)) ↦ inl (early-right (early-at 12 0 refl refl r))
    | inl (inr r) ↦ inl (early-right (early-at 70 0 refl refl r))
    | inr job ↦ job-cases (λ E. inl (early-right E)) (λ how none left by. right-by Else
        (ran_left records (GetJob name) how old new end.heard left) how (λ got is. right how left got
        (rw is at left.leaves.by_kind)) left.leaves.by_kind by) job
  ]

  -- a get with no fault gives the file's bytes where at most b providers are bad, or finds no memory
  pub seen-complete : AnswersAlone (GetJob name) old new end →
      bad_seen records old new file bytes ≤ (setup_in_effect records).b →
      (Rose old.disk_faults new.disk_faults → ⊥) → (Rose old.sink_faults new.sink_faults → ⊥) →
      GivesUnlessMemory bytes old new end
  seen-complete A few disk sink = alone-well records K begins disk
      (λ r. inr (r.status_is, none-written bytes old.sink new.sink r.sink))
      (λ how left by. let same = get-complete (ran_left records (GetJob name) how old new end.heard left) name
      bytes file shape in_effect fits size how left.leaves.by_kind few in
      written-well bytes old new end (subst (λ h. EndsWith h) same by).written sink) A

  -- a get gives at most a front of the file's bytes, and all at status 0, where at most b + 1 are bad
  pub seen-right : AnswersAlone (GetJob name) old new end →
      bad_seen records old new file bytes ≤ (setup_in_effect records).b + 1 →
      TakesFront old.sink new.sink bytes × (end.status ≡ 0 → new.sink ≡ told_then old.sink bytes)
  seen-right A few = elim (ended-right ⊥ (λ how left got L. inl
      (get-right (ran_left records (GetJob name) how old new end.heard left) name bytes file shape in_effect fits
      size got L few)) A) [ inl right ↦ right | inr never ↦ absurd never ]

  -- a get gives at most a front of the file's bytes, and all at status 0, or it heard a forgery
  pub seen-forged : AnswersAlone (GetJob name) old new end →
      (TakesFront old.sink new.sink bytes × (end.status ≡ 0 → new.sink ≡ told_then old.sink bytes)) ⊎ Forged
  seen-forged = ended-right Forged (λ how left got L.
      get-forged (ran_left records (GetJob name) how old new end.heard left) name bytes file shape in_effect fits
      size got L)
