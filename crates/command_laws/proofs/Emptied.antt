-- An empty text makes no call of the sink, so its fault ends neither a list without a file nor a get of an
-- empty file.
use Rattle.command_laws.proofs.Words.{◌≡◌, ◌≢◌, ℕ, List, [], take, Some, refl, ap, sym, ◌∙◌, inl, inr, arith, None, Record, Area, File, file_of, files_of, GetJob, Answer, WritesLine, Seen, Ending, sinking, setup_in_effect, list_lines, text_of, GetLeaves, AnswersJob, EndsByAnswer, LeftAlone, AnswersAlone, AnswersList, IsKnown, same_value}
use Rattle.machine_defs.specs.Answers as answer
use Rattle.command_laws.proofs.Known.{known-once, alone-known, unstarted-known, refused-not}
use Rattle.command_laws.proofs.GetEnds.{ran_left}

-- nothing is taken of a list where none is asked for
take-zero : (n : ℕ) (l : List ℕ) → n ≡ 0 → take n l ≡ []
take-zero n l zero = ap (λ k. take k l) zero ∙ none l
  where
    none : (l : List ℕ) → take 0 l ≡ []
    none _ = refl

not-fifteen : (status n : ℕ) → status ≡ n → n ≢ 15 → status ≡ 15 → ⊥
not-fifteen status n is other sink = other (sym is ∙ sink)

written-empty : (text : List ℕ) (old new : Seen) (end : Ending) →
    WritesLine text end.status (sinking old new) → text ≡ [] → end.status ≡ 15 → ⊥
written-empty text old new end (inl w) none sink = not-fifteen end.status 0 w.0 (λ e. omega (arith, e)) sink
written-empty text old new end (inr (inl w)) none sink = w.0 none
written-empty text old new end (inr (inr w)) none sink =
    not-fifteen end.status 70 w.0 (λ e. omega (arith, e)) sink

-- ---- lists

-- a list of no files does not end in a fault of the sink
pub list-empty : (records : List Record) (old new : Seen) (end : Ending) → AnswersList old new end →
    IsKnown old records → files_of records ≡ [] → end.status ≡ 15 → ⊥
list-empty records old new end (AnswersList.unstarted u) K none sink =
    elim (unstarted-known old new end records K u) [
      | inl (rose, r) ↦ not-fifteen end.status 12 r.status_is (λ e. omega (arith, e)) sink
      | inr r ↦ not-fifteen end.status 70 r.status_is (λ e. omega (arith, e)) sink
    ]
list-empty records old new end (AnswersList.no_memory r) K none sink =
    not-fifteen end.status 70 r.status_is (λ e. omega (arith, e)) sink
list-empty records old new end (AnswersList.listed other opened L) K none sink =
    written-empty (list_lines (files_of other)) old new end L.written
    (ap (λ rs. list_lines (files_of rs)) (known-once old records other K opened.read)
    ∙ ap list_lines none) sink

-- ---- gets

module _ (name : List ℕ) (records : List Record) (file : File) (old new : Seen) (end : Ending)
    (in_effect : file_of records name ≡ Some file) (none : file.size ≡ 0) where
  by-answer : {area : Area} (how : Answer)
      (left : LeftAlone area records (GetJob name) None how old new end.heard) →
      GetLeaves (ran_left records (GetJob name) how old new end.heard left) name how →
      EndsByAnswer (text_of (setup_in_effect records).tolerance (GetJob name) how) how old new end →
      end.status ≡ 15 → ⊥
  by-answer (answer.Got bytes) left L by sink =
      (let same = same_value (file_of records name) L.file file L.in_effect in_effect in
      let empty = L.gives.1.cut ∙ take-zero L.file.size _ (ap (λ (f : File). f.size) same ∙ none) in
      written-empty bytes old new end by.written empty sink)
  by-answer (answer.Lost stripe row) left L by sink =
      not-fifteen end.status 4 by.status_is (λ e. omega (arith, e)) sink
  by-answer how left L by sink = L.gives

  get-job : {area : Area} → AnswersJob (GetJob name) None area records old new end → end.status ≡ 15 → ⊥
  get-job (AnswersJob.refused why is synced r) sink =
      refused-not why 15 refl (λ e. omega (arith, e)) (sym r.status_is ∙ sink)
  get-job (AnswersJob.no_memory synced r) sink =
      not-fifteen end.status 70 r.status_is (λ e. omega (arith, e)) sink
  get-job (AnswersJob.ended how none runs left by) sink = by-answer how left left.leaves.by_kind by sink

  -- a get of an empty file does not end in a fault of the sink
  pub get-empty : IsKnown old records → AnswersAlone (GetJob name) old new end → end.status ≡ 15 → ⊥
  get-empty K A sink = elim (alone-known (GetJob name) old new end records K A) [
    | inl (inl (rose, r)) ↦ not-fifteen end.status 12 r.status_is (λ e. omega (arith, e)) sink
    | inl (inr r) ↦ not-fifteen end.status 70 r.status_is (λ e. omega (arith, e)) sink
    | inr job ↦ get-job job sink
  ]
