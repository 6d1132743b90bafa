-- The verdict of an audit is that over its questions.
use Rattle.job_laws.proofs.Words.{◌≡◌, ℕ, List, [], ◌∷◌, ◌++◌, length, subst, Each, Sums, Judges, Setup, File, Job, profiled, object_of, rounds_of, challenge_in, JudgesRounds, JudgesFiles, pinned_file, answers_given, State, Ran, Question, JudgesOne, JudgesAll}
use Rattle.std.proofs.Common.{map}
use Rattle.job_laws.proofs.Asked.{questions_in}

judges-append : (x : Ran) (number : ℕ) (qs more : List Question) (old mid new : Sums) →
    JudgesAll x number qs old mid → JudgesAll x number more mid new → JudgesAll x number (qs ++ more) old new
judges-append x number [] more old mid new is h = subst (λ m. JudgesAll x number more m new) is h
judges-append x number (q ∷ qs) more old mid new (m, one, rest) h =
    (m, one, judges-append x number qs more m mid new rest h)

module _ (x : Ran) (s : Setup) (w : State) (job : Job) where
  -- a round of a file is judged as its question
  round-question : (judged : (q : Question) (old new : Sums) →
      Judges (object_of (profiled s q.file.profile) q.file.id)
      (challenge_in (profiled s q.file.profile) job q.file.id q.file.size q.round)
      (answers_given job.given s.n q.file.id q.round) old new → JudgesOne x job.subject q old new) →
      (f : File) (rounds : List ℕ) (old new : Sums) → length (w.bytes f.id) ≡ f.size →
      JudgesRounds s job (pinned_file w f) rounds old new →
      JudgesAll x job.subject (map (λ round. record { file = f; round = round }) rounds) old new
  round-question judged f [] old new size h = h
  round-question judged f (round ∷ more) old new size (mid, one, rest) = (
    mid,
    judged (record { file = f; round = round }) old mid (rw size at one),
    round-question judged f more mid new size rest,
  )

  -- what judges the files of an audit judges their questions, one after the other
  pub files-questions : (judged : (q : Question) (old new : Sums) →
      Judges (object_of (profiled s q.file.profile) q.file.id)
      (challenge_in (profiled s q.file.profile) job q.file.id q.file.size q.round)
      (answers_given job.given s.n q.file.id q.round) old new → JudgesOne x job.subject q old new) →
      (fs : List File) (old new : Sums) → Each (λ (f : File). length (w.bytes f.id) ≡ f.size) fs →
      JudgesFiles s job (map (pinned_file w) fs) old new → JudgesAll x job.subject (questions_in s fs) old new
  files-questions judged [] old new sizes h = h
  files-questions judged (f ∷ fs) old new sizes (mid, one, rest) = judges-append x job.subject
      (map (λ round. record { file = f; round = round }) (rounds_of (profiled s f.profile) f.size))
      (questions_in s fs) old mid new (round-question judged f (rounds_of (profiled s f.profile) f.size) old
      mid sizes.0 (rw sizes.0 at one)) (files-questions judged fs mid new sizes.1 rest)
