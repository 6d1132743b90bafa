-- The sums of an audit: a count for each provider, and no more than the rounds that were judged.
use Rattle.state_laws.proofs.Words.{◌≡◌, zero, suc, ◌*◌, ◌==◌, length, replicate, ap, sym, subst, ◌∙◌, inl, inr, arith, All, cases_Bool, Each, each_at_most, each_zero, upto, Sums, Setup, most_files, Pinned, Job, profiled, object_of, stripes_of, rounds_of, challenge_in, JudgesRound, JudgesRounds, JudgesFiles, HasSums, cond_true, cond_false}
use Rattle.std.proofs.Common.{ℕ, ◌+◌, ◌≤◌, ◌^◌, List, [], ◌∷◌}
use Rattle.std.proofs.Math.Nat.{mul-le-mul_right}
use Rattle.std.proofs.lemmas.List.{length-replicate}
use Rattle.std.proofs.lemmas.List.FromFn.{length-range_with_len}
use Rattle.column_defs.specs.Objects.{points}
use Rattle.column_defs.specs.Challenges.{bare_answers}
use Rattle.column_defs.proofs.CountLaws.{length-counts_after, counts_after-within}
use Rattle.machine_defs.specs.Given.{answers_given}

-- counts and undecided rounds of so many judged ones
pub record Within (n : ℕ) (rounds : ℕ) (sums : Sums) : Type 0 where
  pub size : length sums.counts ≡ n
  pub counts : Each (λ count. count ≤ rounds) sums.counts
  pub undecided : sums.undecided ≤ rounds

module _ (s : Setup) (job : Job) where
  judged : (n k : ℕ) (f : Pinned) (round : ℕ) (old new : Sums) → Within n k old →
      JudgesRound s job f round old new → Within n (k + 1) new
  judged n k f round old new w (inl (p, decides, is)) = subst (Within n (k + 1)) (sym is) (record {
    size = length-counts_after p (points (object_of (profiled s f.profile) f.id))
        (bare_answers (object_of (profiled s f.profile) f.id)
        (challenge_in (profiled s f.profile) job f.id (length f.bytes) round) 0
        (answers_given job.given s.n f.id round)) old.counts ∙ w.size;
    counts = counts_after-within k p (points (object_of (profiled s f.profile) f.id))
        (bare_answers (object_of (profiled s f.profile) f.id)
        (challenge_in (profiled s f.profile) job f.id (length f.bytes) round) 0
        (answers_given job.given s.n f.id round)) old.counts w.counts;
    undecided = omega (arith, w.undecided);
  })
  judged n k f round old new w (inr (none, is)) = subst (Within n (k + 1)) (sym is) (record {
    size = w.size;
    counts = each_at_most k (k + 1) old.counts (omega arith) w.counts;
    undecided = omega (arith, w.undecided);
  })

  within-higher : (n low high : ℕ) (sums : Sums) → low ≤ high → Within n low sums → Within n high sums
  within-higher n low high sums l w =
      record {
        size = w.size;
        counts = each_at_most low high sums.counts l w.counts;
        undecided = omega (arith, w.undecided, l);
      }

  judged-rounds : (n k : ℕ) (f : Pinned) (rounds : List ℕ) (old new : Sums) → Within n k old →
      JudgesRounds s job f rounds old new → Within n (k + length rounds) new
  judged-rounds n k f [] old new w is =
      subst (Within n (k + 0)) (sym is) (within-higher n k (k + 0) old (omega arith) w)
  judged-rounds n k f (round ∷ more) old new w (mid, j, js) =
      within-higher n (k + 1 + length more) (k + length (round ∷ more)) new (omega arith)
      (judged-rounds n (k + 1) f more mid new (judged n k f round old mid w j) js)

  rounds-size : (profile size : ℕ) → length (rounds_of (profiled s profile) size) ≤ s.rounds
  rounds-size profile size = elim (cases_Bool (stripes_of (profiled s profile) size == 0)) [
    | inl t ↦ omega (arith, ap length (cond_true (stripes_of (profiled s profile) size == 0) [] (upto s.rounds) t))
    | inr f ↦ (let e = ap length (cond_false (stripes_of (profiled s profile) size == 0) [] (upto s.rounds)
        f) in omega (arith, e, length-range_with_len 0 s.rounds))
  ]

  judged-files : (n k : ℕ) (fs : List Pinned) (old new : Sums) → Within n k old →
      JudgesFiles s job fs old new → Within n (k + length fs * s.rounds) new
  judged-files n k [] old new w is = (rw (← is) at (within-higher n k (k + 0 * s.rounds) old (omega arith) w))
  judged-files n k (f ∷ fs) old new w (mid, j, js) =
      (let m = judged-rounds n k f (rounds_of (profiled s f.profile) (length f.bytes)) old mid w j in
      let r = rounds-size f.profile (length f.bytes) in
      let e : (1 + length fs) * s.rounds ≡ s.rounds + length fs * s.rounds = grind arith in
      within-higher n (k + s.rounds + length fs * s.rounds) (k + length (f ∷ fs) * s.rounds) new
      (omega arith)
      (judged-files n (k + s.rounds) fs mid new
      (within-higher n (k + length (rounds_of (profiled s f.profile) (length f.bytes))) (k + s.rounds) mid
      (omega arith) m) js))

-- what the sums of an audit over so few files are
abbrev pub AreSmall : ℕ → Sums → Type 0
AreSmall n sums = Within n (2 ^ 16) sums

-- an audit over no more files than may be in effect has such small sums
pub sums-small : (s : Setup) (job : Job) (sums : Sums) → length job.pinned ≤ most_files → s.rounds ≤ 64 →
    HasSums s job sums → AreSmall s.n sums
sums-small s job sums few rounds h = within-higher s job s.n (0 + length job.pinned * s.rounds) (2 ^ 16) sums
    (omega (arith, mul-le-mul_right s.rounds few))
    (judged-files s job s.n 0 job.pinned (record { counts = replicate s.n 0; undecided = 0 }) sums
    (record { size = length-replicate s.n 0; counts = each_zero s.n; undecided = omega arith }) h)

-- what holds of each item holds of all, in the form that contracts have
pub each-all : (P : ℕ → Type 0) (xs : List ℕ) → Each P xs → All P xs
each-all P [] h k d l = absurd (omega (arith, l))
each-all P (x ∷ xs) h zero d l = h.0
each-all P (x ∷ xs) h (suc k) d l = each-all P xs h.1 k d (omega (arith, l))
