-- The verdict of an audit on what it heard is one.
use Rattle.run_laws.proofs.Words.{◌≡◌, ℕ, ◌+◌, ◌*◌, ◌≤◌, cond, List, [], ◌∷◌, length, replicate, Option, refl, ap, sym, subst, ◌∙◌, inl, inr, arith, length-map-range_with_len, IsShape, value, is_seen, Object, point, points, often_same, Setup, Pinned, Job, profiled, object_of, rounds_of, answers_given}
use Rattle.column_defs.specs.Challenges.{Challenge, bare_answers}
use Rattle.column_defs.specs.Verdicts.{Sums, Judges, counts_after}
use Rattle.column_defs.proofs.PointLaws.{Apart-points}
use Rattle.machine_defs.specs.Audits.{challenge_in, JudgesRounds, JudgesFiles, HasSums}

counted-same : (p q points : List ℕ) (heard : List (Option ℕ)) (counts : List ℕ) →
    ((x : ℕ) → value p x ≡ value q x) → counts_after p points heard counts
    ≡ counts_after q points heard counts
counted-same p q [] heard counts h = refl
counted-same p q (x ∷ xs) [] counts h = refl
counted-same p q (x ∷ xs) (answer ∷ more) [] h = refl
counted-same p q (x ∷ xs) (answer ∷ more) (n ∷ ns) h =
    (λ i. cond (is_seen (h x i) answer) n (n + 1) ∷ counted-same p q xs more ns h i)

judges-one : (o : Object) (c : Challenge) (heard : List (Option ℕ)) (old a b : Sums) →
    IsShape o.shape.n o.shape.l o.shape.b → Judges o c heard old a → Judges o c heard old b → a ≡ b
judges-one o c heard old a b shape (inl (p, dp, ep)) (inl (q, dq, eq)) =
    (let many : length (points o) ≡ o.shape.n = length-map-range_with_len (point o) 0 o.shape.n in
    let same : (x : ℕ) → value p x ≡ value q x = often_same p q (points o)
    (bare_answers o c 0 heard) o.shape.l (Apart-points o (small shape)) dp.degree dq.degree
    (let e = dp.agrees in let f = dq.agrees in let r = room shape in omega (arith, e, f, r, many)) in
    ep ∙ (ap (λ counts. record { counts = counts; undecided = old.undecided })
    (counted-same p q (points o) (bare_answers o c 0 heard) old.counts same) ∙ sym eq))
  where
    small : IsShape o.shape.n o.shape.l o.shape.b → o.shape.n ≤ 256
    small h = grind (arith, h)

    room : IsShape o.shape.n o.shape.l o.shape.b → o.shape.l + 2 * o.shape.b + 1 ≤ o.shape.n
    room h = grind (arith, h)
judges-one o c heard old a b shape (inl (p, dp, ep)) (inr (none, eb)) = absurd (none p dp)
judges-one o c heard old a b shape (inr (none, ea)) (inl (q, dq, eq)) = absurd (none q dq)
judges-one o c heard old a b shape (inr (none, ea)) (inr (other, eb)) = ea ∙ sym eb

module _ (s : Setup) (job : Job) (shape : IsShape s.n s.l s.b) where
  rounds-one : (f : Pinned) (rounds : List ℕ) (old a b : Sums) → JudgesRounds s job f rounds old a →
      JudgesRounds s job f rounds old b → a ≡ b
  rounds-one f [] old a b ha hb = ha ∙ sym hb
  rounds-one f (round ∷ more) old a b (ma, ja, ra) (mb, jb, rb) =
      (let same : ma ≡ mb = judges-one (object_of (profiled s f.profile) f.id)
      (challenge_in (profiled s f.profile) job f.id (length f.bytes) round)
      (answers_given job.given s.n f.id round) old ma mb shape ja jb in
      rounds-one f more mb a b (subst (λ m. JudgesRounds s job f more m a) same ra) rb)

  files-one : (fs : List Pinned) (old a b : Sums) → JudgesFiles s job fs old a → JudgesFiles s job fs old b →
      a ≡ b
  files-one [] old a b ha hb = ha ∙ sym hb
  files-one (f ∷ fs) old a b (ma, ja, ra) (mb, jb, rb) = (let same : ma ≡ mb = rounds-one f
      (rounds_of (profiled s f.profile) (length f.bytes)) old ma mb ja jb in
      files-one fs mb a b (subst (λ m. JudgesFiles s job fs m a) same ra) rb)

  -- an audit has one verdict on what it heard
  pub sums-one : (a b : Sums) → HasSums s job a → HasSums s job b → a ≡ b
  sums-one a b ha hb = files-one job.pinned (record { counts = replicate s.n 0; undecided = 0 }) a b ha hb
