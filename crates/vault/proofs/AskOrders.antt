-- The order of the asks of an audit, and how many there are.
use Rattle.vault.proofs.Words.{◌≡◌, inl, inr, ℕ, zero, suc, ◌+◌, ◌*◌, ◌≤◌, true, false, cond, List, [], ◌∷◌, ◌++◌, map, refl, ◌∙◌, arith, append_assoc, flat_map, range_with_len, cases_Bool, eq-eqb, ne_eqb, length-range_with_len, sum_by-append, upto, Setup, End, append_actions, on_each_provider, rounds_of, ask_actions, actions_of, Job, AuditJob, profiled, stripes_of, is_ask, asks_left, Round, rounds_in, AsksOn}
use Rattle.std.proofs.Common.{◌==◌, length}
use Rattle.machine_defs.specs.Actions.{Action, Ask}
use Rattle.machine_defs.specs.Jobs.{Pinned}

-- ---- the order

-- the asks of the providers from c on in the first round
round-on : (n k c : ℕ) (x : Round) (xs : List Round) (rest : List Action) → c + suc k ≡ n → AsksOn n xs 0 rest
    → AsksOn n (x ∷ xs) c (map (λ j. Ask j x.file.id x.number) (range_with_len c (suc k)) ++ rest)
round-on n zero c x xs rest all on =
    let last : (c + 1 == n) ≡ true = eq-eqb (c + 1) n (omega (arith, all)) in
    (refl, refl, refl, rw last on)
round-on n (suc k) c x xs rest all on =
    let more : (c + 1 == n) ≡ false = ne_eqb (c + 1) n
    (λ e. (let f : c + 1 ≡ n = e in omega (arith, all, f))) in
    (refl, refl, refl, rw more (round-on n k (c + 1) x xs rest (omega (arith, all)) on))

module _ (s : Setup) (some : 1 ≤ s.n) where
  abbrev made : Pinned → ℕ → Round
  made f r = record { file = f; number = r }

  abbrev asks_in : Pinned → ℕ → List Action
  asks_in f r = on_each_provider s (λ j. Ask j f.id r)

  one-on : (f : Pinned) (r : ℕ) (xs : List Round) (rest : List Action) → AsksOn s.n xs 0 rest →
      AsksOn s.n (made f r ∷ xs) 0 (asks_in f r ++ rest)
  one-on f r xs rest on = by s.n refl
    where
      by : (n : ℕ) → s.n ≡ n →
          AsksOn s.n (made f r ∷ xs) 0 (map (λ j. Ask j f.id r) (range_with_len 0 n) ++ rest)
      by zero e = absurd (omega (arith, e, some))
      by (suc m) e = round-on s.n m 0 (made f r) xs rest (omega (arith, e)) on

  rounds-on : (f : Pinned) (rs : List ℕ) (xs : List Round) (rest : List Action) → AsksOn s.n xs 0 rest →
      AsksOn s.n (map (made f) rs ++ xs) 0 (flat_map (asks_in f) rs ++ rest)
  rounds-on f [] xs rest on = on
  rounds-on f (r ∷ rs) xs rest on = rw (← (append_assoc (asks_in f r) (flat_map (asks_in f) rs) rest)) at
      (one-on f r (map (made f) rs ++ xs) (flat_map (asks_in f) rs ++ rest) (rounds-on f rs xs rest on))

  files-on : (fs : List Pinned) (rest : List Action) → AsksOn s.n [] 0 rest
      → AsksOn s.n (rounds_in s fs) 0
      (flat_map (λ (f : Pinned). flat_map (asks_in f) (rounds_of (profiled s f.profile) (length f.bytes)))
      fs ++ rest)
  files-on [] rest on = on
  files-on (f ∷ fs) rest on =
      rw (← (append_assoc (flat_map (asks_in f) (rounds_of (profiled s f.profile) (length f.bytes)))
      (flat_map (λ (f : Pinned). flat_map (asks_in f) (rounds_of (profiled s f.profile) (length f.bytes)))
      fs) rest)) at (rounds-on f (rounds_of (profiled s f.profile) (length f.bytes)) (rounds_in s fs) _
      (files-on fs rest on))

  skip-moves : (xs : List Round) (rest : List Action) → AsksOn s.n xs 0 rest →
      AsksOn s.n xs 0 (append_actions ++ rest)
  skip-moves [] rest on = on
  skip-moves (x ∷ xs) rest on = on

  -- an audit asks all providers in order, in each round of each of its files
  pub audit-order : (job : Job) → job.kind ≡ AuditJob →
      AsksOn s.n (rounds_in s job.pinned) 0 (actions_of s job)
  unfolding actions_of
  audit-order job is = rw is
      (skip-moves (rounds_in s job.pinned) (ask_actions s job ++ (append_actions ++ End ∷ []))
      (files-on job.pinned (append_actions ++ End ∷ []) (refl, tt)))

-- ---- how many asks

-- an ask in front is one more ask that is left
pub count-ask : (j o r : ℕ) (rest : List Action) → asks_left (Ask j o r ∷ rest) ≡ 1 + asks_left rest
count-ask j o r rest = sum_by-append (λ a. cond (is_ask a) 1 0) (Ask j o r ∷ []) rest

count-both : (a b : List Action) → asks_left (a ++ b) ≡ asks_left a + asks_left b
count-both a b = sum_by-append (λ x. cond (is_ask x) 1 0) a b

count-round : (o r : ℕ) (js : List ℕ) → asks_left (map (λ j. Ask j o r) js) ≡ length js
count-round o r [] = refl
count-round o r (j ∷ js) = count-ask j o r (map (λ j. Ask j o r) js) ∙ (omega (arith, count-round o r js))

-- a file has at most so many rounds
pub rounds_few : (s : Setup) (size : ℕ) → length (rounds_of s size) ≤ s.rounds
rounds_few s size = elim (cases_Bool (stripes_of s size == 0)) [
  | inl t ↦ rw t (omega arith)
  | inr f ↦ rw f (omega (arith, length-range_with_len 0 s.rounds))
]

module _ (s : Setup) where
  count-rounds : (o : ℕ) (rs : List ℕ) → asks_left (flat_map (λ r. on_each_provider s (λ j. Ask j o r)) rs)
      ≡ length rs * s.n
  count-rounds o [] = omega arith
  count-rounds o (r ∷ rs) = count-both (on_each_provider s (λ j. Ask j o r))
      (flat_map (λ r. on_each_provider s (λ j. Ask j o r)) rs)
      ∙ omega (arith, count-rounds o rs, count-round o r (upto s.n), length-range_with_len 0 s.n)

  count-files : (fs : List Pinned) →
      asks_left (flat_map (λ (f : Pinned). flat_map (λ r. on_each_provider s (λ j. Ask j f.id r))
      (rounds_of (profiled s f.profile) (length f.bytes))) fs) ≤ length fs * (s.rounds * s.n)
  count-files [] = omega arith
  count-files (f ∷ fs) =
      let rs = rounds_of (profiled s f.profile) (length f.bytes) in
      let one : length rs * s.n ≤ s.rounds * s.n = times (length rs) s.rounds s.n
      (rounds_few (profiled s f.profile) (length f.bytes)) in
      let l = count-files fs in
      let c = count-rounds f.id rs in
      let b = count-both (flat_map (λ r. on_each_provider s (λ j. Ask j f.id r)) rs)
      (flat_map (λ (f : Pinned). flat_map (λ r. on_each_provider s (λ j. Ask j f.id r))
      (rounds_of (profiled s f.profile) (length f.bytes))) fs) in
      omega (arith, one, l, c, b)
    where
      times : (a b n : ℕ) → a ≤ b → a * n ≤ b * n
      times a b n le = grind (arith, le)

  -- an audit asks no more than each provider in each round of each file
  pub audit-count : (job : Job) → job.kind ≡ AuditJob →
      asks_left (actions_of s job) ≤ length job.pinned * (s.rounds * s.n)
  unfolding actions_of
  audit-count job is =
      rw is (omega (arith, count-files job.pinned, count-both (ask_actions s job) (append_actions ++ End ∷ [])))

-- ---- the pinned files
