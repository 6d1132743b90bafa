-- The order of the actions on stripes.
use Rattle.vault.proofs.Words.{◌≡◌, inl, inr, ℕ, zero, suc, ◌+◌, ◌*◌, ◌≤◌, cond, List, [], ◌∷◌, ◌++◌, map, refl, sym, ap, ◌∙◌, subst, arith, append_assoc, if◌then◌else◌, flat_map, range_with_len, cases_Bool, upto, Setup, Fetch, Work, End, append_actions, on_each_stripe, open_actions, rewrite_actions, actions_of, Job, RepairJob, profiled, stripes_of, length-range_with_len, sum_by-append, Between, Fetching, Opened, OpensFrom, is_fetch, is_work, fetches_left, works_left}
use Rattle.std.proofs.Common.{length}
use Rattle.machine_defs.specs.Actions.{Action, Store}
use Rattle.machine_defs.specs.Jobs.{Pinned}
use Rattle.vault.specs.Orders.{GoesOn}

-- these actions come where no stripe is in work, and behind a stripe that was opened
pub record GoesEitherWay (n : ℕ) (rest : List Action) : Type 0 where
  pub between : GoesOn n Between rest
  pub opened : (o t : ℕ) → GoesOn n (Opened o t) rest

-- the fetches from provider c on, and the work
fetches-on : (n o t k c : ℕ) (rest : List Action) → c + k ≡ n → GoesOn n (Opened o t) rest →
    GoesOn n (Fetching o t c) (map (λ j. Fetch j o t) (range_with_len c k) ++ (Work o t ∷ rest))
fetches-on n o t zero c rest all on = ((omega (arith, all)), refl, refl, on)
fetches-on n o t (suc k) c rest all on =
    (omega (arith, all), refl, refl, refl, fetches-on n o t k (c + 1) rest (omega (arith, all)) on)

module _ (s : Setup) (some : 1 ≤ s.n) where
  opens : (o t m : ℕ) (rest : List Action) → s.n ≡ suc m → GoesOn s.n (Opened o t) rest
      → GoesEitherWay s.n ((map (λ j. Fetch j o t) (range_with_len 0 (suc m)) ++ Work o t ∷ []) ++ rest)
  opens o t m rest n_is on =
      let behind = subst (GoesOn s.n (Fetching o t 1)) (sym (append_assoc
      (map (λ j. Fetch j o t) (range_with_len 1 m)) (Work o t ∷ []) rest))
      (fetches-on s.n o t m 1 rest (omega (arith, n_is)) on) in
      record { between = (refl, behind); opened = λ p u. (refl, behind) }

  open-on : (o t : ℕ) (rest : List Action) → GoesOn s.n (Opened o t) rest →
      GoesEitherWay s.n (open_actions s o t ++ rest)
  open-on o t rest on = by s.n refl
    where
      by : (n : ℕ) → s.n ≡ n →
          GoesEitherWay s.n ((map (λ j. Fetch j o t) (range_with_len 0 n) ++ Work o t ∷ []) ++ rest)
      by zero e = absurd (omega (arith, e, some))
      by (suc m) e = opens o t m rest e on

  -- ---- a get

  reads-on : (o : ℕ) (ts : List ℕ) (rest : List Action) → GoesEitherWay s.n rest →
      GoesEitherWay s.n (flat_map (open_actions s o) ts ++ rest)
  reads-on o [] rest on = on
  reads-on o (t ∷ ts) rest on = subst (GoesEitherWay s.n)
      (sym (append_assoc (open_actions s o t) (flat_map (open_actions s o) ts) rest))
      (open-on o t _ ((reads-on o ts rest on).opened o t))

  -- a get fetches from all providers in order, and opens, stripe by stripe
  pub get-order : (o : ℕ) (ts : List ℕ) → GoesOn s.n Between (flat_map (open_actions s o) ts ++ End ∷ [])
  get-order o ts = (reads-on o ts (End ∷ []) (record { between = tt; opened = λ p u. tt })).between

  -- ---- a repair

  stores-on : (job : Job) (o t k a : ℕ) (rest : List Action) → a + k ≡ s.n → GoesOn s.n (Opened o t) rest
      → GoesOn s.n (Opened o t)
      (flat_map (λ j. if job.flagged j then Store j o t ∷ [] else []) (range_with_len a k) ++ rest)
  stores-on job o t zero a rest all on = on
  stores-on job o t (suc k) a rest all on =
      let later = stores-on job o t k (a + 1) rest (omega (arith, all)) on in
      elim (cases_Bool (job.flagged a)) [
        | inl yes_ ↦ rw yes_ ((omega (arith, all)), refl, refl, later)
        | inr off ↦ rw off later
      ]

  one-on : (job : Job) (o t : ℕ) (rest : List Action) → GoesEitherWay s.n rest →
      GoesEitherWay s.n ((open_actions s o t ++ rewrite_actions s job o t) ++ rest)
  one-on job o t rest on =
      subst (GoesEitherWay s.n) (sym (append_assoc (open_actions s o t) (rewrite_actions s job o t) rest))
      (open-on o t (rewrite_actions s job o t ++ rest)
      (stores-on job o t s.n 0 rest (omega arith) (on.opened o t)))

  stripes-on : (job : Job) (o : ℕ) (ts : List ℕ) (rest : List Action) → GoesEitherWay s.n rest →
      GoesEitherWay s.n (flat_map (λ t. open_actions s o t ++ rewrite_actions s job o t) ts ++ rest)
  stripes-on job o [] rest on = on
  stripes-on job o (t ∷ ts) rest on =
      subst (GoesEitherWay s.n) (sym (append_assoc (open_actions s o t ++ rewrite_actions s job o t)
      (flat_map (λ t. open_actions s o t ++ rewrite_actions s job o t) ts) rest))
      (one-on job o t _ (stripes-on job o ts rest on))

  files-on : (job : Job) (fs : List Pinned) (rest : List Action) → GoesEitherWay s.n rest
      → GoesEitherWay s.n (flat_map
      (λ (f : Pinned). on_each_stripe (profiled s f.profile) (length f.bytes)
      (λ t. open_actions s f.id t ++ rewrite_actions s job f.id t)) fs ++ rest)
  files-on job [] rest on = on
  files-on job (f ∷ fs) rest on = subst (GoesEitherWay s.n) (sym (append_assoc
      (on_each_stripe (profiled s f.profile) (length f.bytes) (λ t. open_actions s f.id t ++ rewrite_actions s
      job f.id t)) (flat_map (λ (f : Pinned). on_each_stripe (profiled s f.profile) (length f.bytes)
      (λ t. open_actions s f.id t ++ rewrite_actions s job f.id t)) fs) rest))
      (stripes-on job f.id (upto (stripes_of (profiled s f.profile) (length f.bytes))) _
      (files-on job fs rest on))

  -- a repair fetches from all providers in order, opens, and then stores, stripe by stripe
  pub repair-order : (job : Job) → job.kind ≡ RepairJob → GoesOn s.n Between (actions_of s job)
  unfolding actions_of
  repair-order job is = rw is (files-on job job.pinned (append_actions ++ End ∷ [])
      (record { between = tt; opened = λ o t. tt })).between

-- ---- how many actions are left

opens-skip : (id total k o t : ℕ) (js : List ℕ) (rest : List Action) → OpensFrom id total k rest →
    OpensFrom id total k (map (λ j. Fetch j o t) js ++ rest)
opens-skip id total k o t [] rest on = on
opens-skip id total k o t (j ∷ js) rest on = opens-skip id total k o t js rest on

-- a get opens its stripes in order, up to the last
pub get-opens : (s : Setup) (o total m k : ℕ) → k + m ≡ total →
    OpensFrom o total k (flat_map (open_actions s o) (range_with_len k m) ++ End ∷ [])
get-opens s o total zero k all = (omega arith, tt)
get-opens s o total (suc m) k all =
    let fetches = map (λ j. Fetch j o k) (upto s.n) in
    let more = flat_map (open_actions s o) (range_with_len (k + 1) m) in
    subst (OpensFrom o total k)
    (sym (append_assoc (fetches ++ Work o k ∷ []) more (End ∷ [])
    ∙ append_assoc fetches (Work o k ∷ []) (more ++ End ∷ [])))
    (opens-skip o total k o k (upto s.n) (Work o k ∷ (more ++ End ∷ []))
    (refl, refl, get-opens s o total m (k + 1) (omega (arith, all))))

count-fetch : (j o t : ℕ) (rest : List Action) → fetches_left (Fetch j o t ∷ rest) ≡ 1 + fetches_left rest
count-fetch j o t rest = sum_by-append (λ a. cond (is_fetch a) 1 0) (Fetch j o t ∷ []) rest

skip-work : (o t : ℕ) (rest : List Action) → fetches_left (Work o t ∷ rest) ≡ 0 + fetches_left rest
skip-work o t rest = sum_by-append (λ a. cond (is_fetch a) 1 0) (Work o t ∷ []) rest

count-work : (o t : ℕ) (rest : List Action) → works_left (Work o t ∷ rest) ≡ 1 + works_left rest
count-work o t rest = sum_by-append (λ a. cond (is_work a) 1 0) (Work o t ∷ []) rest

skip-fetch : (j o t : ℕ) (rest : List Action) → works_left (Fetch j o t ∷ rest) ≡ 0 + works_left rest
skip-fetch j o t rest = sum_by-append (λ a. cond (is_work a) 1 0) (Fetch j o t ∷ []) rest

fetches-skip : (o t : ℕ) (js : List ℕ) (rest : List Action) →
    fetches_left (map (λ j. Fetch j o t) js ++ rest) ≡ length js + fetches_left rest
fetches-skip o t [] rest = omega arith
fetches-skip o t (j ∷ js) rest =
    count-fetch j o t (map (λ j. Fetch j o t) js ++ rest) ∙ omega (arith, fetches-skip o t js rest)

works-skip : (o t : ℕ) (js : List ℕ) (rest : List Action) →
    works_left (map (λ j. Fetch j o t) js ++ rest) ≡ works_left rest
works-skip o t [] rest = refl
works-skip o t (j ∷ js) rest = skip-fetch j o t (map (λ j. Fetch j o t) js ++ rest)
    ∙ (let l = works-skip o t js rest in omega (arith, l))

split-first : (s : Setup) (o k : ℕ) (more : List Action) →
    ((map (λ j. Fetch j o k) (upto s.n) ++ Work o k ∷ []) ++ more) ++ End ∷ []
    ≡ map (λ j. Fetch j o k) (upto s.n) ++ (Work o k ∷ (more ++ End ∷ []))
split-first s o k more = append_assoc (map (λ j. Fetch j o k) (upto s.n) ++ Work o k ∷ []) more (End ∷ [])
    ∙ append_assoc (map (λ j. Fetch j o k) (upto s.n)) (Work o k ∷ []) (more ++ End ∷ [])

-- a get has one fetch from each provider for each stripe that is left
pub get-fetches : (s : Setup) (o m k : ℕ) →
    fetches_left (flat_map (open_actions s o) (range_with_len k m) ++ End ∷ []) ≡ m * s.n
get-fetches s o zero k = omega arith
get-fetches s o (suc m) k =
    let more = flat_map (open_actions s o) (range_with_len (k + 1) m) in
    ap fetches_left (split-first s o k more) ∙ fetches-skip o k (upto s.n) (Work o k ∷ (more ++ End ∷ []))
    ∙ (omega (arith, get-fetches s o m (k + 1), skip-work o k (more ++ End ∷ []), length-range_with_len 0 s.n))

-- a get has one work for each stripe that is left
pub get-works : (s : Setup) (o m k : ℕ) →
    works_left (flat_map (open_actions s o) (range_with_len k m) ++ End ∷ []) ≡ m
get-works s o zero k = refl
get-works s o (suc m) k =
    let more = flat_map (open_actions s o) (range_with_len (k + 1) m) in
    ap works_left (split-first s o k more) ∙ works-skip o k (upto s.n) (Work o k ∷ (more ++ End ∷ []))
    ∙ (count-work o k (more ++ End ∷ []) ∙ omega (arith, get-works s o m (k + 1)))
