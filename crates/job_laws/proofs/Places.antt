-- The places of a repair, and the actions of each.
use Rattle.job_laws.proofs.Words.{◌≡◌, ℕ, zero, suc, ◌+◌, ◌-◌, ◌<◌, ◌≤◌, Bool, true, false, cond, List, [], ◌∷◌, ◌++◌, length, take, Some, refl, ap, sym, subst, ◌∙◌, inl, inr, arith, slice_get, flat_map, range_with_len, flat_map-append, append_assoc, take-append-le, Each, each_append, each_map, each_flat, each_mono, upto, Setup, File, Pinned, Job, profiled, stripes_of, Action, Store, Fetch, Work, on_each_stripe, open_actions, rewrite_actions, repair_actions, pinned_file, pin_all, State, split_get, files_by_number, Place, places, AreAscending, take-append-add}
use Rattle.std.proofs.Common.{map}
use Rattle.job_laws.proofs.Asked.{pinned-by_number, each-by_number}
use Rattle.job_laws.proofs.Heard.{IsNot}
use Rattle.job_laws.proofs.Rewritten.{IsNoneOf, IsBefore, AreOrdered, none-fetch}

-- ---- the actions, place by place

-- the fetches of a place, and all its actions
abbrev pub fetches_at : Setup → Place → List Action
fetches_at s p = map (λ j. Fetch j p.object p.stripe) (upto s.n)

abbrev pub actions_at : Setup → Job → Place → List Action
actions_at s job p = open_actions s p.object p.stripe ++ rewrite_actions s job p.object p.stripe

-- the places of files in this order
abbrev pub places_in : Setup → List File → List Place
places_in s fs = flat_map (λ (f : File). map (λ stripe. record { object = f.id; stripe = stripe })
    (upto (stripes_of (profiled s f.profile) f.size))) fs

stripes-places : (s : Setup) (job : Job) (id : ℕ) (stripes : List ℕ) →
    flat_map (λ stripe. open_actions s id stripe ++ rewrite_actions s job id stripe) stripes
    ≡ flat_map (actions_at s job) (map (λ stripe. record { object = id; stripe = stripe }) stripes)
stripes-places s job id [] = refl
stripes-places s job id (t ∷ ts) = cc (stripes-places s job id ts)

files-places : (s : Setup) (w : State) (job : Job) (fs : List File) →
    Each (λ (f : File). length (w.bytes f.id) ≡ f.size) fs →
    flat_map (λ (f : Pinned). on_each_stripe (profiled s f.profile) (length f.bytes)
    (λ stripe. open_actions s f.id stripe ++ rewrite_actions s job f.id stripe)) (map (pinned_file w) fs)
    ≡ flat_map (actions_at s job) (places_in s fs)
files-places s w job [] h = refl
files-places s w job (f ∷ fs) h =
    (let one : flat_map (λ stripe. open_actions s f.id stripe ++ rewrite_actions s job f.id stripe)
    (upto (stripes_of (profiled s f.profile) (length (w.bytes f.id)))) ≡ flat_map (actions_at s job)
    (map (λ stripe. record { object = f.id; stripe = stripe }) _) = cc
    (stripes-places s job f.id (upto (stripes_of (profiled s f.profile) f.size))) in
    (λ i. one i ++ files-places s w job fs h.1 i)
    ∙ sym (flat_map-append (actions_at s job) (map (λ stripe. record { object = f.id; stripe = stripe })
    (upto (stripes_of (profiled s f.profile) f.size))) (places_in s fs)))

-- the actions of a repair are those of its places, in order
pub repairs-places : (s : Setup) (w : State) (job : Job) (files : List File) → job.pinned ≡ pin_all w files →
    Each (λ (f : File). length (w.bytes f.id) ≡ f.size) files →
    repair_actions s job ≡ flat_map (actions_at s job) (places s files)
repairs-places s w job files pinned h = cc (
  pinned-by_number w files,
  files-places s w job (files_by_number files)
      (each-by_number (λ (f : File). length (w.bytes f.id) ≡ f.size) files h),
)

-- ---- no place comes twice

abbrev pub IsElse : Place → Place → Type 0
IsElse p q = (q.object ≡ p.object) × (q.stripe ≡ p.stripe) → ⊥

abbrev pub AreApart : List Place → Type 0
AreApart [] = Unit {0}
AreApart (p ∷ ps) = Each (IsElse p) ps × AreApart ps

apart-append : (ps qs : List Place) → AreApart ps → AreApart qs → Each (λ p. Each (IsElse p) qs) ps →
    AreApart (ps ++ qs)
apart-append [] qs a b h = b
apart-append (p ∷ ps) qs a b h = (each_append (IsElse p) ps qs a.0 h.0, apart-append ps qs a.1 b h.1)

apart-stripes : (id a n : ℕ) →
    AreApart (map (λ stripe. record { object = id; stripe = stripe }) (range_with_len a n))
apart-stripes id a zero = tt
apart-stripes id a (suc n) = (above (a + 1) n (omega arith), apart-stripes id (a + 1) n)
  where
    above : (b m : ℕ) → a < b →
        Each (IsElse (record { object = id; stripe = a }))
        (map (λ stripe. record { object = id; stripe = stripe }) (range_with_len b m))
    above b zero l = tt
    above b (suc m) l = ((λ e. (omega (arith, l))), above (b + 1) m (omega (arith, l)))

places-above : (s : Setup) (w : State) (low : ℕ) (fs : List File) →
    AreAscending low (map (pinned_file w) fs) → Each (λ (p : Place). low ≤ p.object) (places_in s fs)
places-above s w low [] h = tt
places-above s w low (f ∷ fs) h = each_append (λ (p : Place). low ≤ p.object)
    (map (λ stripe. record { object = f.id; stripe = stripe }) _) (places_in s fs)
    (each_map (λ (p : Place). low ≤ p.object)
    (λ stripe. record { object = f.id; stripe = stripe }) (upto (stripes_of (profiled s f.profile) f.size))
    (λ t. h.0)) (each_mono (λ (p : Place). f.id + 1 ≤ p.object) (λ (p : Place). low ≤ p.object)
    (places_in s fs) (λ p l. (omega (arith, l))) (places-above s w (f.id + 1) fs h.1))

places-apart : (s : Setup) (w : State) (low : ℕ) (fs : List File) →
    AreAscending low (map (pinned_file w) fs) → AreApart (places_in s fs)
places-apart s w low [] h = tt
places-apart s w low (f ∷ fs) h = apart-append (map (λ stripe. record { object = f.id; stripe = stripe })
    (upto (stripes_of (profiled s f.profile) f.size))) (places_in s fs) (apart-stripes f.id 0
    (stripes_of (profiled s f.profile) f.size)) (places-apart s w (f.id + 1) fs h.1)
    (each_map (λ p. Each (IsElse p) (places_in s fs)) (λ stripe. record { object = f.id; stripe = stripe })
    (upto (stripes_of (profiled s f.profile) f.size)) (λ t. each_mono (λ (p : Place). f.id + 1 ≤ p.object)
    (IsElse (record { object = f.id; stripe = t })) (places_in s fs) (λ p l e. (omega (arith, l)))
    (places-above s w (f.id + 1) fs h.1)))

-- no place of files comes twice, where they ascend by number
pub all-apart : (s : Setup) (w : State) (files : List File) → AreAscending 0 (pin_all w files) →
    AreApart (places s files)
all-apart s w files h =
    places-apart s w 0 (files_by_number files) (subst (AreAscending 0) (pinned-by_number w files) h)

-- ---- the order of the actions

-- an action at a place
abbrev pub IsAt : Place → Action → Type 0
IsAt p (Fetch j o s) = (o ≡ p.object) × (s ≡ p.stripe)
IsAt p (Work o s) = (o ≡ p.object) × (s ≡ p.stripe)
IsAt p (Store j o s) = (o ≡ p.object) × (s ≡ p.stripe)
IsAt p action = ⊥

at-cond : (p : Place) (j : ℕ) (b : Bool) → Each (IsAt p) (cond b (Store j p.object p.stripe ∷ []) [])
at-cond p j true = ((refl, refl), tt)
at-cond p j false = tt

-- all actions of a place are at it
pub at-place : (s : Setup) (job : Job) (p : Place) → Each (IsAt p) (actions_at s job p)
at-place s job p = each_append (IsAt p) (open_actions s p.object p.stripe)
    (rewrite_actions s job p.object p.stripe) (each_append (IsAt p) (fetches_at s p)
    (Work p.object p.stripe ∷ [])
    (each_map (IsAt p) (λ j. Fetch j p.object p.stripe) (upto s.n) (λ j. (refl, refl))) ((refl, refl), tt))
    (each_flat (IsAt p) (λ j. cond (job.flagged j) (Store j p.object p.stripe ∷ []) []) (upto s.n)
    (λ j. at-cond p j (job.flagged j)))

-- what is at another place is neither a fetch of this one nor the work on it
else-none : (p q : Place) (y : Action) → IsElse p q → IsAt q y → IsNoneOf p.object p.stripe y
else-none p q (Fetch j o s) n a = λ e. n (sym a.0 ∙ e.0, sym a.1 ∙ e.1)
else-none p q (Work o s) n a = λ e. n (sym a.0 ∙ e.0, sym a.1 ∙ e.1)
else-none p q y n a = tt

else-all : (s : Setup) (job : Job) (p : Place) (qs : List Place) → Each (IsElse p) qs →
    Each (IsNoneOf p.object p.stripe) (flat_map (actions_at s job) qs)
else-all s job p [] h = tt
else-all s job p (q ∷ qs) h = each_append (IsNoneOf p.object p.stripe) (actions_at s job q)
    (flat_map (actions_at s job) qs) (each_mono (IsAt q) (IsNoneOf p.object p.stripe) (actions_at s job q)
    (λ y a. else-none p q y h.0 a) (at-place s job q)) (else-all s job p qs h.1)

before-none : (p : Place) (x : Action) (ys : List Action) → IsAt p x → Each (IsNoneOf p.object p.stripe) ys →
    IsBefore x ys
before-none p (Fetch j o s) ys a h = each_mono (IsNoneOf p.object p.stripe) (IsNot (Fetch j o s)) ys
    (λ y n e. none-fetch j p.object p.stripe y n
    ((let f = a.0 in let g = a.1 in (λ i. Fetch j (sym f i) (sym g i))) ∙ e)) h
before-none p (Work o s) ys a h =
    subst (λ n. Each (IsNoneOf n s) ys) (sym a.0) (subst (λ n. Each (IsNoneOf p.object n) ys) (sym a.1) h)
before-none p (Store j o s) ys a h =
    subst (λ n. Each (IsNoneOf n s) ys) (sym a.0) (subst (λ n. Each (IsNoneOf p.object n) ys) (sym a.1) h)
before-none p x ys a h = tt

before-append : (x : Action) (xs ys : List Action) → IsBefore x xs → IsBefore x ys → IsBefore x (xs ++ ys)
before-append (Fetch j o s) xs ys a b = each_append (IsNot (Fetch j o s)) xs ys a b
before-append (Work o s) xs ys a b = each_append (IsNoneOf o s) xs ys a b
before-append (Store j o s) xs ys a b = each_append (IsNoneOf o s) xs ys a b
before-append x xs ys a b = tt

ordered-append : (xs ys : List Action) → AreOrdered xs → AreOrdered ys → Each (λ x. IsBefore x ys) xs →
    AreOrdered (xs ++ ys)
ordered-append [] ys a b h = b
ordered-append (x ∷ xs) ys a b h = (before-append x xs ys a.0 h.0, ordered-append xs ys a.1 b h.1)

-- a store of the place
abbrev pub IsStoreAt : Action → Type 0
IsStoreAt (Store j o s) = Unit {0}
IsStoreAt action = ⊥

stores-cond : (j o s : ℕ) (b : Bool) → Each IsStoreAt (cond b (Store j o s ∷ []) [])
stores-cond j o s true = (tt, tt)
stores-cond j o s false = tt

-- what a repair rewrites of a stripe are stores alone
pub stores-only : (s : Setup) (job : Job) (o t : ℕ) → Each IsStoreAt (rewrite_actions s job o t)
stores-only s job o t = each_flat IsStoreAt (λ j. cond (job.flagged j) (Store j o t ∷ []) []) (upto s.n)
    (λ j. stores-cond j o t (job.flagged j))

stores-none : (o s : ℕ) (y : Action) → IsStoreAt y → IsNoneOf o s y
stores-none o s (Fetch j p t) u = absurd u
stores-none o s (Work p t) u = absurd u
stores-none o s y u = tt

ordered-stores : (xs : List Action) → Each IsStoreAt xs → AreOrdered xs
ordered-stores [] h = tt
ordered-stores (Store j o s ∷ xs) h =
    (each_mono IsStoreAt (IsNoneOf o s) xs (λ y u. stores-none o s y u) h.1, ordered-stores xs h.1)
ordered-stores xs h = absurd h.0

ordered-fetches : (o s a n : ℕ) → AreOrdered (map (λ j. Fetch j o s) (range_with_len a n))
ordered-fetches o s a zero = tt
ordered-fetches o s a (suc n) = (above (a + 1) n (omega arith), ordered-fetches o s (a + 1) n)
  where
    above : (b m : ℕ) → a < b → Each (IsNot (Fetch a o s)) (map (λ j. Fetch j o s) (range_with_len b m))
    above b zero l = tt
    above b (suc m) l = (
      (λ e. (let f : a ≡ b = (cc) in omega (arith, f, l))),
      above (b + 1) m (omega (arith, l)),
    )

ordered-place : (s : Setup) (job : Job) (p : Place) → AreOrdered (actions_at s job p)
ordered-place s job p =
    ordered-append (open_actions s p.object p.stripe) (rewrite_actions s job p.object p.stripe)
    (ordered-append (fetches_at s p) (Work p.object p.stripe ∷ []) (ordered-fetches p.object p.stripe 0 s.n)
    (tt, tt) (each_map (λ x. IsBefore x (Work p.object p.stripe ∷ [])) (λ j. Fetch j p.object p.stripe)
    (upto s.n) (λ j. ((λ e. cc), tt)))) (ordered-stores (rewrite_actions s job p.object p.stripe)
    (stores-only s job p.object p.stripe)) (each_mono (IsAt p) (λ x. IsBefore x
    (rewrite_actions s job p.object p.stripe)) (open_actions s p.object p.stripe)
    (λ x a. before-none p x (rewrite_actions s job p.object p.stripe) a
    (each_mono IsStoreAt (IsNoneOf p.object p.stripe) (rewrite_actions s job p.object p.stripe)
    (λ y u. stores-none p.object p.stripe y u) (stores-only s job p.object p.stripe)))
    (each_append (IsAt p) (fetches_at s p) (Work p.object p.stripe ∷ [])
    (each_map (IsAt p) (λ j. Fetch j p.object p.stripe) (upto s.n) (λ j. (refl, refl))) ((refl, refl), tt)))

-- the actions of places that are apart, with what may follow, are in the order of a repair
pub ordered-places : (s : Setup) (job : Job) (ps : List Place) (tail : List Action) → AreApart ps →
    AreOrdered tail → Each (λ y. (o t : ℕ) → IsNoneOf o t y) tail →
    AreOrdered (flat_map (actions_at s job) ps ++ tail)
ordered-places s job [] tail a o n = o
ordered-places s job (p ∷ ps) tail a o n = rw (← (append_assoc (actions_at s job p)
    (flat_map (actions_at s job) ps) tail)) at (ordered-append (actions_at s job p)
    (flat_map (actions_at s job) ps ++ tail) (ordered-place s job p) (ordered-places s job ps tail a.1 o n)
    (each_mono (IsAt p) (λ x. IsBefore x (flat_map (actions_at s job) ps ++ tail)) (actions_at s job p)
    (λ x u. before-none p x (flat_map (actions_at s job) ps ++ tail) u
    (each_append (IsNoneOf p.object p.stripe) (flat_map (actions_at s job) ps) tail (else-all s job p ps a.0)
    (each_mono (λ y. (o t : ℕ) → IsNoneOf o t y) (IsNoneOf p.object p.stripe) tail
    (λ y g. g p.object p.stripe) n))) (at-place s job p)))

-- ---- where a list is cut

pub data Cut (A : Place → List Action) (ps : List Place) (tail : List Action) (p : ℕ)
    (a : Action) : Type 0 where
  inside : (done : List Place) (place : Place) (rest : List Place) (q : ℕ) → ps ≡ done ++ place ∷ rest →
      slice_get (A place) q ≡ Some a → take p (flat_map A ps ++ tail) ≡ flat_map A done ++ take q (A place) →
      Cut A ps tail p a
  behind : (q : ℕ) → slice_get tail q ≡ Some a → take p (flat_map A ps ++ tail)
      ≡ flat_map A ps ++ take q tail → Cut A ps tail p a

-- what stands at a place of such a list stands in one part or behind all; and what stands before that
pub cut-at : (A : Place → List Action) (ps : List Place) (tail : List Action) (p : ℕ) (a : Action) →
    slice_get (flat_map A ps ++ tail) p ≡ Some a → Cut A ps tail p a
cut-at A [] tail p a h = Cut.behind p h refl
cut-at A (x ∷ ps) tail p a h = (let assoc : (A x ++ flat_map A ps) ++ tail ≡ A x ++ (flat_map A ps ++ tail) =
    append_assoc (A x) (flat_map A ps) tail in elim (split_get (A x) (flat_map A ps ++ tail) p a (cc)) [
      | inl l ↦ Cut.inside [] x ps p refl l.1 (ap (take p) assoc
          ∙ take-append-le p (A x) (flat_map A ps ++ tail) (omega arith))
      | inr r ↦ (let n = p - length (A x) in let is : p ≡ length (A x) + n = (omega arith) in
          let front : take p ((A x ++ flat_map A ps) ++ tail) ≡ A x ++ take n (flat_map A ps ++ tail) =
          cc (take-append-add (A x) (flat_map A ps ++ tail) n) in elim (cut-at A ps tail n a r.1) [
            | Cut.inside done place rest q e at t ↦ Cut.inside (x ∷ done) place rest q (ap (λ l. x ∷ l) e) at
                (cc (append_assoc (A x) (flat_map A done) (take q (A place))))
            | Cut.behind q at t ↦ Cut.behind q at (cc (append_assoc (A x) (flat_map A ps) (take q tail)))
          ])
    ])
