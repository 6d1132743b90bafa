-- Few providers that are wrong or fail do no harm to a get.
use Rattle.job_laws.proofs.Words.{◌≡◌, ℕ, zero, suc, ◌+◌, ◌<◌, ◌≤◌, ◌==◌, ◌&&◌, ◌||◌, ◌⊎◌, Bool, true, false, cond, List, length, get_or, Option, None, Some, refl, ap, sym, subst, ◌∙◌, inl, inr, arith, IfSome, nat_lt, nat_le, is_some, is_none, range_with_len, list_any, cases_Bool, cases_eq, and_parts, false≢true, or_parts, get-map_range, IsShape, upto, Object, stripes, symbols_in, is_wrong_block, is_wrong, row_polynomial, SeenBlock, OpensFile, block_at, is_agreeing, IsForgery, count_of-within, row-right, profile-room, Rose, last_count, Held, sized, File, file_of, Answer, AreBytes, Entry, HoldsForgery, State, setup_in, block_heard, blocks_heard, HearsStripes, GetGives, GetLeaves, PutLeaves, DropLeaves, UpgradeLeaves, AuditGives, Ran, ran_from, setup_at_begin, object_at_begin, stripes_at_begin, job_number, missing, IsTruthful, valid-shape, setup-valid, IsOpenAtRest, opened-sound, has_risen, is_bad_with, is_bad, bad_count}
use Rattle.std.proofs.Common.{map}
use Rattle.std.proofs.lemmas.Bool.Decides.{nat_tests}
use Rattle.machine_defs.specs.Answers as answer
use Rattle.run_laws.proofs.Files.{file_or_forged}

-- ---- ranges

get_or-range : (a n k d : ℕ) → k < n → get_or (range_with_len a n) k d ≡ a + k
get_or-range a zero k d l = absurd (omega (arith, l))
get_or-range a (suc n) zero d l = omega arith
get_or-range a (suc n) (suc k) d l = get_or-range (a + 1) n k d (omega (arith, l)) ∙ (omega arith)

length-range : (a n : ℕ) → length (range_with_len a n) ≡ n
length-range a zero = refl
length-range a (suc n) = ap suc (length-range (a + 1) n)

-- the block at a place of those that a function makes of providers 0 to n - 1 is that provider's
pub block_at-map : (f : ℕ → SeenBlock) (n j : ℕ) → j < n → block_at (map f (upto n)) j ≡ f j
block_at-map f n j l = ap (λ (o : Option SeenBlock). take_out o)
    (get-map_range f n 0 j l ∙ ap (λ k. Some (f k)) (let e : 0 + j ≡ j = omega arith in e))
  where
    take_out : Option SeenBlock → SeenBlock
    take_out None = None
    take_out (Some b) = b

-- no number of a range passes a test
any-none : (p : ℕ → Bool) (a n : ℕ) → ((t : ℕ) → a ≤ t → t < a + n → p t ≡ false) →
    list_any p (range_with_len a n) ≡ false
any-none p a zero h = refl
any-none p a (suc n) h = (λ i. h a (omega arith) (omega arith) i || any-none p (a + 1) n
    (λ t l u. h t (omega (arith, l)) (omega (arith, u))) i)

none-any : (p : ℕ → Bool) (a n : ℕ) → list_any p (range_with_len a n) ≡ false → (t : ℕ) → a ≤ t → t < a + n →
    p t ≡ false
none-any p a zero h t l u = absurd (omega (arith, l, u))
none-any p a (suc n) h t l u = (let q = or_parts (p a) (list_any p (range_with_len (a + 1) n)) h in
    elim (cases_eq t a) [
      | inl e ↦ ap p e ∙ q.0
      | inr m ↦ none-any p (a + 1) n q.1 t (omega (arith, l, m)) (omega (arith, u))
    ])

-- ---- blocks

-- a block of another size is as wrong as none
pub wrong-sized : (o : Object) (bytes : List ℕ) (j t : ℕ) (block : Option (List ℕ)) →
    is_wrong_block o bytes j t (sized o.profile.size block) ≡ is_wrong_block o bytes j t block
wrong-sized o bytes j t None = refl
wrong-sized o bytes j t (Some block) = elim (cases_Bool (length block == o.profile.size)) [
  | inl y ↦ cc
  | inr n ↦ cc
]

-- a provider that is not wrong for a file has no wrong block of a stripe of it
pub not-wrong-each : (o : Object) (bytes : List ℕ) (j : ℕ) (held : ℕ → Option (List ℕ)) →
    is_wrong o bytes j held ≡ false → (t : ℕ) → t < stripes o (length bytes) →
    is_wrong_block o bytes j t (held t) ≡ false
unfolding is_wrong
not-wrong-each o bytes j held h t l = none-any (λ k. is_wrong_block o bytes j k (held k)) 0
    (stripes o (length bytes)) h t (omega arith) (omega (arith, l))

-- a provider with no wrong block of a file's stripes is not wrong for it
pub each-not-wrong : (o : Object) (bytes : List ℕ) (j : ℕ) (held : ℕ → Option (List ℕ)) →
    ((t : ℕ) → t < stripes o (length bytes) → is_wrong_block o bytes j t (held t) ≡ false) →
    is_wrong o bytes j held ≡ false
unfolding is_wrong
each-not-wrong o bytes j held h = any-none (λ k. is_wrong_block o bytes j k (held k)) 0
    (stripes o (length bytes)) (λ t l u. h t (omega (arith, u)))

-- ---- what was given where no count rose

missing-one : {B : Type 0} (given held : ℕ → Option B) (a n t : ℕ) → a ≤ t → t < a + n →
    (is_none (given t) && is_some (held t)) ≡ true → 1 ≤ missing given held (range_with_len a n)
missing-one given held a zero t l u e = absurd (omega (arith, l, u))
missing-one given held a (suc n) t l u e = elim (cases_eq t a) [
  | inl same ↦ (let c : ◌≡◌ {A = ℕ} (cond (is_none (given a) && is_some (held a)) 1 0) 1 =
      cc in omega (arith, c))
  | inr m ↦ (omega (arith, missing-one given held (a + 1) n t (omega (arith, l, m)) (omega (arith, u)) e))
]

-- a count that has not risen is no higher than before, and below its last value
pub not-risen : (before now : ℕ) → has_risen before now ≡ false → (now ≤ before) × (now < last_count)
not-risen before now h =
    (let p = or_parts (nat_lt before now) (nat_le last_count now) h in (at-most before now p.0, less now p.1))
  where
    at-most : (a b : ℕ) → nat_lt a b ≡ false → b ≤ a
    at-most a b e = grind (arith, e)

    less : (b : ℕ) → nat_le last_count b ≡ false → b < last_count
    less b e = grind (arith, nat_tests, e)

-- what a provider gives is what it holds, if its count has not risen
pub given-held : {A B : Type 0} (given held : A → Option B) (xs : List A) (k : ℕ) (z : A) (before now : ℕ) →
    IsTruthful given held xs before now → has_risen before now ≡ false → k < length xs → get_or xs k z ≡ z →
    ((is_none (given z) && is_some (held z)) ≡ true → 1 ≤ missing given held xs) → given z ≡ held z
given-held given held xs k z before now T calm l at lacks = (let c = not-risen before now calm in
    elim (subst (λ y. (given y ≡ held y) ⊎ (given y ≡ None)) at (T.each k z l)) [
      | inl same ↦ same
      | inr none ↦ by_held (held z) refl none (T.few c.1) c.0
    ])
  where
    by_held : (h : Option _) → held z ≡ h → given z ≡ None → before + missing given held xs ≤ now →
        now ≤ before → given z ≡ held z
    by_held None e none few low = none ∙ sym e
    by_held (Some b) e none few low =
        absurd (let r = lacks (λ i. is_none (none i) && is_some (e i)) in omega arith)

-- ---- a provider that is not bad gave no wrong block

module _ (x : Ran) (file : File) (bytes : List ℕ) where
  abbrev o : Object
  o = object_at_begin x file

  good-block : (m j : ℕ) → HearsStripes x file m → j < (setup_at_begin x).n → is_bad x file bytes j ≡ false →
      (t : ℕ) → t < m → t < stripes o (length bytes) →
      is_wrong_block o bytes j t (block_at (blocks_heard x file.id t) j) ≡ false
  good-block m j H below good t l k = by_held (x.old j).held good (H.truthful j below)
    where
      by_held : (h : Option Held) → is_bad_with o bytes j (x.old j) (x.new j) h ≡ false →
          IfSome h (λ held. IsTruthful (λ s. block_heard x file.id s j)
          (λ s. sized o.profile.size (held file.id s)) (upto m) (x.old j).other_faults
          (x.new j).other_faults) →
          is_wrong_block o bytes j t (block_at (blocks_heard x file.id t) j) ≡ false
      by_held None g T = absurd (false≢true (sym g))
      by_held (Some held) g T = (let p = or_parts (is_wrong o bytes j (held file.id)) _ g in
          let same = given-held (λ s. block_heard x file.id s j) (λ s. sized o.profile.size (held file.id s))
          (upto m) t t (x.old j).other_faults (x.new j).other_faults T p.1 (omega (arith, length-range 0 m, l))
          (let e : 0 + t ≡ t = omega arith in get_or-range 0 m t t l ∙ e)
          (missing-one _ _ 0 m t (omega arith) (omega arith)) in
          cc (
            block_at-map (block_heard x file.id t) (setup_at_begin x).n j below,
            wrong-sized o bytes j t (held file.id t),
            not-wrong-each o bytes j (held file.id) p.0 t k,
          ))

  -- a provider that gave a wrong block is bad
  pub bad-block : (m t : ℕ) → HearsStripes x file m → t < m → t < stripes o (length bytes) → (j : ℕ) →
      j < 0 + (setup_at_begin x).n → is_wrong_block o bytes j t (block_at (blocks_heard x file.id t) j)
      ≡ true → is_bad x file bytes j ≡ true
  bad-block m t H l k j below wrong = elim (cases_Bool (is_bad x file bytes j)) [
    | inl y ↦ y
    | inr n ↦ absurd (false≢true (cc (good-block m j H (omega (arith, below)) n t l k)))
  ]

  module _ (shape : IsShape (setup_at_begin x).n (setup_at_begin x).l (setup_at_begin x).b)
      (size : length bytes ≡ file.size) where
    -- what was heard opens to the file, or holds a forgery
    right-or-forged : (got : List ℕ) → AreBytes bytes → GetGives x file (answer.Got got) →
        (got ≡ bytes) ⊎ ((stripe : ℕ) × (place : ℕ) × IsForgery o bytes (blocks_heard x file.id) stripe place)
    right-or-forged got fits gives = file_or_forged o bytes file.profile refl shape (blocks_heard x file.id)
        got fits (subst (λ n. OpensFile o n (blocks_heard x file.id) got) (sym size) gives.1)

    -- a forgery needs two more wrong providers than may be
    few-right : (got : List ℕ) → AreBytes bytes → GetGives x file (answer.Got got) →
        bad_count x file bytes ≤ (setup_at_begin x).b + 1 → got ≡ bytes
    few-right got fits gives few = elim (right-or-forged got fits gives) [
      | inl same ↦ same
      | inr forged ↦ absurd (let F = forged.2 in
          let within = count_of-within
          _ (is_bad x file bytes) 0 (setup_at_begin x).n
          (λ j l e. bad j l (and_parts (is_agreeing o F.opened forged.1 F.row j)
          (is_wrong o bytes j (λ s. block_at (blocks_heard x file.id s) j)) e).1) in
          omega (arith, F.forged.wrong_ones, few))
    ]
      where
        hears : HearsStripes x file (stripes_at_begin x file)
        hears = gives.0

        bad : (j : ℕ) → j < 0 + (setup_at_begin x).n →
            is_wrong o bytes j (λ s. block_at (blocks_heard x file.id s) j) ≡ true →
            is_bad x file bytes j ≡ true
        bad j l wrong = elim (cases_Bool (is_bad x file bytes j)) [
          | inl y ↦ y
          | inr n ↦ absurd (false≢true (cc (each-not-wrong o bytes j _
              (λ t k. good-block _ j hears (omega arith) n t (rw size at k) k))))
        ]

    -- and as few as may be leave no row lost
    few-kept : (stripe row : ℕ) → GetGives x file (answer.Lost stripe row) →
        bad_count x file bytes ≤ (setup_at_begin x).b → ⊥
    few-kept stripe row L few = (let k = rw (← size) at L.within in
        let within = count_of-within _ _ 0 _ (bad-block (stripe + 1) stripe L.hears
        (omega arith) k) in
        L.loses.lost (row_polynomial o (symbols_in o bytes stripe) L.loses.place) (row-right o bytes
        file.profile stripe L.loses.place (blocks_heard x file.id stripe) L.loses.opened refl shape
        (omega (arith, within, few)) L.loses.opens (omega (arith, profile-room o file.profile refl))))

-- ---- the same of a run

-- the setup of a state just opened makes a shape
pub shape-of : (w new : State) (heard : List Entry) → IsOpenAtRest w 1 →
    IsShape (setup_at_begin (ran_from w new heard)).n (setup_at_begin (ran_from w new heard)).l
    (setup_at_begin (ran_from w new heard)).b
unfolding setup_in
shape-of w new heard O = valid-shape (setup_in w) (setup-valid 8 w (opened-sound w O) O.opened)

-- a get of a file gives it, or holds a forgery
module _ (x : Ran) (name bytes : List ℕ) (file : File)
    (shape : IsShape (setup_at_begin x).n (setup_at_begin x).l (setup_at_begin x).b)
    (in_effect : file_of x.records name ≡ Some file) (fits : AreBytes bytes)
    (size : length bytes ≡ file.size) where
  gives-file : (how : Answer) → GetLeaves x name how → GetGives x file how
  gives-file how L = subst (λ f. GetGives x f how) (cc) L.gives

  -- a get gives the file's bytes where at most b providers are bad
  pub get-complete : (how : Answer) → GetLeaves x name how → bad_count x file bytes ≤ (setup_at_begin x).b →
      how ≡ answer.Got bytes
  get-complete (answer.Got got) L few = cc (few-right x file bytes shape size got fits
      (gives-file (answer.Got got) L) (omega (arith, few)))
  get-complete (answer.Lost stripe row) L few =
      absurd (few-kept x file bytes shape size stripe row (gives-file (answer.Lost stripe row) L) few)
  get-complete how L few = absurd L.gives

  -- a get that gave bytes gave the file's where at most b + 1 providers are bad
  pub get-right : (got : List ℕ) → GetLeaves x name (answer.Got got) →
      bad_count x file bytes ≤ (setup_at_begin x).b + 1 → got ≡ bytes
  get-right got L few = few-right x file bytes shape size got fits (gives-file (answer.Got got) L) few

  -- a get that gave bytes gave the file's, or what it heard holds a forgery
  pub get-forged : (got : List ℕ) → GetLeaves x name (answer.Got got) →
      (got ≡ bytes) ⊎ HoldsForgery (object_at_begin x file) bytes job_number x.heard
  get-forged got L = elim (right-or-forged x file bytes shape size got fits (gives-file (answer.Got got) L)) [
    | inl same ↦ inl same
    | inr forged ↦ inr (record { stripe = forged.0; place = forged.1; forgery = forged.2 })
  ]

-- ---- puts, drops, audits and upgrades

-- a put that ended otherwise than for want of memory stored the file, unless a count of the disk or of a
-- store rose
pub put-end : (x : Ran) (own : Option ℕ) (name bytes : List ℕ) (how : Answer) →
    PutLeaves x own name bytes how → (Rose x.disk_before x.disk_after → ⊥) →
    ((j : ℕ) → j < (setup_at_begin x).n → Rose (x.old j).store_faults (x.new j).store_faults → ⊥) →
    (how ≡ answer.Put) ⊎ (how ≡ answer.Memory)
put-end x own name bytes answer.Put L disk stores = inl refl
put-end x own name bytes answer.Memory L disk stores = inr refl
put-end x own name bytes (answer.ProviderFault j) L disk stores = absurd (stores j L.0 L.1)
put-end x own name bytes answer.DiskFault L disk stores = absurd (disk L.0)
put-end x own name bytes how L disk stores = absurd L

-- a drop with no fault of the disk is done, or found no memory
pub drop-end : (x : Ran) (name : List ℕ) (how : Answer) → DropLeaves x name how →
    (Rose x.disk_before x.disk_after → ⊥) → (how ≡ answer.Dropped) ⊎ (how ≡ answer.Memory)
drop-end x name answer.Dropped L disk = inl refl
drop-end x name answer.Memory L disk = inr refl
drop-end x name answer.DiskFault L disk = absurd (disk L.0)
drop-end x name how L disk = absurd L

-- an audit with no fault of the disk is done, or found no memory
pub audit-end : (x : Ran) (how : Answer) → AuditGives x how → (Rose x.disk_before x.disk_after → ⊥) →
    ((number : ℕ) × (undecided : ℕ) × (counts : List ℕ) × (how ≡ answer.Audited number undecided counts)) ⊎
    (how ≡ answer.Memory)
audit-end x (answer.Audited number undecided counts) L disk = inl (number, undecided, counts, refl)
audit-end x answer.Memory L disk = inr refl
audit-end x answer.DiskFault L disk = absurd (disk L.0)
audit-end x how L disk = absurd L

-- an upgrade with no fault of the disk is done, or found no memory
pub upgrade-end : (x : Ran) (how : Answer) → UpgradeLeaves x how → (Rose x.disk_before x.disk_after → ⊥) →
    (how ≡ answer.Upgraded) ⊎ (how ≡ answer.Memory)
upgrade-end x answer.Upgraded L disk = inl refl
upgrade-end x answer.Memory L disk = inr refl
upgrade-end x answer.DiskFault L disk = absurd (disk L.0)
upgrade-end x how L disk = absurd L
