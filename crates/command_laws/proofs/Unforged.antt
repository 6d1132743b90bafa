-- With few providers that are wrong or failed what a get heard holds no forgery, however it ended.
use Rattle.command_laws.proofs.Words.{◌≡◌, ℕ, zero, suc, ◌+◌, ◌<◌, ◌≤◌, ◌==◌, Bool, true, false, List, [], ◌∷◌, ◌++◌, map, None, Some, refl, ap, sym, ◌∙◌, inl, inr, arith, range_with_len, flat_map, cases_Bool, cases_lt, ne_eqb, and_parts, false≢true, Each, IsShape, upto, Object, point, is_wrong_block, is_wrong, SeenBlock, symbol_in, block_at, Record, Area, File, file_of, GetJob, Given, Fetched, Answer, Entry, given_to, HoldsForgery, Seen, Ending, setup_in_effect, object_in_effect, Ran, ran_alone, setup_at_begin, job_number, object_at_begin, stripes_at_begin, block_heard, HearsStripes, GetGives, GetLeaves, AnswersJob, AnswersAlone, is_bad, bad_count, bad_seen, IsKnown, each_append, each_map, count_of-within, opens-at, cond_true, cond_false, same_value, block_at-map, bad-block}
use Rattle.std.proofs.Common.{◌&&◌}
use Rattle.code_defs.specs.Polynomials.{value, is_seen}
use Rattle.column_defs.specs.Forgeries.{is_agreeing, IsForgery}
use Rattle.machine_defs.specs.Given.{block_given, blocks_given}
use Rattle.algebra_laws.specs.Poly.{is_seen as is_seen_over}
use Rattle.column_laws.proofs.OtherRows.{forgery-of_other}
use Rattle.machine_defs.specs.Answers as answer
use Rattle.command_laws.proofs.Known.{alone-known}
use Rattle.command_laws.proofs.GetEnds.{shape-at, ran_left}

-- ---- what was heard of one stripe is not heard of another

-- this was no fetch of the stripe
abbrev IsElse : ℕ → Given → Type 0
IsElse t (Fetched k o s block) = (s == t) ≡ false
IsElse t other = Unit {0}

and-off : (a b c : Bool) → c ≡ false → (a && b && c) ≡ false
and-off true true c h = h
and-off a b c h = refl

none-given : (t object j : ℕ) (gs : List Given) → Each (IsElse t) gs → block_given gs object t j ≡ None
none-given t object j [] h = refl
none-given t object j (Fetched k o s block ∷ more) h =
    cond_false ((k == j) && (o == object) && (s == t)) block (block_given more object t j)
    (and-off (k == j) (o == object) (s == t) h.0) ∙ none-given t object j more h.1
none-given t object j (_ ∷ more) h = none-given t object j more h.1

given-else : (t : ℕ) (es : List Entry) → Each (λ (e : Entry). IsElse t e.given) es →
    Each (IsElse t) (given_to job_number es)
given-else t [] h = tt
given-else t (e ∷ es) h = elim (cases_Bool (e.job == job_number)) [
  | inl y ↦ (rw (← (cond_true (e.job == job_number) (given_to job_number es ++ e.given ∷ [])
      (given_to job_number es) y)) at (each_append (IsElse t) (given_to job_number es) (e.given ∷ [])
      (given-else t es h.1) (h.0, tt)))
  | inr n ↦ (rw (← (cond_false (e.job == job_number) (given_to job_number es ++ e.given ∷ [])
      (given_to job_number es) n)) at (given-else t es h.1))
]

-- so it is of each stripe past those that were fetched
entries-else : (x : Ran) (object t a n : ℕ) → a + n ≤ t → Each (λ (e : Entry). IsElse t e.given)
    (flat_map (λ stripe. map
    (λ j. record { job = job_number; given = Fetched j object stripe (block_heard x object stripe j) })
    (upto (setup_at_begin x).n)) (range_with_len a n))
entries-else x object t a zero l = tt
entries-else x object t a (suc n) l = each_append (λ e. IsElse t e.given)
    (map (λ j. record { job = job_number; given = Fetched j object a (block_heard x object a j) })
    (upto (setup_at_begin x).n)) _ (each_map (λ e. IsElse t e.given)
    (λ j. record { job = job_number; given = Fetched j object a (block_heard x object a j) })
    (upto (setup_at_begin x).n) (λ j. ne_eqb a t (λ e. omega (arith, l, e))))
    (entries-else x object t (a + 1) n (omega (arith, l)))

-- ---- a stripe that holds a forgery

-- no symbol is seen where none was opened
none-agrees : (o : Object) (opened : List SeenBlock) (place : ℕ) (p : List ℕ) (j : ℕ) →
    block_at opened j ≡ None → is_agreeing o opened place p j ≡ false
unfolding is_seen_over
none-agrees o opened place p j none = ap (λ b. is_seen (value p (point o j)) (symbol_in place b)) none

module _ (x : Ran) (file : File) (bytes : List ℕ)
    (shape : IsShape (setup_at_begin x).n (setup_at_begin x).l (setup_at_begin x).b)
    (few : bad_count x file bytes ≤ (setup_at_begin x).b + 1) where
  abbrev o : Object
  o = object_at_begin x file

  -- one of which nothing was heard
  unheard : (entries : List Entry) (stripe place : ℕ) →
      ((j : ℕ) → block_given (given_to job_number entries) file.id stripe j ≡ None) →
      IsForgery o bytes (blocks_given (given_to job_number entries) o.shape.n o.id) stripe place → ⊥
  unheard entries stripe place none F =
      (let seen = blocks_given (given_to job_number entries) o.shape.n o.id in
      omega (
        arith,
        F.forged.wrong_ones,
        count_of-within
            (λ j. is_agreeing o F.opened place F.row j && is_wrong o bytes j (λ s. block_at (seen s) j))
            (is_bad x file bytes) 0 o.shape.n
            (λ j l e. absurd (false≢true (sym (none-agrees o F.opened place F.row j (closed j (omega (arith, l))))
            ∙ (and_parts (is_agreeing o F.opened place F.row j)
            (is_wrong o bytes j (λ s. block_at (seen s) j)) e).0))),
        few,
      ))
    where
      closed : (j : ℕ) → j < o.shape.n → block_at F.opened j ≡ None
      closed j l = rw (block_at-map (block_given (given_to job_number entries) o.id stripe) o.shape.n j l ∙
          none j) at (opens-at o stripe 0 j (blocks_given (given_to job_number entries) o.shape.n o.id stripe)
          F.opened
          F.opens)

  -- one that was heard
  heard-right : (m stripe place : ℕ) → HearsStripes x file m → stripe < m →
      IsForgery o bytes (blocks_given (given_to job_number x.heard) o.shape.n o.id) stripe place → ⊥
  heard-right m stripe place H below F =
      (let seen = blocks_given (given_to job_number x.heard) o.shape.n o.id in
      let S = forgery-of_other o bytes file.profile seen stripe place F.opened F.row refl shape F.row_in
      F.opens F.forged.accepted F.forged.other in
      omega (
        arith,
        S.forged.wrong_ones,
        count_of-within (λ j. is_agreeing o S.opened place S.row j && is_wrong_block o bytes j stripe
            (block_at (seen stripe) j)) (is_bad x file bytes) 0 o.shape.n
            (λ j l e. bad-block x file bytes m stripe H below F.row_in.stripe_in j l
            (and_parts (is_agreeing o S.opened place S.row j)
            (is_wrong_block o bytes j stripe (block_at (seen stripe) j)) e).1),
        few,
      ))

  stripes-right : (m : ℕ) → HearsStripes x file m → HoldsForgery o bytes job_number x.heard → ⊥
  stripes-right m H F = elim (cases_lt F.stripe m) [
    | inl l ↦ heard-right m F.stripe F.place H l F.forgery
    | inr l ↦ unheard x.heard F.stripe F.place (λ j. none-given F.stripe file.id j
        (given_to job_number x.heard) (given-else F.stripe x.heard
        (rw (← H.heard) at (entries-else x file.id F.stripe 0 m (omega (arith, l)))))) F.forgery
  ]

  nothing-right : (entries : List Entry) → entries ≡ [] → HoldsForgery o bytes job_number entries → ⊥
  nothing-right entries is F = unheard entries F.stripe F.place
      (λ j. ap (λ es. block_given (given_to job_number es) file.id F.stripe j) is) F.forgery

-- ---- a get

module _ (name bytes : List ℕ) (records : List Record) (file : File) (old new : Seen) (end : Ending)
    (K : IsKnown old records) (in_effect : file_of records name ≡ Some file)
    (few : bad_seen records old new file bytes ≤ (setup_in_effect records).b + 1) where
  shape : IsShape (setup_in_effect records).n (setup_in_effect records).l (setup_in_effect records).b
  shape = shape-at old records K.opened

  abbrev Forged : Type 0
  Forged = HoldsForgery (object_in_effect records file) bytes job_number end.heard

  silent : end.heard ≡ [] → Forged → ⊥
  silent none F = nothing-right (ran_alone records old new end.heard 0 records None) file bytes shape few
      end.heard none F

  by-answer : (x : Ran) (how : Answer) → (how_few : bad_count x file bytes ≤ (setup_at_begin x).b + 1) →
      IsShape (setup_at_begin x).n (setup_at_begin x).l (setup_at_begin x).b →
      file_of x.records name ≡ Some file →
      GetLeaves x name how → HoldsForgery (object_at_begin x file) bytes job_number x.heard → ⊥
  by-answer x how how_few fits is L F = by_gives how
      (rw (same_value (file_of x.records name) L.file file L.in_effect is) at L.gives)
    where
      by_gives : (how : Answer) → GetGives x file how → ⊥
      by_gives (answer.Got got) G = stripes-right x file bytes fits how_few (stripes_at_begin x file) G.0 F
      by_gives (answer.Lost stripe row) G = stripes-right x file bytes fits how_few (stripe + 1) G.hears F
      by_gives how G = G

  job-unforged : {area : Area} → AnswersJob (GetJob name) None area records old new end → Forged → ⊥
  job-unforged (AnswersJob.refused why is synced r) F = silent r.heard F
  job-unforged (AnswersJob.no_memory synced r) F = silent r.heard F
  job-unforged (AnswersJob.ended how none runs left by) F =
      by-answer (ran_left records (GetJob name) how old new end.heard left) how few shape in_effect
      left.leaves.by_kind F

  -- what a get heard holds no forgery, where at most b + 1 providers are bad
  pub seen-unforged : AnswersAlone (GetJob name) old new end → Forged → ⊥
  seen-unforged A F = elim (alone-known (GetJob name) old new end records K A) [
    | inl (inl (rose, r)) ↦ silent r.heard F
    | inl (inr r) ↦ silent r.heard F
    | inr job ↦ job-unforged job F
  ]
