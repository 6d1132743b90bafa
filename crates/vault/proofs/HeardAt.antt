-- What a job heard, place by place.
use Rattle.vault.proofs.Words.{◌≡◌, ℕ, zero, suc, ◌+◌, ◌*◌, ◌/◌, ◌%◌, ◌<◌, min, List, [], ◌∷◌, ◌++◌, Option, Some, None, refl, sym, ap, ◌∙◌, arith, mod-eq_of_lt, slice_get, option_map, mul-add-mod_self_right, Fetched, Answered, fetched_entry, fetched_entries, answered_entries}
use Rattle.std.proofs.Common.{length}
use Rattle.std.proofs.lemmas.Nat.{div-mul-add}
use Rattle.machine_defs.specs.Heard.{Entry}
use Rattle.vault.specs.declared.heard.Ask.{Ask}

-- ---- how many

-- there are as many entries as fetches
pub length-fetched_entries : (job object n place : ℕ) (blocks : List (Option (List ℕ))) →
    length (fetched_entries job object n place blocks) ≡ length blocks
length-fetched_entries job object n place [] = refl
length-fetched_entries job object n place (block ∷ blocks) =
    let e = length-fetched_entries job object n (place + 1) blocks in omega (arith, e)

-- there are as many entries as asks with an answer
pub length-answered_entries : (job : ℕ) (asks : List Ask) (symbols : List (Option ℕ)) →
    length (answered_entries job asks symbols) ≡ min (length asks) (length symbols)
length-answered_entries job (a ∷ asks) (symbol ∷ symbols) =
    omega (arith, length-answered_entries job asks symbols)
length-answered_entries job _ _ = omega arith

-- ---- the entry at a place

abbrev pub answered_at : ℕ → Option Ask → Option (Option ℕ) → Option Entry
answered_at job (Some a) (Some symbol) =
    Some (record { job = job; given = Answered a.provider a.object a.round symbol })
answered_at job a symbol = None

-- an ask with no answer has no entry
pub answered_at-none : (job : ℕ) (a : Option Ask) → answered_at job a None ≡ None
answered_at-none job None = refl
answered_at-none job (Some a) = refl

-- the entry of a place is that of the fetch and the block of this place
pub slice_get-fetched_entries : (job object n place : ℕ) (blocks : List (Option (List ℕ))) (k : ℕ) →
    slice_get (fetched_entries job object n place blocks) k
    ≡ option_map (fetched_entry job object n (place + k)) (slice_get blocks k)
slice_get-fetched_entries job object n place [] k = refl
slice_get-fetched_entries job object n place (block ∷ blocks) zero =
    ap (λ (m : ℕ). Some (fetched_entry job object n m block)) (let e : place ≡ place + 0 = omega arith in e)
slice_get-fetched_entries job object n place (block ∷ blocks) (suc k) =
    slice_get-fetched_entries job object n (place + 1) blocks k
    ∙ ap (λ (m : ℕ). option_map (fetched_entry job object n m) (slice_get blocks k))
    (let e : place + 1 + k ≡ place + suc k = omega arith in e)

-- the entry of a place is that of the ask and the answer of this place
pub slice_get-answered_entries : (job : ℕ) (asks : List Ask) (symbols : List (Option ℕ)) (k : ℕ) →
    slice_get (answered_entries job asks symbols) k ≡ answered_at job (slice_get asks k) (slice_get symbols k)
slice_get-answered_entries job [] symbols k = refl
slice_get-answered_entries job (a ∷ asks) [] k = sym (answered_at-none job (slice_get (a ∷ asks) k))
slice_get-answered_entries job (a ∷ asks) (symbol ∷ symbols) zero = refl
slice_get-answered_entries job (a ∷ asks) (symbol ∷ symbols) (suc k) =
    slice_get-answered_entries job asks symbols k

-- ---- one fetch more

-- the entry of one fetch more stands behind the others
pub entries_more : (job object n place : ℕ) (blocks : List (Option (List ℕ))) (block : Option (List ℕ)) →
    fetched_entries job object n place (blocks ++ block ∷ [])
    ≡ fetched_entries job object n place blocks
    ++ fetched_entry job object n (place + length blocks) block ∷ []
entries_more job object n place [] block = ap (λ m. fetched_entry job object n m block ∷ []) (omega arith)
entries_more job object n place (b ∷ blocks) block =
    ap (λ l. fetched_entry job object n place b ∷ l) (entries_more job object n (place + 1) blocks block
    ∙ ap (λ m. fetched_entries job object n (place + 1) blocks
    ++ fetched_entry job object n m block ∷ [])
    (omega arith))

-- behind some stripes and k fetches the next fetch is of this stripe, from provider k
pub entry_next : (job object n stripes k place : ℕ) (block : Option (List ℕ)) →
    place ≡ stripes * n + k → k < n
    → fetched_entry job object n place block ≡ record { job = job; given = Fetched k object stripes block }
entry_next job object n stripes k place block is less =
    let provider : place % n ≡ k = ap (λ (m : ℕ). m % n) is ∙ mul-add-mod_self_right stripes n k
    ∙ mod-eq_of_lt less in
    let stripe : place / n ≡ stripes = ap (λ (m : ℕ). m / n) is ∙ div-mul-add stripes n k less in
    λ i. record { job = job; given = Fetched (provider i) object (stripe i) block }
