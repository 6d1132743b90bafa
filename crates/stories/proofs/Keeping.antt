-- Commands that keep a store up touch no name and damage nobody.
use Rattle.stories.proofs.Words.{◌≡◌, ℕ, ◌+◌, List, [], ◌∷◌, ◌++◌, length, refl, ap, sym, ◌∙◌, arith, append_assoc, length-append, Stop, IsBeginOn, AsksDamageOf, Once, RunJob, NoneAsksOn, IsUpkeep, AreSteps}
use Rattle.machine_defs.specs.Damaged.{IsAmong}
use Rattle.machine_defs.specs.Jobs.{AuditJob}
use Rattle.stories.specs.Words.{Event, Begin, Reopen, Instruction}

upkeep-asks : (event : Event) (name : List ℕ) → IsUpkeep event → IsBeginOn name event → ⊥
upkeep-asks (Begin AuditJob) name keeps on = on
upkeep-asks event name keeps on = assumption

upkeep-among : (event : Event) (ps : List ℕ) → IsUpkeep event → IsAmong ps event
upkeep-among (Begin AuditJob) ps keeps = tt
upkeep-among event ps keeps = search (tt, absurd)

-- commands behind others, of which neither ask on a name
pub both-asks : (name : List ℕ) (xs ys : List Instruction) → NoneAsksOn name xs → NoneAsksOn name ys →
    NoneAsksOn name (xs ++ ys)
both-asks name [] ys a b = b
both-asks name (Once event ∷ xs) ys a b = (a.0, both-asks name xs ys a.1 b)
both-asks name (RunJob job ∷ xs) ys a b = both-asks name xs ys a b

-- nor damage others
pub both-names : (ps : List ℕ) (xs ys : List Instruction) → AsksDamageOf ps xs → AsksDamageOf ps ys →
    AsksDamageOf ps (xs ++ ys)
both-names ps [] ys a b = b
both-names ps (Once event ∷ xs) ys a b = (a.0, both-names ps xs ys a.1 b)
both-names ps (RunJob job ∷ xs) ys a b = both-names ps xs ys a b

-- steps of a job do neither
steps-keep : (name ps : List ℕ) (k : ℕ) (cut : List Instruction) → AreSteps k cut →
    NoneAsksOn name cut × AsksDamageOf ps cut
steps-keep name ps k [] steps = (tt, tt)
steps-keep name ps k (command ∷ cut) (is, steps) =
    (let S = steps-keep name ps k cut steps in rw is (((λ on. on), S.0), (tt, S.1)))

-- a job that is stopped after some steps, and the reopening
abbrev pub cut_by : Event → List ℕ → List Instruction → List Instruction
cut_by event picks cut = Once Reopen ∷ Once (Stop picks) ∷ (cut ++ Once event ∷ [])

pub cut-keeps : (event : Event) (picks : List ℕ) (cut : List Instruction) (k : ℕ) (name ps : List ℕ) →
    IsUpkeep event → AreSteps k cut →
    NoneAsksOn name (cut_by event picks cut) × AsksDamageOf ps (cut_by event picks cut)
cut-keeps event picks cut k name ps keeps steps = (let S = steps-keep name ps k cut steps in (
  ((λ on. on), ((λ on. on), both-asks name cut (Once event ∷ []) S.0 (upkeep-asks event name keeps, tt))),
  (tt, (tt, both-names ps cut (Once event ∷ []) S.1 (upkeep-among event ps keeps, tt))),
))

one-more : (xs : List Instruction) (x : Instruction) → length (xs ++ x ∷ []) ≡ length xs + 1
one-more [] x = refl
one-more (y ∷ xs) x = (let e = one-more xs x in omega arith)

pub cut-length : (event : Event) (picks : List ℕ) (cut : List Instruction) →
    length (cut_by event picks cut) ≡ 3 + length cut
cut-length event picks cut = (let e = one-more cut (Once event) in omega arith)

-- ---- commands and outcomes in front of others

-- two jobs between three lists, in front of a fourth
pub three-apart : {A : Type 0} → (a b c d : List A) (x y z w : A) → a ++ x ∷ y ∷ (b ++ z ∷ w ∷ (c ++ d))
    ≡ (a ++ x ∷ y ∷ (b ++ z ∷ w ∷ c)) ++ d
three-apart a b c d x y z w = sym (append_assoc a (x ∷ y ∷ (b ++ z ∷ w ∷ c)) d
    ∙ ap (λ l. a ++ x ∷ y ∷ l) (append_assoc b (z ∷ w ∷ c) d))

-- as many as their parts are
pub as-many : {A B : Type 0} → (a b c : List A) (x y z w : A) (k l m : List B) (q r s t : B) →
    length a ≡ length k → length b ≡ length l → length c ≡ length m →
    length (a ++ x ∷ y ∷ (b ++ z ∷ w ∷ c)) ≡ length (k ++ q ∷ r ∷ (l ++ s ∷ t ∷ m))
as-many a b c x y z w k l m q r s t h i j = (let e = length-append a (x ∷ y ∷ (b ++ z ∷ w ∷ c)) in
    let f = length-append b (z ∷ w ∷ c) in
    let g = length-append k (q ∷ r ∷ (l ++ s ∷ t ∷ m)) in
    let o = length-append l (s ∷ t ∷ m) in omega arith)

-- a job that is stopped, in front of others
pub cut-apart : (event : Event) (picks : List ℕ) (cut middle put : List Instruction) →
    Once Reopen ∷ Once (Stop picks) ∷ (cut ++ Once event ∷ (middle ++ put))
    ≡ (cut_by event picks cut ++ middle) ++ put
cut-apart event picks cut middle put = ap (λ l. Once Reopen ∷ Once (Stop picks) ∷ l)
    (sym (append_assoc (cut ++ Once event ∷ []) middle put ∙ append_assoc cut (Once event ∷ []) (middle ++ put)))

pub both-many : {A B : Type 0} → (a b : List A) (k l : List B) → length a ≡ length k → length b ≡ length l →
    length (a ++ b) ≡ length (k ++ l)
both-many a b k l h i = (let e = length-append a b in let f = length-append k l in omega arith)
