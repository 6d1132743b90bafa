-- What the events of moments tell, as tests of them.
use Rattle.std.proofs.Common.{◌≡◌, ℕ, ◌==◌, ◌&&◌, Bool, true, false, not, List, [], ◌∷◌, ◌++◌, refl, ap, sym, ◌∙◌, inl, arith}
use Rattle.std.proofs.lemmas.Bool.{and_parts, false≢true}
use Rattle.algebra_laws.specs.Lists.{In}
use Rattle.machine_defs.specs.Began.{NoneBegan}
use Rattle.damage_run.specs.Words.{Kind, Event, Begin, BeginScrub, Begun, Outcome, Moment, relies, Relies, NoneBeganFor, NoneUnderWay, BeginsNoScrub, unbegun}

-- each moment passes a test of it and of those before it
abbrev pub all_pass : (Moment → List Moment → Bool) → List Moment → Bool
all_pass test [] = true
all_pass test (m ∷ ms) = test m ms && all_pass test ms

-- what the test says of one more moment holds of moments that pass it
pub each : (test : Moment → List Moment → Bool) (P : List Moment → Type 0) → P [] →
    ((m : Moment) (ms : List Moment) → test m ms ≡ true → P ms → P (m ∷ ms)) → (ms : List Moment) →
    all_pass test ms ≡ true → P ms
each test P none more [] h = none
each test P none more (m ∷ ms) h =
    (let p = and_parts (test m ms) (all_pass test ms) h in more m ms p.0 (each test P none more ms p.1))

-- no scrub begins
abbrev pub is_other : Event → Bool
is_other BeginScrub = false
is_other e = true

pub no_scrub : (ms : List Moment) → all_pass (λ m older. is_other m.event) ms ≡ true → BeginsNoScrub ms
no_scrub = each (λ m older. is_other m.event) BeginsNoScrub tt
    (λ m ms t rest. (λ e. false≢true (ap is_other (sym e) ∙ t), rest))

-- a provider is among those of whom it is the only one
pub mine : (j : ℕ) → In j (j ∷ [])
mine j = inl refl

-- no get and no repair begins
abbrev pub reads : Event → Bool
reads (Begin kind) = relies kind
reads e = false

pub none_reads : (ms : List Moment) → all_pass (λ m older. not (reads m.event)) ms ≡ true →
    NoneBeganFor Relies ms
none_reads = each (λ m older. not (reads m.event)) (NoneBeganFor Relies) tt
    (λ m ms t rest. (λ on n is. grind arith, rest))

-- behind moments of which none began one
pub unbegun_all : (Meant : Kind → Type 0) (xs ms : List Moment) → NoneBeganFor Meant xs →
    NoneUnderWay Meant ms → NoneUnderWay Meant (xs ++ ms)
unbegun_all Meant [] ms none free = free
unbegun_all Meant (x ∷ xs) ms none free = unbegun x (xs ++ ms) none.0 (unbegun_all Meant xs ms none.1 free)

-- no job begins with the number
abbrev pub is_apart : ℕ → Outcome → Bool
is_apart number (Begun job) = not (job == number)
is_apart number r = true

pub no_begun : (number : ℕ) (ms : List Moment) → all_pass (λ m older. is_apart number m.outcome) ms ≡ true →
    NoneBegan number ms
no_begun number = each (λ m older. is_apart number m.outcome) (NoneBegan number) tt
    (λ m ms t rest. (λ e. grind arith, rest))
