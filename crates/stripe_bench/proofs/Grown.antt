-- One block more behind others.
use Rattle.std.proofs.Common.{◌≡◌, ℕ, ◌+◌, ◌-◌, ◌≤◌, Bool, List, ◌++◌, subst, length, take, drop, replicate, refl, sym, ap, ◌∙◌, arith, length-append, length-drop}
use Rattle.std.proofs.lemmas.List.{take_at, take_all, length-replicate, take-append-drop}
use Rattle.device_defs.specs.Providers.{Provider}
use Rattle.device_defs.specs.ProviderCalls.{Fetches}
use Rattle.stripe_bench.specs.Blocks.{given_of}

-- zeros behind a list were written over from its end on
pub written_behind : (old all new : List ℕ) (size : ℕ) → all ≡ old ++ replicate size 0 →
    length new ≡ length all → take (length old) new ≡ take (length old) all →
    new ≡ old ++ drop (length old) new
written_behind old all new size all_is same front = sym (take-append-drop (length old) new)
    ∙ ap (λ (l : List ℕ). l ++ drop (length old) new)
    (front ∙ ap (take (length old)) all_is ∙ take_at old (replicate size 0) (length old) refl)

-- what a block adds has the size of the room that was made for it
pub length-written : (old all new : List ℕ) (size : ℕ) → all ≡ old ++ replicate size 0 →
    length new ≡ length all → length (drop (length old) new) ≡ size
length-written old all new size all_is same =
    let long : length all ≡ length old + size = ap length all_is ∙ length-append old (replicate size 0)
    ∙ ap (λ (k : ℕ). length old + k) (length-replicate size 0) in
    omega (arith, length-drop (length old) new, same, long)

-- and the zeros alone are as long as that
length-zeros : (old all : List ℕ) (size : ℕ) → all ≡ old ++ replicate size 0 →
    length (drop (length old) all) ≡ size
length-zeros old all size all_is = length-written old all all size all_is refl

-- a fetch into that place gave a block of the size
pub fetched_there : (object stripe size start : ℕ) (old all new : List ℕ) (found : Bool) (p q : Provider) →
    start ≡ length old → all ≡ old ++ replicate size 0
    → Fetches (length (drop start all)) object stripe p (given_of found (drop start new)) q →
    Fetches size object stripe p (given_of found (drop (length old) new)) q
fetched_there object stripe size start old all new found p q start_is all_is fetched =
    subst (λ (k : ℕ). Fetches k object stripe p (given_of found (drop (length old) new)) q)
    (length-zeros old all size all_is)
    (subst (λ (k : ℕ). Fetches (length (drop k all)) object stripe p (given_of found (drop k new)) q) start_is
    fetched)

-- the last items of a slice that begins so many before its end
pub last_part : {X : Type 0} (xs ys : List X) (len k n : ℕ) → xs ≡ ys → len ≡ length ys → k ≡ n
    → take (length xs - (len - k)) (drop (len - k) xs) ≡ drop (length ys - n) ys
last_part xs ys len k n same len_is k_is =
    take_all (length xs - (len - k)) (drop (len - k) xs) (omega (arith, length-drop (len - k) xs))
    ∙ (λ i. drop (len_is i - k_is i) (same i))

-- they are as many
pub length-last : {X : Type 0} (xs : List X) (n : ℕ) → n ≤ length xs → length (drop (length xs - n) xs) ≡ n
length-last xs n enough = omega (arith, length-drop (length xs - n) xs, enough)
