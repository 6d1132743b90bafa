-- First parts of lists, and actions that were made one after the other.
use Rattle.std.proofs.Common.{◌≡◌, ℕ, zero, suc, ◌+◌, List, [], ◌∷◌, ◌++◌, length, take, Some, None, refl, ap, subst, ◌∙◌, arith}
use Rattle.std.specs.Prelude.{slice_get}
use Rattle.device_defs.specs.Providers.{Provider}
use Rattle.machine_defs.specs.Jobs.{Given}
use Rattle.machine_defs.specs.Actions.{Action}
use Rattle.lone_laws.specs.Made.{With, Did, Made}

-- the first p + 1 elements are the first p and the one that stands there
pub take-more : {X : Type 0} (xs : List X) (p : ℕ) (x : X) → slice_get xs p ≡ Some x →
    take (p + 1) xs ≡ take p xs ++ x ∷ []
take-more [] p x h = absurd (let e : None ≡ Some x = h in cc)
take-more (y ∷ ys) zero x h = (let e : Some y ≡ Some x = h in let f : y ≡ x = cc in ap (λ z. z ∷ []) f)
take-more (y ∷ ys) (suc p) x h = ap (λ n. take n (y ∷ ys))
    (let e : suc p + 1 ≡ suc (p + 1) = omega arith in e) ∙ ap (λ zs. y ∷ zs) (take-more ys p x h)

-- the first elements of two lists, past the first list, are that list and the first of the second
pub take-append-add : {X : Type 0} (xs ys : List X) (n : ℕ) →
    take (length xs + n) (xs ++ ys) ≡ xs ++ take n ys
take-append-add [] ys n = ap (λ k. take k ys) (let e : 0 + n ≡ n = omega arith in e)
take-append-add (x ∷ xs) ys n = ap (λ k. take k (x ∷ (xs ++ ys)))
    (let e : suc (length xs) + n ≡ suc (length xs + n) = omega arith in e)
    ∙ ap (λ zs. x ∷ zs) (take-append-add xs ys n)

-- actions after others
pub made-append : (x : With) (xs ys : List Action) (old mid new : ℕ → Provider)
    (given so_far now : List Given) → Made x xs old mid given so_far → Made x ys mid new so_far now →
    Made x (xs ++ ys) old new given now
made-append x [] ys old mid new given so_far now (p, g) b =
    subst (λ q. Made x ys q new given now) p (subst (λ h. Made x ys mid new h now) g b)
made-append x (a ∷ xs) ys old mid new given so_far now (m, h, did, rest) b =
    (m, h, did, made-append x xs ys m mid new h so_far now rest b)

-- and the other way: actions that were made are made in parts
pub made-split : (x : With) (xs ys : List Action) (old new : ℕ → Provider) (given now : List Given) →
    Made x (xs ++ ys) old new given now →
    (mid : ℕ → Provider) × (so_far : List Given) × Made x xs old mid given so_far ×
    Made x ys mid new so_far now
made-split x [] ys old new given now m = (old, given, (refl, refl), m)
made-split x (a ∷ xs) ys old new given now (m, h, did, rest) =
    (let r = made-split x xs ys m new h now rest in (r.0, r.1, (m, h, did, r.2), r.3))

-- an action that was made is a list of one that was made
pub made-one : (x : With) (action : Action) (old new : ℕ → Provider) (given now : List Given) →
    Did x action old new given now → Made x (action ∷ []) old new given now
made-one x action old new given now did = (new, now, did, (refl, refl))
