-- What a disk that tells its cells says of their images, what a provider or a disk goes on telling, and
-- counts of faults that rose.
use Rattle.std.proofs.Common.{◌≡◌, ℕ, ◌≤◌, List, [], ◌∷◌, Option, None, Some, refl, ap, sym, inl, inr, arith}
use Rattle.std.proofs.lemmas.Bool.{cases_lt}
use Rattle.std.specs.Prelude.{is_some}
use Rattle.std.proofs.lemmas.List.{append-nil}
use Rattle.device_defs.specs.Faults.{Rose, last_count}
use Rattle.device_defs.specs.Cells.{Cells, reads, firm}
use Rattle.device_defs.specs.Told.{Goes, told_then}
use Rattle.device_defs.specs.Images.{IsImage, EachImage}

-- a count that rose later rose from before
pub rose-before : (a b c : ℕ) → a ≤ b → b ≤ c → Rose b c → Rose a c
rose-before a b c l m rose below = elim (cases_lt b last_count) [
  | inl less ↦ (let r = rose less in omega (arith, l, r))
  | inr more ↦ omega (arith, m, more, below)
]

-- a disk that went on as before goes on telling
pub is_some-goes : {A : Type 0} (step : A → A → Type 0) (old new : Option A) → Goes step old new →
    is_some new ≡ is_some old
is_some-goes step None None g = refl
is_some-goes step (Some old) (Some new) g = refl
is_some-goes step None (Some new) g = absurd g
is_some-goes step (Some old) None g = absurd g

-- nothing more is told
pub told_then-nothing : (told : Option (List ℕ)) → told ≡ told_then told []
told_then-nothing None = refl
told_then-nothing (Some bs) = ap (λ (l : List ℕ). Some l) (sym (append-nil bs))

-- firm bytes are read as they are
pub reads-firm : (bytes : List ℕ) → reads (firm bytes) ≡ bytes
reads-firm [] = refl
reads-firm (b ∷ bytes) = ap (λ l. b ∷ l) (reads-firm bytes)

-- where no byte is loose there is one image
pub image-firm : (bytes image : List ℕ) → IsImage (firm bytes) image → image ≡ bytes
image-firm [] [] is = refl
image-firm [] (b ∷ image) is = absurd is
image-firm (b ∷ bytes) [] is = absurd is
image-firm (b ∷ bytes) (i ∷ image) is = (λ k. is.0 refl k ∷ image-firm bytes image is.1 k)

-- a weaker fact of each image
pub each_image-mono : (told : Option Cells) (P Q : List ℕ → Type 0) → ((image : List ℕ) → P image → Q image) →
    EachImage told P → EachImage told Q
each_image-mono None P Q step all = tt
each_image-mono (Some cells) P Q step all = λ image of. step image (all image of)
