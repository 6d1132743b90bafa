-- A disk that is as it was, or that was synced once more.
use Rattle.std.proofs.Common.{◌≡◌, inl, inr, ℕ, List, Option, Some, None, refl, sym, subst}
use Rattle.std.specs.Option.{option_map}
use Rattle.device_defs.specs.Cells.{Cells, reads}
use Rattle.device_defs.specs.Disks.{synced}
use Rattle.device_defs.specs.Images.{IsImage}
use Rattle.device_defs.specs.Told.{Goes}
use Rattle.device_defs.proofs.PickLaws.{IsImage-reads}
use Rattle.device_defs.proofs.Lasting.{image-firm}
use Rattle.opening_defs.specs.Journals.{IsResynced}

-- an image after a sync is one from before it
pub image-resynced : (old new : Cells) → IsResynced old new → (image : List ℕ) → IsImage new image →
    IsImage old image
image-resynced old new (inl same) image is = subst (λ (c : Cells). IsImage c image) same is
image-resynced old new (inr synced_is) image is =
    let same = image-firm (reads old) image (subst (λ (c : Cells). IsImage c image) synced_is is) in
    subst (λ (l : List ℕ). IsImage old l) (sym same) (IsImage-reads old)

-- a disk that was left as it was
pub resynced-same : (told : Option Cells) → Goes IsResynced told told
resynced-same None = tt
resynced-same (Some cells) = inl refl

-- the same of two of the same content
pub resynced-equal : (old new : Option Cells) → new ≡ old → Goes IsResynced old new
resynced-equal old new is =
    subst (λ (told : Option Cells). Goes IsResynced old told) (sym is) (resynced-same old)

-- a disk that was synced
pub resynced : (old new : Option Cells) → new ≡ option_map synced old → Goes IsResynced old new
resynced None new is = subst (λ (told : Option Cells). Goes IsResynced None told) (sym is) tt
resynced (Some cells) new is =
    subst (λ (told : Option Cells). Goes IsResynced (Some cells) told) (sym is) (inr refl)
