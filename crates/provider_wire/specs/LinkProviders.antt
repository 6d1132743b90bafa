-- A provider over a link: the link, whether it is out of step, and the counts that are kept here.
use Rattle.std.specs.Prelude.{◌≡◌, ℕ, ◌<◌, Bool, true}
use Rattle.device_defs.specs.Faults.{one_more}
use Rattle.provider_wire.specs.declared.link.Link.{Ghosts}
use Rattle.provider_wire.specs.declared.link_provider.LinkProvider.{LinkProvider}

-- the link
abbrev pub link_of : {X : Type 0} {g : Ghosts X} → LinkProvider X g → X
link_of p = p.link

-- whether it is out of step
abbrev pub broken_of : {X : Type 0} {g : Ghosts X} → LinkProvider X g → Bool
broken_of p = p.broken

-- how often a store was answered as failed
abbrev pub link_store_faults : {X : Type 0} {g : Ghosts X} → LinkProvider X g → ℕ
link_store_faults p = p.store_faults

-- how often another call was
abbrev pub link_other_faults : {X : Type 0} {g : Ghosts X} → LinkProvider X g → ℕ
link_other_faults p = p.other_faults

-- how often it was fetched from
abbrev pub link_fetches : {X : Type 0} {g : Ghosts X} → LinkProvider X g → ℕ
link_fetches p = p.fetches

-- how often it was called
abbrev pub link_calls : {X : Type 0} {g : Ghosts X} → LinkProvider X g → ℕ
link_calls p = p.calls

-- How a call leaves a provider over a link, whatever the link: out of step it fails, and stays so; and the
-- count of that kind of call is raised exactly where it failed.
pub record CountsFaults (was broken : Bool) (failed : Type 0) (before now : ℕ) : Type 0 where
  pub stays : was ≡ true → broken ≡ true
  pub fails : broken ≡ true → failed
  pub raised : failed → now ≡ one_more before
  pub same : (failed → ⊥) → now ≡ before

-- A call in which the link's count rose, since a call of the link failed: it is answered as failed, and the
-- link is out of step then.
abbrev pub TellsLinkFault : ℕ → ℕ → Bool → Type 0 → Type 0
TellsLinkFault before now broken failed = before < now → failed × (broken ≡ true)
