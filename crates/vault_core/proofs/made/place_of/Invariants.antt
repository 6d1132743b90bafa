use Rattle.vault_core.proofs.Words.{◌≡◌, ◌++◌, take, core_pins, pin_by}
use Rattle.std.proofs.Common.{drop}
use Rattle.vault_core.specs.declared.pinned.Pinned.{Pinned}
use Rattle.vault_core.proofs.made.place_of.Given as goal

abbrev pub invariant-loop-place : goal.invariant-loop-place
invariant-loop-place l = (file : Pinned) → file.id ≡ l.id →
    pin_by core_pins file l.pinned ≡ take l.place l.pinned ++ pin_by core_pins file (drop l.place l.pinned)
