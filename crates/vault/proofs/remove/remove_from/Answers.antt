use Rattle.vault.proofs.Words.{◌≡◌, ℕ, Result, Ok, Err, refl, inl, inr, IsErr, OnOk, OnErr, option_map, HasCause, Removes, Provider, LosesPart, without_object, Goes}
use Rattle.vault.proofs.remove.remove_from.Goals as goal

-- a removal was done, or it failed
removes : {F : Type 0} (object : ℕ) (r : Result Unit F) (old new : Provider)
    → OnOk r (new.held ≡ option_map (without_object object) old.held)
    → OnErr r (Goes (LosesPart object) old.held new.held)
    → HasCause old.other_faults new.other_faults (IsErr r) → new.store_faults ≡ old.store_faults
    → new.fetches ≡ old.fetches → Removes object old new
removes object (Ok done) old new whole part cause stores fetches = inl (record {
  held = whole;
  counts = record { store_faults = stores; other_faults = cause.never_falls; fetches = fetches };
})
removes object (Err f) old new whole part cause stores fetches = inr (record {
  held = part;
  counts = record { store_faults = stores; other_faults = cause.never_falls; fetches = fetches };
  cause = cause.rose refl;
})

pub returns-clause-removed : goal.returns-clause-removed
returns-clause-removed g c =
    let e = c.remove.ensures in
    removes c.args.object c.remove.result _ _ e.ok e.err e.cause e.no_store_fault e.no_fetch

pub returns-clause-called : goal.returns-clause-called
returns-clause-called g c = c.remove.ensures.called
