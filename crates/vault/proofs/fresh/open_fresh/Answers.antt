use Rattle.vault.proofs.Words.{false≢true, with_master}
use Rattle.vault.proofs.Limits.{setup-shape}
use Rattle.vault.proofs.fresh.open_fresh.Goals as goal

pub unreachable-requires : goal.unreachable-requires
unreachable-requires c =
    let s = with_master c.args.store.setup c.args.store.master.0 in
    false≢true (c.in_default.ensures.fits.1 (setup-shape s c.requires.limits))
