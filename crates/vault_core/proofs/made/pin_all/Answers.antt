use Rattle.vault_core.proofs.Words.{◌-◌, ◌∙◌, ap, arith, get_within, core_pins, pin_by}
use Rattle.vault_core.proofs.Pins.{pins_step}
use Rattle.vault_core.proofs.made.pin_all.Goals as goal

pub loop-place-preserved : goal.loop-place-preserved
loop-place-preserved c = record {
  within = omega arith;
  pinned = pins_step c.args.table.now.files c.loop-place.place (omega arith) c.in-Some.ensures
      c.loop-place.invariant.pinned (c.in_ok-pin-in-Some.ensures
      ∙ ap (λ p. pin_by core_pins p c.loop-place.pinned.items) c.pinned_entry.ensures);
}

pub unreachable-requires : goal.unreachable-requires
unreachable-requires c =
    get_within c.args.table.now.files (c.loop-place.place - 1) (omega arith) c.in-None.ensures
