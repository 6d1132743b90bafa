use Rattle.command_laws.proofs.Words.{ℕ, ◌-◌, ◌^◌, refl, inl, arith, length-replicate, store, held_records}
use Rattle.command_laws.proofs.Between.{sure-store}
use Rattle.command_laws.proofs.Samples.{never-rises, never-seen, set_up-sure, held-sure, due-sure, upgraded-sure, own-sure, held-file, none-bad, all-safe}
use Rattle.command_laws.proofs.LongSample.{reading-sure}
use Rattle.command_laws.proofs.PackSample.{packed-sure}
use Rattle.command_laws.proofs.UnsetSample.{unset, unset-store, doubtful, doubtful-store}
use Rattle.command_laws.proofs.instances.there_are_known_stores.Goals as goal

pub returns-clause-set_up : goal.returns-clause-set_up
returns-clause-set_up c = set_up-sure

pub returns-clause-sure : goal.returns-clause-sure
returns-clause-sure c = held-sure

pub returns-clause-reading : goal.returns-clause-reading
returns-clause-reading c = reading-sure

pub returns-clause-file : goal.returns-clause-file
returns-clause-file c = held-file

pub returns-clause-none_bad : goal.returns-clause-none_bad
returns-clause-none_bad c = none-bad

pub returns-clause-state : goal.returns-clause-state
returns-clause-state c = sure-store (store held_records) held_records held-sure

pub returns-clause-unset : goal.returns-clause-unset
returns-clause-unset c = (unset, unset-store, refl)

pub returns-clause-doubtful : goal.returns-clause-doubtful
returns-clause-doubtful c = (doubtful, doubtful-store, refl, refl)

pub returns-clause-due : goal.returns-clause-due
returns-clause-due c = due-sure

pub returns-clause-between : goal.returns-clause-between
returns-clause-between c = (
  record { disk = inl refl; handed = refl },
  record { disk = inl refl; handed = refl },
  record { disk = inl refl; handed = refl },
)

pub returns-clause-faultless : goal.returns-clause-faultless
returns-clause-faultless c = (
  record {
    disk = never-rises 0 (omega arith);
    stores = λ j rose. never-seen j rose;
    source = never-rises 0 (omega arith);
    sink = never-rises 0 (omega arith);
  },
  record {
    disk = never-rises 0 (omega arith);
    stores = λ j rose. never-seen j rose;
    source = never-rises 0 (omega arith);
    sink = never-rises 0 (omega arith);
  },
)

pub returns-clause-upgraded : goal.returns-clause-upgraded
returns-clause-upgraded c = upgraded-sure

pub returns-clause-own : goal.returns-clause-own
returns-clause-own c = own-sure

pub returns-clause-safe : goal.returns-clause-safe
returns-clause-safe c = all-safe

pub returns-clause-packed : goal.returns-clause-packed
returns-clause-packed c = packed-sure

pub returns-clause-filled : goal.returns-clause-filled
returns-clause-filled c = length-replicate {A = ℕ} (2 ^ 23 - 8) 0
