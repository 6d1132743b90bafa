-- Where an `init` has come to that was not refused for its numbers.
--
--   IsSetupFor setup numbers handed == the numbers make this setup, whatever the key, and enough providers
--                                      are handed in
--   init_ending fault               == how an init ends whose disk was not set up
use Rattle.std.specs.Prelude.{◌≡◌, ℕ, ◌≤◌, true, List, []}
use Rattle.record_defs.specs.Records.{is_setup}
use Rattle.command_defs.specs.Forms.{Numbers}
use Rattle.command_defs.specs.Inits.{setup_with}
use Rattle.command_defs.specs.Seen.{Ending}
use Rattle.record_codec.specs.declared.setup.Setup.{Setup}
use Rattle.record_codec.specs.Entries.{with_master}
use Rattle.vault_open.specs.declared.fault.InitFault.{InitFault}
use Rattle.vault_open.specs.declared.fault.InitFault.TheVariants as init_fault
use Rattle.hail_top.specs.Endings.{ending_with}

-- the numbers make this setup, and enough providers are handed in
pub record IsSetupFor (setup : Setup) (numbers : Numbers) (handed : ℕ) : Type 0 where
  pub fits : is_setup (setup_with numbers []) ≡ true
  pub enough : numbers.n ≤ handed
  pub same : (key : List ℕ) → with_master setup key ≡ setup_with numbers key

-- how an init ends whose disk was not set up
abbrev pub init_ending : InitFault → Ending
init_ending init_fault.BadSetup = ending_with 70 0
init_ending init_fault.DiskFault = ending_with 12 0
init_ending (init_fault.BadJournal at) = ending_with 8 at
init_ending init_fault.Already = ending_with 10 0
init_ending init_fault.Memory = ending_with 70 0
