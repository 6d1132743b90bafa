use Rattle.command_laws.proofs.Words.{refl, set_up_records, held_records, upgraded_records}
use Rattle.machine_defs.specs.Refusals as refusal
use Rattle.command_laws.proofs.Samples.{set_up-sure, held-sure, upgraded-sure, same-disk, refused, pack-refused, old-refused, unknown-refused, listed}
use Rattle.command_laws.proofs.JobSamples as jobs
use Rattle.command_laws.proofs.LongSample.{long-put}
use Rattle.command_laws.proofs.ScrubSample.{scrub}
use Rattle.command_laws.proofs.PackSample.{pack}
use Rattle.command_laws.proofs.InitSample.{init, keyed}
use Rattle.command_laws.proofs.instances.there_are_answers.Goals as goal

pub returns-clause-got : goal.returns-clause-got
returns-clause-got c = jobs.got.answers

pub returns-clause-missing : goal.returns-clause-missing
returns-clause-missing c = refused refusal.NoSuchName held-sure.known.opened refl (same-disk held_records)

pub returns-clause-listed : goal.returns-clause-listed
returns-clause-listed c = listed

pub returns-clause-chain : goal.returns-clause-chain
returns-clause-chain c = jobs.chained

pub returns-clause-put : goal.returns-clause-put
returns-clause-put c = jobs.stored.answers

pub returns-clause-given_up : goal.returns-clause-given_up
returns-clause-given_up c = jobs.given-up

pub returns-clause-too_long : goal.returns-clause-too_long
returns-clause-too_long c = long-put

pub returns-clause-audit : goal.returns-clause-audit
returns-clause-audit c = jobs.audit.answers

pub returns-clause-repair : goal.returns-clause-repair
returns-clause-repair c = jobs.repair.answers

pub returns-clause-init : goal.returns-clause-init
returns-clause-init c = (init, keyed)

pub returns-clause-upgrade : goal.returns-clause-upgrade
returns-clause-upgrade c = jobs.upgrade.answers

pub returns-clause-own_put : goal.returns-clause-own_put
returns-clause-own_put c = jobs.own.answers

pub returns-clause-bad_profile : goal.returns-clause-bad_profile
returns-clause-bad_profile c = unknown-refused

pub returns-clause-old_version : goal.returns-clause-old_version
returns-clause-old_version c = old-refused

pub returns-clause-new_version : goal.returns-clause-new_version
returns-clause-new_version c = refused refusal.NewVersion upgraded-sure.known.opened refl (same-disk upgraded_records)

pub returns-clause-scrub : goal.returns-clause-scrub
returns-clause-scrub c = scrub

pub returns-clause-pack : goal.returns-clause-pack
returns-clause-pack c filling middle = (pack filling middle).answers

pub returns-clause-old_pack : goal.returns-clause-old_pack
returns-clause-old_pack c = pack-refused refusal.OldVersion set_up-sure.known.opened refl (same-disk set_up_records)
