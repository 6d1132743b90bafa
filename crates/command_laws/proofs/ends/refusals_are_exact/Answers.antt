use Rattle.command_laws.proofs.Known.{refused-only, refused-always, known-only, known-always}
use Rattle.command_laws.proofs.JobEnds.{put-answers, put-only, put-always, put-long}
use Rattle.command_laws.proofs.PackEnds.{pack-only, pack-always}
use Rattle.command_laws.proofs.ends.refusals_are_exact.Goals as goal

pub returns-clause-only : goal.returns-clause-only
returns-clause-only c kind own area records old new end why A =
    refused-only kind own records old new end why A

pub returns-clause-always : goal.returns-clause-always
returns-clause-always c kind own area records old new end why A =
    refused-always kind own records old new end why A

pub returns-clause-known_only : goal.returns-clause-known_only
returns-clause-known_only c = known-only

pub returns-clause-known_always : goal.returns-clause-known_always
returns-clause-known_always c = known-always

pub returns-clause-put_only : goal.returns-clause-put_only
returns-clause-put_only c name own records old new end why A K =
    put-only name own records old new end why (put-answers name own old new end A) K

pub returns-clause-put_always : goal.returns-clause-put_always
returns-clause-put_always c name own records old new end why A K =
    put-always name own records old new end why (put-answers name own old new end A) K

pub returns-clause-too_long_only : goal.returns-clause-too_long_only
returns-clause-too_long_only c name bytes own records old new end A K =
    put-long name bytes own records old new end (put-answers name own old new end A) K

pub returns-clause-pack_only : goal.returns-clause-pack_only
returns-clause-pack_only c records old new end why A K = pack-only records old new end why A.0 K

pub returns-clause-pack_always : goal.returns-clause-pack_always
returns-clause-pack_always c records old new end why A K = pack-always records old new end why A.0 K
