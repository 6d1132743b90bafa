use Rattle.wrong_client.proofs.of_hail_client.begin_pack.Goals as goal

pub returns : goal.returns
returns c = record { machine = c.begin_pack-begun.ensures.machine }
