use Rattle.wrong_client.proofs.of_hail_client.begin_scrub.Goals as goal

pub returns : goal.returns
returns c = record { unchanged = c.begin_scrub-begun.ensures.unchanged }
