use Rattle.hail_client.proofs.Examples.{scrub-begins, scrub-stands, scrubbing-stands}
use Rattle.hail_client.proofs.laws.a_scrub_of_a_stored_file_begins.Goals as goal

pub returns : goal.returns
returns c = record { begins = scrub-begins; scrub = scrub-stands; stands = scrubbing-stands }
