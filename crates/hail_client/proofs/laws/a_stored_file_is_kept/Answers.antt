use Rattle.hail_client.specs.Examples.{stored_devices, stored_state, notes}
use Rattle.std.specs.Prelude.{codes}
use Rattle.hail_client.proofs.Examples.{stored-stands, stored-kept}
use Rattle.hail_client.proofs.Kept.{images-have}
use Rattle.hail_client.proofs.laws.a_stored_file_is_kept.Goals as goal

pub returns : goal.returns
returns c = record {
  stands = stored-stands;
  devices = (stored-stands.devices, stored-stands.sound);
  kept = stored-kept;
  images = images-have stored_devices.holds stored_state (codes "notes.txt") notes stored-stands.sound
      stored-stands.devices.images stored-kept;
}
