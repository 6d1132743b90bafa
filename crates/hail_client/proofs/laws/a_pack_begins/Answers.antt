use Rattle.hail_client.proofs.Examples.{pack-begins, packing-devices, packing-sound, packing-stands}
use Rattle.hail_client.proofs.laws.a_pack_begins.Goals as goal

pub returns : goal.returns
returns c = record {
  begins = pack-begins;
  devices = (packing-devices, packing-sound);
  stands = packing-stands;
}
