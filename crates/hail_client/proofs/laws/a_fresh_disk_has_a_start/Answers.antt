use Rattle.hail_client.proofs.Words.{fresh, refl}
use Rattle.hail_client.proofs.Examples.{fresh-is, fresh-start, fresh-devices, fresh-tell, fresh-stands, fresh-run, hidden-start, hidden-stands}
use Rattle.hail_client.proofs.Fresh.{start-tells}
use Rattle.hail_client.proofs.laws.a_fresh_disk_has_a_start.Goals as goal

pub returns : goal.returns
returns c = record {
  fresh = (fresh-is, refl);
  start = (fresh-start, fresh-devices);
  tell = (fresh-tell, start-tells fresh.providers fresh-tell);
  stands = fresh-stands;
  run = fresh-run;
  hidden = (hidden-start.0, hidden-start.1, hidden-stands);
}
