use Rattle.hail_client.proofs.Standing.{devices-of, sound-of}
use Rattle.hail_client.proofs.Kept.{images-have}
use Rattle.hail_client.proofs.laws.images_have_the_files.Goals as goal

pub returns : goal.returns
returns c client d w name file S = images-have d.holds w name file
    (sound-of client.vault client.alone client.next_job d w S) (devices-of client.vault client.alone client.next_job d w S).images
