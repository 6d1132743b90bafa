use Rattle.stories.proofs.Words.{◌++◌, sym, subst, arith, reverse, reverse-reverse, CarriesOut, devices_of_seen, called_behind, PutsFile, SaysPut}
use Rattle.stories.specs.Files.{put_of}
use Rattle.stories.proofs.Puts.{puts-file, called-free}
use Rattle.stories.proofs.Said.{written-as}
use Rattle.stories.proofs.schedules.what_is_put_survives.Goals as goal

pub returns : goal.returns
returns c =
    λ words text front middle name bytes own p start ms old new end answers form source spells leaves asks ok
    told left.
    (let all = middle ++ put_of front name bytes own p in
    let W = c.replays_go_on.ensures words text (reverse all) start ms old new end answers form source spells
    ok told left in
    let put : PutsFile front middle own W.later (called_behind start ms) W.lines p name bytes =
    puts-file front middle name bytes own p W.later (called_behind start ms) W.lines
    (subst (λ cs. CarriesOut cs W.later W.lines) (reverse-reverse all) W.carried_out) asks leaves
    (called-free name start ms) start W.left.starts W.left.run in
    record {
      ms = W.later;
      lines = W.lines;
      put = put;
      left = W.left;
      written = W.written;
      kept = λ begun ended. (let K = c.stored_files_are_kept.ensures 8 start
          (W.later ++ called_behind start ms) name bytes left.starts W.left.run (put.stored begun ended) in (
            K.file,
            K.size,
            K.bytes_are,
            c.images_of_devices.ensures (devices_of_seen new) _ name K.file W.left.devices
                (c.runs_are_sound.ensures 8 start (W.later ++ called_behind start ms)
                (omega arith, omega arith) left.starts W.left.run) K.kept,
          ));
      said = λ taken text taken_is text_said says.
          (let same = written-as old.sink new.sink W.lines taken text W.written taken_is text_said in
          put.said (subst (λ l. SaysPut l front p middle) (sym same) says));
    })
