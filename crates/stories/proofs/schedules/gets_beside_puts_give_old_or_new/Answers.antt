use Rattle.std.proofs.Common.{◌++◌, reverse}
use Rattle.stories.specs.Files.{put_of}
use Rattle.stories.proofs.Beside.{is-beside}
use Rattle.stories.proofs.schedules.gets_beside_puts_give_old_or_new.Goals as goal

pub returns : goal.returns
returns c =
    λ words text front behind name bytes other own p start ms old new end answers form source spells leaves
    only no_calls ok told left.
    is-beside front behind name bytes other own p start ms old new end leaves only no_calls
    (c.replays_go_on.ensures words text (reverse (behind ++ put_of front name bytes own p)) start ms old new
    end answers form source spells ok told left)
