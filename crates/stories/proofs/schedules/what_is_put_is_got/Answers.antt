use Rattle.std.proofs.Common.{◌++◌, reverse}
use Rattle.stories.specs.Files.{put_of, got_behind}
use Rattle.stories.proofs.Gets.{is-got}
use Rattle.stories.proofs.schedules.what_is_put_is_got.Goals as goal

pub returns : goal.returns
returns c =
    λ words text front middle name bytes own p g start ms old new end answers form source spells leaves asks ok
    told left.
    (is-got front middle name bytes own p g start ms old new end asks leaves
    (c.replays_go_on.ensures words text
    (reverse (got_behind (middle ++ put_of front name bytes own p) name g)) start ms old new end answers form
    source spells ok told left)).0
