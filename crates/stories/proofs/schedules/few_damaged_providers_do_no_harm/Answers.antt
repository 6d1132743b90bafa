use Rattle.stories.proofs.Words.{◌++◌, subst, reverse, reverse-reverse, DamagesOnly, CarriesOut, called_behind, got_behind}
use Rattle.stories.specs.Files.{put_of}
use Rattle.stories.proofs.Gets.{is-got}
use Rattle.stories.proofs.schedules.few_damaged_providers_do_no_harm.Goals as goal

pub returns : goal.returns
returns c =
    λ words text front middle name bytes own p g ps start ms old new end answers form source spells leaves asks
    ok told left tell before names.
    (let all = got_behind (middle ++ put_of front name bytes own p) name g in
    let W = c.replays_go_on.ensures words text (reverse all) start ms old new end answers form source spells
    ok told left in
    let P = is-got front middle name bytes own p g start ms old new end asks leaves W in
    let G = P.0 in
    let damages = subst (DamagesOnly ps) P.1
    (c.commands_damage_only.ensures.both ps W.later (called_behind start ms)
    (c.commands_damage_only.ensures.commands ps all W.later W.lines
    (subst (λ cs. CarriesOut cs W.later W.lines) (reverse-reverse all) W.carried_out) (tt, names))
    (tt, before)) in
    record {
      got = G;
      whole = λ how few put_begun put_ended get_begun get_ended. c.stored_files_are_got.ensures.ends 8
          (λ moments. 0) start (G.before ++ called_behind start ms) G.gaps G.begin G.last g name bytes how
          (c.few_damaged_providers_leave_runs_calm.ensures.marked 8 start _ ps left.starts tell G.left.run
          damages few) (G.put.stored put_begun put_ended) (G.ends how get_begun get_ended);
    })
