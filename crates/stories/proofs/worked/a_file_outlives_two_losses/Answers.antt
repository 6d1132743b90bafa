use Rattle.stories.proofs.Words.{List, [], ◌∷◌, None, refl, inl, named, byte, opening, damaged2, damaged0, lost2, lost0, symbols_off, blocks_off, swept_text}
use Rattle.machine_defs.specs.Events.{Replaced}
use Rattle.stories.specs.Words.{Got, Opened, Outcome}
use Rattle.stories.proofs.worked.a_file_outlives_two_losses.Goals as goal

-- the commands: `opening` before the put, `lost2` between it and the scrub, `lost0` between that and the get; and how
-- they end
abbrev us : List Outcome
us = Opened ∷ []

abbrev lost : List Outcome
lost = Replaced ∷ []

pub returns : goal.returns
returns c = λ words start ms old new end told tell before.
    (let K = c.scrubbed_files_are_got.ensures words swept_text opening lost2 lost0 us lost lost named byte None
    1 2 3 1 symbols_off blocks_off damaged2 damaged0 (Got byte) start ms old new end told
    refl refl tt  -- as many outcomes as commands; the line of the get tells its answer
    (inl tt)  -- before the put the name is free: the store is opened
    ((λ on. on), tt)  -- between put and scrub, and
    ((λ on. on), tt)  -- between scrub and get, no put and no drop of the name is asked for
    tell before  -- all providers tell; whom the run before damaged
    (inl refl, (tt, (tt, tt)))  -- up to the scrub provider 2 alone is damaged
    (inl refl, tt)  -- and behind it provider 0 alone
    in (K.0, λ one. K.1 (one, (one, tt))))
