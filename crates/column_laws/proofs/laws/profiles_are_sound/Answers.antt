use Rattle.column_laws.proofs.Words.{profile_of, Apart-range, size_is}
use Rattle.column_laws.proofs.laws.profiles_are_sound.Goals as goal

pub returns-clause-size : goal.returns-clause-size
returns-clause-size c = size_is

pub returns-clause-points : goal.returns-clause-points
returns-clause-points c number = Apart-range 0 (profile_of number).size
