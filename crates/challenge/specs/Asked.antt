-- What a challenge means.
use Rattle.challenge.specs.declared.question.Challenge.{Challenge}
use Rattle.column_defs.specs.Challenges as meaning

-- the challenge as the definitions of answers see it
abbrev pub asked : Challenge → meaning.Challenge
asked c = record { seed = c.seed; rows = c.rows; size = c.size; picks = c.picks }
