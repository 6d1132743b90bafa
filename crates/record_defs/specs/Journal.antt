-- What bytes stand for: the records of the active area's text. Lists of records have the newest first.
--
--   magic, before_gate rs, text rs == HAILJRN1, what stands before the gate that closes a text in the first
--                                     area, and that text with its closed gate
--   text_size rs                   == how many bytes the text has
--   StandsFor bytes rs             == bytes stand for records, in the area that is active
use Rattle.std.specs.Prelude.{ℕ, ◌+◌, List, [], ◌∷◌, ◌++◌}
use Rattle.record_defs.specs.Records.{Record, record_size}
use Rattle.record_defs.specs.Spellings.{spelling}
use Rattle.record_defs.specs.Areas.{Area, StandsActive}

-- HAILJRN1
abbrev pub magic : List ℕ
magic = 72 ∷ 65 ∷ 73 ∷ 76 ∷ 74 ∷ 82 ∷ 78 ∷ 49 ∷ []

-- all that stands before the gate that closes a text in the first area: the magic, then each record after an
-- open gate
abbrev pub before_gate : List Record → List ℕ
before_gate [] = magic
before_gate (r ∷ rs) = before_gate rs ++ 1 ∷ spelling r

-- the text of records in the first area, with its closed gate
abbrev pub text : List Record → List ℕ
text rs = before_gate rs ++ 0 ∷ []

-- how many bytes the text has
abbrev pub text_size : List Record → ℕ
text_size [] = 9
text_size (r ∷ rs) = text_size rs + (1 + record_size r)

-- bytes stand for records, in the area that is active
abbrev pub StandsFor : List ℕ → List Record → Type 0
StandsFor bytes rs = (area : Area) × StandsActive bytes area rs
