-- What several jobs heard.
--
--   joined lists    == the entries of some lists, one behind the other
--   entries_heard h == all that was heard, in the order of the jobs' ends
--   room_of h       == for how many more jobs there is room
use Rattle.std.specs.Prelude.{ℕ, ◌-◌, List, [], ◌∷◌, ◌++◌, Option, Some, None, vec_len, vec_capacity}
use Rattle.std.specs.declared.alloc.Global.{Global}
use Rattle.std.specs.declared.vec.Vec.{Vec}
use Rattle.machine_defs.specs.Heard.{Entry}
use Rattle.hail_replay.specs.declared.heard.HeardLists.{HeardLists}

-- lists, one behind the other
abbrev pub joined : List (List Entry) → List Entry
joined [] = []
joined (list ∷ lists) = list ++ joined lists

-- the entries of lists that may be there
abbrev pub entries_behind : Option (Vec (List Entry) Global) → List Entry
entries_behind None = []
entries_behind (Some more) = joined more.items

-- all that was heard
abbrev pub entries_heard : HeardLists → List Entry
entries_heard h = h.first ++ entries_behind h.more

-- the room of lists that may be there
abbrev pub spare_of : Option (Vec (List Entry) Global) → ℕ
spare_of None = 0
spare_of (Some more) = vec_capacity more - vec_len more

-- for how many more jobs there is room
abbrev pub room_of : HeardLists → ℕ
room_of h = spare_of h.more
