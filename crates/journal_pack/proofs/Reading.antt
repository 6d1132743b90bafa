-- Reading the active area, record by record.
use Rattle.journal_pack.proofs.Words.{◌≡◌, inl, inr, ℕ, ◌+◌, List, arith, Entry, Area, end_in, IsSwitched, IsBadAt, IsReadIn, StopsIn, length-entries}

-- where reading stops is the first place at which the active area fails to be a text
pub stops-bad : (bytes : List ℕ) (area : Area) (rs : List Entry) (at : ℕ) → IsSwitched bytes area →
    StopsIn bytes area rs at → IsBadAt bytes at
stops-bad bytes area rs at active (inl ends) =
    inr (record { area = area; active = active; fails = inl ends.0 })
stops-bad bytes area rs at active (inr breaks) =
    inr (record { area = area; active = active; fails = inr breaks.0 })

-- the offset past the gate that closes the text
pub end-is : (bytes : List ℕ) (area : Area) (rs : List Entry) (gate : ℕ) → IsReadIn bytes area rs gate →
    gate + 1 ≡ end_in area rs
end-is bytes area rs gate is =
    let g = is.gate_is in omega (arith, g, length-entries rs is.in_grammar)
