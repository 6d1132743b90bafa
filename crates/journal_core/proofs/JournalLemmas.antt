-- Records as they are read, and a body as it is kept.
use Rattle.journal_core.proofs.Words.{◌+◌, ◌-◌, ◌≤◌, ◌++◌, length, take, drop, map, replicate, ap, ◌∙◌, arith, reverse, drop-replicate, map-append, reverse-append, take-append-add, entry_of}
use Rattle.std.proofs.Common.{◌≡◌, ℕ, suc, List, [], ◌∷◌}
use Rattle.record_codec.specs.declared.records.Record.{Record}
use Rattle.journal_core.specs.Lists.{newest_first}

-- one record more is the newest
pub newest_push : (records : List Record) (r : Record) →
    newest_first (records ++ r ∷ []) ≡ entry_of r ∷ newest_first records
newest_push records r = ap reverse (map-append entry_of records (r ∷ []))
    ∙ reverse-append (map entry_of records) (entry_of r ∷ [])

-- a body as it is kept: the spelling, and a closed gate out of the zeros behind it
pub body_made : (text all : List ℕ) (n : ℕ) → length text ≤ 80 → n ≡ length text →
    all ≡ text ++ drop (length text) (replicate 81 0) → take (n + 1) all ≡ text ++ (0 ∷ [])
body_made text all n short n_is all_is =
    let more : 81 - length text ≡ suc (80 - length text) = omega arith in
    let zeros : drop (length text) (replicate 81 0) ≡ 0 ∷ replicate (80 - length text) 0 =
    drop-replicate (length text) 81 0 ∙ ap (λ (k : ℕ). replicate k 0) more in
    (λ i. take (n_is i + 1) ((all_is ∙ ap (λ (l : List ℕ). text ++ l) zeros) i))
    ∙ take-append-add text (0 ∷ replicate (80 - length text) 0) 1
