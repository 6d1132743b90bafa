-- When an upgrade, a put with a profile of its own, and a pack are not refused.
use Rattle.command_laws.proofs.Words.{◌≡◌, ℕ, ◌+◌, ◌-◌, ◌^◌, ◌<◌, ◌≤◌, ◌==◌, true, false, cond, not, List, length, sum, None, Some, ap, ◌∙◌, arith, nat_lt, nat_le, le-ltb, nat_tests, Record, is_name, largest_file, largest_journal, all_profiles, Area, end_in, version_of, next_id, PutJob, UpgradeJob, ToPut, is_too_full, are_numbers_used_up, is_crowded_for, setup_in_effect, sight_over, refusal_over, reaches_over, pack_refusal_over}
use Rattle.std.proofs.Common.{◌||◌}
use Rattle.machine_defs.specs.Space.{append_sizes}
use Rattle.machine_defs.specs.Refusals as refusal

-- an upgrade of a journal of the first version with room for its record is not refused
pub upgrade-begins : (area : Area) (records : List Record) → version_of records ≡ 1 →
    end_in area records + 3 ≤ largest_journal → refusal_over area records UpgradeJob None ≡ None
upgrade-begins area records one fits = (let first = ap (λ v. v == 2) one in
    let room =
    ap (nat_lt largest_journal) (omega arith) ∙ le-ltb largest_journal (end_in area records + 3) fits in
    (λ i. cond (first i) (Some refusal.NewVersion) (cond (room i || false) (Some refusal.JournalFull) None)))

-- a put with a profile of its own in a journal of the second version with room is not refused
pub own-begins : (name bytes : List ℕ) (own : ℕ) (area : Area) (records : List Record) →
    version_of records ≡ 2 → own < all_profiles → is_name name ≡ true → length bytes ≤ largest_file →
    is_crowded_for (sight_over area records) name ≡ false →
    end_in area records + 26 + length name ≤ largest_journal → next_id records ≤ 2 ^ 64 - 32 →
    refusal_over area records (PutJob name bytes) (Some own) ≡ None
own-begins name bytes own area records two known named short crowded fits number =
    (let one : nat_le all_profiles own ≡ false = grind (arith, nat_tests, known) in
    let long : nat_lt largest_file (length bytes) ≡ false = le-ltb largest_file (length bytes) short in
    let old : (version_of records == 1) ≡ false = ap (λ v. v == 1) two in
    let room : is_too_full (sight_over area records) (ToPut name (length bytes)) ≡ false =
    ap (λ v. nat_lt largest_journal
    (end_in area records + sum (append_sizes v (setup_in_effect records) (ToPut name (length bytes))))) two
    ∙ (ap (nat_lt largest_journal) (omega arith)
    ∙ le-ltb largest_journal (end_in area records + 26 + length name) fits) in
    let left : are_numbers_used_up (sight_over area records) (ToPut name (length bytes)) ≡ false =
    le-ltb (2 ^ 64 - 32) (next_id records) number in
    (λ i. cond (not (named i)) (Some refusal.BadName)
    (cond (one i) (Some refusal.BadProfile)
    (cond (long i) (Some refusal.TooLong)
    (cond (old i) (Some refusal.OldVersion)
    (cond (crowded i) (Some refusal.TooManyFiles)
    (cond (room i || left i) (Some refusal.JournalFull) None)))))))

-- a pack of a journal of the second version that does not reach over is not refused
pub pack-begins : (area : Area) (records : List Record) → version_of records ≡ 2 →
    reaches_over area records ≡ false → pack_refusal_over area records ≡ None
pack-begins area records two within = (λ i. cond ((ap (λ v. v == 1) two) i) (Some refusal.OldVersion)
    (cond (within i) (Some refusal.PackTooLong) None))
