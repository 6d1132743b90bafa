-- How long spellings are.
use Rattle.record_defs.proofs.Words.{◌≡◌, ◌+◌, ◌*◌, ◌≤◌, true, IsTrue, List, [], ◌∷◌, length, list_all, flat_map, refl, arith, length-append, nat_tests, Record, SetUp, PutStart, PutDone, Drop, AuditStart, AuditDone, RepairDone, PutDoneIn, Version, Resume, InEffect, RepairDue, is_name, is_in_grammar, record_size, spelling, before_gate, text, text_size, entries, entries_size}
use Rattle.std.specs.Prelude.{ℕ}
use Rattle.std.specs.Int.{w32, to_le_bytes}

length-counts : (counts : List ℕ) → length (flat_map (to_le_bytes w32) counts) ≡ 4 * length counts
length-counts [] = refl
length-counts (k ∷ counts) =
    omega (arith, length-append (to_le_bytes w32 k) (flat_map (to_le_bytes w32) counts), length-counts counts)

-- a spelling has as many bytes as its record is said to take
pub length-spelling : (r : Record) → IsTrue (is_in_grammar r) → length (spelling r) ≡ record_size r
unfolding spelling
length-spelling (SetUp s) p =
    let key : length s.master ≡ 32 = grind (arith, nat_tests, p) in omega (arith, key)
length-spelling (PutStart id name) p = omega arith
length-spelling (PutDone id size) p = omega arith
length-spelling (Drop name) p = omega arith
length-spelling (AuditStart number) p = omega arith
length-spelling (AuditDone number undecided counts) p = omega (arith, length-counts counts)
length-spelling (RepairDone number) p = omega arith
length-spelling (PutDoneIn id size profile) p = omega arith
length-spelling Version p = omega arith
length-spelling (Resume id audit) p = omega arith
length-spelling (InEffect id size profile name) p = omega arith
length-spelling (RepairDue number counts) p = omega (arith, length-counts counts)

-- what stands before the closing gate is one byte shorter than the text
pub length-before_gate : (rs : List Record) → IsTrue (list_all is_in_grammar rs) →
    length (before_gate rs) + 1 ≡ text_size rs
length-before_gate [] p = refl
length-before_gate (r ∷ rs) p =
    let first : IsTrue (is_in_grammar r) = grind (arith, p) in
    let others : IsTrue (list_all is_in_grammar rs) = grind (arith, p) in
    omega (
      arith,
      length-append (before_gate rs) (1 ∷ spelling r),
      length-spelling r first,
      length-before_gate rs others,
    )

-- the text of records in the grammar has the size that is told of it
pub length-text : (rs : List Record) → IsTrue (list_all is_in_grammar rs) → length (text rs) ≡ text_size rs
length-text rs p = omega (arith, length-append (before_gate rs) (0 ∷ []), length-before_gate rs p)

-- the entries of records in the grammar take as many bytes as is told of them
pub length-entries : (rs : List Record) → IsTrue (list_all is_in_grammar rs) →
    length (entries rs) ≡ entries_size rs
length-entries [] p = refl
length-entries (r ∷ rs) p =
    let first : IsTrue (is_in_grammar r) = grind (arith, p) in
    let others : IsTrue (list_all is_in_grammar rs) = grind (arith, p) in
    omega (
      arith,
      length-append (entries rs) (1 ∷ spelling r),
      length-spelling r first,
      length-entries rs others,
    )

-- a name has at most 64 bytes
pub is_name-short : (name : List ℕ) → is_name name ≡ true → length name ≤ 64
is_name-short name good = grind (arith, nat_tests)
