-- A record of the program can be made again from its plain data.
use Rattle.record_codec.proofs.Words.{◌≡◌, ℕ, ◌-◌, ◌+◌, ◌*◌, subst, List, ◌++◌, length, take, replicate, refl, sym, ap, ◌∙◌, arith, SetUp, PutStart, PutDone, Drop, AuditStart, AuditDone, RepairDone, PutDoneIn, Version, Resume, InEffect, RepairDue, record_size, Entry, entry_of, counted, IsPadded, HasPadding, IsInGrammar}
use Rattle.std.proofs.Common.{length-take, take-append-drop}
use Rattle.record_codec.specs.declared.counts.Counts.{Counts}
use Rattle.record_codec.specs.declared.records.Record.{Record}
use Rattle.record_codec.specs.declared.records.Record.TheVariants as kind

abbrev padded : List ℕ → Counts
padded ks = record { n = length ks; by = ks ++ replicate (16 - length ks) 0 }

abbrev value_of : Entry → Record
value_of (SetUp s) = kind.Setup (record {
  n = s.n;
  l = s.l;
  b = s.b;
  profile = s.profile;
  rounds = s.rounds;
  picks = s.picks;
  tolerance = s.tolerance;
}) s.master
value_of (PutStart id name) = kind.PutStart id name
value_of (PutDone id size) = kind.PutDone id size
value_of (Drop name) = kind.Drop name
value_of (AuditStart number) = kind.AuditStart number
value_of (AuditDone number undecided counts) = kind.AuditDone number undecided (padded counts)
value_of (RepairDone number) = kind.RepairDone number
value_of (PutDoneIn id size profile) = kind.PutDoneIn id size profile
value_of Version = kind.Version
value_of (Resume id audit) = kind.Resume id audit
value_of (InEffect id size profile name) = kind.File id size profile name
value_of (RepairDue number counts) = kind.Due number (padded counts)

padded-counted : (counts : Counts) → IsPadded counts → padded (counted counts) ≡ counts
padded-counted counts is =
    let len : length (take counts.n counts.by) ≡ counts.n =
    omega (arith, length-take counts.n counts.by, is.room, is.at_most) in
    let all : counted counts ++ replicate (16 - length (counted counts)) 0 ≡ counts.by =
    ap (λ (k : ℕ). counted counts ++ replicate (16 - k) 0) len
    ∙ ap (λ (l : List ℕ). counted counts ++ l) (sym is.zeros) ∙ take-append-drop counts.n counts.by in
    (λ i. record { n = len i; by = all i })

again : (r : Record) → IsInGrammar r → value_of (entry_of r) ≡ r
again (kind.Setup s key) is = refl
again (kind.PutStart id name) is = refl
again (kind.PutDone id size) is = refl
again (kind.Drop name) is = refl
again (kind.AuditStart number) is = refl
again (kind.AuditDone number undecided counts) is =
    ap (λ (ks : Counts). kind.AuditDone number undecided ks) (padded-counted counts is.padded)
again (kind.RepairDone number) is = refl
again (kind.PutDoneIn id length profile) is = refl
again kind.Version is = refl
again (kind.Resume id audit) is = refl
again (kind.File id length profile name) is = refl
again (kind.Due number counts) is = ap (λ (ks : Counts). kind.Due number ks) (padded-counted counts is.padded)

-- records that mean the same are the same
pub one_value : (r s : Record) → IsInGrammar r → IsInGrammar s → entry_of r ≡ entry_of s → r ≡ s
one_value r s is_r is_s e = sym (again r is_r) ∙ ap value_of e ∙ again s is_s

-- the size of the end of an audit follows from how many counts it has
pub size_of_counts : (r : Record) (number undecided : ℕ) (counts : Counts) →
    r ≡ kind.AuditDone number undecided counts → IsInGrammar r → 14 + 4 * counts.n ≡ record_size (entry_of r)
size_of_counts r number undecided counts is good =
    let p : IsPadded counts = subst HasPadding is good.padded in
    let len : length (take counts.n counts.by) ≡ counts.n =
    omega (arith, length-take counts.n counts.by, p.room, p.at_most) in
    let size : 14 + 4 * counts.n ≡ 14 + 4 * length (take counts.n counts.by) = omega (arith, len) in
    size ∙ ap (λ (x : Record). record_size (entry_of x)) (sym is)

-- so does that of a due audit
pub size_of_due : (r : Record) (number : ℕ) (counts : Counts) → r ≡ kind.Due number counts → IsInGrammar r →
    10 + 4 * counts.n ≡ record_size (entry_of r)
size_of_due r number counts is good =
    let p : IsPadded counts = subst HasPadding is good.padded in
    let len : length (take counts.n counts.by) ≡ counts.n =
    omega (arith, length-take counts.n counts.by, p.room, p.at_most) in
    let size : 10 + 4 * counts.n ≡ 10 + 4 * length (take counts.n counts.by) = omega (arith, len) in
    size ∙ ap (λ (x : Record). record_size (entry_of x)) (sym is)
