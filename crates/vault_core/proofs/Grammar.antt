-- Records of jobs are in the grammar.
use Rattle.vault_core.proofs.Words.{◌≡◌, ℕ, ◌<◌, ◌≤◌, ◌^◌, true, take, List, nat_lt, All, list_all, lt-ltb, le-leb, length-take-le, All-take, list_all-from_AllPass, Counts, IsPadded, IsInGrammar}
use Rattle.record_codec.specs.declared.records.Record.TheVariants as kind

fit_all : (xs : List ℕ) → All (λ k. k < 2 ^ 32) xs → list_all (λ k. nat_lt k (2 ^ 32)) xs ≡ true
fit_all xs h = list_all-from_AllPass (λ k. nat_lt k (2 ^ 32)) xs (λ k d l. lt-ltb _ _ (h k d l))

-- an AuditDone whose number and counts fit their fields is a record of the grammar
pub audit_done_in_grammar : (number undecided : ℕ) (counts : Counts) → number < 2 ^ 64 → undecided < 2 ^ 32 →
    4 ≤ counts.n → counts.n ≤ 16 → IsPadded counts →
    All (λ k. k < 2 ^ 32) counts.by → IsInGrammar (kind.AuditDone number undecided counts)
audit_done_in_grammar number undecided counts a b c d padded all = record {
  spelled =
      let len =
      length-take-le counts.n counts.by (rw (← padded.room) at d) in
      rw (
        len,
        lt-ltb number (2 ^ 64) a,
        lt-ltb undecided (2 ^ 32) b,
        le-leb 4 counts.n c,
        le-leb counts.n 16 d,
      )
      (fit_all (take counts.n counts.by) (All-take (λ k. k < 2 ^ 32) counts.n counts.by all));
  padded = padded;
}
