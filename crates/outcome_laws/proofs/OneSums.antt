-- The sums of an audit are one.
use Rattle.outcome_laws.proofs.Words.{◌≡◌, sym, Job, HasSums}
use Rattle.hail_field.specs.Shape.{IsShape}
use Rattle.column_defs.specs.Verdicts.{Sums}
use Rattle.record_defs.specs.Records.{Setup}
use Rattle.run_laws.proofs.Sums.{sums-one}
use Rattle.second_half_laws.proofs.Finals.{sums_same}

-- the sums of two audits of one number, of the same files and answers, are one
pub sums_one : (s : Setup) (x y : Job) (a b : Sums) → IsShape s.n s.l s.b → x.pinned ≡ y.pinned →
    x.subject ≡ y.subject → x.given ≡ y.given → HasSums s x a → HasSums s y b → a ≡ b
sums_one s x y a b shape pinned subject given ha hb =
    sums-one s y shape a b (sums_same s x y a pinned subject (sym given) ha) hb
