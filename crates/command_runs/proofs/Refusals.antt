-- Commands that end before a job of theirs begins: refused, or by a fault, or for want of memory.
use Rattle.command_runs.proofs.Words.{◌≡◌, ◌<◌, ◌≤◌, ℕ, false, List, [], ◌∷◌, length, Option, Some, None, refl, ap, sym, ◌∙◌, inl, inr, arith, length-append, replicate, same-disk, quiet, upto, values_at, Accepts, AcceptsNone, firm, text, HasNoFront, spelling, PutJob, Refusal, byte, journal_read, ListAll, IsKeyForm, Seen, Ending, SameSource, Unstarted, is_unknown, refusal_over, status_of, AnswersJob, AnswersPut, AnswersList, TouchesSink, Answers, with_sink, ends, four_records, byte_records, to_put, put_unmade, byte_kept}
use Rattle.std.specs.Fmt.{digits}
use Rattle.hail_field.specs.Nim.{nim_mul, nim_add, product}
use Rattle.algebra_laws.specs.Poly.{value as value_over, agree as agree_over, is_seen as is_seen_over}
use Rattle.code_defs.specs.Polynomials.{agree}
use Rattle.command_defs.specs.GivenUp.{put_stripe}
use Rattle.code_defs.proofs.Points.{Apart-range}
use Rattle.code_defs.proofs.Values.{value-constant}
use Rattle.column_laws.proofs.UniqueLaws.{often_same, values_same}
use Rattle.damage_run.proofs.LostGet.{at_most_two}
use Rattle.command_runs.specs.Words.{A}
use Rattle.command_runs.proofs.Stores.{put-old, stored-sure}

-- ---- a command that changes nothing

-- a list ended without a word
pub unlisted : {old new : Seen} {end : Ending} → Unstarted old new end → SameSource old new →
    AnswersList old new end × SameSource old new
unlisted unstarted same = (AnswersList.unstarted unstarted, same)

-- the begin of a put was refused, which had read a byte, no more than a stripe
pub put-refused : (name : List ℕ) (own : Option ℕ) (why : Refusal) → is_unknown own ≡ false →
    length byte ≤ put_stripe four_records own → refusal_over A four_records (PutJob name byte) own ≡ Some why →
    AnswersPut name own to_put put_unmade (ends (status_of why))
put-refused name own why known one is = AnswersPut.begun four_records byte put-old.known.opened known
    (record { are_bytes = refl; front = refl }) (omega arith)
    (AnswersJob.refused why is (same-disk four_records) (quiet refl refl refl (λ e. refl))) (λ m. absurd m)
    (λ b. one)

-- a list ends with 15 where the sink fails
pub sink-fault : Answers ListAll byte_kept (record byte_kept { sink_faults = 1 }) (ends 15)
unfolding digits
sink-fault = (
  AnswersList.listed byte_records stored-sure.known.opened (record {
    written = inr (inl (λ e. omega (arith, ap length e), refl, (λ low. omega arith), (0, omega arith, refl)));
    place = refl;
    heard = refl;
    disk = same-disk byte_records;
    providers = refl;
  }),
  (refl, refl),
)

-- ---- journals and keys

-- twelve zeros are looked at
pub long : 9 < length (journal_read (firm (replicate 12 0)))
long = (let e : length (journal_read (firm (replicate 12 0))) ≡ 12 = refl in omega (arith, e))

-- and are no journal
pub no_magic : HasNoFront (journal_read (firm (replicate 12 0)))
no_magic switch e = cc

-- the journal with the file is looked at
pub long_journal : 9 < length (journal_read (firm (text byte_records)))
unfolding spelling
long_journal = (let e : length (journal_read (firm (text byte_records))) ≡ 77 = refl in omega (arith, e))

-- no bytes are no key
pub no_key : (key : List ℕ) → IsKeyForm [] key → ⊥
no_key key form = omega (arith, ap length form.text_is, length-append form.digits form.behind, form.size)

-- ---- a row

-- of two symbols absent and two that differ no polynomial is accepted
pub none_accepted : AcceptsNone (upto 4) (None ∷ None ∷ Some 7 ∷ Some 9 ∷ []) 1 1
none_accepted p h = (let few = at_most_two p 0 1 2 3 (Some 7) (Some 9) in let many = h.agrees in
    omega (arith, few, many))

-- with the constant 7 three sevens and a nine are accepted
agreed : agree (7 ∷ []) (upto 4) (Some 7 ∷ Some 7 ∷ Some 7 ∷ Some 9 ∷ []) ≡ 3
unfolding agree_over is_seen_over value_over nim_mul nim_add product
agreed = refl

pub sevens : Accepts (upto 4) (Some 7 ∷ Some 7 ∷ Some 7 ∷ Some 9 ∷ []) 1 1 (7 ∷ [])
sevens = record { degree = omega arith; agrees = omega (arith, agreed) }

-- and with no other
pub only-sevens : (p : List ℕ) → Accepts (upto 4) (Some 7 ∷ Some 7 ∷ Some 7 ∷ Some 9 ∷ []) 1 1 p →
    7 ∷ [] ≡ values_at (upto 1) p
only-sevens p a = ap (λ v. v ∷ []) (sym (value-constant 7 0)) ∙ values_same (7 ∷ []) p (upto 1)
    (often_same (7 ∷ []) p (upto 4) (Some 7 ∷ Some 7 ∷ Some 7 ∷ Some 9 ∷ []) 1 (Apart-range 0 4)
    sevens.degree a.degree (let b = a.agrees in omega (arith, agreed, b)))

-- it touches no device but the sink
pub touches : {s : Seen} {text : List ℕ} {status : ℕ} → TouchesSink s (with_sink s text) (ends status)
touches = record {
  disk = refl;
  disk_faults = refl;
  providers = refl;
  source = (refl, refl);
  place = refl;
  heard = refl;
}
