-- A put of a source of one byte more than a file may have, over providers that tell nothing: four moves, and
-- a store of each whole stripe on each provider.
use Rattle.command_laws.proofs.Words.{◌≡◌, ℕ, zero, suc, ◌+◌, ◌*◌, List, [], ◌∷◌, length, take, Some, None, refl, ap, sym, inr, arith, length-take, append-nil, columns, largest_file, A, spelling, AreBytes, PutJob, object_of, stripes_of, PutUnder, nobody, refusal_over, put_stripe, StopsReading, PartRuns, AnswersPut, Answers, MayName, IsSure, small_setup, held_name, set_up_records, started_records, reading, ends, part-left, part-so}
use Rattle.made_runs.specs.Steps.{stored}
use Rattle.turn_laws.specs.Turned.{given_stripes}
use Rattle.command_laws.proofs.Chains.{first-begins}
use Rattle.command_laws.proofs.JobEnds.{given-front}
use Rattle.command_laws.proofs.SureStores.{stands_for}
use Rattle.command_laws.proofs.Samples.{set_up-sure, started-fit}

-- a provider that tells nothing goes on so
hidden-stays : (bytes : List ℕ) (j t : ℕ) → given_stripes small_setup nobody bytes j t ≡ nobody
hidden-stays bytes j zero = refl
hidden-stays bytes j (suc t) =
    ap (stored 1 t (columns (object_of small_setup 1) bytes j t)) (hidden-stays bytes j t)

-- ---- the command

-- the store is known whatever the source holds
abbrev pub reading-sure : (bytes : List ℕ) → IsSure (reading set_up_records bytes) set_up_records
reading-sure bytes = record {
  known = record {
    tells = refl;
    opened = record { area = A; read = set_up-sure.known.opened.read; enough = omega arith };
  };
  images = set_up-sure.images;
}

module _ (source : List ℕ) (are : AreBytes source) (long : length source ≡ largest_file + 1) where
  size-is : put_stripe set_up_records None ≡ 32
  size-is = refl

  -- the bytes of the whole stripes
  bytes : List ℕ
  bytes = take (131072 * put_stripe set_up_records None) source

  most-is : largest_file ≡ 4194304
  most-is = refl

  whole : length bytes ≡ 131072 * put_stripe set_up_records None
  unfolding bytes
  whole = omega (arith, length-take (131072 * put_stripe set_up_records None) source, size-is, most-is, long)

  begins : refusal_over A set_up_records (PutJob held_name bytes) None ≡ None
  begins = first-begins A small_setup held_name bytes refl (omega (arith, whole, size-is, most-is))

  stops : StopsReading (put_stripe set_up_records None) bytes (reading set_up_records source)
      (reading started_records []) (ends 16)
  unfolding bytes
  stops = record {
    read = source;
    are_bytes = are;
    front = ap Some (sym (append-nil source));
    stripes = 131072;
    bytes_are = refl;
    whole = whole;
    rest = omega (arith, whole, size-is, most-is, long);
    cause = inr (refl, long);
    place = refl;
    heard = refl;
    sink = refl;
  }

  are_fit : AreBytes bytes
  are_fit = (given-front A held_name bytes None set_up_records (reading set_up_records source)
      (reading started_records []) (ends 16) begins stops).1

  long-runs : PartRuns A set_up_records held_name bytes None (reading set_up_records source)
      (reading started_records [])
  unfolding spelling
  long-runs = (let s = λ (j : ℕ). hidden-stays bytes j (stripes_of small_setup (length bytes)) in
      part-so 2 2 bytes nobody (reading set_up_records source) (reading started_records [])
      (refl, refl, refl, (λ i. s 0 i ∷ s 1 i ∷ s 2 i ∷ s 3 i ∷ []), begins, (refl, are_fit), refl)
      (stands_for started-fit))

  -- a put of a source that is too long is given up
  pub long-put : Answers (PutUnder held_name) (reading set_up_records source) (reading started_records [])
      (ends 16)
  long-put = AnswersPut.given_up set_up_records bytes (reading-sure source).known.opened refl begins stops
      long-runs (part-left set_up_records held_name bytes None (reading set_up_records source)
      (reading started_records []) (reading-sure source).known.opened (refl, are_fit) (MayName.none refl) refl
      long-runs)
