-- Puts that are given up, from every state that was just opened: what was read is stored stripe by stripe,
-- and no end is appended.
use Rattle.std.specs.List.{list_all}
use Rattle.command_runs.proofs.Words.{◌≡◌, ℕ, zero, suc, ◌+◌, ◌<◌, ◌≤◌, List, [], length, take, drop, Option, None, Some, refl, ap, sym, subst, ◌∙◌, inl, inr, arith, length-take-le, length-replicate, take-append-drop, take-append-le, setup, first-begins, never-rises, Rose, largest_file, spelling, PutJob, stripes_of, AreBytes, empty_provider, PutUnder, Seen, provider_at, refusal_over, put_stripe, StopsReading, PartRuns, AnswersPut, Answers, IsSure, put_of, ends, named, four_records, sevens, long, first_stripe, longest_part, holds_stripes, storing, to_put_source, put_given_up, put_too_long}
use Rattle.std.proofs.lemmas.List.Folds.{list_all-append}
use Rattle.job_laws.proofs.Parts.{part-left}
use Rattle.made_runs.proofs.Steps.{first}
use Rattle.command_runs.specs.Words.{A, MayName}
use Rattle.turn_laws.proofs.Parts.{part-so}
use Rattle.command_runs.proofs.Stores.{four-fit, started-fit, four, sure, stands_for}

-- ---- a put of these bytes up to its last append

-- before it
abbrev pub old-sure : (source : List ℕ) → IsSure (to_put_source source) four_records
old-sure source = sure (to_put_source source) four_records four-fit refl (omega arith)

module _ (bytes : List ℕ) (are : AreBytes bytes) (short : length bytes ≤ largest_file)
    (source left : List ℕ) (faults : ℕ) where
  -- its stripes
  abbrev many : ℕ
  many = stripes_of setup (length bytes)

  -- what is seen once they are stored
  abbrev new : Seen
  new = record (storing bytes many) { source = Some left; source_faults = faults }

  begins : refusal_over A four_records (PutJob named bytes) None ≡ None
  begins = first-begins A setup named bytes refl short

  -- so it runs from every state just opened over the store
  pub runs : PartRuns A four_records named bytes None (to_put_source source) new
  unfolding spelling
  runs = part-so 1 1 bytes empty_provider (to_put_source source) new
      (refl, refl, refl, refl, begins, (refl, are), refl) (stands_for started-fit)

  -- the put ends so where its source is read no further
  pub ends-so : (status : ℕ) → StopsReading (put_stripe four_records None) bytes (to_put_source source) new
      (ends status) → Answers (PutUnder named) (to_put_source source) new (ends status)
  ends-so status stops = AnswersPut.given_up four_records bytes (old-sure source).known.opened refl begins
      stops runs (part-left four_records named bytes None (to_put_source source) new
      (old-sure source).known.opened (refl, are) (MayName.none refl) refl runs)

-- ---- a source that fails behind its first stripe

-- the put's job runs so far
pub given_up-runs : PartRuns A four_records named first_stripe None (to_put_source long) put_given_up
given_up-runs = runs first_stripe refl (omega arith) long [] 1

-- the put ends with status 14
pub given_up : Answers (PutUnder named) (to_put_source long) put_given_up (ends 14)
given_up = ends-so first_stripe refl (omega arith) long [] 1 14 (record {
  read = long;
  are_bytes = refl;
  front = refl;
  stripes = 1;
  bytes_are = refl;
  whole = refl;
  rest = omega arith;
  cause = inl (refl, omega arith, λ l. omega arith);
  place = refl;
  heard = refl;
  sink = refl;
})

-- ---- a source with more bytes than a file may have

-- one more is less than a stripe more
one-less : (a b : ℕ) → a ≡ b + 1 → a < b + 32
one-less a b e = omega (arith, e)

module _ (source : List ℕ) (are : AreBytes source) (more : largest_file < length source) where
  read-long : length (take (largest_file + 1) source) ≡ largest_file + 1
  read-long = length-take-le (largest_file + 1) source (omega (arith, more))

  part-long : length (longest_part source) ≡ largest_file
  part-long = length-take-le largest_file source (omega (arith, more))

  -- its first bytes are bytes
  bytes-up : (k : ℕ) → AreBytes (take k source)
  bytes-up k = first _ _ (sym (list_all-append _ (take k source) (drop k source))
      ∙ (ap (list_all _) (take-append-drop k source) ∙ are))

  -- the put ends with status 16
  pub too_long : Answers (PutUnder named) (to_put_source source) (put_too_long source) (ends 16)
  too_long = ends-so (longest_part source) (bytes-up largest_file) (omega (arith, part-long)) source
      (drop (largest_file + 1) source) 0 16 (record {
        read = take (largest_file + 1) source;
        are_bytes = bytes-up (largest_file + 1);
        front = ap Some (sym (take-append-drop (largest_file + 1) source));
        stripes = 131072;
        bytes_are = ap (take largest_file) (sym (take-append-drop (largest_file + 1) source))
            ∙ take-append-le largest_file (take (largest_file + 1) source) (drop (largest_file + 1) source)
            (omega (arith, read-long));
        whole = part-long;
        rest = one-less (length (take (largest_file + 1) source)) (length (longest_part source))
            (read-long ∙ ap (λ k. k + 1) (sym part-long));
        cause = inr (refl, read-long);
        place = refl;
        heard = refl;
        sink = refl;
      })

-- no store of it failed
never-failed : (bytes : List ℕ) (j t : ℕ) → (holds_stripes bytes j t).store_faults ≡ 0
never-failed bytes j zero = refl
never-failed bytes j (suc t) = never-failed bytes j t

-- no count of failed stores rose in it
pub calm : (source : List ℕ) (j : ℕ) → j < 4 →
    Rose (provider_at (to_put_source source).providers j).store_faults
    (provider_at (put_too_long source).providers j).store_faults → ⊥
calm source = four _ (on 0) (on 1) (on 2) (on 3)
  where
    on : (j : ℕ) → Rose 0 (holds_stripes (longest_part source) j
        (stripes_of setup (length (longest_part source)))).store_faults → ⊥
    on j = subst (λ k. Rose 0 k → ⊥) (sym (never-failed (longest_part source) j
        (stripes_of setup (length (longest_part source))))) (never-rises 0 (omega arith))

-- ---- there are sources of each length

-- so many equal bytes are bytes
pub sevens-bytes : (k : ℕ) → AreBytes (sevens k)
sevens-bytes zero = refl
sevens-bytes (suc k) = sevens-bytes k

-- one more than a number of them is more
pub sevens-long : (k : ℕ) → k < length (sevens (k + 1))
sevens-long k = (let seven : ℕ = 7 in let e = length-replicate (k + 1) seven in omega (arith, e))

-- what is said of a put that is told by its words, and names no profile
pub by-words : (Said : List ℕ → Option ℕ → Type 0) (it name : List ℕ) (own : Option ℕ) →
    PutUnder it ≡ put_of name own → Said name own → Said it None
by-words Said it name None e said = subst (λ m. Said m None) (let f : name ≡ it = cc in f) said
by-words Said it name (Some profile) e said = absurd (cc e)
