-- Blocks of files in effect, and of those that jobs work on, change only by replacements and by the stores of
-- repairs.
use Rattle.second_half_laws.proofs.Words.{◌⊎◌, refl, ap, ◌∙◌, inl, inr, arith, option_map, Contains, In, File, started_as, Pinned, Job, job_of, Store, Remove, State, Scrubbing, IsStart, file_in, block_to_store, Moment, now, IsRun, found_none, Block_is, Changes, changes, is_fair, store_place, contains_in, All, all, store_kinds, remove_kinds}
use Rattle.std.proofs.Common.{◌≡◌, ℕ, List, ◌∷◌, length, Some, None}
use Rattle.second_half_laws.specs.Stays.{IsScrubbed, Stays}

module _ (limit : ℕ) (start : State) (m : Moment) (ms : List Moment) (A : All start ms)
    (X : Changes limit (length ms) (now start ms) m.event m.outcome m.state) where
  -- the state after these moments
  abbrev w : State
  w = now start ms

  stays : (i o s : ℕ) → started_as w.records o ≡ None → ((x : Job) → job_of w.jobs x.number ≡ Some x →
      In o x.older → ⊥) → Stays w m i o s ⊎ IsScrubbed w m i o s
  stays i o s quiet no_older = elim (X.block i o s) [
    | Block_is.same e ↦ inl (inl e)
    | Block_is.replaced r ↦ inl (inr (inl r))
    | Block_is.stored x runs next_is told ↦
        elim (store_kinds x x.kind i o s refl (is_fair w x (Store i o s) next_is)) [
          | inl p ↦ absurd (let place = store_place w x p.0 p.1 i o s p.2 next_is in
              let st = A.pins.started x.number x p.0 p.1 runs p.2 place.0 (let l = place.1 in omega arith) in
              let z : None ≡ Some p.0 = cc in cc)
          | inr (repairs, pin) ↦ inl (inr (inr (record {
            job = x;
            runs = runs;
            repairs = repairs;
            next = next_is;
            told = told ∙ ap (λ kd. option_map (λ held. Some (block_to_store w x kd i o s))
                (w.providers i).held) repairs;
          })))
        ]
    | Block_is.scrubbed scrub rest alone head told ↦
        inr (record { scrub = scrub; runs = alone; rest = rest; next = head; told = told })
    | Block_is.removed x runs next_is ↦
        absurd (no_older x runs (remove_kinds x x.kind i o refl (is_fair w x (Remove i o) next_is)))
  ]

  in_effect_stays : (name : List ℕ) (file : File) (i s : ℕ) → file_in w name ≡ Some file →
      Stays w m i file.id s ⊎ IsScrubbed w m i file.id s
  in_effect_stays name file i s h = stays i file.id s (A.pins.sound.file name file h).1
      (λ x runs o. A.pins.older_out x.number x file.id name file runs o h refl)

  pinned_stays : (k : ℕ) (j : Job) (f : Pinned) (i s : ℕ) → job_of w.jobs k ≡ Some j → In f j.pinned →
      Stays w m i f.id s
  pinned_stays k j f i s runs_j p =
      elim (stays i f.id s (A.pins.pins k j f runs_j p).1
      (λ x runs o. A.pins.older_free x.number k x j f.id f runs o runs_j p refl)) [
        | inl same ↦ same
        | inr scrubs ↦ absurd (found_none w.jobs k j (A.numbers.idle.lone (Scrubbing scrubs.scrub)
            scrubs.runs) runs_j)
      ]

-- a block of a file in effect stays, or is replaced, or a repair or a scrub stores it
pub effect_stays : (limit : ℕ) (start : State) (m : Moment) (ms : List Moment) (name : List ℕ) (file : File)
    (j stripe : ℕ) → IsStart start → IsRun limit start (m ∷ ms) → file_in (now start ms) name ≡ Some file →
    Stays (now start ms) m j file.id stripe ⊎ IsScrubbed (now start ms) m j file.id stripe
effect_stays limit start m ms name file j stripe clean run h = (let A = all limit start clean ms run.2 in
    in_effect_stays limit start m ms A
    (changes limit (length ms) (now start ms) m.event m.outcome m.state A.numbers.idle run.1) name file j
    stripe h)

-- a block of a file that a job works on stays, or is replaced, or a repair stores it
pub work_stays : (limit : ℕ) (start : State) (m : Moment) (ms : List Moment) (number : ℕ) (job : Job)
    (file : Pinned) (j stripe : ℕ) → IsStart start → IsRun limit start (m ∷ ms) →
    job_of (now start ms).jobs number ≡ Some job → Contains job.pinned file →
    Stays (now start ms) m j file.id stripe
work_stays limit start m ms number job file j stripe clean run runs h =
    (let A = all limit start clean ms run.2 in
    pinned_stays limit start m ms A
    (changes limit (length ms) (now start ms) m.event m.outcome m.state A.numbers.idle run.1) number job file
    j stripe runs (contains_in job.pinned file h))
