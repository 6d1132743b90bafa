-- The record that ends a put, whatever the version.
use Rattle.machine_defs.proofs.Words.{◌≡◌, cond, refl, sym, subst, inl, inr, cases_Bool, Record, PutDone, PutDoneIn, file_as, profile_in, setup_of, started_as, is_start_of, file_of, done_record}
use Rattle.std.proofs.Common.{ℕ, ◌==◌, List, ◌∷◌, Option, Some, None}
use Rattle.machine_defs.proofs.JobLists.{cond_true, cond_false}

-- the number of the put that a record ends
abbrev pub put_ended : Record → Option ℕ
put_ended (PutDone id size) = Some id
put_ended (PutDoneIn id size profile) = Some id
put_ended r = None

-- the profile that a put's end gives its file
abbrev pub profile_done : ℕ → List Record → ℕ → ℕ
profile_done version rs profile = cond (version == 2) profile (profile_in (setup_of rs))

module _ (version id size profile : ℕ) where
  -- what holds of a put's end in both versions holds of it in each
  pub by_version : (P : Record → Type 0) → P (PutDoneIn id size profile) → P (PutDone id size) →
      P (done_record version id size profile)
  by_version P new old = elim (cases_Bool (version == 2)) [
    | inl t ↦ subst P (sym (cond_true (version == 2) (PutDoneIn id size profile) (PutDone id size) t)) new
    | inr f ↦ subst P (sym (cond_false (version == 2) (PutDoneIn id size profile) (PutDone id size) f)) old
  ]

  -- a put's end leaves the setup
  pub done-setup : (rs : List Record) → setup_of (done_record version id size profile ∷ rs) ≡ setup_of rs
  done-setup rs = by_version (λ r. setup_of (r ∷ rs) ≡ setup_of rs) refl refl

  -- a put's end ends the start of its number, and leaves that of any other
  pub done-started : (rs : List Record) (k : ℕ) → started_as (done_record version id size profile ∷ rs) k
      ≡ cond (id == k) None (started_as rs k)
  done-started rs k = by_version (λ r. started_as (r ∷ rs) k ≡ cond (id == k) None (started_as rs k)) refl
      refl

  -- a put's end ends the put of its number
  pub done-ended : put_ended (done_record version id size profile) ≡ Some id
  done-ended = by_version (λ r. put_ended r ≡ Some id) refl refl

  -- a put's end brings in its file, with the profile that the version gives
  pub done-file : (rs : List Record) (q : List ℕ) → file_of (done_record version id size profile ∷ rs) q
      ≡ cond (is_start_of q (started_as rs id)) (Some (file_as q id size (profile_done version rs profile)))
      (file_of rs q)
  done-file rs q = elim (cases_Bool (version == 2)) [
    | inl t ↦ (rw t refl)
    | inr f ↦ (rw f refl)
  ]
