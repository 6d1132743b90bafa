-- A disk before its first use, and the state before the first event.
use Rattle.hail_client.proofs.Words.{◌≡◌, ◌⊎◌, inl, inr, ℕ, zero, suc, ◌<◌, false, List, [], ◌∷◌, Option, Some, None, refl, ap, sym, subst, ◌∙◌, arith, Cells, reads, firm, loose_from, IsTrue, IsSome, slice_get, list_all, Provider, Record, SetUp, is_in_grammar, Area, A, StandsActive, State, IsStart, AreFirst, IsFresh, StandsForState, Devices, AreDevices, provider_or_empty, start_of, TellAll, Shows, bytes-shown}
use Rattle.std.proofs.Common.{true, length}
use Rattle.record_defs.specs.Records.{Setup}

-- cells of which none is loose
none-loose : (at : ℕ) (cells : Cells) → loose_from at cells ≡ [] → cells ≡ firm (reads cells)
none-loose at [] e = refl
none-loose at ((b, false) ∷ cells) e = ap (λ (l : Cells). (b, false) ∷ l) (none-loose (suc at) cells e)
none-loose at ((b, true) ∷ cells) e = absurd cc

fresh-reads : (bytes : List ℕ) (rs : List Record) (w : State) →
    ((bytes ≡ []) × (rs ≡ [])) ⊎ ((s : Setup) × (rs ≡ SetUp s ∷ []) × StandsActive bytes A rs) →
    w.journal ≡ rs → w.area ≡ A → Shows w bytes
fresh-reads bytes rs w (inl (empty, none)) same area =
    inl (inr (same ∙ none, (let e = ap length empty in omega (arith, e))))
fresh-reads bytes rs w (inr (s, one, stands)) same area =
    inl (inl (subst (λ (a : Area). StandsActive bytes a w.journal) (sym area)
    (subst (λ (l : List Record). StandsActive bytes A l) (sym same) stands)))

-- a disk before its first use stands for each state with its records, in area A
pub fresh-stands : (cells : Cells) (rs : List Record) (w : State) → IsFresh cells rs → w.journal ≡ rs →
    w.area ≡ A → StandsForState (Some cells) w
fresh-stands cells rs w fresh same area =
    subst (λ (c : Cells). StandsForState (Some c) w) (sym (none-loose 0 cells fresh.firm))
    (bytes-shown (reads cells) w (fresh-reads (reads cells) rs w fresh.stands same area))

-- ---- the state before the first event

fresh-first : (bytes : List ℕ) (rs : List Record) →
    ((bytes ≡ []) × (rs ≡ [])) ⊎ ((s : Setup) × (rs ≡ SetUp s ∷ []) × StandsActive bytes A rs) → AreFirst rs
fresh-first bytes rs (inl (empty, none)) = inl none
fresh-first bytes rs (inr (s, one, stands)) = inr
    (s, spelled (subst (λ (l : List Record). IsTrue (list_all is_in_grammar l)) one stands.holds.in_grammar), one)
  where
    spelled : IsTrue (list_all is_in_grammar (SetUp s ∷ [])) → IsTrue (is_in_grammar (SetUp s))
    spelled all = grind (arith, all)

-- over a disk before its first use there is a state before the first event
pub is-start : (d : Devices) (cells : Cells) (rs : List Record) → d.holds ≡ Some cells → IsFresh cells rs →
    IsStart (start_of d rs)
is-start d cells rs told fresh =
    record {
      records = fresh-first (reads cells) rs fresh.stands;
      journal = refl;
      first_area = refl;
      unswitched = refl;
      none_alone = refl;
      jobs = refl;
      first_job = refl;
      append = refl;
      doubt = refl;
      closed = refl;
      unbarred = refl;
    }

-- the provider of each place is the one handed in there
pub each-at : (ps : List Provider) (j : ℕ) → j < length ps → slice_get ps j ≡ Some (provider_or_empty ps j)
each-at [] j l = absurd (omega (arith, l))
each-at (p ∷ ps) zero l = refl
each-at (p ∷ ps) (suc j) l = each-at ps j (omega (arith, l))

-- where each provider handed in tells, so does each
pub start-tells : (ps : List Provider) → TellAll ps → (j : ℕ) → IsSome (provider_or_empty ps j).held
start-tells [] tell j = refl
start-tells (p ∷ ps) tell zero = tell zero p refl
start-tells (p ∷ ps) tell (suc j) = start-tells ps (λ k q h. tell (suc k) q h) j

-- devices with a disk before its first use are those of that state
pub are-devices : (d : Devices) (cells : Cells) (rs : List Record) → d.holds ≡ Some cells → IsFresh cells rs →
    AreDevices d (start_of d rs)
are-devices d cells rs told fresh = record {
  images = subst (λ (o : Option Cells). StandsForState o (start_of d rs)) (sym told)
      (fresh-stands cells rs (start_of d rs) fresh refl refl);
  faults = refl;
  providers = record { count = refl; each = each-at d.providers };
}

-- a disk that tells nothing
pub untold-start : (d : Devices) (rs : List Record) → d.holds ≡ None → AreFirst rs →
    IsStart (start_of d rs) × AreDevices d (start_of d rs)
untold-start d rs none first = (
  record {
    records = first;
    journal = refl;
    first_area = refl;
    unswitched = refl;
    none_alone = refl;
    jobs = refl;
    first_job = refl;
    append = refl;
    doubt = refl;
    closed = refl;
    unbarred = refl;
  },
  record {
    images = subst (λ (o : Option Cells). StandsForState o (start_of d rs)) (sym none) tt;
    faults = refl;
    providers = record { count = refl; each = each-at d.providers };
  },
)
