-- What holds in runs that are calm, for the laws.
use Rattle.second_half_laws.proofs.Words.{true, ◌⊎◌, refl, sym, subst, inl, inr, arith, list_any, range_with_len, or_cases, false≢true, Object, stripes, columns, is_wrong, is_wrong_block, Record, File, Held, State, Doubt, IsStart, setup_in, object_in, file_object, file_in, Moment, IsRun, now, is_replaced_since, came, Mark, since, relies, IsCalm, is_wrong_told, is_wrong_now, AreScrubsCalm, begun_of, AllTell, told_block, IsBad, IsReplaced, IsEndOfPut, Never, PrecedesPuts, IsClear, IsMark, AreMarks, IsMarkedRun, IsCalmRun}
use Rattle.std.proofs.Common.{◌≡◌, ℕ, zero, suc, ◌+◌, ◌<◌, Bool, false, List, [], ◌∷◌, length, Option, Some, None}
use Rattle.second_half_laws.proofs.Blocks.{ends_ended}
use Rattle.second_half_laws.proofs.Points as pt
use Rattle.second_half_laws.proofs.EveryRun as ev
use Rattle.second_half_laws.proofs.EveryRun.{around}
use Rattle.second_half_laws.proofs.Points.{Facts, rows_right}
use Rattle.second_half_laws.proofs.ScrubFacts.{scrubs_right}
use Rattle.second_half_laws.proofs.Exact.{Owns, owns_on}
use Rattle.second_half_laws.proofs.SecondHalf.{start_moment, Both, both, marked_facts, marked_scrubs, are_marks}

-- in a run that is calm by a mark all that hangs on the mark holds
pub in_run : (limit : ℕ) (mark : Mark) (start : State) (ms : List Moment) → IsMarkedRun limit mark start ms →
    Facts mark start ms
in_run limit mark start ms h = marked_facts limit mark start h.clean h.tell ms h.run h.calm h.marks

-- in a calm run in which no audit missed damage all that hangs on settled audits holds
pub in_calm : (limit : ℕ) (start : State) (ms : List Moment) → IsCalmRun limit start ms → Both start ms
in_calm limit start ms h = both limit start h.clean h.tell ms h.run h.calm h.scrubs h.found

-- a calm run in which no audit missed damage is calm by a mark: the begin of the last settled audit
pub calm_marked : (limit : ℕ) (start : State) (ms : List Moment) → IsCalmRun limit start ms →
    IsMarkedRun limit (since start) start ms
calm_marked limit start ms h =
    record {
      clean = h.clean;
      tell = h.tell;
      run = h.run;
      calm = h.calm;
      marks = are_marks limit start h.clean h.tell ms h.run h.calm h.scrubs h.found;
    }

-- a provider that is wrong for a file has a bad block of a stripe of it
some_stripe : (f : ℕ → Bool) (a n : ℕ) → list_any f (range_with_len a n) ≡ true →
    (k : ℕ) × (k < a + n) × (f k ≡ true)
some_stripe f a zero h = absurd (false≢true h)
some_stripe f a (suc n) h = elim (or_cases (f a) (list_any f (range_with_len (a + 1) n)) h) [
  | inl t ↦ (a, omega arith, t)
  | inr r ↦ (let q = some_stripe f (a + 1) n r in (q.0, (omega (arith, q.1)), q.2))
]

wrong_stripe : (o : Object) (bytes : List ℕ) (j : ℕ) (held : ℕ → Option (List ℕ)) →
    is_wrong o bytes j held ≡ true → (s : ℕ) × (s < stripes o (length bytes)) ×
    (is_wrong_block o bytes j s (held s) ≡ true)
unfolding is_wrong
wrong_stripe o bytes j held h =
    (let q = some_stripe (λ s. is_wrong_block o bytes j s (held s)) 0 (stripes o (length bytes)) h in
    (q.0, (omega (arith, q.1)), q.2))

wrong_bad : (w : State) (f : File) (j : ℕ) → is_wrong_now w f j ≡ true →
    (s : ℕ) × (s < stripes (file_object w f) (length (w.bytes f.id))) × IsBad w f.profile f.id j s
wrong_bad w f j h = by_told (w.providers j).held refl h
  where
    by_told : (x : Option Held) → (w.providers j).held ≡ x → is_wrong_told w f j x ≡ true →
        (s : ℕ) × (s < stripes (file_object w f) (length (w.bytes f.id))) × IsBad w f.profile f.id j s
    by_told None is e = absurd (false≢true e)
    by_told (Some held) is e = (let q = wrong_stripe (file_object w f) (w.bytes f.id) j (held f.id) e in
        (q.0, q.1, (held f.id q.0, cc, q.2)))

-- where files are clear since a moment, a provider that is wrong for one was replaced since, or is exempt at
-- some stripe
pub clears : (start : State) (ms : List Moment) (from : ℕ) (Ex : ℕ → ℕ → ℕ → Type 0) (E : Type 0) →
    IsClear start ms from Ex → (name : List ℕ) (file : File) (j : ℕ) →
    file_in (now start ms) name ≡ Some file → j < (setup_in (now start ms)).n →
    is_wrong_now (now start ms) file j ≡ true → ((s : ℕ) → Ex j file.id s → E) → IsReplaced from j ms ⊎ E
clears start ms from Ex E clear name file j h l wrong out = (let q = wrong_bad (now start ms) file j wrong in
    elim (clear name file j q.0 h l q.1 q.2) [ inl r ↦ inl r | inr x ↦ inr (out q.0 x) ])

-- where files are clear since a moment, a provider that is wrong for one was replaced since then
pub clears_all : (start : State) (ms : List Moment) (from : ℕ) → IsClear start ms from Never →
    (name : List ℕ) (file : File) (j : ℕ) → file_in (now start ms) name ≡ Some file →
    j < (setup_in (now start ms)).n → is_wrong_now (now start ms) file j ≡ true → IsReplaced from j ms
clears_all start ms from clear name file j h l wrong =
    elim (clears start ms from Never ⊥ clear name file j h l wrong (λ s x. x))
    [ inl r ↦ r | inr x ↦ absurd x ]

-- a mark stays one
pub mark_stays : (limit : ℕ) (mark : Mark) (start : State) (m : Moment) (ms : List Moment) →
    IsMarkedRun limit mark start ms → AreScrubsCalm mark ms → IsRun limit start (m ∷ ms) → (from : ℕ) →
    IsMark start ms from → IsMark start (m ∷ ms) from
mark_stays limit mark start m ms h scrubs run from P = (let N = around limit start m ms h.clean run in
    pt.mark_on N
    (rows_right mark start ms (in_run limit mark start ms h))
    (scrubs_right mark start ms N.facts
    (marked_scrubs limit mark start h.clean h.tell ms run.2 scrubs h.marks))
    from P)

-- own columns stay so, since a moment before which no put began that works
pub owns_stay : (limit : ℕ) (mark : Mark) (start : State) (m : Moment) (ms : List Moment) →
    IsMarkedRun limit mark start ms → AreScrubsCalm mark ms → IsRun limit start (m ∷ ms) → (from : ℕ) →
    PrecedesPuts start ms from → Owns start ms from → Owns start (m ∷ ms) from
owns_stay limit mark start m ms h scrubs run from P owns = (let N = around limit start m ms h.clean run in
    owns_on N
    (rows_right mark start ms (in_run limit mark start ms h))
    (scrubs_right mark start ms N.facts
    (marked_scrubs limit mark start h.clean h.tell ms run.2 scrubs h.marks))
    from P owns)

-- where a put's end comes into effect
pub came_columns : (limit : ℕ) (start : State) (m : Moment) (ms : List Moment) (r : Record)
    (id size profile : ℕ) → IsStart start → IsRun limit start (m ∷ ms) →
    came (now start ms) m.state ≡ Some r → IsEndOfPut (now start ms).records r id size profile →
    (d : Doubt) × ((now start ms).doubt ≡ Some d) × (d.entry ≡ r) ×
    ((j stripe : ℕ) (block : Option (List ℕ)) → j < (setup_in m.state).n →
    stripe < stripes (object_in m.state profile id) (length (m.state.bytes id)) →
    is_replaced_since (begun_of d.maker) j (m ∷ ms) ≡ false →
    told_block m.state j id stripe ≡ Some block → block
    ≡ Some (columns (object_in m.state profile id) (m.state.bytes id) j stripe))
came_columns limit start m ms r id size profile clean run e ends =
    (let N = around limit start m ms clean run in
    let c = ev.put_came N r id (ends_ended _ r id size _ ends) e in (
      c.doubt,
      c.at,
      c.entry,
      λ j stripe block l b none told. ev.put_right N c.doubt id size profile j
          stripe block c.at (subst (λ x. IsEndOfPut (now start ms).records x id size profile) (sym c.entry)
          ends) c.setup l b none told,
    ))

-- a moment before which no put began that works stays one
pub before_stays : (limit : ℕ) (start : State) (m : Moment) (ms : List Moment) (from : ℕ) → IsStart start →
    IsRun limit start (m ∷ ms) → PrecedesPuts start ms from → PrecedesPuts start (m ∷ ms) from
before_stays limit start m ms from clean run P = ev.before_on (around limit start m ms clean run) from P

-- the start of a run, as a mark
start_marks : (limit : ℕ) (start : State) → IsStart start → AllTell start → (ms : List Moment) →
    IsRun limit start ms → IsCalm relies (λ hs. 0) ms → AreScrubsCalm (λ hs. 0) ms →
    AreMarks (λ hs. 0) start ms
start_marks limit start clean tell [] run calm scrubs = start_moment start clean
start_marks limit start clean tell (m ∷ ms) run calm scrubs =
    step (start_marks limit start clean tell ms run.2 calm.1 scrubs.1)
  where
    step : AreMarks (λ hs. 0) start ms → AreMarks (λ hs. 0) start (m ∷ ms)
    step marks = (let h : IsMarkedRun limit (λ hs. 0) start ms =
        record { clean = clean; tell = tell; run = run.2; calm = calm.1; marks = marks } in (
          mark_stays limit (λ hs. 0) start m ms h scrubs.1 run 0 (in_run limit (λ hs. 0) start ms h).moment,
          marks,
        ))

-- a run that is calm counted from its start has the start as a mark
pub start_marked : (limit : ℕ) (start : State) (ms : List Moment) → IsStart start → AllTell start →
    IsRun limit start ms → IsCalm relies (λ hs. 0) ms → AreScrubsCalm (λ hs. 0) ms →
    IsMarkedRun limit (λ hs. 0) start ms
start_marked limit start ms clean tell run calm scrubs =
    record {
      clean = clean;
      tell = tell;
      run = run;
      calm = calm;
      marks = start_marks limit start clean tell ms run calm scrubs;
    }
