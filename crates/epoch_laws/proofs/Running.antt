-- What holds of a scrub while it runs.
use Rattle.epoch_laws.proofs.Words.{◌≡◌, ℕ, List, [], ◌∷◌, length, Some, sym, ◌∙◌, inl, inr, false≢true, some-not-none, AllTell, Moment, IsRun, now, scrubbed, IsScrubCalm, State, Scrub, Scrubbing, IsStart, scrub_marked, all_tell, marked_scrubs, calm_scrub, scrub_was}
use Rattle.machine_defs.specs.Begins.{pinned_file}
use Rattle.machine_defs.proofs.Events.{changes}
use Rattle.machine_defs.proofs.Held.{all}
use Rattle.run_laws.proofs.InEffect as eff
use Rattle.second_half_laws.proofs.ScrubFacts.{Scrubbed, right}
use Rattle.second_half_laws.proofs.Swept.{Swept, swept_step}
use Rattle.epoch_laws.specs.Sweeping.{HasSweptSoFar}

-- a front of a run that is calm counted from finished scrubs is so
before : (start : State) (m : Moment) (ms : List Moment) → IsScrubCalm start (m ∷ ms) → IsScrubCalm start ms
before start m ms calm = record { jobs = calm.jobs.1; scrubs = calm.scrubs.1 }

module _ (limit : ℕ) (start : State) (clean : IsStart start) (tell : AllTell start) where
  -- what its opened stripes are and what it stores
  known : (ms : List Moment) → IsRun limit start ms → IsScrubCalm start ms → (scrub : Scrub) →
      (now start ms).alone ≡ Some (Scrubbing scrub) → Scrubbed (scrubbed start) start ms scrub
  known ms run calm = marked_scrubs limit (scrubbed start) start clean tell ms run calm.scrubs
      (scrub_marked limit start ms clean tell run calm).marks

  -- and what it has swept
  swept : (ms : List Moment) → IsRun limit start ms → IsScrubCalm start ms → (scrub : Scrub) →
      (now start ms).alone ≡ Some (Scrubbing scrub) → Swept start ms scrub
  swept [] run calm scrub at = absurd (some-not-none start.alone (Scrubbing scrub) at clean.none_alone)
  swept (m ∷ ms) run calm scrub at = (let A = all limit start clean ms run.2 in
      swept_step limit (scrubbed start) start m ms A (eff.facts limit start ms clean run.2)
      (changes limit (length ms) (now start ms) m.event m.outcome m.state A.numbers.idle run.1)
      (all_tell limit start ms tell run.2)
      (known ms run.2 (before start m ms calm)) (swept ms run.2 (before start m ms calm))
      (calm_scrub (scrubbed start) start clean ms (before start m ms calm).scrubs)
      (scrub_was limit start m ms clean run) scrub at)

  pub so-far : (ms : List Moment) (scrub : Scrub) → IsRun limit start ms → IsScrubCalm start ms →
      (now start ms).alone ≡ Some (Scrubbing scrub) → HasSweptSoFar start ms scrub
  so-far ms scrub run calm at =
      (let K = known ms run calm scrub at in let S = swept ms run calm scrub at in record {
        files = S.all;
        opened = λ name file h stripe symbols given.
            K.rows (pinned_file (now start ms) file) stripe symbols (S.all name file h) given;
        stores = λ name file h j stripe rest next.
            right (scrubbed start) start ms (all limit start clean ms run) scrub K
            (pinned_file (now start ms) file) rest j stripe (S.all name file h) next;
        fetched = λ name file h j stripe block held given unreplaced told.
            S.seen (pinned_file (now start ms) file) j stripe block held (S.all name file h) given unreplaced told;
        done = λ name file h j stripe held l k none unreplaced told.
            elim (S.left (pinned_file (now start ms) file) j stripe held (S.all name file h) l k told) [
              | inl own ↦ own
              | inr (inl r) ↦ absurd (false≢true (sym unreplaced ∙ r))
              | inr (inr todo) ↦ absurd (none todo)
            ];
      })
