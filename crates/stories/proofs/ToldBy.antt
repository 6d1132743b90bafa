-- Replays that are given outright, as their texts and what they wrote tell them.
use Rattle.stories.proofs.Words.{start-tells, AllTell, none_hold, ◌≡◌, ◌≤◌, ℕ, true, List, [], ◌∷◌, ◌++◌, String, length, Some, Global, refl, ap, ◌∙◌, inr, arith, reverse, AllByRecursion, no-form, form-words, calls_none, IsToldButBlocks, tested_calls, AreFew, firm, text, spelling, IsFresh, Entry, Seen, lines_of_all, four_records, ends_hearing, IsSchedule, devices_of_seen, AnswersReplay, IsReplayForm, AreLeft, called_behind, AnswersWords, before_byte, before_text, first_state, IsToldReplay}
use Rattle.record_defs.specs.Examples.{four}
use Rattle.hail_replay.specs.declared.forms.Form.TheVariants as forms
use Rattle.epoch_laws.proofs.Epochs.{setup_stays}
use Rattle.stories.specs.Words.{Setup, IsRun, Outcome, Moment, now, setup_in, Instruction}
use Rattle.stories.proofs.Asked.{IsIdle, falls, first-left, none-tell}
use Rattle.stories.proofs.Reopened.{four-stands}

-- the devices before each of them are left by the run of no event
fresh : IsFresh (firm (text four_records)) four_records
unfolding spelling
fresh = record { firm = refl; stands = inr (four, refl, four-stands) }

pub left : AreLeft first_state [] (devices_of_seen before_byte)
left = first-left before_byte _ four_records refl fresh

-- each provider tells
pub tells : AllTell first_state
tells = start-tells none_hold none-tell

-- words that spell a replay are answered as a replay is
pub answered : (text : List ℕ) (new : Seen) (heard : List Entry) →
    AnswersReplay (before_text text) new (ends_hearing 0 heard) → IsIdle (before_text text) new →
    (words : List (String Global)) → IsReplayForm words →
    AnswersWords words (before_text text) new (ends_hearing 0 heard)
answered text new heard answers idle words spells = form-words words forms.Replay _ _ _
    (λ command is. no-form words command forms.Replay is spells) spells answers (falls _ _ idle)

-- so it is told
pub told-by : (text : List ℕ) (commands : List Instruction) (outcomes : List Outcome) (new : Seen)
    (heard : List Entry) → AnswersReplay (before_text text) new (ends_hearing 0 heard) →
    IsIdle (before_text text) new → IsSchedule text (reverse commands) → calls_none commands ≡ true →
    new.sink ≡ Some (lines_of_all outcomes) → length outcomes ≡ length commands →
    AllByRecursion IsToldButBlocks outcomes → (words : List (String Global)) → IsReplayForm words →
    IsToldReplay words text commands outcomes first_state [] (before_text text) new (ends_hearing 0 heard)
told-by text commands outcomes new heard answers idle spells calls sunk many told words form = record {
  form = form;
  source = refl;
  spells = spells;
  answers = answered text new heard answers idle words form;
  done = refl;
  disk = refl;
  left = left;
  none_calls = tested_calls commands calls;
  taken = [];
  before = refl;
  behind = sunk;
  as_many = many;
  told = told;
}

-- the setup behind them is that of the store
pub same-setup : (ms : List Moment) → IsRun 8 first_state (ms ++ called_behind first_state []) →
    setup_in (now first_state (ms ++ called_behind first_state [])) ≡ four
unfolding setup_in
same-setup ms run = setup_stays 8 first_state ms (called_behind first_state []) left.starts run refl

-- two lists of one provider name few
pub ones-few : (p q : ℕ) (ms : List Moment) → IsRun 8 first_state (ms ++ called_behind first_state []) →
    AreFew ((p ∷ []) ∷ (q ∷ []) ∷ []) (now first_state (ms ++ called_behind first_state []))
ones-few p q ms run = (let e = ap (λ (s : Setup). s.b) (same-setup ms run) in
    let one : 1 ≤ (setup_in (now first_state (ms ++ called_behind first_state []))).b = omega (arith, e) in
    (one, (one, tt)))
