-- The replay in which a put of other bytes is cut, and the names are listed: its run is computed from the turns of its
-- jobs.
use Rattle.stories.proofs.Words.{◌and◌, ◌≡◌, ◌∙◌, ℕ, Bool, true, false, String, Global, List, [], ◌∷◌, ◌++◌, refl, ap, sym, inl, inr, arith, lit≤, reverse, false≢true, digits, carries, Dropped, IsPutBegin, BeginAt, Listed, Names, Stop, DropJob, NonePuts, AsksPutsOnly, block_sized, own_work, byte_back, actions_of, Goes, Notes, Gives, byte-fit, fits, sure, AreFitIn, read, are-lines, named, lines, IsSchedule, AnswersReplay, IsReplayForm, Once, before_text, first_state, other_byte, put_cut, third, second_file, dropped_behind, listed_text, listed_lines, listed_commands, listed_outcomes, listed_records, four_given, behind_listed, listed_end, IsToldReplay}
use Rattle.record_defs.specs.Records.{PutStart}
use Rattle.machine_defs.specs.Events.{Event, Step}
use Rattle.damage_run.specs.Words.{PutJob, Put, Begin, Reopen, State, setup_in, Moment, Instruction, Turned, Turns, Begins, Reopens, Stops, Comes}
use Rattle.command_runs.specs.Words.{A}
use Rattle.stories.specs.Replays.{second}
use Rattle.stories.proofs.Behind.{AreFitBehind}
use Rattle.stories.proofs.ByteReplay.{put, get_all, fit-put}
use Rattle.stories.proofs.Reopened as reopened
use Rattle.stories.proofs.Replayed as replayed
use Rattle.stories.proofs.ToldBy.{told-by}

-- the text spells the commands
spelled : IsSchedule listed_text (reverse listed_commands)
unfolding read
spelled = are-lines (lines listed_text) (reverse listed_commands) refl

abbrev cut : List Instruction
cut = Reopens ∷ Stops [] ∷ Turned 2 (Notes (PutStart 2 named)) ∷ Begins (Begin (PutJob named other_byte)) ∷ put

abbrev got : List Instruction
got = get_all 3 cut

abbrev listed : List Instruction
listed = Comes Names (Listed (second_file ∷ [])) (λ w. w) ∷ Turns 5 (Gives Dropped ∷ Goes 8 ∷ [])
    ∷ Begins (Begin (DropJob named)) ∷ Turns 4 (Gives Put ∷ Goes 12 ∷ []) ∷ Begins (Begin (PutJob second other_byte)) ∷ got

-- a journal may hold the records
listed-fit : AreFitIn A listed_records
listed-fit = fits refl (refl, (refl, (refl, byte-fit.accepted))) (omega arith)

module _ (start : State) (before : List Moment) where
  abbrev first : List Moment
  first = reopened.first start before

  fit-cut : AreFitBehind start first cut
  unfolding setup_in actions_of
  fit-cut = ((refl, refl), (refl, ((omega arith, (assumption)), ((assumption), fit-put start before))))

  fit-got : AreFitBehind start first got
  unfolding setup_in actions_of
  fit-got = (omega arith, assumption (byte_back, own_work, block_sized 3, block_sized 2, block_sized 1, block_sized 0))
      and (assumption) and fit-cut

  fit-listed : AreFitBehind start first listed
  unfolding setup_in actions_of
  fit-listed = (tt, (refl, refl)) and (omega arith, (assumption)) and (assumption) and (omega arith, (assumption))
      and (assumption) and fit-got

-- the replay
listed-replayed : AnswersReplay (before_text listed_text) behind_listed listed_end
unfolding setup_in actions_of digits
listed-replayed = replayed.answers listed_text listed_lines (Once Names) dropped_behind (four_given 3) behind_listed refl
    spelled (record { are_bytes = refl; front = refl; few = lit≤ tt; end = λ l. refl }) (lit≤ tt)
    (λ start before L. replayed.goes-so listed _ _ _ _ start before L (fit-listed start before)
    (carries (reopened.found start before) (replayed.alone-of listed start before) refl) refl
    ((sure behind_listed listed_records listed-fit refl (omega arith)).images) refl refl refl refl)

-- its text and what it wrote tell it
pub told : (words : List (String Global)) → IsReplayForm words →
    IsToldReplay words listed_text listed_commands listed_outcomes first_state [] (before_text listed_text)
    behind_listed listed_end
unfolding digits
told = told-by listed_text listed_commands listed_outcomes behind_listed (four_given 3) listed-replayed (assumption)
    spelled refl refl refl (
      record { few = omega arith; each = (record { name = refl; size = omega arith }, tt) },
      (tt, (omega arith, (tt, (omega arith, (tt, (omega arith, (tt, (tt, (tt, (omega arith, (tt, (omega arith, (tt, tt))))))))))))),
    )

-- ---- names and puts

-- an event is the begin of a put, as a test
abbrev is_put : Event → Bool
is_put (Begin (PutJob name bytes)) = true
is_put (BeginAt profile name bytes) = true
is_put event = false

no_put : (event : Event) (name bytes : List ℕ) → is_put event ≡ false → IsPutBegin event name bytes → ⊥
no_put event name bytes test (inl is) = false≢true (sym test ∙ ap is_put is)
no_put event name bytes test (inr (profile, is)) = false≢true (sym test ∙ ap is_put is)

same_bytes : (bytes : List ℕ) → IsPutBegin (Begin (PutJob named other_byte)) named bytes → bytes ≡ other_byte
same_bytes bytes (inl is) = (let e : Begin (PutJob named other_byte) ≡ Begin (PutJob named bytes) = is in
    let f : other_byte ≡ bytes = cc in sym f)
same_bytes bytes (inr (profile, is)) =
    absurd (let e : Begin (PutJob named other_byte) ≡ BeginAt profile named bytes = is in cc)

-- each put of the name behind the first is of the other byte
pub only-other : AsksPutsOnly named other_byte put_cut
only-other = (λ q is. absurd (no_put Reopen named q refl is)) and (λ q is. absurd (no_put (Stop []) named q refl is))
    and (λ q is. absurd (no_put (Step 2) named q refl is)) and same_bytes and tt

-- the names are three
first_apart : (x y : ℕ) → (x ≡ y → ⊥) → ◌≡◌ {A = List ℕ} (x ∷ []) (y ∷ []) → ⊥
first_apart x y none is = none (same is)
  where
    same : ◌≡◌ {A = List ℕ} (x ∷ []) (y ∷ []) → x ≡ y
    same e = cc

pub not-second : named ≡ second → ⊥
not-second = first_apart 97 98 (λ is. omega (arith, is))

pub not-named : second ≡ named → ⊥
not-named = first_apart 98 97 (λ is. omega (arith, is))

-- nobody puts the third
pub no-third : NonePuts third dropped_behind
no-third = (λ on. on) and b and (λ on. on) and (λ on. on) and (λ on. on) and (λ on. on) and a and a and (λ on. on) and tt
  where
    a : named ≡ third → ⊥
    a = first_apart 97 99 (λ is. omega (arith, is))

    b : second ≡ third → ⊥
    b = first_apart 98 99 (λ is. omega (arith, is))
