-- What the words spell is read, and what is read is what they spell.
use Rattle.schedule_text.proofs.Words.{◌≡◌, List, [], ◌∷◌, Some, None, refl, inl, inr, ◌⊎◌, slice_index, eqb-true, eq-eqb, cond-cases, bind_some, PutJob, Init, Begin, BeginAt, Step, Alter, Lose, Stop, Continue, Instruction, Once, RunJob, Word, SpellsCommand, IsSkipped, setup_words_at, init_at, profile_at, put_at, get_at, drop_words_at, begun_at, begin_at, step_at, run_at, alter_at, lose_at, stop_at, apart_at, behind_at, line_at}
use Rattle.std.specs.Prelude.{◌==◌}
use Rattle.schedule_text.proofs.Fields.{numeral-again, number-again, bytes-again, key-again}
use Rattle.schedule_text.proofs.Forms.{behind-takes}

-- the words of a command are read as this command
pub line-spelled : (ws : List Word) (command : Instruction) → SpellsCommand ws command →
    line_at ws ≡ Some (Some command)
unfolding line_at behind_at init_at setup_words_at begin_at begun_at put_at profile_at get_at drop_words_at step_at run_at apart_at alter_at lose_at stop_at
line-spelled ws (Once (Init setup)) is = rw (
  is.8,
  number-again 8 is.0 _ setup.n is.9,
  number-again 8 is.1 _ setup.l is.10,
  number-again 8 is.2 _ setup.b is.11,
  number-again 8 is.3 _ setup.profile is.12,
  number-again 8 is.4 _ setup.rounds is.13,
  number-again 8 is.5 _ setup.picks is.14,
  number-again 16 is.6 _ setup.tolerance is.15,
  key-again is.7 [] setup.master is.16,
) refl
line-spelled ws (Once (Begin (PutJob name bytes))) is = rw (is.1, bytes-again is.0 [] bytes is.2) refl
line-spelled ws (Once (BeginAt profile name bytes)) is =
    rw (is.2, bytes-again is.0 _ bytes is.3, number-again 8 is.1 [] profile is.4) refl
line-spelled ws (Once (Step job)) is = rw (is.1, number-again 32 is.0 [] job is.2) refl
line-spelled ws (RunJob job) is = rw (is.1, number-again 32 is.0 [] job is.2) refl
line-spelled ws (Once (Alter provider object stripe place symbol)) is = rw (
  is.5,
  number-again 32 is.0 _ provider is.6,
  number-again 64 is.1 _ object is.7,
  number-again 32 is.2 _ stripe is.8,
  number-again 32 is.3 _ place is.9,
  numeral-again is.4 [] symbol is.10.0,
) refl
line-spelled ws (Once (Lose provider object stripe)) is = rw (
  is.3,
  number-again 32 is.0 _ provider is.4,
  number-again 64 is.1 _ object is.5,
  number-again 32 is.2 [] stripe is.6,
) refl
line-spelled ws (Once (Stop picks)) is = rw (is.1, bytes-again is.0 [] picks is.2) refl
line-spelled ws (Once Continue) is = absurd is
line-spelled ws (Once event) is = rw is refl

-- a line that is skipped
pub line-skipped : (ws : List Word) → IsSkipped ws → line_at ws ≡ Some None
unfolding line_at
line-skipped [] is = refl
line-skipped (word ∷ ws) is = rw (eq-eqb (slice_index word 0) 35 is) refl

-- what is read as skipped is skipped
pub skipped-line : (ws : List Word) → line_at ws ≡ Some None → IsSkipped ws
unfolding line_at
skipped-line [] e = tt
skipped-line (word ∷ ws) e =
    elim (cond-cases (slice_index word 0 == 35) (Some None) _ (Some None) e) [
      | inl comment ↦ eqb-true (slice_index word 0) 35 comment.0
      | inr other ↦
          let a = bind_some (behind_at word ws) (λ command. Some (Some command)) None other.1 in
          absurd (cc a.2)
    ]

-- what is read as a command spells it
pub spelled-line : (ws : List Word) (command : Instruction) → line_at ws ≡ Some (Some command) →
    SpellsCommand ws command
unfolding line_at
spelled-line [] command e = absurd (cc e)
spelled-line (word ∷ ws) command e =
    elim (cond-cases (slice_index word 0 == 35) (Some None) _ _ e) [
      | inl comment ↦ absurd (cc comment.1)
      | inr other ↦
          let a = bind_some (behind_at word ws) (λ command. Some (Some command)) (Some command) other.1 in
          behind-takes word ws command (cc (a.1, a.2))
    ]

-- where nothing is read, the line is outside the grammar
pub line-none : (ws : List Word) → line_at ws ≡ None →
    IsSkipped ws ⊎ ((command : Instruction) × SpellsCommand ws command) → ⊥
line-none ws e (inl skipped) = cc (line-skipped ws skipped, e)
line-none ws e (inr spelled) = cc (line-spelled ws spelled.0 spelled.1, e)

-- a line is not skipped and spelled, and it spells one command
pub spelled-not_skipped : (ws : List Word) (command : Instruction) → IsSkipped ws → SpellsCommand ws command →
    ⊥
spelled-not_skipped ws command skipped spelled = cc (line-skipped ws skipped, line-spelled ws command spelled)

-- words spell one command
pub Spells-once : (ws : List Word) (command other : Instruction) → SpellsCommand ws command →
    SpellsCommand ws other → command ≡ other
Spells-once ws command other first second = cc (line-spelled ws command first, line-spelled ws other second)
