-- The statuses with which commands end, and those of a row with their causes.
use Rattle.command_laws.proofs.Words.{◌≡◌, ◌≢◌, ℕ, ◌+◌, ◌*◌, ◌⊎◌, true, false, List, Option, refl, ap, sym, ◌∙◌, inl, inr, arith, cases_lt, false≢true, IsShape, upto, Command, WritesLine, TellsLine, Seen, Ending, sinking, AnswersRow, Answers, is_ending}
use Rattle.code_defs.specs.DispersalCode.{AcceptsNone}
use Rattle.command_laws.proofs.Known.{ended-so, written-so}
use Rattle.command_laws.proofs.RowCauses.{row-so}
use Rattle.command_laws.proofs.Early.{IsEarly, command-cases}
use Rattle.std.proofs.Common.{◌||◌, ◌==◌, Bool}

-- ---- the statuses of commands

early-ending : {old new : Seen} {end : Ending} → IsEarly old new end → is_ending end.status ≡ true
early-ending E = ap is_ending E.refused.status_is ∙ E.ending

-- ---- the statuses of a row

module _ (n l b : ℕ) (seen : List (Option ℕ)) (old new : Seen) (end : Ending)
    (A : AnswersRow n l b seen end.status (sinking old new)) where
  row-ending : is_ending end.status ≡ true
  row-ending = row-so n l b seen old new end A is_ending refl refl refl refl refl

  -- a line that was written tells of no row lost, nor of numbers that are no shape
  written-not : (line : List ℕ) (m : ℕ) → WritesLine line end.status (sinking old new) → end.status ≡ m →
      ((m == 0) || (m == 15) || (m == 70)) ≡ false → ⊥
  written-not line m w is off = false≢true (sym off ∙ (ap told (sym is)
      ∙ written-so told line old new end refl refl refl w))
    where
      told : ℕ → Bool
      told k = (k == 0) || (k == 15) || (k == 70)

  told-twice : (line : List ℕ) → TellsLine 4 line end.status (sinking old new) →
      (end.status ≡ 4) ⊎ (end.status ≡ 70)
  told-twice line (inl w) = inl w.0
  told-twice line (inr (inl w)) = inl w.0
  told-twice line (inr (inr w)) = inr w.0

  -- a row that is told to be lost has no accepted polynomial
  pub row-none : IsShape n l b → end.status ≡ 4 → AcceptsNone (upto n) seen l b
  row-none shape is p accepted = written-not _ 4 (A.held shape p accepted) is refl

  -- numbers that are told to be no shape are none
  pub row-shapeless : end.status ≡ 20 → IsShape n l b → ⊥
  row-shapeless is shape =
      elim (told-twice _ (A.lost shape
      (λ p accepted. written-not _ 20 (A.held shape p accepted) is refl))) [
        | inl four ↦ (omega (arith, sym is ∙ four))
        | inr memory ↦ (omega (arith, sym is ∙ memory))
      ]

  -- a row whose numbers are no shape is told so, or finds no memory
  pub row-refused : (IsShape n l b → ⊥) → (end.status ≡ 20) ⊎ (end.status ≡ 70)
  row-refused none = (A.no_shape none).0

  -- a shape is one, or some bound of it fails
  pub row-shape : end.status ≡ 4 → IsShape n l b
  row-shape is = elim (cases_lt n 4) [
    | inl few ↦ never (λ s. omega (arith, s.0, few))
    | inr low ↦ elim (cases_lt 16 n) [
      | inl many ↦ never (λ s. omega (arith, s.1, many))
      | inr high ↦ elim (cases_lt l 1) [
        | inl none ↦ never (λ s. omega (arith, s.2, none))
        | inr some ↦ elim (cases_lt b 1) [
          | inl none ↦ never (λ s. omega (arith, s.3, none))
          | inr bad ↦ elim (cases_lt n (l + 2 * b + 1)) [
            | inl short ↦ never (λ s. omega (arith, s.4, short))
            | inr long ↦ (low, high, some, bad, long)
          ]
        ]
      ]
    ]
  ]
    where
      never : (IsShape n l b → ⊥) → IsShape n l b
      never none = elim (row-refused none) [
        | inl twenty ↦ absurd (omega (arith, sym is ∙ twenty))
        | inr memory ↦ absurd (omega (arith, sym is ∙ memory))
      ]

  -- a row of a shape with no accepted polynomial is told to be lost, or finds no memory
  pub row-lost : IsShape n l b → AcceptsNone (upto n) seen l b → (end.status ≡ 4) ⊎ (end.status ≡ 70)
  row-lost shape none = told-twice _ (A.lost shape none)

-- ---- all commands

-- every command ends with one of the statuses of a command whose words have a form
pub command-ending : (command : Command) (old new : Seen) (end : Ending) → Answers command old new end →
    is_ending end.status ≡ true
command-ending command old new end = command-cases early-ending
    (ended-so is_ending refl refl refl refl refl refl)
    (λ cut. elim cut [ inl e ↦ ap is_ending e | inr e ↦ ap is_ending e ])
    (λ n l b seen A. row-ending n l b seen old new end A.0) command

-- no command whose words have a form ends with status 2
pub never-two : (command : Command) (old new : Seen) (end : Ending) → Answers command old new end →
    end.status ≢ 2
never-two command old new end A two =
    false≢true (sym (ap is_ending two) ∙ command-ending command old new end A)
