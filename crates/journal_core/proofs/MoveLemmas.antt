-- The moves of an append, one after the other.
use Rattle.journal_core.proofs.Words.{◌≢◌, ◌+◌, ◌<◌, Bool, true, ◌++◌, length, drop, Option, Some, None, Result, Ok, Err, refl, sym, ap, ◌∙◌, subst, arith, append_assoc, length-append, IfSome, OnErr, option_map, length-map, Cells, firm, loose, written, Torn, Goes, IsClosed, IsInDoubt, IsAfterMoves}
use Rattle.std.proofs.Common.{◌≡◌, ℕ, zero, suc, false, List, [], ◌∷◌}
use Rattle.journal_core.proofs.CellLemmas.{written-behind, torn-behind, torn_gate, settled, settled-append, settled-firm, settled-loose}

-- what a disk tells after a call, if it tells
pub IfSome-mapped : (P Q : Cells → Type 0) (f : Cells → Cells) → ((cells : Cells) → P cells → Q (f cells)) →
    (old new : Option Cells) → new ≡ option_map f old → IfSome old P → IfSome new Q
IfSome-mapped P Q f step None new is held = subst (λ (o : Option Cells). IfSome o Q) (sym is) tt
IfSome-mapped P Q f step (Some cells) new is held =
    subst (λ (o : Option Cells). IfSome o Q) (sym is) (step cells held)

-- what holds of a disk after a call that goes so
pub IfSome-goes : (P Q : Cells → Type 0) (R : Cells → Cells → Type 0) →
    ((old new : Cells) → P old → R old new → Q new) → (old new : Option Cells) → Goes R old new →
    IfSome old P → IfSome new Q
IfSome-goes P Q R step None None goes held = tt
IfSome-goes P Q R step None (Some new) goes held = absurd goes
IfSome-goes P Q R step (Some old) None goes held = absurd goes
IfSome-goes P Q R step (Some old) (Some new) goes held = step old new held goes

-- what holds of a disk's cells holds of what follows from it on a disk that did not change
pub IfSome-same : (P Q : Cells → Type 0) → ((cells : Cells) → P cells → Q cells) → (old new : Option Cells) →
    new ≡ old → IfSome old P → IfSome new Q
IfSome-same P Q step None new is held = subst (λ (o : Option Cells). IfSome o Q) (sym is) tt
IfSome-same P Q step (Some cells) new is held =
    subst (λ (o : Option Cells). IfSome o Q) (sym is) (step cells held)

module _ (front body : List ℕ) where
  size : length (firm front) ≡ length front
  size = length-map front (λ b. (b, false))

  -- up to the gate, and what is behind it
  regroup : (c : ℕ × Bool) (rest : Cells) → firm front ++ (c ∷ rest) ≡ (firm front ++ c ∷ []) ++ rest
  regroup c rest = sym (append_assoc (firm front) (c ∷ []) rest)

  -- with its body written behind a closed gate, an append has made its first move
  pub body_written : (cells : Cells) → IsClosed front cells →
      IsAfterMoves 1 front body (written (length front + 1) body cells)
  body_written cells (gate, rest, shut, is) =
      let long : length front + 1 ≡ length (firm front ++ ((gate, false) ∷ [])) =
      omega (arith, length-append (firm front) ((gate, false) ∷ []), size) in (
        gate,
        drop (length body) rest,
        shut,
        ap (written (length front + 1) body) (is ∙ regroup (gate, false) rest)
            ∙ written-behind (firm front ++ ((gate, false) ∷ [])) rest (length front + 1) long body
            ∙ sym (regroup (gate, false) (loose body ++ drop (length body) rest)),
      )

  -- where that write failed, the gate is closed as before
  pub body_torn : (n : ℕ) (cells new : Cells) → IsClosed front cells → Torn (length front + 1) n cells new →
      IsClosed front new
  body_torn n cells new (gate, rest, shut, is) torn =
      let long : length front + 1 ≡ length (firm front ++ ((gate, false) ∷ [])) =
      omega (arith, length-append (firm front) ((gate, false) ∷ []), size) in
      let after = torn-behind (firm front ++ ((gate, false) ∷ [])) rest (length front + 1) long n new
      (subst (λ (c : Cells). Torn (length front + 1) n c new) (is ∙ regroup (gate, false) rest) torn) in
      (gate, after.0, shut, after.1 ∙ sym (regroup (gate, false) after.0))

  -- with its gate written, an append has made its third move
  pub gate_written : (cells : Cells) → IsAfterMoves 2 front body cells →
      IsAfterMoves 3 front body (written (length front) (1 ∷ []) cells)
  gate_written cells (gate, rest, shut, is) = (
    rest,
    ap (written (length front) (1 ∷ [])) is
        ∙ written-behind (firm front) ((gate, false) ∷ (firm body ++ rest)) (length front) (sym size)
        (1 ∷ []),
  )

  -- a gate whose write failed is in doubt
  pub gate_torn : (cells new : Cells) → IsAfterMoves 2 front body cells → Torn (length front) 1 cells new →
      IsInDoubt front body new
  gate_torn cells new (gate, rest, shut, is) torn =
      let after = torn_gate (firm front) (firm body ++ rest) (gate, false) (length front) new (sym size)
      (subst (λ (c : Cells). Torn (length front) 1 c new) is torn) in
      (after.0, rest, after.1)

  sync_around : (c : ℕ × Bool) (middle rest : Cells) →
      settled (firm front ++ (c ∷ (middle ++ rest)))
      ≡ firm front ++ ((c.0, false) ∷ (settled middle ++ settled rest))
  sync_around c middle rest = settled-append (firm front) (c ∷ (middle ++ rest))
      ∙ ap (λ (l : Cells). l ++ ((c.0, false) ∷ settled (middle ++ rest))) (settled-firm front)
      ∙ ap (λ (l : Cells). firm front ++ ((c.0, false) ∷ l)) (settled-append middle rest)

  body_synced : (cells : Cells) → IsAfterMoves 1 front body cells → IsAfterMoves 2 front body (settled cells)
  body_synced cells (gate, rest, shut, is) = (
    gate,
    settled rest,
    shut,
    ap settled is ∙ sync_around (gate, false) (loose body) rest
        ∙ ap (λ (l : Cells). firm front ++ ((gate, false) ∷ (l ++ settled rest))) (settled-loose body),
  )

  gate_synced : (cells : Cells) → IsAfterMoves 3 front body cells → IsAfterMoves 4 front body (settled cells)
  gate_synced cells (rest, is) = (
    settled rest,
    ap settled is ∙ sync_around (1, true) (firm body) rest
        ∙ ap (λ (l : Cells). firm front ++ ((1, false) ∷ (l ++ settled rest))) (settled-firm body),
  )

  -- with a sync, an append has made its second move, or its fourth
  pub synced : (moves : ℕ) → moves ≢ 0 → moves ≢ 2 → moves < 4 → (old new : Option Cells) →
      new ≡ option_map settled old → IfSome old (IsAfterMoves moves front body) →
      IfSome new (IsAfterMoves (moves + 1) front body)
  synced zero no_start no_gate few old new is held = absurd (no_start refl)
  synced (suc zero) no_start no_gate few old new is held = IfSome-mapped (IsAfterMoves 1 front body)
      (IsAfterMoves 2 front body) settled body_synced old new is held
  synced (suc (suc zero)) no_start no_gate few old new is held = absurd (no_gate refl)
  synced (suc (suc (suc zero))) no_start no_gate few old new is held = IfSome-mapped
      (IsAfterMoves 3 front body) (IsAfterMoves 4 front body) settled gate_synced old new is held
  synced (suc (suc (suc (suc n)))) no_start no_gate few old new is held = absurd (omega arith)

-- a statement that holds anyway holds on an Err
pub on_err : {T E : Type 0} (r : Result T E) (P : Type 0) → P → OnErr r P
on_err (Ok x) P p = tt
on_err (Err e) P p = p
