use Rattle.command_lines.proofs.Words.{◌≡◌, ◌≢◌, ℕ, List, [], ◌∷◌, length, false, Err, inl, inr, refl, ap, ◌==◌}
use Rattle.stream_model.specs.declared.fault.WriteFault.{WriteFault}
use Rattle.command_lines.proofs.write.write_text.Goals as goal

some_text : (text : List ℕ) → false ≡ (length text == 0) → text ≢ []
some_text [] not_empty is = absurd cc
some_text (c ∷ text) not_empty is = absurd cc

pub returns-in-Ok-clause-writes : goal.returns-in-Ok-clause-writes
returns-in-Ok-clause-writes g c = inl (refl, c.in-Ok.ensures.ok)

pub returns-in-Err-Failed-clause-writes : goal.returns-in-Err-Failed-clause-writes
returns-in-Err-Failed-clause-writes g c = inr (inl (
  some_text c.args.text.now c.if-is_empty.ensures,
  refl,
  c.in-Err-Failed.ensures.cause.rose (ap (λ (f : WriteFault). Err f) c.in-Err-Failed.field-0-is),
  c.in-Err-Failed.ensures.err,
))

pub returns-in-Err-Memory-clause-writes : goal.returns-in-Err-Memory-clause-writes
returns-in-Err-Memory-clause-writes g c = inr (inr (refl, c.in-Err-Memory.ensures.err))
