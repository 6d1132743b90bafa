use Rattle.std.proofs.Common.{◌≡◌, ◌++◌, List, ℕ, Option, Some, ap, sym, ◌∙◌}
use Rattle.std.proofs.lemmas.List.{append_cancel_left}
use Rattle.device_defs.specs.Told.{told_then}
use Rattle.effect_laws.proofs.transcripts.written_texts_are_told.Goals as goal

pub returns : goal.returns
returns c = λ old new lines taken text written is same. (let e : Some (taken ++ lines) ≡ Some (taken ++ text)
    = ap (λ (o : Option (List ℕ)). told_then o lines) (sym is) ∙ (sym written ∙ same) in
    append_cancel_left taken lines text cc)
