use Rattle.provider_wire.proofs.Words.{◌++◌, ◌∙◌, ℕ, List, ap, sym, request_bytes}
use Rattle.provider_wire.proofs.Takes.{one_front}
use Rattle.provider_wire.proofs.laws.one_spelling.Goals as goal

pub returns : goal.returns
returns c = λ a b front other x y s t e.
    let same = one_front a b x y s.is_request t.is_request
    (ap (λ (l : List ℕ). l ++ x) (sym s.bytes_are) ∙ e ∙ ap (λ (l : List ℕ). l ++ y) t.bytes_are) in
    (same.0, s.bytes_are ∙ ap request_bytes same.0 ∙ sym t.bytes_are, same.1)
