use Rattle.record_codec.proofs.Words.{◌++◌, ◌∙◌, ℕ, List, ap, sym, spelling}
use Rattle.record_codec.proofs.Takes.{one_front}
use Rattle.record_codec.proofs.laws.one_spelling.Goals as goal

pub returns : goal.returns
returns c = λ a b front other x y s t e.
    let same = one_front a b x y s.in_grammar t.in_grammar
    (ap (λ (l : List ℕ). l ++ x) (sym s.bytes_are) ∙ e ∙ ap (λ (l : List ℕ). l ++ y) t.bytes_are) in
    (same.0, s.bytes_are ∙ ap spelling same.0 ∙ sym t.bytes_are, same.1)
