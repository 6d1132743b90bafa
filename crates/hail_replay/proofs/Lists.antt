-- Lists of what jobs heard, one behind the other.
use Rattle.hail_replay.proofs.Words.{◌≡◌, List, [], ◌∷◌, ◌++◌, ap, sym, ◌∙◌, append-nil, Entry, joined}
use Rattle.std.proofs.lemmas.List.{append_assoc}

joined-push : (lists : List (List Entry)) (list : List Entry) →
    joined (lists ++ list ∷ []) ≡ joined lists ++ list
joined-push [] list = append-nil list
joined-push (l ∷ lists) list =
    ap (λ (x : List Entry). l ++ x) (joined-push lists list) ∙ sym (append_assoc l (joined lists) list)

-- what was heard in one more list stands behind what was heard before
pub behind_first : (first : List Entry) (lists : List (List Entry)) (list : List Entry) →
    first ++ joined (lists ++ list ∷ []) ≡ (first ++ joined lists) ++ list
behind_first first lists list = ap (λ (x : List Entry). first ++ x) (joined-push lists list)
    ∙ sym (append_assoc first (joined lists) list)
