-- The line of an audit: numbers behind one another, and its pieces.
use Rattle.hail_replay.proofs.Words.{◌≡◌, ℕ, ◌+◌, ◌<◌, List, [], ◌++◌, length, take, get_or, sym, ap, ◌∙◌, take_more, flat_map_more, flat_map, then_number}
use Rattle.std.proofs.Common.{append_assoc}

-- one number more
pub numbered_more : (numbers start text : List ℕ) (place : ℕ) → place < length numbers
    → text ≡ start ++ flat_map then_number (take place numbers)
    → text ++ then_number (get_or numbers place 0) ≡ start ++ flat_map then_number (take (place + 1) numbers)
numbered_more numbers start text place within before =
    let number = get_or numbers place 0 in
    ap (λ (front : List ℕ). front ++ then_number number) before
    ∙ append_assoc start (flat_map then_number (take place numbers)) (then_number number)
    ∙ ap (λ (more : List ℕ). start ++ more) (flat_map_more then_number [] (take place numbers) number
    ∙ ap (λ (some : List ℕ). flat_map then_number some) (sym (take_more numbers place 0 within)))
