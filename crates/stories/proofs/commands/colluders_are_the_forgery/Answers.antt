use Rattle.stories.proofs.Words.{◌∙◌, arith, ◌≡◌, ◌≢◌, ◌⊎◌, ℕ, true, List, ◌++◌, Option, None, Some, sym, inl, inr, is_some, false≢true, append_cancel_left, told_then, GetOf}
use Rattle.stories.proofs.commands.colluders_are_the_forgery.Goals as goal

-- of what was written and something else the latter, where other bytes were written
other-bytes : {P : Type 0} (old new : Option (List ℕ)) (bytes other : List ℕ) → is_some old ≡ true →
    bytes ≢ other → new ≡ told_then old other → (new ≡ told_then old bytes) ⊎ P → P
other-bytes None new bytes other tells differ is e = absurd (false≢true tells)
other-bytes (Some xs) new bytes other tells differ is (inl same) = absurd (differ
    (append_cancel_left xs bytes other
    (let e : Some (xs ++ bytes) ≡ Some (xs ++ other) = sym same ∙ is in cc)))
other-bytes (Some xs) new bytes other tells differ is (inr p) = p

pub returns : goal.returns
returns c =
    λ get name bytes other records honest old new end answers form known theirs are same differ steady few
    tells ok.
    (let A = answers.answers (GetOf name) form in
    let gives = c.gets_tell_what_stands.ensures.right name other records honest old new end A known theirs
    steady (omega (arith, few)) ok in (
      gives,
      other-bytes old.sink new.sink bytes other tells differ gives (c.gets_give_the_file.ensures.forged name
          bytes records theirs.file old new end A known theirs.in_effect are (same ∙ theirs.size) ok),
    ))
