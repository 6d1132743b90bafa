-- A provider over a link stays in step where the link tells what is behind it.
use Rattle.provider_wire.proofs.Words.{◌≡◌, ℕ, Bool, true, false, List, [], refl, sym, ap, ◌∙◌, Request, Behind, AskedFor, out_of_step}
use Rattle.std.proofs.Common.{Option, Some, None}

-- a link that is in step is not broken, and no answer is due
pub idle : (b : Behind) (behind : Option Behind) (broken : Bool) → behind ≡ Some b →
    out_of_step behind broken ≡ [] → (broken ≡ false) × (b.due ≡ [])
idle b None broken e is = absurd cc
idle b (Some x) true e is = absurd cc
idle b (Some x) false e is = (refl, ap (λ (y : Behind). y.due) (let h : b ≡ x = cc in h) ∙ is)

-- an answer came
pub answered : (old now : Option Behind) (broken : Bool) (r : Request) (result : Option ℕ) (tail : List ℕ) →
    ((b : Behind) → old ≡ Some b → AskedFor r result tail b now) → (old ≡ None → now ≡ None)
    → broken ≡ false → out_of_step now broken ≡ []
answered None now broken r result tail told untold is = ap (λ o. out_of_step o broken) (untold refl)
answered (Some b) now broken r result tail told untold is =
    let a = told b refl in
    ap (λ o. out_of_step o broken) a.now_is
    ∙ ap (λ t. out_of_step (Some a.new) t) is ∙ a.nothing_due

-- none came
pub unanswered : (old now : Option Behind) (broken : Bool) (r : Request) (result : Option ℕ) (tail : List ℕ) →
    ((b : Behind) → old ≡ Some b → AskedFor r result tail b now) → (old ≡ None → now ≡ None)
    → result ≡ None → out_of_step now broken ≡ []
unanswered None now broken r result tail told untold is = ap (λ o. out_of_step o broken) (untold refl)
unanswered (Some b) now broken r result tail told untold is =
    absurd (let k = (told b refl).kind in cc (sym is ∙ k))
