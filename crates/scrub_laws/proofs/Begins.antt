-- A vault that was just opened refuses no scrub.
use Rattle.scrub_laws.proofs.Words.{◌≡◌, ◌||◌, Bool, false, List, [], ◌∷◌, length, Option, None, ap, ◌∙◌, is_some, nat_lt, alone_refusal, Job, State, Alone, IsOpenAtRest}
use Rattle.machine_defs.specs.Refusals as refusal
use Rattle.machine_defs.specs.Refusals.{Refusal, first_refusal}

-- what is barred, runs or runs alone, in the order of the refusals
abbrev refused_by : Bool → List Job → Option Alone → Option Refusal
refused_by barred jobs alone = first_refusal (record { applies = barred; refusal = refusal.MustReopen } ∷
    record { applies = nat_lt 0 (length jobs) || is_some alone; refusal = refusal.Busy } ∷ [])

-- none of it applies in a state at rest
pub none-refused : (w : State) → IsOpenAtRest w 1 → alone_refusal w [] ≡ None
none-refused w O = (let i = O.rest.idle in
    ap (λ b. refused_by b w.jobs w.alone) i.2
    ∙ (ap (λ js. refused_by false js w.alone) i.0
    ∙ ap (λ a. refused_by false [] a) i.3))
