use Rattle.vault.proofs.Words.{Option, None, refl, ◌∙◌, ap, List, ◌++◌, ◌∷◌, [], ℕ, sym, subst, beginning, setup_in, Running, HasAtHand}
use Rattle.vault_core.specs.Wished.{profile_named}
use Rattle.vault_core.specs.declared.wish.BeginFault.TheVariants as fault
use Rattle.vault.proofs.Begun.{admitted, untold-next}
use Rattle.vault.proofs.Refused.{refused}
use Rattle.vault.proofs.desk.Desk.admit.Goals as goal

pub returns-then-is_err-clause-machine : goal.returns-then-is_err-clause-machine
returns-then-is_err-clause-machine c = λ w d moment kind stands of spelled is. refused c.args.self.now _ d w
    moment kind (profile_named c.args.wish) fault.Memory stands refl c.reserve.ensures.items
    (record { setup = refl; master = refl; shape = refl; base = refl }) refl (λ memory. absurd (memory refl))

pub returns-in-Err-clause-machine : goal.returns-in-Err-clause-machine
returns-in-Err-clause-machine c = λ w d moment kind stands of spelled is. refused c.args.self.now _ d w moment
    kind (profile_named c.args.wish) c.in-Err.why stands c.in-Err.ensures.begins.unchanged
    c.reserve.ensures.items (record { setup = refl; master = refl; shape = refl; base = refl }) refl
    (c.in-Err.ensures.begins.refused w kind stands.core of)

pub returns-in-Ok-clause-machine : goal.returns-in-Ok-clause-machine
returns-in-Ok-clause-machine c = λ w d moment kind stands of spelled is.
    let accepted = c.in-Ok.ensures.begins.accepted w kind stands.core of in
    let running : Running = record { number = c.in-Ok.number; task = c.args.task } in
    admitted c.args.self.now _ d w moment kind (profile_named c.args.wish) stands c.in-Ok.number c.args.task
    (c.in-Ok.ensures.begins.begun w kind moment stands.core of spelled) accepted c.in-Ok.ensures.begins.number
    (is accepted)
    (λ m other. c.in-Ok.ensures.told m)
    None (c.in-Ok.ensures.told w.next_job ∙ untold-next c.args.self.now.core w stands.core)
    (subst (λ (o : Option (Option ℕ)). HasAtHand (setup_in w) None o
    (beginning w moment kind (profile_named c.args.wish))) (sym c.requires.none_at_hand) refl)
    (c.push_reserved.ensures.items
    ∙ ap (λ (l : List Running). l ++ running ∷ []) c.reserve.ensures.items)
    (record { setup = refl; master = refl; shape = refl; base = refl }) refl
