use Rattle.vault.proofs.Words.{◌∙◌, ap, List, ◌∷◌, [], ◌++◌, Profile, Bench}
use Rattle.vault.proofs.Kits.{served_last, served_more, desk_more}
use Rattle.vault.proofs.desk.Desk.serve.Goals as goal

pub returns-clause-served : goal.returns-clause-served
returns-clause-served c = rw (← (c.push_reserved.ensures.items
    ∙ ap (λ (l : List Bench). l ++ c.in_ok-bench.bench ∷ []) c.reserve.ensures.items)) at
    (served_last c.args.profile c.args.own.now c.args.others.now.items c.in_ok-bench.bench
    (ap (λ (x : Profile). x.size) c.in_ok-bench.ensures.ok.profile))

pub returns-clause-of_desk : goal.returns-clause-of_desk
returns-clause-of_desk c = λ are. (rw (← (c.push_reserved.ensures.items
    ∙ ap (λ (l : List Bench). l ++ c.in_ok-bench.bench ∷ []) c.reserve.ensures.items)) at
    (desk_more c.args.self.now c.args.others.now.items c.in_ok-bench.bench are
    c.in_ok-bench.ensures.ok.of_desk))

pub returns-clause-stay : goal.returns-clause-stay
returns-clause-stay c = λ p h. (rw (← (c.push_reserved.ensures.items
    ∙ ap (λ (l : List Bench). l ++ c.in_ok-bench.bench ∷ []) c.reserve.ensures.items)) at
    (served_more p c.args.own.now c.args.others.now.items (c.in_ok-bench.bench ∷ []) h))
