use Rattle.std.proofs.Common.{◌≡◌, ◌/◌, ◌%◌, ℕ, sym, ap, ◌∙◌}
use Rattle.trial_maker.specs.Draws.{next_draw, draw, bytes_behind}
use Rattle.trial_maker.proofs.Drawn.{no-draw, draw_more, draw_behind, bytes_behind_draw}
use Rattle.trial_maker.proofs.trial.draw_all.Goals as goal

-- the first draw
first : (seed last drawn : ℕ) → last ≡ seed → drawn ≡ next_draw last → drawn ≡ draw seed 1
first seed last drawn last_is drawn_is =
    drawn_is ∙ ap (λ (x : ℕ). next_draw x) (last_is ∙ sym (no-draw seed)) ∙ sym (draw_more seed 0)

pub returns-clause-provider : goal.returns-clause-provider
returns-clause-provider c = ap (λ (x : ℕ). x / 8589934592 % 6)
    (first c.args.number c.new-draws.result.last c.next.result c.new-draws.ensures c.next.ensures.value)

pub returns-clause-master : goal.returns-clause-master
returns-clause-master c =
    let last = c.next.ensures.last
    ∙ first c.args.number c.new-draws.result.last c.next.result c.new-draws.ensures c.next.ensures.value in
    c.key.ensures.bytes ∙ ap (λ (x : ℕ). bytes_behind x 0 32) last ∙ bytes_behind_draw c.args.number 1 32

pub returns-clause-bytes : goal.returns-clause-bytes
returns-clause-bytes c =
    let last = c.next.ensures.last
    ∙ first c.args.number c.new-draws.result.last c.next.result c.new-draws.ensures c.next.ensures.value in
    let behind = c.key.ensures.last ∙ ap (λ (x : ℕ). draw x 32) last ∙ draw_behind c.args.number 1 32 in
    c.in_ok-bytes.ensures.bytes ∙ ap (λ (x : ℕ). bytes_behind x 0 65536) behind
    ∙ bytes_behind_draw c.args.number 33 65536
