use Rattle.vault.proofs.Words.{◌≡◌, ℕ, List, Option, None, sym, ap, ◌∙◌, slice_get}
use Rattle.vault.specs.declared.heard.Ask.{Ask}
use Rattle.vault.proofs.HeardAt.{answered_at, answered_at-none, slice_get-answered_entries}
use Rattle.vault.proofs.heard.Answers.at.Goals as goal

pub returns-in_err-ask : goal.returns-in_err-ask
returns-in_err-ask c =
    let a = c.args.self.now in
    let none : slice_get a.asks.items c.args.place ≡ None =
    ap (λ (l : List Ask). slice_get l c.args.place) (sym c.deref.ensures.value) ∙ sym c.in_err-ask.ensures in
    rw c.from_residual.ensures
    (sym (slice_get-answered_entries a.job a.asks.items a.symbols.items c.args.place
    ∙ ap (λ x. answered_at a.job x (slice_get a.symbols.items c.args.place)) none))

pub returns-in_err-symbol : goal.returns-in_err-symbol
returns-in_err-symbol c =
    let a = c.args.self.now in
    rw c.from_residual-in_err-symbol.ensures
    (sym (slice_get-answered_entries a.job a.asks.items a.symbols.items c.args.place
    ∙ ap (λ x. answered_at a.job (slice_get a.asks.items c.args.place) x)
    (ap (λ (l : List (Option ℕ)). slice_get l c.args.place) (sym c.deref-2.ensures.value)
    ∙ sym c.in_err-symbol.ensures)
    ∙ answered_at-none a.job (slice_get a.asks.items c.args.place)))

pub returns : goal.returns
returns c =
    let a = c.args.self.now in
    sym (slice_get-answered_entries a.job a.asks.items a.symbols.items c.args.place
    ∙ (λ i. answered_at a.job ((ap (λ (l : List Ask). slice_get l c.args.place) (sym c.deref.ensures.value) ∙
    sym c.in_ok-ask.ensures) i) ((ap (λ (l : List (Option ℕ)). slice_get l c.args.place)
    (sym c.deref-2.ensures.value)
    ∙ sym c.in_ok-symbol.ensures) i)))
