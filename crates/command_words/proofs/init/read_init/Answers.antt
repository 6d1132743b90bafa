use Rattle.std.proofs.Common.{sym, ◌∙◌}
use Rattle.command_words.proofs.InitWords.{IsInitForm-spells, eight_words}
use Rattle.command_words.proofs.RowWords.{same_from_ne, spelled_by}
use Rattle.command_words.proofs.init.read_init.Goals as goal

-- one of the first three words that are refused spells no number
pub returns-in_err-n : goal.returns-in_err-n
returns-in_err-n c = rw c.from_residual.ensures (λ numbers form.
    let words = c.args.words.now in
    c.in_err-n.ensures numbers.n numbers.l numbers.b
    (spelled_by c.as_str-2.ensures.value
    ((IsInitForm-spells words numbers c.n-item.result form).n c.n-item.is))
    (spelled_by c.as_str-3.ensures.value
    ((IsInitForm-spells words numbers c.l-item.result form).l c.l-item.is))
    (spelled_by c.as_str-4.ensures.value
    ((IsInitForm-spells words numbers c.b-item.result form).b c.b-item.is)))

-- and of the next three
pub returns-in_err-profile : goal.returns-in_err-profile
returns-in_err-profile c = rw c.from_residual-in_err-profile.ensures (λ numbers form.
    let words = c.args.words.now in
    c.in_err-profile.ensures numbers.profile numbers.rounds numbers.picks
    (spelled_by c.as_str-5.ensures.value
    ((IsInitForm-spells words numbers c.profile-item.result form).profile c.profile-item.is))
    (spelled_by c.as_str-6.ensures.value
    ((IsInitForm-spells words numbers c.rounds-item.result form).rounds c.rounds-item.is))
    (spelled_by c.as_str-7.ensures.value
    ((IsInitForm-spells words numbers c.picks-item.result form).picks c.picks-item.is)))

-- the last word, which was refused, spells no number
pub returns-in_err-tolerance : goal.returns-in_err-tolerance
returns-in_err-tolerance c = rw c.from_residual-in_err-tolerance.ensures (λ numbers form.
    let words = c.args.words.now in
    c.in_err-tolerance.ensures numbers.tolerance
    (spelled_by c.as_str-8.ensures.value
    ((IsInitForm-spells words numbers c.tolerance-item.result form).tolerance c.tolerance-item.is)))

-- all words were read
pub returns : goal.returns
returns c =
    let items = eight_words c.args.words.now c.command-item.result
    c.n-item.result c.l-item.result c.b-item.result c.profile-item.result
    c.rounds-item.result c.picks-item.result c.tolerance-item.result
    c.in-len8.len_at_least c.in-len8.len_below
    c.command-item.is c.n-item.is c.l-item.is c.b-item.is c.profile-item.is c.rounds-item.is c.picks-item.is
    c.tolerance-item.is in
    rw items (
      sym c.as_str.ensures.value ∙ same_from_ne _ _ c.if-ne.ensures,
      (
        spelled_by (sym c.as_str-2.ensures.value) c.in_ok-n.ensures.0,
        spelled_by (sym c.as_str-3.ensures.value) c.in_ok-n.ensures.1,
        spelled_by (sym c.as_str-4.ensures.value) c.in_ok-n.ensures.2,
        spelled_by (sym c.as_str-5.ensures.value) c.in_ok-profile.ensures.0,
        spelled_by (sym c.as_str-6.ensures.value) c.in_ok-profile.ensures.1,
        spelled_by (sym c.as_str-7.ensures.value) c.in_ok-profile.ensures.2,
        spelled_by (sym c.as_str-8.ensures.value) c.in_ok-tolerance.ensures,
      ),
    )
