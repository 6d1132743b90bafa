use Rattle.hail_replay.proofs.Words.{◌≡◌, ℕ, [], length, refl, ap, ◌∙◌, length-reverse, losses, cut, opening, epoch, last_epoch, trial_commands, trial_bytes, counts_of, trial_lines}
use Rattle.hail_replay.proofs.laws.trial_tells_its_events.Goals as goal

-- the events of a trial
count : (number : ℕ) → length (trial_commands number) ≡ 225
unfolding trial_commands opening epoch last_epoch losses cut
count number = refl

pub returns : goal.returns
returns c ms text told = told.text_is
    ∙ ap (λ (n : ℕ). trial_lines c.args.number
    (record (counts_of (trial_bytes c.args.number) [] ms) { events = n }))
    (length-reverse (trial_commands c.args.number) ∙ count c.args.number)
