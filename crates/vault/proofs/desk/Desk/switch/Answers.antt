use Rattle.vault.proofs.Words.{ap, Desk}
use Rattle.vault.proofs.Switching.{second, clear, sound, ends, moved-stands, moved-works}
use Rattle.vault.proofs.desk.Desk.switch.Goals as goal

pub returns-clause-stands : goal.returns-clause-stands
returns-clause-stands c = λ w d e stands devices firm.
    let v : Desk = c.args.self.now in
    let q = c.requires.quiet in
    let t = c.requires.text in
    let p = c.args.pack.now in
    moved-stands v q w d stands p t _ e
    (ap (λ (base : _). record v { base = base; core = c.moved.new.self }) c.base-self.ensures)
    (c.moved.ensures.stands w stands.core (second v q w d stands p t) (clear v q w d stands)
    (ends v q w d stands p t c.end.result c.end.ensures.value) (sound v q w d stands p t))
    devices firm

pub returns-clause-at_work : goal.returns-clause-at_work
returns-clause-at_work c =
    let v : Desk = c.args.self.now in
    let q = c.requires.quiet in
    let t = c.requires.text in
    let p = c.args.pack.now in
    moved-works v _ p q t
    (ap (λ (base : _). record v { base = base; core = c.moved.new.self }) c.base-self.ensures)
    (λ w d stands. c.moved.ensures.stands w stands.core (second v q w d stands p t) (clear v q w d stands)
    (ends v q w d stands p t c.end.result c.end.ensures.value) (sound v q w d stands p t))
    c.requires.at_work
