use Rattle.schedule_text.proofs.Words.{ℕ, List, ◌∷◌, ◌+◌, ◌-◌, length, take, drop, sym, ◌∙◌, ap, arith, length-drop, length-take, lines}
use Rattle.schedule_text.proofs.Lines.{lines-first, lines-none}
use Rattle.schedule_text.proofs.read.first_line.Goals as goal

pub returns-in-Some : goal.returns-in-Some
returns-in-Some c =
    let found = c.in-Some.ensures in
    let text = c.args.text.now in
    let next = c.in-Some.end + 1 in
    let behind = lines (take (length text - next) (drop next text)) in
    record {
      lines = lines-first text c.in-Some.end found.0.high found.0.before found.1
          ∙ ap (λ (line : List ℕ). line ∷ behind) (sym c.without_return.ensures);
      shorter = omega (
        arith,
        found.0.high,
        length-take (length text - next) (drop next text),
        length-drop next text,
      );
    }

pub returns-in-None : goal.returns-in-None
returns-in-None c = record { lines = lines-none c.args.text.now c.in-None.ensures; shorter = tt }
