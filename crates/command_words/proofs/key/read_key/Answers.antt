use Rattle.std.proofs.Common.{List, ℕ, subst, sym}
use Rattle.key_schedule.specs.declared.master.Master.{Master}
use Rattle.command_defs.specs.Keys.{IsLineEnd}
use Rattle.command_words.proofs.Keys.{line_end-IsKeyForm, key_read}
use Rattle.command_words.proofs.key.read_key.Goals as goal

-- a key ends its line
pub returns-then-not-is_line_end : goal.returns-then-not-is_line_end
returns-then-not-is_line_end c key form =
    let split = c.in_ok-digits.ensures.cases in
    let ended = c.is_line_end.ensures.1
    (subst (λ (t : List ℕ). IsLineEnd t) (sym split.2) (line_end-IsKeyForm c.args.text.now key form)) in
    absurd cc

-- the digits spell the key
pub returns : goal.returns
returns c = key_read (λ (m : Master). m.0) c.args.text.now c.in_ok-digits.digits.now c.in_ok-digits.behind.now
    c.from_hex.result c.in_ok-digits.ensures.cases (c.is_line_end.ensures.0 (cc)) c.from_hex.ensures.found
    c.from_hex.ensures.value
