use Rattle.command_lines.proofs.Words.{◌++◌, List, ℕ, sym, ap, ◌∙◌, arith, append-nil, line, then_number}
use Rattle.algebra_laws.proofs.Lists.{get_within}
use Rattle.vault_table.specs.Values.{file_of_entry}
use Rattle.command_lines.proofs.ListSteps.{listed_more}
use Rattle.command_lines.proofs.list.push_files.Goals as goal
use Rattle.command_lines.proofs.list.push_files.Goals.{in-Some+in_ok-push_line, in_default}

pub loop-place-init : goal.loop-place-init
loop-place-init c = sym (append-nil c.args.text.now.items)

pub loop-place-preserved : goal.loop-place-preserved
loop-place-preserved c =
    let files = c.args.table.now.files in
    let text = c.loop-place.text.items in
    let place = c.loop-place.place in
    elim c.match-at.branch [
      | in-Some+in_ok-push_line w ↦
          let file = file_of_entry w.in-Some.file in
          rw w.text-is (w.in_ok-push_line.ensures
          ∙ ap (λ (name : List ℕ). text ++ line (name ++ then_number w.from.result)) w.as_bytes.ensures.value
          ∙ ap (λ (size : ℕ). text ++ line (file.name ++ then_number size)) w.from.ensures
          ∙ listed_more files c.args.text.now.items text place file
          (sym w.in-Some.ensures) c.loop-place.invariant)
      | in_default w ↦ absurd (get_within files place
          (omega (arith, c.loop-place-test.true, c.count-place-end.ensures)) w.in_default.ensures)
    ]
