use Rattle.vault.proofs.Words.{◌∙◌, Vec, Global, IfOk-weaker, FileShape}
use Rattle.vault.proofs.Scrubbed.{all_shaped, all_files}
use Rattle.vault.proofs.desk.Desk.all_files.Goals as goal

pub returns-in-Ok-clause-shaped : goal.returns-in-Ok-clause-shaped
returns-in-Ok-clause-shaped c = IfOk-weaker c.shapes_for.result _ _
    (λ files are. all_shaped c.args.self.now c.deref.result.now files.items are) c.shapes_for.ensures

pub returns-in-Ok-clause-files : goal.returns-in-Ok-clause-files
returns-in-Ok-clause-files c = λ w d stands. IfOk-weaker c.shapes_for.result _ _
    (λ (files : Vec FileShape Global) are. all_files c.args.self.now d w c.deref.result.now files.items stands
    (c.deref.ensures.value ∙ c.in-Ok.ensures w stands.core) are) c.shapes_for.ensures
