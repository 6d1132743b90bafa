use Rattle.vault.proofs.Words.{◌≤◌, ℕ, sym, subst, IfOk-weaker, new_scrub, setup_in, setup-providers}
use Rattle.hail_scrub.proofs.Starts.{new_begun}
use Rattle.vault.proofs.Scrubbed.{few_files, files_apart, one_count, count_fits}
use Rattle.vault.proofs.vault.Vault.scrub.Goals as goal

pub new-requires-clause-few : goal.new-requires-clause-few
new-requires-clause-few c = few_files c.args.self.now.desk c.in_ok-files.files.items
    c.in_ok-files.ensures.files c.args.self.now.at_work

pub new-requires-clause-one_count : goal.new-requires-clause-one_count
new-requires-clause-one_count c =
    one_count c.args.self.now.desk c.in_ok-files.files.items c.in_ok-files.ensures.shaped

pub new-requires-clause-apart : goal.new-requires-clause-apart
new-requires-clause-apart c = files_apart c.args.self.now.desk c.in_ok-files.files.items
    c.in_ok-files.ensures.files c.args.self.now.at_work

pub returns-clause-begun : goal.returns-clause-begun
returns-clause-begun c = λ w d moment stands. c.new.ensures.begun (setup_in w) (new_scrub w moment)
    (new_begun w moment c.args.self.now.desk.master.0 c.in_ok-files.files.items
    (setup-providers 8 w stands.desk.core.sound stands.desk.core.is_open).1
    (c.in_ok-files.ensures.files w d stands.desk))

pub returns-clause-providers : goal.returns-clause-providers
returns-clause-providers c =
    let v = c.args.self.now.desk in
    IfOk-weaker c.new.result _ _
    (λ scrub e. subst (λ (n : ℕ). n ≤ v.setup.n) (sym e)
    (count_fits v c.in_ok-files.files.items c.in_ok-files.ensures.shaped c.args.self.now.at_work))
    c.new.ensures.providers
