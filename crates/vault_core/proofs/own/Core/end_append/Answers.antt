use Rattle.vault_core.proofs.Words.{rules, ◌+◌, ◌∙◌, sym, ap, refl, subst, None, ◌∷◌, remove, slice_get, refused, IsFoldOf, with_item, entry_of, CoreView, setup_kept, core_job, view_of}
use Rattle.vault_core.proofs.Gating.{gate_here, may_finish, finished_here, finished_left, providers, not_refused, start_spare, gated_core, has_gated, same_entry, on_ok, place_len}
use Rattle.vault_core.proofs.Told.{told_went, leaves_removed}
use Rattle.vault_core.proofs.Falls.{removed_falls, gate_writes}
use Rattle.vault_core.proofs.Advancing.{advanced, on_falls, on_told}
use Rattle.vault_core.proofs.own.Core.end_append.Goals as goal

pub apply-requires : goal.apply-requires
apply-requires c =
    let n = providers (setup_kept c.self.inside) c.self.invariant.set_up in
    (c.in-Some.ensures.in_grammar c.self.inside.setup.n n.0 n.1 (gate_here c.args.place c.self.view_is
    c.self.invariant c.index.ensures c.requires.gate).kept.steady.stays).padded

pub fail-requires : goal.fail-requires
fail-requires c = (gate_here c.args.place c.self.view_is
    c.self.invariant c.index.ensures c.requires.gate).within

pub size-requires : goal.size-requires
size-requires c =
    let n = providers (setup_kept c.self.inside) c.self.invariant.set_up in
    c.in-Some.ensures.in_grammar c.self.inside.setup.n n.0 n.1 (gate_here c.args.place c.self.view_is
    c.self.invariant c.index.ensures c.requires.gate).kept.steady.stays

pub index_mut-job-requires : goal.index_mut-job-requires
index_mut-job-requires c = let l = place_len c.self.inside c.args.place (gate_here c.args.place c.self.view_is
    c.self.invariant c.index.ensures c.requires.gate).within in search rules

pub finish-requires-clause-ready : goal.finish-requires-clause-ready
finish-requires-clause-ready c =
    let old = gate_here c.args.place c.self.view_is
    c.self.invariant c.index_mut-job.ensures.value c.requires.gate in
    may_finish old.kept old.gate

pub index-requires-2 : goal.index-requires-2
index-requires-2 c = let l = place_len c.self.inside c.args.place (gate_here c.args.place c.self.view_is
    c.self.invariant c.index.ensures c.requires.gate).within in search rules

pub invariant_of-self-2 : goal.invariant_of-self-2
invariant_of-self-2 c =
    let one = gate_here c.args.place c.self.view_is c.self.invariant c.index.ensures c.requires.gate in
    let old = gate_here c.args.place c.self.view_is
    c.self.invariant c.index_mut-job.ensures.value c.requires.gate in
    let is = advanced {old = c.index_mut-job.result.now} refl c.finish.ensures.same
    (finished_left c.finish.new.self c.older-older.result old.kept old.gate c.finish.ensures.behind) in
    gated_core c.apply.new.self (with_item c.self.inside.jobs c.args.place c.finish.new.self) c.args.place
    refl old.here one.here old.kept one.kept old.gate is.number is.wish (ap (λ j. j.appends)
    c.finish.ensures.same) (finished_here c.args.place c.older-older.result c.self.view_is c.self.invariant
    c.index_mut-job.ensures.value c.index-2.ensures c.requires.gate c.finish.ensures.kept
    c.finish.ensures.behind c.finish.ensures.same c.older-older.ensures) (told_went c.args.place
    c.index_mut-job.result.now c.finish.new.self c.self.view_is c.self.invariant old.here c.requires.given
    is.told is.wish is.profile is.place) c.size.ensures c.in-Some.ensures.value (on_ok c.apply.result _ (sym
    c.if-is_err.ensures.value) c.apply.ensures.spare) (on_ok c.apply.result _ (sym c.if-is_err.ensures.value)
    c.apply.ensures.version) c.self.invariant

pub returns-in_default : goal.returns-in_default
returns-in_default c =
    let one = gate_here c.args.place c.self.view_is c.self.invariant c.index.ensures c.requires.gate in
    absurd (gate_writes c.self.inside.table one.kept.steady one.gate c.in_default.ensures.value)

pub returns-then-is_err : goal.returns-then-is_err
returns-then-is_err c =
    let one = gate_here c.args.place c.self.view_is c.self.invariant c.index.ensures c.requires.gate in
    let gone = ap (λ x. x.jobs) c.fail.ensures
    ∙ ap (λ x. remove x.jobs c.args.place) c.self.view_is in
    let leaves = leaves_removed c.self.inside c.args.self.now c.fail.new.self c.args.place
    (core_job c.index.result.now) c.self.view_is c.self.invariant
    (ap (λ x. slice_get x.jobs c.args.place) (sym c.self.view_is) ∙ one.here) gone in
    record {
      gated = λ j entry rs at written fold accepted. absurd (not_refused c.apply.result
          (entry_of c.in-Some.entry) rs c.self.inside.table.spare c.if-is_err.ensures.value
          (c.apply.ensures.refused rs (subst (λ (x : CoreView). IsFoldOf rs x.table) (sym c.self.view_is)
          fold)) (ap (refused rs) (same_entry c.self.inside c.args.place c.self.view_is one.here one.kept
          c.in-Some.ensures.value j entry at written) ∙ accepted) c.apply.ensures.memory
          c.apply.ensures.reserved (start_spare c.args.place c.self.invariant one.here one.kept one.gate (sym
          c.in-Some.ensures.value)));
      streams = leaves.streams;
      told = leaves.told;
      falls = removed_falls c.fail.new.self c.args.place c.self.view_is c.self.invariant gone;
      setup = ap (λ x. x.setup) c.fail.ensures ∙ ap (λ x. x.setup) c.self.view_is;
    }

pub returns : goal.returns
returns c =
    let one = gate_here c.args.place c.self.view_is c.self.invariant c.index.ensures c.requires.gate in
    let two = gate_here c.args.place c.self.view_is c.self.invariant c.index-2.ensures c.requires.gate in
    let old = gate_here c.args.place c.self.view_is
    c.self.invariant c.index_mut-job.ensures.value c.requires.gate in
    let is = advanced {old = c.index_mut-job.result.now} refl c.finish.ensures.same
    (finished_left c.finish.new.self c.older-older.result old.kept old.gate c.finish.ensures.behind) in
    let new = view_of (record c.self.inside {
      table = c.apply.new.self;
      end = c.self.inside.end + (1 + c.size.result);
      jobs = with_item c.self.inside.jobs c.args.place c.finish.new.self;
      append = None;
    }) in
    let leaves = on_told c.args.place c.self.view_is c.self.invariant old.here is new refl in
    record {
      gated = λ j entry rs at written fold accepted. has_gated c.self.inside (with_item c.self.inside.jobs
          c.args.place c.finish.new.self) c.args.place c.index_mut-job.result.now c.finish.new.self
          c.older-older.result rs c.self.view_is refl old.here one.here two.here one.kept two.kept (ap
          core_job c.finish.ensures.same) c.older-older.ensures c.size.ensures c.in-Some.ensures.value (on_ok
          c.apply.result (IsFoldOf (entry_of c.in-Some.entry ∷ rs) c.apply.new.self) (sym
          c.if-is_err.ensures.value)
          (c.apply.ensures.ok rs (subst (λ (x : CoreView). IsFoldOf rs x.table) (sym c.self.view_is) fold))) j
          entry at written;
      streams = leaves.streams;
      told = leaves.told;
      falls = on_falls c.args.place c.self.view_is c.self.invariant old.here is new old.kept (finished_here
          c.args.place c.older-older.result c.self.view_is c.self.invariant c.index_mut-job.ensures.value
          c.index-2.ensures c.requires.gate c.finish.ensures.kept c.finish.ensures.behind
          c.finish.ensures.same c.older-older.ensures) refl refl;
      setup = ap (λ x. x.setup) c.self.view_is;
    }
