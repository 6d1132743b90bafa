use Rattle.vault_core.proofs.Words.{◌≡◌, ◌∙◌, ap, refl, sym, subst, ◌+◌, ◌≤◌, None, arith, IsTrue, sum_by, option_map, is_setup, largest_journal, refusal_of_begin, aim_of_wish, profile_named, setup_kept, core_job, MayBegin, IsJobKept, Reserves, reserved_of, CoreIs, IsAimOf, IsShortKindOf, Kind, State, refusal_of, job_begun, admitted, AreMore, IsMade}
use Rattle.vault_core.specs.declared.wish.BeginFault.TheVariants as fault
use Rattle.vault_core.proofs.Admitted.{begins_not, memory_alone, told-start, more-jobs, core-begun, own-left, own-known, made-room, room-left, few-left, lone-left, on_ok_then}
use Rattle.vault_core.proofs.own.Core.start_job.Goals as goal
use Rattle.vault_core.proofs.Gating.{providers}

pub admit-requires-clause-room : goal.admit-requires-clause-room
admit-requires-clause-room c =
    let made = subst (λ v. IsMade v.table v.setup v.next_job c.args.wish c.in-Ok.job)
    c.self.view_is (c.in-Ok.ensures.made c.self.inside.master.0) in
    let e = made-room made (subst (λ v. IsJobKept v.setup c.in-Ok.job) c.self.view_is
    (c.in-Ok.ensures.kept c.self.inside.master.0)) in
    let l = room-left c.args.self.now c.args.wish (subst Reserves c.self.view_is c.self.invariant.reserves)
    (sym (c.refusal.ensures.sight c.requires.size) ∙ ap (option_map refusal_of) c.in_default.is) in
    let whole : c.args.self.now.end + sum_by (reserved_of c.args.self.now.table.version c.args.self.now.setup)
    c.args.self.now.jobs + reserved_of c.args.self.now.table.version c.args.self.now.setup
    (core_job c.in-Ok.job) ≤ largest_journal = omega (arith, e, l) in
    whole

pub admit-requires-clause-few : goal.admit-requires-clause-few
admit-requires-clause-few c =
    few-left c.args.self.now c.args.wish (sym (c.refusal.ensures.sight c.requires.size) ∙ ap (option_map refusal_of) c.in_default.is)

pub admit-requires-clause-lone : goal.admit-requires-clause-lone
admit-requires-clause-lone c = lone-left c.args.self.now c.args.wish (core_job c.in-Ok.job)
    (ap aim_of_wish (c.in-Ok.ensures.made c.self.inside.master.0).wish)
    (sym (c.refusal.ensures.sight c.requires.size) ∙ ap (option_map refusal_of) c.in_default.is)

pub admit-requires-clause-told : goal.admit-requires-clause-told
admit-requires-clause-told c =
    let made = subst (λ v. IsMade v.table v.setup v.next_job c.args.wish c.in-Ok.job)
    c.self.view_is (c.in-Ok.ensures.made c.self.inside.master.0) in
    told-start (subst (λ v. IsTrue (is_setup v.setup)) c.self.view_is c.self.invariant.set_up) made (subst (λ
    o. MayBegin o c.args.wish) (sym c.in-Ok.ensures.told) c.requires.told)

pub returns-in-Ok-clause-jobs : goal.returns-in-Ok-clause-jobs
returns-in-Ok-clause-jobs c =
    let made = subst (λ v. IsMade v.table v.setup v.next_job c.args.wish c.in-Ok.job)
    c.self.view_is (c.in-Ok.ensures.made c.self.inside.master.0) in
    on_ok_then c.admit.result _ _
    (λ e.
    subst (λ o. AreMore o c.args.self.now c.admit.new.self) c.in-Ok.ensures.told (more-jobs c.in-Ok.job.wish
    c.in-Ok.job c.self.view_is c.self.invariant e made.number)) c.admit.ensures.admitted

pub admit-requires-clause-next : goal.admit-requires-clause-next
admit-requires-clause-next c =
    (c.in-Ok.ensures.made c.self.inside.master.0).number ∙ ap (λ v. v.next_job) c.self.view_is

pub admit-requires-clause-kept : goal.admit-requires-clause-kept
admit-requires-clause-kept c = subst (λ v. IsJobKept v.setup c.in-Ok.job) c.self.view_is
    (c.in-Ok.ensures.kept c.self.inside.master.0)

pub make_job-requires-clause-known : goal.make_job-requires-clause-known
make_job-requires-clause-known c = λ key.
    own-known c.args.self.now (setup_kept c.self.inside) c.args.wish
    (sym (c.refusal.ensures.sight c.requires.size) ∙ ap (option_map refusal_of) c.in_default.is) c.self.invariant.set_up

pub returns-in-Some-clause-begins : goal.returns-in-Some-clause-begins
returns-in-Some-clause-begins c = begins_not c.args.self.now (IsShortKindOf c.args.told c.args.wish)
    (profile_named c.args.wish) c.in-Some.fault
    (λ w kind is of more. sym (c.refusal.ensures.machine c.args.told w kind is of.0 c.requires.size of.1)
    ∙ ap (option_map refusal_of) c.in-Some.is)

pub returns-in-Err-clause-begins : goal.returns-in-Err-clause-begins
returns-in-Err-clause-begins c = begins_not c.args.self.now (IsShortKindOf c.args.told c.args.wish)
    (profile_named c.args.wish) fault.Memory (λ w kind is of more. absurd (more refl))

pub returns-in-Ok-clause-begins : goal.returns-in-Ok-clause-begins
returns-in-Ok-clause-begins c =
    let made = subst (λ v. IsMade v.table v.setup v.next_job c.args.wish c.in-Ok.job)
    c.self.view_is (c.in-Ok.ensures.made c.self.inside.master.0) in
    let set_up = subst (λ v. IsTrue (is_setup v.setup)) c.self.view_is
    c.self.invariant.set_up in
    let begins = subst (λ o. MayBegin o c.args.wish) (sym c.in-Ok.ensures.told)
    c.requires.told in
    let allowed : (w : State) (kind : Kind) → CoreIs c.args.self.now w →
    IsShortKindOf c.args.told c.args.wish kind → refusal_of_begin 8 w kind (profile_named c.args.wish) ≡ None
    = λ w kind is of. sym (c.refusal.ensures.machine c.args.told w kind is of.0 c.requires.size of.1)
    ∙ ap (option_map refusal_of) c.in_default.is in
    record {
      begun = λ w kind moment is of spelled. on_ok_then c.admit.result _ _ (λ e. subst (λ v. CoreIs v
          (job_begun w moment kind (profile_named c.args.wish))) (sym (e ∙ ap (λ v. admitted c.args.self.now v
          c.in-Ok.job) made.wish)) (core-begun kind moment is (subst (λ o. IsAimOf o c.args.wish kind) (sym
          c.in-Ok.ensures.told) of.0) begins
          (told-start set_up made begins) spelled (λ p e. (let l = own-left c.args.self.now c.args.wish
          (sym (c.refusal.ensures.sight c.requires.size) ∙ ap (option_map refusal_of) c.in_default.is) p e in
          omega (arith, l))) (allowed w kind is of) (providers c.args.self.now.setup set_up).1 made))
          c.admit.ensures.admitted;
      accepted = λ w kind is of. on_ok_then c.admit.result _
          (refusal_of_begin 8 w kind (profile_named c.args.wish) ≡ None) (λ e. allowed w kind is of)
          c.admit.ensures.admitted;
      number = c.admit.ensures.number;
      refused = λ w kind is of. memory_alone c.admit.result _ c.admit.ensures.memory;
      unchanged = c.admit.ensures.unchanged;
      setup = c.admit.ensures.setup;
    }
