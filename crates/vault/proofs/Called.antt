-- Which devices a step called, and what it did to its job.
use Rattle.vault.proofs.Words.{◌≡◌, ◌⊎◌, inl, inr, ◌<◌, ℕ, true, false, List, None, Some, refl, sym, ap, subst, ◌∙◌, is_some, false≢true, Coming, IsNoJob, core_left, seen_action, calls_disk, called_provider, CoreView, KeepsStreams, Desk, Vault, Reply, Answer, Turn, IfEnded, IsNoAction, HasPaddedCounts, IsStopped, Option, called-none, CallsOnly}
use Rattle.device_defs.specs.Faults.{one_more}
use Rattle.disk_model.specs.declared.disk.Disk.{Ghosts as DiskGhosts}
use Rattle.provider_model.specs.declared.provider.Provider.{Ghosts as ProviderGhosts}
use Rattle.machine_defs.specs.Actions.{Action}
use Rattle.vault_core.specs.declared.action.Action.{Action as ActionValue}
use Rattle.vault_core.specs.declared.action.Action.TheVariants as act
use Rattle.vault_core.specs.Coming.{Acts}
use Rattle.vault.specs.Seen.{IsUnchanged}
use Rattle.vault.specs.Steps.{CallsNext, HasActed, LeavesVault}
use Rattle.vault.specs.declared.turn.Turn.TheVariants as turn
use Rattle.vault.proofs.Hands.{keeps_same}
use Rattle.vault.proofs.Replies.{goes_not_on, padded_end}

-- ---- what comes next calls

-- the same action comes next
pub acts-as : (a b : ActionValue) → a ≡ b → Acts (seen_action b) ≡ Acts (seen_action a)
acts-as a b same = ap (λ (x : ActionValue). Acts (seen_action x)) (sym same)

-- where no disk is called, none is
pub calls-none : {X : Type 0} (a b : Coming) → a ≡ b → calls_disk a ≡ false → calls_disk b ≡ true → X
calls-none a b same none calls = absurd (false≢true (sym none ∙ ap calls_disk same ∙ calls))

-- an action is not the want of a job
pub acts-none : (a : Action) → Acts a ≡ IsNoJob → ⊥
acts-none a e = cc

module _ {W X : Type 0} (D : DiskGhosts W) (P : ProviderGhosts X) (disk : W) (ps : List X) (a b : Coming)
    (same : a ≡ b) where
  -- a provider, and it alone
  pub calls-provider : (j : ℕ) (qs : List X) → called_provider a ≡ Some j → calls_disk a ≡ false
      → CallsOnly P.calls (Some j) ps qs → CallsNext D P b disk ps disk qs
  calls-provider j qs one none only = record {
    tells = refl;
    still = λ e. refl;
    one_disk_call = λ calls. calls-none a b same none calls;
    called = subst (λ (x : Option ℕ). CallsOnly P.calls x ps qs) (sym one ∙ ap called_provider same) only;
  }

  -- no device
  pub calls-nothing : called_provider a ≡ None → calls_disk a ≡ false → CallsNext D P b disk ps disk ps
  calls-nothing nobody none = record {
    tells = refl;
    still = λ e. refl;
    one_disk_call = λ calls. calls-none a b same none calls;
    called = called-none P.calls _ ps (ap called_provider (sym same) ∙ nobody);
  }

  -- the disk
  calls-disk : (new : W) → called_provider a ≡ None → calls_disk a ≡ true
      → is_some (D.holds new) ≡ is_some (D.holds disk) → D.calls new ≡ one_more (D.calls disk)
      → CallsNext D P b disk ps new ps
  calls-disk new nobody moves tells called = record {
    tells = tells;
    still = λ none. calls-none b a (sym same) none moves;
    one_disk_call = λ calls. called;
    called = called-none P.calls _ ps (ap called_provider (sym same) ∙ nobody);
  }

-- a move of an append calls the disk
pub calls-move : {W X : Type 0} (D : DiskGhosts W) (P : ProviderGhosts X) (disk new : W) (ps : List X)
    (a : ActionValue)
    → (a ≡ act.WriteBody) ⊎ (a ≡ act.SyncBody) ⊎ (a ≡ act.WriteGate) ⊎ (a ≡ act.SyncGate)
    → is_some (D.holds new) ≡ is_some (D.holds disk) → D.calls new ≡ one_more (D.calls disk)
    → CallsNext D P (Acts (seen_action a)) disk ps new ps
calls-move D P disk new ps a (inl e) = calls-disk D P disk ps _ _ (acts-as a _ e) new refl refl
calls-move D P disk new ps a (inr (inl e)) = calls-disk D P disk ps _ _ (acts-as a _ e) new refl refl
calls-move D P disk new ps a (inr (inr (inl e))) = calls-disk D P disk ps _ _ (acts-as a _ e) new refl refl
calls-move D P disk new ps a (inr (inr (inr e))) = calls-disk D P disk ps _ _ (acts-as a _ e) new refl refl

-- ---- what became of the job

-- a job that was ended has acted
pub stopped-acted : (v new : Desk) (job : ℕ) (r : Reply) (a : Answer) (t : Turn) → IsStopped v job r a t new
    → HasPaddedCounts a → HasActed v.core new.core job t
stopped-acted v new job r a t stopped padded = record {
  acted = λ none. subst IsNoAction stopped.turn_is none;
  left = λ more. absurd (goes_not_on v new job r a t stopped more);
  padded = padded_end v new job r a t stopped padded;
  streams = stopped.fed.streams;
}

-- a job that goes on behind its reply has acted, by a desk that gave its append away before
pub fed-acted : (v given : Desk) (job : ℕ) (new : CoreView) → given ≡ record v { flight = None }
    → core_left new job < core_left given.core job → KeepsStreams given.core new
    → HasActed v.core new job turn.More
fed-acted v given job new rest falls streams = record {
  acted = λ none. none;
  left = λ more. subst (λ (x : Desk). core_left new job < core_left x.core job) rest falls;
  padded = tt;
  streams = subst (λ (x : Desk). KeepsStreams x.core new) rest streams;
}

-- what a step that made no action leaves
pub idle-leaves : (v : Vault) (t : Turn) → IsNoAction t → LeavesVault v v t
idle-leaves v t none = record {
  padded = by_turn t none;
  held = refl;
  streams = λ none. none;
  told = λ number j is. (keeps_same v.desk.core).told number j is;
}
  where
    by_turn : (t : Turn) → IsNoAction t → IfEnded t (λ ended. HasPaddedCounts ended.answer)
    by_turn (turn.Done ended) none = absurd none
    by_turn _ none = tt

-- it leaves all as it was
pub unchanged : (v : Vault) → IsUnchanged v v
unchanged v =
    (record { core = refl; setup = refl; master = refl; base = refl; flight = refl; jobs = refl }, refl)
