-- Where nothing runs, a begin of the machine is refused as that of a command over the journal that the disk
-- holds.
use Rattle.job_laws.proofs.Words.{◌≡◌, ℕ, ◌+◌, Option, None, ◌∙◌, false, [], ap, add-zero, end_in, pack_refusal, Kind, aim_of, first_refusal, State, setup_in, Sight, sight_of, causes, refusal_of_begin, IsOpenAtRest}
use Rattle.command_defs.specs.Refusals as commands
use Rattle.command_defs.specs.Refusals.{sight_over}

module _ (w : State) where
  -- the state in which nothing runs and jobs go on, with the journal for its history
  abbrev pub alone : State
  alone = record w { records = w.journal; jobs = []; alone = None; is_barred = false }

  -- refusals see of it what they see of the journal
  sight-alone : sight_of alone ≡ sight_over w.area w.journal
  unfolding setup_in
  sight-alone = ap (λ (n : ℕ). record (sight_over w.area w.journal) { used = n })
      (add-zero (end_in w.area w.journal))

  pub refusal-alone : (kind : Kind) (own : Option ℕ) →
      refusal_of_begin 8 alone kind own ≡ commands.refusal_over w.area w.journal kind own
  refusal-alone kind own = cc (ap (λ (x : Sight). first_refusal (causes 8 x (aim_of kind) own)) sight-alone)

  module _ {first : ℕ} (O : IsOpenAtRest w first) where
    -- refusals see the same in the state and in the one over the journal
    sight-at-rest : sight_of w ≡ sight_of alone
    unfolding setup_in
    sight-at-rest = cc

    -- in a state at rest a begin is refused as a command's over the journal
    pub refusal-of : (kind : Kind) (own : Option ℕ) →
        refusal_of_begin 8 w kind own ≡ commands.refusal_over w.area w.journal kind own
    refusal-of kind own = ap (λ (x : Sight). first_refusal (causes 8 x (aim_of kind) own)) sight-at-rest
        ∙ refusal-alone kind own

    -- so is a pack
    pub pack-refusal-of : pack_refusal w ≡ commands.pack_refusal_over w.area w.journal
    pack-refusal-of = cc
