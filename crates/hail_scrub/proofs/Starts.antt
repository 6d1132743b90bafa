-- How a scrub begins in the machine: what the vault's `hold` and `Scrub::new` come to together.
use Rattle.hail_scrub.proofs.Words.{◌≡◌, ℕ, ◌+◌, ◌≤◌, true, [], List, None, refl, ap, sym, subst, Provider, FileShape, Setup, files_of, new_scrub, alone_refusal, unalone, BeginScrub, Begun, Happens, State, Scrub, setup_in, AreHanded, ScrubTurn, ScrubView, AreFilesOf, IsNewScrub, held, ScrubIs, ScrubStands, MakesScrubStep}
use Rattle.machine_defs.specs.Begins.{pin_all}
use Rattle.hail_scrub.proofs.Machine.{setup_same, handed_same}

module _ (w : State) (moment : ℕ) where
  -- a hold that is not refused is a begin of a scrub
  pub hold_begins : (limit : ℕ) → w.is_open ≡ true → alone_refusal w [] ≡ None →
      Happens limit moment w BeginScrub (Begun w.next_job) (held w moment)
  hold_begins limit opened free = (opened, free, refl, refl)

  -- over the files in effect, `Scrub::new` gives the machine's scrub
  pub new_begun : (master : List ℕ) (files : List FileShape) → (setup_in w).n ≤ 16 →
      AreFilesOf (setup_in w) master files (pin_all w (files_of w.records)) →
      IsNewScrub (setup_in w) master files (new_scrub w moment)
  new_begun master files few are = record {
    few = few;
    files_are = are;
    todo_is = refl;
    given_is = refl;
    stripes_are = refl;
    symbols_are = λ j. refl;
    blocks_are = λ j. refl;
  }

  -- beside it a number is drawn, and all else stays
  pub held_beside : w.alone ≡ None → unalone (held w moment) ≡ record w { next_job = w.next_job + 1 }
  held_beside none = (λ i. record w { alone = sym none i; next_job = w.next_job + 1 })

  -- so its first step is one of the machine
  pub held_stands : (v : ScrubView) (ps : List Provider) → AreHanded ps w →
      ScrubIs v (setup_in w) (new_scrub w moment) → ScrubStands v ps (held w moment) (new_scrub w moment)
  held_stands v ps handed is = record {
    alone = refl;
    handed = handed_same ps w (held w moment) handed refl (λ k. refl);
    scrub = subst (λ (s : Setup). ScrubIs v s (new_scrub w moment)) (sym (setup_same w (held w moment) refl)) is;
  }

-- beside the scrub a step changes what the providers hold, and nothing else
pub step_beside : (w : State) (m : Scrub) (t : ScrubTurn) (v : ScrubView) (qs : List Provider)
    (made : MakesScrubStep w m t v qs) →
    unalone made.state ≡ record (unalone w) { providers = made.state.providers }
step_beside w m t v qs made = ap unalone made.beside
