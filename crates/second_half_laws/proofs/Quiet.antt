-- While no vault is open, or a disk call of its jobs failed, blocks change by replacements alone.
use Rattle.second_half_laws.proofs.Words.{true, ◌⊎◌, refl, sym, ◌∙◌, inl, inr, option_map, cases_Bool, eqb-true, false≢true, Held, Provider, Replaces, Event, Outcome, Replaced, NothingHeld, State, with_provider, Happens, is_replacement, told_block}
use Rattle.std.proofs.Common.{◌≡◌, ℕ, ◌==◌, false, List, Option, Some, None}
use Rattle.machine_defs.proofs.Cases.{Cases, by_event}

-- no job of the vault can go on
abbrev pub IsAtRest : State → Type 0
IsAtRest w = (w.is_open ≡ false) ⊎ (w.is_barred ≡ true)

-- what a provider tells of a block
abbrev told : Provider → ℕ → ℕ → Option (Option (List ℕ))
told p o s = option_map (λ held. held o s) p.held

-- an alteration or a loss that found nothing leaves what is held
nothing_held : (IsThere : Held → Type 0) (change : Held → Held) (held : Option Held) (p q : Provider)
    (o s : ℕ) → p.held ≡ held → Replaces IsThere change false p q → told q o s ≡ told p o s
nothing_held IsThere change None p q o s is h = (let k = rw is at h in cc)
nothing_held IsThere change (Some x) p q o s is h = (let k = rw is at h in cc)

module _ (old : State) where
  abbrev Quiet : Event → Outcome → State → Type 0
  Quiet e r new = (i o s : ℕ) → (told_block new i o s ≡ told_block old i o s) ⊎ (is_replacement e r i ≡ true)

  -- a provider that is called, and the others
  called : (e : Event) (r : Outcome) (j : ℕ) (p : Provider) (new : State) →
      new ≡ record old { providers = with_provider old.providers j p } →
      ((o s : ℕ) → (told p o s ≡ told (old.providers j) o s) ⊎ (is_replacement e r j ≡ true)) → Quiet e r new
  called e r j p new is at i o s = elim (cases_Bool (i == j)) [
    | inl t ↦ (let i_is = eqb-true i j t in
        elim (at o s) [
          | inl k ↦ inl (cc)
          | inr k ↦ inr (cc)
        ])
    | inr f ↦ inl (cc)
  ]

  module _ (rest : IsAtRest old) where
    stuck : old.is_open ≡ true → old.is_barred ≡ false → ⊥
    stuck opened unbarred = elim rest [
      | inl closed ↦ false≢true (sym closed ∙ opened)
      | inr barred ↦ false≢true (sym unbarred ∙ barred)
    ]

    quiet_cases : (limit moment : ℕ) → Cases limit moment old (λ e r new. Quiet e r new)
    quiet_cases limit moment = record {
      still = λ e r quiet i o s. inl refl;
      acts = λ job runs is_open unbarred. absurd (stuck is_open unbarred);
      alone = λ number x r new at is_open unbarred h. absurd (stuck is_open unbarred);
      begins = λ kind is_open allowed i o s. inl refl;
      begins_at = λ profile name bytes is_open allowed i o s. inl refl;
      scrub = λ allowed i o s. inl refl;
      pack = λ allowed i o s. inl refl;
      stops = λ picks rs js area so i o s. inl refl;
      opens = λ rs js area so up faults low i o s. inl refl;
      opens_not = λ why rs js area so faults low i o s. inl refl;
      reads_not = λ why faults low i o s. inl refl;
      sets_up = λ setup rs js good closed so none faults low i o s. inl refl;
      sets_up_not = λ setup why doubt good closed so faults low i o s. inl refl;
      is_set_up = λ setup rs js closed so faults low i o s. inl refl;
      replaces = λ e j IsThere changed p quiet counts call.
          called e Replaced j p _ refl (λ o s. inr (counts j refl));
      replaces_not = λ e j IsThere changed p quiet call. called e NothingHeld j p _ refl
          (λ o s. inl (nothing_held IsThere changed (old.providers j).held (old.providers j) p o s refl call));
      continues = λ i o s. inl refl;
    }

  -- while no job can go on, an event leaves each block, or replaces one of its provider
  pub quiet_blocks : (limit moment : ℕ) (e : Event) (r : Outcome) (new : State) → IsAtRest old →
      Happens limit moment old e r new → Quiet e r new
  quiet_blocks limit moment e r new rest h =
      by_event limit moment old (λ e r new. Quiet e r new) (quiet_cases rest limit moment) e r new h
