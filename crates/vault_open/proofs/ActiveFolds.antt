-- One record taken out of the text of the active area.
use Rattle.vault_open.proofs.Words.{◌≡◌, ◌≢◌, inl, inr, ℕ, ◌+◌, ◌<◌, ◌≤◌, ◌^◌, List, ◌∷◌, length, sym, ap, ◌∙◌, arith, None, Record, Area, base_of, end_in, HoldsIn, refused, IsReadIn, StopsIn, Kept, IsFoldOf, IsBadStart, StopsBehind, refusal_answer, IsReadInto, IsFolded, IsFoldFault}
use Rattle.record_defs.proofs.Sizes.{length-entries}
use Rattle.vault_table.specs.Causes.{IsCause}
use Rattle.vault_table.specs.declared.entry.Refused.{Refused}
use Rattle.vault_table.specs.declared.entry.Refused.TheVariants as fault

module _ (bytes : List ℕ) (area : Area) (rs : List Record) (t : Kept) (gate : ℕ)
    (is : IsReadInto bytes area rs t gate) where
  end-at : end_in area rs ≡ gate + 1
  end-at = (let g = is.read.gate_is in omega (arith, g, length-entries rs is.read.in_grammar))

  -- the gate is closed
  pub closed-in : (base : ℕ) → base ≡ base_of area → length bytes ≤ 2 ^ 24 → gate < length bytes →
      HoldsIn bytes area rs → IsFolded bytes area rs t base (gate + 1)
  closed-in base base_is few some holds = record {
    stands = record { active = is.active; holds = holds };
    accepted = is.accepted;
    folds = is.folds;
    base_is = base_is;
    end_is = sym end-at;
    room = omega (arith, end-at, some, few);
  }

  -- where reading stops is the first bad place
  pub stopped-in : (at : ℕ) → StopsIn bytes area rs at → IsBadStart bytes at
  stopped-in at stops = inr (record {
    area = area;
    records = rs;
    active = is.active;
    accepted = is.accepted;
    stops = behind stops;
  })
    where
      behind : StopsIn bytes area rs at → StopsBehind bytes area rs at
      behind (inl ends) = inl ends
      behind (inr breaks) = inr (inl breaks)

  module _ (r : Record) (next : ℕ) (more : IsReadIn bytes area (r ∷ rs) next) where
    -- the record is taken
    pub taken-in : (new : Kept) → refused rs r ≡ None → IsFoldOf (r ∷ rs) new →
        IsReadInto bytes area (r ∷ rs) new next
    taken-in new accepted folds =
        record { active = is.active; read = more; accepted = (accepted, is.accepted); folds = folds }

    refuses : refused rs r ≢ None → IsBadStart bytes (gate + 1)
    refuses why = inr (record {
      area = area;
      records = rs;
      active = is.active;
      accepted = is.accepted;
      stops = inr (inr (record {
        entry = r;
        rest = more.behind;
        in_grammar = more.in_grammar;
        bytes_are = more.bytes_are;
        refused_is = why;
        place = ap (λ (k : ℕ). k + 1) is.read.gate_is;
      }));
    })

    -- the record is not taken
    pub refusal-in : (why : Refused) → IsCause why (refused rs r) →
        IsFoldFault bytes (refusal_answer why (gate + 1))
    refusal-in fault.NoSetup is = refuses (λ e. (let x = sym is ∙ e in cc))
    refusal-in fault.SecondSetup is = refuses (λ e. (let x = sym is ∙ e in cc))
    refusal-in fault.BadId is = refuses (λ e. (let x = sym is ∙ e in cc))
    refusal-in fault.NotStarted is = refuses (λ e. (let x = sym is ∙ e in cc))
    refusal-in fault.TooMany is = refuses (λ e. (let x = sym is ∙ e in cc))
    refusal-in fault.NoName is = refuses (λ e. (let x = sym is ∙ e in cc))
    refusal-in fault.BadAudit is = refuses (λ e. (let x = sym is ∙ e in cc))
    refusal-in fault.NoRepair is = refuses (λ e. (let x = sym is ∙ e in cc))
    refusal-in fault.OldKind is = refuses (λ e. (let x = sym is ∙ e in cc))
    refusal-in fault.OldVersion is = refuses (λ e. (let x = sym is ∙ e in cc))
    refusal-in fault.NewVersion is = refuses (λ e. (let x = sym is ∙ e in cc))
    refusal-in fault.BadResume is = refuses (λ e. (let x = sym is ∙ e in cc))
    refusal-in fault.NameTwice is = refuses (λ e. (let x = sym is ∙ e in cc))
    refusal-in fault.Memory is = tt
