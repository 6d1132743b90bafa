-- A pack of the store whose journal has its second version, from every state that was just opened: four moves,
-- and its end.
use Rattle.command_laws.proofs.Words.{◌≡◌, ℕ, ◌-◌, ◌^◌, List, [], ◌∷◌, ◌++◌, length, refl, inl, arith, drop_at, A, B, magic_front, entries, text_length, StandsActive, packed, unalone, Packed, IsSure, store, upgraded_records, packed_bytes, packed_store, ends, Pack, pack-so, turn}
use Rattle.made_runs.specs.Sweeps.{Moves}
use Rattle.command_laws.proofs.SureStores.{AreFitIn, fits, stands, sure_in}
use Rattle.command_laws.proofs.Samples.{upgraded-sure}

-- the second area may hold the packed records
packed-fit : AreFitIn B (packed upgraded_records)
packed-fit = fits refl (refl, (refl, (refl, tt))) (omega arith)

module _ (filling : List ℕ) (middle : length filling ≡ 2 ^ 23 - 8) where
  -- what stands in front of the second area
  abbrev front : List ℕ
  front = magic_front ++ 50 ∷ filling

  front-long : length front ≡ 2 ^ 23
  front-long = omega (arith, middle)

  -- the bytes stand for the packed records
  packed-active : StandsActive (packed_bytes filling) B (packed upgraded_records)
  packed-active = record {
    active = record { switch = 50; front = refl; names = refl };
    holds = record {
      in_grammar = refl;
      gate = 0;
      rest = [];
      closed = λ e. omega (arith, e);
      bytes_are = drop_at front (entries (packed upgraded_records) ++ 0 ∷ []) (2 ^ 23) front-long;
    };
  }

  -- the store that a pack leaves is sure
  pub packed-sure : IsSure (packed_store filling) (packed upgraded_records)
  packed-sure = sure_in (packed_store filling) B (packed upgraded_records) (packed_bytes filling) packed-fit
      refl packed-active (omega arith)

  -- a pack of the store whose journal has its second version is done
  pub pack : Pack A upgraded_records
      (Packed (text_length A upgraded_records) (text_length B (packed upgraded_records)))
      (store upgraded_records) (packed_store filling) (ends 0)
  pack = pack-so upgraded-sure.known.opened B (packed upgraded_records)
      (Moves ∷ Moves ∷ Moves ∷ Moves ∷ []) unalone (refl, refl, refl, refl, refl, (refl, refl)) refl
      (stands (packed_bytes filling) packed-active) (record { written = inl (refl, refl); place = refl })
      (λ w. (turn tt (turn tt (turn tt (turn tt tt))), (refl, refl, refl), refl))
