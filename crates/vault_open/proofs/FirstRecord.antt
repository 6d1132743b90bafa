-- The setup as the first record of a disk.
use Rattle.vault_open.proofs.Words.{◌≡◌, inl, inr, ℕ, Bool, WriteFault, MayStandWith, ◌+◌, ◌<◌, ◌≤◌, ◌^◌, List, [], ◌∷◌, ◌++◌, length, take, drop, Option, Some, None, refl, sym, ap, ◌∙◌, subst, arith, length-append, length-take, IfSome, IsTrue, OnOk, IfErr, option_map, take-take, take-append-le, drop_at, Cells, reads, firm, written, synced, Goes, reads-firm, Setup, Record, SetUp, is_in_grammar, Area, A, B, base_of, IsSwitched, StandsActive, active-long, entry_of, StopsIn, StandsFirm, IsAfterMovesIn, read-firm, IfSome-same, IsSetUpOn, reads-within, InitFault, IsBlank, IsReadied, with_first_record, first_answer, IsFirstFault, IsFirstAnswer, IsTextFault}
use Rattle.std.specs.Prelude.{Result, Ok, Err}
use Rattle.record_defs.specs.Spellings.{spelling}
use Rattle.record_codec.specs.declared.records.Record.{Record as RecordValue}
use Rattle.record_codec.specs.declared.records.Record.TheVariants as kind
use Rattle.journal_core.specs.declared.append.Append.{Append}
use Rattle.journal_core.specs.Appends.{Appends, gate_of, body_of, moves_of, TurnsAppend, AppendsDisk, KeepsRecords}
use Rattle.journal_core.proofs.AreaMoves.{begins-in}
use Rattle.journal_core.proofs.Turning.{both_ok, keeps-records}
use Rattle.vault_open.specs.declared.fault.InitFault.TheVariants as init_fault
use Rattle.vault_open.proofs.Readings.{reads-synced}

-- ---- the first record of a journal

-- the answer to a first record is that to records of which it is the only one
pub fault-first : (base : ℕ) (first : RecordValue) → IsFirstFault base (entry_of first ∷ []) (first_answer base first)
fault-first base (kind.Setup s key) = tt
fault-first base (kind.PutStart id name) = (tt, refl)
fault-first base (kind.PutDone id size) = (tt, refl)
fault-first base (kind.Drop name) = (tt, refl)
fault-first base (kind.AuditStart number) = (tt, refl)
fault-first base (kind.AuditDone number undecided counts) = (tt, refl)
fault-first base (kind.RepairDone number) = (tt, refl)
fault-first base (kind.PutDoneIn id size profile) = (tt, refl)
fault-first base kind.Version = (tt, refl)
fault-first base (kind.Resume id audit) = (tt, refl)
fault-first base (kind.File id size profile name) = (tt, refl)
fault-first base (kind.Due number counts) = (tt, refl)

-- no area begins behind the second one
pub base-low : (area : Area) (base : ℕ) → base ≡ base_of area → base ≤ 2 ^ 23
base-low A base is = omega (arith, is)
base-low B base is = omega (arith, is)

-- where reading the active area stops, bytes are no journal
pub stops-bad : (bytes : List ℕ) (area : Area) (rs : List Record) (at : ℕ) → IsSwitched bytes area →
    StopsIn bytes area rs at → IsTextFault bytes (init_fault.BadJournal at)
stops-bad bytes area rs at active (inl ends) =
    inl (inr (record { area = area; active = active; fails = inl ends.0 }))
stops-bad bytes area rs at active (inr breaks) =
    inl (inr (record { area = area; active = active; fails = inr breaks.0 }))

module _ (bytes : List ℕ) (area : Area) (rs : List Record) (stands : StandsActive bytes area rs) (base : ℕ)
    (base_is : base ≡ base_of area) where
  fault-text : (why : InitFault) → IsFirstFault base rs why → IsTextFault bytes why
  fault-text init_fault.Already is = (rs, (area, stands), is)
  fault-text (init_fault.BadJournal at) is = inr (record {
    area = area;
    records = rs;
    stands = stands;
    otherwise = is.0;
    place = is.1 ∙ ap (λ (k : ℕ). k + 1) base_is;
  })
  fault-text init_fault.BadSetup is = absurd is
  fault-text init_fault.DiskFault is = absurd is
  fault-text init_fault.Memory is = absurd is

  -- where the answer is Ok, the bytes stand for no records
  pub none-stands : (answer : Result Unit InitFault) → IsFirstAnswer base rs answer →
      OnOk answer (StandsActive bytes area [])
  none-stands (Ok done) is = subst (StandsActive bytes area) is stands
  none-stands (Err why) is = tt

  -- an error told for the first of some records is a fault of the bytes that stand for them
  pub text-refused : (answer : Result Unit InitFault) → IsFirstAnswer base rs answer →
      IfErr answer (IsTextFault bytes)
  text-refused (Ok done) is = tt
  text-refused (Err why) is = fault-text why is

-- ---- what the disk reads after the four moves

module _ (base : ℕ) (body : List ℕ) (blank : Cells) (within : base + 1 ≤ length (reads blank)) where
  abbrev held : List ℕ
  held = reads blank

  abbrev behind : List ℕ
  behind = body ++ drop (base + 1 + length body) held

  abbrev half : List ℕ
  half = take (base + 1) held ++ behind

  front : length (take (base + 1) held) ≡ base + 1
  front = omega (arith, length-take (base + 1) held, within)

  body-read : reads (written (base + 1) body (synced blank)) ≡ half
  body-read = reads-within (base + 1) body (synced blank)
      (subst (λ (l : List ℕ). base + 1 ≤ length l) (sym (reads-synced blank)) within)
      ∙ ap (λ (l : List ℕ). take (base + 1) l ++ (body ++ drop (base + 1 + length body) l)) (reads-synced blank)

  size : base ≤ length half
  size = omega (arith, length-append (take (base + 1) held) behind, front)

  gate-read : (read : List ℕ) → read ≡ half →
      reads (written base (1 ∷ []) (firm read)) ≡ take base held ++ (1 ∷ behind)
  gate-read read is = ap (λ (l : List ℕ). reads (written base (1 ∷ []) (firm l))) is
      ∙ reads-within base (1 ∷ []) (firm half)
      (subst (λ (l : List ℕ). base ≤ length l) (sym (reads-firm half)) size)
      ∙ ap (λ (l : List ℕ). take base l ++ (1 ∷ drop (base + 1) l)) (reads-firm half)
      ∙ ap (λ (l : List ℕ). take base half ++ (1 ∷ l)) (drop_at (take (base + 1) held) behind (base + 1) front)
      ∙ ap (λ (l : List ℕ). l ++ (1 ∷ behind))
      (take-append-le base (take (base + 1) held) behind (omega (arith, front))
      ∙ take-take base (base + 1) held (omega arith))

  -- two writes with a sync behind each are read as one
  pub two-writes : synced (written base (1 ∷ []) (synced (written (base + 1) body (synced blank))))
      ≡ synced (written base (1 ∷ body) blank)
  two-writes =
      let same : base + length (1 ∷ body) ≡ base + 1 + length body = omega arith in
      ap firm (gate-read (reads (written (base + 1) body (synced blank))) body-read
      ∙ sym (reads-within base (1 ∷ body) blank (omega (arith, within))
      ∙ ap (λ (k : ℕ). take base held ++ (1 ∷ (body ++ drop k held))) same))

-- ---- an append to a blank disk

blank-firm : (area : Area) (cells : Cells) → IsBlank area cells → StandsFirm area [] cells
blank-firm area cells is = subst (StandsFirm area []) (sym is.firm_is) (read-firm is.bytes area [] is.stands)

-- an append behind no records, so many moves of which are made
pub record IsOnWay (area : Area) (r : Record) (n : ℕ) (a : Append) (told : Option Cells) : Type 0 where
  pub appends : Appends area [] r a told
  pub moves : moves_of a ≡ n

-- an append of the setup to a blank disk is at its start, behind no records
pub begun : (s : Setup) (area : Area) (base : ℕ) (a : Append) (told : Option Cells) (r : Record) →
    base ≡ base_of area → r ≡ SetUp s → IsTrue (is_in_grammar r) → gate_of a ≡ base → moves_of a ≡ 0 →
    body_of a ≡ spelling r ++ 0 ∷ [] → IfSome told (IsBlank area) → IsOnWay area (SetUp s) 0 a told
begun s area base a told r base_is r_is valid gate_is moves_is body_is blank = record {
  moves = moves_is;
  appends = record {
    records = refl;
    entry = subst (λ (r : Record). IsTrue (is_in_grammar r)) r_is valid;
    gate = omega (arith, gate_is, base_is);
    body = body_is ∙ ap (λ (r : Record). spelling r ++ 0 ∷ []) r_is;
    disk = subst (λ (m : ℕ). IfSome told (IsAfterMovesIn m area [] (body_of a))) (sym moves_is)
        (IfSome-same (IsBlank area) (IsAfterMovesIn 0 area [] (body_of a))
        (λ cells is. begins-in area [] (body_of a) cells (blank-firm area cells is)) told told refl blank);
  };
}

module _ (area : Area) (r : Record) (n : ℕ) (a b : Append) (result : Result Bool WriteFault)
    (old new : Option Cells) (few : n < 4) (is : IsOnWay area r n a old) (t : TurnsAppend a result b)
    (d : AppendsDisk a result old new) where
  keeps : KeepsRecords area [] r a result b new
  keeps = keeps-records area [] r a b result old new is.appends
      (let moves = is.moves in omega (arith, few, moves)) t d

  -- an append of a first record goes on by a move
  pub goes-on : OnOk result (IsOnWay area r (n + 1) b new)
  goes-on = both_ok result
      (λ next on. record { appends = on; moves = next ∙ ap (λ (k : ℕ). k + 1) is.moves }) t.count.next keeps.moved

  -- however it is left, the disk stands for no record or for that one
  pub stands-with : MayStandWith area [] r new
  stands-with = keeps.between

  -- once it is done, the disk stands for it
  pub stands-ready : OnOk result (n + 1 ≡ 4 → IfSome new (StandsFirm area (r ∷ [])))
  stands-ready = both_ok result
      (λ next ready four. ready (next ∙ ap (λ (k : ℕ). k + 1) is.moves ∙ four)) t.count.next keeps.ready

-- ---- a store is set up on a disk that was made ready

-- a disk made ready reads what the blank one did
blank-read : (area : Area) (blank mid : Cells) → mid ≡ synced blank → IsBlank area mid →
    base_of area + 1 ≤ length (reads blank)
blank-read area blank mid synced_is is =
    let same : is.bytes ≡ reads blank =
    sym (reads-firm is.bytes) ∙ ap reads (sym is.firm_is ∙ synced_is) ∙ reads-synced blank in
    omega (arith, active-long is.bytes area [] is.stands, ap length same)

-- a disk made ready, with the setup as its first record, is set up
pub set-up-on : (s : Setup) (area : Area) (base : ℕ) (told mid new : Option Cells) → base ≡ base_of area →
    Goes (IsReadied area) told mid → new ≡ option_map (with_first_record base s) mid →
    Goes (IsSetUpOn s) told new
set-up-on s area base None None new base_is ready made =
    subst (λ (o : Option Cells). Goes (IsSetUpOn s) None o) (sym made) tt
set-up-on s area base None (Some mid) new base_is ready made = absurd ready
set-up-on s area base (Some old) None new base_is ready made = absurd ready
set-up-on s area base (Some old) (Some mid) new base_is ready made =
    subst (λ (o : Option Cells). Goes (IsSetUpOn s) (Some old) o) (sym made) (record {
      area = area;
      blank = ready.blank;
      blank_is = ready.blank_is;
      cells_are = ap (λ (k : ℕ). with_first_record k s mid) base_is
          ∙ ap (with_first_record (base_of area) s) ready.synced_is
          ∙ two-writes (base_of area) (spelling (SetUp s) ++ 0 ∷ []) ready.blank
          (blank-read area ready.blank mid ready.synced_is ready.reads_none);
    })
