-- What runs alone, whose steps are computed: scrubs of the file of one byte and packs of a journal, from
-- every state that was just opened; and a get from a packed store.
use Rattle.command_runs.proofs.Words.{◌≡◌, ℕ, ◌+◌, ◌==◌, false, List, [], ◌∷◌, ◌++◌, length, map, Some, None, refl, sym, ◌∙◌, arith, ◌≤◌, Option, ap, subst, inl, ◌^◌, length-append, if◌then◌else◌, replicate, flat_map, option_map, eq-eqb, drop_at, length-replicate, column-right, none-lose, symbols, block_sized, own_work, byte_back, same-disk, pack-refused, with_alone, thing, shown, all_open, whole, altered_is, without_two_give, upto, column_of_symbols, is_wrong_block, Store, End, actions_of, Fetched, GetJob, Kind, byte, firm, synced, EachImage, StandsActive, B, four, text, Answer, Scrubbed, Lost, ProviderFault, Packed, DiskFault, Got, State, Scrubbing, setup_in, IsJustOpened, Answers, ScrubAll, PackJournal, EndsByAnswer, RunsAlone, scrub_text, ScrubsAlone, AnswersScrub, Seen, Ending, SameSource, provider_at, called, ends, Record, spelling, Works, Came, Gives, IsSure, IsChain, Entry, IsOpened, own_block, altered_block, byte_records, failed_store, two_damaged, symbols_off, blocks_off, scrub_failed, damaged, all_lost, found_lost, ends_at, named, byte_upgraded_records, upgraded_kept, byte_kept, all_hold, holds, own_blocks_heard, disk_failed, ends_hearing, packed_records, IsFilling, named_second, second_text, in_second, packed_kept, packed_store, fetched_hold, got_packed, pack_call, get_packed, seen_as, always}
use Rattle.code_defs.specs.ServerCode.{differences}
use Rattle.code_defs.proofs.Codewords.{differences-same}
use Rattle.column_defs.specs.Objects.{symbol_of, symbols_in}
use Rattle.column_defs.specs.Opened.{GivesSymbols}
use Rattle.column_defs.proofs.ColumnLaws.{length-column_of_symbols}
use Rattle.column_laws.proofs.RightBlocks.{opens-right}
use Rattle.column_laws.proofs.RightRows.{given-right, kept-symbol}
use Rattle.machine_defs.specs.Alone.{differs, new_scrub, unalone, barred_pack}
use Rattle.machine_defs.specs.Given.{block_given}
use Rattle.machine_defs.specs.Refusals as refusal
use Rattle.scrub_laws.proofs.Telling.{scrubbed-alone}
use Rattle.made_runs.specs.Sweeps.{Sweep, Brings, Opens, Mends, swept, Moves}
use Rattle.command_runs.specs.Words.{A}
use Rattle.command_runs.specs.Devices.{each}
use Rattle.command_runs.specs.Lone.{RunsSomewhere, ScrubsSomewhere}
use Rattle.command_runs.specs.Devices as devices
use Rattle.turn_laws.proofs.Swept.{after_sweeps, AreGoing, GoesAlone, scrubs-so, Pack, pack-so}
use Rattle.command_laws.proofs.SureStores.{AreFitIn, fits, sure, stands_for, sure_in, stands}
use Rattle.command_runs.proofs.Stores.{byte-fit, upgraded-fit, stored-sure, upgraded_kept-sure}
use Rattle.command_runs.proofs.Made.{one_byte, before, byte-held, Run, ran, turn}

-- ---- the blocks of a scrub, of which one has a symbol altered, and one is lost

length-block : (j : ℕ) → length (own_block j) ≡ 6
length-block j = length-column_of_symbols thing (symbols_in thing byte 0) j 0

-- the altered block keeps its size, and differs in one symbol
altered-so : (length altered_block ≡ 6) × (differences altered_block (own_block 0) ≡ 1)
unfolding column_of_symbols symbol_of
altered-so = altered_is (own_block 0) 5 (length-block 0)
    (kept-symbol thing byte 0 0 0 (omega arith) (omega arith) (omega arith))

-- one symbol is within what is corrected
pub altered-right : is_wrong_block thing byte 0 0 (Some altered_block) ≡ false
altered-right = (let e = eq-eqb (length altered_block) 6 altered-so.0 in rw (e, altered-so.1) refl)

-- with the altered block, and without that of provider 2, the stripe gives the file's symbols
pub damaged-give : GivesSymbols thing 0
    (Some altered_block ∷ Some (own_block 1) ∷ None ∷ Some (own_block 3) ∷ []) symbols
damaged-give = given-right thing byte 0 0 _ (shown 0 ∷ shown 1 ∷ None ∷ shown 3 ∷ []) refl (omega arith)
    (rw (altered-right, column-right thing byte 1 0, column-right thing byte 3 0) (omega arith))
    (assumption (opens-right thing byte 0 0 (Some altered_block) (omega arith) altered-right, all_open))

-- ---- what the scrub then has to store, and what it has found

-- where so many symbols of provider 0 differ, and all of provider 2
abbrev Differ : (ℕ → ℕ) → ℕ → Type 0
Differ off x = (flat_map (λ j. if off j == 0 then [] else Store j 1 0 ∷ []) (upto 4) ++ End ∷ [] ≡
    ((if x == 0 then [] else Store 0 1 0 ∷ []) ++ Store 2 1 0 ∷ []) ++ End ∷ []) ×
    ((0 + x) ∷ 0 ∷ 6 ∷ 0 ∷ [] ≡ map (λ j. 0 + off j) (upto 4)) × ((0 + (if x == 0 then 0 else 1)) ∷ 0 ∷ 1 ∷ 0
    ∷ [] ≡ map (λ j. 0 + (if off j == 0 then 0 else 1)) (upto 4))

-- where provider 0 gave this, and provider 2 nothing
abbrev off_with : List ℕ → ℕ → ℕ
off_with first j = differs (block_given (Fetched 3 1 0 (Some (own_block 3)) ∷ Fetched 2 1 0 None ∷ Fetched 1 1
    0 (Some (own_block 1)) ∷ Fetched 0 1 0 (Some first) ∷ []) 1 0 j) (column_of_symbols thing symbols j 0)

by : (off : ℕ → ℕ) (x : ℕ) → off 0 ≡ x → off 1 ≡ 0 → off 2 ≡ 6 → off 3 ≡ 0 → Differ off x
by off x a b c d = (rw (a, b, c, d) refl, sym (rw (a, b, c, d) refl), sym (rw (a, b, c, d) refl))

pub finds : (first : List ℕ) (x : ℕ) → differences first (own_block 0) ≡ x → Differ (off_with first) x
finds first x e = by (off_with first) x e (differences-same (own_block 1)) (length-block 2)
    (differences-same (own_block 3))

-- ---- scrubs

-- a scrub has begun
abbrev begun : Seen → State → ℕ → State
begun old w n = with_alone (before byte_records old w) (Scrubbing (new_scrub (before byte_records old w) n))

-- its fetches bring these
abbrev fetching : Option (List ℕ) → Option (List ℕ) → List Sweep
fetching a b = Brings (Some (own_block 3)) ∷ Brings b ∷ Brings (Some (own_block 1)) ∷ Brings a ∷ []

-- a scrub runs alone over the file of one byte, and its command ends so
pub record Scrub (answer : Answer) (old new : Seen) (end : Ending) : Type 0 where
  pub alone : ScrubsAlone A byte_records answer old new
  pub answers : Answers ScrubAll old new end

-- its disk reads the records before and after it, and it finds and leaves four providers, and the source
abbrev Finds : Seen → Seen → Type 0
Finds old new = (old.disk ≡ Some (firm (text byte_records))) × (new.disk ≡ Some (firm (text byte_records)))
    × (old.disk_faults ≡ 0) × (old.providers ≡ each (provider_at old.providers))
    × (length new.providers ≡ length old.providers) × SameSource old new

-- such a scrub runs so
scrub : {answer : Answer} {old new : Seen} {status place : ℕ} (sweeps : List Sweep) (last : State → State) →
    Finds old new → EndsByAnswer (scrub_text answer) answer old new (ends_at status place) →
    ((w : State) (n : ℕ) → GoesAlone (begun old w n) sweeps answer (seen_as A byte_records new [] w.handed)
    (last (after_sweeps (begun old w n) sweeps))) → Scrub answer old new (ends_at status place)
unfolding setup_in
scrub {answer} {old} {new} sweeps last finds ends goes = record {
  alone = alone;
  answers = (
    (let l = ap length finds.3 in
        let opened = (sure old byte_records byte-fit finds.0 (omega (arith, l))).known.opened in
        AnswersScrub.ended byte_records answer opened
        (finds.1 ∙ (same-disk byte_records ∙ ap (option_map synced) (sym finds.0))) refl alone
        (scrubbed-alone byte_records answer old new opened finds.4 alone) ends),
    finds.5,
  );
}
  where
    alone : ScrubsAlone A byte_records answer old new
    alone = scrubs-so A byte_records one_byte answer old new sweeps last finds.2 finds.3
        (λ w V. byte-held A byte_records w refl V)
        (subst (λ told. EachImage told (λ image. StandsActive image A byte_records)) (sym finds.1)
        (stands_for byte-fit)) goes

-- it opens a stripe of which a symbol is altered and a block lost
abbrev opening : List Sweep
opening = Opens symbols (Store 0 1 0 ∷ Store 2 1 0 ∷ End ∷ []) ∷ fetching (Some altered_block) None

opens : (w : State) (n : ℕ) → AreGoing (begun two_damaged w n) opening
unfolding setup_in
opens w n = turn (damaged-give, (finds altered_block 1 altered-so.1).0)
    (turn (block_sized 3) (turn refl (turn (block_sized 1) (turn (whole altered_block 6 altered-so.0) tt))))

-- it mends both, and ends with status 0
pub done : Scrub (Scrubbed 1 symbols_off blocks_off) two_damaged devices.scrubbed (ends 0)
unfolding setup_in
done = scrub (Mends ∷ Mends ∷ opening) unalone (refl, refl, refl, refl, refl, (refl, refl))
    (record { written = inl (refl, refl); place = refl })
    (λ w n. let f = finds altered_block 1 altered-so.1 in
    (turn tt (turn tt (opens w n)), (refl, f.1, f.2, refl), refl))

-- its first store fails, and it ends with status 13 and tells the provider
pub failed : Scrub (ProviderFault 0) two_damaged scrub_failed (ends_at 13 0)
unfolding setup_in
failed = scrub opening (λ s. called (unalone s) 0 (failed_store (s.providers 0)))
    (refl, refl, refl, refl, refl, (refl, refl)) (record { status_is = refl; place = refl; sink = refl })
    (λ w n. (
      opens w n,
      (refl, (_, record { held = refl; counts = omega arith; cause = λ low. omega arith }, refl)),
      refl,
    ))

-- where provider 2 has lost its block alone it mends that
pub swept-clean : Scrub (Scrubbed 1 (0 ∷ 0 ∷ 6 ∷ 0 ∷ []) (0 ∷ 0 ∷ 1 ∷ 0 ∷ [])) damaged devices.swept (ends 0)
unfolding setup_in
swept-clean = scrub (Mends ∷ Opens symbols (Store 2 1 0 ∷ End ∷ []) ∷ fetching (Some (own_block 0)) None)
    unalone (refl, refl, refl, refl, refl, (refl, refl)) (record { written = inl (refl, refl); place = refl })
    (λ w n. let f = finds (own_block 0) 0 (differences-same (own_block 0)) in (
      turn tt (turn (without_two_give, f.0)
          (turn (block_sized 3) (turn refl (turn (block_sized 1) (turn (block_sized 0) tt))))),
      (refl, f.1, f.2, refl),
      refl,
    ))

-- where all blocks are lost it finds a row lost, and ends with status 4
pub lost : Scrub (Lost 0 0) all_lost found_lost (ends 4)
unfolding setup_in
lost = scrub (Brings None ∷ Brings None ∷ Brings None ∷ Brings None ∷ []) unalone
    (refl, refl, refl, refl, refl, (refl, refl)) (record { status_is = refl; place = refl; sink = refl })
    (λ w n. (
      turn refl (turn refl (turn refl (turn refl tt))),
      (refl, none-lose four.master, refl),
      refl,
    ))

-- ---- the disk after a pack

-- there are fillings of each length
pub filling-of : (k : ℕ) → (filling : List ℕ) × (length filling ≡ k)
filling-of k = (let none : ℕ = 0 in (replicate k none, length-replicate k none))

-- the second area may hold the packed records
packed-fit : AreFitIn B packed_records
packed-fit = fits refl (refl, (refl, (refl, (refl, tt)))) (omega arith)

module _ (filling : List ℕ) (fills : IsFilling filling) where
  -- the disk stands for the packed records, in its second area
  second-stands : StandsActive (in_second filling) B packed_records
  unfolding spelling
  second-stands = record {
    active = record { switch = 50; front = refl; names = refl };
    holds = record {
      in_grammar = packed-fit.all;
      gate = 0;
      rest = [];
      closed = λ e. omega (arith, e);
      bytes_are = drop_at (named_second ++ filling) second_text (2 ^ 23) (length-append named_second filling
          ∙ (let l : length named_second ≡ 80 = refl in omega (arith, l, fills)));
    };
  }

  -- the packed store is known
  abbrev packed-sure : IsSure (packed_kept filling) packed_records
  packed-sure = sure_in (packed_kept filling) B packed_records (in_second filling) packed-fit refl
      second-stands (omega arith)

-- ---- packs

-- it makes its four moves, and ends with status 0
pub packs : (filling : List ℕ) → IsFilling filling →
    Pack A byte_upgraded_records (Packed 80 81) upgraded_kept (packed_store filling) (ends 0)
packs filling fills = pack-so upgraded_kept-sure.known.opened B packed_records
    (Moves ∷ Moves ∷ Moves ∷ Moves ∷ []) unalone (refl, refl, refl, refl, refl, (refl, refl)) refl
    (stands (in_second filling) (second-stands filling fills))
    (record { written = inl (refl, refl); place = refl })
    (λ w. (turn tt (turn tt (turn tt (turn tt tt))), (refl, refl, refl), refl))

-- or its first move fails, and it ends with status 12
pub fails : Pack A byte_upgraded_records DiskFault upgraded_kept (disk_failed upgraded_kept) (ends 12)
fails = pack-so upgraded_kept-sure.known.opened A byte_upgraded_records []
    (λ s. record (barred_pack s) { disk_faults = 1 }) (refl, refl, refl, refl, refl, (refl, refl)) refl
    (stands_for upgraded-fit) (record { status_is = refl; place = refl; sink = refl })
    (λ w. (tt, (1, omega arith, λ low. omega arith, refl), refl))

-- over a journal of the first version a pack ends with status 23
pub old-version : Answers PackJournal byte_kept byte_kept (ends 23)
old-version = pack-refused refusal.OldVersion stored-sure.known.opened refl (same-disk byte_records)

-- ---- a get from the packed store

-- it ends with status 0, and has heard all own blocks
pub gets : (filling : List ℕ) → IsFilling filling → Run B packed_records (GetJob named) (Got byte)
    (packed_kept filling) (got_packed filling) (ends_hearing 0 own_blocks_heard)
unfolding setup_in actions_of
gets filling fills = ran packed_records (Works symbols ∷ Came (Some (own_block 3)) ∷ Came (Some (own_block 2))
    ∷ Came (Some (own_block 1)) ∷ Came (Some (own_block 0)) ∷ []) (Gives (Got byte))
    (packed-sure filling fills).known.opened (refl, refl, refl, refl, refl, refl, refl, (refl, refl))
    (stands (in_second filling) (second-stands filling fills))
    (record { written = inl (refl, refl); place = refl }) (λ w n. turn own_work
    (turn (block_sized 3) (turn (block_sized 2) (turn (block_sized 1) (turn (block_sized 0) tt)))))
    (λ w n. (refl, (refl, byte_back))) (λ w n. refl) (λ w n. refl)

-- ---- one after the other

-- no count of a provider falls in the get
none-falls : (j : ℕ) → ((provider_at all_hold j).store_faults ≤ (provider_at fetched_hold j).store_faults)
    × ((provider_at all_hold j).other_faults ≤ (provider_at fetched_hold j).other_faults)
none-falls = always _ (omega arith) (omega arith) (omega arith) (omega arith) (λ j. omega arith)

-- the pack, and the get behind it
pub chained : (filling : List ℕ) → IsFilling filling →
    IsChain upgraded_kept (get_packed filling ∷ pack_call filling ∷ [])
chained filling fills = (
  record { disk = inl refl; faults = refl; events = []; replaced = refl },
  record {
    opens = refl;
    spelled = refl;
    answers = (gets filling fills).answers;
    counts = omega (arith, none-falls);
  },
  (
    record { disk = inl refl; faults = refl; events = []; replaced = refl },
    record { opens = refl; spelled = tt; answers = (packs filling fills).answers; counts = omega arith },
    tt,
  ),
)

-- ---- over records that were read there is a state just opened, and a job or a scrub runs from there

abbrev pub ThereIsOne : Type 0
ThereIsOne = (old : Seen) (records : List Record) (faults : ℕ) → (opened : IsOpened old records) →
    (w : State) × IsJustOpened w opened.area records 1 faults old.providers × (w.records ≡ records)

module _ {records : List Record} {answer : Answer} {old new : Seen} where
  -- a job that runs alone over a store that is known runs from some state
  pub somewhere : {kind : Kind} {own : Option ℕ} {heard : List Entry} → ThereIsOne →
      (sure : IsSure old records) → RunsAlone sure.known.opened.area records kind own answer old new heard →
      RunsSomewhere kind own answer heard
  somewhere one sure alone = (let w = one old records alone.faults sure.known.opened in
      let ran = alone.ran w.0 0 w.1 in
      record { start = w.0; last = ran.last; opened = w.1.at_rest; runs = ran.runs })

  -- so does a scrub
  pub scrubs-somewhere : ThereIsOne → (sure : IsSure old records) →
      ScrubsAlone sure.known.opened.area records answer old new → ScrubsSomewhere answer
  scrubs-somewhere one sure alone = (let w = one old records alone.faults sure.known.opened in
      let ran = alone.ran w.0 0 w.1 in
      record { start = w.0; last = ran.last; opened = w.1.at_rest; runs = ran.runs })
