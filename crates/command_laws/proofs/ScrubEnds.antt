-- How scrubs end, and what they have done where they are done.
use Rattle.command_laws.proofs.Words.{◌≡◌, ℕ, ◌<◌, ◌⊎◌, List, [], Option, None, Some, refl, sym, subst, inl, inr, option_map, Cells, reads, synced, Rose, EachImage, Record, largest_journal, Area, StandsActive, Answer, ScrubAll, Seen, Ending, IsSynced, provider_at, IsOpened, setup_in_effect, scrub_text, Ran, ran_alone, LosesAtPlace, EndsByAnswer, everyone, ScrubGives, ScrubbedAlone, AnswersScrub, IsRead, IsDone, IsKnown, EndsInOrder, AreSafe, IsScrubbed, ran_to, FailsToScrub, LosesScrub, image-firm, active-front, lost-none}
use Rattle.machine_defs.specs.Answers as answer
use Rattle.command_laws.proofs.Known.{unstarted-memory, known-once, written-well}
use Rattle.command_laws.proofs.GetEnds.{shape-at}
use Rattle.command_laws.proofs.JobEnds.{in-order, zero-or-memory, fits, tells, ends-at, done-tells}
use Rattle.command_laws.proofs.Early.{early-done, early-not, scrub-cases}
use Rattle.std.proofs.Common.{true}

-- what a scrub left, as it is seen
abbrev pub scrub_left : (records : List Record) (how : Answer) (old new : Seen) →
    ScrubbedAlone records how old new → Ran
scrub_left records how old new left = ran_alone records old new [] left.faults records None

-- each image of a disk that was synced stands for the records that it read
pub synced-has : (area : Area) (records : List Record) (a b : Option Cells) → b ≡ option_map synced a →
    IsRead a area records → EachImage b (λ image. StandsActive image area records)
synced-has area records None b is R =
    subst (λ d. EachImage d (λ image. StandsActive image area records)) (sym is) tt
synced-has area records (Some c) b is R = subst (λ d. EachImage d (λ image. StandsActive image area records))
    (sym is) (λ image of. subst (λ bytes. StandsActive bytes area records)
    (sym (image-firm (reads c) image of)) (active-front largest_journal (reads c) area records R.reads_are.1))

module _ (records : List Record) (old new : Seen) (end : Ending) (opened : IsOpened old records)
    (sync : IsSynced old new) where
  -- ---- a scrub that is done

  scrubbed-by : (how : Answer) (left : ScrubbedAlone records how old new) →
      ScrubGives (scrub_left records how old new left) how →
      EndsByAnswer (scrub_text how) how old new end → tells how ≡ true → IsScrubbed old new end
  scrubbed-by (answer.Scrubbed stripes symbols blocks) left L by t = record {
    records = records;
    stripes = stripes;
    symbols = symbols;
    blocks = blocks;
    opened = opened;
    told = by;
    synced = sync;
    disk = synced-has opened.area records old.disk new.disk sync opened.read;
    swept = record {
      gave = L.gave;
      rows = L.rows;
      truth = L.truth;
      gives = L.gives;
      stripes_are = L.stripes_are;
      symbols_are = L.symbols_are;
      blocks_are = L.blocks_are;
      held = L.held;
    };
  }
  scrubbed-by how left L by t = absurd (first_of (assumption L, cc t))

  -- ---- a store that failed, and a lost row

  fails-by : (how : Answer) (left : ScrubbedAlone records how old new) →
      ScrubGives (scrub_left records how old new left) how →
      EndsByAnswer (scrub_text how) how old new end → fits 13 how ≡ true → FailsToScrub old new end
  fails-by (answer.ProviderFault j) left L by t = (let S = L.2 in
      let P = S.part in record {
        records = records;
        opened = opened;
        provider = rw (← by.place) at L.0;
        rose = rw (← by.place) at L.1;
        sink = by.sink;
        disk = synced-has opened.area records old.disk new.disk sync opened.read;
        part = record {
          done = S.done;
          rest = S.rest;
          gave = S.gave;
          symbols = S.symbols;
          part = record { parts = P.parts; truth = P.truth; gives = P.gives; held = P.held };
        };
      })
  fails-by how left L by t = absurd (first_of (assumption L, cc t))

  loses-by : (how : Answer) (left : ScrubbedAlone records how old new) →
      ScrubGives (scrub_left records how old new left) how →
      EndsByAnswer (scrub_text how) how old new end → fits 4 how ≡ true → LosesScrub old new end
  loses-by (answer.Lost stripe row) left L by t = (let P = L.part in record {
    records = records;
    stripe = stripe;
    opened = opened;
    lost = subst (λ k. LosesAtPlace (ran_to records records old new end.heard) everyone stripe k)
        (sym by.place) (record {
          done = L.done;
          place = L.place;
          rest = L.rest;
          gave = L.gave;
          symbols = L.symbols;
          part = record { parts = P.parts; truth = P.truth; gives = P.gives; held = P.held };
          truth = L.truth;
          stripe_is = L.stripe_is;
          loses = L.loses;
        });
    sink = by.sink;
    disk = synced-has opened.area records old.disk new.disk sync opened.read;
  })
  loses-by how left L by t = absurd (first_of (assumption L, cc t))

  -- ---- which end it comes to

  -- with no failed store or sink a scrub is done, finds no memory, or has found a row lost
  comes-by : (how : Answer) (left : ScrubbedAlone records how old new) →
      ScrubGives (scrub_left records how old new left) how →
      EndsByAnswer (scrub_text how) how old new end →
      ((j : ℕ) → Rose (provider_at old.providers j).store_faults
      (provider_at new.providers j).store_faults → ⊥) →
      (Rose old.sink_faults new.sink_faults → ⊥) → ((end.status ≡ 0) ⊎ (end.status ≡ 70)) ⊎ (end.status ≡ 4)
  comes-by (answer.Scrubbed stripes symbols blocks) left L by stores sink =
      inl (zero-or-memory _ old new end (written-well _ old new end by.written sink))
  comes-by (answer.Lost stripe row) left L by stores sink = inr by.status_is
  comes-by (answer.ProviderFault j) left L by stores sink = absurd (stores j L.1)
  comes-by answer.Memory left L by stores sink = inl (inr by.status_is)
  comes-by how left L by stores sink = absurd L

  -- with few bad providers of each file, and no failed store or sink, it is done or finds no memory
  well-by : (bytes : ℕ → List ℕ) (how : Answer) (left : ScrubbedAlone records how old new) →
      ScrubGives (scrub_left records how old new left) how →
      EndsByAnswer (scrub_text how) how old new end →
      ((j : ℕ) → j < (setup_in_effect records).n → Rose (provider_at old.providers j).store_faults
      (provider_at new.providers j).store_faults → ⊥) →
      (Rose old.sink_faults new.sink_faults → ⊥) → AreSafe records old new bytes →
      (end.status ≡ 0) ⊎ (end.status ≡ 70)
  well-by bytes (answer.Scrubbed stripes symbols blocks) left L by stores sink safe =
      zero-or-memory _ old new end (written-well _ old new end by.written sink)
  well-by bytes (answer.Lost stripe row) left L by stores sink safe =
      absurd (lost-none (scrub_left records (answer.Lost stripe row) old new left) opened.read.accepted
      (shape-at old records opened) bytes everyone stripe row safe L)
  well-by bytes (answer.ProviderFault j) left L by stores sink safe = absurd (stores j L.0 L.1)
  well-by bytes answer.Memory left L by stores sink safe = inr by.status_is
  well-by bytes how left L by stores sink safe = absurd L

-- after a done scrub each provider holds the columns of what was accepted, in every place
pub scrub-done : (old new : Seen) (end : Ending) → AnswersScrub old new end → IsDone end →
    IsScrubbed old new end
scrub-done old new end A done = scrub-cases (λ E. absurd (early-done E done))
    (λ records how opened sync left by. scrubbed-by records old new end opened sync how left left.leaves.gives by
    (done-tells _ old new end how by done)) A

-- a scrub of which a store failed wrote at most some blocks anew
pub scrub-fails : (old new : Seen) (end : Ending) → AnswersScrub old new end → end.status ≡ 13 →
    FailsToScrub old new end
scrub-fails old new end A is = scrub-cases (λ E. absurd (early-not E 13 refl is))
    (λ records how opened sync left by. fails-by records old new end opened sync how left left.leaves.gives by
    (ends-at _ old new end 13 how by is)) A

-- a scrub that ends at a lost row found the lowest of the first stripe that has one
pub scrub-loses : (old new : Seen) (end : Ending) → AnswersScrub old new end → end.status ≡ 4 →
    LosesScrub old new end
scrub-loses old new end A is = scrub-cases (λ E. absurd (early-not E 4 refl is))
    (λ records how opened sync left by. loses-by records old new end opened sync how left left.leaves.gives by
    (ends-at _ old new end 4 how by is)) A

-- a scrub with no failed store or sink ends in order, or found a row lost, over any devices
pub scrub-order : (old new : Seen) (end : Ending) → AnswersScrub old new end →
    ((j : ℕ) → Rose (provider_at old.providers j).store_faults (provider_at new.providers j).store_faults →
    ⊥) → (Rose old.sink_faults new.sink_faults → ⊥) →
    EndsInOrder ScrubAll old new end ⊎ LosesScrub old new end
scrub-order old new end (AnswersScrub.unstarted u) stores sink = inl (EndsInOrder.unstarted u)
scrub-order old new end (AnswersScrub.no_memory records opened sync r) stores sink =
    inl (EndsInOrder.no_memory r.status_is)
scrub-order old new end (AnswersScrub.ended records how opened sync heard runs left by) stores sink =
    elim (comes-by records old new end opened sync how left left.leaves.gives by stores sink) [
      | inl well ↦ inl (in-order ScrubAll old new end well)
      | inr four ↦ inr (loses-by records old new end opened sync how left left.leaves.gives by
          (ends-at _ old new end 4 how by four))
    ]

-- a scrub over a known store with few bad providers of each file and no fault is done, or finds no memory
pub scrub-well : (records : List Record) (old new : Seen) (end : Ending) (bytes : ℕ → List ℕ) →
    AnswersScrub old new end → IsKnown old records → (Rose old.disk_faults new.disk_faults → ⊥) →
    ((j : ℕ) → j < (setup_in_effect records).n →
    Rose (provider_at old.providers j).store_faults (provider_at new.providers j).store_faults → ⊥) →
    (Rose old.sink_faults new.sink_faults → ⊥) → AreSafe records old new bytes →
    (end.status ≡ 0) ⊎ (end.status ≡ 70)
scrub-well records old new end bytes (AnswersScrub.unstarted u) K disk stores sink safe =
    inr (unstarted-memory K disk u).status_is
scrub-well records old new end bytes (AnswersScrub.no_memory other opened sync r) K disk stores sink safe =
    inr r.status_is
scrub-well records old new end bytes (AnswersScrub.ended other how opened sync heard runs left by) K disk stores sink safe =
    (let same = known-once old records other K opened.read in
    let here = rw same at left in
    well-by records old new end K.opened sync bytes how here here.leaves.gives by stores sink safe)
