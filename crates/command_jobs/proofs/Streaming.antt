-- From the begin of a stream and its pieces to what its command tells of it.
use Rattle.command_jobs.proofs.Words.{◌≡◌, ℕ, ◌+◌, ◌-◌, ◌*◌, ◌<◌, ◌≤◌, List, ◌++◌, length, take, Option, Some, None, refl, ap, sym, subst, ◌∙◌, arith, IfSome, option_map, length-take-le, le-div_iff_mul-le, Cells, bytes_read, Provider, Rose, Goes, Record, largest_file, Area, base_of, end_in, chosen, AreBytes, IsSpelledKind, PutJob, now, profiled, object_of, stripes_of, StandsForState, State, Append, setup_in, AreHanded, IsJustOpened, SameFrom, Seen, ReadsFront, setup_in_effect, AreSteps, outside, put_stripe, PartRan, PartRuns, PartLeft, MayName, found, unwritten, Vault, Stands, devices, IsFreshOver, IsSeenBefore, IsSeenAfter, IsOnly, SameUpTo, EndsEarly, StreamEnds, StreamStops, StreamsTo, PutEnds, PutStops, StreamsOver}
use Rattle.std.proofs.lemmas.Nat.{div-mul-add}
use Rattle.column_defs.specs.Objects.{stripe_symbols}
use Rattle.record_defs.specs.Records.{Setup}
use Rattle.command_defs.specs.Opens as opens
use Rattle.vault.specs.declared.turn.Ended.{Ended}
use Rattle.command_jobs.specs.declared.stream.Streamed.{Streamed}
use Rattle.command_jobs.specs.declared.stream.Streamed.TheVariants as streamed
use Rattle.command_jobs.proofs.Alone.{LeavesAll, BeginsAs, HasBegun, has-begun, outside-of, opened-one, over-journal, ends-with, ends-over, left-open, not-ended}
use Rattle.command_jobs.proofs.Fresh.{ThereIsOne, setup-over}
use Rattle.command_jobs.proofs.Acting.{flight_end}
use Rattle.command_jobs.proofs.Goings.{outside-same}
use Rattle.command_jobs.proofs.ReadBytes.{bytes-front, reads-on}

-- ---- stripes

-- whole stripes are no more than a file has
stripes-within : (s : Setup) (stripes count : ℕ) → 0 < 16 * stripe_symbols (object_of s 0) →
    stripes * (16 * stripe_symbols (object_of s 0)) ≤ count → stripes ≤ stripes_of s count
stripes-within s stripes count some few = (le-div_iff_mul-le some).1 (omega (arith, some, few))

-- so many whole stripes are so many
stripes-whole : (s : Setup) (stripes : ℕ) → 0 < 16 * stripe_symbols (object_of s 0) →
    stripes_of s (stripes * (16 * stripe_symbols (object_of s 0))) ≡ stripes
stripes-whole s stripes some = div-mul-add stripes (16 * stripe_symbols (object_of s 0))
    (16 * stripe_symbols (object_of s 0) - 1) (let a = some in omega (arith, a))

-- ---- a put over a vault that was just opened

-- what the laws on commands say of what is left of a put that stops
abbrev pub PartsLeave : Type 0
PartsLeave = (records : List Record) (name bytes : List ℕ) (own : Option ℕ) (old new : Seen) →
    (opened : opens.IsOpened old records) → IsSpelledKind (PutJob name bytes) →
    MayName (PutJob name bytes) own → length new.providers ≡ length old.providers →
    PartRuns opened.area records name bytes own old new → PartLeft opened.area records name bytes own old new

-- with no append in flight the disk reads as before outside the text of the journal
outside-still : (area : Area) (here : State) (a b c d : Option Cells) → c ≡ d → here.area ≡ area →
    here.append ≡ None → Goes (SameUpTo (base_of area)) b d →
    Goes (SameFrom (flight_end here.area here.journal here.append)) b d →
    option_map bytes_read b ≡ option_map bytes_read a →
    option_map (outside area here.journal) c ≡ option_map (outside area here.journal) a
outside-still area here a b c d is area_is still front same reads_are =
    ap (option_map (outside area here.journal)) is
    ∙ (outside-same area here.journal b d front
    (subst (λ x. Goes (SameFrom (end_in x here.journal)) b d) area_is
    (subst (λ (o : Option Append). Goes (SameFrom (flight_end here.area here.journal o)) b d) still same))
    ∙ outside-of area here.journal a b reads_are)

module _ (there : ThereIsOne) (v : Vault) (records : List Record) (holds : Option Cells) (faults : ℕ)
    (old new : Seen) (R : opens.IsOpened old records) (F : IsFreshOver v R.area records holds faults)
    (next last : Vault) (name : List ℕ) (own : Option ℕ)
    (number size : ℕ) (providers after : List Provider) (new_holds : Option Cells) (new_faults : ℕ)
    (size_is : size ≡ put_stripe records own) (some : 0 < size)
    (begins : (bytes : List ℕ) → AreBytes bytes → length bytes ≤ largest_file →
    BeginsAs v (PutJob name bytes) own number next)
    (same : length after ≡ length providers)
    (B : IsSeenBefore old (devices holds faults providers))
    (A : IsSeenAfter new (devices new_holds new_faults after))
    (mid : Option (List ℕ)) (first : List ℕ) (front : ReadsFront old.source mid first) where
  named : (bytes : List ℕ) → MayName (PutJob name bytes) own
  named bytes = MayName.put name bytes refl

  -- ---- it ran to its end

  module _ (leaves : LeavesAll) (ended : Ended) (read : ℕ)
      (E : StreamEnds first size next (devices holds faults providers) ended read last
      (devices new_holds new_faults after) mid new.source) where
    abbrev bytes : List ℕ
    bytes = first ++ E.more

    reads : ReadsFront old.source new.source bytes
    reads = reads-on old.source mid new.source first E.more front E.reads

    few : length bytes ≤ largest_file
    few = (let a = E.read_is in let b = E.few in omega (arith, a, b))

    abbrev go : (start w : State) (moment : ℕ) → (only : IsOnly start (PutJob name bytes) own w)
        → only.job.place ≡ 0 → Stands next (devices holds faults providers) w →
        EndsEarly start (PutJob name bytes) own w moment E.told ended last (devices holds faults providers)
        (devices new_holds new_faults after)
    go start w moment only place stands = E.goes start w name own moment only place stands

    within : (stripes : ℕ) → E.told ≡ Some stripes → stripes
        ≤ stripes_of (profiled (setup_in_effect records) (chosen (setup_in_effect records) own)) (length bytes)
    within stripes is = (let o = subst (λ t. IfSome t (λ stripes. stripes * size ≤ read)) is E.given in
        stripes-within (profiled (setup_in_effect records) (chosen (setup_in_effect records) own)) stripes
        (length bytes) (subst (λ n. 0 < n) size_is some)
        (subst (λ n. stripes * n ≤ length bytes) size_is (let r = E.read_is in omega (arith, o, r))))

    by-told : (told : Option ℕ) → E.told ≡ told → PutEnds R.area records name own ended read old new
    by-told None is = record {
      bytes = bytes;
      reads = reads;
      read_is = sym E.read_is;
      few = few;
      over = ends-over there v records holds faults old new R F next last (PutJob name bytes) own number ended
          (named bytes) providers after new_holds new_faults E.told (begins bytes reads.are_bytes few) go
          same B A leaves;
      whole = λ m. E.closed is;
    }
    by-told (Some stripes) is = record {
      bytes = bytes;
      reads = reads;
      read_is = sym E.read_is;
      few = few;
      over = ends-with there v records holds faults old new R F next last (PutJob name bytes) own number ended
          (named bytes) providers after new_holds new_faults E.told (begins bytes reads.are_bytes few) go same
          B A (left-open there v records holds faults old new R F next last (PutJob name bytes) own number
          ended (named bytes) providers after new_holds new_faults E.told (begins bytes reads.are_bytes few)
          go same B A name bytes refl stripes is (within stripes is));
      whole = λ m. absurd (not-ended there v records holds faults old new R F next last (PutJob name bytes)
          own number ended (named bytes) providers after new_holds new_faults E.told
          (begins bytes reads.are_bytes few) go same B A name bytes refl stripes is (within stripes is) m);
    }

    -- the job of the bytes that were read ended so
    pub put-ends : PutEnds R.area records name own ended read old new
    put-ends = by-told E.told refl

  -- ---- it was given up

  module _ (parts : PartsLeave) (stops : ℕ → Type 0) (stops_here : ℕ → Type 0)
      (shows : (count : ℕ) → stops count → stops_here count)
      (E : StreamStops first size next (devices holds faults providers) (devices new_holds new_faults after)
      mid new.source stops) where
    abbrev read_all : List ℕ
    read_all = first ++ E.more

    abbrev given : List ℕ
    given = take (E.stripes * size) read_all

    reads_all : ReadsFront old.source new.source read_all
    reads_all = reads-on old.source mid new.source first E.more front E.reads

    length-given : length given ≡ E.stripes * size
    length-given = length-take-le (E.stripes * size) read_all E.whole

    begins-given : BeginsAs v (PutJob name given) own number next
    begins-given = begins given (bytes-front (E.stripes * size) read_all reads_all.are_bytes)
        (let a = length-given in let b = E.few in omega (arith, a, b))

    enough : (setup_in_effect records).n ≤ length providers
    enough = subst (λ (ps : List Provider). (setup_in_effect records).n ≤ length ps) B.providers R.enough

    -- the steps are those of the whole stripes
    count-is : stripes_of (profiled (setup_in_effect records) (chosen (setup_in_effect records) own))
        (length given) ≡ E.stripes
    count-is = ap (stripes_of (profiled (setup_in_effect records) (chosen (setup_in_effect records) own)))
        (length-given ∙ ap (λ n. E.stripes * n) size_is)
        ∙ stripes-whole (profiled (setup_in_effect records) (chosen (setup_in_effect records) own)) E.stripes
        (subst (λ n. 0 < n) size_is some)

    part-ran : (w : State) (moment : ℕ) → IsJustOpened w R.area records 1 faults providers →
        PartRan R.area records name given own old new faults w moment
    part-ran w moment over =
        (let h = has-begun w moment (PutJob name given) own number v next (devices holds faults providers)
        (named given) over.at_rest (F.stands w providers over) begins-given in
        let G = E.goes w h.made.state name own (moment + 1) h.only h.place h.made.stands in
        let way = G.0 in
        let begun-there = found w over.at_rest (PutJob name given) h.made.state h.only.job h.only.walked in
        let setup-is = setup-over w R.area records faults providers over in
        let n-is : (setup_in w).n ≡ (setup_in_effect records).n = ap (λ (s : Setup). s.n) setup-is in
        let steps-are : length way.steps ≡ 4 + E.stripes * (setup_in_effect records).n =
        (let a = way.place h.only.job begun-there in let b = G.1 in let c = h.place in
        let d = ap (λ n. E.stripes * n) n-is in omega (arith, a, b, c, d)) in
        let count-there : stripes_of (profiled (setup_in w) (chosen (setup_in w) own)) (length given)
        ≡ E.stripes = subst (λ (s : Setup). stripes_of (profiled s (chosen s own)) (length given) ≡ E.stripes)
        (sym setup-is) count-is in
        let still = unwritten w (now h.made.state way.steps) name given (chosen (setup_in w) own) way.only.job
        over.at_rest way.only.walked
        (G.1 ∙ ap (λ n. 4 + n * (setup_in w).n) (sym count-there)) in
        record {
          last = now h.made.state way.steps;
          runs = record {
            begun = h.made.state;
            job = number;
            begins = h.made.begins;
            steps = way.steps;
            are_steps = subst (λ n. AreSteps h.made.state (moment + 1) n way.steps) (sym h.first) way.are_steps;
            made = steps-are ∙ ap (λ n. 4 + n * (setup_in_effect records).n) (sym count-is);
            last = refl;
          };
          images = subst (λ told. StandsForState told (now h.made.state way.steps)) (sym A.disk)
              way.stands.desk.devices.images;
          faults_are = way.stands.desk.devices.faults ∙ sym A.faults;
          handed = subst (λ (ps : List Provider). AreHanded ps (now h.made.state way.steps)) (sym A.providers)
              way.stands.desk.devices.providers;
          outside_text = outside-still R.area (now h.made.state way.steps) old.disk holds new.disk new_holds A.disk
              (way.only.area ∙ over.area_is) still
              (subst (λ a. Goes (SameUpTo (base_of a)) holds new_holds) over.area_is way.front) way.beyond
              B.reads;
        })

    runs : PartRuns R.area records name given own old new
    runs = record {
      faults = faults;
      before = (let b = B.faults in omega (arith, b));
      ran = λ w moment over. part-ran w moment (rw B.providers at over);
    }

    begun-one : (w : State) × (HasBegun w 1 (PutJob name given) own number next
        (devices holds faults providers) × IsJustOpened w R.area records 1 faults providers)
    begun-one = (let x = opened-one there v R.area records holds faults F providers enough in (
      x.0,
      (
        has-begun x.0 1 (PutJob name given) own number v next (devices holds faults providers) (named given)
            x.1.over.at_rest x.1.stands begins-given,
        x.1.over,
      ),
    ))

    many : length new.providers ≡ length old.providers
    many = ap length A.providers ∙ (same ∙ sym (ap length B.providers))

    left : PartLeft R.area records name given own old new
    left = parts records name given own old new R begun-one.1.0.spelled (named given) many runs

    -- the put was given up with the whole stripes that were read
    pub put-stops : PutStops R.area records name own old new stops_here
    put-stops = record {
      bytes = given;
      unrefused = sym (over-journal there v R.area records holds faults F begun-one.0 providers
          (PutJob name given) own begun-one.1.1) ∙ begun-one.1.0.unrefused;
      read = read_all;
      reads = reads_all;
      stripes = E.stripes;
      bytes_are = ap (λ n. take (E.stripes * n) read_all) size_is;
      whole = length-given ∙ ap (λ n. E.stripes * n) size_is;
      rest = (let a = E.short in let b = length-given in let c = size_is in omega (arith, a, b, c));
      cause = shows (length read_all) E.cause;
      runs = runs;
      left = left;
      counts = record {
        disk = (let a = left.before in let b = left.counts.disk in omega (arith, a, b));
        handed = many;
        stores = left.counts.stores;
        others = left.counts.others;
      };
    }

  -- how the put goes
  pub streams-over : LeavesAll → PartsLeave → (how : Streamed) →
      StreamsTo first size next (devices holds faults providers) how last (devices new_holds new_faults after)
      mid new.source → (how ≡ streamed.SourceFault → Rose old.source_faults new.source_faults) →
      StreamsOver R.area records name own how old new
  streams-over leaves parts (streamed.Ended ended length) E rose = put-ends leaves ended length E
  streams-over leaves parts streamed.SourceFault E rose = put-stops parts (λ count. count ≤ largest_file)
      (λ count. (count ≤ largest_file) × Rose old.source_faults new.source_faults)
      (λ count few. (few, rose refl)) E
  streams-over leaves parts streamed.TooLong E rose =
      put-stops parts (λ count. count ≡ largest_file + 1) (λ count. count ≡ largest_file + 1) (λ count is. is) E
