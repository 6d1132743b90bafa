-- A stream on its way from piece to piece.
use Rattle.command_jobs.proofs.Words.{◌≡◌, ℕ, ◌+◌, ◌*◌, ◌<◌, ◌≤◌, Bool, true, false, List, [], ◌++◌, length, take, Option, Some, None, refl, ap, sym, subst, ◌∙◌, inl, inr, arith, IfSome, is_some, nat_lt, ltb-true, lt-ltb, cases_lt, length-append, length-take-le, take-append_seam, largest_file, AreBytes, PutJob, job_of, now, State, ReadsFront, Vault, Stands, wants_of, told_of, stripe_of, IsPiece, FitsPiece, Devices, IsUnderWay, IsStripe, IsBegun, StreamEnds, StreamStops, ReadsWithin}
use Rattle.std.proofs.Common.{append_assoc, append-nil}
use Rattle.vault.specs.declared.turn.Ended.{Ended}
use Rattle.command_jobs.specs.Pieces.{ReadsPiece}
use Rattle.command_jobs.proofs.Fed.{Follows, follows-itself, IsFed, fed-first, fed-under-way, fed-size, fed-given, fed-on, fed-end, fed-waits-on, fed-place, Went}
use Rattle.command_jobs.proofs.ReadBytes.{bytes-append, bytes-front, reads-none, reads-on}

-- ---- the stream waits, and its next piece was read

-- all stripes given so far are stored; the next piece lies at the front of the stripe
pub record Waits (first : List ℕ) (size : ℕ) (old : Vault) (d : Devices) (v : Vault) (e : Devices)
    (stripe : List ℕ) (count read : ℕ) (was left : Option (List ℕ)) : Type 0 where
  pub k : ℕ
  pub given : List ℕ
  pub more : List ℕ
  pub length_is : length given ≡ k * size
  pub within : k * size ≤ largest_file
  pub room : length stripe ≡ size
  pub few : count ≤ size
  pub read_is : read ≡ k * size + count
  pub limit : read ≤ largest_file + 1
  pub parts : given ++ take count stripe ≡ first ++ more
  pub reads : ReadsFront was left more
  pub bytes : AreBytes (first ++ more)
  pub wants : wants_of v 1 ≡ Some k
  pub fed : IsFed old d v e (Some k) false given
  pub end : count < size → read ≤ largest_file → IfSome left (λ bytes. bytes ≡ [])

-- the begun puts
abbrev pub AllBegun : Vault → Devices → ℕ → Type 0
AllBegun v d size = (bytes : List ℕ) → AreBytes bytes → length bytes ≤ largest_file → IsBegun v d size bytes

-- a stream that has just begun waits for its first stripe
pub waits-first : (old next : Vault) (d f : Devices) (size : ℕ) (stripe : List ℕ) (count : ℕ)
    (was : Option (List ℕ)) → IsStripe size → AllBegun old d size → length stripe ≡ size → count ≤ size →
    AreBytes stripe → (count < size → IfSome was (λ bytes. bytes ≡ [])) → told_of old 1 ≡ Some 0 →
    Went old d (told_of old 1) None next f → is_some (wants_of next 1) ≡ true → told_of next 1 ≡ told_of old 1 →
    Waits (take count stripe) size old d next f stripe count count was was
waits-first old next d f size stripe count was S begun room few bytes end opened went waits kept =
    (let x = fed-waits-on old old next d d f size (told_of old 1) false [] (fed-first old d (told_of old 1)) went
    (begun [] refl (omega arith)) waits in
    record {
      k = 0;
      given = [];
      more = [];
      length_is = (omega arith);
      within = omega arith;
      room = room;
      few = few;
      read_is = omega arith;
      limit = omega (arith, S.most, few);
      parts = sym (append-nil (take count stripe));
      reads = reads-none was;
      bytes = rw (← (append-nil (take count stripe))) at (bytes-front count stripe bytes);
      wants = x.2 ∙ ap (λ n. Some n) (let e : Some x.0 ≡ Some 0 = sym x.1 ∙ (kept ∙ opened) in
          let g : x.0 ≡ 0 = cc in g);
      fed = fed-on old old next d d f (told_of old 1) false [] (fed-first old d (told_of old 1)) went waits 0
          (kept ∙ opened);
      end = λ short low. end short;
    })

-- a fault, or an end, in the first append
pub ends-first : (old next : Vault) (d f : Devices) (first : List ℕ) (size count : ℕ) (was : Option (List ℕ))
    (ended : Ended) → IsStripe size → length first ≡ count → count ≤ size →
    told_of old 1 ≡ Some 0 → Went old d (told_of old 1) (Some ended) next f →
    StreamEnds first size old d ended count next f was was
ends-first old next d f first size count was ended S length_is few opened went = record {
  more = [];
  reads = reads-none was;
  read_is = (let e = ap length (append-nil first) in omega (arith, e, length_is));
  few = (let m = S.most in omega (arith, m, few));
  told = told_of old 1;
  given = subst (λ (o : Option ℕ). IfSome o (λ stripes. stripes * size ≤ count)) (sym opened) (omega arith);
  closed = λ none. absurd (let e : None ≡ Some 0 = sym none ∙ opened in cc);
  goes = λ start w name own moment only place stands.
      fed-end old old next d d f (told_of old 1) false [] ended (fed-first old d (told_of old 1)) went start w name
      (first ++ []) own moment (first ++ [], refl) only place stands;
}

module _ {first : List ℕ} {size : ℕ} {old : Vault} {d : Devices} {v : Vault} {e : Devices}
    {stripe : List ℕ} {count read : ℕ} {was left : Option (List ℕ)} (S : IsStripe size)
    (begun : AllBegun old d size) (W : Waits first size old d v e stripe count read was left) where
  abbrev piece : List ℕ
  piece = take count stripe

  length-piece : length piece ≡ count
  length-piece = length-take-le count stripe (let a = W.few in let b = W.room in omega (arith, a, b))

  -- how many bytes were read
  length-read : length (first ++ W.more) ≡ read
  length-read = (let a = ap length (sym W.parts) in let b = length-append W.given piece in
      let c = length-piece in let x = W.length_is in let y = W.read_is in omega (arith, a, b, c, x, y))

  given-front : take (W.k * size) (first ++ W.more) ≡ W.given
  given-front = ap (take (W.k * size)) (sym W.parts)
      ∙ (ap (λ n. take n (W.given ++ piece)) (sym W.length_is) ∙ take-append_seam W.given piece)

  -- no whole stripes and one byte more are as many as a file may have, and one
  no-seam : (k size symbols : ℕ) → size ≡ 16 * symbols → k * size + size ≡ 4194305 → ⊥
  no-seam k size symbols is at = (let a : (k + 1) * (16 * symbols) ≡ 16 * ((k + 1) * symbols) = omega arith in
      let b : k * size + size ≡ (k + 1) * size = omega arith in
      let c = ap (λ n. (k + 1) * n) is in
      omega (arith, a, b, c, at))

  -- it has more bytes than a file may have
  pub stops-long : largest_file < read →
      StreamStops first size old d e was left (λ count. count ≡ largest_file + 1)
  stops-long long = record {
    more = W.more;
    reads = W.reads;
    stripes = W.k;
    whole = (let a = length-read in let b = W.read_is in omega (arith, a, b));
    short = (let a = length-read in let b = W.read_is in let c = W.few in let m = W.limit in
        let n = no-seam W.k size S.symbols S.size_is in
        no-full a b c m n long);
    few = W.within;
    cause = (let a = length-read in let m = W.limit in omega (arith, a, m, long));
    mid = v;
    goes = λ start w name own moment only place stands.
        let x = W.fed start w name (take (W.k * size) (first ++ W.more)) own moment
        ([], given-front ∙ sym (append-nil W.given)) only place stands in (
          x.way,
          fed-place v e start (now w x.way.steps) (PutJob name (take (W.k * size) (first ++ W.more))) own
              x.way.only x.way.stands W.k W.wants,
        );
  }
    where
      no-full : length (first ++ W.more) ≡ read → read ≡ W.k * size + count → count ≤ size →
          read ≤ largest_file + 1 → (W.k * size + size ≡ 4194305 → ⊥) → largest_file < read →
          length (first ++ W.more) < W.k * size + size
      no-full a b c m n long = elim (cases_lt count size) [
        | inl l ↦ (let f = l in omega (arith, a, b, f))
        | inr l ↦ absurd (n (let f = l in omega (arith, b, c, m, long, f)))
      ]

  -- ---- it is given its piece

  module _ (low : read ≤ largest_file) where
    -- whether it is the last
    abbrev last : Bool
    last = nat_lt count (length stripe)

    last_is : last ≡ nat_lt count size
    last_is = ap (nat_lt count) W.room

    full-if : last ≡ false → count ≡ size
    full-if e = elim (cases_lt count size) [
      | inl l ↦ absurd (let f = sym (lt-ltb count size l) ∙ (sym last_is ∙ e) in cc)
      | inr l ↦ (let f = l in let g = W.few in omega (arith, f, g))
    ]

    sized : stripe_of v 1 ≡ size
    sized = fed-size old v d e size W.given (Some W.k) false W.fed (begun W.given
        (subst AreBytes given-front (bytes-front (W.k * size) (first ++ W.more) W.bytes))
        (let a = W.length_is in let b = W.within in omega (arith, a, b)))

    pub piece-fits : IsPiece (stripe_of v 1) (wants_of v 1) (length piece) last
    piece-fits = subst (λ (o : Option ℕ). IsPiece (stripe_of v 1) o (length piece) last) (sym W.wants)
        (subst (λ n. IsPiece n (Some W.k) (length piece) last) (sym sized) (by last refl))
      where
        total : W.k * size + length piece ≤ largest_file
        total = (let a = length-piece in let b = W.read_is in omega (arith, a, b, low))

        by : (b : Bool) → last ≡ b → IsPiece size (Some W.k) (length piece) b
        by true e = ((let a = length-piece in let b = W.few in omega (arith, a, b)), total)
        by false e = (length-piece ∙ full-if e, total)

    module _ (next : Vault) (gives : (w : State) (f : Devices) → Stands v f w →
        FitsPiece (stripe_of v 1) (wants_of v 1) piece last (job_of w.jobs 1) → Stands next f w)
        (more_is : (stripe : ℕ) → wants_of v 1 ≡ Some stripe → last ≡ false
        → told_of next 1 ≡ Some (stripe + 1)) (closed : last ≡ true → told_of next 1 ≡ None) where
      told-next : (stripes : ℕ) → told_of next 1 ≡ Some stripes → (last ≡ false) × (stripes ≡ W.k + 1)
      told-next stripes is = by last refl
        where
          by : (b : Bool) → last ≡ b → (last ≡ false) × (stripes ≡ W.k + 1)
          by true e = absurd (cc (sym (closed e) ∙ is))
          by false e = (e, (let f = sym is ∙ more_is W.k W.wants e in cc))

      fed-next : IsFed old d next e (told_of next 1) last (W.given ++ piece)
      fed-next = fed-given old v next d e size W.k W.given piece last (Some W.k) (told_of next 1) W.fed W.length_is
          W.wants sized (λ stripes is. (told-next stripes is).1) gives

      begun-next : IsBegun old d size (W.given ++ piece)
      begun-next = begun (W.given ++ piece) (subst AreBytes (sym W.parts) W.bytes)
          (let a = length-read in let b = ap length W.parts in omega (arith, a, b, low))

      pub given-under-way : IsUnderWay next e
      given-under-way = fed-under-way old next d e size (W.given ++ piece) (told_of next 1) last fed-next begun-next

      -- it ends
      pub given-ends : (final : Vault) (f : Devices) (ended : Ended) →
          Went next e (told_of next 1) (Some ended) final f →
          StreamEnds first size old d ended read final f was left
      given-ends final f ended went = record {
        more = W.more;
        reads = W.reads;
        read_is = sym length-read;
        few = low;
        told = told_of next 1;
        given = by (told_of next 1) refl;
        closed = λ none. W.end (ltb-true count size (sym last_is ∙ (closed-if none))) low;
        goes = λ start w name own moment only place stands.
            fed-end old next final d e f (told_of next 1) last (W.given ++ piece) ended fed-next went start w
            name
            (first ++ W.more) own moment
            (subst (λ bs. Follows last (W.given ++ piece) bs) W.parts (follows-itself last (W.given ++ piece)))
            only place stands;
      }
        where
          by : (o : Option ℕ) → told_of next 1 ≡ o → IfSome o (λ stripes. stripes * size ≤ read)
          by None is = tt
          by (Some stripes) is = (let t = told-next stripes is in let c = full-if t.0 in let r = W.read_is in
              let m = ap (λ n. n * size) t.1 in
              let g : (W.k + 1) * size ≡ W.k * size + size = omega arith in
              omega (arith, c, r, m, g))

          closed-if : told_of next 1 ≡ None → last ≡ true
          closed-if none = on last refl
            where
              on : (b : Bool) → last ≡ b → last ≡ true
              on true e = e
              on false e = absurd (let f : Some (W.k + 1) ≡ None = sym (more_is W.k W.wants e) ∙ none in cc)

      -- it goes on to where it waits for its next stripe
      module _ (final : Vault) (f : Devices) (went : Went next e (told_of next 1) None final f)
          (waits : is_some (wants_of final 1) ≡ true) (kept : told_of final 1 ≡ told_of next 1) where
        at : (k : ℕ) × (told_of final 1 ≡ Some k) × (wants_of final 1 ≡ Some k)
        at = fed-waits-on old next final d e f size (told_of next 1) last (W.given ++ piece) fed-next went begun-next
            waits

        its : (last ≡ false) × (at.0 ≡ W.k + 1)
        its = told-next at.0 (sym kept ∙ at.1)

        wants-next : wants_of final 1 ≡ Some (W.k + 1)
        wants-next = at.2 ∙ ap (λ (n : ℕ). Some n) its.1

        length-next : length (W.given ++ piece) ≡ (W.k + 1) * size
        length-next = (let a = length-append W.given piece in let b = length-piece in let c = full-if its.0 in
            let x = W.length_is in let g : (W.k + 1) * size ≡ W.k * size + size = omega arith in
            omega (arith, a, b, c, x, g))

        read-next : read ≡ (W.k + 1) * size
        read-next = (let c = full-if its.0 in let x = W.read_is in
            let g : (W.k + 1) * size ≡ W.k * size + size = omega arith in omega (arith, c, x, g))

        fed-last : IsFed old d final f (Some (W.k + 1)) false (W.given ++ piece)
        fed-last = rw its.0 at (fed-on old next final d e f (told_of next 1) last (W.given ++ piece) fed-next
            went waits (W.k + 1) (at.1 ∙ ap (λ (n : ℕ). Some n) its.1))

        -- the next piece was read
        pub waits-next : (after : List ℕ) (more : ℕ) (rest : Option (List ℕ)) → length after ≡ size →
            ReadsPiece read after more left rest → Waits first size old d final f after more (read + more) was rest
        waits-next after more rest room R = record {
          k = W.k + 1;
          given = W.given ++ piece;
          more = W.more ++ take more after;
          length_is = length-next;
          within = (let a = read-next in omega (arith, a, low));
          room = room;
          few = (let a = R.few in omega (arith, a, room));
          read_is = (let a = read-next in omega (arith, a));
          limit = R.limit;
          parts = ap (λ xs. xs ++ take more after) W.parts ∙ append_assoc first W.more (take more after);
          reads = reads-on was left rest W.more (take more after) W.reads R.read;
          bytes = subst AreBytes (append_assoc first W.more (take more after))
              (bytes-append (first ++ W.more) (take more after) W.bytes R.read.are_bytes);
          wants = wants-next;
          fed = fed-last;
          end = λ short few. R.end (omega (arith, room, short)) few;
        }

        -- a read failed
        pub stops-short : (room : ℕ) (rest : Option (List ℕ)) → room ≡ size → ReadsWithin read room left rest →
            StreamStops first size old d f was rest (λ count. count ≤ largest_file)
        stops-short room rest room_is R = record {
          more = W.more ++ R.bytes;
          reads = reads-on was left rest W.more R.bytes W.reads R.read;
          stripes = W.k + 1;
          whole = (let a = all in let b = read-next in omega (arith, a, b));
          short = (let a = all in let b = read-next in let s = R.short in omega (arith, a, b, s, room_is));
          few = (let b = read-next in omega (arith, b, low));
          cause = (let a = all in let l = R.limit in omega (arith, a, l));
          mid = final;
          goes = λ start w name own moment only place stands.
              let x = fed-last start w name (take ((W.k + 1) * size) (first ++ (W.more ++ R.bytes))) own moment
              ([], front ∙ sym (append-nil (W.given ++ piece))) only place stands in (
                x.way,
                fed-place final f start (now w x.way.steps)
                    (PutJob name (take ((W.k + 1) * size) (first ++ (W.more ++ R.bytes)))) own
                    x.way.only x.way.stands (W.k + 1) wants-next,
              );
        }
          where
            all : length (first ++ (W.more ++ R.bytes)) ≡ read + length R.bytes
            all = (let a = ap length (append_assoc first W.more R.bytes) in
                let b = length-append (first ++ W.more) R.bytes in let c = length-read in omega (arith, a, b, c))

            front : take ((W.k + 1) * size) (first ++ (W.more ++ R.bytes)) ≡ W.given ++ piece
            front = ap (take ((W.k + 1) * size)) (sym (append_assoc first W.more R.bytes)
                ∙ ap (λ xs. xs ++ R.bytes) (sym W.parts))
                ∙ (ap (λ n. take n ((W.given ++ piece) ++ R.bytes)) (sym length-next)
                ∙ take-append_seam (W.given ++ piece) R.bytes)
