-- How far a server has come, and how it ends.
use Rattle.provider_wire.proofs.Words.{◌≡◌, ◌≢◌, ℕ, ◌+◌, ◌-◌, ◌<◌, ◌≤◌, true, false, List, [], ◌∷◌, ◌++◌, length, take, drop, refl, sym, ap, subst, ◌∙◌, append_assoc, arith, inl, inr, length-append, length-take, length-drop, take-append-drop, Fits, IfSome, w64, take-take, cases_lt, and_from, append-nil, take_all, drop-take, list_all-append, told_then, then_told, TakesFront, Provider, told_then-nothing, Request, is_request, is_bad_request, request_bytes, requests_text, SpellsNoRequest, AreFrames, Reply, Serves, reply_bytes, replies_text, most_bytes, Finished, BadAt, TooMany, SourceFailed, SinkFailed, OutOfMemory, IsAtEnd, WritesPart, ServesAll, ServesPart, HasServed, WriteFault, ServeEnd, end_of, end_after, told_then-append}
use Rattle.std.proofs.Common.{Option}
use Rattle.stream_model.specs.declared.fault.WriteFault.TheVariants as write_fault
use Rattle.wire_defs.specs.Serving.{End, EndsWith, WritesReplies}
use Rattle.provider_wire.proofs.Takes.{spelling-some}
use Rattle.provider_wire.proofs.Served.{nothing_told, then_told-append}

text-append : (more rs : List Request) → requests_text (more ++ rs) ≡ requests_text rs ++ requests_text more
text-append [] rs = sym (append-nil (requests_text rs))
text-append (r ∷ more) rs = ap (λ (l : List ℕ). l ++ request_bytes r) (text-append more rs)
    ∙ append_assoc (requests_text rs) (requests_text more) (request_bytes r)

replies_text-append : (more as_ : List Reply) → replies_text (more ++ as_)
    ≡ replies_text as_ ++ replies_text more
replies_text-append [] as_ = sym (append-nil (replies_text as_))
replies_text-append (a ∷ more) as_ = ap (λ (l : List ℕ). l ++ reply_bytes a) (replies_text-append more as_)
    ∙ append_assoc (replies_text as_) (replies_text more) (reply_bytes a)

Serves-append : (more rs : List Request) (others as_ : List Reply) (old mid new : Provider) →
    Serves rs old as_ mid → Serves more mid others new → Serves (more ++ rs) old (others ++ as_) new
Serves-append [] rs [] as_ _ _ _ first then_ = (rw (← then_) at first)
Serves-append (r ∷ more) rs (a ∷ others) as_ old mid _ first then_ =
    (then_.0, Serves-append more rs others as_ old mid then_.0 first then_.1, then_.2)
Serves-append _ rs _ as_ _ _ _ first then_ = absurd then_

AreFrames-append : (bytes others : List ℕ) (more rs : List Request) → AreFrames bytes rs →
    AreFrames others more → AreFrames (bytes ++ others) (more ++ rs)
AreFrames-append bytes others more rs first then_ = record {
  are_requests = list_all-append is_request more rs ∙ and_from _ _ then_.are_requests first.are_requests;
  bytes_are = (λ i. first.bytes_are i ++ then_.bytes_are i) ∙ sym (text-append more rs);
}

-- so many bytes were read, the whole requests at their front are answered, and the rest waits
pub record Progress (had left : Option (List ℕ)) (taken : ℕ) (waiting : List ℕ) (old new : Provider)
    (was now : Option (List ℕ)) : Type 0 where
  pub requests : List Request
  pub replies : List Reply
  pub read : List ℕ
  pub front : List ℕ
  pub took : had ≡ then_told read left
  pub count : length read ≡ taken
  pub parts : read ≡ front ++ waiting
  pub frames : AreFrames front requests
  pub served : Serves requests old replies new
  pub written : now ≡ told_then was (replies_text replies)

-- before the first request nothing is taken, served or written
abbrev pub starts : (had : Option (List ℕ)) (p : Provider) (w : Option (List ℕ)) →
    Progress had had 0 [] p p w w
starts had p w = record {
  requests = [];
  replies = [];
  read = [];
  front = [];
  took = nothing_told had;
  count = refl;
  parts = refl;
  frames = record { are_requests = refl; bytes_are = refl };
  served = refl;
  written = told_then-nothing w;
}

-- no bytes spell no request
pub nothing_spells : SpellsNoRequest []
nothing_spells r front rest s e =
    let some = spelling-some r in
    let same : length front ≡ length (request_bytes r) = ap length s.bytes_are in
    let sum : 0 ≡ length front + length rest = ap length e ∙ length-append front rest in
    let lt : 0 < 0 = omega (arith, some, same, sum) in absurd (omega (arith, lt))

module _ {had left : Option (List ℕ)} {taken : ℕ} {waiting : List ℕ} {old mid : Provider}
    {was then_ : Option (List ℕ)} (p : Progress had left taken waiting old mid was then_) where
  waiting_is_taken : length waiting ≤ taken
  waiting_is_taken = omega (arith, p.count, ap length p.parts, length-append p.front waiting)

  text_size : length (requests_text p.requests) ≡ taken - length waiting
  text_size = ap length (sym p.frames.bytes_are)
      ∙ omega (arith, p.count, ap length p.parts, length-append p.front waiting)

  -- it ends where all that was answered was written
  ends_so : {now : Option (List ℕ)} (end : End) (left' : Option (List ℕ)) → left ≡ left' →
      taken ≤ most_bytes + 1 → WritesReplies end was now p.replies →
      EndsWith end p.requests p.read waiting left' → HasServed end had left' old mid was now
  ends_so end left' same few written ends = record {
    requests = p.requests;
    replies = p.replies;
    read = p.read;
    front = p.front;
    rest = waiting;
    taken = p.took ∙ ap (then_told p.read) same;
    few = omega (arith, p.count);
    parts = p.parts;
    frames = p.frames;
    served = p.served;
    written = written;
    ends = ends;
  }

  -- the source failed
  pub source_failed : (left' : Option (List ℕ)) → left' ≡ left → taken ≤ most_bytes →
      SpellsNoRequest waiting → is_bad_request waiting ≡ false →
      HasServed SourceFailed had left' old mid was then_
  source_failed left' same within none fine =
      ends_so SourceFailed left' (sym same) (omega arith) p.written (none, fine, omega (arith, p.count))

  told_all : (as_ : List Reply) →
      told_then then_ (replies_text as_) ≡ told_then was (replies_text (as_ ++ p.replies))
  told_all as_ = ap (λ (t : Option (List ℕ)). told_then t (replies_text as_)) p.written
      ∙ told_then-append was (replies_text p.replies) (replies_text as_)
      ∙ ap (told_then was) (sym (replies_text-append as_ p.replies))

  -- more requests were answered, of those whose bytes lie within a limit
  abbrev served_on : (new : Provider) (now : Option (List ℕ)) (w done : ℕ) (rs : List Request)
      (as_ : List Reply) → done ≤ length (take w waiting) → AreFrames (take done (take w waiting)) rs →
      Serves rs mid as_ new → now ≡ told_then was (replies_text (as_ ++ p.replies)) →
      Progress had left taken (drop done waiting) old new was now
  served_on new now w done rs as_ fits frames served written = record {
    requests = rs ++ p.requests;
    replies = as_ ++ p.replies;
    read = p.read;
    front = p.front ++ take done waiting;
    took = p.took;
    count = p.count;
    parts = p.parts ∙ ap (λ (l : List ℕ). p.front ++ l) (sym (take-append-drop done waiting))
        ∙ sym (append_assoc p.front (take done waiting) (drop done waiting));
    frames = subst (λ (l : List ℕ). AreFrames (p.front ++ l) (rs ++ p.requests))
        (take-take done w waiting (omega (arith, length-take w waiting)))
        (AreFrames-append p.front (take done (take w waiting)) rs p.requests p.frames frames);
    served = Serves-append rs p.requests as_ p.replies old mid new p.served served;
    written = written;
  }

  wrote_part : (new : Provider) (now : Option (List ℕ)) (rs : List Request) (as_ : List Reply) → rs ≢ [] →
      Serves rs mid as_ new → WritesPart then_ now as_ → WritesPart was now (as_ ++ p.replies)
  wrote_part new now [] as_ some s part = absurd (some refl)
  wrote_part new now (r ∷ rs) [] some s part = absurd s
  wrote_part new now (r ∷ rs) (a ∷ as_) some s part =
      subst (λ t. TakesFront t now (reply_bytes a)) (told_all as_) part

  not_empty : (rs others : List Request) → rs ≢ [] → rs ++ others ≢ []
  not_empty [] others some e = absurd (some refl)
  not_empty (r ∷ rs) others some e = absurd (cc e)

module _ {had left : Option (List ℕ)} {taken : ℕ} {waiting : List ℕ} {old mid new : Provider}
    {was then_ now : Option (List ℕ)} (p : Progress had left taken waiting old mid was then_) (w done : ℕ)
    (fits : done ≤ length (take w waiting)) (s : ServesPart (take done (take w waiting)) mid new then_ now)
    (few : taken ≤ most_bytes + 1) where
  abbrev on : Progress had left taken (drop done waiting) old new was
      (told_then was (replies_text (s.replies ++ p.replies)))
  on = served_on p new _ w done s.requests s.replies fits s.frames s.served refl

  part : WritesPart was now (s.replies ++ p.replies)
  part = wrote_part p new now s.requests s.replies s.some s.served s.written

  some : s.requests ++ p.requests ≢ []
  some = not_empty p s.requests p.requests s.some

  -- it ends where the last answer was written in part
  ends_part : (fault : WriteFault) → HasServed (end_of (end_after fault)) had left old new was now
  ends_part write_fault.Failed = ends_so on SinkFailed left refl few part some
  ends_part write_fault.Memory = ends_so on OutOfMemory left refl few part (inr some)

-- what is left of the bytes within the limit, once whole requests are taken
pub cut : (waiting : List ℕ) (taken w done : ℕ) → w ≡ length waiting - (taken - most_bytes) → done ≤ w →
    length waiting ≤ taken → drop done (take w waiting)
    ≡ take (most_bytes - (taken - length (drop done waiting))) (drop done waiting)
cut waiting taken w done is fits within =
    let rest = drop done waiting in
    let size = length-drop done waiting in
    let m = w - done in
    ap (λ k. drop done (take k waiting)) (omega arith) ∙ drop-take done m waiting
    ∙ elim (cases_lt most_bytes taken) [
      | inl more ↦ ap (λ k. take k rest) (omega (arith, is, size))
      | inr less ↦ take_all m rest (omega arith)
          ∙ sym (take_all (most_bytes - (taken - length rest)) rest (omega arith))
    ]

-- what a server read once more, as its window tells it
abbrev pub Given : Option (List ℕ) → Option (List ℕ) → ℕ → ℕ → List ℕ → List ℕ → Type 0
Given left left' most n waiting more = (part : List ℕ) × (more ≡ waiting ++ part) × (length part ≡ n) ×
    (n ≤ most) × (left ≡ then_told part left')

ended_left : (left left' : Option (List ℕ)) (part : List ℕ) → left ≡ then_told part left' →
    length part ≡ 0 → left ≡ left'
ended_left left left' [] got none = got ∙ sym (nothing_told left')
ended_left left left' (b ∷ part) got none = absurd (omega (arith, none))

-- what waits is short where the rest of the bytes is
pub rest_is_short : (bytes rest : List ℕ) (done : ℕ) → drop done bytes ≡ rest → length bytes - done < 2062 →
    length rest < 2062
rest_is_short bytes rest done is small = omega (arith, length-drop done bytes, ap length is)

module _ {had left : Option (List ℕ)} (left' : Option (List ℕ)) {taken n size : ℕ} {waiting more : List ℕ}
    {old mid : Provider} {was then_ : Option (List ℕ)} (p : Progress had left taken waiting old mid was then_)
    (given : Given left left' (16777217 - taken) n waiting more) (within : taken ≤ 16777216)
    (size_is : size ≡ length more) where
  -- so far a server has come with what it read
  pub read_more : Progress had left' (taken + n) more old mid was then_
  read_more = record {
    requests = p.requests;
    replies = p.replies;
    read = p.read ++ given.0;
    front = p.front;
    took = p.took ∙ ap (then_told p.read) given.4 ∙ then_told-append left' p.read given.0;
    count = omega (arith, length-append p.read given.0, p.count, given.2);
    parts = ap (λ (l : List ℕ). l ++ given.0) p.parts ∙ append_assoc p.front waiting given.0
        ∙ ap (λ (l : List ℕ). p.front ++ l) (sym given.1);
    frames = p.frames;
    served = p.served;
    written = p.written;
  }

  more_size : length more ≡ length waiting + n
  more_size = ap length given.1 ∙ length-append waiting given.0 ∙ ap (λ (k : ℕ). length waiting + k) given.2

  -- it has read one byte too many at most
  pub few_read : taken + n ≤ 16777217
  few_read = omega (arith, given.3)

  -- how many it has read fits a number of 64 bits
  pub read_fits : Fits w64 (taken + n)
  read_fits = record { fits = omega (arith, few_read) }

  -- what waits has been read
  pub waiting_was_read : size ≤ taken + n
  waiting_was_read = omega (arith, waiting_is_taken read_more, size_is)

  -- where nothing came
  pub waited_before : n ≡ 0 → size ≤ taken
  waited_before none = omega (arith, waiting_was_read, none)

  -- the bytes beyond the limit are among those that wait
  pub beyond_waits : {over : ℕ} → over ≡ taken + n - 16777216 → over ≤ size
  beyond_waits over_is = omega (arith, over_is, more_size, size_is)

  module _ {over : ℕ} {slice : List ℕ} (over_is : over ≡ taken + n - 16777216) (slice_is : slice ≡ more) where
    -- how many of those that wait are within the limit
    pub width_is : size - over ≡ length more - (taken + n - 16777216)
    width_is = ap (λ (k : ℕ). k - over) size_is ∙ ap (λ (k : ℕ). length more - k) over_is

    -- so many there are
    pub bytes_size : size - over ≡ length (take (size - over) slice)
    bytes_size = omega (arith, length-take (size - over) slice, ap length slice_is, size_is)

    -- the whole requests at their front wait
    pub front_waits : {done : ℕ} → done ≤ length (take (size - over) slice) → done ≤ size
    front_waits fits = omega (arith, bytes_size, fits)

    -- what is done of a front is there in the longer text
    pub front_is_there : {done : ℕ} → done ≤ length (take (size - over) slice) → done ≤ length more
    front_is_there fits = omega (arith, front_waits fits, size_is)

    -- the rest of them has been read
    pub rest_was_read : (done : ℕ) → size - done ≤ taken + n
    rest_was_read done = omega (arith, waiting_was_read)

    front_is : take (size - over) slice ≡ take (size - over) more
    front_is = ap (take (size - over)) slice_is

    -- a write did nothing
    pub write_failed : {new : Provider} {now : Option (List ℕ)} (fault : WriteFault) (end : ServeEnd) →
        end ≡ end_after fault → (k : ℕ) × (k ≤ length (take (size - over) slice)) ×
        ServesPart (take k (take (size - over) slice)) mid new then_ now →
        HasServed (end_of end) had left' old new was now
    write_failed fault end after s = let t = (rw slice_is at s) in
        rw after (ends_part read_more (size - over) t.0 t.1 t.2 few_read fault)

    -- the whole requests at their front were answered
    module _ {done : ℕ} {new : Provider} {now : Option (List ℕ)}
        (fits : done ≤ length (take (size - over) slice))
        (s : ServesAll (take done (take (size - over) slice)) mid new then_ now) where
      done_within : done ≤ size - over
      done_within = omega (arith, fits, bytes_size)

      -- so far a server has come then
      pub went_on : Progress had left' (taken + n) (drop done more) old new was now
      went_on = served_on read_more new now (size - over) done s.requests s.replies (rw slice_is at fits)
          (rw slice_is at s.frames) s.served (s.written ∙ told_all read_more s.replies)

      place : taken + n - (size - done) ≡ length (requests_text went_on.requests)
      place = omega (arith, text_size went_on, length-drop done more, size_is)

      rest_is : drop done (take (size - over) slice)
          ≡ take (most_bytes - length (requests_text went_on.requests)) (drop done more)
      rest_is = ap (drop done) front_is
          ∙ cut more (taken + n) (size - over) done width_is done_within (waiting_is_taken read_more)
          ∙ ap (λ (k : ℕ). take (most_bytes - k) (drop done more)) (sym (text_size went_on))

      -- the rest is bad
      pub bad_at : is_bad_request (drop done (take (size - over) slice)) ≡ true
          → HasServed (BadAt (taken + n - (size - done))) had left' old new was now
      bad_at bad = rw place (ends_so went_on (BadAt (length (requests_text went_on.requests))) left' refl
          few_read went_on.written
          (record { place = refl; cause = inl (ap is_bad_request (sym rest_is) ∙ bad) }))

      -- the source gave too much
      pub too_long : 16777216 < taken + n → SpellsNoRequest (drop done (take (size - over) slice))
          → is_bad_request (drop done (take (size - over) slice)) ≡ false →
          HasServed TooMany had left' old new was now
      too_long more_came none fine = ends_so went_on TooMany left' refl few_read went_on.written (record {
        more = omega (arith, went_on.count, more_came);
        within = omega (arith, place, done_within, beyond_waits over_is, over_is);
        none = subst SpellsNoRequest rest_is none;
        not_bad = ap is_bad_request (sym rest_is) ∙ fine;
      })

      -- within the limit the rest is what waits for more
      pub rest_waits : taken + n ≤ 16777216 → drop done (take (size - over) slice) ≡ drop done more
      rest_waits less = ap (drop done) (front_is ∙ take_all (size - over) more (omega (arith, width_is)))

  -- nothing came, and the source is at its end
  module _ (none : n ≡ 0) (end : n ≡ 0 → 0 < 16777217 - taken → length waiting < 65536 →
      IfSome left (λ xs. xs ≡ []))
      (small : length waiting < 2062) where
    left_is : left ≡ left'
    left_is = ended_left left left' given.0 given.4 (given.2 ∙ none)

    at_end : IsAtEnd left'
    at_end = subst IsAtEnd left_is (end none (omega arith) (omega arith))

    -- where nothing waits, a request was due
    pub finished_at : size ≡ 0 → HasServed Finished had left' old mid was then_
    finished_at empty = ends_so p Finished left' left_is (omega arith) p.written
        (at_end, is_empty waiting (omega (arith, more_size, none, size_is, empty)), omega (arith, p.count))
      where
        is_empty : (l : List ℕ) → length l ≡ 0 → l ≡ []
        is_empty [] e = refl
        is_empty (x ∷ l) e = absurd (omega (arith, e))

    -- where something waits, it ended inside a request
    pub stopped_at : SpellsNoRequest waiting → size ≢ 0 →
        HasServed (BadAt (taken - size)) had left' old mid was then_
    stopped_at spells some = ends_so p (BadAt (taken - size)) left' left_is (omega arith) p.written (record {
      place = omega (arith, text_size p, more_size, none, size_is);
      cause = inr (
        at_end,
        λ e. some (let z : length waiting ≡ 0 = ap length e in omega (arith, z, more_size, none, size_is)),
        spells,
        omega (arith, p.count),
      );
    })

-- there was no memory before anything was read
pub no_memory : (had : Option (List ℕ)) (p : Provider) (w : Option (List ℕ)) →
    HasServed OutOfMemory had had p p w w
no_memory had p w = ends_so (starts had p w) OutOfMemory had refl (omega arith) refl (inl refl)
