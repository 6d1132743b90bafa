-- Each event makes such changes and no others.
use Rattle.machine_defs.proofs.Words.{◌≡◌, ◌≤◌, Bool, false, ◌⊎◌, ◌&&◌, refl, ap, sym, subst, ◌∙◌, inl, inr, arith, is_some, nat_lt, option_map, lt-ltb, eqb-true, eq-eqb, ne_eqb, cases_Bool, and_parts, and_from, false≢true, Record, Setup, SetUp, next_id, setup_of, version_of, Held, Provider, with_block, without_object, LosesPart, Stores, Removes, Replaces, Kind, PutJob, Job, Given, Fetched, Answered, Worked, job_of, with_job, without_job, advanced, advanced_with, Action, WriteBody, SyncBody, WriteGate, SyncGate, Store, Fetch, Ask, Work, Remove, Event, Init, Begin, BeginAt, BeginScrub, BeginPack, Step, Stop, Reopen, Continue, Outcome, Ready, Refused, Opened, Begun, More, Ended, Replaced, NothingHeld, Stopped, Continued, State, Append, Doubt, Scrub, Alone, Scrubbing, setup_in, worked_object, with_provider, going_on, beginning, Writes, begun_append, done_append, subject_drawn, bytes_drawn, is_first_append, taken_out, next_action, block_to_store, alone_refusal, scrubbing, block_to_scrub, pack_causes, Cause, first_refusal, LeavesDoubt, Happens, GivesSymbols, blocks_given, Answer, refusal_of_begin}
use Rattle.std.proofs.Common.{ℕ, ◌+◌, ◌<◌, ◌==◌, true, List, [], ◌∷◌, ◌++◌, Option, Some, None}
use Rattle.std.specs.Prelude.{◌||◌, length}
use Rattle.device_defs.specs.Told.{Goes}
use Rattle.machine_defs.specs.Refusals as refusal
use Rattle.machine_defs.specs.Answers as answer
use Rattle.machine_defs.specs.States.{ended}
use Rattle.machine_defs.proofs.Cases.{IsUnstored, AreSettled, Acting, Beside, Cases, by_alone, by_event}
use Rattle.machine_defs.proofs.Refused.{left_false, none_lone}
use Rattle.machine_defs.proofs.JobLists.{cond_true, cond_false, found_with, found_itself, found_more, found_none}
use Rattle.machine_defs.proofs.Changes.{IsQuiet, Gave, IsPlain, GoesOn, Job_is, Append_is, Records_is, Block_is, Rest, Doubt_is, Grown, IsGated, IsQuietState, Changes, only_devices, unchanged, gives_up, ends, steps_plainly}

-- what a provider tells of a block
abbrev told : Provider → ℕ → ℕ → Option (Option (List ℕ))
told p o s = option_map (λ held. held o s) p.held

-- of providers one of which was called, each block is as before or what that one now tells
called : (providers : ℕ → Provider) (j : ℕ) (p : Provider) (i o s : ℕ) →
    ((i ≡ j) × (told (with_provider providers j p i) o s ≡ told p o s)) ⊎
    (told (with_provider providers j p i) o s ≡ told (providers i) o s)
called providers j p i o s = elim (cases_Bool (i == j)) [
  | inl t ↦ inl (eqb-true i j t, ap (λ (q : Provider). told q o s) (cond_true (i == j) p (providers i) t))
  | inr f ↦ inr (ap (λ (q : Provider). told q o s) (cond_false (i == j) p (providers i) f))
]

-- one block set
set_block : (object stripe : ℕ) (block : List ℕ) (held : Option Held) (o s : ℕ) →
    ((o ≡ object) × (s ≡ stripe) ×
    (option_map (λ (h : Held). h o s) (option_map (with_block object stripe block) held)
    ≡ option_map (λ h. Some block) held))
    ⊎ (option_map (λ (h : Held). h o s) (option_map (with_block object stripe block) held)
    ≡ option_map (λ (h : Held). h o s) held)
set_block object stripe block None o s = inr refl
set_block object stripe block (Some h) o s = elim (cases_Bool ((o == object) && (s == stripe))) [
  | inl t ↦ (let p = and_parts (o == object) (s == stripe) t in
      inl (
        eqb-true o object p.0,
        eqb-true s stripe p.1,
        ap Some (cond_true ((o == object) && (s == stripe)) (Some block) (h o s) t),
      ))
  | inr f ↦ inr (ap Some (cond_false ((o == object) && (s == stripe)) (Some block) (h o s) f))
]

-- an object's blocks taken away
gone_block : (object : ℕ) (held : Option Held) (o s : ℕ) →
    (o ≡ object) ⊎ (option_map (λ (h : Held). h o s) (option_map (without_object object) held)
    ≡ option_map (λ (h : Held). h o s) held)
gone_block object None o s = inr refl
gone_block object (Some h) o s = elim (cases_Bool (o == object)) [
  | inl t ↦ inl (eqb-true o object t)
  | inr f ↦ inr (ap Some (cond_false (o == object) None (h o s) f))
]

part_block : (object : ℕ) (old new : Option Held) (o s : ℕ) → Goes (LosesPart object) old new →
    (o ≡ object) ⊎ (option_map (λ (h : Held). h o s) new ≡ option_map (λ (h : Held). h o s) old)
part_block object None None o s g = inr refl
part_block object (Some h) (Some k) o s g =
    elim (g o s) [ inl stays ↦ inr (ap Some stays) | inr lost ↦ inl lost.0 ]
part_block object old new o s g = absurd g

removed_block : (object : ℕ) (old new : Provider) (o s : ℕ) → Removes object old new →
    (o ≡ object) ⊎ (told new o s ≡ told old o s)
removed_block object old new o s (inl r) = elim (gone_block object old.held o s)
    [ inl e ↦ inl e | inr e ↦ inr (ap (λ (x : Option Held). option_map (λ (h : Held). h o s) x) r.held ∙ e) ]
removed_block object old new o s (inr r) = part_block object old.held new.held o s r.held

-- a replacement that answered false leaves all
kept_told : (IsThere : Held → Type 0) (changed : Held → Held) (was : Option Held) (old new : Provider)
    (o s : ℕ) → old.held ≡ was → Replaces IsThere changed false (record old { held = was }) new →
    told new o s ≡ told old o s
kept_told IsThere changed None old new o s e h = ap (λ x. option_map (λ h. h o s) x) (h.0 ∙ sym e)
kept_told IsThere changed (Some held) old new o s e h = ap (λ p. told p o s) h.1
    ∙ ap (λ x. option_map (λ h. h o s) x) (sym e)

-- a store that is not made leaves what the provider holds
unstored_held : (p q : Provider) (j : ℕ) (how : Answer) → IsUnstored p q j how → q.held ≡ p.held
unstored_held p q j how (inl (call, is)) = call.held
unstored_held p q j how (inr (call, is)) = call.held

-- a number that is drawn leaves the bytes of those below it
pub drawn_bytes : (w : State) (job : Job) (kind : Kind) (o : ℕ) → o < next_id w.records →
    bytes_drawn w job kind o ≡ w.bytes o
drawn_bytes w job (PutJob name bytes) o l = cond_false (is_first_append job && (o == next_id w.records)) bytes
    (w.bytes o) (go (is_first_append job) (ne_eqb o (next_id w.records) (λ e. omega arith)))
  where
    go : (b : Bool) → (o == next_id w.records) ≡ false → (b && (o == next_id w.records)) ≡ false
    go true h = h
    go false h = refl
drawn_bytes w job kind o l = refl

-- an action that stores nothing
abbrev IsNoStore : Action → Type 0
IsNoStore (Store j object stripe) = ⊥
IsNoStore action = Unit {0}

not_stored : (action : Action) (i o s : ℕ) → IsNoStore action → action ≡ Store i o s → ⊥
not_stored action i o s h e = subst IsNoStore e h

-- a provider that tells has the block that was stored
pub some_told : (block : List ℕ) (held : Option Held) (b : Option (List ℕ)) →
    option_map (λ (h : Held). Some block) held ≡ Some b → b ≡ Some block
some_told block None b h = cc h
some_told block (Some g) b h = cc h

-- what a store leaves where it stored
stored_value : (old : State) (job : Job) (j object stripe : ℕ) (p : Provider) →
    Stores object stripe (block_to_store old job job.kind j object stripe) (old.providers j) p →
    (i o s : ℕ) (b : Option (List ℕ)) → Store j object stripe ≡ Store i o s →
    told (with_provider old.providers j p i) o s ≡ Some b → b ≡ Some (block_to_store old job job.kind i o s)
stored_value old job j object stripe p call i o s b e h = rw (← ij, ← oo, ← ss)
    (some_at (old.providers j).held (ap (λ x. option_map (λ g. g object stripe) x) (sym call.held) ∙ told_here))
  where
    ij : j ≡ i
    ij = cc e

    oo : object ≡ o
    oo = cc e

    ss : stripe ≡ s
    ss = cc e

    told_here : told p object stripe ≡ Some b
    told_here = ap (λ q. told q object stripe)
        (sym (cond_true (j == j) p (old.providers j) (eq-eqb j j refl))) ∙ (rw (← ij, ← oo, ← ss) at h)

    some_at : (held : Option Held) → option_map (λ g. g object stripe)
        (option_map (with_block object stripe (block_to_store old job job.kind j object stripe)) held)
        ≡ Some b → b ≡ Some (block_to_store old job job.kind j object stripe)
    some_at None g = cc g
    some_at (Some x) g = (let f : Some
        (with_block object stripe (block_to_store old job job.kind j object stripe) x object stripe) ≡ Some b = g in
        let k : with_block object stripe (block_to_store old job job.kind j object stripe) x object stripe
        ≡ b = cc in
        sym k ∙ cond_true ((object == object) && (stripe == stripe))
        (Some (block_to_store old job job.kind j object stripe)) (x object stripe)
        (and_from (object == object) (stripe == stripe) (eq-eqb object object refl)
        (eq-eqb stripe stripe refl)))

module _ (limit moment : ℕ) (old : State) where
  -- of a call that leaves what the provider holds
  leaves : (e : Event) (r : Outcome) (j : ℕ) (p : Provider) (new : State) → p.held ≡ (old.providers j).held →
      new.providers ≡ with_provider old.providers j p → (i o s : ℕ) → Block_is old e r new i o s
  leaves e r j p new held providers i o s = elim (called old.providers j p i o s) [
    | inl q ↦ Block_is.same (ap (λ f. told (f i) o s) providers
        ∙ (q.1 ∙ (ap (λ (x : Option Held). option_map (λ (h : Held). h o s) x) held
        ∙ ap (λ n. told (old.providers n) o s) (sym q.0))))
    | inr q ↦ Block_is.same (ap (λ f. told (f i) o s) providers ∙ q)
  ]

  -- what is left beside jobs, records and devices
  rests : (new : State) → (new.next_job ≡ old.next_job) × (new.is_open ≡ old.is_open) ×
      (new.bytes ≡ old.bytes) × (new.alone ≡ old.alone) × (new.doubt ≡ old.doubt) → Rest old new
  rests new (next, is_open, bytes, alone, doubt) = record {
    next = next;
    is_open = is_open;
    bytes = bytes;
    alone = alone;
    doubt = λ d h. inl (sym doubt ∙ h);
  }

  module _ (job : Job) (runs : job_of old.jobs job.number ≡ Some job) where
    abbrev Result : Outcome → State → Type 0
    Result r new = Changes limit moment old (Step job.number) r new

    at : (k : ℕ) → k ≡ job.number → job_of old.jobs k ≡ Some job
    at k same = rw same runs

    on : (action : Action) (given : List Given) → Gave old job action (record (advanced job) { given = given }) →
        GoesOn old job action (record (advanced job) { given = given })
    on action given gave = record {
      gave = gave;
      number = refl;
      kind = refl;
      profile = refl;
      begun = refl;
      pinned = refl;
      flagged = refl;
      subject = refl;
      older = refl;
      place = refl;
    }

    on_advanced : (action : Action) → IsQuiet action → GoesOn old job action (advanced job)
    on_advanced action quiet = on action job.given (Gave.nothing quiet refl)

    same_append : (a : Append) → old.append ≡ Some a →
        (b : Append) × (old.append ≡ Some b) × (a.job ≡ b.job) × (a.entry ≡ b.entry)
    same_append a h = (a, h, refl, refl)

    -- stores
    stores : (j object stripe : ℕ) (p : Provider) → next_action old job ≡ Some (Store j object stripe) →
        Stores object stripe (block_to_store old job job.kind j object stripe) (old.providers j) p →
        Result More (record (going_on old (advanced job)) { providers = with_provider old.providers j p })
    stores j object stripe p next_is call = steps_plainly limit moment old (Step job.number) More _ (λ g. g)
        job (advanced job) (Store j object stripe) runs next_is tt (on_advanced (Store j object stripe) tt)
        refl same_append refl (rests _ (refl, refl, refl, refl, refl))
        (λ i o s b e h. stored_value old job j object stripe p call i o s b e h)
        (λ i o s. elim (called old.providers j p i o s) [
          | inl q ↦ elim (set_block object stripe (block_to_store old job job.kind j object stripe)
              (old.providers j).held o s) [
                | inl hit ↦ Block_is.stored job runs (rw (q.0, hit.0, hit.1) next_is)
                    (q.1 ∙ (ap (λ (x : Option Held). option_map (λ (h : Held). h o s) x) call.held
                    ∙ (hit.2 ∙ rw (q.0, hit.0, hit.1))))
                | inr miss ↦ Block_is.same
                    (q.1 ∙ (ap (λ (x : Option Held). option_map (λ (h : Held). h o s) x) call.held
                    ∙ (miss ∙ ap (λ n. told (old.providers n) o s) (sym q.0))))
              ]
          | inr q ↦ Block_is.same q
        ])

    stores_not : (j : ℕ) (p : Provider) (how : Answer) → IsUnstored (old.providers j) p j how →
        Result (Ended how) (record (ended old job) { providers = with_provider old.providers j p })
    stores_not j p how call = ends limit moment old (Step job.number) (Ended how) _ (λ g. g) job.number refl
        (inl refl) refl (rests _ (refl, refl, refl, refl, refl))
        (leaves (Step job.number) (Ended how) j p _ (unstored_held (old.providers j) p j how call) refl)

    -- a call of a provider that gives something, and leaves what it holds
    gives : (j : ℕ) (p : Provider) (action : Action) (gift : Given) → next_action old job ≡ Some action →
        IsPlain action → IsNoStore action → Gave old job action (advanced_with job gift) →
        p.held ≡ (old.providers j).held → Result More
        (record (going_on old (advanced_with job gift)) { providers = with_provider old.providers j p })
    gives j p action gift next_is plain stores_not gave held = steps_plainly limit moment old
        (Step job.number) More _ (λ g. g) job (advanced_with job gift) action runs next_is plain
        (on action _ gave) refl same_append refl (rests _ (refl, refl, refl, refl, refl))
        (λ i o s b e h. absurd (not_stored action i o s stores_not e))
        (leaves (Step job.number) More j p _ held refl)

    works : (object stripe : ℕ) (symbols : List ℕ) → next_action old job ≡ Some (Work object stripe) →
        GivesSymbols (worked_object old job object) stripe
        (blocks_given job.given (setup_in old).n object stripe) symbols →
        Result More (going_on old (advanced_with job (Worked object stripe symbols)))
    works object stripe symbols next_is given = steps_plainly limit moment old (Step job.number) More _
        (λ g. g) job (advanced_with job (Worked object stripe symbols)) (Work object stripe) runs next_is tt
        (on (Work object stripe) _ (Gave.worked object stripe symbols refl given refl)) refl same_append refl
        (rests _ (refl, refl, refl, refl, refl))
        (λ i o s b e h. absurd (not_stored (Work object stripe) i o s tt e)) (λ i o s. Block_is.same refl)

    removes : (j object : ℕ) (p : Provider) → next_action old job ≡ Some (Remove j object) →
        Removes object (old.providers j) p →
        Result More (record (going_on old (advanced job)) { providers = with_provider old.providers j p })
    removes j object p next_is call = steps_plainly limit moment old (Step job.number) More _ (λ g. g) job
        (advanced job) (Remove j object) runs next_is tt (on_advanced (Remove j object) tt) refl same_append
        refl (rests _ (refl, refl, refl, refl, refl))
        (λ i o s b e h. absurd (not_stored (Remove j object) i o s tt e))
        (λ i o s. elim (called old.providers j p i o s) [
          | inl q ↦ elim (removed_block object (old.providers j) p o s call) [
            | inl hit ↦ Block_is.removed job runs (rw (q.0, hit) next_is)
            | inr miss ↦ Block_is.same (q.1 ∙ (miss ∙ ap (λ n. told (old.providers n) o s) (sym q.0)))
          ]
          | inr q ↦ Block_is.same q
        ])

    -- a job ends, and no device changes but for the disk's count
    ends_so : (r : Outcome) (left : State) → (IsGated old → IsGated left) →
        left.jobs ≡ without_job old.jobs job.number → (left.append ≡ old.append) ⊎ (left.append ≡ None) →
        left.records ≡ old.records → Rest old left → left.providers ≡ old.providers → Result r left
    ends_so r left gate jobs append records rest providers = ends limit moment old (Step job.number) r left
        gate job.number jobs append records rest (λ i o s. Block_is.same (ap (λ p. told (p i) o s) providers))

    -- moves of the append in flight
    moves_on : (a : Append) (action : Action) (left : State) → (IsGated old → IsGated left) →
        IsNoStore action → IsQuiet action → old.append ≡ Some a → next_action old job ≡ Some action →
        IsPlain action →
        left.jobs ≡ with_job old.jobs (advanced job) → left.append ≡ Some (record a { moves = a.moves + 1 }) →
        left.records ≡ old.records → Rest old left → left.providers ≡ old.providers → Result More left
    moves_on a action left gate stores_not quiet flight next_is is_plain jobs append records rest providers =
        steps_plainly limit moment old (Step job.number) More left gate job
        (advanced job) action runs next_is is_plain (on_advanced action quiet) jobs
        (λ b h. (let e : Some (record a { moves = a.moves + 1 }) ≡ Some b = sym append ∙ h in
        let f : record a { moves = a.moves + 1 } ≡ b = cc in
        (a, flight, sym (ap (λ (x : Append). x.job) f), sym (ap (λ (x : Append). x.entry) f))))
        records rest (λ i o s b e h. absurd (not_stored action i o s stores_not e))
        (λ i o s. Block_is.same (ap (λ p. told (p i) o s) providers))

    begins_append : (entry : Record) (faults : ℕ) → next_action old job ≡ Some WriteBody →
        old.append ≡ None → Writes old job job.kind entry →
        Result More (record (begun_append old job entry) { disk_faults = faults })
    begins_append entry faults next_is none writes =
        record {
          job = λ k j h. elim (found_with old.jobs drawn k j h) [
            | inl p ↦ Job_is.drew job (at k p.0) next_is none p.1 refl
            | inr q ↦ Job_is.kept q.1 (Grown.as_before refl)
          ];
          append = λ a h. (let f : record { job = job.number; entry = entry; moves = 1 } ≡ a = cc h in
              Append_is.drew job runs next_is (sym (ap (λ x. x.job) f))
              (subst (λ x. Writes old job job.kind x) (ap (λ x. x.entry) f) writes)
              (found_itself old.jobs drawn job runs) refl);
          records = Records_is.same refl;
          doubt = λ d g. Doubt_is.kept g refl;
          numbers = inr (omega arith);
          next = λ k j h. elim (found_with old.jobs drawn k j h)
              [ inl p ↦ inr (inr (job, at k p.0)) | inr q ↦ inr (inl q.1) ];
          gated = λ g b h three. absurd (let e : record { job = job.number; entry = entry; moves = 1 } ≡ b
              = cc in
              let f : 1 ≡ b.moves = ap (λ x. x.moves) e in omega arith);
          idle = λ f closed. (let p = f closed in absurd (found_none old.jobs job.number job p.0 runs));
          lone = λ f x h. absurd (found_none old.jobs job.number job (f x h) runs);
          bytes = λ o l. drawn_bytes old job job.kind o l;
          block = λ i o s. Block_is.same refl;
        }
      where
        drawn : Job
        drawn = record (advanced job) { subject = subject_drawn old job job.kind }

    finishes : (a : Append) (faults : ℕ) → next_action old job ≡ Some SyncGate → old.append ≡ Some a →
        a.job ≡ job.number → a.moves ≡ 3 →
        Result More (record (done_append old job a) { disk_faults = faults })
    finishes a faults next_is flight mine at_three =
        record {
          job = λ k j h. elim (found_with old.jobs decided k j h) [
            | inl p ↦ Job_is.finished job a (at k p.0) next_is flight (mine ∙ sym p.0) p.1 refl refl
            | inr q ↦ Job_is.kept q.1
                (Grown.by_other job a runs next_is flight mine (λ same. q.0 (sym same)) refl)
          ];
          append = λ b h. absurd (cc h);
          records = Records_is.finished job a runs next_is flight mine at_three refl;
          doubt = λ d h. absurd (cc h);
          numbers = inr (omega arith);
          next = λ k j h. elim (found_with old.jobs decided k j h)
              [ inl p ↦ inr (inr (job, at k p.0)) | inr q ↦ inr (inl q.1) ];
          gated = λ g b h three. absurd (cc h);
          idle = λ f closed. (let p = f closed in absurd (found_none old.jobs job.number job p.0 runs));
          lone = λ f x h. absurd (found_none old.jobs job.number job (f x h) runs);
          bytes = λ o l. refl;
          block = λ i o s. Block_is.same refl;
        }
      where
        decided : Job
        decided = record (advanced job) { older = taken_out old job job.kind }

    moved_entry : (a b : Append) → Some (record a { moves = a.moves + 1 }) ≡ Some b → a.entry ≡ b.entry
    moved_entry a b h = (let e : record a { moves = a.moves + 1 } ≡ b = cc in ap (λ (x : Append). x.entry) e)

    in_doubt : (a : Append) (d : Doubt) → Some (record { entry = a.entry; maker = Some (advanced job) })
        ≡ Some d → d.entry ≡ a.entry
    in_doubt a d h = (let e : record { entry = a.entry; maker = Some (advanced job) } ≡ d = cc in
        sym (ap (λ (x : Doubt). x.entry) e))

    acts : Acting old job (Changes limit moment old (Step job.number))
    acts = record {
      begins = λ entry next none writes faults low. begins_append entry faults next none writes;
      syncs = λ a next flight mine faults low. moves_on a SyncBody _
          (λ g b h three. absurd (let e : record a { moves = a.moves + 1 } ≡ b = cc in
          let f : a.moves + 1 ≡ b.moves = ap (λ x. x.moves) e in omega arith)) tt tt flight next tt refl
          refl refl
          (rests _ (refl, refl, refl, refl, refl)) refl;
      gates = λ a next flight mine faults low. moves_on a WriteGate _
          (λ g b h three. (record { entry = a.entry; maker = Some (advanced job) }, refl, moved_entry a b h))
          tt tt flight next tt refl refl refl (record {
            next = refl;
            is_open = refl;
            bytes = refl;
            alone = refl;
            doubt = λ d h. inr (a, flight, in_doubt a d h);
          }) refl;
      finishes = λ a next flight mine faults low. finishes a faults next flight mine.0 mine.1;
      bars = λ action plain next mine faults low rose. ends_so (Ended answer.DiskFault) _
          (λ g b h three. absurd (cc h)) refl (inr refl) refl (rests _ (refl, refl, refl, refl, refl)) refl;
      bars_gated = λ a next flight mine faults low rose. ends_so (Ended answer.DiskFault) _
          (λ g b h three. absurd (cc h)) refl (inr refl) refl (record {
            next = refl;
            is_open = refl;
            bytes = refl;
            alone = refl;
            doubt = λ d h. inr (a, flight, in_doubt a d h);
          }) refl;
      begins_not = λ next none. ends_so (Ended answer.Memory) _ (λ g. g) refl (inl refl) refl
          (rests _ (refl, refl, refl, refl, refl)) refl;
      gates_not = λ a next flight mine. ends_so (Ended answer.Memory) _ (λ g b h three. absurd (cc h)) refl
          (inr refl) refl (rests _ (refl, refl, refl, refl, refl)) refl;
      stores = λ j o s p next call. stores j o s p next call;
      stores_not = λ j o s p how next call. stores_not j p how call;
      fetches = λ j o s block p next call. gives j p (Fetch j o s) (Fetched j o s block) next tt tt
          (Gave.fetched j o s block refl refl) call.held;
      asks = λ j o round symbol p next call. gives j p (Ask j o round) (Answered j o round symbol) next tt tt
          (Gave.answered j o round symbol refl refl) call.held;
      works = λ o s symbols next given. works o s symbols next given;
      removes = λ j o p next call. removes j o p next call;
      ends = λ action how next last. ends_so (Ended how) _ (λ g. g) refl (inl refl) refl
          (rests _ (refl, refl, refl, refl, refl)) refl;
    }

  -- an event that changes nothing of the state but what runs alone, the next job number, the journal and
  -- devices
  abbrev Aside : State → Type 0
  Aside new = (new.jobs ≡ old.jobs) × (new.append ≡ old.append) × (new.records ≡ old.records) ×
      (new.is_open ≡ old.is_open) × (new.bytes ≡ old.bytes) × (new.doubt ≡ old.doubt)

  aside : (e : Event) (r : Outcome) (new : State) → old.jobs ≡ [] → old.next_job ≤ new.next_job → Aside new →
      ((i o s : ℕ) → Block_is old e r new i o s) → Changes limit moment old e r new
  aside e r new none le a block = record {
    job = λ k j h. absurd (found_none new.jobs k j (a.0 ∙ none) h);
    append = λ b h. Append_is.kept b (sym a.1 ∙ h) refl refl a.2;
    records = Records_is.same a.2;
    doubt = λ d h. Doubt_is.kept (sym a.5 ∙ h) a.2;
    numbers = inr le;
    next = λ k j h. absurd (found_none new.jobs k j (a.0 ∙ none) h);
    gated = λ g b h three. (let q = g b (sym a.1 ∙ h) three in (q.0, a.5 ∙ q.1, q.2));
    lone = λ f y h. a.0 ∙ none;
    idle = λ f closed. (let p = f (sym a.3 ∙ closed) in (a.0 ∙ p.0, a.1 ∙ p.1));
    bytes = λ o l. ap (λ f. f o) a.4;
    block = block;
  }

  -- what a scrub stores
  scrub_stored : (number : ℕ) (scrub : Scrub) (rest : List Action) (j object stripe : ℕ) (p : Provider) →
      old.alone ≡ Some (Scrubbing scrub) → scrub.todo ≡ Store j object stripe ∷ rest →
      Stores object stripe (block_to_scrub old scrub j object stripe) (old.providers j) p → (i o s : ℕ) →
      Block_is old (Step number) More
      (record (scrubbing old (record scrub { todo = rest }))
      { providers = with_provider old.providers j p }) i o s
  scrub_stored number scrub rest j object stripe p is head call i o s =
      elim (called old.providers j p i o s) [
        | inl q ↦ elim (set_block object stripe (block_to_scrub old scrub j object stripe)
            (old.providers j).held o s) [
              | inl hit ↦ Block_is.scrubbed scrub rest is (rw (q.0, hit.0, hit.1) head)
                  (q.1 ∙ (ap (λ x. option_map (λ h. h o s) x) call.held
                  ∙ (hit.2 ∙ rw (q.0, hit.0, hit.1))))
              | inr miss ↦ Block_is.same (q.1 ∙ (ap (λ x. option_map (λ h. h o s) x) call.held
                  ∙ (miss ∙ ap (λ n. told (old.providers n) o s) (sym q.0))))
            ]
        | inr q ↦ Block_is.same q
      ]

  -- a step of what runs alone
  besides : (number : ℕ) (x : Alone) → old.alone ≡ Some x → old.jobs ≡ [] →
      Beside old x (Changes limit moment old (Step number))
  besides number x at none = record {
    stores = λ scrub rest j o s p is todo call. aside (Step number) More _ none (omega arith)
        (refl, refl, refl, refl, refl, refl)
        (scrub_stored number scrub rest j o s p (at ∙ ap Some is) todo call);
    stores_not = λ j p how call. aside (Step number) (Ended how) _ none (omega arith)
        (refl, refl, refl, refl, refl, refl)
        (leaves (Step number) (Ended how) j p _ (unstored_held (old.providers j) p j how call) refl);
    fetches = λ scrub left j o s block p call. aside (Step number) More _ none (omega arith)
        (refl, refl, refl, refl, refl, refl) (leaves (Step number) More j p _ call.held refl);
    aside = λ left r h. aside (Step number) r _ none (omega arith) (refl, refl, refl, refl, refl, refl)
        (λ i o s. Block_is.same refl);
    packs = λ left barred switching journal area faults r h low. aside (Step number) r _ none (omega arith)
        (refl, refl, refl, refl, refl, refl) (λ i o s. Block_is.same refl);
  }

  begins : (e : Event) (kind : Kind) (profile : Option ℕ) → old.is_open ≡ true →
      refusal_of_begin limit old kind profile ≡ None → Changes limit moment old e (Begun old.next_job)
      (record old {
        jobs = old.jobs ++ beginning old moment kind profile ∷ [];
        next_job = old.next_job + 1;
      })
  begins e kind profile is_open allowed =
      record {
        job = λ k j f. elim (found_more old.jobs (beginning old moment kind profile) k j f) [
          | inl p ↦ Job_is.begun kind profile p.1 p.0 allowed refl
          | inr q ↦ Job_is.kept q (Grown.as_before refl)
        ];
        append = λ a f. Append_is.kept a f refl refl refl;
        records = Records_is.same refl;
        doubt = λ d g. Doubt_is.kept g refl;
        numbers = inr (omega arith);
        next = λ k j f. elim (found_more old.jobs (beginning old moment kind profile) k j f) [
          | inl p ↦ inl (omega (arith, p.0))
          | inr q ↦ inr (inl q)
        ];
        gated = λ g. g;
        lone = λ f x e. absurd (cc (sym (none_lone limit old kind profile allowed) ∙ e));
        idle = λ f closed. absurd (false≢true (sym closed ∙ is_open));
        bytes = λ o l. refl;
        block = λ i o s. Block_is.same refl;
      }

  -- begins of what runs alone
  nothing_runs : (more : List Cause) → alone_refusal old more ≡ None → old.jobs ≡ []
  nothing_runs more h = no_jobs old.jobs (left_false (nat_lt 0 (length old.jobs)) (is_some old.alone)
      (second_false old.is_barred (nat_lt 0 (length old.jobs) || is_some old.alone) more h))
    where
      no_jobs : (js : List Job) → nat_lt 0 (length js) ≡ false → js ≡ []
      no_jobs [] e = refl
      no_jobs (j ∷ js) e = absurd (false≢true (sym e ∙ lt-ltb 0 (length (j ∷ js)) (omega arith)))

      second_false : (a b : Bool) (more : List Cause) →
          first_refusal (record { applies = a; refusal = refusal.MustReopen } ∷ record {
            applies = b;
            refusal = refusal.Busy;
          } ∷ more) ≡ None → b ≡ false
      second_false true b more e = cc e
      second_false false true more e = cc e
      second_false false false more e = refl

  begins_alone : (e : Event) (more : List Cause) (x : Alone) → alone_refusal old more ≡ None →
      Changes limit moment old e (Begun old.next_job)
      (record old { alone = Some x; next_job = old.next_job + 1 })
  begins_alone e more x allowed = aside e (Begun old.next_job) _ (nothing_runs more allowed) (omega arith)
      (refl, refl, refl, refl, refl, refl) (λ i o s. Block_is.same refl)

  settles : (rs : List Record) (new : State) → new.records ≡ rs → AreSettled old rs → Records_is old new
  settles rs new is (inl e) = Records_is.same (is ∙ e)
  settles rs new is (inr (d, at, e)) = Records_is.settled d at (is ∙ e)

  -- all jobs are given up, and nothing is in doubt
  gives_all_up : (e : Event) (r : Outcome) (new : State) → new.jobs ≡ [] → new.append ≡ None →
      Records_is old new → new.providers ≡ old.providers → new.bytes ≡ old.bytes → new.doubt ≡ None →
      Changes limit moment old e r new
  gives_all_up e r new jobs append records providers bytes none = gives_up limit moment old e r new jobs
      append records providers bytes (λ d h. absurd (cc (sym none ∙ h)))

  set_up_of : (s : Setup) (rs : List Record) (new : State) → new.records ≡ SetUp s ∷ rs → setup_of rs ≡ None →
      AreSettled old rs → Records_is old new
  set_up_of s rs new is none (inl e) =
      Records_is.set_up s (ap setup_of (sym e) ∙ none) (is ∙ ap (λ rs. SetUp s ∷ rs) e)
  set_up_of s rs new is none (inr (d, in_doubt, e)) =
      Records_is.settled_set_up s d in_doubt (ap setup_of (sym e) ∙ none) (is ∙ ap (λ rs. SetUp s ∷ rs) e)

  left_doubt : (s : Setup) (doubt : Option Doubt) → LeavesDoubt old s doubt → (d : Doubt) → doubt ≡ Some d →
      (new : State) → new.records ≡ old.records → Doubt_is old new d
  left_doubt s doubt (inl is) d h new rec = Doubt_is.kept (sym is ∙ h) rec
  left_doubt s doubt (inr (none, is)) d h new rec =
      (let e : Some (record { entry = SetUp s; maker = None }) ≡ Some d = sym is ∙ h in
      let f : record { entry = SetUp s; maker = None } ≡ d = cc in
      Doubt_is.set_up s (sym (ap (λ (x : Doubt). x.entry) f)))

  events : IsQuietState old → Cases limit moment old (Changes limit moment old)
  events quiet = record {
    still = λ e r h. unchanged limit moment old e r old refl;
    acts = λ job runs is_open unbarred. acts job runs;
    alone = λ number x r new at is_open unbarred h.
        by_alone old x (Changes limit moment old (Step number)) (besides number x at (quiet.lone x at)) r new h;
    begins = λ kind is_open allowed. begins (Begin kind) kind None is_open allowed;
    begins_at = λ profile name bytes is_open allowed.
        begins (BeginAt profile name bytes) (PutJob name bytes) (Some profile) is_open allowed;
    scrub = λ allowed. begins_alone BeginScrub [] _ allowed;
    pack = λ allowed. begins_alone BeginPack (pack_causes (version_of old.records) old.area old.journal) _ allowed;
    stops = λ picks rs js area so.
        gives_all_up (Stop picks) Stopped _ refl refl (settles rs _ refl so) refl refl refl;
    opens = λ rs js area so up faults low.
        gives_all_up Reopen Opened _ refl refl (settles rs _ refl so) refl refl refl;
    opens_not = λ why rs js area so faults low.
        gives_all_up Reopen (Refused why) _ refl refl (settles rs _ refl so) refl refl refl;
    reads_not = λ why faults low. gives_up limit moment old Reopen (Refused why) _ refl refl
        (Records_is.same refl) refl refl (λ d h. Doubt_is.kept h refl);
    sets_up = λ s rs js good closed so none faults low. (let idle = quiet.idle closed in
        gives_all_up (Init s) Ready _ idle.0 idle.1 (set_up_of s rs _ refl none so) refl refl refl);
    sets_up_not = λ s why doubt good closed so faults low. (let idle = quiet.idle closed in
        gives_up limit moment old (Init s) (Refused why) _ idle.0 idle.1 (Records_is.same refl) refl refl
        (λ d h. left_doubt s doubt so d h _ refl));
    is_set_up = λ s rs js closed so faults low. (let idle = quiet.idle closed in
        gives_all_up (Init s) (Refused refusal.Already) _ idle.0 idle.1 (settles rs _ refl so) refl refl refl);
    replaces = λ e j IsThere changed p still counts call. only_devices limit moment old e Replaced _ (λ g. g)
        refl refl refl (rests _ (refl, refl, refl, refl, refl))
        (λ i o s. elim (called old.providers j p i o s)
        [ inl q ↦ Block_is.replaced (counts i q.0) | inr q ↦ Block_is.same q ]);
    replaces_not = λ e j IsThere changed p still call. only_devices limit moment old e NothingHeld _ (λ g. g)
        refl refl refl (rests _ (refl, refl, refl, refl, refl))
        (λ i o s. elim (called old.providers j p i o s) [
          | inl q ↦ Block_is.same
              (q.1 ∙ (kept_told IsThere changed (old.providers j).held (old.providers j) p o s refl call
              ∙ ap (λ n. told (old.providers n) o s) (sym q.0)))
          | inr q ↦ Block_is.same q
        ]);
    continues = gives_up limit moment old Continue Continued _ refl refl (Records_is.same refl) refl refl
        (λ d h. Doubt_is.kept h refl);
  }

  -- each event that happens makes such changes and no others
  pub changes : (e : Event) (r : Outcome) (new : State) → IsQuietState old →
      Happens limit moment old e r new → Changes limit moment old e r new
  changes e r new quiet h = by_event limit moment old (Changes limit moment old) (events quiet) e r new h
