-- The worked rows.
use Rattle.hail_client.proofs.Words.{◌≡◌, ℕ, zero, suc, [], ◌∷◌, replicate, Some, None, refl, ap, sym, subst, ◌∙◌, inl, inr, arith, slice_get, slice_index, IsSome, cases_Bool, false≢true, Provider, firm, moves_of, WritesText, A, B, StandsActive, text_length, packed, File, is_same_name, new_scrub, new_pack, Names, Closed, BeginScrub, BeginPack, Begun, Happens, Moment, IsStart, setup_in, IsFresh, IsKept, cond_true, cond_false, AreHeld, IsSound, IsAtRest, events-sound, journal-whole, rest-sound, hold_begins, held_stands, ScrubIs, ScrubStands, PackJob, Vault, pack_number, IsPackOf, StandsBeside, Client, devices, AreDevices, closed_client, fresh, hidden, stored_devices, stored_state, stored_open, stored_scrub, scrubbed_state, notes, raised_records, raised_devices, raised_open, packing_state, start_of, TellAll, ClientStands, IsReached, bytes-shown}
use Rattle.std.proofs.Common.{codes}
use Rattle.journal_core.specs.Texts.{StandsFirm}
use Rattle.journal_core.proofs.AreaStands.{read-firm}
use Rattle.journal_pack.specs.Moves.{IsAfterPack}
use Rattle.record_defs.specs.Journal.{text}
use Rattle.record_defs.proofs.AreaLaws.{text-active}
use Rattle.column_defs.specs.Objects.{Object}
use Rattle.machine_defs.specs.Given.{pinned_profile}
use Rattle.machine_defs.specs.Setups.{profiled, object_of}
use Rattle.machine_defs.specs.Examples.{empty_provider, six, one_file, hundred}
use Rattle.hail_client.specs.declared.alone.Alone.TheVariants as alone
use Rattle.hail_client.proofs.Fresh.{is-start, are-devices, untold-start, each-at}
use Rattle.hail_client.proofs.Standing.{start-stands, stands-of}

-- a disk that reads nothing is one before its first use
pub fresh-is : IsFresh [] []
fresh-is = record { firm = refl; stands = inl (refl, refl) }

-- over the fresh devices there is a state before the first event
pub fresh-start : IsStart (start_of fresh [])
fresh-start = is-start fresh [] [] refl fresh-is

-- the fresh devices are those of that state
pub fresh-devices : AreDevices fresh (start_of fresh [])
fresh-devices = are-devices fresh [] [] refl fresh-is

told-at : (n j : ℕ) (p : Provider) → slice_get (replicate n empty_provider) j ≡ Some p → p ≡ empty_provider
told-at zero j p is = absurd (let e : None ≡ Some p = is in cc)
told-at (suc n) zero p is = (let e : Some empty_provider ≡ Some p = is in cc)
told-at (suc n) (suc j) p is = told-at n j p is

-- each of the fresh providers tells what it holds
pub fresh-tell : TellAll fresh.providers
fresh-tell j p is = subst (λ (x : Provider). IsSome x.held) (sym (told-at 4 j p is)) refl

-- a closed client over the fresh devices stands for that state
pub fresh-stands : ClientStands closed_client fresh (start_of fresh [])
fresh-stands = start-stands fresh (start_of fresh []) fresh-start fresh-devices

-- from there a run of one moment is reached, in which the closed client is asked for its files
pub fresh-run : (m : Moment) × IsReached (start_of fresh []) (m ∷ []) closed_client fresh
fresh-run = (
  record { event = Names; outcome = Closed; state = start_of fresh [] },
  record { run = (tt, refl, tt); stands = fresh-stands },
)

-- over devices of no known state there is a state before the first event, and they are its devices
pub hidden-start : IsStart (start_of hidden []) × AreDevices hidden (start_of hidden [])
hidden-start = untold-start hidden [] refl (inl refl)

-- a closed client over such devices stands for that state
pub hidden-stands : ClientStands closed_client hidden (start_of hidden [])
hidden-stands = start-stands hidden (start_of hidden []) hidden-start.0 hidden-start.1

-- ---- a journal with one file

one-held : AreHeld (λ id. hundred) one_file
one-held name file is = elim (cases_Bool (is_same_name (codes "notes.txt") name)) [
  | inl t ↦ (let e : Some (record { name = name; id = 1; size = 100; profile = 1 }) ≡ Some file =
      sym (cond_true (is_same_name (codes "notes.txt") name)
      (Some (record { name = name; id = 1; size = 100; profile = 1 })) None t) ∙ is in
      let f : record { name = name; id = 1; size = 100; profile = 1 } ≡ file =
      (let z : ◌≡◌ {A = File} (record { name = name; id = 1; size = 100; profile = 1 }) file = cc in z) in
      (refl, ap (λ (z : File). z.size) f))
  | inr n ↦ absurd (let e : None ≡ Some file = sym (cond_false (is_same_name (codes "notes.txt") name)
      (Some (record { name = name; id = 1; size = 100; profile = 1 })) None n) ∙ is in cc)
]

stored-rests : IsAtRest stored_state
stored-rests = record {
  idle = (refl, refl, refl, refl);
  undoubted = refl;
  unswitched = refl;
  journal = journal-whole stored_state refl (λ none. refl) (refl, (refl, (refl, tt))) refl;
  accepted = (refl, (refl, (refl, tt)));
  in_grammar = refl;
  room = omega arith;
  files = one-held;
  set_up = λ is. absurd (false≢true is);
  handed = λ is. absurd (false≢true is);
}

text-stands : StandsActive (text one_file) A one_file
text-stands = text-active one_file refl

-- a closed client over a disk with one file stands for the state at rest over its journal
pub stored-stands : ClientStands closed_client stored_devices stored_state
stored-stands = record {
  devices = record {
    images = bytes-shown (text one_file) stored_state (inl (inl text-stands));
    faults = refl;
    providers = record { count = refl; each = each-at stored_devices.providers };
  };
  sound = rest-sound 8 stored_state stored-rests;
  closed = refl;
  next_job_is = refl;
}

-- in that state the file is kept
pub stored-kept : IsKept stored_state (codes "notes.txt") notes
stored-kept = record { in_effect = refl; with_doubt = λ d is. absurd (let e : None ≡ Some d = is in cc) }

-- ---- a scrub of that file

open-rests : IsAtRest stored_open
unfolding setup_in
open-rests = record {
  idle = (refl, refl, refl, refl);
  undoubted = refl;
  unswitched = refl;
  journal = journal-whole stored_open refl (λ none. refl) (refl, (refl, (refl, tt))) refl;
  accepted = (refl, (refl, (refl, tt)));
  in_grammar = refl;
  room = omega arith;
  files = one-held;
  set_up = λ is. refl;
  handed = λ is. omega arith;
}

zero-at : (n j : ℕ) → 0 ≡ slice_index (replicate n 0) j
zero-at zero j = refl
zero-at (suc n) zero = refl
zero-at (suc n) (suc j) = zero-at n j

object-at : (k : ℕ) (x : Object) → slice_get stored_scrub.objects k ≡ Some x → object_of (profiled six 1) 1 ≡ x
object-at zero x is = (let e : Some (object_of (profiled six 1) 1) ≡ Some x = is in cc)
object-at (suc k) x is = absurd (let e : None ≡ Some x = is in cc)

scrub-is : ScrubIs stored_scrub (setup_in stored_open) (new_scrub stored_open 0)
unfolding setup_in
scrub-is = record {
  few = omega arith;
  objects_are = λ k x is. subst (λ (y : Object). object_of (profiled six
      (pinned_profile 1 (new_scrub stored_open 0).files y.id)) y.id ≡ y) (object-at k x is) refl;
  todo_is = refl;
  in_work = tt;
  stripes_are = refl;
  symbols_are = λ j below. zero-at 16 j;
  blocks_are = λ j below. zero-at 16 j;
  long_symbols = refl;
  long_blocks = refl;
}

-- the scrub begins
pub scrub-begins : Happens 8 0 stored_open BeginScrub (Begun 1) scrubbed_state
scrub-begins = hold_begins stored_open 0 8 refl refl

-- it runs alone behind its begin
pub scrub-stands : ScrubStands stored_scrub stored_devices.providers scrubbed_state (new_scrub stored_open 0)
scrub-stands = held_stands stored_open 0 stored_scrub stored_devices.providers
    (record { count = refl; each = each-at stored_devices.providers }) scrub-is

-- a client that has begun it stands for that state
pub scrubbing-stands : (c : Client) (v : Vault) → c.vault ≡ Some v →
    c.alone ≡ Some (alone.Scrub (record { number = 1; scrub = stored_scrub })) →
    StandsBeside v stored_devices (record stored_open { next_job = 2 }) 1 →
    ClientStands c stored_devices scrubbed_state
scrubbing-stands c v is some S = stands-of c (Some v)
    (Some (alone.Scrub (record { number = 1; scrub = stored_scrub }))) c.next_job is some refl stored_devices
    scrubbed_state (record {
      scrub = new_scrub stored_open 0;
      number_is = refl;
      beside = S;
      stands = scrub-stands;
      sound = events-sound 8 0 stored_open (rest-sound 8 stored_open open-rests) (omega arith, omega arith)
          BeginScrub (Begun 1) scrubbed_state tt scrub-begins;
    })

-- ---- a pack

raised-rests : IsAtRest raised_open
unfolding setup_in
raised-rests = record {
  idle = (refl, refl, refl, refl);
  undoubted = refl;
  unswitched = refl;
  journal = journal-whole raised_open refl (λ none. refl) (refl, (refl, tt)) refl;
  accepted = (refl, (refl, tt));
  in_grammar = refl;
  room = omega arith;
  files = λ name file is. absurd (let e : None ≡ Some file = is in cc);
  set_up = λ is. refl;
  handed = λ is. omega arith;
}

raised-stands : StandsActive (text raised_records) A raised_records
raised-stands = text-active raised_records refl

-- the pack begins
pub pack-begins : Happens 8 0 raised_open BeginPack (Begun 1) packing_state
pack-begins = (refl, refl, refl, refl)

pub packing-sound : IsSound 8 packing_state
packing-sound = events-sound 8 0 raised_open (rest-sound 8 raised_open raised-rests) (omega arith, omega arith)
    BeginPack (Begun 1) packing_state tt pack-begins

-- the devices are those of the state behind its begin
pub packing-devices : AreDevices raised_devices packing_state
packing-devices = record {
  images = bytes-shown (text raised_records) packing_state (inl (inl raised-stands));
  faults = refl;
  providers = record { count = refl; each = each-at raised_devices.providers };
}

-- the disk is as it is before the first move
raised-firm : StandsFirm A raised_records (firm (text raised_records))
raised-firm = read-firm (text raised_records) A raised_records raised-stands

-- a client that has begun it stands for that state
pub packing-stands : (c : Client) (v : Vault) (job : PackJob) → c.vault ≡ Some v → c.alone ≡ Some (alone.Pack job) →
    pack_number job ≡ 1 → job.before ≡ text_length A raised_records → moves_of job.pack ≡ 0 →
    IsPackOf v job → WritesText B (packed raised_records) job.pack →
    StandsBeside v (devices None 0 raised_devices.providers) (record raised_open { next_job = 2 }) 1 →
    ClientStands c raised_devices packing_state
packing-stands c v job is some number before moves is_of writes S = stands-of c (Some v)
    (Some (alone.Pack job)) c.next_job is some refl raised_devices packing_state (record {
      pack = new_pack raised_open;
      alone = refl;
      number_is = number;
      before_is = before;
      moves_are = moves;
      is_of = is_of;
      sound = packing-sound;
      devices = packing-devices;
      beside = subst
          (StandsBeside v (devices None 0 raised_devices.providers) (record raised_open { next_job = 2 }))
          (sym number) S;
      on_way = λ going. record {
        writes = writes;
        in_grammar = refl;
        apart = omega arith;
        disk = subst (λ (n : ℕ). IsAfterPack n A raised_records (packed raised_records)
            (firm (text raised_records))) (sym moves) raised-firm;
      };
      switching = λ e. absurd (let f : 0 ≡ 3 = sym moves ∙ e in omega (arith, f));
      made = λ e. absurd (let f : 0 ≡ 4 = sym moves ∙ e in omega (arith, f));
    })
