-- Commands as pieces of one run of the machine. Moments and calls have the newest first.
--
--   IsStore w s                      == a sound state stands for what is seen of disk and providers; its
--                                       store may be set up, or not, or a setup may be in doubt
--   IsSpelledCommand command         == the name in the command's words is of bytes, and a profile is one
--   begin_of kind own                == the begin of a job; of a put also with a profile of its own
--   unopened_status why              == the status that tells why no vault was opened
--   IsCall command old new end w own == these moments are what the machine makes of a command: a later call
--                                       of the program, a reopening, and where that opened, the begin of its
--                                       job, of a scrub or of a pack with its steps, or a list of names; from
--                                       this state on. A put that was given up makes some steps of its job
--                                       and no end
--   AreReplaced events old new       == these events replaced what providers hold
--   IsLater new next                 == the next command finds the disk as the last one left it, or as a stop
--                                       then left it, and what providers hold as such events left it
--   AreBetween own                   == these moments are stops and replacements
--   Call, IsChain first calls        == commands one after the other, with stops and replacements between
--                                       them
--   last_seen first calls            == what is seen after them
--   AreCalls w calls own             == the moments are those of the calls, with stops and replacements
--                                       before each
use Rattle.std.specs.Prelude.{◌≡◌, ◌⊎◌, ℕ, ◌<◌, Bool, true, IsTrue, List, [], ◌∷◌, ◌++◌, length, slice_get, slice_set, Option, Some, IsSome, is_some}
use Rattle.device_defs.specs.Disks.{Stopped}
use Rattle.device_defs.specs.Providers.{Provider, with_symbol, without_block, HasPlace}
use Rattle.device_defs.specs.ProviderCalls.{Replaces}
use Rattle.device_defs.specs.Told.{Goes}
use Rattle.machine_defs.specs.Answers.{Answer, Put}
use Rattle.machine_defs.specs.Events.{Event, Begin, BeginAt, BeginScrub, BeginPack, Step, Alter, Lose, Stop, Reopen, Names, Continue, Outcome, Refused, Opened, Begun, Ended, Listed, Continued, IsSpelled, AreBytes}
use Rattle.machine_defs.specs.Heard.{heard_by}
use Rattle.machine_defs.specs.Jobs.{Kind, PutJob, job_of}
use Rattle.machine_defs.specs.Refusals as refusal
use Rattle.machine_defs.specs.Refusals.{Refusal}
use Rattle.machine_defs.specs.Runs.{Moment, now}
use Rattle.machine_defs.specs.Stands.{StandsForState}
use Rattle.machine_defs.specs.States.{State, setup_in}
use Rattle.machine_defs.specs.Transcripts.{GoOn}
use Rattle.record_defs.specs.Table.{files_of}
use Rattle.state_laws.specs.Sound.{IsSound}
use Rattle.command_defs.specs.Forms.{Command, PutUnder, PutAt, GetOf, DropOf, ListAll, ScrubAll, PackJournal}
use Rattle.command_defs.specs.Seen.{Seen, Ending, NoCountFalls, sinking}
use Rattle.command_defs.specs.Sinking.{WritesLine}
use Rattle.opening_defs.specs.Opened.{AreHanded}
use Rattle.command_defs.specs.Jobs.{EndsByAnswer}
use Rattle.command_defs.specs.Lines.{text_of, list_lines, scrub_text, pack_text}
use Rattle.code_defs.specs.Profiles.{is_unknown}
use Rattle.command_defs.specs.Refusals.{status_of}
use Rattle.command_defs.specs.Commands.{Answers}
use Rattle.command_laws.specs.Ends.{profile_named, RunsKind, ReadsWhole, opens_store}

-- a sound state stands for what is seen: each image of the disk for its records, or for these with the one
-- in doubt, or it is too short for any where there are none; and the providers are its own
pub record IsStore (w : State) (s : Seen) : Type 0 where
  pub sound : IsSound 8 w
  pub tells : is_some s.disk ≡ true
  pub images : StandsForState s.disk w
  pub faults_are : w.disk_faults ≡ s.disk_faults
  pub handed : AreHanded s.providers w

-- the name in the words is of bytes, and a profile is one
abbrev pub IsSpelledCommand : Command → Type 0
IsSpelledCommand (PutUnder name) = AreBytes name
IsSpelledCommand (PutAt name profile) = AreBytes name × (profile < 256)
IsSpelledCommand (GetOf name) = AreBytes name
IsSpelledCommand (DropOf name) = AreBytes name
IsSpelledCommand command = Unit {0}

-- the begin of a job, of a put also with a profile of its own
abbrev pub begin_of : Kind → Option ℕ → Event
begin_of (PutJob name bytes) (Some profile) = BeginAt profile name bytes
begin_of kind own = Begin kind

-- a moment
abbrev pub moment : Event → Outcome → State → Moment
moment event outcome w = record { event = event; outcome = outcome; state = w }

-- the status that tells why no vault was opened
abbrev pub unopened_status : Refusal → ℕ
unopened_status refusal.NotSetUp = 9
unopened_status refusal.DiskFault = 12
unopened_status refusal.TooFewProviders = 22
unopened_status why = 70

-- what the machine makes of a command from this state on: its store is not opened, for the reason that the
-- status tells; it is opened, and no more came of it, also where a put names a profile that there is none of;
-- the begin of its job, or of a pack, is refused; the names are listed, and the files in effect written; its
-- job, or a scrub, or a pack, began and went on to its end, and a put that is stored is one of its whole
-- source; or a put began, went on, and was given up
pub data IsCall (command : Command) (old new : Seen) (end : Ending) (w : State)
    (own : List Moment) : Type 0 where
  unopened : (a b : State) (why : Refusal)
      → own ≡ moment Reopen (Refused why) b ∷ moment Continue Continued a ∷ []
      → end.status ≡ unopened_status why → end.heard ≡ [] → IsCall command old new end w own
  opened : (a b : State) → own ≡ moment Reopen Opened b ∷ moment Continue Continued a ∷ []
      → (end.status ≡ 14) ⊎ (end.status ≡ 70) → end.heard ≡ [] →
      IsCall command old new end w own
  bad_profile : (a b : State) → own ≡ moment Reopen Opened b ∷ moment Continue Continued a ∷ []
      → IsTrue (is_unknown (profile_named command)) → end.status ≡ 20 → end.heard ≡ []
      → IsCall command old new end w own
  refused : (kind : Kind) (a b c : State) (why : Refusal) → RunsKind command old new kind →
      own ≡ moment (begin_of kind (profile_named command)) (Refused why) c ∷ moment Reopen Opened b
      ∷ moment Continue Continued a ∷ [] →
      end.status ≡ status_of why → end.heard ≡ [] → IsCall command old new end w own
  listed : (a b c : State) → command ≡ ListAll →
      own ≡ moment Names (Listed (files_of b.records)) c ∷ moment Reopen Opened b
      ∷ moment Continue Continued a ∷ [] →
      WritesLine (list_lines (files_of b.records)) end.status (sinking old new) → end.heard ≡ [] →
      IsCall command old new end w own
  ended : (kind : Kind) (a b c d : State) (steps : List Moment) (answer : Answer)
      → RunsKind command old new kind → (answer ≡ Put → ReadsWhole kind old new) → GoOn 1 steps →
      own ≡ moment (Step 1) (Ended answer) d
      ∷ (steps ++ moment (begin_of kind (profile_named command)) (Begun 1) c ∷ moment Reopen Opened b
      ∷ moment Continue Continued a ∷ []) →
      EndsByAnswer (text_of (setup_in b).tolerance kind answer) answer old new end
      → end.heard ≡ heard_by (job_of (now c steps).jobs 1) →
      IsCall command old new end w own
  given_up : (name bytes : List ℕ) (a b c : State) (steps : List Moment)
      → RunsKind command old new (PutJob name bytes) → GoOn 1 steps →
      own ≡ steps ++ moment (begin_of (PutJob name bytes) (profile_named command)) (Begun 1) c
      ∷ moment Reopen Opened b ∷ moment Continue Continued a ∷ [] →
      (end.status ≡ 14) ⊎ (end.status ≡ 16) → end.heard ≡ [] → IsCall command old new end w own
  scrubbed : (a b c d : State) (steps : List Moment) (answer : Answer) → command ≡ ScrubAll → GoOn 1 steps →
      own ≡ moment (Step 1) (Ended answer) d
      ∷ (steps ++ moment BeginScrub (Begun 1) c ∷ moment Reopen Opened b ∷ moment Continue Continued a ∷ []) →
      EndsByAnswer (scrub_text answer) answer old new end → end.heard ≡ [] → IsCall command old new end w own
  pack_refused : (a b c : State) (why : Refusal) → command ≡ PackJournal →
      own ≡ moment BeginPack (Refused why) c ∷ moment Reopen Opened b ∷ moment Continue Continued a ∷ [] →
      end.status ≡ status_of why → end.heard ≡ [] → IsCall command old new end w own
  packed : (a b c d : State) (steps : List Moment) (answer : Answer) → command ≡ PackJournal → GoOn 1 steps →
      own ≡ moment (Step 1) (Ended answer) d
      ∷ (steps ++ moment BeginPack (Begun 1) c ∷ moment Reopen Opened b ∷ moment Continue Continued a ∷ []) →
      EndsByAnswer (pack_text answer) answer old new end → end.heard ≡ [] → IsCall command old new end w own

-- provider j, which was handed in, goes so, and all others are as before
abbrev pub GoesAt : ℕ → (Provider → Provider → Type 0) → List Provider → List Provider → Type 0
GoesAt j call old new =
    (p : Provider) × (q : Provider) × (j < length old) × (slice_get old j ≡ Some p) × call p q
    × (new ≡ slice_set old j q)

-- an event replaced what a provider holds, or found nothing there
abbrev pub ReplacesHeld : Event → List Provider → List Provider → Type 0
ReplacesHeld (Alter j object stripe place symbol) old new =
    GoesAt j (λ p q. (found : Bool) × Replaces (λ held. HasPlace (held object stripe) place)
    (with_symbol object stripe place symbol) found p q) old new
ReplacesHeld (Lose j object stripe) old new =
    GoesAt j (λ p q. (found : Bool) × Replaces (λ held. IsSome (held object stripe))
    (without_block object stripe) found p q) old new
ReplacesHeld event old new = ⊥

-- these events did so, the first one first
abbrev pub AreReplaced : List Event → List Provider → List Provider → Type 0
AreReplaced [] old new = new ≡ old
AreReplaced (event ∷ events) old new =
    IsSpelled event × ((mid : List Provider) × ReplacesHeld event old mid × AreReplaced events mid new)

-- what the next command finds: the disk as it was left or as a stop then left it, and providers with some
-- replacements
pub record IsLater (new next : Seen) : Type 0 where
  pub disk : (next.disk ≡ new.disk) ⊎ Goes Stopped new.disk next.disk
  pub faults : next.disk_faults ≡ new.disk_faults
  pub events : List Event
  pub replaced : AreReplaced events new.providers next.providers

-- a stop, or a replacement of what a provider holds
abbrev pub MayComeBetween : Event → Type 0
MayComeBetween (Alter j object stripe place symbol) = Unit {0}
MayComeBetween (Lose j object stripe) = Unit {0}
MayComeBetween (Stop picks) = Unit {0}
MayComeBetween event = ⊥

-- moments are stops and replacements
abbrev pub AreBetween : List Moment → Type 0
AreBetween [] = Unit {0}
AreBetween (m ∷ ms) = MayComeBetween m.event × AreBetween ms

-- a call of the program: its words, what was seen before and after it, and how it ended
pub record Call : Type 0 where
  pub command : Command
  pub old : Seen
  pub new : Seen
  pub end : Ending

-- what is seen after some calls
abbrev pub last_seen : Seen → List Call → Seen
last_seen first [] = first
last_seen first (c ∷ cs) = c.new

-- a call over a store ended as its definition says, and no count of faults fell
pub record IsAnswered (c : Call) : Type 0 where
  pub opens : opens_store c.command ≡ true
  pub spelled : IsSpelledCommand c.command
  pub answers : Answers c.command c.old c.new c.end
  pub counts : NoCountFalls c.old c.new

-- calls one after the other, with stops and replacements between them
abbrev pub IsChain : Seen → List Call → Type 0
IsChain first [] = Unit {0}
IsChain first (c ∷ cs) = IsLater (last_seen first cs) c.old × IsAnswered c × IsChain first cs

-- moments are those of the calls, with stops and replacements before each
abbrev pub AreCalls : State → List Call → List Moment → Type 0
AreCalls w [] own = own ≡ []
AreCalls w (c ∷ cs) own =
    (call : List Moment) × (between : List Moment) × (before : List Moment)
    × (own ≡ call ++ (between ++ before))
    × IsCall c.command c.old c.new c.end (now w (between ++ before)) call × AreBetween between
    × AreCalls w cs before
