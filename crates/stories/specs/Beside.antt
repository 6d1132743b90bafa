-- Gets beside puts of the same name, over a replay. Commands and moments have the newest first.
--
--   IsBeside front behind own start base old new end p name bytes other
--                              == a put of the bytes, and behind it commands whose puts of the name are of the
--                                 other bytes: each get of the name among their moments that ended with bytes
--                                 gave the ones or the others, whole, or the report holds a forgery against
--                                 them; while none of them drops the name it has a file
--   GivesOldOrNew start base new end g name bytes other how named
--                              == a get that ended among the moments of a replay gave the ones or the others, or the
--                                 report holds a forgery; where each list names few, whole, or it is lost by calls of
--                                 providers that failed
--   IsOldOrNew start ms end g name bytes other got
--                              == what a get gave that began behind these moments
use Rattle.std.specs.Prelude.{◌≡◌, ◌⊎◌, ℕ, List, [], ◌∷◌, ◌++◌, Option, Some}
use Rattle.effect_laws.specs.Puts.{HasFile}
use Rattle.effect_laws.specs.Transcripts.{NoneDrops}
use Rattle.epoch_laws.specs.Told.{AreFew}
use Rattle.stories.specs.Words.{told_then, File, Answer, Put, Got, Begun, Ended, HoldsForgery, Moment, now, State, file_in, file_object, Instruction, CarriesOut, GetEnds, IsLostByFaults, Seen, Ending, devices_of_seen, AreLeft}
use Rattle.stories.specs.Files.{PutsFile}

-- a get gave the ones or the others, or the report holds a forgery against them
abbrev pub IsOldOrNew : State → List Moment → Ending → ℕ → List ℕ → List ℕ → List ℕ → List ℕ → Type 0
IsOldOrNew start ms end g name bytes other got = (got ≡ bytes) ⊎ (got ≡ other)
    ⊎ ((own : List ℕ) × ((own ≡ bytes) ⊎ (own ≡ other))
    × (file : File) × (file_in (now start ms) name ≡ Some file)
    × HoldsForgery (file_object (now start ms) file) own g end.heard)

-- a put, and behind it gets beside puts of other bytes
pub record IsBeside (front behind : List Instruction) (own : Option ℕ) (start : State) (base : List Moment)
    (old new : Seen) (end : Ending) (p : ℕ) (name bytes other : List ℕ) : Type 0 where
  pub later : List Moment
  pub older : List Moment
  pub lines : List ℕ
  pub more : List ℕ
  pub put : PutsFile front [] own older base lines p name bytes
  pub carried : CarriesOut behind later more
  pub left : AreLeft start (later ++ (older ++ base)) (devices_of_seen new)
  pub written : new.sink ≡ told_then old.sink (lines ++ more)
  pub right : put.begin.outcome ≡ Begun p → put.end.outcome ≡ Ended Put
      → (g : ℕ) (got : List ℕ) (after gaps ahead : List Moment) (begin last : Moment)
      → later ≡ after ++ last ∷ (gaps ++ begin ∷ ahead) → GetEnds begin gaps last g name (Got got)
      → IsOldOrNew start (ahead ++ (older ++ base)) end g name bytes other got
  pub there : put.begin.outcome ≡ Begun p → put.end.outcome ≡ Ended Put → NoneDrops name behind
      → HasFile (now start (later ++ (older ++ base))) name

-- a get among the moments of a replay, behind puts of the ones and of the others
pub record GivesOldOrNew (start : State) (base : List Moment) (new : Seen) (end : Ending) (g : ℕ)
    (name bytes other : List ℕ) (how : Answer) (named : List (List ℕ)) : Type 0 where
  pub after : List Moment
  pub last : Moment
  pub gaps : List Moment
  pub begin : Moment
  pub before : List Moment
  pub left : AreLeft start (after ++ last ∷ (gaps ++ begin ∷ (before ++ base))) (devices_of_seen new)
  pub ends : GetEnds begin gaps last g name how
  pub right : (got : List ℕ) → how ≡ Got got → IsOldOrNew start (before ++ base) end g name bytes other got
  pub gives : AreFew named (now start (after ++ last ∷ (gaps ++ begin ∷ (before ++ base))))
      → (how ≡ Got bytes) ⊎ (how ≡ Got other) ⊎ IsLostByFaults (now start (before ++ base)) last.state how
