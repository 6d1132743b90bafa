-- How a server of the requests in a source ends.
--
--   most_bytes                     == how many bytes of requests are served at most
--   End                            == what it says at its end
--   EndsWith end rs read rest left == the requests were answered, of the bytes read the rest was not, and
--                                     this is left: when each end comes
--   WritesReplies end was now as   == what the sink has then: all answers, and at a fault of the sink a part
--                                     of the last
--   HasServed end ..               == all of this, with what is seen of the provider before and after
--   IsOfBytes end                  == an end that the bytes alone decide: no fault of source or sink, and no
--                                     want of memory
--   EndsOf bytes end rs            == such an end of a server of all these bytes, and the requests that it
--                                     answers
use Rattle.std.specs.Prelude.{◌≡◌, ◌≢◌, ◌⊎◌, ℕ, ◌+◌, ◌-◌, ◌^◌, ◌<◌, ◌≤◌, true, false, List, [], ◌∷◌, ◌++◌, length, take, IfSome, IsTrue, Option}
use Rattle.std.specs.List.{list_all}
use Rattle.device_defs.specs.Told.{told_then, then_told, TakesFront}
use Rattle.device_defs.specs.Providers.{Provider}
use Rattle.wire_defs.specs.Requests.{Request, is_request, requests_text, AreFrames, SpellsNoRequest, is_bad_request}
use Rattle.wire_defs.specs.Replies.{Reply, Serves, reply_bytes, replies_text}

-- how many bytes of requests are served at most
abbrev pub most_bytes : ℕ
most_bytes = 2 ^ 24

-- what a server says at its end
pub data End : Type 0 where
  Finished : End
  BadAt : (at : ℕ) → End
  TooMany : End
  SourceFailed : End
  SinkFailed : End
  OutOfMemory : End

-- nothing is left
abbrev pub IsAtEnd : Option (List ℕ) → Type 0
IsAtEnd left = IfSome left (λ xs. xs ≡ [])

-- The bytes behind the whole requests begin none: they are bad by themselves, as far as they lie within the
-- limit, or the source ends inside.
pub record BreaksAt (at : ℕ) (rs : List Request) (read rest : List ℕ) (left : Option (List ℕ)) : Type 0 where
  pub place : at ≡ length (requests_text rs)
  pub cause : (is_bad_request (take (most_bytes - at) rest) ≡ true)
      ⊎ (IsAtEnd left × (rest ≢ []) × SpellsNoRequest rest × (length read ≤ most_bytes))

-- the source gave more than the limit, and what lies within it ends inside a request that is not bad by
-- itself
pub record Exceeds (rs : List Request) (read rest : List ℕ) : Type 0 where
  pub more : most_bytes < length read
  pub within : length (requests_text rs) ≤ most_bytes
  pub none : SpellsNoRequest (take (most_bytes - length (requests_text rs)) rest)
  pub not_bad : is_bad_request (take (most_bytes - length (requests_text rs)) rest) ≡ false

-- when each end comes
abbrev pub EndsWith : End → List Request → List ℕ → List ℕ → Option (List ℕ) → Type 0
EndsWith Finished rs read rest left = IsAtEnd left × (rest ≡ []) × (length read ≤ most_bytes)
EndsWith (BadAt at) rs read rest left = BreaksAt at rs read rest left
EndsWith TooMany rs read rest left = Exceeds rs read rest
EndsWith SourceFailed rs read rest left =
    SpellsNoRequest rest × (is_bad_request rest ≡ false) × (length read ≤ most_bytes)
EndsWith SinkFailed rs read rest left = rs ≢ []
EndsWith OutOfMemory rs read rest left = (read ≡ []) ⊎ (rs ≢ [])

-- all answers were written but for the last, of which some front was
abbrev pub WritesPart : Option (List ℕ) → Option (List ℕ) → List Reply → Type 0
WritesPart was now [] = now ≡ was
WritesPart was now (a ∷ as_) = TakesFront (told_then was (replies_text as_)) now (reply_bytes a)

-- what the sink has at the end
abbrev pub WritesReplies : End → Option (List ℕ) → Option (List ℕ) → List Reply → Type 0
WritesReplies SinkFailed was now as_ = WritesPart was now as_
WritesReplies OutOfMemory was now as_ = WritesPart was now as_
WritesReplies end was now as_ = now ≡ told_then was (replies_text as_)

-- bytes that are whole requests were answered in their order, and the answers written
pub record ServesAll (bytes : List ℕ) (old new : Provider) (was now : Option (List ℕ)) : Type 0 where
  pub requests : List Request
  pub replies : List Reply
  pub frames : AreFrames bytes requests
  pub served : Serves requests old replies new
  pub written : now ≡ told_then was (replies_text replies)

-- the same, but of the last answer only some front was written
pub record ServesPart (bytes : List ℕ) (old new : Provider) (was now : Option (List ℕ)) : Type 0 where
  pub requests : List Request
  pub replies : List Reply
  pub some : requests ≢ []
  pub frames : AreFrames bytes requests
  pub served : Serves requests old replies new
  pub written : WritesPart was now replies

-- What a server did until its end: it read some bytes of the source, answered the whole requests at their
-- front in their order, and wrote the answers.
pub record HasServed (end : End) (had left : Option (List ℕ)) (old new : Provider)
    (was now : Option (List ℕ)) : Type 0 where
  pub requests : List Request
  pub replies : List Reply
  pub read : List ℕ
  pub front : List ℕ
  pub rest : List ℕ
  pub taken : had ≡ then_told read left
  pub few : length read ≤ most_bytes + 1
  pub parts : read ≡ front ++ rest
  pub frames : AreFrames front requests
  pub served : Serves requests old replies new
  pub written : WritesReplies end was now replies
  pub ends : EndsWith end requests read rest left

-- an end that the bytes alone decide
abbrev pub IsOfBytes : End → Type 0
IsOfBytes Finished = Unit {0}
IsOfBytes (BadAt at) = Unit {0}
IsOfBytes TooMany = Unit {0}
IsOfBytes SourceFailed = ⊥
IsOfBytes SinkFailed = ⊥
IsOfBytes OutOfMemory = ⊥

-- what stands behind whole requests, as far as it lies within the limit
abbrev pub within_limit : List Request → List ℕ → List ℕ
within_limit rs rest = take (most_bytes - length (requests_text rs)) rest

-- The bytes behind whole requests begin none: they are bad by themselves, as far as they lie within the
-- limit, or all bytes end inside a request.
abbrev pub BreaksOff : List Request → List ℕ → List ℕ → Type 0
BreaksOff rs rest bytes =
    (is_bad_request (within_limit rs rest) ≡ true)
    ⊎ ((rest ≢ []) × SpellsNoRequest rest × (length bytes ≤ most_bytes))

-- there are more bytes than the limit, and what lies within it ends inside a request that is not bad by
-- itself
pub record RunsOver (rs : List Request) (rest bytes : List ℕ) : Type 0 where
  pub more : most_bytes < length bytes
  pub within : length (requests_text rs) ≤ most_bytes
  pub none : SpellsNoRequest (within_limit rs rest)
  pub not_bad : is_bad_request (within_limit rs rest) ≡ false

-- how a server ends whose bytes are these whole requests and a rest
abbrev pub EndsBehind : End → List Request → List ℕ → List ℕ → Type 0
EndsBehind Finished rs rest bytes = (rest ≡ []) × (length bytes ≤ most_bytes)
EndsBehind (BadAt at) rs rest bytes = (at ≡ length (requests_text rs)) × BreaksOff rs rest bytes
EndsBehind TooMany rs rest bytes = RunsOver rs rest bytes
EndsBehind SourceFailed rs rest bytes = ⊥
EndsBehind SinkFailed rs rest bytes = ⊥
EndsBehind OutOfMemory rs rest bytes = ⊥

-- a server of all these bytes answers these requests and ends so
pub record EndsOf (bytes : List ℕ) (end : End) (rs : List Request) : Type 0 where
  pub rest : List ℕ
  pub are_requests : IsTrue (list_all is_request rs)
  pub parts : bytes ≡ requests_text rs ++ rest
  pub ends : EndsBehind end rs rest bytes
