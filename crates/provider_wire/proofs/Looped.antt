-- What a link to a provider in the same program tells.
use Rattle.provider_wire.proofs.Words.{◌≡◌, ℕ, ◌<◌, List, [], ◌∷◌, length, is_some, sym, ap, ◌∙◌, arith, option_map, append-nil, is_some-option_map, Goes, Held, Provider, LosesPart, is_some-goes, Request, Store, Fetch, Ask, Remove, SpellsRequest, request_bytes, Reply, Done, Found, Missing, Failed, NoMemory, AnswersRequest, AnswersIn, Behind, Sends}
use Rattle.std.proofs.Common.{Option, Some, None}
use Rattle.provider_wire.proofs.Takes.{one_front}

-- a provider that tells what it holds goes on to tell it, and one that does not never begins to
pub still_told : (r : Request) (a : Reply) (old new : Provider) → AnswersRequest r old a new →
    is_some new.held ≡ is_some old.held
still_told (Store o s block) Done old new is = ap is_some is.held ∙ is_some-option_map _ old.held
still_told (Store o s block) Failed old new is = ap is_some is.held
still_told (Store o s block) NoMemory old new is = ap is_some is.held
still_told (Store o s block) (Found symbols) old new is = absurd is
still_told (Store o s block) Missing old new is = absurd is
still_told (Fetch o s size) (Found block) old new is = ap is_some is.held
still_told (Fetch o s size) Missing old new is = ap is_some is.held
still_told (Fetch o s size) Failed old new is = ap is_some is.held
still_told (Fetch o s size) Done old new is = absurd is
still_told (Fetch o s size) NoMemory old new is = absurd is
still_told (Ask o c) (Found []) old new is = absurd is
still_told (Ask o c) (Found (x ∷ [])) old new is = ap is_some is.held
still_told (Ask o c) (Found (x ∷ y ∷ more)) old new is = absurd is
still_told (Ask o c) Missing old new is = ap is_some is.held
still_told (Ask o c) Failed old new is = ap is_some is.held
still_told (Ask o c) Done old new is = absurd is
still_told (Ask o c) NoMemory old new is = absurd is
still_told (Remove o) Done old new is = ap is_some is.held ∙ is_some-option_map _ old.held
still_told (Remove o) Failed old new is = is_some-goes (LosesPart o) old.held new.held is.held
still_told (Remove o) (Found symbols) old new is = absurd is
still_told (Remove o) Missing old new is = absurd is
still_told (Remove o) NoMemory old new is = absurd is

-- bytes are the spelling of one request
pub same_request : (bytes : List ℕ) (r q : Request) → SpellsRequest bytes r → SpellsRequest bytes q → r ≡ q
same_request bytes r q a b =
    (one_front r q [] [] a.is_request b.is_request (append-nil (request_bytes r) ∙ sym a.bytes_are
    ∙ b.bytes_are ∙ sym (append-nil (request_bytes q)))).0

abbrev told : ℕ → ℕ → ℕ → List ℕ → Option Held → Option Behind
told stores others fetches due held = option_map (λ blocks. record {
  held = blocks;
  store_faults = stores;
  other_faults = others;
  fetches = fetches;
  due = due;
}) held

abbrev seen : Option Held → ℕ → ℕ → ℕ → Provider
seen held stores others fetches =
    record { held = held; store_faults = stores; other_faults = others; fetches = fetches }

-- a send while bytes are due
pub sent_busy : (held : Option Held) (s o f : ℕ) (due bytes : List ℕ) → 0 < length due →
    Goes (Sends bytes) (told s o f due held) (told s o f due held)
sent_busy None s o f due bytes some = tt
sent_busy (Some h) s o f due bytes some = λ r is e. absurd (omega (arith, ap length e, some))

-- a send of a request
pub sent_whole : (old new : Option Held) (s o f s' o' f' : ℕ) (due bytes answer : List ℕ) (r : Request) →
    SpellsRequest bytes r → AnswersIn r (seen old s o f) answer (seen new s' o' f')
    → Goes (Sends bytes) (told s o f due old) (told s' o' f' answer new)
sent_whole None None s o f s' o' f' due bytes answer r spelled is = tt
sent_whole None (Some h) s o f s' o' f' due bytes answer r spelled is =
    absurd (let e = still_told r is.0 _ _ is.1 in cc e)
sent_whole (Some h) None s o f s' o' f' due bytes answer r spelled is =
    absurd (let e = still_told r is.0 _ _ is.1 in cc e)
sent_whole (Some h) (Some k) s o f s' o' f' due bytes answer r spelled is =
    λ q other e. (rw (same_request bytes r q spelled other) at is)
