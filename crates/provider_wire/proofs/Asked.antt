-- The answer to a request over a link that tells what is behind it.
use Rattle.provider_wire.proofs.Words.{◌≡◌, ◌≢◌, ℕ, ◌*◌, Bool, true, false, List, [], ◌∷◌, length, refl, sym, ap, ◌∙◌, arith, ◌==◌, if◌then◌else◌, eqb-true, Goes, sized, length-bytes_of_symbols, Request, Store, Fetch, Ask, Remove, SpellsRequest, Reply, Done, Found, Missing, Failed, NoMemory, AnswersRequest, reply_bytes, Behind, Sends, provider_behind, AskedFor, answer_size, first_byte_of, tail_of}
use Rattle.std.proofs.Common.{Option, Some, None}

-- an answer is its first byte and the bytes behind it
pub parts_of : (a : Reply) → reply_bytes a ≡ first_byte_of a ∷ tail_of a
parts_of Done = refl
parts_of (Found symbols) = refl
parts_of Missing = refl
parts_of Failed = refl
parts_of NoMemory = refl

no_tail : (a : Reply) → first_byte_of a ≢ 1 → tail_of a ≡ []
no_tail (Found symbols) other = absurd (other refl)
no_tail _ other = refl

-- what a block of a wanted size gives has that many symbols
pub sized-length : (size : ℕ) (block : Option (List ℕ)) (symbols : List ℕ) → Some symbols ≡ sized size block →
    length symbols ≡ size
sized-length size None symbols e = absurd cc
sized-length size (Some b) symbols e = by_test (length b == size) refl e
  where
    by_test : (t : Bool) → (length b == size) ≡ t → Some symbols ≡ (if t then Some b else None) →
        length symbols ≡ size
    by_test true is same = ap length (let h : symbols ≡ b = cc in h) ∙ eqb-true (length b) size is
    by_test false is same = absurd cc

-- the bytes behind a 1 are those of the symbols asked for
pub tail_size : (r : Request) (a : Reply) (b new : Behind) →
    AnswersRequest r (provider_behind b) a (provider_behind new) → first_byte_of a ≡ 1 →
    length (tail_of a) ≡ answer_size r
tail_size (Store o s block) Done b new is one = refl
tail_size (Store o s block) (Found symbols) b new is one = absurd is
tail_size (Store o s block) Missing b new is one = absurd is
tail_size (Store o s block) Failed b new is one = absurd (omega (arith, one))
tail_size (Store o s block) NoMemory b new is one = absurd (omega (arith, one))
tail_size (Fetch o s size) (Found symbols) b new is one =
    length-bytes_of_symbols symbols ∙ ap (λ (n : ℕ). 16 * n) (sized-length size (b.held o s) symbols is.gives)
tail_size (Fetch o s size) Done b new is one = absurd is
tail_size (Fetch o s size) Missing b new is one = absurd (omega (arith, one))
tail_size (Fetch o s size) Failed b new is one = absurd (omega (arith, one))
tail_size (Fetch o s size) NoMemory b new is one = absurd is
tail_size (Ask o c) (Found []) b new is one = absurd is
tail_size (Ask o c) (Found (x ∷ [])) b new is one = refl
tail_size (Ask o c) (Found (x ∷ y ∷ more)) b new is one = absurd is
tail_size (Ask o c) Done b new is one = absurd is
tail_size (Ask o c) Missing b new is one = absurd (omega (arith, one))
tail_size (Ask o c) Failed b new is one = absurd (omega (arith, one))
tail_size (Ask o c) NoMemory b new is one = absurd is
tail_size (Remove o) Done b new is one = refl
tail_size (Remove o) (Found symbols) b new is one = absurd is
tail_size (Remove o) Missing b new is one = absurd is
tail_size (Remove o) Failed b new is one = absurd (omega (arith, one))
tail_size (Remove o) NoMemory b new is one = absurd is

-- a send that is told
sent_to : (bytes : List ℕ) (old now : Option Behind) (b : Behind) → Goes (Sends bytes) old now →
    old ≡ Some b → (mid : Behind) × (now ≡ Some mid) × Sends bytes b mid
sent_to bytes None now b g e = absurd cc
sent_to bytes (Some x) None b g e = absurd g
sent_to bytes (Some x) (Some m) b g e = (m, refl, (rw (let h : x ≡ b = cc in h) at g))

-- a request was sent, and its answer received
pub asked_for : (bytes tail : List ℕ) (old mid now : Option Behind) (result : Option ℕ) (size : ℕ) →
    Goes (Sends bytes) old mid
    → ((b : Behind) (kind : ℕ) (rest : List ℕ) → mid ≡ Some b → b.due ≡ kind ∷ rest →
    (kind ≡ 1 → length rest ≡ size) → (kind ≢ 1 → rest ≡ [])
    → (result ≡ Some kind) × (now ≡ Some (record b { due = [] })) × (kind ≡ 1 → tail ≡ rest))
    → (b : Behind) (r : Request) → old ≡ Some b → b.due ≡ [] → SpellsRequest bytes r → size ≡ answer_size r →
    AskedFor r result tail b now
asked_for bytes tail old mid now result size sent came b r e idle spelled size_is =
    let s = sent_to bytes old mid b sent e in
    let a = s.2 r spelled idle in
    let got = came s.0 (first_byte_of a.0) (tail_of a.0) s.1 (a.2 ∙ parts_of a.0)
    (λ one. tail_size r a.0 b s.0 a.1 one ∙ sym size_is) (no_tail a.0) in
    record {
      reply = a.0;
      new = record s.0 { due = [] };
      now_is = got.1;
      nothing_due = refl;
      answered = a.1;
      kind = got.0;
      symbols = got.2;
    }
