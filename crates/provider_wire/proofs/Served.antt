-- What a server has done with the requests that came so far.
use Rattle.provider_wire.proofs.Words.{◌≡◌, ℕ, ◌+◌, ◌-◌, ◌<◌, ◌≤◌, List, [], ◌∷◌, ◌++◌, length, take, drop, false, refl, sym, ap, subst, ◌∙◌, append_assoc, arith, length-drop, length-take, IfErr, IsErr, take_rest, list_all, take-add, and_from, told_then, then_told, TakesFront, Provider, told_then-nothing, Request, is_request, is_bad_request, SpellsRequest, AreFrames, AnswersIn, reply_bytes, replies_text, ServesAll, ServesPart, told_then-append}
use Rattle.std.proofs.Common.{Option, Some, None}
use Rattle.std.specs.Prelude.{IfOk, Result, Ok, Err}

-- writing nothing leaves what a sink tells
pub nothing_told : (told : Option (List ℕ)) → told ≡ then_told [] told
nothing_told None = refl
nothing_told (Some bs) = refl

-- two texts written one after the other are one text written
pub then_told-append : (told : Option (List ℕ)) (xs ys : List ℕ) →
    then_told xs (then_told ys told) ≡ then_told (xs ++ ys) told
then_told-append None xs ys = refl
then_told-append (Some bs) xs ys = ap (λ (l : List ℕ). Some l) (sym (append_assoc xs ys bs))

-- before the first request
pub serves_none : (p : Provider) (w : Option (List ℕ)) → ServesAll [] p p w w
serves_none p w = record {
  requests = [];
  replies = [];
  frames = record { are_requests = refl; bytes_are = refl };
  served = refl;
  written = told_then-nothing w;
}

module _ (bytes : List ℕ) (at size : ℕ) (r : Request) (old mid new : Provider)
    (was then_ now : Option (List ℕ)) (piece : List ℕ)
    (so_far : ServesAll (take at bytes) old mid was then_) (s : SpellsRequest (take size (drop at bytes)) r)
    (a : AnswersIn r mid piece new) where
  frames_more : AreFrames (take (at + size) bytes) (r ∷ so_far.requests)
  frames_more = record {
    are_requests = and_from (is_request r) (list_all is_request so_far.requests) s.is_request
        so_far.frames.are_requests;
    bytes_are = take-add at size bytes ∙ (λ i. so_far.frames.bytes_are i ++ s.bytes_are i);
  }

  -- one request more is answered
  pub serves_more : now ≡ told_then then_ piece → ServesAll (take (at + size) bytes) old new was now
  serves_more wrote = record {
    requests = r ∷ so_far.requests;
    replies = a.0 ∷ so_far.replies;
    frames = frames_more;
    served = (mid, so_far.served, a.1);
    written = wrote ∙ (λ i. told_then (so_far.written i) (a.2 i))
        ∙ told_then-append was (replies_text so_far.replies) (reply_bytes a.0);
  }

  -- one request more, whose answer was not written whole
  pub serves_part : TakesFront then_ now piece → ServesPart (take (at + size) bytes) old new was now
  serves_part front = record {
    requests = r ∷ so_far.requests;
    replies = a.0 ∷ so_far.replies;
    some = λ e. (cc e);
    frames = frames_more;
    served = (mid, so_far.served, a.1);
    written = rw so_far.written at (subst (λ (l : List ℕ). TakesFront then_ now l) a.2 front);
  }

-- what is told of any fault
pub if_err : {A E : Type 0} (r : Result A E) (P : Type 0) → P → IfErr r (λ _. P)
if_err (Ok x) P p = tt
if_err (Err e) P p = p

-- what is told of any value, where there is none
pub no_value : {A E : Type 0} (r : Result A E) (P : A → Type 0) → IsErr r → IfOk r P
no_value (Ok x) P is = absurd cc
no_value (Err e) P is = tt

-- the end of a request is within the bytes
pub within_rest : (bytes : List ℕ) (at size : ℕ) → at ≤ length bytes
    → size ≤ length (take (length bytes - at) (drop at bytes)) → at + size ≤ length bytes
within_rest bytes at size within fits =
    omega (arith, fits, length-take (length bytes - at) (drop at bytes), length-drop at bytes)

-- behind a request fewer bytes are left
pub nearer : (bytes : List ℕ) (at size : ℕ) → size ≤ length (take (length bytes - at) (drop at bytes)) →
    0 < size → length bytes - (at + size) < length bytes - at
nearer bytes at size fits some =
    omega (arith, fits, some, length-take (length bytes - at) (drop at bytes), length-drop at bytes)

-- where no request stands and none is bad, few bytes are left
pub short_rest : (bytes : List ℕ) (at : ℕ) →
    (is_bad_request (take (length bytes - at) (drop at bytes)) ≡ false
    → length (take (length bytes - at) (drop at bytes)) < 2062)
    → is_bad_request (drop at bytes) ≡ false → length bytes - at < 2062
short_rest bytes at short fine =
    let small = short (ap is_bad_request (take_rest bytes at) ∙ fine) in
    omega (arith, small, length-take (length bytes - at) (drop at bytes), length-drop at bytes)
