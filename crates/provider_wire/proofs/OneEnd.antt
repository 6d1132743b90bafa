-- Bytes are the text of one list of requests, up to where they begin none; and a server of them has one end.
use Rattle.provider_wire.proofs.Words.{◌≡◌, ◌≢◌, ◌⊎◌, inl, inr, ℕ, ◌+◌, ◌-◌, ◌<◌, ◌≤◌, true, false, List, [], ◌∷◌, ◌++◌, length, take, refl, sym, ap, subst, ◌∙◌, arith, append_assoc, length-append, list_all, take-append-add, cases_lt, and_from, and_parts, append-nil, take_all, take-append-le, Provider, then_told, Request, SpellsNoRequest, AreFrames, is_request, is_bad_request, request_bytes, requests_text, most_bytes, End, Finished, BadAt, TooMany, SourceFailed, SinkFailed, OutOfMemory, HasServed, IsAtEnd, IsOfBytes, EndsOf, within_limit}
use Rattle.std.proofs.Common.{Option, Some, None}
use Rattle.provider_wire.proofs.Takes.{one_front}
use Rattle.provider_wire.proofs.Progress.{nothing_spells}
use Rattle.provider_wire.proofs.BadBytes.{bad-grows, bad-none}

-- ---- one list of requests

-- the bytes of requests, the oldest first
abbrev forward : List Request → List ℕ
forward [] = []
forward (r ∷ rs) = request_bytes r ++ forward rs

-- requests put before others, the newest first, so that the oldest comes first
abbrev onto : List Request → List Request → List Request
onto [] others = others
onto (r ∷ rs) others = onto rs (r ∷ others)

onto-onto : (rs xs ys : List Request) → onto (onto rs xs) ys ≡ onto xs (rs ++ ys)
onto-onto [] xs ys = refl
onto-onto (r ∷ rs) xs ys = onto-onto rs (r ∷ xs) ys

turned_back : (rs : List Request) → onto (onto rs []) [] ≡ rs
turned_back rs = onto-onto rs [] [] ∙ append-nil rs

text-onto : (rs others : List Request) → requests_text rs ++ forward others ≡ forward (onto rs others)
text-onto [] others = refl
text-onto (r ∷ rs) others =
    append_assoc (requests_text rs) (request_bytes r) (forward others) ∙ text-onto rs (r ∷ others)

text-is : (rs : List Request) → requests_text rs ≡ forward (onto rs [])
text-is rs = sym (append-nil (requests_text rs)) ∙ text-onto rs []

all-onto : (rs others : List Request) → list_all is_request rs ≡ true → list_all is_request others ≡ true →
    list_all is_request (onto rs others) ≡ true
all-onto [] others a b = b
all-onto (r ∷ rs) others a b =
    all-onto rs (r ∷ others) ((and_parts (is_request r) (list_all is_request rs) a).1)
    (and_from (is_request r) (list_all is_request others)
    ((and_parts (is_request r) (list_all is_request rs) a).0) b)

one_parse : (rs ss : List Request) (x y : List ℕ) → list_all is_request rs ≡ true →
    list_all is_request ss ≡ true → forward rs ++ x ≡ forward ss ++ y → SpellsNoRequest x →
    SpellsNoRequest y → (rs ≡ ss) × (x ≡ y)
one_parse [] [] x y a b e p q = (refl, e)
one_parse [] (s ∷ ss) x y a b e p q = absurd (p s (request_bytes s) (forward ss ++ y)
    (record { is_request = (and_parts _ _ b).0; bytes_are = refl })
    (e ∙ append_assoc (request_bytes s) (forward ss) y))
one_parse (r ∷ rs) [] x y a b e p q = absurd (q r (request_bytes r) (forward rs ++ x)
    (record { is_request = (and_parts _ _ a).0; bytes_are = refl })
    (sym e ∙ append_assoc (request_bytes r) (forward rs) x))
one_parse (r ∷ rs) (s ∷ ss) x y a b e p q =
    let same = one_front r s (forward rs ++ x) (forward ss ++ y) ((and_parts _ _ a).0) ((and_parts _ _ b).0)
    (sym (append_assoc (request_bytes r) (forward rs) x) ∙ e
    ∙ append_assoc (request_bytes s) (forward ss) y) in
    let on = one_parse rs ss x y ((and_parts _ _ a).1) ((and_parts _ _ b).1) same.1 p q in
    ((λ i. same.0 i ∷ on.0 i), on.1)

-- bytes are one list of requests, and then what begins none
pub one_text : (rs ss : List Request) (x y : List ℕ) → list_all is_request rs ≡ true →
    list_all is_request ss ≡ true → requests_text rs ++ x ≡ requests_text ss ++ y → SpellsNoRequest x →
    SpellsNoRequest y → (rs ≡ ss) × (x ≡ y)
one_text rs ss x y a b e p q =
    let same = one_parse (onto rs []) (onto ss []) x y (all-onto rs [] a refl) (all-onto ss [] b refl)
    (ap (λ (l : List ℕ). l ++ x) (sym (text-is rs)) ∙ e ∙ ap (λ (l : List ℕ). l ++ y) (text-is ss)) p q in
    (sym (turned_back rs) ∙ ap (λ (q : List Request). onto q []) same.0 ∙ turned_back ss, same.1)

-- bytes are whole requests in one way
pub one_frames : (bytes : List ℕ) (rs ss : List Request) → AreFrames bytes rs → AreFrames bytes ss → rs ≡ ss
one_frames bytes rs ss a b = (one_text rs ss [] [] a.are_requests b.are_requests
    (append-nil (requests_text rs) ∙ sym a.bytes_are ∙ b.bytes_are
    ∙ sym (append-nil (requests_text ss))) nothing_spells nothing_spells).0

-- ---- one end

-- what an end says of that rest
abbrev Says : End → List Request → List ℕ → List ℕ → Type 0
Says Finished rs rest bytes = (rest ≡ []) × (length bytes ≤ most_bytes)
Says (BadAt at) rs rest bytes = (at ≡ length (requests_text rs)) ×
    ((is_bad_request rest ≡ true) ⊎ ((rest ≢ []) × (length bytes ≤ most_bytes)))
Says TooMany rs rest bytes = (is_bad_request rest ≡ false) × (most_bytes < length bytes)
Says SourceFailed rs rest bytes = ⊥
Says SinkFailed rs rest bytes = ⊥
Says OutOfMemory rs rest bytes = ⊥

-- within the limit the bytes are these requests, and then what begins none, of which the end says so much
record Within (bytes : List ℕ) (end : End) (rs : List Request) : Type 0 where
  rest : List ℕ
  parts : take most_bytes bytes ≡ requests_text rs ++ rest
  all : list_all is_request rs ≡ true
  none : SpellsNoRequest rest
  says : Says end rs rest bytes

take_within : (rs : List Request) (rest bytes : List ℕ) → length (requests_text rs) ≤ most_bytes →
    bytes ≡ requests_text rs ++ rest → take most_bytes bytes ≡ requests_text rs ++ within_limit rs rest
take_within rs rest bytes few parts =
    let n = most_bytes - length (requests_text rs) in
    let sum : most_bytes ≡ length (requests_text rs) + n = omega arith in
    ap (take most_bytes) parts ∙ ap (λ (k : ℕ). take k (requests_text rs ++ rest)) sum
    ∙ take-append-add (requests_text rs) rest n

bad_within : (rs : List Request) (rest : List ℕ) → is_bad_request (within_limit rs rest) ≡ true →
    length (requests_text rs) ≤ most_bytes
bad_within rs rest bad =
    elim (cases_lt most_bytes (length (requests_text rs))) [
      | inl more ↦ absurd (
          let none : most_bytes - length (requests_text rs) ≡ 0 = omega arith in
          let same : true ≡ false = sym bad ∙ ap (λ (k : ℕ). is_bad_request (take k rest)) none in cc
          )
      | inr less ↦ less
    ]

within : (bytes : List ℕ) (end : End) (rs : List Request) → EndsOf bytes end rs → Within bytes end rs
within bytes Finished rs x = record {
  rest = x.rest;
  parts = take_all most_bytes bytes x.ends.1 ∙ x.parts;
  all = x.are_requests;
  none = subst SpellsNoRequest (sym x.ends.0) nothing_spells;
  says = x.ends;
}
within bytes (BadAt at) rs x =
    elim x.ends.1 [
      | inl bad ↦ record {
        rest = within_limit rs x.rest;
        parts = take_within rs x.rest bytes (bad_within rs x.rest bad) x.parts;
        all = x.are_requests;
        none = bad-none (within_limit rs x.rest) bad;
        says = (x.ends.0, inl bad);
      }
      | inr cut_off ↦ record {
        rest = x.rest;
        parts = take_all most_bytes bytes cut_off.2 ∙ x.parts;
        all = x.are_requests;
        none = cut_off.1;
        says = (x.ends.0, inr (cut_off.0, cut_off.2));
      }
    ]
within bytes TooMany rs x = record {
  rest = within_limit rs x.rest;
  parts = take_within rs x.rest bytes x.ends.within x.parts;
  all = x.are_requests;
  none = x.ends.none;
  says = (x.ends.not_bad, x.ends.more);
}
within bytes _ rs x = absurd x.ends

not_bad_yet : (rest : List ℕ) → rest ≡ [] → is_bad_request rest ≡ true → ⊥
not_bad_yet rest none bad = let same : true ≡ false = sym bad ∙ ap is_bad_request none in absurd cc

same_end : (rs : List Request) (rest bytes : List ℕ) (e f : End) → Says e rs rest bytes →
    Says f rs rest bytes → e ≡ f
same_end rs rest bytes Finished Finished x y = refl
same_end rs rest bytes Finished (BadAt at) x y =
    elim y.1 [ inl bad ↦ absurd (not_bad_yet rest x.0 bad) | inr off ↦ absurd (off.0 x.0) ]
same_end rs rest bytes Finished TooMany x y = absurd (omega (arith, x.1, y.1))
same_end rs rest bytes (BadAt at) Finished x y =
    elim x.1 [ inl bad ↦ absurd (not_bad_yet rest y.0 bad) | inr off ↦ absurd (off.0 y.0) ]
same_end rs rest bytes (BadAt at) (BadAt other) x y = ap BadAt (x.0 ∙ sym y.0)
same_end rs rest bytes (BadAt at) TooMany x y =
    elim x.1 [ inl bad ↦ absurd (cc (sym bad ∙ y.0)) | inr off ↦ absurd (omega (arith, off.1, y.1)) ]
same_end rs rest bytes TooMany Finished x y = absurd (omega (arith, x.1, y.1))
same_end rs rest bytes TooMany (BadAt at) x y =
    elim y.1 [ inl bad ↦ absurd (cc (sym bad ∙ x.0)) | inr off ↦ absurd (omega (arith, off.1, x.1)) ]
same_end rs rest bytes TooMany TooMany x y = refl
same_end rs rest bytes SourceFailed f x y = absurd x
same_end rs rest bytes SinkFailed f x y = absurd x
same_end rs rest bytes OutOfMemory f x y = absurd x
same_end rs rest bytes _ _ x y = absurd y

-- bytes have one end and one list of requests
pub one_end : (bytes : List ℕ) (e f : End) (rs ss : List Request) → EndsOf bytes e rs → EndsOf bytes f ss →
    (e ≡ f) × (rs ≡ ss)
one_end bytes e f rs ss x y =
    let a = within bytes e rs x in
    let b = within bytes f ss y in
    let same = one_text rs ss a.rest b.rest a.all b.all
    (sym a.parts ∙ b.parts) a.none b.none in
    let moved : Says f rs b.rest bytes = subst (λ (q : List Request). Says f q b.rest bytes)
    (sym same.0) b.says in (
      same_end rs a.rest bytes e f a.says (subst (λ (l : List ℕ). Says f rs l bytes) (sym same.1) moved),
      same.0,
    )

-- ---- the end of a server, as an end of all bytes

-- more bytes of a front, and more behind it
grown_front : (n : ℕ) (xs ys : List ℕ) → (more : List ℕ) × (take n (xs ++ ys) ≡ take n xs ++ more)
grown_front n xs ys =
    elim (cases_lt (length xs) n) [
      | inl less ↦ (
          let k = n - length xs in (
            take k ys,
            ap (λ m. take m (xs ++ ys)) (omega arith) ∙ take-append-add xs ys k
                ∙ ap (λ l. l ++ take k ys) (sym (take_all n xs (omega arith))),
          )
          )
      | inr fits ↦ ([], take-append-le n xs ys fits ∙ sym (append-nil (take n xs)))
    ]

module _ (bytes : List ℕ) (left was now : Option (List ℕ)) (old new : Provider) where
  all_of : (end : End) (x : HasServed end (Some bytes) left old new was now) →
      (more : List ℕ) × (left ≡ Some more) × (bytes ≡ x.read ++ more)
  all_of end x = by_left left x.taken
    where
      by_left : (l : Option (List ℕ)) → Some bytes ≡ then_told x.read l →
          (more : List ℕ) × (l ≡ Some more) × (bytes ≡ x.read ++ more)
      by_left None e = absurd cc
      by_left (Some more) e = (more, refl, cc)

  parts_of : (end : End) (x : HasServed end (Some bytes) left old new was now) (more : List ℕ) →
      bytes ≡ x.read ++ more → bytes ≡ requests_text x.requests ++ (x.rest ++ more)
  parts_of end x more e = e ∙ ap (λ l. l ++ more) (x.parts ∙ ap (λ l. l ++ x.rest) x.frames.bytes_are)
      ∙ append_assoc (requests_text x.requests) x.rest more

  nothing_more : (more : List ℕ) → left ≡ Some more → IsAtEnd left → more ≡ []
  nothing_more more e end = subst IsAtEnd e end

  -- an end that turns on the bytes alone is theirs, whatever the pieces
  pub of_all_bytes : (end : End) (x : HasServed end (Some bytes) left old new was now) → IsOfBytes end →
      EndsOf bytes end x.requests
  of_all_bytes Finished x is =
      let all = all_of Finished x in
      let none = nothing_more all.0 all.1 x.ends.0 in
      let whole : bytes ≡ x.read = all.2 ∙ ap (λ (l : List ℕ). x.read ++ l) none ∙ append-nil x.read in
      record {
        rest = x.rest ++ all.0;
        are_requests = x.frames.are_requests;
        parts = parts_of Finished x all.0 all.2;
        ends = ((λ i. x.ends.1 i ++ none i), omega (arith, ap length whole, x.ends.2));
      }
  of_all_bytes (BadAt at) x is =
      let all = all_of (BadAt at) x in
      let rs = x.requests in
      let place : most_bytes - at ≡ most_bytes - length (requests_text rs) =
      ap (λ (k : ℕ). most_bytes - k) x.ends.place in
      elim x.ends.cause [
        | inl bad ↦ (
            let grown = grown_front (most_bytes - length (requests_text rs)) x.rest all.0 in
            let front : is_bad_request (take (most_bytes - length (requests_text rs)) x.rest) ≡ true =
            ap (λ (k : ℕ). is_bad_request (take k x.rest)) (sym place) ∙ bad in
            record {
              rest = x.rest ++ all.0;
              are_requests = x.frames.are_requests;
              parts = parts_of (BadAt at) x all.0 all.2;
              ends = (
                x.ends.place,
                inl (ap is_bad_request grown.1
                    ∙ bad-grows (take (most_bytes - length (requests_text rs)) x.rest) grown.0 front),
              );
            }
            )
        | inr off ↦ (
            let none = nothing_more all.0 all.1 off.0 in
            let whole : bytes ≡ x.read = all.2 ∙ ap (λ (l : List ℕ). x.read ++ l) none ∙ append-nil x.read in
            record {
              rest = x.rest;
              are_requests = x.frames.are_requests;
              parts = parts_of (BadAt at) x all.0 all.2
                  ∙ ap (λ (l : List ℕ). requests_text rs ++ l)
                  (ap (λ (l : List ℕ). x.rest ++ l) none ∙ append-nil x.rest);
              ends = (x.ends.place, inr (off.1, off.2, omega (arith, ap length whole, off.3)));
            }
            )
      ]
  of_all_bytes TooMany x is =
      let all = all_of TooMany x in
      let rs = x.requests in
      let n = most_bytes - length (requests_text rs) in
      let size : length x.read ≡ length (requests_text rs) + length x.rest = ap length x.parts
      ∙ length-append x.front x.rest ∙ ap (λ (k : ℕ). k + length x.rest) (ap length x.frames.bytes_are) in
      let same : take n (x.rest ++ all.0) ≡ take n x.rest =
      take-append-le n x.rest all.0 (omega (arith, size, x.ends.more)) in
      record {
        rest = x.rest ++ all.0;
        are_requests = x.frames.are_requests;
        parts = parts_of TooMany x all.0 all.2;
        ends = record {
          more = omega (arith, x.ends.more, ap length all.2, length-append x.read all.0);
          within = x.ends.within;
          none = subst SpellsNoRequest (sym same) x.ends.none;
          not_bad = ap is_bad_request same ∙ x.ends.not_bad;
        };
      }
  of_all_bytes _ x is = absurd is
