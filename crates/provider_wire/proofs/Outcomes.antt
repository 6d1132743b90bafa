-- What the answer to each request says, by its first byte.
use Rattle.provider_wire.proofs.Words.{◌≡◌, ◌≢◌, ℕ, ◌<◌, ◌+◌, ◌^◌, Bool, true, false, List, [], ◌∷◌, length, refl, sym, ap, subst, ◌∙◌, arith, ◌&&◌, not, All, option_eq, eqb, eq-eqb, eqb-true, lt-ltb, symbols_read, bytes_of_symbols, last_count, Provider, Stores, FailsToStore, FindsNoMemory, RemovesAll, FailsToRemove, Request, Store, Fetch, Ask, Remove, Reply, Done, Found, Missing, Failed, NoMemory, AnswersRequest, FetchesAs, FailsToFetch, AsksAs, FailsToAnswer, Behind, provider_behind, Challenge, honest_answer, SpellsRequest, answer_size, AskedFor, first_byte_of, tail_of, seen_behind, out_of_step}
use Rattle.std.proofs.Common.{Option, Some, None}
use Rattle.std.specs.Prelude.{min}
use Rattle.provider_wire.proofs.Symbols.{symbols-bytes}
use Rattle.provider_wire.proofs.Framed.{all_below}
use Rattle.provider_wire.proofs.Asked.{sized-length}
use Rattle.provider_wire.proofs.Counting.{one_more_is}

-- ---- by the answer itself

stored : (o s : ℕ) (block : List ℕ) (p q : Provider) (a : Reply) → AnswersRequest (Store o s block) p a q →
    1 ≡ first_byte_of a → Stores o s block p q
stored o s block p q Done is one = is
stored o s block p q Failed is one = absurd (omega (arith, one))
stored o s block p q NoMemory is one = absurd (omega (arith, one))
stored o s block p q _ is one = absurd is

is_no_memory : (a : Reply) → 3 ≡ first_byte_of a → a ≡ NoMemory
is_no_memory NoMemory three = refl
is_no_memory _ three = absurd (omega (arith, three))

is_missing : (a : Reply) → 0 ≡ first_byte_of a → a ≡ Missing
is_missing Missing zero_ = refl
is_missing _ zero_ = absurd (omega (arith, zero_))

-- the other answer that says that a call did not fail
abbrev other_kind : Request → ℕ
other_kind (Store o s block) = 3
other_kind (Remove o) = 1
other_kind r = 0

is_lost : (r : Request) (p q : Provider) (a : Reply) → AnswersRequest r p a q → first_byte_of a ≢ 1 →
    first_byte_of a ≢ other_kind r → (first_byte_of a ≡ 2) × AnswersRequest r p Failed q
is_lost r p q Failed is one other = (refl, is)
is_lost r p q Done is one other = absurd (one refl)
is_lost r p q (Found symbols) is one other = absurd (one refl)
is_lost (Store o s block) p q NoMemory is one other = absurd (other refl)
is_lost (Fetch o s size) p q Missing is one other = absurd (other refl)
is_lost (Ask o c) p q Missing is one other = absurd (other refl)
is_lost _ p q _ is one other = absurd is

removed : (o : ℕ) (p q : Provider) (a : Reply) → AnswersRequest (Remove o) p a q → 1 ≡ first_byte_of a →
    RemovesAll o p q
removed o p q Done is one = is
removed o p q Failed is one = absurd (omega arith)
removed o p q _ is one = absurd is

fetched : (o s size : ℕ) (p q : Provider) (a : Reply) → AnswersRequest (Fetch o s size) p a q →
    1 ≡ first_byte_of a → (symbols : List ℕ) × (tail_of a ≡ bytes_of_symbols symbols) ×
    FetchesAs size o s p (Some symbols) q
fetched o s size p q (Found symbols) is one = (symbols, refl, is)
fetched o s size p q Missing is one = absurd (omega (arith, one))
fetched o s size p q Failed is one = absurd (omega (arith, one))
fetched o s size p q _ is one = absurd is

answered : (o : ℕ) (c : Challenge) (p q : Provider) (a : Reply) → AnswersRequest (Ask o c) p a q →
    1 ≡ first_byte_of a → (symbol : ℕ) × (tail_of a ≡ bytes_of_symbols (symbol ∷ [])) ×
    AsksAs (honest_answer c) o p (Some symbol) q
answered o c p q (Found (x ∷ [])) is one = (x, refl, is)
answered o c p q Missing is one = absurd (omega (arith, one))
answered o c p q Failed is one = absurd (omega (arith, one))
answered o c p q _ is one = absurd is

-- ---- by the first byte that came

is_kind : (result : Option ℕ) (k : ℕ) → option_eq eqb result (Some k) ≡ true → result ≡ Some k
is_kind None k e = absurd cc
is_kind (Some x) k e = ap (λ (y : ℕ). Some y) (eqb-true x k e)

is_other : (result : Option ℕ) (k n : ℕ) → option_eq eqb result (Some k) ≡ false → result ≡ Some n → n ≢ k
is_other None k n e is = absurd cc
is_other (Some x) k n e is =
    λ same. absurd (let h : x ≡ n = cc in let t = eq-eqb x k (h ∙ same) in let both = sym t ∙ e in cc both)

same_kind : (result : Option ℕ) (k n : ℕ) → option_eq eqb result (Some k) ≡ true → result ≡ Some n → k ≡ n
same_kind result k n e is = let h = sym (is_kind result k e) ∙ is in (let g : k ≡ n = cc in g)

-- what is known of a request over a link, once its answer came
pub record Heard (r : Request) (old now : Option Behind) (result : Option ℕ) (tail : List ℕ) : Type 0 where
  pub told : (b : Behind) → old ≡ Some b → AskedFor r result tail b now
  pub untold : old ≡ None → now ≡ None

-- the bytes that were sent spell it
pub heard : {r : Request} {bytes frame tail : List ℕ} {old now : Option Behind} {result : Option ℕ} {room : ℕ}
    → ((b : Behind) (q : Request) → old ≡ Some b → SpellsRequest bytes q → room ≡ answer_size q →
    AskedFor q result tail b now) → (old ≡ None → now ≡ None) → bytes ≡ frame → SpellsRequest frame r →
    room ≡ answer_size r → Heard r old now result tail
heard {r = r} told untold same spells size = record {
  told = λ b is. told b r is (subst (λ (l : List ℕ). SpellsRequest l r) (sym same) spells) size;
  untold = untold;
}

-- what is known of a provider over a link, by whether the link tells what is behind it
through : (r : Request) (old now : Option Behind) (result : Option ℕ) (tail : List ℕ)
    (P : Provider → Provider → Type 0) (s o f s' o' f' : ℕ) → Heard r old now result tail →
    ((b new : Behind) (a : Reply) → AnswersRequest r (provider_behind b) a (provider_behind new) →
    result ≡ Some (first_byte_of a) → (first_byte_of a ≡ 1 → tail ≡ tail_of a) →
    P (provider_behind b) (provider_behind new))
    → P (seen_behind None s o f) (seen_behind None s' o' f') →
    P (seen_behind old s o f) (seen_behind now s' o' f')
through r None now result tail P s o f s' o' f' h at_told at_none =
    subst (λ w. P (seen_behind None s o f) (seen_behind w s' o' f')) (sym (h.untold refl)) at_none
through r (Some b) now result tail P s o f s' o' f' h at_told at_none =
    let a = h.told b refl in
    subst (λ w. P (provider_behind b) (seen_behind w s' o' f')) (sym a.now_is)
    (at_told b a.new a.reply a.answered a.kind a.symbols)

stepped : (r : Request) (old now : Option Behind) (result : Option ℕ) (tail : List ℕ) (broken : Bool)
    → Heard r old now result tail
    → ((b new : Behind) (a : Reply) → AnswersRequest r (provider_behind b) a (provider_behind new) →
    result ≡ Some (first_byte_of a) → broken ≡ false)
    → out_of_step now broken ≡ []
stepped r None now result tail broken h mends = ap (λ (w : Option Behind). out_of_step w broken) (h.untold refl)
stepped r (Some b) now result tail broken h mends =
    let a = h.told b refl in
    ap (λ (w : Option Behind). out_of_step w broken) a.now_is
    ∙ ap (λ (t : Bool). out_of_step (Some a.new) t) (mends b a.new a.reply a.answered a.kind) ∙ a.nothing_due

not_lost : (result : Option ℕ) (n : ℕ) → result ≡ Some n → n ≡ 2 → not (option_eq eqb result (Some 2)) ≡ false
not_lost result n is two = ap (λ o. not (option_eq eqb o (Some 2))) (is ∙ ap (λ k. Some k) two)

lost : (r : Request) (result : Option ℕ) → option_eq eqb result (Some 1) ≡ false →
    option_eq eqb result (Some (other_kind r)) ≡ false → (p q : Provider) (a : Reply) →
    AnswersRequest r p a q → result ≡ Some (first_byte_of a) →
    (first_byte_of a ≡ 2) × AnswersRequest r p Failed q
lost r result one other p q a is x = is_lost r p q a is (is_other result 1 (first_byte_of a) one x)
    (is_other result (other_kind r) (first_byte_of a) other x)

-- an answer of no wanted kind is that the call failed, which leaves the link in step
pub steps : {r : Request} {old now : Option Behind} {result : Option ℕ} {tail : List ℕ} →
    Heard r old now result tail → option_eq eqb result (Some 1) ≡ false →
    option_eq eqb result (Some (other_kind r)) ≡ false →
    out_of_step now (not (option_eq eqb result (Some 2))) ≡ []
steps {r = r} {result = result} h one other = stepped _ _ _ result _ _ h
    (λ b new a is x. not_lost result (first_byte_of a) x (lost r result one other _ _ a is x).0)

-- all that the calls over a link need to know of the answer that came
module _ {old now : Option Behind} {result : Option ℕ} {tail : List ℕ} {s o f s' o' f' : ℕ} where
  -- where the answer is of one kind
  by_kind : (r : Request) (k : ℕ) (P : Provider → Provider → Type 0) → Heard r old now result tail →
      option_eq eqb result (Some k) ≡ true →
      ((p q : Provider) (a : Reply) → AnswersRequest r p a q → k ≡ first_byte_of a → P p q) →
      P (seen_behind None s o f) (seen_behind None s' o' f') →
      P (seen_behind old s o f) (seen_behind now s' o' f')
  by_kind r k P h is told = through r old now result tail P s o f s' o' f' h
      (λ b new a x l t. told _ _ a x (same_kind result k (first_byte_of a) is l))

  -- where it is of no wanted kind
  by_lost : (r : Request) (P : Provider → Provider → Type 0) → Heard r old now result tail →
      option_eq eqb result (Some 1) ≡ false → option_eq eqb result (Some (other_kind r)) ≡ false →
      ((p q : Provider) → AnswersRequest r p Failed q → P p q) →
      P (seen_behind None s o f) (seen_behind None s' o' f') →
      P (seen_behind old s o f) (seen_behind now s' o' f')
  by_lost r P h one other told = through r old now result tail P s o f s' o' f' h
      (λ b new a x k t. told _ _ (lost r result one other _ _ a x k).1)

  module _ {object stripe : ℕ} {block : List ℕ} (h : Heard (Store object stripe block) old now result tail) where
    -- a store that was answered as done stored the block
    pub store_done : option_eq eqb result (Some 1) ≡ true → s' ≡ s → o' ≡ o → f' ≡ f →
        Stores object stripe block (seen_behind old s o f) (seen_behind now s' o' f')
    store_done one s_is o_is f_is = by_kind (Store object stripe block) 1 (Stores object stripe block) h one
        (stored object stripe block) (record {
          held = refl;
          counts = record { store_faults = omega (arith, s_is); other_faults = o_is; fetches = f_is };
        })

    -- a store that was answered with no memory found none
    pub store_no_room : option_eq eqb result (Some 3) ≡ true → s' ≡ s → o' ≡ o → f' ≡ f →
        FindsNoMemory (seen_behind old s o f) (seen_behind now s' o' f')
    store_no_room three s_is o_is f_is = by_kind (Store object stripe block) 3 FindsNoMemory h three
        (λ p q a x k. (rw (is_no_memory a k) at x)) (record {
          held = refl;
          counts = record { store_faults = omega (arith, s_is); other_faults = o_is; fetches = f_is };
          no_fault = s_is;
        })

    -- a store that was answered otherwise failed, and was counted
    pub store_failed : option_eq eqb result (Some 1) ≡ false → option_eq eqb result (Some 3) ≡ false →
        s' ≡ min (s + 1) last_count → o' ≡ o → f' ≡ f → s < 2 ^ 64
        → FailsToStore (seen_behind old s o f) (seen_behind now s' o' f')
    store_failed one three s_is o_is f_is fits =
        by_lost (Store object stripe block) FailsToStore h one three (λ p q x. x) (record {
          held = refl;
          counts = record { store_faults = omega (arith, s_is, fits); other_faults = o_is; fetches = f_is };
          cause = λ less. omega (arith, s_is, fits);
        })

  module _ {object : ℕ} (h : Heard (Remove object) old now result tail) where
    -- a removal that was answered as done took the object away
    pub remove_done : option_eq eqb result (Some 1) ≡ true → s' ≡ s → o' ≡ o → f' ≡ f →
        RemovesAll object (seen_behind old s o f) (seen_behind now s' o' f')
    remove_done one s_is o_is f_is =
        by_kind (Remove object) 1 (RemovesAll object) h one (removed object) (record {
          held = refl;
          counts = record { store_faults = s_is; other_faults = omega (arith, o_is); fetches = f_is };
        })

    -- a removal that was answered otherwise failed, and was counted
    pub remove_failed : option_eq eqb result (Some 1) ≡ false → s' ≡ s → o' ≡ min (o + 1) last_count →
        f' ≡ f → o < 2 ^ 64 → FailsToRemove object (seen_behind old s o f) (seen_behind now s' o' f')
    remove_failed one s_is o_is f_is fits =
        by_lost (Remove object) (FailsToRemove object) h one one (λ p q x. x) (record {
          held = tt;
          counts = record { store_faults = s_is; other_faults = omega (arith, o_is, fits); fetches = f_is };
          cause = λ less. omega (arith, o_is, fits);
        })

  module _ {object : ℕ} {c : Challenge} (h : Heard (Ask object c) old now result tail) where
    -- an ask that was answered with a symbol gives it
    pub ask_done : (symbol : ℕ) → symbol ∷ [] ≡ symbols_read 1 tail → symbol < 2 ^ 128 →
        option_eq eqb result (Some 1) ≡ true → s' ≡ s → o' ≡ o → f' ≡ f →
        AsksAs (honest_answer c) object (seen_behind old s o f) (Some symbol) (seen_behind now s' o' f')
    ask_done symbol read small one s_is o_is f_is = through _ old now result tail
        (λ p q. AsksAs (honest_answer c) object p (Some symbol) q) s o f s' o' f' h (λ b new a answers k t.
        let kind = same_kind result 1 (first_byte_of a) one k in
        let x = answered object c _ _ a answers kind in
        let same : symbol ∷ [] ≡ x.0 ∷ [] = read ∙ ap (symbols_read 1) (t (sym kind) ∙ x.1)
        ∙ symbols-bytes (x.0 ∷ []) (λ i. lt-ltb x.0 (2 ^ 128) x.2.symbol i && true) in
        let e : x.0 ≡ symbol = cc in
        (rw e at x.2))
        (record {
          held = refl;
          counts = record { store_faults = s_is; other_faults = omega arith; fetches = f_is };
          gives = small;
          symbol = small;
        })

    -- an ask that was answered with nothing gives nothing
    pub ask_missing : option_eq eqb result (Some 0) ≡ true → s' ≡ s → o' ≡ o → f' ≡ f →
        AsksAs (honest_answer c) object (seen_behind old s o f) None (seen_behind now s' o' f')
    ask_missing none s_is o_is f_is = by_kind (Ask object c) 0
        (λ p q. AsksAs (honest_answer c) object p None q) h none
        (λ p q a x k. (rw (is_missing a k) at x)) (record {
          held = refl;
          counts = record { store_faults = s_is; other_faults = omega (arith, o_is); fetches = f_is };
          gives = tt;
          symbol = tt;
        })

    -- an ask that was answered otherwise failed, and was counted
    pub ask_failed : option_eq eqb result (Some 1) ≡ false → option_eq eqb result (Some 0) ≡ false →
        s' ≡ s → o' ≡ min (o + 1) last_count → f' ≡ f → o < 2 ^ 64 →
        FailsToAnswer (seen_behind old s o f) (seen_behind now s' o' f')
    ask_failed one none s_is o_is f_is fits =
        by_lost (Ask object c) FailsToAnswer h one none (λ p q x. x) (record {
          held = refl;
          counts = record { store_faults = s_is; other_faults = omega (arith, o_is, fits); fetches = f_is };
          cause = λ less. omega (arith, o_is, fits);
        })

  module _ {object stripe size : ℕ} (h : Heard (Fetch object stripe size) old now result tail) where
    -- a fetch that was answered with a block gives it, and was counted
    pub fetch_done : (out : List ℕ) → out ≡ symbols_read size tail → length out ≡ size →
        All (λ symbol. symbol < 2 ^ 128) out → option_eq eqb result (Some 1) ≡ true → s' ≡ s → o' ≡ o →
        f' ≡ min (f + 1) last_count → f < 2 ^ 64
        → FetchesAs size object stripe (seen_behind old s o f) (Some out) (seen_behind now s' o' f')
    fetch_done out read long small one s_is o_is f_is fits = through _ old now result tail
        (λ p q. FetchesAs size object stripe p (Some out) q) s o f s' o' f' h (λ b new a answers k t.
        let kind = same_kind result 1 (first_byte_of a) one k in
        let x = fetched object stripe size _ _ a answers kind in
        let e = sym (symbols-bytes x.0 (all_below (2 ^ 128) x.0 x.2.symbols))
        ∙ (λ i. symbols_read ((sized-length size (b.held object stripe) x.0 x.2.gives) i)
        ((sym x.1 ∙ sym (t (sym kind))) i)) ∙ sym read in
        (rw e at x.2))
        (record {
          held = refl;
          counts = record {
            store_faults = s_is;
            other_faults = omega arith;
            fetches = f_is ∙ one_more_is f fits;
          };
          gives = record { size_is = long; symbols = small };
          symbols = small;
        })

    -- a fetch that was answered with nothing gives nothing, and was counted
    pub fetch_missing : option_eq eqb result (Some 0) ≡ true → s' ≡ s → o' ≡ o → f' ≡ min (f + 1) last_count →
        f < 2 ^ 64 → FetchesAs size object stripe (seen_behind old s o f) None (seen_behind now s' o' f')
    fetch_missing none s_is o_is f_is fits = by_kind (Fetch object stripe size) 0
        (λ p q. FetchesAs size object stripe p None q) h none
        (λ p q a x k. (rw (is_missing a k) at x)) (record {
          held = refl;
          counts = record {
            store_faults = s_is;
            other_faults = omega (arith, o_is);
            fetches = f_is ∙ one_more_is f fits;
          };
          gives = tt;
          symbols = tt;
        })

    -- a fetch that was answered otherwise failed, and both counts rose
    pub fetch_failed : option_eq eqb result (Some 1) ≡ false → option_eq eqb result (Some 0) ≡ false →
        s' ≡ s → o' ≡ min (o + 1) last_count → f' ≡ min (f + 1) last_count → o < 2 ^ 64 →
        f < 2 ^ 64 → FailsToFetch (seen_behind old s o f) (seen_behind now s' o' f')
    fetch_failed one none s_is o_is f_is fits f_fits =
        by_lost (Fetch object stripe size) FailsToFetch h one none (λ p q x. x) (record {
          held = refl;
          counts = record {
            store_faults = s_is;
            other_faults = omega (arith, o_is, fits);
            fetches = f_is ∙ one_more_is f f_fits;
          };
          cause = λ less. omega (arith, o_is, fits);
        })
