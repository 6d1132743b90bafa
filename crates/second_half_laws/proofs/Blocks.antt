-- Lemmas on wrong blocks, on replacements and on what records fold to.
use Rattle.second_half_laws.proofs.Words.{true, cond, ◌⊎◌, ◌&&◌, refl, ap, sym, subst, ◌∙◌, inl, inr, arith, nat_le, nat_lt, is_some, option_map, cases_Bool, and_parts, and_from, or_cases, or_left, or_right, leb-true, le-leb, le-ltb, eq-eqb, false≢true, some-not-none, Object, stripes, columns, is_wrong_block, is_flagged, length-column_of_symbols, Record, Setup, SetUp, PutDone, Drop, AuditDone, RepairDone, PutDoneIn, Resume, InEffect, RepairDue, File, Due, file_as, setup_of, profile_in, started_as, is_start_of, is_same_name, file_of, due_of, exceeds, Held, sized, State, AreFirst, file_object, done_record, Moment, is_replacement, is_replaced_since, is_wrong_told, is_wrong_now, told_block, cond_true, cond_false, IsAppended, put_ended, done-ended, IsBad, IsReplaced, IsEndOfPut}
use Rattle.std.proofs.Common.{◌≡◌, ℕ, suc, zero, ◌≤◌, ◌<◌, ◌==◌, Bool, false, List, [], ◌∷◌, length, Option, Some, None}
use Rattle.code_defs.proofs.Codewords.{differences-same}
use Rattle.column_defs.proofs.ForgeryLaws.{wrong-block}

-- ---- replacements

-- a provider that was replaced since a moment is so with one more event
pub since_more : (from j : ℕ) (m : Moment) (ms : List Moment) → IsReplaced from j ms →
    IsReplaced from j (m ∷ ms)
since_more from j m ms h = or_right _ _ h

-- an event that replaces a provider is a replacement since each moment up to it
pub since_now : (from j : ℕ) (m : Moment) (ms : List Moment) → is_replacement m.event m.outcome j ≡ true →
    from ≤ length ms → IsReplaced from j (m ∷ ms)
since_now from j m ms h l = or_left (is_replacement m.event m.outcome j && nat_le from (length ms))
    (is_replaced_since from j ms) (and_from _ _ h (le-leb from (length ms) l))

-- a replacement since a moment is one since each earlier moment
pub since_earlier : (from to j : ℕ) (ms : List Moment) → from ≤ to → IsReplaced to j ms → IsReplaced from j ms
since_earlier from to j [] l h = h
since_earlier from to j (m ∷ ms) l h = elim (or_cases _ _ h) [
  | inl p ↦ (let q = and_parts _ _ p in
      since_now from j m ms q.0 (omega (arith, leb-true to (length ms) q.1)))
  | inr q ↦ since_more from j m ms (since_earlier from to j ms l q)
]

-- ---- blocks

-- a provider's own column is not wrong
pub right_block : (o : Object) (bytes : List ℕ) (i s : ℕ) →
    is_wrong_block o bytes i s (Some (columns o bytes i s)) ≡ true → ⊥
right_block o bytes i s h = false≢true (sym right ∙ h)
  where
    right : is_wrong_block o bytes i s (Some (columns o bytes i s)) ≡ false
    right = rw (
      eq-eqb (length (columns o bytes i s)) o.profile.size (length-column_of_symbols o _ i s),
      differences-same (columns o bytes i s),
    ) (le-ltb o.profile.fix 0 (omega arith))

-- what a fetch gives is wrong only where what is held is
pub sized_wrong : (o : Object) (bytes : List ℕ) (i s : ℕ) (b : Option (List ℕ)) →
    is_wrong_block o bytes i s (sized o.profile.size b) ≡ true → is_wrong_block o bytes i s b ≡ true
sized_wrong o bytes i s None h = h
sized_wrong o bytes i s (Some b) h = elim (cases_Bool (length b == o.profile.size)) [
  | inl t ↦ cc
  | inr f ↦ rw f refl
]

-- a provider that tells holds something
pub telling : (w : State) (i o s : ℕ) (b : Option (List ℕ)) → told_block w i o s ≡ Some b →
    (held : Held) × ((w.providers i).held ≡ Some held) × (held o s ≡ b)
telling w i o s b h = go (w.providers i).held refl h
  where
    go : (x : Option Held) → (w.providers i).held ≡ x → option_map (λ held. held o s) x ≡ Some b →
        (held : Held) × ((w.providers i).held ≡ Some held) × (held o s ≡ b)
    go None is e = absurd (cc e)
    go (Some held) is e = (held, is, (cc e))

-- a provider with a bad block of a file is wrong for it
pub bad_wrong : (w : State) (f : File) (i s : ℕ) → s < stripes (file_object w f) (length (w.bytes f.id)) →
    IsBad w f.profile f.id i s → is_wrong_now w f i ≡ true
bad_wrong w f i s below (b, told, wrong) = (let t = telling w i f.id s b told in
    ap (is_wrong_told w f i) t.1 ∙ wrong-block (file_object w f) (w.bytes f.id) i s (t.0 f.id) below (cc))

-- ---- records

-- a file that stands is the one that a put brings in, or stood before
done_put : (b : Bool) (rest : Option File) (x f : File) → cond b (Some x) rest ≡ Some f →
    (rest ≡ Some f) ⊎ (x ≡ f)
done_put true rest x f h = inr cc
done_put false rest x f h = inl h

-- a record that ends a put, of the first version and of the second
ends_first : (rs : List Record) (k size : ℕ) (q : List ℕ) (f : File) →
    file_as q k size (profile_in (setup_of rs)) ≡ f → IsEndOfPut rs (PutDone k size) f.id f.size f.profile
ends_first rs k size q f e = subst (λ x. IsEndOfPut rs (PutDone k size) x.id x.size x.profile) e
    (record { version = 1; entry_is = refl; profiled = λ first. refl })

ends_second : (rs : List Record) (k size profile : ℕ) (q : List ℕ) (f : File) → file_as q k size profile ≡ f →
    IsEndOfPut rs (PutDoneIn k size profile) f.id f.size f.profile
ends_second rs k size profile q f e =
    subst (λ x. IsEndOfPut rs (PutDoneIn k size profile) x.id x.size x.profile) e
    (record { version = 2; entry_is = refl; profiled = λ first. absurd (false≢true (sym first)) })

-- it ends the put of its number
pub ends_ended : (rs : List Record) (r : Record) (id size profile : ℕ) → IsEndOfPut rs r id size profile →
    put_ended r ≡ Some id
ends_ended rs r id size profile e = cc (done-ended e.version id size profile)

-- its profile is told by the record, or by the setup
pub same_profile : (rs : List Record) (v w a b size length p q : ℕ) →
    done_record v a size p ≡ done_record w b length q → ((v == 2) ≡ false → p ≡ profile_in (setup_of rs)) →
    ((w == 2) ≡ false → q ≡ profile_in (setup_of rs)) → p ≡ q
same_profile rs v w a b size length p q e first second = elim (cases_Bool (v == 2)) [
  | inl t ↦ elim (cases_Bool (w == 2)) [
    | inl u ↦ (let same : PutDoneIn a size p ≡ PutDoneIn b length q = cc in cc)
    | inr u ↦ absurd (let same : PutDoneIn a size p ≡ PutDone b length = cc in cc)
  ]
  | inr t ↦ elim (cases_Bool (w == 2)) [
    | inl u ↦ absurd (let same : PutDone a size ≡ PutDoneIn b length q = cc in cc)
    | inr u ↦ first t ∙ sym (second u)
  ]
]

-- a file in effect was so before, or is that of a put's end
pub file_done : (r : Record) (rs : List Record) (q : List ℕ) (f : File) → IsAppended r →
    file_of (r ∷ rs) q ≡ Some f → (file_of rs q ≡ Some f) ⊎ IsEndOfPut rs r f.id f.size f.profile
file_done (PutDone k size) rs q f good h =
    elim (done_put (is_start_of q (started_as rs k)) (file_of rs q)
    (file_as q k size (profile_in (setup_of rs))) f h)
    [ inl was ↦ inl was | inr e ↦ inr (ends_first rs k size q f e) ]
file_done (Drop name) rs q f good h = elim (cases_Bool (is_same_name name q)) [
  | inl t ↦ absurd (some-not-none (file_of (Drop name ∷ rs) q) f h (cc))
  | inr o ↦ inl (cc)
]
file_done (PutDoneIn k size profile) rs q f good h =
    elim (done_put (is_start_of q (started_as rs k)) (file_of rs q) (file_as q k size profile) f h) [
      | inl was ↦ inl was
      | inr e ↦ inr (ends_second rs k size profile q f e)
    ]
file_done (Resume next audit) rs q f good h = absurd good
file_done (InEffect k size profile kept) rs q f good h = absurd good
file_done (RepairDue number counts) rs q f good h = absurd good
file_done r rs q f good h = inl h

-- a record that is no setup leaves the setup
pub setup_left : (r : Record) (rs : List Record) → ((s : Setup) → r ≡ SetUp s → ⊥) →
    setup_of (r ∷ rs) ≡ setup_of rs
setup_left (SetUp s) rs other = absurd (other s refl)
setup_left r rs other = refl

-- where a file comes only with a setup, a setup is there already
pub up_before : (r : Record) (rs : List Record) (q : List ℕ) (f : File) → IsAppended r →
    file_of (r ∷ rs) q ≡ Some f → (file_of rs q ≡ Some f → is_some (setup_of rs) ≡ true) →
    (put_ended r ≡ Some f.id → is_some (setup_of rs) ≡ true) → is_some (setup_of rs) ≡ true
up_before r rs q f good h old new = elim (file_done r rs q f good h)
    [ inl was ↦ old was | inr e ↦ new (ends_ended rs r f.id f.size f.profile e) ]

-- a setup that is in effect stays so with one more record
pub up_more : (r : Record) (rs : List Record) → is_some (setup_of rs) ≡ true → setup_of (r ∷ rs) ≡ None → ⊥
up_more (SetUp s) rs h e = cc e
up_more r rs h e = false≢true (ap is_some (sym e) ∙ h)

-- what is due was so before, or is what an audit's end flags
pub due_done : (r : Record) (rs : List Record) (u : Due) → IsAppended r → due_of (r ∷ rs) ≡ Some u →
    (due_of rs ≡ Some u) ⊎ ((undecided : ℕ) × (r ≡ AuditDone u.number undecided u.counts))
due_done (AuditDone number undecided counts) rs u good h = elim (cases_Bool (exceeds (setup_of rs) counts)) [
  | inl t ↦ (let e : Some (record { number = number; counts = counts }) ≡ Some u =
      sym (cond_true (exceeds (setup_of rs) counts) (Some (record { number = number; counts = counts }))
      (due_of rs) t) ∙ h in let same : record { number = number; counts = counts } ≡ u = cc in
      inr (undecided, cc))
  | inr f ↦ inl (sym (cond_false (exceeds (setup_of rs) counts)
      (Some (record { number = number; counts = counts })) (due_of rs) f) ∙ h)
]
due_done (RepairDone number) rs u good h = absurd (cc h)
due_done (Resume next audit) rs u good h = absurd good
due_done (InEffect k size profile kept) rs u good h = absurd good
due_done (RepairDue number counts) rs u good h = absurd good
due_done r rs u good h = inl h

-- where no count exceeds the tolerance, no provider is flagged
pub none_flagged : (s : Setup) (counts : List ℕ) (j : ℕ) → exceeds (Some s) counts ≡ false →
    is_flagged s.tolerance counts j ≡ false
none_flagged s [] j h = le-ltb s.tolerance 0 (omega arith)
none_flagged s (c ∷ cs) zero h = elim (cases_Bool (nat_lt s.tolerance c)) [
  | inl t ↦ absurd (false≢true (cc))
  | inr f ↦ f
]
none_flagged s (c ∷ cs) (suc j) h = none_flagged s cs j (elim (cases_Bool (exceeds (Some s) cs)) [
  | inl t ↦ absurd (false≢true (sym h ∙ or_right _ _ t))
  | inr f ↦ f
])

-- before the first event no file is in effect and nothing is due
pub no_first_file : (rs : List Record) (q : List ℕ) (f : File) → AreFirst rs → file_of rs q ≡ Some f → ⊥
no_first_file rs q f (inl e) h = (let g : None ≡ Some f = cc in cc)
no_first_file rs q f (inr p) h = (let g : None ≡ Some f = cc in cc)

-- before the first event no repair is due
pub no_first_due : (rs : List Record) (u : Due) → AreFirst rs → due_of rs ≡ Some u → ⊥
no_first_due rs u (inl e) h = cc (ap due_of (sym e) ∙ h)
no_first_due rs u (inr p) h = cc (ap due_of (sym p.2) ∙ h)
