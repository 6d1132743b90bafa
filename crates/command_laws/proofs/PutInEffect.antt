-- However a put ended: where the next command finds its end in effect, its file is right on every provider
-- that tells.
use Rattle.command_laws.proofs.Words.{◌≡◌, ℕ, ◌+◌, ◌<◌, ◌≤◌, ◌⊎◌, Bool, true, List, [], ◌∷◌, ◌++◌, length, reverse, Option, None, Some, refl, ap, sym, subst, ◌∙◌, inl, inr, arith, length-append, is_some, IfSome, IsSomeAnd, false≢true, length-reverse, Cells, reads, Stopped, EachImage, Record, PutStart, largest_journal, Area, StandsActive, StandsFor, next_id, AreBytes, PutJob, Answer, Seen, Ending, IsRefused, journal_read, setup_in_effect, refusal_over, Ran, put_records, MayHaveEnd, PutIsCut, PutLeaves, after_begin, LeftAlone, AnswersPut, IsKnown, after_put, IsSure, Follows, HasRightFile, active-front, one_list, each_image-mono, ReadsFront}
use Rattle.device_defs.specs.Told.{Goes}
use Rattle.machine_defs.specs.Answers as answer
use Rattle.command_laws.proofs.Known.{known-once, known-both}
use Rattle.command_laws.proofs.GetEnds.{ran_left}
use Rattle.command_laws.proofs.JobEnds.{put-in_effect, read-all}
use Rattle.command_laws.proofs.Afterwards.{sure-refused}
use Rattle.command_laws.proofs.DoneStores.{next-image}
use Rattle.command_laws.proofs.FilesStay.{DoTell, stored-file}
use Rattle.command_laws.proofs.Early.{put-cases}

-- a disk that the next command finds told before
pub tells-back : (new next : Seen) → Follows new next → is_some next.disk ≡ true → is_some new.disk ≡ true
tells-back new next N tells = elim N.disk [
  | inl same ↦ ap is_some (sym same) ∙ tells
  | inr stopped ↦ stopped-at new.disk next.disk tells stopped
]
  where
    stopped-at : (a b : Option Cells) → is_some b ≡ true → Goes Stopped a b → is_some a ≡ true
    stopped-at None None told g = absurd (false≢true told)
    stopped-at None (Some b) told g = absurd g
    stopped-at (Some a) b told g = refl

module _ (name bytes : List ℕ) (own : Option ℕ) (records : List Record) (spoilt : ℕ → Bool)
    (old new next : Seen)
    (end : Ending) (S : IsSure old records) (N : Follows new next)
    (F : IsKnown next (after_put records name (length bytes) own))
    (tells : DoTell (setup_in_effect records).n spoilt old) where
  -- the file is right on every provider that is not spoilt
  abbrev Right : Type 0
  Right = HasRightFile new (after_put records name (length bytes) own) name bytes spoilt

  -- an image stands for fewer records than those with both of the put
  abbrev Fewer : List ℕ → Type 0
  Fewer image = (rs : List Record) × StandsFor image rs × (length rs ≤ length records + 1)

  not-fewer : EachImage new.disk Fewer → ⊥
  not-fewer h = (let c = next-image new next (tells-back new next N F.tells) N in
      let g = c.2 Fewer h in
      let same = one_list (reads c.0) g.0 (after_put records name (length bytes) own) g.1 (
        F.opened.area,
        active-front largest_journal (reads c.0) F.opened.area (after_put records name (length bytes) own)
            (subst (λ d. IfSome d (λ cells. (9 < length (reads cells)) × StandsActive (journal_read cells)
            F.opened.area (after_put records name (length bytes) own))) c.1 F.opened.read.reads_are).1,
      ) in
      omega (arith, ap length same, g.2))

  has-fewer : (area : Area) (told : Option Cells) →
      EachImage told (λ image. StandsActive image area records) → EachImage told Fewer
  has-fewer area told = each_image-mono told _ _ (λ image stands. (records, (area, stands), omega arith))

  refused-not : (status at : ℕ) → IsRefused status at old new end → ⊥
  refused-not status at r = (let T = sure-refused status at records old new end r S in
      not-fewer (has-fewer T.known.opened.area new.disk T.images))

  image-fewer : (area : Area) (image : List ℕ) (after : List Record) (doubt : Option Record) →
      length after ≤ length records + 1 →
      ((entry : Record) → doubt ≡ Some entry → length after ≤ length records) →
      StandsActive image area after ⊎ IsSomeAnd doubt (λ entry. StandsActive image area (entry ∷ after)) →
      Fewer image
  image-fewer area image after doubt few less (inl stands) = (after, (area, stands), few)
  image-fewer area image after None few less (inr h) = absurd h
  image-fewer area image after (Some entry) few less (inr h) =
      (entry ∷ after, (area, h), (omega (arith, less entry refl)))

  images-fewer : (area : Area) (told : Option Cells) (after : List Record) (doubt : Option Record) →
      length after ≤ length records + 1 →
      ((entry : Record) → doubt ≡ Some entry → length after ≤ length records) →
      EachImage told (λ image. StandsActive image area after ⊎
      IsSomeAnd doubt (λ entry. StandsActive image area (entry ∷ after))) → EachImage told Fewer
  images-fewer area told after doubt few less =
      each_image-mono told _ _ (λ image. image-fewer area image after doubt few less)

  -- a put that was given up has one record in effect
  given-fewer : (area : Area) →
      EachImage new.disk (λ image. StandsActive image area (after_begin records name)) → ⊥
  given-fewer area h = not-fewer
      (each_image-mono new.disk _ _ (λ image stands. (after_begin records name, (area, stands), omega arith)) h)

  module _ (area : Area) (seen : List ℕ) (are : AreBytes seen)
      (begins : refusal_over area records (PutJob name seen) own ≡ None)
      (how : Answer)
      (left : LeftAlone area records (PutJob name seen) own how old new end.heard)
      (all : MayHaveEnd records left.after left.doubt name (length seen) own → seen ≡ bytes) where
    abbrev x : Ran
    x = ran_left records (PutJob name seen) how old new end.heard left

    -- what was read is all that the source held
    with-all : seen ≡ bytes → HasRightFile new (after_put records name (length seen) own) name seen spoilt → Right
    with-all same =
        subst (λ bs. HasRightFile new (after_put records name (length bs) own) name bs spoilt) same

    -- fewer records came in, and no more than one may be in doubt
    cut-off : (done : List Record) → x.after ≡ reverse done ++ records → length done ≤ 1 →
        ((entry : Record) → x.doubt ≡ Some entry → length done ≤ 0) → ⊥
    cut-off done after few less = (let size : length x.after ≡ length done + length records = ap length after
        ∙ (omega (arith, length-append (reverse done) records, length-reverse done)) in
        not-fewer (images-fewer area new.disk x.after x.doubt (omega (arith, size, few))
        (λ entry is. omega (arith, size, less entry is)) left.images))

    sure-off : (entry : Record) (done : List Record) → x.doubt ≡ None → x.doubt ≡ Some entry → length done ≤ 0
    sure-off entry done sure is = absurd (cc (sym sure ∙ is))

    cut-parts : (done : List Record) (entry : Record) (rest : List Record) →
        put_records records name (length seen) own ≡ done ++ entry ∷ rest → length done ≤ 1
    cut-parts done entry rest parts = (omega (arith, ap length parts, length-append done (entry ∷ rest)))

    by-answer : (h : Answer) → PutLeaves x own name seen h → Right
    by-answer answer.Put L = with-all (all (inl L.0.after)) (stored-file name seen own records spoilt old new
        (put-in_effect area records name seen own begins) are _ _ L.1 tells)
    by-answer (answer.ProviderFault k) L = absurd (let W = L.2 in
        cut-off (PutStart (next_id records) name ∷ []) W.after (omega arith)
        (λ entry is. sure-off entry (PutStart (next_id records) name ∷ []) W.sure is))
    by-answer answer.DiskFault L = by-cut L.1
      where
        by-cut : PutIsCut x own name seen → Right
        by-cut (PutIsCut.at_start after doubt held) =
            absurd (cut-off [] after (omega arith) (λ entry is. omega arith))
        by-cut (PutIsCut.at_done after doubt stored) = elim doubt [
          | inl sure ↦ absurd (cut-off (PutStart (next_id records) name ∷ []) after (omega arith)
              (λ entry is. sure-off entry (PutStart (next_id records) name ∷ []) sure is))
          | inr is ↦ with-all (all (inr is)) (stored-file name seen own records spoilt old new
              (put-in_effect area records name seen own begins) are None (λ j. ⊥) stored tells)
        ]
    by-answer answer.Memory L = absurd (let C = L.0 in
        cut-off C.done C.after (cut-parts C.done C.next C.rest C.parts)
        (λ entry is. sure-off entry C.done C.sure is))
    by-answer h L = absurd L

  -- a put that the next command finds in effect has its file right on every provider that tells
  pub put-in-effect : AnswersPut name own old new end → old.source ≡ Some bytes → Right
  put-in-effect A source = put-cases (λ E. absurd (refused-not E.status E.at E.refused)) {own = own}
      (λ rs seen opened known none stops left. absurd (given-fewer opened.area
      (rw (known-once old records rs S.known opened.read) at left.images)))
      (λ rs seen opened known read few how none left whole by. ended seen read how
      (known-both old records rs S.known opened (Ended seen how) (none, left, whole))) A
    where
      -- the job over these records ended so
      Ended : List ℕ → Answer → Area → List Record → Type 0
      Ended seen how area rs = refusal_over area rs (PutJob name seen) own ≡ None ×
          (left : LeftAlone area rs (PutJob name seen) own how old new end.heard) ×
          (MayHaveEnd rs left.after left.doubt name (length seen) own → IfSome new.source (λ rest. rest ≡ []))

      ended : (seen : List ℕ) → ReadsFront old.source new.source seen → (how : Answer) →
          Ended seen how S.known.opened.area records → Right
      ended seen read how (none, left, all) = by-answer S.known.opened.area seen read.are_bytes none how left
          (λ may. read-all old.source new.source bytes seen source read (all may)) how left.leaves.by_kind.0
