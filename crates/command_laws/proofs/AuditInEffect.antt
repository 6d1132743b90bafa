-- However an audit ended: where the next command finds its end in effect, its counts are the verdicts on what
-- it heard.
use Rattle.command_laws.proofs.Words.{◌≡◌, ℕ, ◌+◌, ◌<◌, ◌≤◌, ◌⊎◌, List, [], ◌∷◌, length, reverse, Option, None, Some, refl, ap, sym, subst, ◌∙◌, inl, inr, arith, length-append, IfSome, IsSomeAnd, length-reverse, Cells, reads, EachImage, Record, AuditDone, largest_journal, Area, StandsActive, StandsFor, next_audit, AuditJob, Answer, Seen, Ending, IsRefused, journal_read, Ran, HearsRounds, CountsHeard, AuditIsCut, AuditGives, LeftAlone, AnswersAlone, IsKnown, after_audit, ran_to, IsSure, Follows, active-front, one_list, same_value, each_image-mono}
use Rattle.machine_defs.specs.Answers as answer
use Rattle.command_laws.proofs.Known.{known-both}
use Rattle.command_laws.proofs.GetEnds.{ran_left}
use Rattle.command_laws.proofs.Afterwards.{sure-refused}
use Rattle.command_laws.proofs.DoneStores.{next-image}
use Rattle.command_laws.proofs.PutInEffect.{tells-back}
use Rattle.command_laws.proofs.Early.{alone-cases}

-- what the newest record of a list counts, where it is an audit's end
abbrev undecided_in : List Record → ℕ
undecided_in (AuditDone number undecided counts ∷ rs) = undecided
undecided_in rs = 0

abbrev counts_in : List Record → List ℕ
counts_in (AuditDone number undecided counts ∷ rs) = counts
counts_in rs = []

module _ (records : List Record) (undecided : ℕ) (counts : List ℕ) (old new next : Seen) (end : Ending)
    (S : IsSure old records) (N : Follows new next)
    (F : IsKnown next (after_audit records undecided counts)) where
  -- what was heard, and the verdicts on it
  abbrev Heard : ℕ → List ℕ → Type 0
  Heard u c = HearsRounds (ran_to (after_audit records u c) records old new end.heard) (next_audit records)
      × CountsHeard (ran_to (after_audit records u c) records old new end.heard) (next_audit records) u c

  abbrev Counted : Type 0
  Counted = Heard undecided counts

  -- if an image stands for the audit's records, its counts are so
  abbrev Judged : List ℕ → Type 0
  Judged image = (rs : List Record) × StandsFor image rs ×
      (rs ≡ after_audit records undecided counts → Counted)

  judged : EachImage new.disk Judged → Counted
  judged h = (let c = next-image new next (tells-back new next N F.tells) N in
      let g = c.2 Judged h in
      g.2 (one_list (reads c.0) g.0 (after_audit records undecided counts) g.1 (
        F.opened.area,
        active-front largest_journal (reads c.0) F.opened.area (after_audit records undecided counts)
            (subst (λ d. IfSome d (λ cells. (9 < length (reads cells)) × StandsActive (journal_read cells)
            F.opened.area (after_audit records undecided counts))) c.1 F.opened.read.reads_are).1,
      )))

  too-few : (rs : List Record) → length rs ≤ length records + 1 → rs ≡ after_audit records undecided counts →
      ⊥
  too-few rs few same = omega (arith, few, ap length same)

  of-records : (area : Area) (told : Option Cells) →
      EachImage told (λ image. StandsActive image area records) → EachImage told Judged
  of-records area told = each_image-mono told _ _
      (λ image stands. (records, (area, stands), λ same. absurd (too-few records (omega arith) same)))

  by-refused : (status at : ℕ) → IsRefused status at old new end → Counted
  by-refused status at r = (let T = sure-refused status at records old new end r S in
      judged (of-records T.known.opened.area new.disk T.images))

  image-judged : (area : Area) (image : List ℕ) (after : List Record) (doubt : Option Record) →
      (after ≡ after_audit records undecided counts → Counted) →
      ((entry : Record) → doubt ≡ Some entry → entry ∷ after ≡ after_audit records undecided counts →
      Counted) → StandsActive image area after ⊎ IsSomeAnd doubt
      (λ entry. StandsActive image area (entry ∷ after)) → Judged image
  image-judged area image after doubt one two (inl stands) = (after, (area, stands), one)
  image-judged area image after None one two (inr h) = absurd h
  image-judged area image after (Some entry) one two (inr h) = (entry ∷ after, (area, h), two entry refl)

  images-judged : (area : Area) (told : Option Cells) (after : List Record) (doubt : Option Record) →
      (after ≡ after_audit records undecided counts → Counted) →
      ((entry : Record) → doubt ≡ Some entry → entry ∷ after ≡ after_audit records undecided counts →
      Counted) →
      EachImage told (λ image. StandsActive image area after ⊎
      IsSomeAnd doubt (λ entry. StandsActive image area (entry ∷ after))) → EachImage told Judged
  images-judged area told after doubt one two =
      each_image-mono told _ _ (λ image. image-judged area image after doubt one two)

  -- the same audit's end has the same counts
  same-counts : (u : ℕ) (c : List ℕ) → Heard u c →
      after_audit records u c ≡ after_audit records undecided counts → Counted
  same-counts u c H same = rw (ap counts_in same) at (subst (λ n. Heard n c) (ap undecided_in same) H)

  module _ (area : Area) (how : Answer)
      (left : LeftAlone area records AuditJob None how old new end.heard) where
    abbrev x : Ran
    x = ran_left records AuditJob how old new end.heard left

    sure-off : {P : Type 0} (entry : Record) → x.doubt ≡ None → x.doubt ≡ Some entry → P
    sure-off entry sure is = absurd (cc (sym sure ∙ is))

    -- what the images of the disk say, by what stands for sure and what is in doubt
    by-images : (length x.after ≤ length records + 1) ⊎
        (x.after ≡ after_audit records undecided counts → Counted) →
        ((entry : Record) → x.doubt ≡ Some entry → entry ∷ x.after ≡ after_audit records undecided counts →
        Counted) → Counted
    by-images one two = judged (images-judged area new.disk x.after x.doubt (known one) two left.images)
      where
        known : (length x.after ≤ length records + 1) ⊎
            (x.after ≡ after_audit records undecided counts → Counted) →
            x.after ≡ after_audit records undecided counts → Counted
        known (inl few) same = absurd (too-few x.after few same)
        known (inr h) same = h same

    by-cut : AuditIsCut x → Counted
    by-cut (AuditIsCut.at_start after doubt none) = (let size = ap length after in
        by-images (inl (omega (arith, size)))
        (λ entry is same. absurd (too-few (entry ∷ x.after) (omega (arith, size)) same)))
    by-cut (AuditIsCut.before_done after sure hears) = by-images (inl (omega (arith, ap length after)))
        (λ entry is same. sure-off entry sure is)
    by-cut (AuditIsCut.at_done u c after doubt hears counted) = (by-images
        (inl (omega (arith, ap length after)))
        (λ entry is same. same-counts u c (record { heard = hears.heard; truthful = hears.truthful }, counted)
        ((λ i. same_value x.doubt (AuditDone (next_audit records) u c) entry doubt is i ∷ sym after i)
        ∙ same)))

    by-answer : (h : Answer) → AuditGives x h → Counted
    by-answer (answer.Audited number u c) L = (let W = L.1 in
        let hears = rw L.0 at L.2 in
        by-images (inr (λ same. same-counts u c (
          record { heard = hears.heard; truthful = hears.truthful },
          (subst (λ n. CountsHeard x n u c) L.0 L.3),
        ) (sym W.after ∙ same)))
        (λ entry is same. sure-off entry W.sure is))
    by-answer answer.DiskFault L = by-cut L.1
    by-answer answer.Memory L = (let C = L.2 in
        by-images (inl (omega (
          arith,
          ap length C.parts,
          length-append C.done (C.next ∷ C.rest),
          ap length C.after,
          length-append (reverse C.done) records,
          length-reverse C.done,
        )))
        (λ entry is same. sure-off entry C.sure is))
    by-answer h L = absurd L

  -- the counts that the next command finds in effect are the verdicts on what the audit heard
  pub audit-in-effect : AnswersAlone AuditJob old new end → Counted
  audit-in-effect = alone-cases (λ E. by-refused E.status E.at E.refused) (λ rs opened how none left by.
      let L = known-both old records rs S.known opened
      (λ a l. LeftAlone a l AuditJob None how old new end.heard) left in
      by-answer S.known.opened.area how L how L.leaves.by_kind.gives)
