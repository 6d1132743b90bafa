-- Which begins of puts and drops are allowed.
use Rattle.effect_laws.proofs.Words.{◌≡◌, ℕ, List, [], ◌∷◌, refl, sym, subst, inl, inr, Kind, PutJob, DropJob, Job, Event, Begin, Begun, Moment, IsBeginOf, IsPutBegin, Touches, IsBeginFor, NoneBeganOn, PutsUnder, Drops, NoPutBegan}
use Rattle.effect_laws.proofs.Offers.{Allows, BeginsAllowed, AllAllowed}

-- the begin of a put of bytes under a name is one
put_begin : (event : Event) (j : Job) (n name bytes : List ℕ) → IsBeginOf event j → j.kind ≡ PutJob n bytes →
    n ≡ name → IsPutBegin event name bytes
put_begin event j n name bytes (inl is) kind same = inl cc
put_begin event j n name bytes (inr (m, by, is_kind, is)) kind same = inr (j.profile, cc)

-- a begin of a job of a kind that is meant is one for these
begin_for : (Meant : Kind → Type 0) (event : Event) (j : Job) → IsBeginOf event j → Meant j.kind →
    IsBeginFor Meant event
begin_for Meant event j (inl is) t = subst (IsBeginFor Meant) (sym is) t
begin_for Meant event j (inr (n, bytes, kind, is)) t = subst (IsBeginFor Meant) (sym is) (subst Meant kind t)

-- the begin of a put of a name is the begin of a job that puts it
pub put_for : (Meant : Kind → Type 0) (event : Event) (name bytes : List ℕ) →
    Meant (PutJob name bytes) → IsPutBegin event name bytes → IsBeginFor Meant event
put_for Meant event name bytes t (inl is) = rw is t
put_for Meant event name bytes t (inr (profile, is)) = rw is t

module _ (Fit : List ℕ → Type 0) (Absent : Type 0) (name : List ℕ) where
  -- a moment's begin is allowed, where that of a put is of bytes that fit, and that of a drop may be
  pub allowed_by : (m : Moment) →
      ((bytes : List ℕ) (n : ℕ) → IsPutBegin m.event name bytes → m.outcome ≡ Begun n → Fit bytes) →
      (IsBeginFor (Drops name) m.event → (n : ℕ) → m.outcome ≡ Begun n → Absent) →
      BeginsAllowed Fit Absent name m
  allowed_by m puts drops j n on begun = by_kind j.kind refl
    where
      by_kind : (kind : Kind) → j.kind ≡ kind → Allows Fit Absent name kind
      by_kind (PutJob q bytes) is = λ same. puts bytes n (put_begin m.event j q name bytes on is same) begun
      by_kind (DropJob q) is = λ same.
          drops (begin_for (Drops name) m.event j on (subst (Drops name) (sym is) same)) n begun
      by_kind kind is = tt

  -- where no put of the name begins and drops may, all are
  pub none_put : (ms : List Moment) → Absent → NoPutBegan name ms → AllAllowed Fit Absent name ms
  none_put [] absent none = tt
  none_put (m ∷ ms) absent none = (
    allowed_by m
        (λ bytes n event begun. absurd (none.0 (put_for (PutsUnder name) m.event name bytes refl event) n begun))
        (λ on n begun. absent),
    none_put ms absent none.1,
  )

  -- where neither begins, all are
  pub none_touched : (ms : List Moment) → NoneBeganOn name ms → AllAllowed Fit Absent name ms
  none_touched [] none = tt
  none_touched (m ∷ ms) none = (
    allowed_by m
        (λ bytes n event begun. absurd (none.0 (put_for (Touches name) m.event name bytes refl event) n begun))
        (λ on n begun. absurd (none.0 (drop_touches m.event on) n begun)),
    none_touched ms none.1,
  )
    where
      drop_touches : (event : Event) → IsBeginFor (Drops name) event → IsBeginFor (Touches name) event
      drop_touches (Begin (DropJob n)) on = on
      drop_touches event on = absurd on
