-- Why no job begins: what a core sees is what the machine sees.
use Rattle.vault_core.proofs.Words.{◌≡◌, ℕ, suc, ◌+◌, ◌<◌, ◌≤◌, ◌^◌, Bool, true, false, List, [], ◌∷◌, Some, None, min, length, map, inl, inr, refl, ap, sym, subst, ◌∙◌, arith, ◌==◌, nat_lt, nat_le, nat_eq, is_some, sum, sum_by, if◌then◌else◌, All, list_any, AllZip, All-head, All-tail, pointwise, option_map, cases_Bool, lt-ltb, ltb-true, lt-leb, nat_tests, length-map, sum_by-cons, Setup, largest_file, largest_journal, most_files, File, is_same_name, find_file, Kind, Aim, ToPut, ToGet, ToDrop, ToAudit, ToRepair, ToUpgrade, aim_of, MachineJob, Refusal, State, setup_in, appends_left, append_sizes, room_left, reserved, puts_name, Sight, sight_of, aims_of, room_used, is_put_or_check, is_check, is_upgrade, is_shut, are_jobs_in_the_way, is_busy, is_name_among, with_name, names_in, with_puts, is_crowded_for, is_full, is_too_full, are_numbers_used_up, causes, Wish, Inside, CoreJob, CoreView, aim_of_wish, profile_named, setup_kept, core_job, view_of, IsJobKept, IsCore, sizes_of, room_behind, reserved_of, longest, IsAimOf, IsShortAim, IsJobOf, CoreIs, aims_in, sight_in, aims_kept, taken_names}
use Rattle.std.proofs.Common.{not, ◌&&◌, ◌||◌, Option}
use Rattle.std.proofs.Math.Bool.{or-false}
use Rattle.machine_defs.specs.Refusals as refusal
use Rattle.state_laws.proofs.NamesTaken.{listed-with_puts, listed-files, length-names_in}
use Rattle.vault_core.specs.declared.wish.Wish.TheVariants as wish
use Rattle.vault_core.specs.declared.job.Job.{Job}
use Rattle.vault_core.proofs.Pairs.{pair_length}
use Rattle.vault_core.proofs.Places.{any-map}
use Rattle.vault_core.proofs.Links.{appends-is, aim-alike}
use Rattle.vault_core.proofs.Alike.{IsLikeFoldOf, table-like}

-- ---- lists of jobs, as they are kept and as they are seen

aims-seen : (js : List Job) → aims_in (map core_job js) ≡ aims_kept js
aims-seen [] = refl
aims-seen (j ∷ js) = ap (λ aims. aim_of_wish j.wish ∷ aims) (aims-seen js)

room-seen : (i : ℕ) (s : Setup) (w : Wish) (k : ℕ) → room_behind i s.n w k ≡ room_left i s (aim_of_wish w) k
room-seen i s _ k = refl

sum-seen : (v : ℕ) (s : Setup) (js : List Job) → All (IsJobKept s) js →
    sum_by (reserved_of v s) (map core_job js) ≡ sum_by (λ (j : Job). room_behind v s.n j.wish j.appends) js
sum-seen v s [] h = refl
sum-seen v s (j ∷ js) h =
    let r = room-seen v s j.wish j.appends ∙ ap (room_left v s (aim_of_wish j.wish))
    (All-head (IsJobKept s) j js h).appends in
    omega (
      arith,
      sum_by-cons (reserved_of v s) (core_job j) (map core_job js),
      sum_by-cons (λ (i : Job). room_behind v s.n i.wish i.appends) j js,
      sum-seen v s js (All-tail (IsJobKept s) j js h),
      r,
    )

-- ---- names

-- names that are equal byte by byte are the same, in either order
pub same-pointwise : (xs ys : List ℕ) → pointwise nat_eq xs ys ≡ is_same_name ys xs
same-pointwise [] [] = refl
same-pointwise [] (y ∷ ys) = refl
same-pointwise (x ∷ xs) [] = refl
same-pointwise (x ∷ xs) (y ∷ ys) = grind (arith, nat_tests, same-pointwise xs ys)

-- a name is taken where a job puts it or a file has it
pub taken-by : (files : List File) (aims : List Aim) (name : List ℕ) →
    is_name_among (taken_names files aims) name
    ≡ (list_any (puts_name name) aims || is_some (find_file files name))
taken-by files aims name = listed-with_puts _ aims name
    ∙ ap (λ b. list_any (puts_name name) aims || b) (listed-files files name)

-- a file is found or not, whatever is made of it
pub found-some : {X : Type 0} (f : X → File) {found : Option File} (o : Option X) → option_map f o ≡ found →
    is_some o ≡ is_some found
found-some f None e = ap is_some e
found-some f (Some x) e = ap is_some e

-- a put adds its name, unless it is taken
pub more-put : (files : List File) (aims : List Aim) {w : Wish} (name : List ℕ) (size : ℕ) (own : Option ℕ)
    {b : Bool} → w ≡ wish.Put name size own → b ≡ is_name_among (taken_names files aims) name →
    length (taken_names files (aim_of_wish w ∷ aims))
    ≡ (if not b then 1 else 0) + length (taken_names files aims)
more-put files aims name size own {b} e h = subst (λ v. length (taken_names files (aim_of_wish v ∷ aims)) ≡
    (if not b then 1 else 0) + length (taken_names files aims)) (sym e) (by b h)
  where
    by : (x : Bool) → x ≡ is_name_among (taken_names files aims) name →
        length (with_name (taken_names files aims) name)
        ≡ (if not x then 1 else 0) + length (taken_names files aims)
    by true f = rw (← f) (let k : length (taken_names files aims) ≡ 0 + length (taken_names files aims) =
        omega arith in k)
    by false f = rw (← f)
        (let k : suc (length (taken_names files aims)) ≡ 1 + length (taken_names files aims) = omega arith in
        k)

-- no other job adds one
pub more-other : (files : List File) (aims : List Aim) (w : Wish) →
    ((name : List ℕ) (size : ℕ) (own : Option ℕ) → w ≡ wish.Put name size own → ⊥) →
    length (taken_names files (aim_of_wish w ∷ aims)) ≡ 0 + length (taken_names files aims)
more-other files aims (wish.Put name size own) h = absurd (h name size own refl)
more-other files aims w h = omega arith

-- with no job, the names taken are those of the files
pub none-more : (files : List File) → length (taken_names files []) ≡ length files
none-more files = length-names_in files

-- ---- a core's own tests

-- jobs leave no place for one of this aim beside them
abbrev pub are_in_the_way : List Aim → Aim → Bool
are_in_the_way aims ToAudit = list_any is_put_or_check aims
are_in_the_way aims ToRepair = list_any is_check aims
are_in_the_way aims ToUpgrade = nat_lt 0 (length aims)
are_in_the_way aims aim = false

-- jobs are in the way where eight run or one of them is
pub way : (aims : List Aim) (w : Wish) → are_jobs_in_the_way 8 aims (aim_of_wish w)
    ≡ (nat_le 8 (length aims) || are_in_the_way aims (aim_of_wish w))
way aims wish.Audit = refl
way aims wish.Repair = refl
way aims wish.Upgrade = some_or (length aims)
  where
    some_or : (n : ℕ) → nat_lt 0 n ≡ (nat_le 8 n || nat_lt 0 n)
    some_or n = grind (arith, nat_tests)
way aims w = sym (or-false (nat_le 8 (length aims)))

-- an upgrade is among jobs as they are kept
abbrev pub has_upgrade : Inside → Bool
has_upgrade a = list_any is_upgrade (aims_kept a.jobs.items)

-- so it is seen by a test of the jobs
pub upgrade_seen : (a : Inside) {js : List Job} {b : Bool} →
    b ≡ list_any (λ (j : Job). is_upgrade (aim_of_wish j.wish)) js → js ≡ a.jobs.items → has_upgrade a ≡ b
upgrade_seen a {js} h e = sym (h ∙ (any-map (λ j. aim_of_wish j.wish) is_upgrade js
    ∙ ap (λ xs. list_any is_upgrade (aims_kept xs)) e))

-- a core is busy by its own jobs when a contract sees it so
pub busy : (a : Inside) (v : CoreView) (w : Wish) (b : Bool) → view_of a ≡ v →
    b ≡ (has_upgrade a || (nat_le 8 (length a.jobs.items)
    || are_in_the_way (aims_kept a.jobs.items) (aim_of_wish w))) →
    b ≡ is_busy 8 (sight_in v) (aim_of_wish w)
busy a v w b e h = subst (λ c. b ≡ is_busy 8 (sight_in c) (aim_of_wish w)) e
    (h ∙ (ap (λ t. has_upgrade a || t)
    (ap (λ k. nat_le 8 k || are_in_the_way (aims_kept a.jobs.items) (aim_of_wish w))
    (sym (length-map a.jobs.items (λ j. aim_of_wish j.wish)))
    ∙ sym (way (aims_kept a.jobs.items) w))
    ∙ ap (λ aims. list_any is_upgrade aims || are_jobs_in_the_way 8 aims (aim_of_wish w))
    (sym (aims-seen a.jobs.items))))

-- the same where no upgrade runs, and fewer than eight jobs
pub beside : (a : Inside) (v : CoreView) (w : Wish) (b : Bool) → view_of a ≡ v → has_upgrade a ≡ false →
    length a.jobs.items < 8 →
    b ≡ are_in_the_way (aims_kept a.jobs.items) (aim_of_wish w) → b ≡ is_busy 8 (sight_in v) (aim_of_wish w)
beside a v w b e none l h = busy a v w b e (h ∙ sym (ap (λ t. t || (nat_le 8 (length a.jobs.items)
    || are_in_the_way (aims_kept a.jobs.items) (aim_of_wish w))) none
    ∙ ap (λ t. t || are_in_the_way (aims_kept a.jobs.items) (aim_of_wish w))
    (lt-leb 8 (length a.jobs.items) l)))

-- some jobs are as many as one at least
pub some_jobs : (n : ℕ) → not (n == 0) ≡ nat_lt 0 n
some_jobs n = grind (arith, nat_tests)

-- no job is in the way of a wish that is no audit, no repair and no upgrade
pub none-beside : (aims : List Aim) (w : Wish) → (w ≡ wish.Audit → ⊥) → (w ≡ wish.Repair → ⊥) →
    (w ≡ wish.Upgrade → ⊥) → false ≡ are_in_the_way aims (aim_of_wish w)
none-beside aims wish.Audit a r u = absurd (a refl)
none-beside aims wish.Repair a r u = absurd (r refl)
none-beside aims wish.Upgrade a r u = absurd (u refl)
none-beside aims w a r u = refl

-- a core has no room for a name by its own count when a contract sees it so
pub crowded : (a : Inside) (v : CoreView) (name : List ℕ) (taken : Bool) (count : ℕ) → view_of a ≡ v →
    taken ≡ is_name_among (taken_names a.table.files (aims_kept a.jobs.items)) name →
    nat_le 1024 count ≡ nat_le 1024 (length (taken_names a.table.files (aims_kept a.jobs.items))) →
    (nat_le 1024 count && not taken) ≡ is_crowded_for (sight_in v) name
crowded a v name taken count e h k = subst (λ c. (nat_le 1024 count && not taken) ≡ is_crowded_for
    (sight_in c) name) e (subst (λ aims. (nat_le 1024 count && not taken) ≡
    (nat_le most_files (length (taken_names a.table.files aims)) && not
    (is_name_among (taken_names a.table.files aims) name))) (sym (aims-seen a.jobs.items)) (rw (h, k) refl))

-- the count of the files and of the names beside them is at its limit when the names taken are
pub names-along : (a : Inside) {js : List Job} {files : ℕ} (beside : ℕ) {count : ℕ} →
    count ≡ min (files + beside) 18446744073709551615 → files ≡ length a.table.files →
    length (taken_names a.table.files (aims_kept js)) ≡ beside + length a.table.files → js ≡ a.jobs.items →
    nat_le 1024 count ≡ nat_le 1024 (length (taken_names a.table.files (aims_kept a.jobs.items)))
names-along a {files} beside {count} e f b j = sat files beside count e ∙ (ap (nat_le 1024) (omega (
  arith,
  f,
  b,
)) ∙ ap (λ xs. nat_le 1024 (length (taken_names a.table.files (aims_kept xs)))) j)
  where
    sat : (p q k : ℕ) → k ≡ min (p + q) 18446744073709551615 → nat_le 1024 k ≡ nat_le 1024 (p + q)
    sat p q k h = grind (arith, nat_tests, h)

-- fewer names than the limit are not too many, whatever the name
pub few_false : (count : ℕ) (taken : Bool) → count < 1024 →
    nat_le 1024 count ≡ (nat_le 1024 count && not taken)
few_false count taken l = let f : nat_le 1024 count ≡ false = grind (arith, nat_tests, l) in rw (f) refl

-- the sizes of records hang on the number of providers alone
sizes-by : (i : ℕ) (s : Setup) (w : Wish) → append_sizes i s (aim_of_wish w) ≡ sizes_of i s.n w
sizes-by i s _ = refl

full-cases : (x : Sight) (w : Wish) → ((name : List ℕ) → w ≡ wish.Get name → ⊥) →
    is_full x (aim_of_wish w) ≡ (is_too_full x (aim_of_wish w) || are_numbers_used_up x (aim_of_wish w))
full-cases x (wish.Get name) h = absurd (h name refl)
full-cases x w h = refl

-- the room of a job behind that of those that run, and whether its number comes too near the last one
pub full : {a : Inside} {v : CoreView} (w : Wish) {version : ℕ} {jobs : List Job} {room size : ℕ}
    {used : Bool} → view_of a ≡ v → ((name : List ℕ) → w ≡ wish.Get name → ⊥) → IsCore a →
    version ≡ a.table.version → jobs ≡ a.jobs.items →
    room ≡ sum_by (λ (j : Job). room_behind version a.setup.n j.wish j.appends) jobs →
    size ≡ sum (sizes_of version a.setup.n w) →
    used ≡ (nat_lt largest_journal (a.end + room + size) || are_numbers_used_up (sight_in (view_of a))
    (aim_of_wish w)) → used ≡ is_full (sight_in v) (aim_of_wish w)
full {a} {v} w {version} {jobs} {room} {size} {used} e get core of items behind sizes h =
    subst (λ c. used ≡ is_full (sight_in c) (aim_of_wish w)) e
    (h ∙ (ap (λ k. nat_lt largest_journal k || are_numbers_used_up (sight_in (view_of a))
    (aim_of_wish w)) all ∙ sym (full-cases (sight_in (view_of a)) w get)))
  where
    r : room ≡ sum_by (λ j. room_behind a.table.version a.setup.n j.wish j.appends) a.jobs.items
    r = behind ∙ (λ i. sum_by (λ j. room_behind (of i) a.setup.n j.wish j.appends) (items i))

    z : size ≡ sum (sizes_of a.table.version a.setup.n w)
    z = sizes ∙ ap (λ n. sum (sizes_of n a.setup.n w)) of

    all : (a.end + room + size)
        ≡ ((sight_in (view_of a)).used + sum (append_sizes a.table.version (sight_in (view_of a)).setup
        (aim_of_wish w)))
    all = (let k = sum-seen a.table.version (setup_kept a) a.jobs.items core.kept in
        let m = ap (λ xs. sum xs) (sizes-by a.table.version (sight_in (view_of a)).setup w) in
        omega (arith, k, r, z, m))

-- a journal that would grow beyond its largest size is full, whatever the numbers
pub over : {k : ℕ} (u : Bool) → largest_journal < k → true ≡ (nat_lt largest_journal k || u)
over {k} u l = ap (λ b. b || u) (sym (lt-ltb largest_journal k l))

-- a journal that stays within its largest size is full only where the numbers are used up
pub under : {k : ℕ} {u b : Bool} → k ≤ largest_journal → b ≡ u → b ≡ (nat_lt largest_journal k || u)
under {k} {u} l h = h ∙ ap (λ t. t || u) (sym not_over)
  where
    not_over : nat_lt largest_journal k ≡ false
    not_over = elim (cases_Bool (nat_lt largest_journal k)) [
      | inl t ↦ absurd (omega (arith, ltb-true largest_journal k t, l))
      | inr f ↦ f
    ]

-- no numbers are used up for a wish that is neither a put nor an audit
pub used-none : (x : Sight) (w : Wish) → ((name : List ℕ) (size : ℕ) (own : Option ℕ) →
    w ≡ wish.Put name size own → ⊥) →
    (w ≡ wish.Audit → ⊥) → false ≡ are_numbers_used_up x (aim_of_wish w)
used-none x (wish.Put name size own) p a = absurd (p name size own refl)
used-none x wish.Audit p a = absurd (a refl)
used-none x w p a = refl

-- ---- what the machine sees

-- an aim without the length of a put's file, on which no refusal hangs
abbrev pub bare : Aim → Aim
bare (ToPut name size) = ToPut name 0
bare aim = aim

-- a sight of aims without lengths
abbrev pub bare_sight : Sight → Sight
bare_sight x = record x { aims = map bare x.aims }

aims-same : (s : Setup) (cs : List CoreJob) (js : List MachineJob) → AllZip (IsJobOf s) cs js →
    map bare (aims_in cs) ≡ map bare (aims_of js)
aims-same s [] [] is = refl
aims-same s (c ∷ cs) (j ∷ js) is = λ i. aim-alike is.0 bare (λ name a b. refl) i ∷ aims-same s cs js is.1 i
aims-same s _ _ is = absurd is

room-jobs : (v : ℕ) (s : Setup) (cs : List CoreJob) (js : List MachineJob) → AllZip (IsJobOf s) cs js →
    sum_by (reserved_of v s) cs ≡ sum_by (reserved v s) js
room-jobs v s [] [] is = refl
room-jobs v s (c ∷ cs) (j ∷ js) is =
    let a = sum_by-cons (reserved_of v s) c cs in
    let b = sum_by-cons (reserved v s) j js in
    omega (
      arith,
      a,
      b,
      ap (room_left v s c.plan.aim) (appends-is is.0)
          ∙ aim-alike is.0 (λ (aim : Aim). room_left v s aim (appends_left s j)) (λ name a b. refl),
      room-jobs v s cs js is.1,
    )
room-jobs v s _ _ is = absurd is

-- a core and a state that it stands for look the same to a begin, but for the lengths of puts
pub sight-same : (c : CoreView) (w : State) → CoreIs c w → bare_sight (sight_in c) ≡ bare_sight (sight_of w)
sight-same c w is = λ i. record {
  is_barred = is.barred i;
  is_alone = sym (ap (λ o. is_some o) is.none_alone) i;
  aims = aims-same c.setup c.jobs w.jobs is.jobs i;
  files = like.files i;
  due = like.due i;
  version = like.version i;
  setup = is.setup i;
  used = used i;
  next_id = like.id i;
  next_audit = like.audit i;
}
  where
    like : IsLikeFoldOf w.records c.table
    like = table-like c w is

    used : (c.end + sum_by (reserved_of c.table.version c.setup) c.jobs) ≡ room_used w
    used = (omega (
      arith,
      is.end,
      room-jobs c.table.version c.setup c.jobs w.jobs is.jobs
          ∙ (ap (λ (t : Setup). sum_by (reserved c.table.version t) w.jobs) is.setup
          ∙ ap (λ (i : ℕ). sum_by (reserved i (setup_in w)) w.jobs) like.version),
    ))

any-bare : (p : Aim → Bool) → ((name : List ℕ) (size : ℕ) → p (ToPut name 0) ≡ p (ToPut name size)) →
    (aims : List Aim) → list_any p (map bare aims) ≡ list_any p aims
any-bare p h [] = refl
any-bare p h (ToPut name size ∷ aims) = λ i. h name size i || any-bare p h aims i
any-bare p h (ToGet name ∷ aims) = ap (λ b. p (ToGet name) || b) (any-bare p h aims)
any-bare p h (ToDrop name ∷ aims) = ap (λ b. p (ToDrop name) || b) (any-bare p h aims)
any-bare p h (ToAudit ∷ aims) = ap (λ b. p ToAudit || b) (any-bare p h aims)
any-bare p h (ToRepair ∷ aims) = ap (λ b. p ToRepair || b) (any-bare p h aims)
any-bare p h (ToUpgrade ∷ aims) = ap (λ b. p ToUpgrade || b) (any-bare p h aims)

shut-bare : (x : Sight) → is_shut (bare_sight x) ≡ is_shut x
shut-bare x = ap (λ b. x.is_alone || b) (any-bare is_upgrade (λ name size. refl) x.aims)

way-bare : (aims : List Aim) (aim : Aim) →
    are_jobs_in_the_way 8 (map bare aims) aim ≡ are_jobs_in_the_way 8 aims aim
way-bare aims aim = by aim
  where
    long : nat_le 8 (length (map bare aims)) ≡ nat_le 8 (length aims)
    long = ap (nat_le 8) (length-map aims bare)

    by : (x : Aim) → are_jobs_in_the_way 8 (map bare aims) x ≡ are_jobs_in_the_way 8 aims x
    by ToAudit = λ i. long i || any-bare is_put_or_check (λ name size. refl) aims i
    by ToRepair = λ i. long i || any-bare is_check (λ name size. refl) aims i
    by ToUpgrade = ap (nat_lt 0) (length-map aims bare)
    by aim = long

busy-bare : (x : Sight) (aim : Aim) → is_busy 8 (bare_sight x) aim ≡ is_busy 8 x aim
busy-bare x aim = λ i. shut-bare x i || way-bare x.aims aim i

puts-bare : (names : List (List ℕ)) (aims : List Aim) → with_puts names (map bare aims) ≡ with_puts names aims
puts-bare names [] = refl
puts-bare names (ToPut name size ∷ aims) = ap (λ others. with_name others name) (puts-bare names aims)
puts-bare names (_ ∷ aims) = puts-bare names aims

crowded-bare : (x : Sight) (name : List ℕ) → is_crowded_for (bare_sight x) name ≡ is_crowded_for x name
crowded-bare x name = ap (λ names. nat_le most_files (length names)
    && not (is_name_among names name)) (puts-bare (names_in x.files) x.aims)

-- no refusal of a begin hangs on the lengths of the puts that run
pub causes-bare : (x : Sight) (aim : Aim) (own : Option ℕ) →
    causes 8 (bare_sight x) aim own ≡ causes 8 x aim own
causes-bare x (ToGet name) own = rw (busy-bare x (ToGet name)) refl
causes-bare x (ToDrop name) own = rw (busy-bare x (ToDrop name)) refl
causes-bare x ToAudit own = rw (busy-bare x ToAudit) refl
causes-bare x ToRepair own = rw (busy-bare x ToRepair) refl
causes-bare x ToUpgrade own = rw (busy-bare x ToUpgrade) refl
causes-bare x (ToPut name size) _ = rw (busy-bare x (ToPut name size), crowded-bare x name) refl

not_long : (size : ℕ) → size ≤ 2 ^ 22 → nat_lt largest_file size ≡ false
not_long size short = elim (cases_Bool (nat_lt largest_file size)) [
  | inl t ↦ absurd (omega (arith, ltb-true largest_file size t, short))
  | inr f ↦ f
]

-- nor on the length of the put that begins, where it is not too long
causes-size : (x : Sight) (name : List ℕ) (size : ℕ) (own : Option ℕ) → size ≤ 2 ^ 22 →
    causes 8 x (ToPut name (2 ^ 22)) own ≡ causes 8 x (ToPut name size) own
causes-size x name size own l = rw (not_long size l) refl

-- the causes for which a begin is refused are the machine's, of a stream those of each put
pub causes-same : (c : CoreView) (w : State) (told : Option ℕ) (v : Wish) (k : Kind) → CoreIs c w →
    IsAimOf told v k → IsShortAim (aim_of k) →
    causes 8 (sight_in c) (aim_of_wish v) (profile_named v) ≡ causes 8 (sight_of w) (aim_of k)
    (profile_named v)
causes-same c w told v k is of short = sym (causes-bare (sight_in c) (aim_of_wish v) (profile_named v))
    ∙ (ap (λ x. causes 8 x (aim_of_wish v) (profile_named v)) (sight-same c w is)
    ∙ (causes-bare (sight_of w) (aim_of_wish v) (profile_named v) ∙ by told of))
  where
    of_stream : (aim : Aim) → IsShortAim aim →
        causes 8 (sight_of w) (longest aim) (profile_named v) ≡ causes 8 (sight_of w) aim (profile_named v)
    of_stream (ToPut name size) l = causes-size (sight_of w) name size (profile_named v) l
    of_stream aim l = refl

    by : (o : Option ℕ) → IsAimOf o v k →
        causes 8 (sight_of w) (aim_of_wish v) (profile_named v)
        ≡ causes 8 (sight_of w) (aim_of k) (profile_named v)
    by None e = ap (λ aim. causes 8 (sight_of w) aim (profile_named v)) e
    by (Some n) e = ap (λ aim. causes 8 (sight_of w) aim (profile_named v)) e
        ∙ of_stream (aim_of k) short

-- whether a begin is refused before its words are looked at, by what a core keeps
abbrev pub refused_early : Bool → Bool → ℕ → Option Refusal
refused_early barred upgrade running = if barred then Some refusal.MustReopen else
    (if upgrade || nat_le 8 running then Some refusal.Busy else None)

-- what refuses a begin before all else is the same in a core and in the machine
pub early : (a : Inside) (c : CoreView) (w : State) → view_of a ≡ c → CoreIs c w →
    refused_early a.barred (has_upgrade a) (length a.jobs.items)
    ≡ refused_early w.is_barred (is_shut (sight_of w)) (length w.jobs)
early a c w v is = λ i. refused_early (bar i) (up i) (count i)
  where
    bar : a.barred ≡ w.is_barred
    bar = ap (λ x. x.barred) v ∙ is.barred

    up : has_upgrade a ≡ is_shut (sight_of w)
    up = sym (ap (list_any is_upgrade) (aims-seen a.jobs.items))
        ∙ (ap (λ x. list_any is_upgrade (aims_in x.jobs)) v
        ∙ (sym (shut-bare (sight_in c)) ∙ (ap is_shut (sight-same c w is) ∙ shut-bare (sight_of w))))

    count : length a.jobs.items ≡ length w.jobs
    count = sym (length-map a.jobs.items core_job)
        ∙ (ap (λ x. length x.jobs) v ∙ pair_length c.setup c.jobs w.jobs is.jobs)
