-- Disks that runs leave on which nothing is set up: one before its first use, and one of which an init failed.
use Rattle.command_laws.proofs.Words.{◌≡◌, ℕ, suc, ◌<◌, ◌≤◌, false, List, [], ◌∷◌, length, None, Some, refl, sym, subst, inl, inr, arith, false≢true, IsImage, SetUp, A, end_in, Init, Refused, DiskFault, IsRun, State, Doubt, IsSound, provider_at, small_setup, idle_providers, empty_devices, failed_devices, IsStore, moment, image-firm, journal-whole, rest-sound, opened_state, slice_get}
use Rattle.command_laws.proofs.GoingOn.{run-sound}

-- nothing is in effect, and no vault is open
abbrev pub unset : State
unset = record (opened_state A [] 0 idle_providers) { is_open = false }

unset-sound : IsSound 8 unset
unset-sound = rest-sound 8 unset (record {
  idle = (refl, refl, refl, refl);
  undoubted = refl;
  unswitched = refl;
  journal = journal-whole unset refl (λ e. refl) tt refl;
  accepted = tt;
  in_grammar = refl;
  room = (let e : end_in A [] ≡ 9 = refl in omega (arith, e));
  files = λ name file is. absurd cc;
  set_up = λ opened. absurd (false≢true opened);
  handed = λ opened. absurd (false≢true opened);
})

none-long : (image : List ℕ) → IsImage [] image → length image ≤ 9
none-long image is = subst (λ l. length l ≤ 9) (sym (image-firm [] image is)) (omega arith)

idle-each : (j : ℕ) → j < 4 → slice_get idle_providers j ≡ Some (provider_at idle_providers j)
idle-each (suc (suc (suc (suc j)))) l = absurd (omega (arith, l))
idle-each j l = refl

-- a state stands for an empty disk
pub unset-store : IsStore unset empty_devices
unset-store = record {
  sound = unset-sound;
  tells = refl;
  images = λ image is. inl (inr (refl, none-long image is));
  faults_are = refl;
  handed = record { count = refl; each = idle-each };
}

abbrev pub doubt : Doubt
doubt = record { entry = SetUp small_setup; maker = None }

-- an init failed, and its setup is in doubt
abbrev pub doubtful : State
doubtful = record unset { doubt = Some doubt; disk_faults = 1 }

init-failed : IsRun 8 unset (moment (Init small_setup) (Refused DiskFault) doubtful ∷ [])
init-failed = (
  (omega arith, omega arith, omega arith, omega arith, omega arith, omega arith, omega arith, refl),
  (Some doubt, inr (refl, refl), (1, omega arith, (λ low. omega arith), refl)),
  tt,
)

-- a state stands for an empty disk of which an init failed
pub doubtful-store : IsStore doubtful failed_devices
doubtful-store = record {
  sound = run-sound unset (moment (Init small_setup) (Refused DiskFault) doubtful ∷ []) [] unset-sound
      init-failed;
  tells = refl;
  images = λ image is. inl (inr (refl, none-long image is));
  faults_are = refl;
  handed = record { count = refl; each = idle-each };
}
