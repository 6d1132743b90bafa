-- No count of faults falls, and no provider comes or goes.
use Rattle.hail_replay.proofs.Words.{◌≡◌, ℕ, zero, suc, ◌<◌, List, [], ◌∷◌, length, Some, refl, sym, subst, ◌∙◌, arith, slice_get, unwrap_or, Provider, provider_at, nobody, Moment, now, IsRun, State, Onward, AllOnward, run_onward, Devices, AreDevices, NoCountFell}

-- where nothing is done no count fell
pub none-fell : (d : Devices) → NoCountFell d d
none-fell d = record {
  disk = omega arith;
  handed = refl;
  stores = λ j. omega arith;
  others = λ j. omega arith;
}

-- nor over two pieces one after the other
pub then-fell : (a b c : Devices) → NoCountFell a b → NoCountFell b c → NoCountFell a c
then-fell a b c f g = record {
  disk = (let x = f.disk in let y = g.disk in omega (arith, x, y));
  handed = g.handed ∙ f.handed;
  stores = λ j. (let x = f.stores j in let y = g.stores j in omega (arith, x, y));
  others = λ j. (let x = f.others j in let y = g.others j in omega (arith, x, y));
}

-- the provider at each place, where one list has those of one state and another those of a later one
at-place : (ps qs : List Provider) (old new : ℕ → Provider) (on : (j : ℕ) → Onward (old j) (new j)) →
    length qs ≡ length ps → ((j : ℕ) → j < length ps → slice_get ps j ≡ Some (old j)) →
    ((j : ℕ) → j < length qs → slice_get qs j ≡ Some (new j)) → (j : ℕ) →
    Onward (provider_at ps j) (provider_at qs j)
at-place [] [] old new on same P Q j = record { tells = λ h. h; stores = omega arith; others = omega arith }
at-place [] (q ∷ qs) old new on same P Q j = absurd (omega (arith, same))
at-place (p ∷ ps) [] old new on same P Q j = absurd (omega (arith, same))
at-place (p ∷ ps) (q ∷ qs) old new on same P Q zero =
    subst (λ o. Onward (unwrap_or o nobody) q) (sym (P 0 (omega arith)))
    (subst (λ o. Onward (old 0) (unwrap_or o nobody)) (sym (Q 0 (omega arith))) (on 0))
at-place (p ∷ ps) (q ∷ qs) old new on same P Q (suc j) =
    at-place ps qs (λ k. old (suc k)) (λ k. new (suc k)) (λ k. on (suc k)) (omega (arith, same))
    (λ k l. P (suc k) (omega (arith, l))) (λ k l. Q (suc k) (omega (arith, l))) j

-- counts of devices are those of the states, which never fall
pub fell : (w u : State) (d e : Devices) → AreDevices d w → AreDevices e u →
    length e.providers ≡ length d.providers → AllOnward w u → NoCountFell d e
fell w u d e D E same on = record {
  disk = (let a = D.faults in let b = E.faults in let c = on.disk in omega (arith, a, b, c));
  handed = same;
  stores = λ j. (at-place d.providers e.providers w.providers u.providers on.provider same D.providers.each
      E.providers.each j).stores;
  others = λ j. (at-place d.providers e.providers w.providers u.providers on.provider same D.providers.each
      E.providers.each j).others;
}

onward-itself : (w : State) → AllOnward w w
onward-itself w = record {
  disk = omega arith;
  provider = λ j. record { tells = λ h. h; stores = omega arith; others = omega arith };
}

onward-then : (w u v : State) → AllOnward w u → AllOnward u v → AllOnward w v
onward-then w u v f g = record {
  disk = (let a = f.disk in let b = g.disk in omega (arith, a, b));
  provider = λ j. (let a = f.provider j in let b = g.provider j in record {
    tells = λ h. b.tells (a.tells h);
    stores = (let x = a.stores in let y = b.stores in omega (arith, x, y));
    others = (let x = a.others in let y = b.others in omega (arith, x, y));
  });
}

-- over a run
pub onward-over : (start : State) (ms : List Moment) → IsRun 8 start ms → AllOnward start (now start ms)
onward-over start [] run = onward-itself start
onward-over start (m ∷ ms) run =
    onward-then start (now start ms) m.state (onward-over start ms run.2) (run_onward 8 start m ms run)
