-- A stream that begins over a vault just opened.
use Rattle.command_jobs.proofs.Words.{◌≡◌, ℕ, zero, suc, ◌*◌, ◌≤◌, List, [], length, replicate, Option, refl, ap, sym, subst, ◌∙◌, arith, length-replicate, mul-le-mul_right, Cells, Provider, Record, largest_file, Area, chosen, AreBytes, PutJob, setup_in, setup_in_effect, nobody, put_stripe, valid-shape, setup-valid, opened-sound, MayName, with_master, stripe_size, Vault, vault_setup, master_of, devices, IsFreshOver, IsStripe, IsBegun}
use Rattle.code_defs.specs.Profiles.{profile_of}
use Rattle.code_defs.proofs.Profiles.{some_kept}
use Rattle.record_defs.specs.Records.{Setup}
use Rattle.hail_field.specs.Shape.{IsShape}
use Rattle.command_jobs.proofs.Alone.{BeginsAs, has-begun, opened-one}
use Rattle.command_jobs.proofs.Fresh.{ThereIsOne, there-opened, setup-over, fresh-setup}

-- how many symbols of a block are kept
keep-few : (p : ℕ) → (profile_of p).keep ≤ 96
keep-few zero = omega arith
keep-few (suc zero) = omega arith
keep-few (suc (suc zero)) = omega arith
keep-few (suc (suc (suc zero))) = omega arith
keep-few (suc (suc (suc (suc p)))) = omega arith

-- a stripe of primary providers
a-stripe : (l keep : ℕ) → 1 ≤ l → l ≤ 16 → 1 ≤ keep → keep ≤ 96 → IsStripe (16 * (l * keep))
a-stripe l keep a b c d = record {
  symbols = l * keep;
  size_is = refl;
  some = (let m = mul-le-mul_right keep a in let e : 1 * keep ≡ keep = omega arith in omega (arith, m, e, c));
  most = (let m = mul-le-mul_right keep b in let e : 16 * keep ≤ 1536 = omega (arith, d) in omega (arith, m, e));
}

module _ (there : ThereIsOne) (v : Vault) (area : Area) (records : List Record) (holds : Option Cells)
    (faults : ℕ) (F : IsFreshOver v area records holds faults) where
  -- its numbers make a shape
  its-shape : IsShape (setup_in_effect records).n (setup_in_effect records).l (setup_in_effect records).b
  its-shape = (let ps = replicate (setup_in_effect records).n nobody in
      let x = there-opened there area records faults ps F.read (let e = length-replicate
      (setup_in_effect records).n nobody in omega (arith, e)) in
      (rw (setup-over x.0 area records faults ps x.1) at (valid-shape (setup_in x.0)
      (setup-valid 8 x.0 (opened-sound x.0 x.1.at_rest) x.1.at_rest.opened))))

  -- how many bytes its stripes have
  pub stripe-over : (own : Option ℕ) → stripe_size (with_master (vault_setup v) (master_of v))
      (chosen (with_master (vault_setup v) (master_of v)) own) ≡ put_stripe records own
  stripe-over own = ap (λ s. stripe_size s (chosen s own)) (fresh-setup there v area records holds faults F)

  pub is-stripe : (own : Option ℕ) (size : ℕ) → size ≡ put_stripe records own → IsStripe size
  is-stripe own size is = subst IsStripe (sym is) (a-stripe (setup_in_effect records).l
      (profile_of (chosen (setup_in_effect records) own)).keep its-shape.2
      (let n = its-shape.1 in let k = its-shape.4 in omega (arith, n, k))
      (some_kept (chosen (setup_in_effect records) own)) (keep-few (chosen (setup_in_effect records) own)))

  module _ (next : Vault) (name : List ℕ) (own : Option ℕ) (number size : ℕ) (providers : List Provider)
      (enough : (setup_in_effect records).n ≤ length providers) (size_is : size ≡ put_stripe records own)
      (begins : (bytes : List ℕ) → AreBytes bytes → length bytes ≤ largest_file →
      BeginsAs v (PutJob name bytes) own number next) where
    pub first-number : number ≡ 1
    first-number = (let x = opened-one there v area records holds faults F providers enough in
        (has-begun x.0 1 (PutJob name []) own number v next (devices holds faults providers)
        (MayName.put name [] refl) x.1.over.at_rest x.1.stands (begins [] refl (omega arith))).first)

    pub all-begun : (bytes : List ℕ) → AreBytes bytes → length bytes ≤ largest_file →
        IsBegun next (devices holds faults providers) size bytes
    all-begun bytes are few = (let x = opened-one there v area records holds faults F providers enough in
        let h = has-begun x.0 1 (PutJob name bytes) own number v next (devices holds faults providers)
        (MayName.put name bytes refl) x.1.over.at_rest x.1.stands (begins bytes are few) in
        record {
          start = x.0;
          name = name;
          own = own;
          state = h.made.state;
          only = h.only;
          stands = h.made.stands;
          place = h.place;
          size_is = size_is ∙ ap (λ (s : Setup). stripe_size s (chosen s own))
              (sym (setup-over x.0 area records faults providers x.1.over));
        })
