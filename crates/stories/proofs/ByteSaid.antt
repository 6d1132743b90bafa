-- What is said of the replay that puts a byte and gets it.
use Rattle.stories.proofs.Words.{◌≡◌, ℕ, List, [], ◌∷◌, ◌++◌, refl, inl, inr, codes, flat_map, digits, IsPutBegin, BeginAt, line, named, byte, opening, byte_lines, SaysBefore, SaysGot}
use Rattle.machine_defs.specs.Jobs.{PutJob}
use Rattle.stories.specs.Words.{Begin, GetJob, Got, Continue, Opened, Reopen}

-- what was written says that the put ended well, and the get with the byte
pub says : SaysGot byte_lines opening 1 2 [] (Got byte)
unfolding digits
says = record {
  before = flat_map line (codes "opened" ∷ codes "job 1" ∷ codes "put" ∷ []);
  text_is = refl;
  put = inl (record {
    front = line (codes "opened");
    outcomes = [];
    text_is = refl;
    whole = inr (codes "opened", refl);
    one_each = tt;
    as_many = refl;
    told = tt;
  });
  told = tt;
}

-- and so it does from its front
pub says_before : SaysBefore byte_lines opening 1
unfolding digits
says_before = record {
  outcomes = Opened ∷ [];
  rest = flat_map line (codes "job 2" ∷ codes "got 6f" ∷ []);
  text_is = refl;
  whole = inr (line (codes "job 2") ++ codes "got 6f", refl);
  no_calls = ((λ is. (let e : Reopen ≡ Continue = is in cc)), tt);
  as_many = refl;
  told = (tt, tt);
}

-- the begin of a get is none of a put
pub no_put : (other : List ℕ) → IsPutBegin (Begin (GetJob named)) named other → ⊥
no_put other (inl is) = (let e : Begin (GetJob named) ≡ Begin (PutJob named other) = is in cc)
no_put other (inr (profile, is)) = (let e : Begin (GetJob named) ≡ BeginAt profile named other = is in cc)
