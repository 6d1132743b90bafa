-- The bytes of a request that is spelled.
use Rattle.std.proofs.Common.{◌≡◌, ℕ, ◌≤◌, List, [], ◌∷◌, ◌++◌, length, refl, sym, subst, arith, length-append, inl, inr}
use Rattle.std.specs.Int.{w64, to_le_bytes}
use Rattle.std.proofs.lemmas.Bool.Decides.{nat_tests}
use Rattle.wire_defs.specs.Requests.{Request, Store, Fetch, Ask, Remove, SpellsRequest, request_bytes}
use Rattle.remote_adapters.specs.Shapes.{HasShape}

-- bytes that spell a request have its shape
pub shape_of : (bytes : List ℕ) (r : Request) → SpellsRequest bytes r → HasShape bytes
unfolding request_bytes
shape_of bytes (Store object stripe block) s =
    let few : length block ≤ 128 = grind (arith, nat_tests, s.is_request) in
    subst HasShape (sym s.bytes_are) (inl (refl, omega arith, few))
shape_of bytes (Fetch object stripe size) s =
    let few : size ≤ 128 = grind (arith, nat_tests, s.is_request) in
    subst HasShape (sym s.bytes_are) (inr (inl (refl, omega arith, few)))
shape_of bytes (Ask object c) s =
    let long : length c.seed ≡ 32 = grind (arith, nat_tests, s.is_request) in
    subst HasShape (sym s.bytes_are)
    (inr (inr (inl (refl, omega (arith, long, length-append c.seed (to_le_bytes w64 c.rows ++ c.size ∷ c.picks ∷ []))))))
shape_of bytes (Remove object) s = subst HasShape (sym s.bytes_are) (inr (inr (inr (refl, refl))))
