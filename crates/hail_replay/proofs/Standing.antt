-- What a client stands for; and a client with no vault open stands for a state over devices of which nothing
-- is known.
use Rattle.hail_replay.proofs.Words.{◌≡◌, ℕ, false, List, None, refl, Provider, Names, State, Devices, devices, Client, is_open, names_of, names_outcome, ClientStands, MakesEvent, IsStanding, lists-of}
use Rattle.hail_client.proofs.Anew.{closed-standing}

-- the names in effect are those that the client lists
pub lists : (w : State) (moment : ℕ) (c : Client) (d : Devices) → ClientStands c d w →
    MakesEvent w moment Names (names_outcome (names_of c)) c d
lists w moment c d S =
    record { state = w; spelled = tt; happens = lists-of c.vault c.alone c.next_job d w S; stands = S }

-- no vault is open
pub standing-closed : (c : Client) (ps : List Provider) → is_open c ≡ false → IsStanding c (devices None 0 ps)
standing-closed c ps closed = closed-standing c 0 ps None closed refl
