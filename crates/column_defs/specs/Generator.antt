-- A generator of ChaCha20 (RFC 8439) read symbol by symbol.
use Rattle.std.specs.Prelude.{ℕ, ◌+◌, ◌*◌, ◌^◌}
use Rattle.rand_chacha.specs.ChaCha.{ChaCha, word_at}

-- the symbol of the four words at the generator's place, the first word lowest
abbrev pub next_symbol : ChaCha → ℕ
next_symbol g =
    word_at 10 g.key g.stream g.word_pos + word_at 10 g.key g.stream (g.word_pos + 1) * 2 ^ 32
    + word_at 10 g.key g.stream (g.word_pos + 2) * 2 ^ 64
    + word_at 10 g.key g.stream (g.word_pos + 3) * 2 ^ 96

-- the generator some words further on
abbrev pub moved_on : ChaCha → ℕ → ChaCha
moved_on g words = record g { word_pos = g.word_pos + words }
