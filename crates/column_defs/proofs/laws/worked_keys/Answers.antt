use Rattle.column_defs.proofs.Words.{refl, file_key, seed, stream_symbol, secret_point, alpha, picked_row}
use Rattle.sha2.specs.Sha256.{first_words, schedule, rounds, compress, hash_after, digest_bytes, sha256}
use Rattle.rand_core.specs.Steps.{u32_at}
use Rattle.rand_chacha.specs.Block.{quarter_round, column_round, diagonal_round, double_rounds, block_word}
use Rattle.column_defs.proofs.laws.worked_keys.Goals as goal

pub returns-clause-mask_key : goal.returns-clause-mask_key
unfolding file_key sha256 first_words schedule rounds compress hash_after digest_bytes
returns-clause-mask_key c = refl

pub returns-clause-point : goal.returns-clause-point
unfolding secret_point file_key sha256 first_words schedule rounds compress hash_after digest_bytes
returns-clause-point c = refl

pub returns-clause-seed : goal.returns-clause-seed
unfolding seed sha256 first_words schedule rounds compress hash_after digest_bytes
returns-clause-seed c = refl

pub returns-clause-mask : goal.returns-clause-mask
unfolding stream_symbol block_word double_rounds column_round diagonal_round quarter_round u32_at
returns-clause-mask c = refl

pub returns-clause-alpha : goal.returns-clause-alpha
unfolding alpha stream_symbol block_word double_rounds column_round diagonal_round quarter_round u32_at
returns-clause-alpha c = refl

pub returns-clause-row : goal.returns-clause-row
unfolding picked_row block_word double_rounds column_round diagonal_round quarter_round u32_at
returns-clause-row c = refl
