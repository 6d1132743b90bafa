-- An init of an empty disk with a key of zeros.
use Rattle.command_laws.proofs.Words.{refl, ap, inl, arith, get_or-replicate, InitWith, IsKeyForm, longest_key, ReadsUpTo, AnswersInit, InitsDisk, Answers, written, IsBlankIn, A, text, spelling, IsKeyed, small_setup, small_numbers, key_text, key_devices, ready_store, ends, []}
use Rattle.hex.specs.Hex.{decode_pairs, is_hex_digit}

-- a key of zeros is a key
pub key-form : IsKeyForm key_text small_setup.master
unfolding decode_pairs
key-form = record {
  digits = key_text;
  behind = [];
  text_is = refl;
  size = refl;
  hexadecimal = λ k d l. ap is_hex_digit (get_or-replicate 64 k 48 d l);
  spelled = refl;
  line_end = inl refl;
}

-- the devices of the sample meet what an init needs: numbers, providers and a key
pub keyed : IsKeyed small_numbers small_setup.master key_devices
keyed = record { bytes = key_text; good = refl; enough = omega arith; source = refl; form = key-form }

-- and is read whole
pub reads-key : ReadsUpTo longest_key key_devices.source ready_store.source key_text
reads-key = record { are_bytes = refl; front = refl; few = omega arith; end = λ l. refl }

-- an init over these devices is done
pub init : Answers (InitWith small_numbers) key_devices ready_store (ends 0)
unfolding spelling
init = AnswersInit.keyed key_text small_setup.master refl (omega arith) reads-key key-form
    (InitsDisk.ready (record {
      written = inl (refl, refl);
      place = refl;
      heard = refl;
      disk = record {
        area = A;
        blank = written 0 (text []) [];
        blank_is = IsBlankIn.short (omega arith) refl refl;
        cells_are = refl;
      };
      providers = refl;
    }))
