-- Bytes that were read of a source, one piece after another.
use Rattle.command_jobs.proofs.Words.{◌≡◌, ℕ, ◌+◌, ◌≤◌, length, arith, ◌&&◌, List, [], ◌++◌, take, drop, Option, None, Some, refl, ap, sym, ◌∙◌, list_all, and_parts, take-append-drop, length-take-le, take-take, take-append-add, is_byte, then_told, AreBytes, ReadsAtMost, ReadsFront}
use Rattle.std.proofs.Common.{append_assoc}
use borrow.Rule.Slice.PartMut.{put_mid}
use Rattle.std.proofs.lemmas.Slice.{take-put_mid}
use Rattle.std.proofs.lemmas.List.Folds.{list_all-append}

pub bytes-append : (xs ys : List ℕ) → AreBytes xs → AreBytes ys → AreBytes (xs ++ ys)
bytes-append xs ys a b = list_all-append is_byte xs ys ∙ (ap (λ t. t && list_all is_byte ys) a ∙ b)

pub bytes-front : (n : ℕ) (xs : List ℕ) → AreBytes xs → AreBytes (take n xs)
bytes-front n xs h =
    (and_parts (list_all is_byte (take n xs)) (list_all is_byte (drop n xs))
    (sym (list_all-append is_byte (take n xs) (drop n xs)) ∙ (ap (list_all is_byte) (take-append-drop n xs) ∙ h))).0

told-none : (o : Option (List ℕ)) → o ≡ then_told [] o
told-none None = refl
told-none (Some xs) = refl

told-both : (a b : List ℕ) (o : Option (List ℕ)) → then_told a (then_told b o) ≡ then_told (a ++ b) o
told-both a b None = refl
told-both a b (Some xs) = ap (λ (ys : List ℕ). Some ys) (sym (append_assoc a b xs))

-- bytes that were read, and more behind them
pub told-on : (a b c : Option (List ℕ)) (xs ys : List ℕ) → a ≡ then_told xs b → b ≡ then_told ys c →
    a ≡ then_told (xs ++ ys) c
told-on a b c xs ys e f = e ∙ (ap (then_told xs) f ∙ told-both xs ys c)

-- a source that gave nothing gave no more than it may
pub none-taken : (most : ℕ) (told : Option (List ℕ)) → ReadsAtMost most told told
none-taken most told = record { bytes = []; front = told-none told; few = omega arith }

pub reads-none : (told : Option (List ℕ)) → ReadsFront told told []
reads-none told = record { are_bytes = refl; front = told-none told }

pub reads-on : (was mid left : Option (List ℕ)) (xs ys : List ℕ) → ReadsFront was mid xs →
    ReadsFront mid left ys → ReadsFront was left (xs ++ ys)
reads-on was mid left xs ys a b = record {
  are_bytes = bytes-append xs ys a.are_bytes b.are_bytes;
  front = a.front ∙ (ap (then_told xs) b.front ∙ told-both xs ys left);
}

-- ---- a piece that fills up

-- so many bytes more lie behind those before
pub put-more : (a k g : ℕ) (xs ys : List ℕ) → a ≤ length xs → length ys ≡ k → g ≤ k →
    take (a + g) (put_mid a k xs ys) ≡ take a xs ++ take g ys
put-more a k g xs ys l e few = sym (take-take (a + g) (a + length ys) (put_mid a k xs ys) (omega arith))
    ∙ (ap (take (a + g)) (take-put_mid a k xs ys (a + length ys) refl l)
    ∙ (ap (λ n. take (n + g) (take a xs ++ ys)) (sym (length-take-le a xs l))
    ∙ take-append-add (take a xs) ys g))
