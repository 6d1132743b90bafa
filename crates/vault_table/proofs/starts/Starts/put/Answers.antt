use Rattle.vault_table.proofs.Words.{refl, ap, sym, ◌∙◌, arith, subst, list_all, Starts, begins_at, kept_names, is_kept_name, with_mark, AreNameMarks}
use Rattle.std.proofs.Common.{◌≡◌, ℕ, ◌-◌, ◌<◌, ◌++◌, true, List, [], ◌∷◌, Option, Some, length, length-append}
use Rattle.vault_table.proofs.KeptNames.{names-push, kept-push, begins-all, marks-push, length-marked, name-short}
use Rattle.vault_table.proofs.starts.Starts.put.Goals as goal

pub invariant_of-self : goal.invariant_of-self
invariant_of-self c =
    let name = c.as_bytes-bytes.result.now in
    let sizes = c.self.inside.sizes.items in
    let letters = c.self.inside.letters.items in
    let marks = c.self.inside.marks.items in
    let is = c.self.invariant in
    let short = name-short name c.as_bytes-bytes.ensures.is_name in
    let has_room : 0 < c.self.inside.spare = subst (λ (s : Starts). 0 < s.spare)
    (sym c.self.view_is) c.requires in
    let new_sizes = c.push_reserved.ensures.items in
    let new_letters = c.in-Ok.ensures.items in
    let count : c.len.result ≡ length sizes = c.len.ensures ∙ c.self.inside.sizes.ok.0 in
    let at : c.len-2.result ≡ length letters = c.len-2.ensures ∙ c.self.inside.letters.ok.0 in
    let new_marks : c.mark.new.marks.items ≡ with_mark (length sizes) (length letters) marks =
    c.mark.ensures.items ∙ (ap (λ n. with_mark n c.len-2.result marks) count
    ∙ ap (λ n. with_mark (length sizes) n marks) at) in
    let more_sizes = length-append sizes (length name ∷ []) in
    let more_letters = length-append letters name in
    let more_marks = length-marked (length sizes) (length letters) marks in
    record {
      letters = ap length new_letters
          ∙ (more_letters ∙ (omega (arith, is.letters, begins-all sizes (length name), short.1)
          ∙ ap (λ (l : List ℕ). begins_at l (length l)) (sym new_sizes)));
      names = subst (λ (l : List ℕ). list_all is_kept_name (kept_names l c.extend_from_slice.new.self.items) ≡
          true) (sym new_sizes) (subst (λ (l : List ℕ). list_all is_kept_name
          (kept_names (sizes ++ length name ∷ []) l) ≡ true) (sym new_letters)
          (subst (λ (l : List (Option (List ℕ))). list_all is_kept_name l ≡ true)
          (sym (names-push sizes letters name (length name) is.letters refl short.0))
          (kept-push (kept_names sizes letters) name is.names c.as_bytes-bytes.ensures.is_name)));
      marks = subst (λ (l : List ℕ). AreNameMarks l c.mark.new.marks.items) (sym new_sizes)
          (subst (λ (l : List ℕ). AreNameMarks (sizes ++ length name ∷ []) l) (sym new_marks)
          (marks-push sizes marks (length name) (length letters) is.letters is.marks));
      room_of_sizes = omega (
        arith,
        ap length new_sizes,
        more_sizes,
        is.room_of_sizes,
        c.push_reserved.ensures.capacity,
        has_room,
      );
      room_of_letters = omega (
        arith,
        ap length new_letters,
        more_letters,
        is.room_of_letters,
        c.in-Ok.ensures.capacity,
        short.2,
        has_room,
      );
      room_of_marks = omega
          (arith, ap length new_marks, more_marks, is.room_of_marks, c.mark.ensures.capacity, has_room);
    }

pub returns : goal.returns
returns c =
    let name = c.as_bytes-bytes.result.now in
    let sizes = c.self.inside.sizes.items in
    let letters = c.self.inside.letters.items in
    let short = name-short name c.as_bytes-bytes.ensures.is_name in
    let new_sizes = c.push_reserved.ensures.items in
    let new_letters = c.in-Ok.ensures.items in
    let names : kept_names c.push_reserved.new.self.items c.extend_from_slice.new.self.items
    ≡ kept_names sizes letters ++ Some name ∷ [] =
    ap (λ (l : List ℕ). kept_names l c.extend_from_slice.new.self.items) new_sizes
    ∙ (ap (λ (l : List ℕ). kept_names (sizes ++ length name ∷ []) l) new_letters
    ∙ names-push sizes letters name (length name) c.self.invariant.letters refl short.0) in
    ap (λ (l : List (Option (List ℕ))). record { names = l; spare = c.self.inside.spare - 1 }) names
    ∙ (ap (λ (n : List ℕ). record {
      names = kept_names sizes letters ++ Some n ∷ [];
      spare = c.self.inside.spare - 1;
    }) c.as_bytes-bytes.ensures.value
    ∙ ap (λ (s : Starts). record { names = s.names ++ Some c.args.name.now ∷ []; spare = s.spare - 1 })
    c.self.view_is)
