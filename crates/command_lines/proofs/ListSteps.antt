-- The lines of files grow by one file.
use Rattle.command_lines.proofs.Words.{◌≡◌, ℕ, ◌+◌, List, [], ◌∷◌, ◌++◌, take, Some, sym, ap, ◌∙◌, append_assoc, slice_get, take_more, flat_map_more, file_line, list_lines}
use Rattle.std.proofs.lemmas.Option.{slice_get_within, get_or_from_slice_get}
use Rattle.record_defs.specs.Table.{File}

-- one file more
pub listed_more : (files : List File) (start text : List ℕ) (place : ℕ) (file : File) →
    slice_get files place ≡ Some file → text ≡ start ++ list_lines (take place files) →
    text ++ file_line file ≡ start ++ list_lines (take (place + 1) files)
listed_more files start text place file at before =
    let more : take (place + 1) files ≡ take place files ++ file ∷ [] =
    take_more files place file (slice_get_within files place file at)
    ∙ ap (λ (x : File). take place files ++ x ∷ []) (get_or_from_slice_get files place file file at) in
    ap (λ (front : List ℕ). front ++ file_line file) before
    ∙ append_assoc start (list_lines (take place files)) (file_line file)
    ∙ ap (λ (lines : List ℕ). start ++ lines) (flat_map_more file_line [] (take place files) file
    ∙ ap (λ (fs : List File). list_lines fs) (sym more))
