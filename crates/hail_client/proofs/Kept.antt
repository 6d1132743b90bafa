-- What the images of a client's disk have.
use Rattle.hail_client.proofs.Words.{◌≡◌, inl, inr, ℕ, List, [], Option, Some, None, sym, ◌∙◌, ap, false≢true, Cells, EachImage, Record, File, file_of, Area, State, StandsForState, IsKept, IsSound, file-alike, Shows, ImageHasFile}
use Rattle.hail_client.proofs.Settled.{AreLeft, left_with, left-sound, image-left}

empty-has-none : (rs : List Record) (name : List ℕ) (file : File) → rs ≡ [] → file_of rs name ≡ Some file → ⊥
empty-has-none rs name file none has =
    absurd (let e : None ≡ Some file = sym (ap (λ (l : List Record). file_of l name) none) ∙ has in cc)

-- a file that is kept is in effect by what is left
left-has : (w : State) (name : List ℕ) (file : File) (rs js : List Record) (area : Area) →
    IsKept w name file → AreLeft w rs js area → file_of rs name ≡ Some file
left-has w name file rs js area kept (inl (same, may)) =
    ap (λ (l : List Record). file_of l name) same ∙ kept.in_effect
left-has w name file rs js area kept (inr (d, in_doubt, same, held, here)) =
    ap (λ (l : List Record). file_of l name) same ∙ kept.with_doubt d in_doubt

-- so it is by the journal, whose table is alike
journal-has : (w : State) (name : List ℕ) (file : File) (rs js : List Record) (area : Area) → IsSound 8 w →
    IsKept w name file → AreLeft w rs js area → file_of js name ≡ Some file
journal-has w name file rs js area sound kept left =
    file-alike js rs name (left-sound w rs js area sound left).journal.alike
    ∙ left-has w name file rs js area kept left

-- the journal that is left has it, with what an image shows of it
left-image : (w : State) (name : List ℕ) (file : File) (image : List ℕ) (rs js : List Record) (area : Area) →
    file_of js name ≡ Some file → Shows (left_with w rs js area) image → ImageHasFile name file image
left-image w name file image rs js area has (inl (inl plain)) =
    record { records = js; stands = (area, plain); has = has }
left-image w name file image rs js area has (inl (inr empty)) =
    absurd (empty-has-none js name file empty.0 has)
left-image w name file image rs js area has (inr (inl d)) =
    absurd (let e : None ≡ Some d.doubt = d.in_doubt in cc)
left-image w name file image rs js area has (inr (inr x)) = absurd (false≢true x.switching)

image-has : (w : State) (name : List ℕ) (file : File) (image : List ℕ) → IsSound 8 w → IsKept w name file →
    Shows w image → ImageHasFile name file image
image-has w name file image sound kept shows = (let L = image-left w image shows in
    left-image w name file image L.records L.journal L.area
    (journal-has w name file L.records L.journal L.area sound kept L.left) L.shows)

-- a file that is kept is in each image that a stop may leave of the disk
pub images-have : (holds : Option Cells) (w : State) (name : List ℕ) (file : File) → IsSound 8 w →
    StandsForState holds w → IsKept w name file → EachImage holds (ImageHasFile name file)
images-have None w name file sound stands kept = tt
images-have (Some cells) w name file sound stands kept = λ image is.
    image-has w name file image sound kept (stands image is)
