-- What a job heard, and what it was given.
use Rattle.job_laws.proofs.Words.{◌≡◌, ℕ, List, [], ◌∷◌, refl, Given, Fetched, Answered, Worked, block_given, answer_given, entries_of, given_to, given_to-more}

-- what a job was given by what it heard gives the same blocks and answers
pub block-heard : (n : ℕ) (given : List Given) (object stripe j : ℕ) →
    block_given (given_to n (entries_of n given)) object stripe j ≡ block_given given object stripe j
block-heard n [] object stripe j = refl
block-heard n (Worked o s symbols ∷ more) object stripe j = block-heard n more object stripe j
block-heard n (Fetched k o s block ∷ more) object stripe j =
    cc (given_to-more n (entries_of n more) (Fetched k o s block), block-heard n more object stripe j)
block-heard n (Answered k o r symbol ∷ more) object stripe j =
    cc (given_to-more n (entries_of n more) (Answered k o r symbol), block-heard n more object stripe j)

-- an answer looked up in what a job heard is that which it was given
pub answer-heard : (n : ℕ) (given : List Given) (object round j : ℕ) →
    answer_given (given_to n (entries_of n given)) object round j ≡ answer_given given object round j
answer-heard n [] object round j = refl
answer-heard n (Worked o s symbols ∷ more) object round j = answer-heard n more object round j
answer-heard n (Fetched k o s block ∷ more) object round j =
    cc (given_to-more n (entries_of n more) (Fetched k o s block), answer-heard n more object round j)
answer-heard n (Answered k o r symbol ∷ more) object round j =
    cc (given_to-more n (entries_of n more) (Answered k o r symbol), answer-heard n more object round j)
