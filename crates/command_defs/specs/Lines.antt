-- What the commands write at status 0, each line with its newline.
--
--   ready_line                                    == `ready`
--   stored_line name size                         == `stored NAME SIZE`
--   dropped_line name                             == `dropped NAME`
--   list_lines files                              == `NAME SIZE` for each file, in their order
--   audit_lines tolerance number undecided counts == `audit NUMBER undecided U`, then `provider J count C ok`
--                                                    or `.. flagged` for each provider: flagged where its
--                                                    count exceeds the tolerance
--   repaired_line number                          == `repaired NUMBER`
--   upgraded_line                                 == `upgraded`
--   scrub_lines stripes symbols blocks            == `scrub stripes S`, then `provider J symbols C blocks D`
--                                                    for each provider
--   scrub_text answer                             == what a scrub writes that ended with this answer; nothing
--                                                    at a fault
--   packed_line before after                      == `packed BEFORE AFTER`
--   pack_text answer                              == what a pack writes that ended with this answer; nothing
--                                                    at a fault
--   text_of tolerance kind answer                 == what a job of this kind writes that ended with this
--                                                    answer; nothing at a fault
use Rattle.std.specs.Prelude.{ℕ, ◌+◌, List, [], ◌∷◌, ◌++◌, length, codes, nat_lt, if◌then◌else◌}
use Rattle.std.specs.List.{flat_map}
use Rattle.record_defs.specs.Table.{File}
use Rattle.machine_defs.specs.Jobs.{Kind, PutJob, GetJob, DropJob, AuditJob, RepairJob, UpgradeJob}
use Rattle.machine_defs.specs.Answers.{Answer, Scrubbed, Packed, Put, Got, Dropped, Audited, Repaired, Upgraded}
use Rattle.machine_defs.specs.Lines.{line, then_number, file_line}

-- after an init
abbrev pub ready_line : List ℕ
ready_line = line (codes "ready")

-- after a put
abbrev pub stored_line : List ℕ → ℕ → List ℕ
stored_line name size = line (codes "stored " ++ name ++ then_number size)

-- after a drop
abbrev pub dropped_line : List ℕ → List ℕ
dropped_line name = line (codes "dropped " ++ name)

-- the files in effect
abbrev pub list_lines : List File → List ℕ
list_lines files = flat_map file_line files

-- the count of one provider, and whether it is flagged
abbrev pub count_line : ℕ → ℕ → ℕ → List ℕ
count_line tolerance j count =
    line (codes "provider" ++ then_number j ++ codes " count" ++ then_number count
    ++ (if nat_lt tolerance count then codes " flagged" else codes " ok"))

-- the counts of the providers from j on
abbrev pub count_lines : ℕ → ℕ → List ℕ → List ℕ
count_lines tolerance j [] = []
count_lines tolerance j (count ∷ counts) =
    count_line tolerance j count ++ count_lines tolerance (j + 1) counts

-- after an audit
abbrev pub audit_lines : ℕ → ℕ → ℕ → List ℕ → List ℕ
audit_lines tolerance number undecided counts =
    line (codes "audit" ++ then_number number ++ codes " undecided" ++ then_number undecided)
    ++ count_lines tolerance 0 counts

-- after a repair
abbrev pub repaired_line : ℕ → List ℕ
repaired_line number = line (codes "repaired" ++ then_number number)

-- after an upgrade
abbrev pub upgraded_line : List ℕ
upgraded_line = line (codes "upgraded")

-- what a scrub found of one provider
abbrev pub off_line : ℕ → ℕ → ℕ → List ℕ
off_line j symbols blocks =
    line (codes "provider" ++ then_number j ++ codes " symbols" ++ then_number symbols ++ codes " blocks"
    ++ then_number blocks)

-- of the providers from j on
abbrev pub off_lines : ℕ → List ℕ → List ℕ → List ℕ
off_lines j (symbols ∷ more) (blocks ∷ others) = off_line j symbols blocks ++ off_lines (j + 1) more others
off_lines j symbols blocks = []

-- after a scrub
abbrev pub scrub_lines : ℕ → List ℕ → List ℕ → List ℕ
scrub_lines stripes symbols blocks =
    line (codes "scrub stripes" ++ then_number stripes) ++ off_lines 0 symbols blocks

-- what a scrub writes that ended with an answer
abbrev pub scrub_text : Answer → List ℕ
scrub_text (Scrubbed stripes symbols blocks) = scrub_lines stripes symbols blocks
scrub_text answer = []

-- after a pack
abbrev pub packed_line : ℕ → ℕ → List ℕ
packed_line before after = line (codes "packed" ++ then_number before ++ then_number after)

-- what a pack writes that ended with an answer
abbrev pub pack_text : Answer → List ℕ
pack_text (Packed before after) = packed_line before after
pack_text answer = []

-- what a job writes that ended with an answer
abbrev pub text_of : ℕ → Kind → Answer → List ℕ
text_of tolerance (PutJob name bytes) Put = stored_line name (length bytes)
text_of tolerance (GetJob name) (Got bytes) = bytes
text_of tolerance (DropJob name) Dropped = dropped_line name
text_of tolerance AuditJob (Audited number undecided counts) = audit_lines tolerance number undecided counts
text_of tolerance RepairJob (Repaired number) = repaired_line number
text_of tolerance UpgradeJob Upgraded = upgraded_line
text_of tolerance kind answer = []
