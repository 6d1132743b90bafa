use Rattle.stories.proofs.Words.{◌≤◌, List, length, refl, sym, subst, packed, put-setup, GetOf, UpgradeJournal, PackJournal, IsUntouched, IsSteady, spoilt_below, after_put, after_upgrade}
use Rattle.stories.specs.Words.{Record, Setup, put_of}
use Rattle.stories.proofs.Packs.{upgraded-then, packed-then, setup-stays}
use Rattle.stories.proofs.commands.packed_files_are_got.Goals as goal

pub returns : goal.returns
returns c =
    λ put upgrade pack get name bytes own records spoilt a b d e f g h i first second third last puts is_put
    upgrades is_upgrade packs is_pack gets is_get follows_b follows_e follows_g known source done_put
    done_upgrade done_pack tells untouched_b untouched_e untouched_g steady few disk sink.
    (let stored : List Record = after_put records name (length bytes) own in
    let raised : List Record = after_upgrade stored in
    let P = puts.answers (put_of name own) is_put in
    let U = upgrades.answers UpgradeJournal is_upgrade in
    let K = packs.answers PackJournal is_pack in
    let same = sym (put-setup records name (length bytes) own) in
    let sure_d = c.stores_stay_known.ensures.next stored b d
    (c.done_commands_leave_known_stores.ensures.put name bytes own records a b first P done_put known source)
    follows_b in
    let has_d = c.files_stay.ensures.next name bytes stored spoilt b d
    (c.files_stay.ensures.put name bytes own records spoilt a b first P done_put known source tells)
    (subst (λ (s : Setup). IsUntouched s.n spoilt b d) same untouched_b) in
    let sure_f = c.stores_stay_known.ensures.next raised e f
    (c.done_commands_leave_known_stores.ensures.upgrade stored d e second U done_upgrade sure_d.known)
    follows_e in
    let has_f = c.files_stay.ensures.next name bytes raised spoilt e f
    (c.files_stay.ensures.reads UpgradeJournal name bytes stored raised spoilt d e second U refl has_d
    (upgraded-then stored d e)) (subst (λ (s : Setup). IsUntouched s.n spoilt e f) same untouched_e) in
    let accepted = sure_f.known.opened.read.accepted in
    let stays = setup-stays records name (length bytes) own accepted in
    let sure_h = c.stores_stay_known.ensures.next (packed raised) g h
    (c.done_commands_leave_known_stores.ensures.pack raised f g third K done_pack sure_f.known) follows_g in
    let has_h = c.files_stay.ensures.next name bytes (packed raised) spoilt g h
    (c.files_stay.ensures.reads PackJournal name bytes raised (packed raised) spoilt f g third K refl has_f
    (packed-then raised f g accepted refl))
    (subst (λ (s : Setup). IsUntouched s.n spoilt g h) stays untouched_g) in
    c.gets_tell_what_stands.ensures.complete name bytes (packed raised) spoilt h i last
    (gets.answers (GetOf name) is_get) sure_h.known has_h
    (subst (λ (s : Setup). IsSteady s.n spoilt h i) stays steady)
    (subst (λ (s : Setup). spoilt_below s.n spoilt ≤ s.b) stays few) disk sink)
