use Rattle.stories.proofs.Words.{◌≡◌, [], None, refl, inl, named, byte, opening, byte_text, byte_lines, before_byte, behind_byte, byte_heard, byte_end, first_state}
use Rattle.stories.specs.Words.{Begin, GetJob, Got, Continue}
use Rattle.stories.proofs.ByteReplay.{spelled, byte-run, byte-replayed}
use Rattle.stories.proofs.ToldBy.{tells, answered, left}
use Rattle.stories.proofs.ByteSaid.{says, says_before, no_put}
use Rattle.stories.proofs.Gets.{is-got}
use Rattle.stories.proofs.Went.{done-all}
use Rattle.stories.proofs.instances.a_byte_is_put_and_got.Goals as goal

pub returns : goal.returns
returns c = record {
  replay = λ words spells. answered byte_text behind_byte byte_heard byte-replayed (assumption) words spells;
  spells = spelled;
  survives = spelled;
  asks = (inl tt, tt, (λ on. on, tt));
  beside = (((λ other is. absurd (no_put other is)), tt), ((λ is. (let e : Begin (GetJob named) ≡ Continue = is in cc)), tt));
  left = left;
  got = (let G = (is-got opening [] named byte None 1 2 first_state [] before_byte behind_byte byte_end tt
      (inl tt) (done-all first_state [] _ before_byte behind_byte byte_end refl left
      (byte-run first_state [] left))).0 in
      let S = G.said [] byte_lines (Got byte) refl refl says in
      (G, S.0, S.1, S.2, S.3));
  said = (refl, refl, says, (says.before, says.put), says_before);
  calm = (tells, tt, (tt, (tt, tt)));
}
