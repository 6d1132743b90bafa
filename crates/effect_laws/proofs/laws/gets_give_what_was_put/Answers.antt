use Rattle.effect_laws.proofs.Gets.{gave, gave_put, gave_since, gave_only}
use Rattle.effect_laws.proofs.laws.gets_give_what_was_put.Goals as goal

pub returns : goal.returns
returns c = record {
  stood = λ limit start after ms gaps c g get name got clean run same ends.
      (let G = gave limit start after gaps c g get name got clean same ends ms run in
      (G.file, G.in_effect, G.right));
  put = λ limit start after ms gaps c g get name got clean run same ends.
      gave_put limit start after gaps c g get name got clean same ends ms run;
  since = λ limit start after later ms gaps c g get name bytes got fits clean run same stored ends.
      gave_since limit start after gaps c g get name got clean same ends later ms bytes fits run stored;
  only = λ limit start after later ms gaps c g get name bytes new got fits clean run same stored only ends.
      gave_only limit start after gaps c g get name got clean same ends later ms bytes fits run stored new
      only;
}
