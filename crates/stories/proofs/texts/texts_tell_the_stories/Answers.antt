use Rattle.stories.proofs.texts.texts_tell_the_stories.Goals as goal

pub returns : goal.returns
returns c = record {
  got = λ words text front middle name bytes own p g start ms old new end taken said got answers form source
      spells leaves asks ok told left taken_is said_is says.
      (let G = c.what_is_put_is_got.ensures words text front middle name bytes own p g start ms old new end
      answers form source spells leaves asks ok told left in
      let R = G.said taken said _ taken_is said_is says in
      (G, G.right got R.0 R.1 R.2 R.3));
  whole = λ words text front middle name bytes own p g ps start ms old new end taken said how answers form
      source spells leaves asks ok told left tell before names taken_is said_is says.
      (let W = c.few_damaged_providers_do_no_harm.ensures words text front middle name bytes own p g ps start
      ms old new end answers form source spells leaves asks ok told left tell before names in
      let R = W.got.said taken said how taken_is said_is says in
      (W, λ few. W.whole how few R.0 R.1 R.2 R.3));
  survives = λ words text front middle name bytes own p start ms old new end taken said answers form source
      spells leaves asks ok told left taken_is said_is says.
      (let V = c.what_is_put_survives.ensures words text front middle name bytes own p start ms old new end
      answers form source spells leaves asks ok told left in
      let R = V.said taken said taken_is said_is says in
      let K = V.kept R.0 R.1 in
      (K.0, K.1, K.3));
}
