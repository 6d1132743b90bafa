-- What the images of a disk stand for whose text of an area is firm.
use Rattle.journal_core.proofs.Words.{◌++◌, drop, sym, ap, ◌∙◌, take-append-drop, map-append, drop-map, Cells, firm, IsImage, Area, base_of, magic_front, entries, IsSwitched, StandsActive, IsNamed, StandsFirm}
use Rattle.std.proofs.Common.{ℕ, false, List, [], ◌∷◌}
use Rattle.record_defs.specs.Records.{Record}
use Rattle.journal_core.proofs.Texts.{text-image, named-image}

-- while the name and the text of an area are firm, each image stands for its records
pub firm-image : (area : Area) (rs : List Record) (cells : Cells) (image : List ℕ) →
    StandsFirm area rs cells → IsImage cells image → StandsActive image area rs
firm-image area rs cells image f of = record {
  active = named-image area cells image f.named of;
  holds = text-image area rs cells image f.text of;
}

-- bytes with a firm front are that front and what lies behind it
front-cells : (bytes : List ℕ) (area : Area) → IsSwitched bytes area → IsNamed (firm bytes) area
front-cells bytes area s = record {
  switch = s.switch;
  rest = firm (drop 8 bytes);
  names = s.names;
  cells_are = ap firm (sym (take-append-drop 8 bytes) ∙ ap (λ (l : List ℕ). l ++ drop 8 bytes) s.front)
      ∙ map-append (λ b. (b, false)) (magic_front ++ s.switch ∷ []) (drop 8 bytes);
}

-- a disk with nothing loose that reads records is ready for a pack of them
pub read-firm : (bytes : List ℕ) (area : Area) (rs : List Record) → StandsActive bytes area rs →
    StandsFirm area rs (firm bytes)
read-firm bytes area rs s = record {
  named = front-cells bytes area s.active;
  text = record {
    in_grammar = s.holds.in_grammar;
    gate = s.holds.gate;
    rest = firm s.holds.rest;
    closed = s.holds.closed;
    cells_are = drop-map (λ b. (b, false)) (base_of area) bytes
        ∙ ap firm s.holds.bytes_are
        ∙ map-append (λ b. (b, false)) (entries rs) (s.holds.gate ∷ s.holds.rest);
  };
}
