-- What is at hand of a stripe.
use Rattle.std.specs.Prelude.{List}
use Rattle.column_defs.specs.Objects.{Object}
use Rattle.column_defs.specs.Opened.{SeenBlock}
use Rattle.file_layout.specs.Files.{shaped_object}
use Rattle.column_codec.specs.declared.coder.StripeCoder.{StripeCoder}
use Rattle.column_codec.specs.declared.seen.SeenStripe.{SeenStripe}
use Rattle.column_codec.specs.declared.opened.Opened.{Opened}
use Rattle.column_codec.specs.OpenedBlocks.{opened_of}
use Rattle.column_codec.specs.PresentBlocks.{present_blocks}

-- the object of a stripe that is made or opened
abbrev pub coder_object : StripeCoder → Object
coder_object coder = shaped_object coder.keys.now.master.0 coder.keys.now.file

-- the blocks that were seen, one of each provider
abbrev pub blocks_of : SeenStripe → List SeenBlock
blocks_of seen = present_blocks seen.coder.keys.now.file.profile.size seen.present.now seen.symbols.now

-- the object of opened blocks
abbrev pub opened_object : Opened → Object
opened_object opened = shaped_object opened.keys.now.master.0 opened.keys.now.file

-- what the blocks of all providers opened to
abbrev pub opened_blocks : Opened → List SeenBlock
opened_blocks opened = opened_of opened.marks.now opened.blocks.now opened.keys.now.file.shape.n
