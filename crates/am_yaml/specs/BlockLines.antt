-- The lines of a block scalar, as far as it was read.
use Rattle.am_yaml.specs.Blocks.{Lines}
use Rattle.am_yaml.specs.declared.block_text.BlockText.{BlockText}

abbrev pub lines_in : BlockText → Lines
lines_in block = record {
  place = block.place;
  text = block.text.items;
  ends = block.ends.items;
  has_text = block.has_text;
  is_spaced = block.is_spaced;
  is_first_spaced = block.is_first_spaced;
}
