-- A unit that is reached has a number below RSIZE_MAX.
use Rattle.lib_defs.proofs.WholeStrings.{text_whole, characters_whole, order_whole}
use Rattle.lib_defs.proofs.laws.strings_law.Goals as goal

pub returns : goal.returns
returns c = record {
  text = λ s w p most sized some great. text_whole s sized most great w some p;
  characters = λ s p most sized great. characters_whole s sized most great p;
  order = λ s value w p q most sized some great. order_whole s sized most great value w some p q;
}
