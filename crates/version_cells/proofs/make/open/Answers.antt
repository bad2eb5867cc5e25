use Rattle.std.proofs.Common.{◌∙◌, refl}
use Rattle.version_cells.specs.declared.cells.TheConstants.{WORDS}
use Rattle.version_cells.proofs.Opening.{opened}
use Rattle.version_cells.proofs.make.open.Goals as goal

pub of_words-requires : goal.of_words-requires
of_words-requires c = opened _ WORDS (c.as_slice.ensures.value ∙ c.in_ok-words.ensures.items_if_clones_equal (λ y e. e)) refl
