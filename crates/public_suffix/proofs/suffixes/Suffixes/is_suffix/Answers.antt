use Rattle.std.proofs.Common.{◌∙◌, sym}
use Rattle.public_suffix.proofs.LabelLemmas.{has_suffix-full}
use Rattle.public_suffix.proofs.suffixes.Suffixes.is_suffix.Goals as goal

pub suffix_len-requires : goal.suffix_len-requires
suffix_len-requires c = has_suffix-full c.args.host.now (sym c.has_suffix.ensures ∙ c.if-has_suffix.true)
