-- Each text adds what it is, and at the end all texts were read.
use Rattle.std.proofs.Common.{◌∙◌, ap, sym, map, lit<}
use Rattle.std.proofs.lemmas.Iterator.Splits.{YieldsList-from_str_split}
use Rattle.std.proofs.lemmas.Iterator.Consumers.{YieldsList-end}
use Rattle.set_cookie_line.specs.Attribute.{read_attribute}
use Rattle.set_cookie_line.specs.Kept as spec
use Rattle.set_cookie_line.proofs.KeptLemmas.{attributes_push, texts_push}
use Rattle.set_cookie_line.proofs.kept.attributes_between.Goals as goal

pub loop-attribute-preserved : goal.loop-attribute-preserved
loop-attribute-preserved c =
    let before = map read_attribute (map (λ text. text.now) c.loop-attribute.yielded) in
    let here = read_attribute c.in-Some.attribute.now in
    c.keep_text.ensures
    ∙ ap (λ kept. spec.with_attribute kept here) c.loop-attribute.invariant
    ∙ sym (attributes_push before here)
    ∙ ap spec.attributes_of (sym (texts_push c.loop-attribute.yielded c.in-Some.attribute))

pub returns : goal.returns
returns c =
    let all_read = YieldsList-end
    (YieldsList-from_str_split 0x3B c.args.text.now (lit< tt) (cc) (cc) (cc))
    c.loop-attribute.yielded _ c.loop-attribute.yielded_by _ _ c.in-None.is c.next.ensures.steps in
    c.loop-attribute.invariant ∙ ap (λ texts. spec.attributes_of (map read_attribute texts)) all_read.0
