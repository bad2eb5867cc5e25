-- Each token adds the part that it is, and at the end all tokens were read.
use Rattle.std.proofs.Common.{ℕ, List, ◌∙◌, ap, sym, map, rules, tests}
use Rattle.std.specs.Borrow.{Bor}
use Rattle.std.proofs.lemmas.Iterator.Splits.{YieldsList-from_slice_split}
use Rattle.std.proofs.lemmas.Iterator.Consumers.{YieldsList-end}
use Rattle.cookie_date.specs.declared.parts.Parts.{Parts}
use Rattle.cookie_date.specs.Token as token
use Rattle.cookie_date.specs.Date as spec
use Rattle.cookie_date.specs.Parts.{parts_of, with_token}
use Rattle.cookie_date.proofs.PartsLemmas.{parts_push, tokens_push}
use Rattle.cookie_date.proofs.date.cookie_date.Goals as goal

pub loop-token-preserved : goal.loop-token-preserved
loop-token-preserved c =
    let before = map (λ (t : Bor (List ℕ)). t.now) c.loop-token.yielded in
    let here = c.in-Some.token.now in
    record {
      can_next = search rules;
      is_finite = search rules;
      fit = c.with_token-parts.ensures.fit;
      so_far =
          c.with_token-parts.ensures.value
          ∙ ap (λ (parts : Parts). with_token parts here) c.loop-token.invariant.so_far
          ∙ sym (parts_push before here)
          ∙ ap parts_of (sym (tokens_push c.loop-token.yielded c.in-Some.token));
    }

pub returns : goal.returns
returns c =
    let all_read = YieldsList-end
    (YieldsList-from_slice_split _ token.is_delimiter c.args.bytes.now (cc) (cc) (cc) (λ x r q k. search (rules, tests)))
    c.loop-token.yielded _ c.loop-token.yielded_by _ _ c.in-None.is c.next.ensures.steps in
    c.moment_of_parts.ensures
    ∙ ap spec.moment_of_parts (c.loop-token.invariant.so_far ∙ ap parts_of all_read.0)
