-- How a rule's refusal comes from that of its ASCII form: that no public clause cites.
use Rattle.idna.specs.declared.Errors.{Errors}
use Rattle.idna.specs.declared.Errors.TheVariants.{Invalid, OutOfMemory}
use Rattle.public_suffix.specs.declared.rule.RuleRefusal.{RuleRefusal}
use Rattle.public_suffix.specs.declared.rule.RuleRefusal.TheVariants.{NoRule, NoMemory}

-- the refusal of a rule whose text has no ASCII form
abbrev pub refusal_of : Errors → RuleRefusal
refusal_of Invalid = NoRule
refusal_of OutOfMemory = NoMemory
