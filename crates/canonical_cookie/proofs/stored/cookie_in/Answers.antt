use Rattle.std.proofs.Common.{◌≡◌, ℕ, ℤ, true, sym, subst, rules, w64}
use Rattle.std.proofs.lemmas.Int.{to_z-of_z}
use mir.Val.{SFits, to_z, of_z}
use Rattle.jar_values.specs.declared.moment.TheConstants.{MAX_MOMENT}
use Rattle.jar_types.specs.Rows.{is_up_to}
use Rattle.canonical_cookie.proofs.RowLemmas.{each_number}
use Rattle.canonical_cookie.proofs.stored.cookie_in.Goals as goal

-- a number that is read is as it was
as_read : (most : ℕ) (number : ℤ) → SFits w64 number → is_up_to most number ≡ true → is_up_to most (to_z w64 (of_z w64 number)) ≡ true
as_read most number fits up_to = subst (λ (n : ℤ). is_up_to most n ≡ true) (sym (to_z-of_z w64 number fits)) up_to

pub moment_of-requires : goal.moment_of-requires
moment_of-requires c = as_read MAX_MOMENT c.args.row.now.creation (search rules) (each_number c.args.row.now c.requires).creation

pub moment_of-requires-2 : goal.moment_of-requires-2
moment_of-requires-2 c = as_read MAX_MOMENT c.args.row.now.access (search rules) (each_number c.args.row.now c.requires).access

pub moment_of-requires-3 : goal.moment_of-requires-3
moment_of-requires-3 c = as_read MAX_MOMENT c.args.row.now.expiry (search rules) (each_number c.args.row.now c.requires).expiry

pub priority_of-requires : goal.priority_of-requires
priority_of-requires c = as_read 2 c.args.row.now.priority (search rules) (each_number c.args.row.now c.requires).priority
