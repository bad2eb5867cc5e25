-- Numbers and definitions at worked values. This jar's own rule: docs/DEFINITIONS.md.
use Rattle.std.proofs.Common.{◌≡◌, ℕ, [], ◌∷◌, pos, refl}
use Rattle.std.specs.declared.cmp.Ordering.TheVariants.{Less, Equal}
use Rattle.jar_types.specs.declared.cookie.CookieId.{CookieId}
use Rattle.jar_types.specs.declared.row.Row.{Row}
use Rattle.jar_types.specs.declared.row.RowChange.TheVariants.{Put, Drop}
use Rattle.jar_types.specs.RowChanges.{change_cmp, newest_over}
use Rattle.commit_batches.specs.declared.pending.TheConstants.{MOST_PENDING}

most_pending_is_512 : MOST_PENDING ≡ 512
most_pending_is_512 = refl

-- the row of the host "h" and the path "/" that has this name and this value, each of one byte
abbrev row : ℕ → ℕ → Row
row name value = record {
  host = 104 ∷ [];
  name = name ∷ [];
  path = 47 ∷ [];
  value = value ∷ [];
  creation = pos 0;
  expiry = pos 9;
  access = pos 0;
  secure = pos 0;
  http_only = pos 0;
  same_site = pos 0;
  priority = pos 1;
}

-- the id of such a row
abbrev id : ℕ → CookieId
id name = record { host = 104 ∷ []; name = name ∷ []; path = 47 ∷ [] }

-- of two changes of an id the newer one stays, and others come in their places: a=1, c=1, then c goes, b=2, a=2
newest_stay :
    newest_over (Put (row 97 49) ∷ Put (row 99 49) ∷ []) (Drop (id 99) ∷ Put (row 98 50) ∷ Put (row 97 50) ∷ [])
    ≡ Put (row 97 50) ∷ Put (row 98 50) ∷ Drop (id 99) ∷ []
newest_stay = refl

-- a change of a lesser name comes first, whatever it is; two of a name don't rise
names_rise : change_cmp (Drop (id 97)) (Put (row 98 49)) ≡ Less
names_rise = refl

one_change_an_id : change_cmp (Drop (id 97)) (Put (row 97 49)) ≡ Equal
one_change_an_id = refl
