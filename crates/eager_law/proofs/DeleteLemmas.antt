-- A Delete whose key is loaded, and is the key of the id: in the part it is what it is in all, and
-- what isn't loaded stays.
use Rattle.std.proofs.Common.{◌≡◌, ℕ, List, true, Option, None, Some, refl, sym, ap, ◌∙◌}
use Rattle.std.specs.Prelude.{find, not}
use Rattle.std.specs.List.{AllByRecursion}
use Rattle.jar_types.specs.declared.cookie.Cookie.{Cookie}
use Rattle.jar_types.specs.declared.cookie.CookieId.{CookieId}
use Rattle.jar_types.specs.declared.op.Reply.TheVariants.{Flag}
use Rattle.jar_types.specs.Changes.{Changed, followed}
use Rattle.jar_types.specs.Deletes.{deleted_where, deleted_reply, delete_step}
use Rattle.jar_types.specs.Ids.{id_of}
use Rattle.jar_types.specs.Journals.{Rules, key_at}
use Rattle.jar_types.specs.Loads.{KeyLoads, is_loaded}
use Rattle.jar_types.specs.Purges.{purge}
use Rattle.jar_types.specs.RowChanges.{has_id}
use Rattle.jar_types.specs.States.{JarState, Stepped}
use Rattle.eager_law.proofs.MemberLemmas.{weaker, kept_all}
use Rattle.eager_law.proofs.FilterLemmas.{found}
use Rattle.eager_law.proofs.PartLemmas.{part, rest, part_of, IsKeyed, same_hosts, gone_part, gone_rest, purge_part, purge_rest, purge_keyed}
use Rattle.eager_law.proofs.SetLemmas.{with_part}

module _ (r : Rules) (l : KeyLoads) (key : List ℕ) (id : CookieId) (there : is_loaded key l ≡ true) (of_host : key ≡ key_at r id.host) where
  id_there : (c : Cookie) → IsKeyed r c → has_id id c ≡ true → is_loaded c.key l ≡ true
  id_there c k e = ap (λ k. is_loaded k l) (k ∙ ap (key_at r) (sym (same_hosts id (id_of c) e)) ∙ sym of_host) ∙ there

  ids_there : (cookies : List Cookie) → AllByRecursion (IsKeyed r) cookies
      → AllByRecursion (λ c. has_id id c ≡ true → is_loaded c.key l ≡ true) cookies
  ids_there cookies all = weaker (IsKeyed r) (λ c. has_id id c ≡ true → is_loaded c.key l ≡ true) id_there cookies all

  deleted_part : (old : Option Cookie) (cookies : List Cookie)
      → deleted_where old id (part l cookies) ≡ part_of l (deleted_where old id cookies)
  deleted_part None cookies = refl
  deleted_part (Some old) cookies =
      ap (λ cs. let all : Changed = record { cookies = cs; changes = (deleted_where (Some old) id cookies).changes } in all)
      (gone_part l (has_id id) cookies)

  deleted_rest : (old : Option Cookie) (cookies : List Cookie) → AllByRecursion (IsKeyed r) cookies
      → rest l (deleted_where old id cookies).cookies ≡ rest l cookies
  deleted_rest None cookies all = refl
  deleted_rest (Some old) cookies all = gone_rest l (has_id id) cookies (ids_there cookies all)

  deleted_keyed : (old : Option Cookie) (cookies : List Cookie) → AllByRecursion (IsKeyed r) cookies
      → AllByRecursion (IsKeyed r) (deleted_where old id cookies).cookies
  deleted_keyed None cookies all = all
  deleted_keyed (Some old) cookies all = kept_all (IsKeyed r) (λ c. not (has_id id c)) cookies all

  -- a Delete, of what is left of its key, what has the id, and what is then left
  abbrev erased : JarState → Changed → Option Cookie → Changed → Stepped
  erased s left old then =
      let all = followed left then in
      record { state = record s { cookies = all.cookies }; reply = Flag (deleted_reply old); changes = all.changes }

  pub delete_part : (s : JarState) (now : ℕ) → AllByRecursion (IsKeyed r) s.cookies
      → delete_step (record s { cookies = part l s.cookies }) now key id ≡ with_part l (delete_step s now key id)
  delete_part s now all =
      let left = purge key now s.cookies in
      let old = find (has_id id) left.cookies in
      ap (λ cs. erased s cs (find (has_id id) cs.cookies) (deleted_where (find (has_id id) cs.cookies) id cs.cookies))
      (purge_part l key now s.cookies there)
      ∙ ap (λ got. erased s left got (deleted_where got id (part l left.cookies)))
      (found (has_id id) (λ c. is_loaded c.key l) left.cookies (ids_there left.cookies (purge_keyed r key now s.cookies all)))
      ∙ ap (erased s left old) (deleted_part old left.cookies)

  pub delete_rest : (s : JarState) (now : ℕ) → AllByRecursion (IsKeyed r) s.cookies
      → rest l (delete_step s now key id).state.cookies ≡ rest l s.cookies
  delete_rest s now all =
      let left = purge key now s.cookies in
      deleted_rest (find (has_id id) left.cookies) left.cookies (purge_keyed r key now s.cookies all)
      ∙ purge_rest l key now s.cookies there

  pub delete_keyed : (s : JarState) (now : ℕ) → AllByRecursion (IsKeyed r) s.cookies
      → AllByRecursion (IsKeyed r) (delete_step s now key id).state.cookies
  delete_keyed s now all =
      let left = purge key now s.cookies in
      deleted_keyed (find (has_id id) left.cookies) left.cookies (purge_keyed r key now s.cookies all)
