-- The definitions at values from outside, in this jar's own rules: hosts under the suffix rule
-- `test`, and a plan in which `b` is wanted, `c` is marked and `d` is loaded.
use Rattle.std.proofs.Common.{◌≡◌, ℕ, List, [], ◌∷◌, false, None, Some, refl}
use Rattle.std.specs.Prelude.{codes}
use Rattle.jar_types.specs.Journals.{Rules, stored_keys}
use Rattle.jar_types.specs.Loads.{KeyLoads, Loads, may_load}
use Rattle.jar_types.specs.declared.entry.Own.TheVariants.{Want}
use Rattle.public_suffix.specs.declared.rule.Mark.TheVariants.{Plain}
use Rattle.public_suffix.specs.Suffix.{key_of}
use Rattle.key_loader.specs.Groups.{groups_among, hosts_of, keys_among}
use Rattle.key_loader.specs.Planned.{asked, may_be_wanted}

-- the key by the rule `test`
abbrev by_test : List ℕ → List ℕ
by_test host = key_of (record { mark = Plain; labels = codes "test" ∷ [] } ∷ []) host

abbrev hosts : List (List ℕ)
hosts = codes ".a.test" ∷ codes "b.test" ∷ codes "www.a.test" ∷ []

-- ---- groups

two_keys : keys_among by_test hosts ≡ codes "a.test" ∷ codes "b.test" ∷ []
two_keys = refl

two_groups : groups_among by_test hosts
    ≡ record { key = codes "a.test"; hosts = codes ".a.test" ∷ codes "www.a.test" ∷ [] }
    ∷ record { key = codes "b.test"; hosts = codes "b.test" ∷ [] } ∷ []
two_groups = refl

hosts_of_a_key : hosts_of (codes "a.test") (groups_among by_test hosts) ≡ Some (codes ".a.test" ∷ codes "www.a.test" ∷ [])
hosts_of_a_key = refl

hosts_of_no_key : hosts_of (codes "www.a.test") (groups_among by_test hosts) ≡ None
hosts_of_no_key = refl

-- the keys of hosts are those that a jar has stored
keys_are_stored : (r : Rules) → keys_among r.key_of r.hosts ≡ stored_keys r
keys_are_stored r = refl

-- ---- a key that is asked for

abbrev plan : KeyLoads
plan = record {
  unloaded = codes "a" ∷ codes "b" ∷ codes "c" ∷ [];
  wanted = codes "b" ∷ [];
  begun = None;
  lost = codes "c" ∷ [];
}

an_idle_key_is_wanted_last : (asked (codes "a") plan).wanted ≡ codes "b" ∷ codes "a" ∷ []
an_idle_key_is_wanted_last = refl

a_wanted_key_is_not_wanted_again : may_be_wanted (codes "b") plan ≡ false
a_wanted_key_is_not_wanted_again = refl

a_marked_key_is_not_wanted : may_be_wanted (codes "c") plan ≡ false
a_marked_key_is_not_wanted = refl

a_loaded_key_is_not_wanted : may_be_wanted (codes "d") plan ≡ false
a_loaded_key_is_not_wanted = refl

nothing_changes_then : asked (codes "b") plan ≡ plan
nothing_changes_then = refl

-- the jar may note a want just where the plan takes it
wants_stand : (key : List ℕ) (l : Loads) → may_load (Want key) l ≡ may_be_wanted key l.keys
wants_stand key l = refl
