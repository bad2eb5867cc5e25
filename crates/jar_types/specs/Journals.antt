-- Journals: the state that they lead to, and which of them the jar of one thread can have made.
-- This jar's own rule: docs/DEFINITIONS.md.
use Rattle.std.specs.Prelude.{ℕ, ◌≡◌, List, [], ◌∷◌, ◌&&◌, ◌==◌, Bool, true, map, fold, nat_lt}
use Rattle.std.specs.Prelude.{is_none, option_to_list}
use Rattle.std.specs.Prelude.{bytes_eq}
use Rattle.std.specs.List.{list_all, list_any}
use Rattle.std.specs.List.Sorted.{IsStrictlySortedBy}
use Rattle.std.specs.Ordering.{is_lt}
use Rattle.jar_values.specs.Hosts.{undotted}
use Rattle.jar_types.specs.declared.cookie.Cookie.{Cookie}
use Rattle.jar_types.specs.declared.op.Op.{Op}
use Rattle.jar_types.specs.declared.op.Op.TheVariants.{Bind, Set, Get, Delete, All, Clear, Listen, Changes, Unlisten, Post, Hear}
use Rattle.jar_types.specs.declared.entry.Own.{Own}
use Rattle.jar_types.specs.declared.entry.Own.TheVariants.{Want, WantAll, Begun, Loaded, Lost, Whole, Taken, Acked, CommitLost}
use Rattle.jar_types.specs.declared.entry.Event.{Event}
use Rattle.jar_types.specs.declared.entry.Event.TheVariants.{Call as CallEvent, Jar as JarEvent}
use Rattle.jar_types.specs.declared.entry.Entry.{Entry}
use Rattle.jar_types.specs.Ids.{text_cmp, cookie_cmp}
use Rattle.jar_types.specs.Orders.{ascending}
use Rattle.jar_types.specs.Rows.{is_sound_row, row_of}
use Rattle.jar_types.specs.States.{JarState, opening}
use Rattle.jar_types.specs.Steps.{after, entry_of, event_of, own_may_stand}
use Rattle.jar_types.specs.Waits.{op_waits}

-- what a jar was opened for: the hosts that have stored cookies, how many callers, how many entries
-- they may have in all, the moment of its start, and the key of each host
pub record Rules : Type 0 where
  pub hosts : List (List ℕ)
  pub callers : ℕ
  pub limit : ℕ
  pub start : ℕ
  pub key_of : List ℕ → List ℕ

-- the key of a host or of a dot and a domain
abbrev pub key_at : Rules → List ℕ → List ℕ
key_at r host = r.key_of (undotted host)

-- the keys of the stored hosts, ascending, each once
abbrev pub stored_keys : Rules → List (List ℕ)
stored_keys r = ascending text_cmp (map (key_at r) r.hosts)

-- the events of a journal
abbrev pub events : List Entry → List Event
events journal = map event_of journal

-- the entries that these events make, one after another
abbrev pub run : JarState → List Event → List Entry
run s [] = []
run s (v ∷ vs) = entry_of s v ∷ run (after s v) vs

-- whether an op is well keyed: a cookie to be stored, and one to be taken away, has the key of its host
-- or domain
abbrev pub is_well_keyed : Rules → Op → Bool
is_well_keyed r (Bind key) = true
is_well_keyed r (Set cookie script secure) = bytes_eq cookie.key (key_at r cookie.host)
is_well_keyed r (Get request) = true
is_well_keyed r All = true
is_well_keyed r Clear = true
is_well_keyed r (Delete key id) = bytes_eq key (key_at r id.host)
is_well_keyed r (Listen scope) = true
is_well_keyed r (Changes number) = true
is_well_keyed r (Unlisten number) = true
is_well_keyed r Post = true
is_well_keyed r (Hear actor n) = true

-- the cookie stands for a sound row of a stored host, and has this key
abbrev pub is_stored : Rules → List ℕ → Cookie → Bool
is_stored r key c =
    list_any is_sound_row (option_to_list (row_of c))
    && (bytes_eq c.key key
    && (bytes_eq key (key_at r c.host)
    && list_any (bytes_eq c.host) r.hosts))

-- the ids rise strictly
abbrev pub ids_rise : List Cookie → Bool
ids_rise [] = true
ids_rise (c ∷ cs) = list_all (λ d. is_lt (cookie_cmp c d)) cs && ids_rise cs

-- whether what the jar does itself is of what it was opened for: a load lists stored cookies of its key, in the order of
-- their ids, and the jar becomes whole at its start
abbrev pub own_fits : Rules → Own → Bool
own_fits r (Want key) = true
own_fits r WantAll = true
own_fits r (Begun key) = true
own_fits r (Loaded key cookies) = list_all (is_stored r key) cookies && ids_rise cookies
own_fits r (Lost key) = true
own_fits r (Whole now) = now == r.start
own_fits r Taken = true
own_fits r (Acked place) = true
own_fits r (CommitLost place) = true

-- whether an event may come: its caller is one, the limit isn't reached, the op is well keyed, and waits for nothing; or
-- the jar may do this itself
abbrev pub stands : Rules → JarState → Event → Bool
stands r s (CallEvent caller now op) =
    nat_lt caller r.callers
    && (nat_lt s.calls r.limit
    && (is_well_keyed r op
    && is_none (op_waits s op)))
stands r s (JarEvent own) = own_may_stand s own && own_fits r own

-- whether each of these events may come where it comes
abbrev pub all_stand : Rules → JarState → List Event → Bool
all_stand r s [] = true
all_stand r s (v ∷ vs) = stands r s v && all_stand r (after s v) vs

-- the state after a journal, where these keys were not loaded
unfoldable pub state_of : List (List ℕ) → List Entry → JarState
state_of keys journal = fold after (opening keys) (events journal)

-- the hosts ascend, each reply is that of the jar of one thread, and each entry may stand where it
-- stands
pub record IsLegal (r : Rules) (journal : List Entry) : Type 0 where
  pub hosts : IsStrictlySortedBy text_cmp r.hosts
  pub replies : run (opening (stored_keys r)) (events journal) ≡ journal
  pub standing : all_stand r (opening (stored_keys r)) (events journal) ≡ true
