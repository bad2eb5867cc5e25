-- The jar of one thread: its state, and what an event makes of it. This jar's own rule:
-- docs/DEFINITIONS.md.
use Rattle.std.specs.Prelude.{ℕ, List, []}
use Rattle.jar_types.specs.declared.bound_key.BoundKey.{BoundKey}
use Rattle.jar_types.specs.declared.change.Change.{Change}
use Rattle.jar_types.specs.declared.cookie.Cookie.{Cookie}
use Rattle.jar_types.specs.declared.listener.Listener.{Listener}
use Rattle.jar_types.specs.declared.op.Reply.{Reply}
use Rattle.jar_types.specs.declared.tally.Tally.{Tally}
use Rattle.jar_types.specs.Batches.{Batches, no_batch}
use Rattle.jar_types.specs.Loads.{Loads, not_whole}

-- the cookies in the order of their ids, and the loading of stored ones; the bound keys in the order of their cells; how
-- many posts and how many Listens each caller made, and the listeners; the batches of changed rows; how many entries
-- callers have, and all have
pub record JarState : Type 0 where
  pub cookies : List Cookie
  pub loads : Loads
  pub bound : List BoundKey
  pub posts : List Tally
  pub listens : List Tally
  pub listeners : List Listener
  pub batches : Batches
  pub calls : ℕ
  pub entries : ℕ

-- the state that a jar is opened with, in which these keys aren't loaded
abbrev pub opening : List (List ℕ) → JarState
opening keys = record {
  cookies = [];
  loads = not_whole keys;
  bound = [];
  posts = [];
  listens = [];
  listeners = [];
  batches = no_batch;
  calls = 0;
  entries = 0;
}

-- what an op leads to: the state, the reply, and the changes of the cookies
pub record Stepped : Type 0 where
  pub state : JarState
  pub reply : Reply
  pub changes : List Change

-- an op that changes no cookie
abbrev pub replied : JarState → Reply → Stepped
replied s reply = record { state = s; reply = reply; changes = [] }

-- what the jar's own entry leads to
pub record OwnStepped : Type 0 where
  pub state : JarState
  pub changes : List Change
