-- Posts, by which callers tell each other how far they came. This jar's own rule: docs/DEFINITIONS.md.
use Rattle.std.specs.Prelude.{ℕ, nat_lt, Option, None, Some, if◌then◌else◌}
use Rattle.jar_types.specs.declared.op.Op.{Op}
use Rattle.jar_types.specs.declared.op.Op.TheVariants.{Bind, Set, Get, Delete, All, Clear, Listen, Changes, Unlisten, Post, Hear}
use Rattle.jar_types.specs.declared.op.Reply.TheVariants.{Posted, Heard}
use Rattle.jar_types.specs.States.{JarState, Stepped, replied}
use Rattle.jar_types.specs.Tallies.{tally_of, counted}

-- Post: the caller made one more
abbrev pub post_step : JarState → ℕ → Stepped
post_step s caller =
    let posts = counted caller s.posts in
    replied (record s { posts = posts }) (Posted (tally_of caller posts))

-- Hear: nothing changes
abbrev pub hear_step : JarState → Stepped
hear_step s = replied s Heard

-- how many posts an actor has made, where that is fewer than these
abbrev pub fewer_posts : JarState → ℕ → ℕ → Option ℕ
fewer_posts s actor n = if nat_lt (tally_of actor s.posts) n then Some (tally_of actor s.posts) else None

-- how many posts were made, where an op is a Hear that wants more
abbrev pub op_wanting : JarState → Op → Option ℕ
op_wanting s (Bind key) = None
op_wanting s (Set cookie script secure) = None
op_wanting s (Get request) = None
op_wanting s (Delete key id) = None
op_wanting s All = None
op_wanting s Clear = None
op_wanting s (Listen scope) = None
op_wanting s (Changes number) = None
op_wanting s (Unlisten number) = None
op_wanting s Post = None
op_wanting s (Hear actor n) = fewer_posts s actor n
