-- The texts of ops, replies, changes, items and reports, as docs/DEFINITIONS.md has the format, and the report of the
-- smallest script, a set and a get of one cookie, as examples/smallest.report.json shows it. So that a wrong member, word
-- or order in the specs does not check.
use Rattle.std.proofs.Common.{◌≡◌, ℕ, List, [], ◌∷◌, ◌++◌, true, false, codes, None, Some, bytes_eq, count_by, map, refl}
use Rattle.std.specs.Fmt.{digits}
use Rattle.serde_json.specs.Written.{compact_text}
use Rattle.serde_json.proofs.OnLiterals.{serde_json_on_literals}
use Rattle.jar_values.specs.declared.attributes.Priority.TheVariants.{Low, Medium, High}
use Rattle.jar_values.specs.declared.attributes.SameSite.TheVariants.{Unspecified, NoLimit, Lax as LaxSite, Strict as StrictSite}
use Rattle.jar_types.specs.declared.ask_cause.AskCause.TheVariants as ask
use Rattle.jar_types.specs.declared.change.Cause.TheVariants as cause
use Rattle.jar_types.specs.declared.change.Change.{Change}
use Rattle.jar_types.specs.declared.cookie.Cookie.{Cookie}
use Rattle.jar_types.specs.declared.cookie.CookieId.{CookieId}
use Rattle.jar_types.specs.declared.entry.Entry.TheVariants.{Call, Jar}
use Rattle.jar_types.specs.declared.entry.Own.{Own}
use Rattle.jar_types.specs.declared.entry.Own.TheVariants.{Want, WantAll, Begun, Loaded, Lost, Whole, Taken, Acked, CommitLost}
use Rattle.jar_types.specs.declared.listener.Scope.TheVariants.{All, Seen, Named}
use Rattle.jar_types.specs.declared.op.Op.{Op}
use Rattle.jar_types.specs.declared.op.Op.TheVariants as op
use Rattle.jar_types.specs.declared.op.Reply.{Reply}
use Rattle.jar_types.specs.declared.op.Reply.TheVariants as reply
use Rattle.jar_types.specs.declared.request.Request.{Request}
use Rattle.jar_types.specs.declared.request.Context.TheVariants.{Strict, Lax, LaxUnsafe, Cross}
use Rattle.run_report.specs.declared.item.Item.{Item}
use Rattle.run_report.specs.declared.item.Item.TheVariants.{At, Asked, Reused, Refused}
use Rattle.run_report.specs.declared.refusal_name.RefusalName.TheVariants as name
use Rattle.run_report.specs.Changes.{cause_word}
use Rattle.run_report.specs.Cookies.{priority_word, same_site_word}
use Rattle.run_report.specs.Items.{item_data}
use Rattle.run_report.specs.Ops.{op_data}
use Rattle.run_report.specs.Owns.{own_data}
use Rattle.run_report.specs.RefusalNames.{refusal_word}
use Rattle.run_report.specs.Replies.{reply_data}
use Rattle.run_report.specs.Reports.{report_text}
use Rattle.run_report.specs.Requests.{context_word}

-- the cookie and the request of the smallest script
abbrev smallest_cookie : Cookie
smallest_cookie = record {
  key = codes "h.test";
  host = codes "h.test";
  name = codes "a";
  path = codes "/";
  value = codes "1";
  creation = 1000;
  access = 1000;
  expiry = None;
  secure = false;
  http_only = false;
  same_site = Unspecified;
  priority = Medium;
}

abbrev smallest_request : Request
smallest_request = record {
  key = codes "h.test";
  host = codes "h.test";
  path = codes "/";
  secure = false;
  script = false;
  context = Strict;
}

-- the report of the smallest script, member by member
smallest : report_text [] ((At 1 ∷ At 3 ∷ []) ∷ []) (Call 0 1000 (op.Set smallest_cookie false false) reply.Stored ∷ Jar (Whole 0) ∷ Call 0 2000 (op.Get smallest_request) (reply.Cookies (smallest_cookie ∷ [])) ∷ [])
    ≡ codes "{\"actors\":[[{\"at\":1},{\"at\":3}]],\"hosts\":[],\"journal\":["
    ++ (codes "{\"by\":0,\"now\":1000,\"op\":{\"cookie\":{\"access\":1000,\"creation\":1000,\"expiry\":null,\"host\":\"h.test\",\"http_only\":false,"
    ++ (codes "\"key\":\"h.test\",\"name\":\"a\",\"path\":\"/\",\"priority\":\"medium\",\"same_site\":\"unspecified\",\"secure\":false,\"value\":\"1\"},"
    ++ (codes "\"kind\":\"set\",\"script\":false,\"secure\":false},\"reply\":\"stored\"},{\"now\":0,\"own\":\"whole\"},"
    ++ (codes "{\"by\":0,\"now\":2000,\"op\":{\"kind\":\"get\",\"request\":{\"context\":\"strict\",\"host\":\"h.test\",\"key\":\"h.test\",\"path\":\"/\","
    ++ (codes "\"script\":false,\"secure\":false}},\"reply\":{\"cookies\":[{\"access\":1000,\"creation\":1000,\"expiry\":null,\"host\":\"h.test\","
    ++ (codes "\"http_only\":false,\"key\":\"h.test\",\"name\":\"a\",\"path\":\"/\",\"priority\":\"medium\",\"same_site\":\"unspecified\",\"secure\":false,"
    ++ codes "\"value\":\"1\"}]}}]}\n"))))))
unfolding digits serde_json_on_literals
smallest = refl

-- a cookie of which no two members are alike, and its text
abbrev cookie : Cookie
cookie = record {
  key = codes "h.test";
  host = codes ".h.test";
  name = codes "n";
  path = codes "/p";
  value = codes "v";
  creation = 1;
  access = 2;
  expiry = Some 253402300799999;
  secure = false;
  http_only = true;
  same_site = LaxSite;
  priority = High;
}

abbrev cookie_text : List ℕ
cookie_text =
    codes "{\"access\":2,\"creation\":1,\"expiry\":253402300799999,\"host\":\".h.test\",\"http_only\":true,\"key\":\"h.test\","
    ++ codes "\"name\":\"n\",\"path\":\"/p\",\"priority\":\"high\",\"same_site\":\"lax\",\"secure\":false,\"value\":\"v\"}"

-- a request likewise, and its text
abbrev request : Request
request = record {
  key = codes "h.test";
  host = codes "a.h.test";
  path = codes "/p";
  secure = true;
  script = false;
  context = LaxUnsafe;
}

abbrev request_text : List ℕ
request_text =
    codes "{\"context\":\"lax_unsafe\",\"host\":\"a.h.test\",\"key\":\"h.test\",\"path\":\"/p\",\"script\":false,\"secure\":true}"

-- the report of no step but one in which the jar became whole
whole : report_text [] ([] ∷ []) (Jar (Whole 12) ∷ []) ≡ codes "{\"actors\":[[]],\"hosts\":[],\"journal\":[{\"now\":12,\"own\":\"whole\"}]}\n"
unfolding digits serde_json_on_literals
whole = refl

-- entries of the jar's own
abbrev OwnIs : Own → List ℕ → Type 0
OwnIs own text = compact_text (own_data own) ≡ text

loads : OwnIs (Want (codes "h.test")) (codes "{\"key\":\"h.test\",\"own\":\"want\"}") × OwnIs WantAll (codes "{\"own\":\"want_all\"}")
    × OwnIs (Begun (codes "h.test")) (codes "{\"key\":\"h.test\",\"own\":\"begun\"}")
    × OwnIs (Loaded (codes "h.test") []) (codes "{\"cookies\":[],\"key\":\"h.test\",\"own\":\"loaded\"}")
    × OwnIs (Loaded (codes "h.test") (cookie ∷ [])) (codes "{\"cookies\":[" ++ (cookie_text ++ codes "],\"key\":\"h.test\",\"own\":\"loaded\"}"))
    × OwnIs (Lost (codes "h.test")) (codes "{\"key\":\"h.test\",\"own\":\"lost\"}")
unfolding digits serde_json_on_literals
loads = (refl, refl, refl, refl, refl, refl)

commits : OwnIs Taken (codes "{\"own\":\"taken\"}") × OwnIs (Acked 12) (codes "{\"own\":\"acked\",\"place\":12}")
    × OwnIs (CommitLost 12) (codes "{\"own\":\"commit_lost\",\"place\":12}")
unfolding digits serde_json_on_literals
commits = (refl, refl, refl)

-- reports of no actor, and of two hosts and two actors, of which the first made no step
no_actor : report_text [] [] [] ≡ codes "{\"actors\":[],\"hosts\":[],\"journal\":[]}\n"
unfolding digits serde_json_on_literals
no_actor = refl

two_actors : report_text (codes ".a.test" ∷ codes "b.test" ∷ []) ([] ∷ (At 2 ∷ Refused name.Spent ∷ []) ∷ []) []
    ≡ codes "{\"actors\":[[],[{\"at\":2},{\"refused\":\"Spent\"}]],\"hosts\":[\".a.test\",\"b.test\"],\"journal\":[]}\n"
unfolding digits serde_json_on_literals
two_actors = refl

-- items: of a step that made an entry, of a read that used again what it kept, of a step that was refused
abbrev ItemIs : Item → List ℕ → Type 0
ItemIs item text = compact_text (item_data item) ≡ text

items : ItemIs (At 12) (codes "{\"at\":12}") × ItemIs (Reused (codes "_ga=GA1.2.3")) (codes "{\"reused\":\"_ga=GA1.2.3\"}")
    × ItemIs (Reused []) (codes "{\"reused\":\"\"}") × ItemIs (Refused name.Control) (codes "{\"refused\":\"Control\"}")
    × ItemIs (Refused name.OriginMismatch) (codes "{\"refused\":\"OriginMismatch\"}")
unfolding digits serde_json_on_literals
items = (refl, refl, refl, refl, refl)

-- and of a read that asked, for each cause
asked : ItemIs (Asked 8 ask.Other) (codes "{\"at\":8,\"cause\":\"other\"}") × ItemIs (Asked 8 ask.NoCell) (codes "{\"at\":8,\"cause\":\"no_cell\"}")
    × ItemIs (Asked 8 ask.Cold) (codes "{\"at\":8,\"cause\":\"cold\"}")
    × ItemIs (Asked 8 (ask.Late 61000)) (codes "{\"at\":8,\"cause\":\"late\",\"until\":61000}")
    × ItemIs (Asked 8 (ask.Moved 0 3)) (codes "{\"at\":8,\"cause\":\"moved\",\"found\":3,\"kept\":0}")
unfolding digits serde_json_on_literals
asked = (refl, refl, refl, refl, refl)

-- each of these texts stands there once, so that no two are alike
abbrev StandOnce : List (List ℕ) → Type 0
StandOnce texts = map (λ text. count_by (bytes_eq text) texts) texts ≡ map (λ _. 1) texts

-- items of another form, cause or number have another text
items_differ : StandOnce (map (λ item. compact_text (item_data item))
    (At 8 ∷ Asked 8 ask.Other ∷ Asked 8 ask.NoCell ∷ Asked 8 ask.Cold ∷ Asked 9 ask.Cold ∷ Asked 8 (ask.Late 8) ∷ Asked 8 (ask.Late 9)
    ∷ Asked 8 (ask.Moved 8 9) ∷ Asked 8 (ask.Moved 9 8) ∷ Reused [] ∷ Reused (codes "8") ∷ Refused name.Spent ∷ Refused name.OriginMismatch ∷ []))
unfolding digits serde_json_on_literals
items_differ = refl

-- the names of refusals: of a line, of a cookie, of another origin, and of a jar that takes no more
refusals : (refusal_word name.Control ≡ codes "Control") × (refusal_word name.Empty ≡ codes "Empty") × (refusal_word name.TooLong ≡ codes "TooLong")
    × (refusal_word name.DomainNotAscii ≡ codes "DomainNotAscii") × (refusal_word name.DomainSuffix ≡ codes "DomainSuffix")
    × (refusal_word name.DomainMismatch ≡ codes "DomainMismatch") × (refusal_word name.KeyMismatch ≡ codes "KeyMismatch")
    × (refusal_word name.SecureFromInsecure ≡ codes "SecureFromInsecure") × (refusal_word name.HttpOnlyFromScript ≡ codes "HttpOnlyFromScript")
    × (refusal_word name.NoneInsecure ≡ codes "NoneInsecure") × (refusal_word name.CrossSite ≡ codes "CrossSite")
    × (refusal_word name.PrefixSecure ≡ codes "PrefixSecure") × (refusal_word name.PrefixHost ≡ codes "PrefixHost")
    × (refusal_word name.PrefixNameless ≡ codes "PrefixNameless") × (refusal_word name.OriginMismatch ≡ codes "OriginMismatch")
    × (refusal_word name.Spent ≡ codes "Spent")
refusals = (refl, refl, refl, refl, refl, refl, refl, refl, refl, refl, refl, refl, refl, refl, refl, refl)

refusals_differ : StandOnce (map refusal_word
    (name.Control ∷ name.Empty ∷ name.TooLong ∷ name.DomainNotAscii ∷ name.DomainSuffix ∷ name.DomainMismatch ∷ name.KeyMismatch
    ∷ name.SecureFromInsecure ∷ name.HttpOnlyFromScript ∷ name.NoneInsecure ∷ name.CrossSite ∷ name.PrefixSecure ∷ name.PrefixHost
    ∷ name.PrefixNameless ∷ name.OriginMismatch ∷ name.Spent ∷ []))
refusals_differ = refl

-- an op, and a reply, is written so
abbrev OpIs : Op → List ℕ → Type 0
OpIs o text = compact_text (op_data o) ≡ text

abbrev ReplyIs : Reply → List ℕ → Type 0
ReplyIs r text = compact_text (reply_data r) ≡ text

-- ops: on cookies
abbrev id : CookieId
id = record { host = codes ".h.test"; name = codes "n"; path = codes "/p" }

set_and_get : OpIs (op.Set cookie true false) (codes "{\"cookie\":" ++ (cookie_text ++ codes ",\"kind\":\"set\",\"script\":true,\"secure\":false}"))
    × OpIs (op.Set cookie false true) (codes "{\"cookie\":" ++ (cookie_text ++ codes ",\"kind\":\"set\",\"script\":false,\"secure\":true}"))
    × OpIs (op.Get request) (codes "{\"kind\":\"get\",\"request\":" ++ (request_text ++ codes "}"))
unfolding digits serde_json_on_literals
set_and_get = (refl, refl, refl)

bind_and_delete : OpIs (op.Bind (codes "h.test")) (codes "{\"key\":\"h.test\",\"kind\":\"bind\"}")
    × OpIs (op.Delete (codes "h.test") id) (codes "{\"host\":\".h.test\",\"key\":\"h.test\",\"kind\":\"delete\",\"name\":\"n\",\"path\":\"/p\"}")
unfolding digits serde_json_on_literals
bind_and_delete = (refl, refl)

-- ops: on listeners, with each scope
listens : OpIs (op.Listen All) (codes "{\"kind\":\"listen\",\"name\":null,\"request\":null}")
    × OpIs (op.Listen (Seen request)) (codes "{\"kind\":\"listen\",\"name\":null,\"request\":" ++ (request_text ++ codes "}"))
    × OpIs (op.Listen (Named request (codes "n"))) (codes "{\"kind\":\"listen\",\"name\":\"n\",\"request\":" ++ (request_text ++ codes "}"))
    × OpIs (op.Changes 1) (codes "{\"kind\":\"changes\",\"listener\":1}") × OpIs (op.Unlisten 20) (codes "{\"kind\":\"unlisten\",\"listener\":20}")
unfolding digits serde_json_on_literals
listens = (refl, refl, refl, refl, refl)

-- ops: on all cookies
on_all : OpIs op.All (codes "{\"kind\":\"all\"}") × OpIs op.Clear (codes "{\"kind\":\"clear\"}")
unfolding digits serde_json_on_literals
on_all = (refl, refl)

-- ops: between callers
posts : OpIs op.Post (codes "{\"kind\":\"post\"}") × OpIs (op.Hear 3 10) (codes "{\"actor\":3,\"kind\":\"hear\",\"n\":10}")
unfolding digits serde_json_on_literals
posts = (refl, refl)

-- replies that are a word
reply_words : ReplyIs reply.Stored (codes "\"stored\"") × ReplyIs reply.Replaced (codes "\"replaced\"") × ReplyIs reply.Removed (codes "\"removed\"")
    × ReplyIs reply.NothingThere (codes "\"nothing_there\"") × ReplyIs reply.OverwriteSecure (codes "\"overwrite_secure\"")
    × ReplyIs reply.OverwriteHttpOnly (codes "\"overwrite_http_only\"") × ReplyIs reply.NoListener (codes "\"no_listener\"")
    × ReplyIs reply.Heard (codes "\"heard\"") × ReplyIs reply.StoreFault (codes "\"store_fault\"") × ReplyIs (reply.Flag true) (codes "true") × ReplyIs (reply.Flag false) (codes "false")
unfolding digits serde_json_on_literals
reply_words = (refl, refl, refl, refl, refl, refl, refl, refl, refl, refl, refl)

-- replies that have a number
reply_numbers : ReplyIs (reply.Cell None) (codes "{\"cell\":null}") × ReplyIs (reply.Cell (Some 4096)) (codes "{\"cell\":4096}")
    × ReplyIs (reply.Count 180) (codes "{\"count\":180}") × ReplyIs (reply.Listener 2) (codes "{\"listener\":2}") × ReplyIs (reply.Posted 3) (codes "{\"post\":3}")
unfolding digits serde_json_on_literals
reply_numbers = (refl, refl, refl, refl, refl)

-- replies to a get, of HTTP and of a script
reply_cookies : ReplyIs (reply.Cookies []) (codes "{\"cookies\":[]}")
    × ReplyIs (reply.Cookies (cookie ∷ cookie ∷ [])) (codes "{\"cookies\":[" ++ (cookie_text ++ (codes "," ++ (cookie_text ++ codes "]}"))))
    × ReplyIs (reply.Script (codes "a=1") None 2000) (codes "{\"text\":\"a=1\",\"until\":2000,\"version\":null}")
    × ReplyIs (reply.Script [] (Some 0) 61000) (codes "{\"text\":\"\",\"until\":61000,\"version\":0}")
unfolding digits serde_json_on_literals
reply_cookies = (refl, refl, refl, refl)

-- the changes of a listener, and their causes
abbrev explicit : Change
explicit = record { cause = cause.Explicit; cookie = cookie }

reply_changes : ReplyIs (reply.Changes []) (codes "{\"changes\":[]}")
    × ReplyIs (reply.Changes (explicit ∷ [])) (codes "{\"changes\":[{\"cause\":\"explicit\",\"cookie\":" ++ (cookie_text ++ codes "}]}"))
unfolding digits serde_json_on_literals
reply_changes = (refl, refl)

causes : (cause_word cause.Inserted ≡ codes "inserted") × (cause_word cause.Explicit ≡ codes "explicit") × (cause_word cause.Overwrite ≡ codes "overwrite")
    × (cause_word cause.Expired ≡ codes "expired") × (cause_word cause.Evicted ≡ codes "evicted") × (cause_word cause.ExpiredOverwrite ≡ codes "expired_overwrite")
causes = (refl, refl, refl, refl, refl, refl)

-- the words of a cookie and of a request
words : (priority_word Low ≡ codes "low") × (priority_word Medium ≡ codes "medium") × (priority_word High ≡ codes "high")
    × (same_site_word Unspecified ≡ codes "unspecified") × (same_site_word NoLimit ≡ codes "none")
    × (same_site_word LaxSite ≡ codes "lax") × (same_site_word StrictSite ≡ codes "strict")
    × (context_word Strict ≡ codes "strict") × (context_word Lax ≡ codes "lax")
    × (context_word LaxUnsafe ≡ codes "lax_unsafe") × (context_word Cross ≡ codes "cross")
words = (refl, refl, refl, refl, refl, refl, refl, refl, refl, refl, refl)
