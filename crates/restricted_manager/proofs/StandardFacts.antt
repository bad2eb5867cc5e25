-- The definitions at the renderer of `https://h.test/`, whose site is its document, so that no part of
-- one can be lost and still check.
use Rattle.std.proofs.Common.{◌≡◌, ◌≤◌, ◌<◌, ℕ, List, [], true, false, codes, Option, None, Some, Ok, Err, length, ◌+◌, refl, sym, ap, ◌∙◌, arith, length-append}
use Rattle.jar_types.specs.declared.ask_cause.AskCause.{AskCause}
use Rattle.jar_types.specs.declared.ask_cause.AskCause.TheVariants.{Other, NoCell, Cold, Late, Moved}
use Rattle.jar_types.specs.declared.listener.Scope.TheVariants.{Seen, Named}
use Rattle.jar_types.specs.declared.op.Op.TheVariants.{Bind, Set, Get, Listen}
use Rattle.jar_types.specs.declared.op.Op.{Op}
use Rattle.jar_types.specs.declared.op.Reply.{Reply}
use Rattle.jar_types.specs.declared.cookie.Cookie.{Cookie}
use Rattle.jar_values.specs.declared.attributes.SameSite.TheVariants.{Unspecified}
use Rattle.jar_values.specs.declared.attributes.Priority.TheVariants.{Medium}
use Rattle.canonical_cookie.specs.declared.refusal.CookieRefusal.TheVariants.{HttpOnlyFromScript, CrossSite}
use Rattle.canonical_cookie.specs.declared.refusal.CookieRefusal.TheVariants as cookie
use Rattle.canonical_cookie.specs.Making.{made}
use Rattle.set_cookie_line.specs.declared.line.Line.{Line}
use Rattle.set_cookie_line.specs.declared.line.LineRefusal.TheVariants.{Empty}
use Rattle.set_cookie_line.specs.declared.line.LineRefusal.TheVariants as line
use Rattle.set_cookie_line.specs.Line.{read_line}
use Rattle.jar_types.specs.declared.op.Reply.TheVariants.{Script, StoreFault}
use Rattle.jar_types.specs.declared.request.Context.{Context}
use Rattle.jar_types.specs.declared.request.Context.TheVariants.{Strict, Cross}
use Rattle.jar_types.specs.declared.request.Request.{Request}
use Rattle.renderer_cache.specs.declared.kept.Kept.{Kept}
use Rattle.site_match.specs.declared.place.Place.{Place}
use Rattle.site_match.specs.declared.scheme.Scheme.TheVariants.{Http, Https, Wss}
use Rattle.version_cells.specs.Standing.{PassStanding}
use Rattle.restricted_manager.specs.declared.read.ReadTurn.TheVariants.{Reused, Ask}
use Rattle.restricted_manager.specs.declared.read.ReadTurnRefusal.TheVariants.{OriginMismatch, NoMemory}
use Rattle.restricted_manager.specs.declared.write.WriteRefusal.TheVariants as write
use Rattle.restricted_manager.specs.Documents.{asked_place, is_same_origin, is_same_place}
use Rattle.restricted_manager.specs.Keeping.{Answer, answer_of, IsKept}
use Rattle.restricted_manager.specs.Managers.{ManagerStanding, new_manager, with_cell, MayBeBound, MayBeKept}
use Rattle.restricted_manager.specs.Reads.{FindsKept, ReadsAt}
use Rattle.restricted_manager.specs.Requests.{request_of, bind_of, read_of, listen_of}
use Rattle.restricted_manager.specs.Writes.{write_at, write_of_line, WritesAt}

-- ---- values

abbrev document : Place
document = record { scheme = Https; host = codes "h.test"; port = 443; path = codes "/"; key = codes "h.test" }

-- `https://h.test/x`, which has the document's origin
abbrev other : Place
other = record document { path = codes "/x" }

-- `http://h.test/`, which hasn't
abbrev plain : Place
plain = record document { scheme = Http; port = 80 }

abbrev request : Context → Request
request context = record {
  key = codes "h.test";
  host = codes "h.test";
  path = codes "/";
  secure = true;
  script = true;
  context = context;
}

-- the text `a=1` of the cell 7, kept at version 0 until 10
abbrev kept : Kept
kept = record { cell = 7; version = 0; until = 10; text = codes "a=1"; in_range = (omega arith, omega arith) }

abbrev unbound : ManagerStanding
unbound = new_manager document (Some document)

abbrev cold : ManagerStanding
cold = with_cell unbound (Some 7)

abbrev warm : ManagerStanding
warm = record cold { kept = Some kept }

-- the version, the until and the text of what is kept
abbrev version_in : Option Kept → ℕ
version_in None = 0
version_in (Some k) = k.version

abbrev until_in : Option Kept → ℕ
until_in None = 0
until_in (Some k) = k.until

abbrev text_in : Option Kept → List ℕ
text_in None = []
text_in (Some k) = k.text

-- ---- places and managers

-- the document where none is named
asked : (asked_place document None ≡ document) × (asked_place document (Some other) ≡ other)
asked = (refl, refl)

-- scheme, host and port make the origin, each alone, and the path plays no part
origins : (is_same_origin document document ≡ true) × (is_same_origin other document ≡ true)
    × (is_same_origin (record document { scheme = Wss }) document ≡ false)
    × (is_same_origin (record document { host = codes "w.h.test" }) document ≡ false)
    × (is_same_origin (record document { port = 8443 }) document ≡ false)
origins = (refl, refl, refl, refl, refl)

-- a place differs by its origin, its path and its key, each alone
same_places : (is_same_place document document ≡ true) × (is_same_place plain document ≡ false)
    × (is_same_place other document ≡ false)
    × (is_same_place (record document { key = codes "test" }) document ≡ false)
same_places = (refl, refl, refl, refl)

-- a cell is from 1 to 4,096, and what is kept is of it
bounds : ¬ (MayBeBound (Some 0)) × MayBeBound (Some 1) × MayBeBound (Some 4096) × ¬ (MayBeBound (Some 4097))
    × MayBeBound None
bounds = (
  (λ h. let e : 0 < 0 = h.0 in omega arith),
  (omega arith, omega arith),
  (omega arith, omega arith),
  (λ h. let e : 4097 ≤ 4096 = h.1 in omega arith),
  tt,
)

of_the_cell : MayBeKept (Some 7) (Some kept) × ¬ (MayBeKept (Some 8) (Some kept)) × ¬ (MayBeKept None (Some kept))
    × MayBeKept None None
of_the_cell = (refl, (λ h. cc), (λ h. cc), tt)

-- a bound manager keeps nothing
bound : (with_cell warm (Some 7)).kept ≡ None
bound = refl

-- ---- requests

-- strict where the document's site is the place's, and cross without a site and with another
requests : (request_of document (Some document) ≡ request Strict) × (request_of document None ≡ request Cross)
    × (request_of document (Some plain) ≡ request Cross)
requests = (refl, refl, refl)

ops : (bind_of unbound ≡ Bind (codes "h.test")) × (read_of unbound document ≡ Get (request Strict))
    × (listen_of unbound None ≡ Listen (Seen (request Strict)))
    × (listen_of unbound (Some (codes "a")) ≡ Listen (Named (request Strict) (codes "a")))
ops = (refl, refl, refl, refl)

-- ---- reads

module _ (old new : PassStanding) where
  -- another URL, no cell and nothing kept: one cause each, and no look
  asks : FindsKept warm other 9 old old (Err Other) × FindsKept unbound document 9 old old (Err NoCell)
      × FindsKept cold document 9 old old (Err Cold)
  asks = ((refl, refl), (refl, refl, refl), (refl, refl, refl, refl))

  without_a_look : (FindsKept warm other 9 old new (Err Other) → new ≡ old)
      × (FindsKept unbound document 9 old new (Err NoCell) → new ≡ old)
      × (FindsKept cold document 9 old new (Err Cold) → new ≡ old)
      × (FindsKept warm document 10 old new (Err (Late 10)) → new ≡ old)
  without_a_look = ((λ h. h.1), (λ h. h.2), (λ h. h.3), (λ h. h.5))

  -- another URL is no cause to say that there is no cell, and so on down the order of the causes
  other_first : ¬ (FindsKept unbound other 9 old new (Err NoCell)) × ¬ (FindsKept cold other 9 old new (Err Cold))
      × ¬ (FindsKept warm other 10 old new (Err (Late 10))) × ¬ (FindsKept warm other 9 old new (Err (Moved 0 1)))
      × ¬ (FindsKept warm other 9 old new (Ok (codes "a=1")))
  other_first = ((λ h. let e = h.0 in cc), (λ h. let e = h.0 in cc), (λ h. let e = h.0 in cc), (λ h. let e = h.0 in cc), (λ h. let e = h.0 in cc))

  not_other : ¬ (FindsKept warm document 9 old new (Err Other)) × ¬ (FindsKept warm document 9 old new (Err NoCell))
      × ¬ (FindsKept warm document 9 old new (Err Cold)) × ¬ (FindsKept unbound document 9 old new (Err Cold))
  not_other = ((λ h. let e = h.0 in cc), (λ h. let e = h.1 in cc), (λ h. let e = h.2 in cc), (λ h. let e = h.1 in cc))

  -- late from 10 on and no earlier, with the kept moment
  late : FindsKept warm document 10 old old (Err (Late 10))
      × ((until : ℕ) → FindsKept warm document 9 old new (Err (Late until)) → ⊥)
      × ((until : ℕ) → FindsKept warm document 10 old new (Err (Late until)) → until ≡ 10)
  late = (
    (refl, kept, (refl, refl), omega arith, refl, refl),
    (λ until h. let e : 10 ≡ h.1.until = ap until_in h.2.1 in let l : h.1.until ≤ 9 = h.3 in omega arith),
    (λ until h. h.4 ∙ sym (ap until_in h.2.1)),
  )

  -- moved below 10 alone, from the kept version to another
  moved : ¬ (FindsKept warm document 10 old new (Err (Moved 0 1)))
      × ¬ (FindsKept warm document 9 old new (Err (Moved 0 0)))
      × ¬ (FindsKept warm document 9 old new (Err (Moved 1 2)))
  moved = (
    (λ h. let e : 10 ≡ h.1.until = ap until_in h.2.1 in let l : 10 < h.1.until = h.3 in omega arith),
    (λ h. h.6 refl),
    (λ h. let e : 1 ≡ 0 = h.5 ∙ sym (ap version_in h.2.1) in omega arith),
  )

  -- a hit below 10 alone, with the kept text
  hit : ((text : List ℕ) → FindsKept warm document 10 old new (Ok text) → ⊥)
      × ((text : List ℕ) → FindsKept warm document 9 old new (Ok text) → text ≡ codes "a=1")
  hit = (
    (λ text h. let e : 10 ≡ h.1.until = ap until_in h.2.1 in let l : 10 < h.1.until = h.3 in omega arith),
    (λ text h. h.5 ∙ sym (ap text_in h.2.1)),
  )

  -- the number of looks after a hit and after a move
  looks : ((text : List ℕ) → FindsKept warm document 9 old new (Ok text)
      → length new.view.looks ≡ length old.view.looks + 1)
      × ((found : ℕ) → FindsKept warm document 9 old new (Err (Moved 0 found))
      → length new.view.looks ≡ length old.view.looks + 1)
  looks = (
    (λ text h. ap (λ (s : PassStanding). length s.view.looks) h.4.0 ∙ length-append old.view.looks _),
    (λ found h. ap (λ (s : PassStanding). length s.view.looks) h.4.0 ∙ length-append old.view.looks _),
  )

  -- another origin is refused, and nothing else is, without a look
  mismatch : ReadsAt warm plain 9 old old (Err OriginMismatch) × ¬ (ReadsAt warm other 9 old new (Err OriginMismatch))
      × ¬ (ReadsAt warm plain 9 old new (Err NoMemory)) × ¬ (ReadsAt warm plain 9 old new (Ok (Reused (codes "a=1"))))
      × (ReadsAt warm plain 9 old new (Err OriginMismatch) → new ≡ old)
  mismatch = ((refl, refl), (λ h. let e = h.0 in cc), (λ h. let e = h.0 in cc), (λ h. let e = h.0 in cc), (λ h. h.1))

  -- what is asked is the Get of the place, and the cause is the first
  asked_get : (op : Op) (cause : AskCause) → ReadsAt cold document 9 old new (Ok (Ask op cause))
      → op ≡ Get (request Strict)
  asked_get op cause h = h.2

-- ---- replies

abbrev script : Option ℕ → Reply
script version = Script (codes "a=1") version 10

abbrev answer : Answer
answer = record { cell = 7; version = 0; until = 10; text = codes "a=1" }

-- an answer with a version, for the document's URL, where a cell is bound; and nothing else
answers : (answer_of cold None (script (Some 0)) ≡ Some answer)
    × (answer_of warm (Some document) (script (Some 0)) ≡ Some answer)
    × (answer_of cold None (script None) ≡ None) × (answer_of unbound None (script (Some 0)) ≡ None)
    × (answer_of cold (Some other) (script (Some 0)) ≡ None) × (answer_of cold None StoreFault ≡ None)
answers = (refl, refl, refl, refl, refl, refl)

is_kept : IsKept answer kept
is_kept = (refl, refl, refl, refl)

-- ---- writes

-- `a=1` at 5
abbrev made_cookie : Cookie
made_cookie = record {
  key = codes "h.test";
  host = codes "h.test";
  name = codes "a";
  path = codes "/";
  value = codes "1";
  creation = 5;
  access = 5;
  expiry = None;
  secure = false;
  http_only = false;
  same_site = Unspecified;
  priority = Medium;
}

-- the line `a=1; HttpOnly`
abbrev hidden : Line
hidden = record {
  name = codes "a";
  value = codes "1";
  domain = None;
  path = None;
  expires = None;
  max_age = None;
  secure = false;
  http_only = true;
  same_site = Unspecified;
  priority = Medium;
}

-- a script sets the cookie on a secure connection, and each part refuses
writes : (write_at [] warm document (codes "a=1") 5 ≡ Ok (Set made_cookie true true))
    × (write_of_line [] (Some document) document 5 (Ok hidden) ≡ Err (write.Cookie HttpOnlyFromScript))
    × (write_of_line [] None document 5 (read_line (codes "a=1")) ≡ Err (write.Cookie CrossSite))
    × (write_at [] warm other (codes "=") 5 ≡ Err (write.Line Empty))
    × (write_at [] warm plain (codes "=") 5 ≡ Err write.OriginMismatch)
unfolding read_line made
writes = (refl, refl, refl, refl, refl)

-- want of memory isn't told by the refusal of a line or a cookie, nor of a write that is refused before
no_want : ¬ (WritesAt [] warm document (codes "=") 5 (Err (write.Line line.NoMemory)))
    × ¬ (WritesAt [] warm document (codes "=") 5 (Err (write.Cookie cookie.NoMemory)))
    × ¬ (WritesAt [] warm plain (codes "a=1") 5 (Err write.NoMemory))
no_want = ((λ h. h.1 refl), (λ h. h.1 refl), (λ h. let e = h.0 in cc))
