-- What is known of a value that is of the form of a script.
use Rattle.std.proofs.Common.{◌≡◌, ◌≤◌, ◌∙◌, ◌^◌, ◌-◌, zero, suc, ℕ, List, [], ◌∷◌, map, length, slice_get, bytes_eq, codes, Bool, true, false, is_some, Option, Some, None, option_map, refl, ap, sym, subst, arith, if◌then◌else◌}
use Rattle.std.specs.Prelude.{unwrap_or}
use Rattle.serde_json.specs.Data.{Data, Items, no_items, item}
use Rattle.serde_json.specs.Events.{items_len}
use Rattle.serde_json.specs.Find.{get, get_item, as_array}
use Rattle.json_form.specs.declared.setting.Setting.{Setting}
use Rattle.json_form.specs.declared.setting.Pass.TheVariants.{Shapes}
use Rattle.json_form.specs.Alternatives.{Word, tagged}
use Rattle.json_form.specs.Forms.{outset, misfit}
use Rattle.json_form.specs.Lists.{counting, count_before, counted_as, measured_by}
use Rattle.json_form.specs.Objects.{Member, object}
use Rattle.json_form.proofs.LeafLemmas.{whole_is, up_to_count_is, below_length_is}
use Rattle.json_form.proofs.ListLemmas.{measured_fits, counting_fits}
use Rattle.json_form.proofs.ObjectLemmas.{required_fits, member_fits, unnamed_is_absent}
use Rattle.json_form.proofs.AlternativeLemmas.{tagged_fits, if_hasnt_fits}
use Rattle.script_text.specs.declared.script.TheConstants.{MOST_LIMIT}
use Rattle.script_text.specs.Admitted.{Where, MayListen, IsListener, IsHeard}
use Rattle.script_text.specs.Readings.{ask_of, listen_ask, word_of, what_by, what_of, step_of, draft_of, is_renderer, actor_number}
use Rattle.script_text.specs.Form as form
use Rattle.script_text.specs.Members.{short_text, text_of, text_if, number_of, number_at, list_of, items_of, list_at}
use Rattle.script_text.proofs.PlacedLemmas.{DraftMayStand, draft_listens_before}
use Rattle.script_text.proofs.WordLemmas.{text_is_there, number_is_there, by_word, counted_listens}

-- where a step stands, by the setting of the form
abbrev stands_at : Bool → Setting → Where
stands_at renders s = record { renders = renders; listens = s.count; actors = s.length }

listener_stands : (renders : Bool) (s : Setting) (d : Data) → s.pass ≡ Shapes → form.of_listener s d ≡ None
    → IsListener (stands_at renders s) (number_at (codes "listener") d)
listener_stands renders s d shapes fits =
    let h = required_fits form.listener_members s d (codes "listener") fits refl in
    let u = up_to_count_is s h.0 shapes h.2 in
    let is : number_at (codes "listener") d ≡ u.0 = number_is_there (codes "listener") d h.0 u.0 h.1 u.1 in
    record { least = omega (arith, is, u.2); most = omega (arith, is, u.3) }

hear_stands : (renders : Bool) (s : Setting) (d : Data) → s.pass ≡ Shapes → form.hear s d ≡ None
    → IsHeard (stands_at renders s) (actor_number d) (number_at (codes "n") d)
hear_stands renders s d shapes fits =
    let h = required_fits form.hear_members s d (codes "actor") fits refl in
    let u = below_length_is s h.0 shapes h.2 in
    let actor : number_at (codes "actor") d ≡ u.0 = number_is_there (codes "actor") d h.0 u.0 h.1 u.1 in
    let k = required_fits form.hear_members s d (codes "n") fits refl in
    let w = whole_is 1 (2 ^ 64 - 1) s k.0 shapes k.2 in
    let n : number_at (codes "n") d ≡ w.0 = number_is_there (codes "n") d k.0 w.0 k.1 w.1 in
    record { actor_within = omega (arith, actor, u.2); least = omega (arith, n, w.2) }

by_test : {X : Type 0} (x : X) (b : Bool) → b ≡ is_some (if b then Some x else None)
by_test x true = refl
by_test x false = refl

-- what a listen says of itself, by its URL
listen_by : (renders : Bool) (d : Data) (o : Option Data) → get (codes "url") d ≡ o
    → MayListen renders (is_some o) (text_if (codes "name") d) → MayListen renders (is_some (listen_ask d)) (text_if (codes "name") d)
listen_by renders d o e h =
    subst (λ b. MayListen renders b (text_if (codes "name") d)) (by_test (ask_of d) (is_some o) ∙ ap (λ p. is_some (if is_some p then Some (ask_of d) else None)) (sym e)) h

fetch_listen_stands : (s : Setting) (d : Data) (o : Option Data) → get (codes "url") d ≡ o → form.fetch_listen s d ≡ None
    → MayListen false (is_some o) (text_if (codes "name") d)
fetch_listen_stands s d (Some v) e fits = tt
fetch_listen_stands s d None e fits =
    let rest = if_hasnt_fits (codes "url") (form.step (form.url ∷ form.name ∷ form.ask)) form.alone s d fits e in
    ap (option_map text_of) (unnamed_is_absent (form.step_members []) s d (codes "name") rest refl)

-- a step of a fetch, and of a renderer, stands by its word
fetch_stands : (s : Setting) (d : Data) → s.pass ≡ Shapes → tagged (codes "op") form.fetch_words s d ≡ None
    → DraftMayStand (stands_at false s) (what_of d)
fetch_stands s d shapes fits =
    let h = tagged_fits (codes "op") form.fetch_words s d fits in
    let P : List ℕ → Type 0 = λ t. DraftMayStand (stands_at false s) (what_by (word_of (short_text t)) d) in
    let listen = λ (f : form.fetch_listen s d ≡ None).
    listen_by false d (get (codes "url") d) refl (fetch_listen_stands s d (get (codes "url") d) refl f) in
    let one : P h.0 =
    by_word (codes "op") form.fetch_words h.0 s d P (
      λ _. refl,
      (
        λ _. refl,
        (
          λ _. refl,
          (
            λ _. refl,
            (
              λ _. refl,
              (
                listen,
                (listener_stands false s d shapes, (listener_stands false s d shapes, (λ _. tt, (hear_stands false s d shapes, tt)))),
              ),
            ),
          ),
        ),
      ),
    ) h.3 in
    subst (λ t. DraftMayStand (stands_at false s) (what_by (word_of t) d)) (sym (text_is_there (codes "op") d h.0 h.1)) one

renderer_stands : (s : Setting) (d : Data) → s.pass ≡ Shapes → tagged (codes "op") form.renderer_words s d ≡ None
    → DraftMayStand (stands_at true s) (what_of d)
renderer_stands s d shapes fits =
    let h = tagged_fits (codes "op") form.renderer_words s d fits in
    let P : List ℕ → Type 0 = λ t. DraftMayStand (stands_at true s) (what_by (word_of (short_text t)) d) in
    let listen = λ (f : form.step (form.name ∷ []) s d ≡ None).
    listen_by true d None (unnamed_is_absent (form.step_members (form.name ∷ [])) s d (codes "url") f refl) refl in
    let one : P h.0 =
    by_word (codes "op") form.renderer_words h.0 s d P (
      listen,
      (
        listener_stands true s d shapes,
        (
          listener_stands true s d shapes,
          (
            λ _. tt,
            (
              hear_stands true s d shapes,
              (λ _. refl, (λ _. refl, tt)),
            ),
          ),
        ),
      ),
    ) h.3 in
    subst (λ t. DraftMayStand (stands_at true s) (what_by (word_of t) d)) (sym (text_is_there (codes "op") d h.0 h.1)) one

-- ---- lists

item_at : (ds : Items) (i : ℕ) (d : Data) → slice_get (list_of ds) i ≡ Some d → get_item i ds ≡ Some d
item_at no_items i d e = absurd cc
item_at (item x ds) zero d e = e
item_at (item x ds) (suc i) d e = item_at ds i d e

pub length-list_of : (ds : Items) → length (list_of ds) ≡ items_len ds
length-list_of no_items = refl
length-list_of (item d ds) = ap suc (length-list_of ds)

-- the items of a member that is a list
list_is_there : (key : List ℕ) (d v : Data) (ds : Items) → get key d ≡ Some v → as_array v ≡ Some ds → list_at key d ≡ list_of ds
list_is_there key d v ds e f = ap (λ o. unwrap_or (option_map items_of o) []) e ∙ ap (λ o. list_of (unwrap_or o no_items)) f

-- each step of an actor may stand where it does
abbrev StepsStand : Bool → ℕ → List Data → Type 0
StepsStand renders actors es =
    (i : ℕ) (e : Data) → slice_get es i ≡ Some e
    → DraftMayStand (record { renders = renders; listens = draft_listens_before (map step_of es) i; actors = actors }) (what_of e)

steps_stand : (words : List Word) (renders : Bool)
    → ((s : Setting) (e : Data) → s.pass ≡ Shapes → tagged (codes "op") words s e ≡ None → DraftMayStand (stands_at renders s) (what_of e))
    → (s : Setting) (v : Data) → s.pass ≡ Shapes → counting (codes "op") (codes "listen") (tagged (codes "op") words) s v ≡ None
    → (ds : Items) × (as_array v ≡ Some ds) × StepsStand renders s.length (list_of ds)
steps_stand words renders each s v shapes fits =
    let h = counting_fits (codes "op") (codes "listen") (tagged (codes "op") words) s v fits in
    let ds = h.0 in (
      ds,
      h.1,
      λ i e at.
          let here = each (counted_as s (count_before (codes "op") (codes "listen") i ds)) e shapes (h.2 i e (item_at ds i e at)) in
          subst (λ n. DraftMayStand (record { renders = renders; listens = n; actors = s.length }) (what_of e)) (counted_listens ds i) here,
    )

-- so for the steps of an actor of a kind
actor_stands : (ms : List Member) (words : List Word) (renders : Bool)
    → ((s : Setting) (e : Data) → s.pass ≡ Shapes → tagged (codes "op") words s e ≡ None → DraftMayStand (stands_at renders s) (what_of e))
    → (s : Setting) (x v : Data) → s.pass ≡ Shapes → get (codes "steps") x ≡ Some v
    → counting (codes "op") (codes "listen") (tagged (codes "op") words) s v ≡ None
    → StepsStand renders s.length (list_at (codes "steps") x)
actor_stands ms words renders each s x v shapes there fits =
    let h = steps_stand words renders each s v shapes fits in
    subst (λ es. StepsStand renders s.length es) (sym (list_is_there (codes "steps") x v h.0 there h.1)) h.2

pub each_actor_stands : (s : Setting) (x : Data) → s.pass ≡ Shapes → form.actor s x ≡ None
    → StepsStand (is_renderer x) s.length (list_at (codes "steps") x)
each_actor_stands s x shapes fits =
    let h = tagged_fits (codes "kind") form.actor_words s x fits in
    let es = list_at (codes "steps") x in
    let P : List ℕ → Type 0 = λ k. StepsStand (bytes_eq (short_text k) (codes "renderer")) s.length es in
    let fetch = λ (f : object form.fetch_members s x ≡ None).
    let r = required_fits form.fetch_members s x (codes "steps") f refl in
    actor_stands form.fetch_members form.fetch_words false fetch_stands s x r.0 shapes r.1 r.2 in
    let renderer = λ (f : object form.renderer_members s x ≡ None).
    let r = required_fits form.renderer_members s x (codes "steps") f refl in
    actor_stands form.renderer_members form.renderer_words true renderer_stands s x r.0 shapes r.1 r.2 in
    let one : P h.0 = by_word (codes "kind") form.actor_words h.0 s x P (fetch, (renderer, tt)) h.3 in
    subst (λ t. StepsStand (bytes_eq t (codes "renderer")) s.length es) (sym (text_is_there (codes "kind") x h.0 h.1)) one

-- ---- scripts

-- each step of each actor of a value of the form may stand where it does
pub each_step_stands : (d : Data) → misfit Shapes form.script d ≡ None → (a : ℕ) (x : Data) → slice_get (list_at (codes "actors") d) a ≡ Some x
    → StepsStand (is_renderer x) (length (list_at (codes "actors") d)) (list_at (codes "steps") x)
each_step_stands d fits a x at =
    let r = required_fits form.script_members (outset Shapes) d (codes "actors") fits refl in
    let h = measured_fits form.actor (outset Shapes) r.0 r.2 in
    let is : list_at (codes "actors") d ≡ list_of h.0 = list_is_there (codes "actors") d r.0 h.0 r.1 h.1 in
    let here = each_actor_stands (measured_by (outset Shapes) h.0) x refl (h.2 a x (item_at h.0 a x (ap (λ l. slice_get l a) (sym is) ∙ at))) in
    subst (λ n. StepsStand (is_renderer x) n (list_at (codes "steps") x)) (sym (length-list_of h.0) ∙ ap length (sym is)) here

limit_by : (d : Data) (o : Option Data) → get (codes "limit") d ≡ o → misfit Shapes form.script d ≡ None
    → (1 ≤ unwrap_or (option_map number_of o) MOST_LIMIT) × (unwrap_or (option_map number_of o) MOST_LIMIT ≤ MOST_LIMIT)
limit_by d None e fits = (omega arith, omega arith)
limit_by d (Some v) e fits =
    let h = member_fits form.script_members (outset Shapes) d (codes "limit") v fits e in
    let w = whole_is 1 MOST_LIMIT (outset Shapes) v refl h in
    let is : number_of v ≡ w.0 = ap (λ o. unwrap_or o 0) w.1 in
    (omega (arith, is, w.2), omega (arith, is, w.3))

-- the limit lies in range
pub limit_within : (d : Data) → misfit Shapes form.script d ≡ None → (1 ≤ (draft_of d).limit) × ((draft_of d).limit ≤ MOST_LIMIT)
limit_within d fits = limit_by d (get (codes "limit") d) refl fits
