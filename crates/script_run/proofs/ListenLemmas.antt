-- Why a listener is told just the changes between.
use Rattle.std.proofs.Common.{◌≡◌, ℕ, List, [], ◌∷◌, ◌++◌, true, Some, refl, ap, sym, ◌∙◌, subst}
use Rattle.std.specs.Prelude.{fold, option_map}
use Rattle.std.specs.List.{list_all}
use Rattle.jar_types.specs.declared.entry.Entry.{Entry}
use Rattle.jar_types.specs.declared.entry.Entry.TheVariants.{Call}
use Rattle.jar_types.specs.declared.entry.Event.TheVariants.{Call as CallEvent}
use Rattle.jar_types.specs.declared.listener.Listener.{Listener}
use Rattle.jar_types.specs.declared.op.Op.{Op}
use Rattle.jar_types.specs.declared.op.Op.TheVariants.{Listen, Changes}
use Rattle.jar_types.specs.declared.op.Reply.{Reply}
use Rattle.jar_types.specs.declared.op.Reply.TheVariants as reply
use Rattle.jar_types.specs.HistoryLaws.{heard, spares}
use Rattle.jar_types.specs.Journals.{events, run, state_of, stored_keys}
use Rattle.jar_types.specs.Listeners.{hears, is_listener, listener_at, registered, taken_at, taken_reply}
use Rattle.jar_types.specs.States.{JarState, opening}
use Rattle.jar_types.specs.Steps.{after, entry_of, event_of}
use Rattle.jar_types.specs.Tallies.{counted, tally_of}
use Rattle.jar_types.proofs.FindLemmas.{find_mapped}
use Rattle.jar_types.proofs.HistoryLemmas.{listeners_hear, listeners_are_taken}
use Rattle.jar_types.proofs.ListenerLemmas.{listeners_begin}
use Rattle.script_run.specs.Listening.{ListenersAreToldFirst, ListenersAreToldOn}

-- an entry of a journal that the jar made is the one that its event makes there
entry_at : (s : JarState) (before : List Entry) (e : Entry) (rest : List Entry) → run s (events (before ++ (e ∷ rest))) ≡ before ++ (e ∷ rest)
    → entry_of (fold after s (events before)) (event_of e) ≡ e
entry_at s [] e rest made = cc
entry_at s (x ∷ xs) e rest made =
    let tail : run (after s (event_of x)) (events (xs ++ (e ∷ rest))) ≡ xs ++ (e ∷ rest) = cc in
    entry_at (after s (event_of x)) xs e rest tail

same_reply : (caller now other later : ℕ) (o p : Op) (a b : Reply) → Call caller now o a ≡ Call other later p b → a ≡ b
same_reply caller now other later o p a b e = cc

-- what stands before an entry is a state on from what stands before an earlier one
state_on : (s : JarState) (before since : List Entry) (e : Entry)
    → fold after s (events (before ++ (e ∷ since))) ≡ fold after (after (fold after s (events before)) (event_of e)) (events since)
state_on s [] since e = refl
state_on s (x ∷ xs) since e = state_on (after s (event_of x)) xs since e

split : (before : List Entry) (opens : Entry) (since rest : List Entry)
    → before ++ (opens ∷ (since ++ rest)) ≡ (before ++ (opens ∷ since)) ++ rest
split [] opens since rest = refl
split (x ∷ xs) opens since rest = ap (λ es. x ∷ es) (split xs opens since rest)

-- a listener that had nothing untaken behind the first entry is answered with what it heard since
told : (s : JarState) (before since later : List Entry) (opens : Entry) (caller number now : ℕ) (answer : Reply) (l : Listener)
    → run s (events (before ++ (opens ∷ (since ++ (Call caller now (Changes number) answer ∷ later))))) ≡ before ++ (opens ∷ (since ++ (Call caller now (Changes number) answer ∷ later)))
    → list_all (spares caller number) (events since) ≡ true
    → listener_at caller number (after (fold after s (events before)) (event_of opens)).listeners ≡ Some l → l.untaken ≡ []
    → answer ≡ reply.Changes (heard l.scope (after (fold after s (events before)) (event_of opens)) (events since))
told s before since later opens caller number now answer l made spared there none =
    let asks = Call caller now (Changes number) answer in
    let mid = after (fold after s (events before)) (event_of opens) in
    let journal = split before opens since (asks ∷ later) in
    let made' : run s (events ((before ++ (opens ∷ since)) ++ (asks ∷ later))) ≡ (before ++ (opens ∷ since)) ++ (asks ∷ later) =
    subst (λ es. run s (events es) ≡ es) journal made in
    let here = entry_at s (before ++ (opens ∷ since)) asks later made' in
    let state = state_on s before since opens in
    let replied : taken_reply (listener_at caller number (fold after mid (events since)).listeners) ≡ answer =
    ap (λ t. taken_reply (listener_at caller number t.listeners)) (sym state)
    ∙ same_reply caller now caller now (Changes number) (Changes number) (taken_reply (listener_at caller number (fold after s (events (before ++ (opens ∷ since)))).listeners)) answer here in
    sym replied
    ∙ (ap taken_reply (listeners_hear mid (events since) caller number l there spared)
    ∙ ap (λ kept. reply.Changes (kept ++ heard l.scope mid (events since))) none)

pub told_first : ListenersAreToldFirst
unfolding state_of
told_first r journal caller number now scope answer legal asks =
    let s = opening (stored_keys r) in
    let opens = Call caller now (Listen scope) (reply.Listener number) in
    let last = Call caller asks.now (Changes number) answer in
    let made : run s (events (asks.before ++ (opens ∷ (asks.since ++ (last ∷ asks.later))))) ≡ asks.before ++ (opens ∷ (asks.since ++ (last ∷ asks.later))) =
    subst (λ es. run s (events es) ≡ es) asks.is legal.replies in
    let t = fold after s (events asks.before) in
    let n = tally_of caller (counted caller t.listens) in
    let counts : reply.Listener n ≡ reply.Listener number =
    same_reply caller now caller now (Listen scope) (Listen scope) (reply.Listener n) (reply.Listener number)
    (entry_at s asks.before opens (asks.since ++ (last ∷ asks.later)) made) in
    let same : n ≡ number = cc in
    let there : listener_at caller number (after t (CallEvent caller now (Listen scope))).listeners ≡ Some (registered caller number scope) =
    subst (λ m. listener_at caller m (after t (CallEvent caller now (Listen scope))).listeners ≡ Some (registered caller m scope)) same
    (listeners_begin (stored_keys r) asks.before caller now scope) in
    told s asks.before asks.since asks.later opens caller number asks.now answer (registered caller number scope) made asks.spared there refl

pub told_on : ListenersAreToldOn
unfolding state_of
told_on r journal caller number now taken answer l legal asks there =
    let s = opening (stored_keys r) in
    let opens = Call caller now (Changes number) taken in
    let last = Call caller asks.now (Changes number) answer in
    let made : run s (events (asks.before ++ (opens ∷ (asks.since ++ (last ∷ asks.later))))) ≡ asks.before ++ (opens ∷ (asks.since ++ (last ∷ asks.later))) =
    subst (λ es. run s (events es) ≡ es) asks.is legal.replies in
    let t = fold after s (events asks.before) in
    let empty = record l { untaken = [] } in
    let here : listener_at caller number (after t (CallEvent caller now (Changes number))).listeners ≡ Some empty =
    find_mapped (is_listener caller number) (hears now []) (λ m. refl) (taken_at caller number t.listeners)
    ∙ ap (option_map (hears now [])) (listeners_are_taken t.listeners caller number l there) in
    told s asks.before asks.since asks.later opens caller number asks.now answer empty made asks.spared here refl
