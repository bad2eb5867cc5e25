-- What the jar does to its batches alone: nobody is told, and no row changes.
use Rattle.std.proofs.Common.{◌≡◌, ◌+◌, ℕ, List, [], ◌∷◌, ◌++◌, false, refl, sym, ap, ◌∙◌}
use Rattle.std.specs.Prelude.{map}
use Rattle.jar_types.specs.declared.bound_key.BoundKey.{BoundKey}
use Rattle.jar_types.specs.declared.change.Change.{Change}
use Rattle.jar_types.specs.declared.entry.Event.TheVariants.{Jar as JarEvent}
use Rattle.jar_types.specs.declared.entry.Own.{Own}
use Rattle.jar_types.specs.declared.entry.Own.TheVariants.{Want, WantAll, Begun, Loaded, Lost, Whole, Taken, Acked, CommitLost}
use Rattle.jar_types.specs.declared.listener.Listener.{Listener}
use Rattle.jar_types.specs.Batches.{Batches, own_batches}
use Rattle.jar_types.specs.Bound.{turned}
use Rattle.jar_types.specs.Listeners.{hears}
use Rattle.jar_types.specs.States.{JarState}
use Rattle.jar_types.specs.Steps.{after, batched, noted, told}
use Rattle.jar_types.specs.Waits.{own_takes_memory}

nil_end : (xs : List Change) → xs ++ [] ≡ xs
nil_end [] = refl
nil_end (x ∷ xs) = ap (λ ys. x ∷ ys) (nil_end xs)

none_turn : (bound : List BoundKey) → map (turned []) bound ≡ bound
none_turn [] = refl
none_turn (b ∷ bs) = ap (λ cs. b ∷ cs) (none_turn bs)

none_hear : (now : ℕ) (listeners : List Listener) → map (hears now []) listeners ≡ listeners
none_hear now [] = refl
none_hear now (l ∷ ls) =
    ap (λ untaken. record l { untaken = untaken } ∷ map (hears now []) ls) (nil_end l.untaken) ∙ ap (λ ms. l ∷ ms) (none_hear now ls)

-- of no changes nobody is told
none_told : (now : ℕ) (s : JarState) → told now [] s ≡ s
none_told now s =
    ap (λ bound. record s { bound = bound; listeners = map (hears now []) s.listeners }) (none_turn s.bound)
    ∙ ap (λ listeners. record s { listeners = listeners }) (none_hear now s.listeners)

-- other batches, and one entry more
abbrev pub noted_with : JarState → Batches → JarState
noted_with s b = record s { batches = b; entries = s.entries + 1 }

none_more : (s : JarState) (b : Batches) → noted_with s b ≡ noted (batched [] (told 0 [] (record s { batches = b })))
none_more s b = sym (ap (λ t. noted (batched [] t)) (none_told 0 (record s { batches = b })))

pub batches_alone : (s : JarState) (own : Own) → own_takes_memory own ≡ false
    → noted_with s (own_batches (s.entries + 1) own s.batches) ≡ after s (JarEvent own)
batches_alone s (Want key) e = absurd cc
batches_alone s WantAll e = absurd cc
batches_alone s (Begun key) e = absurd cc
batches_alone s (Loaded key cookies) e = absurd cc
batches_alone s (Lost key) e = absurd cc
batches_alone s (Whole now) e = absurd cc
batches_alone s Taken e = none_more s (own_batches (s.entries + 1) Taken s.batches)
batches_alone s (Acked place) e = none_more s (own_batches (s.entries + 1) (Acked place) s.batches)
batches_alone s (CommitLost place) e = none_more s (own_batches (s.entries + 1) (CommitLost place) s.batches)
