-- Histories go on.
use Rattle.std.proofs.Common.{◌≡◌, ℕ, List, [], ◌∷◌, ◌++◌, fold, refl, sym, ap, ◌∙◌, subst}
use Rattle.std.proofs.lemmas.List.{map-append}
use Rattle.jar_types.specs.declared.entry.Event.{Event}
use Rattle.jar_types.specs.Journals.{IsLegal, events, state_of, stored_keys}
use Rattle.jar_types.specs.States.{JarState, opening}
use Rattle.jar_types.specs.Steps.{after, entry_of}
use Rattle.jar_types.proofs.JournalLemmas.{events-push, legal_push}
use Rattle.version_cells.specs.declared.listing.Listing.{Listing}
use Rattle.version_cells.specs.Lists.{IsListingOf, Lists, owner_at}
use Rattle.locked_jar.specs.History.{HistoriesBegin, HistoriesGoOn}
use Rattle.locked_jar.specs.LockedJars.{about_of, journal_of, listing_at}

pub histories_begin : HistoriesBegin
histories_begin r cutter rises = record { legal = record { hosts = rises; replies = refl; standing = refl }; listed = tt }

-- a listing more at the end
pub lists_push : (cutter : ℕ) (s : JarState) (vs : List Event) (ls : List Listing) (v : Event) (l : Listing) → Lists cutter s vs ls
    → IsListingOf cutter (fold after s vs) v l → Lists cutter s (vs ++ v ∷ []) (ls ++ l ∷ [])
lists_push cutter s [] [] v l all is = (is, tt)
lists_push cutter s [] (k ∷ ls) v l all is = absurd all
lists_push cutter s (u ∷ vs) [] v l all is = absurd all
lists_push cutter s (u ∷ vs) (k ∷ ls) v l all is = (all.0, lists_push cutter (after s u) vs ls v l all.1 is)

-- the journal with one listing more
pub journal_push : (history : List Listing) (l : Listing) → journal_of (history ++ l ∷ []) ≡ journal_of history ++ about_of l ∷ []
journal_push history l = map-append about_of history (l ∷ [])

pub histories_go_on : HistoriesGoOn
unfolding state_of
histories_go_on r cutter history v is may =
    let s = state_of (stored_keys r) (journal_of history) in
    let l = listing_at (owner_at cutter v) s v in
    let longer : journal_of (history ++ l ∷ []) ≡ journal_of history ++ entry_of s v ∷ [] = journal_push history l in
    let evs : events (journal_of (history ++ l ∷ [])) ≡ events (journal_of history) ++ v ∷ [] = ap events longer ∙ events-push (journal_of history) s v in
    record {
      legal = subst (IsLegal r) (sym longer) (legal_push r (journal_of history) v is.legal may);
      listed = subst (λ vs. Lists cutter (opening (stored_keys r)) vs (history ++ l ∷ [])) (sym evs)
          (lists_push cutter (opening (stored_keys r)) (events (journal_of history)) history v l is.listed (record { cells = refl; owner = refl; about = refl }));
    }
