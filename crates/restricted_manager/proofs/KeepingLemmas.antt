-- Keeping what a reply has to keep.
use Rattle.std.proofs.Common.{◌≡◌, ℕ, Bool, true, Option, Some, None, sym, ap, subst, ◌∙◌}
use Rattle.jar_types.specs.declared.op.Reply.{Reply}
use Rattle.renderer_cache.specs.declared.kept.Kept.{Kept}
use Rattle.site_match.specs.declared.place.Place.{Place}
use Rattle.restricted_manager.specs.Documents.{asked_place, is_same_place}
use Rattle.restricted_manager.specs.Keeping.{Answer, IsAnswer, KeepsAnswer, answer_by, answer_in, answer_of}
use Rattle.restricted_manager.specs.Managers.{ManagerStanding}

keeps_it : (answer : Option Answer) (kept : Kept) (old new : ManagerStanding) → IsAnswer answer (Some kept)
    → new ≡ record old { kept = Some kept } → KeepsAnswer answer old new
keeps_it None kept old new is change = absurd is
keeps_it (Some answer) kept old new is change = (kept, is, change)

-- the answer of a reply to a read of the document, where this cell is bound
answer_is : (document : Bool) (bound : Option ℕ) (cell : ℕ) (reply : Reply) → document ≡ true → bound ≡ Some cell
    → answer_by document bound reply ≡ answer_in cell reply
answer_is document bound cell reply same is =
    ap (λ (b : Bool). answer_by b bound reply) same ∙ ap (λ (c : Option ℕ). answer_by true c reply) is

-- a manager that is seen so keeps what it found in the reply to a read of an asked place
pub keeps : (m seen new : ManagerStanding) (url : Option Place) (cell : ℕ) (reply : Reply)
    (found : Option Kept) (kept : Kept) → m ≡ seen
    → is_same_place (asked_place m.document url) m.document ≡ true → m.cell ≡ Some cell → IsAnswer (answer_in cell reply) found
    → found ≡ Some kept → new ≡ record seen { kept = Some kept }
    → KeepsAnswer (answer_of seen url reply) seen new
keeps m seen new url cell reply found kept view same bound answer there change =
    let P : ManagerStanding → Type 0 = λ s. answer_of s url reply ≡ answer_in cell reply in
    let R : Option Kept → Type 0 = λ k. IsAnswer (answer_in cell reply) k in
    let S : Option Answer → Type 0 = λ a. IsAnswer a (Some kept) in
    let so : answer_of seen url reply ≡ answer_in cell reply =
    subst P view (answer_is _ _ cell reply same bound) in
    keeps_it (answer_of seen url reply) kept seen new (subst S (sym so) (subst R there answer)) change
