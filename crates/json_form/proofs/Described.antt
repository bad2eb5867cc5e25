-- What each described form means, by its parts. `simp described refl` ties a table to its specs.
use Rattle.std.proofs.Common.{◌≡◌, ℕ, List, map, Bor, rules}
use Rattle.json_form.specs.Leaves.{null, flag, text, one_word, whole, moment, below_length, up_to_count}
use Rattle.json_form.specs.Lists.{list_of, measured, counting}
use Rattle.json_form.specs.Objects.{object}
use Rattle.json_form.specs.Alternatives.{or_null, if_has, tagged, either, one_of}
use Rattle.json_form.specs.Meaning.{form_of, member_of, word_of, outline_of}
use Rattle.json_form.specs.declared.form.Form.{Form, Null, Flag, Text, Words, Whole, Moment, BelowLength, UpToCount, ListOf, Measured, Counting, Object, OrNull, IfHas, Tagged, Either, OneOf, the_lemmas}
use Rattle.json_form.specs.declared.form.Form.TheOpen.{Outline-F}
use Rattle.json_form.specs.declared.form.Presence.{Presence}
use Rattle.json_form.specs.declared.form.Member.{Member, roll-Member}
use Rattle.json_form.specs.declared.form.Word.{Word, roll-Word}
use Rattle.json_form.specs.declared.form.Outline.{Outline, roll-Outline}

pub of_Null : form_of Null ≡ null
of_Null = search (rules, the_lemmas)

pub of_Flag : form_of Flag ≡ flag
of_Flag = search (rules, the_lemmas)

pub of_Text : form_of Text ≡ text
of_Text = search (rules, the_lemmas)

pub of_Words : (ws : Bor (List (Bor (List ℕ)))) → form_of (Words ws) ≡ one_word (map (λ word. word.now) ws.now)
of_Words ws = search (rules, the_lemmas)

pub of_Whole : (least most : ℕ) → form_of (Whole least most) ≡ whole least most
of_Whole least most = search (rules, the_lemmas)

pub of_Moment : form_of Moment ≡ moment
of_Moment = search (rules, the_lemmas)

pub of_BelowLength : form_of BelowLength ≡ below_length
of_BelowLength = search (rules, the_lemmas)

pub of_UpToCount : form_of UpToCount ≡ up_to_count
of_UpToCount = search (rules, the_lemmas)

pub of_ListOf : (f : Bor Form) → form_of (ListOf f) ≡ list_of (form_of f.now)
of_ListOf f = search (rules, the_lemmas)

pub of_Measured : (f : Bor Form) → form_of (Measured f) ≡ measured (form_of f.now)
of_Measured f = search (rules, the_lemmas)

pub of_Counting : (t w : Bor (List ℕ)) (f : Bor Form) → form_of (Counting t w f) ≡ counting t.now w.now (form_of f.now)
of_Counting t w f = search (rules, the_lemmas)

pub of_Object : (ms : Bor (List Member)) → form_of (Object ms) ≡ object (map member_of ms.now)
of_Object ms = search (rules, the_lemmas)

pub of_OrNull : (f : Bor Form) → form_of (OrNull f) ≡ or_null (form_of f.now)
of_OrNull f = search (rules, the_lemmas)

pub of_IfHas : (n : Bor (List ℕ)) (f g : Bor Form) → form_of (IfHas n f g) ≡ if_has n.now (form_of f.now) (form_of g.now)
of_IfHas n f g = search (rules, the_lemmas)

pub of_Tagged : (n : Bor (List ℕ)) (ws : Bor (List Word)) → form_of (Tagged n ws) ≡ tagged n.now (map word_of ws.now)
of_Tagged n ws = search (rules, the_lemmas)

pub of_Either : (f g : Bor Form) → form_of (Either f g) ≡ either (form_of f.now) (form_of g.now)
of_Either f g = search (rules, the_lemmas)

pub of_OneOf : (os : Bor (List Outline)) → form_of (OneOf os) ≡ one_of (map outline_of os.now)
of_OneOf os = search (rules, the_lemmas)

pub of_Member : (n : Bor (List ℕ)) (p : Presence) (f : Form) → member_of (roll-Member (n, p, f)) ≡ record { name = n.now; presence = p; form = form_of f }
of_Member n p f = search (rules, the_lemmas)

pub of_Word : (w : Bor (List ℕ)) (f : Form) → word_of (roll-Word (w, f)) ≡ record { word = w.now; form = form_of f }
of_Word w f = search (rules, the_lemmas)

pub of_Outline : (o : Outline-F Form Member Outline Word) → outline_of (roll-Outline o) ≡ map member_of o.0.now
of_Outline o = search (rules, the_lemmas)

-- all of these
pub ruleset described = (of_Null, of_Flag, of_Text, of_Words, of_Whole, of_Moment, of_BelowLength, of_UpToCount, of_ListOf, of_Measured, of_Counting, of_Object, of_OrNull, of_IfHas, of_Tagged, of_Either, of_OneOf, of_Member, of_Word, of_Outline)
