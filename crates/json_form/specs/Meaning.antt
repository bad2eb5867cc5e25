-- What a described form means: the form that it is in specs.
use Rattle.std.specs.Prelude.{List, map}
use Rattle.json_form.specs.Forms as forms
use Rattle.json_form.specs.Leaves.{null, flag, text, one_word, whole, moment, below_length, up_to_count}
use Rattle.json_form.specs.Lists.{list_of, measured, counting}
use Rattle.json_form.specs.Objects as objects
use Rattle.json_form.specs.Alternatives as alternatives
use Rattle.json_form.specs.declared.form.Form.{Form, fold-Form}
use Rattle.json_form.specs.declared.form.Form.TheOpen.{Form-F, Member-F, Word-F, Outline-F}
use Rattle.json_form.specs.declared.form.Member.{Member, fold-Member}
use Rattle.json_form.specs.declared.form.Word.{Word, fold-Word}
use Rattle.json_form.specs.declared.form.Outline.{Outline, fold-Outline}

-- one level, with each form inside already seen as what it means
abbrev pub form_step :
    Form-F forms.Form objects.Member (List objects.Member) alternatives.Word → forms.Form
form_step Form-F.Null = null
form_step Form-F.Flag = flag
form_step Form-F.Text = text
form_step (Form-F.Words words) = one_word (map (λ word. word.now) words.now)
form_step (Form-F.Whole least most) = whole least most
form_step Form-F.Moment = moment
form_step Form-F.BelowLength = below_length
form_step Form-F.UpToCount = up_to_count
form_step (Form-F.ListOf form) = list_of form.now
form_step (Form-F.Measured form) = measured form.now
form_step (Form-F.Counting tag word form) = counting tag.now word.now form.now
form_step (Form-F.Object members) = objects.object members.now
form_step (Form-F.OrNull form) = alternatives.or_null form.now
form_step (Form-F.IfHas name there absent) = alternatives.if_has name.now there.now absent.now
form_step (Form-F.Tagged tag words) = alternatives.tagged tag.now words.now
form_step (Form-F.Either first second) = alternatives.either first.now second.now
form_step (Form-F.OneOf outlines) = alternatives.one_of outlines.now

-- one level of a member
abbrev pub member_step :
    Member-F forms.Form objects.Member (List objects.Member) alternatives.Word → objects.Member
member_step m = record { name = m.0.now; presence = m.1; form = m.2 }

-- one level of a word
abbrev pub word_step :
    Word-F forms.Form objects.Member (List objects.Member) alternatives.Word → alternatives.Word
word_step w = record { word = w.0.now; form = w.1 }

-- one level of an outline
abbrev pub outline_step :
    Outline-F forms.Form objects.Member (List objects.Member) alternatives.Word → List objects.Member
outline_step o = o.0.now

-- a form
abbrev pub form_of : Form → forms.Form
form_of =
    fold-Form forms.Form objects.Member (List objects.Member) alternatives.Word
    form_step member_step outline_step word_step

-- a member
abbrev pub member_of : Member → objects.Member
member_of =
    fold-Member forms.Form objects.Member (List objects.Member) alternatives.Word
    form_step member_step outline_step word_step

-- a word of a tag
abbrev pub word_of : Word → alternatives.Word
word_of =
    fold-Word forms.Form objects.Member (List objects.Member) alternatives.Word
    form_step member_step outline_step word_step

-- the members of an outline
abbrev pub outline_of : Outline → List objects.Member
outline_of =
    fold-Outline forms.Form objects.Member (List objects.Member) alternatives.Word
    form_step member_step outline_step word_step
