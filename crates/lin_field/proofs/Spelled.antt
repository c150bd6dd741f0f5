-- What the parser makes of mended tokens is what they spell.
use Rattle.std.proofs.Common.{◌≡◌, ℕ, List, [], Option, Some, None, Ok, refl, sym, ap, subst, ◌∙◌}
use Rattle.lin_ldf.specs.Symbols.{Symbol, symbols_in}
use Rattle.lin_ldf.specs.Forms.{Gives, Fails}
use Rattle.lin_ldf.specs.Laws.{made_is}
use Rattle.lin_ldf.specs.Stream.{start_of}
use Rattle.lin_ldf.specs.Tokens.{AreTokens, mark_len, behind_mark}
use Rattle.lin_ldf.specs.declared.token.Token.{Token}
use Rattle.lin_ldf.specs.declared.fault.LdfFault.{LdfFault}
use Rattle.lin_ldf.specs.declared.fault.LdfFault.TheVariants as faults
use Rattle.lin_ldf.proofs.Unique.{same_tokens}
use Rattle.lin_field.specs.Bytes.{field_bytes}
use Rattle.lin_field.specs.Marks.{AreExtraMarks, without_extra_marks, extra_in, text_with_blanks}
use Rattle.lin_field.specs.Describes.{ReadsFieldText, ReadsIn, SpellsIn}
use Rattle.lin_field.specs.Grammar.{field_file}
use Rattle.lin_field.specs.GrammarLaws.{field_file_takes}
use Rattle.lin_field.specs.declared.loose.Loose.{Loose}
use Rattle.lin_field.specs.declared.field_text.FieldText.{FieldText}
use Rattle.lin_field.proofs.Mended.{marks_blanked}

file_ends : (ss : List Symbol) (l : Loose) (rest : List Symbol) → field_file.spells ss l rest → rest ≡ []
file_ends ss l rest h = h.1.2.3.1

pub found_spelled : (l : Loose) (left ss : List Symbol) → Gives (Ok l) left (field_file.read ss) → field_file.spells ss l []
found_spelled l left ss e =
    let h = field_file_takes.lawful.found ss l left e in
    subst (λ (rest : List Symbol). field_file.spells ss l rest) (file_ends ss l left h) h

-- tokens spell one text at most
spelled_once : (ss : List Symbol) (l m : Loose) → field_file.spells ss l [] → field_file.spells ss m [] → l ≡ m
spelled_once ss l m h k =
    let same : (l, []) ≡ (m, []) = made_is (l, []) (m, []) (sym (field_file_takes.lawful.again ss l [] h refl) ∙ field_file_takes.lawful.again ss m [] k refl) in
    ap (λ (p : Loose × List Symbol). p.0) same

not_both : {A : Type 0} (o : Option A) (x : A) → o ≡ None → o ≡ Some x → ⊥
not_both o x e f = let no : None ≡ Some x = sym e ∙ f in cc

fails_alone : (f : LdfFault) (ss : List Symbol) (l : Loose) → Fails f (field_file.read ss) → field_file.spells ss l [] → f ≡ faults.OutOfMemory
fails_alone faults.OutOfMemory ss l e h = refl
fails_alone f ss l e h = absurd (not_both (field_file.read ss) (l, []) e (field_file_takes.lawful.again ss l [] h refl))

-- ---- of a source

abbrev pub seen_in : List ℕ → List Symbol
seen_in bytes = symbols_in bytes (start_of bytes).tokens

-- what the parser sees, step by step
pub seen_blanked : (source over bytes : List ℕ) (marks lent : List Token) (ss : List Symbol) → over ≡ source → bytes ≡ text_with_blanks over lent → lent ≡ marks → ss ≡ seen_in bytes → ss ≡ seen_in (text_with_blanks source marks)
seen_blanked source over bytes marks lent ss is left same seen = seen ∙ ap seen_in (left ∙ ap (λ (s : List ℕ). text_with_blanks s lent) is ∙ ap (text_with_blanks source) same)

seen_mended : (source : List ℕ) (marks : List Token) (m : AreExtraMarks source marks) (ss : List Symbol) → ss ≡ seen_in (text_with_blanks source marks) → ss ≡ without_extra_marks (symbols_in source m.0)
seen_mended source marks m ss seen = seen ∙ ap (λ (ms : List Token). seen_in (text_with_blanks source ms)) m.2 ∙ marks_blanked source m.0 m.1

-- what was read of the source with spaces in the place of its marks, its tokens spell
pub read_spelled : (source : List ℕ) (marks : List Token) (m : AreExtraMarks source marks) (l : Loose) (left ss : List Symbol) → ss ≡ seen_in (text_with_blanks source marks) → Gives (Ok l) left (field_file.read ss)
    → SpellsIn source m.0 l
read_spelled source marks m l left ss seen e =
    subst (λ (xs : List Symbol). field_file.spells xs l []) (seen_mended source marks m ss seen) (found_spelled l left ss e)

-- where its tokens spell something, only memory was out
pub only_memory : (source : List ℕ) (marks : List Token) (m : AreExtraMarks source marks) (f : LdfFault) (ss : List Symbol) → ss ≡ seen_in (text_with_blanks source marks) → Fails f (field_file.read ss)
    → (ts : List Token) → AreTokens source ts → (l : Loose) → SpellsIn source ts l → f ≡ faults.OutOfMemory
only_memory source marks m f ss seen e ts are l h =
    let same : symbols_in source ts ≡ symbols_in source m.0 = ap (symbols_in source) (same_tokens (mark_len source) (behind_mark source) ts m.0 are m.1) in
    fails_alone f ss l e (subst (λ (xs : List Symbol). field_file.spells xs l []) (ap without_extra_marks same ∙ sym (seen_mended source marks m ss seen)) h)

same_text : (t u : FieldText) → t.loose ≡ u.loose → t.marks ≡ u.marks → t ≡ u
same_text t u e f =
    let first : t ≡ record { loose = u.loose; marks = t.marks } = ap (λ (l : Loose). record { loose = l; marks = t.marks }) e in
    first ∙ ap (λ (ms : List Token). record { loose = u.loose; marks = ms }) f

-- a text of the field reads as one thing at most
pub read_once : (source : List ℕ) (t u : FieldText) → ReadsIn source t → ReadsIn source u → t ≡ u
read_once source t u (ts, are, marks, spells) (us, are', marks', spells') =
    let same : ts ≡ us = same_tokens (mark_len source) (behind_mark source) ts us are are' in
    same_text t u
    (spelled_once _ t.loose u.loose (subst (λ (vs : List Token). SpellsIn source vs t.loose) same spells) spells')
    (marks ∙ ap extra_in same ∙ sym marks')

pub reads_once : (text : List ℕ) (t u : FieldText) → ReadsFieldText text t → ReadsFieldText text u → t ≡ u
reads_once text t u h k = read_once (field_bytes text) t u h k
