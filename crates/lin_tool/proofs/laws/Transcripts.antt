-- What a bench in hand answers to lines, without the lines that begin with `#`.
use Rattle.std.proofs.Common.{◌≡◌, ◌∙◌, ℕ, ◌-◌, ◌==◌, Bool, true, false, List, [], ◌∷◌, ◌++◌, refl, sym, ap, append_assoc, flat_map, length, map, reverse, take, Option, None, if◌then◌else◌}
use Rattle.std.specs.List.{AllByRecursion}
use Rattle.std.specs.Str.Lines.{strip_carriage_return}
use Rattle.std.proofs.lemmas.List.Elements.{All-take}
use Rattle.lin_parts.specs.declared.parts.Parts.{Parts}
use Rattle.lin_core.specs.declared.log.LogEntry.{LogEntry}
use Rattle.lin_values.specs.Coded.{CodedData}
use Rattle.lin_live.proofs.Cuts.{pieces-clean, tail-clean}
use Rattle.lin_live.proofs.Growth.{answers-are-the-log, answers-are-written, told-kept}
use Rattle.lin_live.specs.Answers.{answers, answers_text}
use Rattle.lin_live.specs.Told.{Answer, Ending, HandData, hash_ending, is_text, last_line, line_answer, entries_text, heard_by, shown_coding, heard_answer}
use Rattle.lin_live.specs.Lines.{HasNoLf, but_last, last_line as last_of, pieces_at_lf, after_last_lf}
use Rattle.lin_live.specs.Transcript.{short}
use Rattle.lin_live.specs.declared.answer_format.AnswerFormat.{AnswerFormat}
use Rattle.lin_live.specs.declared.answer_format.AnswerFormat.TheVariants.{Log, Named, Jsonl}
use Rattle.lin_tool.specs.laws.Transcripts.{IsRemark, LastLinesAreRemarks, LinesHaveNoLf, TranscriptsAreLogs, without_remarks}
use Rattle.lin_tool.proofs.laws.LogLines.{entries-append, entries-stay}
use Rattle.lin_tool.proofs.laws.Remarks.{each-way, ending-remark, remark-goes}

-- ---- the last lines of answers
abbrev HasRemark : AnswerFormat → Parts → Option CodedData → Answer → Type 0
HasRemark f c k a = IsRemark (last_line f c k a.ending)

-- an answer in a text ends with a line that begins with `#`
text-line : (f : AnswerFormat) (c : Parts) (k : Option CodedData) (e : Ending) → is_text f ≡ true → IsRemark (hash_ending c k e) → IsRemark (last_line f c k e)
text-line Log c k e is h = h
text-line Named c k e is h = h
text-line Jsonl c k e is h = absurd (cc)

all-remarks : (h : HandData) (f : AnswerFormat) (physical : Bool) (c : Parts) (k : Option CodedData) → h.format ≡ f → h.is_physical ≡ physical → h.cluster ≡ c → h.coded ≡ k → is_text f ≡ true
    → (ls : List (List ℕ)) → AllByRecursion (HasRemark f c (if physical then k else None)) (answers h ls)
all-remarks h f physical c k form phys is so text [] = tt
all-remarks h f physical c k form phys is so text (line ∷ more) =
    let begun = record h { begun = true } in
    let said = heard_by h (short line) in
    let kept = told-kept begun said in (
      rw (sym is, sym so, sym phys)
          (text-line f h.cluster (shown_coding h) _ text (ending-remark h.cluster (shown_coding h) (heard_answer begun said).1.ending)),
      all-remarks (line_answer h (short line)).0 f physical c k (kept.0 ∙ form) (kept.3 ∙ phys) (kept.1 ∙ is) (kept.2 ∙ so) text more,
    )

pub last-lines-are-remarks : LastLinesAreRemarks
last-lines-are-remarks h ls text = all-remarks h h.format h.is_physical h.cluster h.coded refl refl refl refl text ls

-- ---- the entries of answers
none-told : (f : AnswerFormat) (c : Parts) (k : Option CodedData) (past : List LogEntry) → [] ≡ entries_text f c k past []
none-told Log c k past = refl
none-told Named c k past = refl
none-told Jsonl c k past = refl

answers-left : (f : AnswerFormat) (c : Parts) (k : Option CodedData) (past : List LogEntry) (all : List Answer)
    → is_text f ≡ true → AllByRecursion (HasRemark f c k) all → without_remarks (answers_text f c k past all) ≡ entries_text f c k past (flat_map (λ a. a.entries) all)
answers-left f c k past [] text h = none-told f c k past
answers-left f c k past (x ∷ more) text h =
    let told = entries_text f c k past x.entries in
    let rest = answers_text f c k (reverse x.entries ++ past) more in
    let last = last_line f c k x.ending in
    ap without_remarks (append_assoc told last rest)
    ∙ entries-stay f c k text past x.entries (last ++ rest)
    ∙ ap (λ t. told ++ t) (remark-goes last h.0 rest ∙ answers-left f c k (reverse x.entries ++ past) more text h.1)
    ∙ sym (entries-append f c k past x.entries (flat_map (λ y. y.entries) more))

pub transcripts-are-logs : TranscriptsAreLogs
transcripts-are-logs h ls t =
    let all = flat_map (λ x. x.entries) (answers h ls) in
    let k = shown_coding h in
    ap without_remarks (answers-are-written h ls t.forward)
    ∙ answers-left h.format h.cluster k h.bench.past (answers h ls) t.of_text (last-lines-are-remarks h ls t.of_text)
    ∙ ap (λ p. entries_text h.format h.cluster k p all) t.begins
    ∙ ap (entries_text h.format h.cluster k []) (sym (answers-are-the-log h ls t.forward ∙ ap (λ (p : List LogEntry). reverse p ++ all) t.begins))

-- ---- the lines of an input
strip-clean : (p : List ℕ) → HasNoLf p → HasNoLf (strip_carriage_return p)
strip-clean p h = each-way HasNoLf _ (take (length p - 1) p) p (All-take (λ b. (b == 10) ≡ false) (length p - 1) p h) h

closed-clean : (ps rest : List (List ℕ)) → AllByRecursion HasNoLf ps → AllByRecursion HasNoLf rest
    → AllByRecursion HasNoLf (map strip_carriage_return (but_last ps) ++ rest)
closed-clean [] rest h k = k
closed-clean (p ∷ []) rest h k = k
closed-clean (p ∷ q ∷ ps) rest h k = (strip-clean p h.0, closed-clean (q ∷ ps) rest h.1 k)

last-clean : (p : List ℕ) → HasNoLf p → AllByRecursion HasNoLf (last_of p)
last-clean p h = each-way (AllByRecursion HasNoLf) (length p == 0) [] (strip_carriage_return p ∷ []) tt (strip-clean p h, tt)

pub lines-have-no-lf : LinesHaveNoLf
lines-have-no-lf bytes = closed-clean (pieces_at_lf bytes) (last_of (after_last_lf bytes)) (pieces-clean bytes) (last-clean (after_last_lf bytes) (tail-clean bytes))
