use Rattle.std.proofs.Common.{◌≡◌, ◌∙◌, ℕ, ◌+◌, if◌then◌else◌, true, false, List, Option, Ok, ap, drop, length, sym}
use Rattle.std.proofs.lemmas.List.{drop-drop}
use Rattle.lin_parts.specs.declared.parts.Parts.{Parts}
use Rattle.lin_log.specs.Said as log
use Rattle.lin_values.specs.Coded.{CodedData}
use Rattle.lin_bench.specs.Fields.{◌>>=◌, all_fields}
use Rattle.lin_bench.specs.Hints.{names_hash}
use Rattle.lin_bench.specs.Lines.{read_line}
use Rattle.lin_bench.specs.Parts.{fields_of, worded_line_of}
use Rattle.lin_bench.specs.RawValues.{some_value}
use Rattle.lin_bench.specs.Words.{WordedLine, in_numbers, line_with_signal, with_hash, without_comment, worded_line, worded_signal}
use Rattle.lin_bench.specs.declared.line.ScriptLine.{ScriptLine}
use Rattle.lin_bench.proofs.words.read_worded.Goals as goal

-- a line of a signal with `#` in a text says what it says with all its fields
uncommented : (c : Parts) (k : CodedData) (w : WordedLine) (l : List ℕ) (initial : Option ScriptLine) (s : ℕ) (words : List (List ℕ))
    → read_line c (in_numbers w.before w.signal (some_value c w.signal)) ≡ Ok initial → worded_signal c k w.signal ≡ Ok s
    → names_hash k s ≡ true → words ≡ drop (length w.before + 2) (all_fields l)
    → worded_line c k w l ≡ line_with_signal c k (record w { words = words }) initial s
unfolding worded_line
uncommented c k w l initial s words read named hash is =
    ap (λ r. r >>= (λ at. worded_signal c k w.signal >>= (λ n. line_with_signal c k (with_hash k n w l) at n))) read
    ∙ ap (λ r. r >>= (λ n. line_with_signal c k (with_hash k n w l) initial n)) named
    ∙ ap (λ h. line_with_signal c k (if h then without_comment w l else w) initial s) hash
    ∙ ap (λ ws. line_with_signal c k (record w { words = ws }) initial s) (sym is)

pub returns : goal.returns
returns c =
    let w = worded_line_of c.args.line.now in
    let all = fields_of c.whole-all.result in
    let text = c.whole-all.ensures ∙ ap (log.fields false) (c.as_slice.ensures.value ∙ c.in_ok-text.ensures) in
    let read = ap (λ v. read_line c.args.cluster.now (in_numbers w.before w.signal v)) (sym c.in_ok-value.ensures) ∙ c.in_ok-initial.ensures in
    let words = c.skip-words.ensures ∙ ap (drop 2) c.skip.ensures ∙ drop-drop 2 c.len.result all
    ∙ ap (λ n. drop (n + 2) all) c.len.ensures ∙ ap (drop (length w.before + 2)) text in
    rw (uncommented c.args.cluster.now c.args.coded.now w c.args.text.now c.in_ok-initial.initial c.in_ok-signal.signal (fields_of c.skip-words.result)
    read c.in_ok-signal.ensures (sym c.if-not-names_hash.ensures) words)
    c.with_words-2.ensures
