use Rattle.std.proofs.Common.{◌≡◌, ◌∙◌, Err, Global, List, ℕ, None, Option, Result, Some, Vec, ap, refl, subst, sym}
use Rattle.std.specs.Borrow.{Bor}
use Rattle.lin_text.specs.Written.{WritesText}
use Rattle.lin_text.specs.declared.fault.WriteFailed.{WriteFailed as Failed}
use Rattle.lin_parts.specs.declared.parts.Parts.{Parts}
use Rattle.lin_values.specs.Coded.{CodedData}
use Rattle.lin_bench.specs.Files.{SourceData, source_data}
use Rattle.lin_bench.specs.Read.{ReadFails}
use Rattle.lin_bench.specs.Scripts.{bad_lines, read}
use Rattle.lin_bench.specs.declared.fault.ReadFault.{ReadFault}
use Rattle.lin_bench.specs.declared.fault.ReadFault.TheVariants.{BadLine}
use Rattle.lin_bench.specs.declared.line.ScriptLine.{ScriptLine}
use Rattle.lin_bench.specs.declared.place.LinePlace.{LinePlace}
use Rattle.lin_bench.specs.declared.reason.Reason.{Reason}
use Rattle.lin_bench.specs.declared.reason.Reason.TheVariants.{LongFile, Unread}
use Rattle.lin_bench.specs.declared.rules.NodeLimits.{NodeLimits}
use Rattle.lin_tool.specs.Placing.{bad_text}
use Rattle.lin_tool.specs.Playing.{IsUnread, ReadsLines, bad_fault, fault_of_bad, last_reason}
use Rattle.lin_tool.specs.declared.fault.Fault.{Fault}
use Rattle.lin_tool.proofs.play_command.bench_lines.Goals as goal

-- the fault of a bad line isn't that memory ran out
reads-bad : {X : Type 0} (named : Option (Bor (List ℕ))) (x : Parts) (k : Option CodedData) (limits : List NodeLimits) (s : SourceData) (view : X → List (LinePlace × ScriptLine)) (p : LinePlace) (why : Reason) (told : Result Unit Failed) (silent heard : Option (List ℕ))
    → IsUnread named x k limits s (fault_of_bad p why told) silent heard → ReadsLines named x k limits s view (Err (fault_of_bad p why told)) silent heard
reads-bad named x k limits s view p (Unread name) told silent heard h = h
reads-bad named x k limits s view p (LongFile name) told silent heard h = h
reads-bad named x k limits s view p why told silent heard h = h

reads-told : {X : Type 0} (named : Option (Bor (List ℕ))) (x : Parts) (k : Option CodedData) (limits : List NodeLimits) (s : SourceData) (view : X → List (LinePlace × ScriptLine)) (first : LinePlace × Reason) (told : Result Unit Failed) (silent heard : Option (List ℕ))
    → IsUnread named x k limits s (bad_fault named x k limits s first told) silent heard → ReadsLines named x k limits s view (Err (bad_fault named x k limits s first told)) silent heard
reads-told None x k limits s view first told silent heard h = reads-bad None x k limits s view first.0 first.1 told silent heard h
reads-told (Some file) x k limits s view first told silent heard h = reads-bad (Some file) x k limits s view first.0 (last_reason first.1 (bad_lines x k limits s)) told silent heard h

-- a script with a first bad line, of which it was told
tells-bad : {X : Type 0} (named : Option (Bor (List ℕ))) (x : Parts) (k : Option CodedData) (limits : List NodeLimits) (s : SourceData) (view : X → List (LinePlace × ScriptLine)) (first : LinePlace × Reason) (fault : Fault) (told : Result Unit Failed) (silent heard : Option (List ℕ))
    → read x k limits s ≡ Err first → fault ≡ bad_fault named x k limits s first told → WritesText silent heard told (bad_text named x k limits s first)
    → ReadsLines named x k limits s view (Err fault) silent heard
tells-bad named x k limits s view first fault told silent heard h e w =
    subst (λ f. ReadsLines named x k limits s view (Err f) silent heard) (sym e) (reads-told named x k limits s view first told silent heard (first, told, h, refl, w))

-- the first bad line of a script that was read
said-bad : (x : Parts) (k : Option CodedData) (limits : List NodeLimits) (s : SourceData) (known : Option CodedData) (those : List NodeLimits) (f : ReadFault) (p : LinePlace) (why : Reason)
    → known ≡ k → those ≡ limits → f ≡ BadLine p why → ReadFails f (read x known those s) → read x k limits s ≡ Err (p, why)
said-bad x k limits s known those f p why coding limit is h =
    ap (λ l. read x k l s) (sym limit) ∙ ap (λ m. read x m those s) (sym coding) ∙ subst (λ e. ReadFails e (read x known those s)) is h

pub returns-in_ok-tell_bad-in-Err-BadLine-clause-lines : goal.returns-in_ok-tell_bad-in-Err-BadLine-clause-lines
returns-in_ok-tell_bad-in-Err-BadLine-clause-lines g c =
    let o = c.args.opened.now in
    let s = source_data c.args.script.source in
    let told = c.in_ok-tell_bad-in-Err-BadLine.ensures in
    let first : LinePlace × Reason = (c.in-Err-BadLine.place, c.in-Err-BadLine.reason) in
    let said : read o.cluster o.coded o.limits s ≡ Err first =
    said-bad o.cluster o.coded o.limits s _ _ _ c.in-Err-BadLine.place c.in-Err-BadLine.reason c.as_ref.ensures.value c.as_slice-limits.ensures c.in-Err-BadLine.field-0-is c.in-Err-BadLine.ensures.said in
    tells-bad c.args.script.name o.cluster o.coded o.limits s (λ (v : Vec (LinePlace × ScriptLine) Global). v.items) first _ told.0 (g.E.Write.contents c.args.errors.now) _ said told.1 told.2
