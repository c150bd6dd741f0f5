use Rattle.std.proofs.Common.{ℕ, List, Option, Result, Ok, refl, reverse, subst}
use Rattle.std.specs.Prelude.{IsErr}
use Rattle.lin_parts.specs.declared.parts.Parts.{Parts}
use Rattle.lin_core.specs.declared.log.LogEntry.{LogEntry}
use Rattle.lin_values.specs.Coded.{CodedData}
use Rattle.lin_bench.specs.declared.files.ScriptFile.{ScriptFile}
use Rattle.lin_bench.specs.declared.got.Judgement.{Judgement}
use Rattle.lin_bench.specs.declared.tests.TestName.{TestName}
use Rattle.lin_text.specs.Written.{Grows}
use Rattle.lin_text.specs.declared.buffered.TextWriter.{TextWriter}
use Rattle.lin_text.proofs.Growing.{grows-more, same-growth}
use Rattle.lin_export.specs.Jsonl.{end_line, run_line}
use Rattle.lin_export.specs.Putting.{PutsAll}
use Rattle.lin_export.specs.WhereTold.{given_coding}
use Rattle.lin_export.specs.declared.jsonl.Counts.{Counts}
use Rattle.lin_export.proofs.Puttings.{puts-all}
use Rattle.lin_tool.specs.Objects.{checked_objects, counts_of, objects}
use Rattle.lin_tool.proofs.Remaining.{broke-off-behind}
use Rattle.lin_tool.proofs.objects.put_objects.Goals as goal

-- objects that broke off before the end, and all of them
some-objects : {W E F : Type 0} {contents : W → Option (List ℕ)} {x y z : TextWriter W} {q : Result Unit F} {r : Result Unit E}
    (c : Parts) (k : Option CodedData) (opening capacity : ℕ) (script : List ℕ) (fs : List ScriptFile) (log : List LogEntry) (ts : List TestName) (js : List Judgement)
    → IsErr r → Grows contents x y (run_line c opening capacity) → PutsAll contents y z q (checked_objects c k script fs ts log 0 js)
    → PutsAll contents x z r (objects c k opening capacity script fs log ts js)
some-objects c k opening capacity script fs log ts js failed run checked = broke-off-behind (end_line c (reverse log) (counts_of c log js)) failed run checked

all-objects : {W E F : Type 0} {contents : W → Option (List ℕ)} {x y z w : TextWriter W} {u : Unit}
    (c : Parts) (k : Option CodedData) (opening capacity : ℕ) (script : List ℕ) (fs : List ScriptFile) (log : List LogEntry) (ts : List TestName) (js : List Judgement)
    → Grows contents x y (run_line c opening capacity) → PutsAll {E = F} contents y z (Ok u) (checked_objects c k script fs ts log 0 js)
    → Grows contents z w (end_line c (reverse log) (counts_of c log js))
    → PutsAll {E = E} contents x w (Ok tt) (objects c k opening capacity script fs log ts js)
all-objects c k opening capacity script fs log ts js run checked end = puts-all refl (grows-more run (grows-more (same-growth checked.all checked.grows) end))

pub put_checked-requires : goal.put_checked-requires
put_checked-requires g c = c.new-objects.ensures c.args.core.now.cluster

pub returns-in_err-put_checked : goal.returns-in_err-put_checked
returns-in_err-put_checked g c =
    let core = c.args.core.now in
    let shown = c.args.shown.now in
    some-objects core.cluster (given_coding shown.coded) shown.table shown.capacity c.args.script.now shown.files.now core.log shown.tests.now shown.judgements.now c.from_residual.ensures.0
    (subst (λ (x : Parts). Grows g.W.Write.contents c.args.out.now c.put_run.new.out (run_line x shown.table shown.capacity)) c.cluster.ensures c.put_run.ensures)
    c.put_checked.ensures.text

pub returns : goal.returns
returns g c =
    let core = c.args.core.now in
    let shown = c.args.shown.now in
    let track = rw c.in_ok-put_checked.was at c.put_checked.ensures.track in
    all-objects core.cluster (given_coding shown.coded) shown.table shown.capacity c.args.script.now shown.files.now core.log shown.tests.now shown.judgements.now
    (subst (λ (x : Parts). Grows g.W.Write.contents c.args.out.now c.put_run.new.out (run_line x shown.table shown.capacity)) c.cluster.ensures c.put_run.ensures)
    (subst (λ q. PutsAll g.W.Write.contents c.put_run.new.out c.put_checked.new.out q (checked_objects core.cluster (given_coding shown.coded) c.args.script.now shown.files.now shown.tests.now core.log 0 shown.judgements.now))
    c.in_ok-put_checked.was c.put_checked.ensures.text)
    (subst (λ (n : Counts). Grows g.W.Write.contents c.put_checked.new.out c.put_end.new.out (end_line core.cluster (reverse core.log) n)) c.counts_of.ensures
    (c.put_end.ensures core.cluster (reverse core.log) track))
