use Rattle.std.proofs.Common.{◌≡◌, ◌∙◌, ◌+◌, ◌++◌, ◌<◌, ◌≤◌, ℕ, List, [], ap, append-nil, arith, drop, get_or, length, refl, reverse, subst, sym, take}
use Rattle.std.specs.Prelude.{max, min, Option}
use Rattle.lin_parts.specs.declared.parts.Parts.{Parts}
use Rattle.lin_values.specs.Coded.{CodedData}
use Rattle.std.proofs.lemmas.List.{take_all}
use Rattle.lin_core.specs.declared.log.LogEntry.{LogEntry}
use Rattle.lin_bench.specs.Files.{file_name}
use Rattle.lin_bench.specs.declared.files.ScriptFile.{ScriptFile}
use Rattle.lin_bench.specs.declared.got.Judgement.{Judgement}
use Rattle.lin_bench.specs.declared.tests.TestName.{TestName}
use Rattle.lin_export.specs.Putting.{PutsAll}
use Rattle.lin_export.proofs.Puttings.{puts-all}
use Rattle.lin_export.proofs.Slots.{drop-end, drop-next}
use Rattle.lin_export.specs.Jsonl.{objects_of}
use Rattle.lin_export.specs.WhereTold.{given_coding}
use Rattle.lin_tool.specs.Objects.{failed_check_object, checked_objects}
use Rattle.lin_tool.proofs.Remaining.{broke-off, none-put, put-all, put-whole, same-rest}
use Rattle.lin_tool.proofs.objects.put_checked.Goals as goal

pub loop-one-init : goal.loop-one-init
loop-one-init g c = record {
  put = none-put c.args.out.now _;
  track = rw c.cluster-cluster.ensures c.requires;
  few = omega arith;
}

-- one check more
checked-next : (c : Parts) (k : Option CodedData) (script : List ℕ) (fs : List ScriptFile) (ts : List TestName) (log : List LogEntry) (from end : ℕ) (js : List Judgement) (i : ℕ) (j : Judgement) → j ≡ get_or js i j → i < length js
    → end ≡ max (min j.entries (length log)) from
    → checked_objects c k script fs ts log from (drop i js)
    ≡ objects_of c k (reverse (take from log)) (drop from (take end log))
    ++ (failed_check_object c (file_name script fs j.place.file) ts (reverse (take end log)) j ++ checked_objects c k script fs ts log end (drop (i + 1) js))
checked-next c k script fs ts log from end js i j is h e =
    ap (checked_objects c k script fs ts log from) (drop-next js i j is h)
    ∙ ap (λ n. objects_of c k (reverse (take from log)) (drop from (take n log)) ++ (failed_check_object c (file_name script fs j.place.file) ts (reverse (take n log)) j ++ checked_objects c k script fs ts log n (drop (i + 1) js)))
    (sym e)

pub loop-one-preserved : goal.loop-one-preserved
loop-one-preserved g c =
    let k = given_coding c.args.shown.now.coded in
    let fs = c.args.shown.now.files.now in
    let ts = c.args.shown.now.tests.now in
    let log = c.log-log.result.now.entries in
    let js = c.args.shown.now.judgements.now in
    let j = c.one-item.result in
    let end = c.max-end.result in
    let rest = checked_objects c.cluster-cluster.result.now k c.args.script.now fs ts log end (drop (c.loop-one.one-index + 1) js) in
    let entries = rw c.in_ok-put_entries.was at c.put_entries.ensures.text in
    let track = rw c.in_ok-put_entries.was at c.put_entries.ensures.track in
    let named : c.file_name.result.now ≡ file_name c.args.script.now fs j.place.file = c.file_name.ensures ∙ ap (λ t. file_name t fs j.place.file) c.as_bytes.ensures.value in
    let tried = subst (λ (t : List ℕ). PutsAll g.W.Write.contents c.put_entries.new.out c.put_check.new.out c.put_check.result (failed_check_object c.cluster-cluster.result.now t ts (reverse (take end log)) j)) named (c.put_check.ensures (reverse (take end log)) track) in
    let check = rw c.in_ok-put_check.was at tried in
    let next = checked-next c.cluster-cluster.result.now k c.args.script.now fs ts log c.loop-one.read end js c.loop-one.one-index j c.one-item.is (omega arith) (c.max-end.ensures ∙ ap (λ n. max n c.loop-one.read) c.within.ensures.count) in
    record {
      put = put-all rest (put-all (failed_check_object c.cluster-cluster.result.now (file_name c.args.script.now fs j.place.file) ts (reverse (take end log)) j ++ rest) (same-rest next c.loop-one.invariant.put) entries) check;
      track = track;
      few = omega arith;
    }

pub returns-in_err-put_entries-clause-text : goal.returns-in_err-put_entries-clause-text
returns-in_err-put_entries-clause-text g c =
    let x = c.cluster-cluster.result.now in
    let k = given_coding c.args.shown.now.coded in
    let script = c.args.script.now in
    let fs = c.args.shown.now.files.now in
    let ts = c.args.shown.now.tests.now in
    let log = c.log-log.result.now.entries in
    let js = c.args.shown.now.judgements.now in
    let j = c.one-item.result in
    let end = c.max-end.result in
    let rest = checked_objects x k script fs ts log end (drop (c.loop-one.one-index + 1) js) in
    let next = checked-next x k script fs ts log c.loop-one.read end js c.loop-one.one-index j c.one-item.is (omega arith) (c.max-end.ensures ∙ ap (λ n. max n c.loop-one.read) c.within.ensures.count) in
    rw (c.cluster-cluster.ensures, c.log-log.ensures.entries) at
    (broke-off (failed_check_object x (file_name script fs j.place.file) ts (reverse (take end log)) j ++ rest) c.from_residual.ensures.0 (same-rest next c.loop-one.invariant.put) c.put_entries.ensures.text)

pub returns-in_err-put_check-clause-text : goal.returns-in_err-put_check-clause-text
returns-in_err-put_check-clause-text g c =
    let x = c.cluster-cluster.result.now in
    let k = given_coding c.args.shown.now.coded in
    let script = c.args.script.now in
    let fs = c.args.shown.now.files.now in
    let ts = c.args.shown.now.tests.now in
    let log = c.log-log.result.now.entries in
    let js = c.args.shown.now.judgements.now in
    let j = c.one-item.result in
    let end = c.max-end.result in
    let rest = checked_objects x k script fs ts log end (drop (c.loop-one.one-index + 1) js) in
    let next = checked-next x k script fs ts log c.loop-one.read end js c.loop-one.one-index j c.one-item.is (omega arith) (c.max-end.ensures ∙ ap (λ n. max n c.loop-one.read) c.within.ensures.count) in
    let entries = rw c.in_ok-put_entries.was at c.put_entries.ensures.text in
    let track = rw c.in_ok-put_entries.was at c.put_entries.ensures.track in
    let named : c.file_name.result.now ≡ file_name script fs j.place.file = c.file_name.ensures ∙ ap (λ t. file_name t fs j.place.file) c.as_bytes.ensures.value in
    let tried = subst (λ (t : List ℕ). PutsAll g.W.Write.contents c.put_entries.new.out c.put_check.new.out c.put_check.result (failed_check_object x t ts (reverse (take end log)) j)) named (c.put_check.ensures (reverse (take end log)) track) in
    rw (c.cluster-cluster.ensures, c.log-log.ensures.entries) at
    (broke-off rest c.from_residual-in_err-put_check.ensures.0 (put-all (failed_check_object x (file_name script fs j.place.file) ts (reverse (take end log)) j ++ rest) (same-rest next c.loop-one.invariant.put) entries) tried)

-- the objects after the last check
checked-last : (c : Parts) (k : Option CodedData) (script : List ℕ) (fs : List ScriptFile) (ts : List TestName) (log : List LogEntry) (from end : ℕ) (js : List Judgement) (i : ℕ) → length js ≤ i → length log ≤ end
    → checked_objects c k script fs ts log from (drop i js) ≡ objects_of c k (reverse (take from log)) (drop from (take end log)) ++ []
checked-last c k script fs ts log from end js i h e =
    ap (checked_objects c k script fs ts log from) (drop-end js i h) ∙ ap (λ (l : List LogEntry). objects_of c k (reverse (take from log)) (drop from l)) (sym (take_all end log e))
    ∙ sym (append-nil (objects_of c k (reverse (take from log)) (drop from (take end log))))

pub returns-in_err-put_entries-2-clause-text : goal.returns-in_err-put_entries-2-clause-text
returns-in_err-put_entries-2-clause-text g c =
    let x = c.cluster-cluster.result.now in
    let k = given_coding c.args.shown.now.coded in
    let log = c.log-log.result.now.entries in
    let js = c.args.shown.now.judgements.now in
    let last = checked-last x k c.args.script.now c.args.shown.now.files.now c.args.shown.now.tests.now log c.loop-one.read c.len.result js c.loop-one.one-index (omega arith) (omega (arith, c.len.ensures.len)) in
    rw (c.cluster-cluster.ensures, c.log-log.ensures.entries) at
    (broke-off [] c.from_residual-in_err-put_entries-2.ensures.0 (same-rest last c.loop-one.invariant.put) c.put_entries-2.ensures.text)

pub returns-clause-text : goal.returns-clause-text
returns-clause-text g c =
    let x = c.cluster-cluster.result.now in
    let k = given_coding c.args.shown.now.coded in
    let log = c.log-log.result.now.entries in
    let js = c.args.shown.now.judgements.now in
    let last = checked-last x k c.args.script.now c.args.shown.now.files.now c.args.shown.now.tests.now log c.loop-one.read c.len.result js c.loop-one.one-index (omega arith) (omega (arith, c.len.ensures.len)) in
    let entries = rw c.in_ok-put_entries-2.was at c.put_entries-2.ensures.text in
    let whole = rw (c.cluster-cluster.ensures, c.log-log.ensures.entries) at (put-whole (put-all [] (same-rest last c.loop-one.invariant.put) entries)) in
    puts-all refl whole
