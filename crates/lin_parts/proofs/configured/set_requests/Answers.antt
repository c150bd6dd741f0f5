use Rattle.std.proofs.Common.{◌≡◌, ◌∙◌, ◌<◌, ◌+◌, ℕ, List, ap, arith, length, get_or, set, sym, take}
use Rattle.std.specs.Prelude.{Option, None}
use Rattle.lin_parts.specs.Configured.{changed_items, entry_with, line_with}
use Rattle.lin_parts.specs.declared.parts.Entry.{Entry}
use Rattle.lin_parts.specs.declared.parts.Line.{Line}
use Rattle.lin_parts.proofs.Configuring.{changed-after, changed-item, changed-none, changed-now}
use Rattle.lin_parts.proofs.configured.set_requests.Goals.{then-k-as_slice, else-k-as_slice}
use Rattle.lin_parts.proofs.configured.set_requests.Goals as goal

abbrev line_of : Entry → ℕ → Line
line_of entry delay = record { entry = entry; delay_us = delay }

next-line : (old : List Line) (rs : List (Option (List ℕ))) (lines now : List Line) (k : ℕ) (d : Line) (entry : Entry) → lines ≡ changed_items line_with old (take k rs) → now ≡ lines → entry ≡ entry_with (get_or now k d).entry (get_or rs k None) → k < length now → k < length rs
    → set lines k (line_of entry (get_or now k d).delay_us) ≡ changed_items line_with old (take (k + 1) rs)
next-line old rs lines now k d entry are same e here there =
    let item : get_or now k d ≡ get_or old k d = ap (λ (xs : List Line). get_or xs k d) (same ∙ are) ∙ changed-item line_with old rs k d in
    let one : line_of entry (get_or now k d).delay_us ≡ line_with (get_or old k d) (get_or rs k None)
    = ap (λ (x : Entry). line_of x (get_or now k d).delay_us) e ∙ ap (λ (x : Line). line_with x (get_or rs k None)) item in
    ap (set lines k) one ∙ changed-now line_with old rs lines k d None are (let n = ap length same in omega arith) there

pub loop-k-init : goal.loop-k-init
loop-k-init c = sym (changed-none line_with c.args.lines.now)

pub loop-k-preserved : goal.loop-k-preserved
loop-k-preserved c =
    elim c.if-k-as_slice.branch [
      | then-k-as_slice w ↦
          w.lines-is ∙ w.set.ensures
          ∙ next-line c.args.lines.now c.args.requests.now c.loop-k.lines w.as_slice-then-k-as_slice.result.now c.loop-k.k _ w.entry_with-entry.result c.loop-k.invariant w.as_slice-then-k-as_slice.ensures w.entry_with-entry.ensures
          (let n = ap length w.as_slice-then-k-as_slice.ensures in let m = ap length c.as_slice.ensures in let lt = w.if-k-as_slice.true in omega arith) c.loop-k-test.true
      | else-k-as_slice w ↦
          w.lines-is ∙ changed-after line_with c.args.lines.now c.args.requests.now c.loop-k.lines c.loop-k.k c.loop-k.invariant (let m = ap length c.as_slice.ensures in let le = w.if-k-as_slice.false in omega arith)
    ]
