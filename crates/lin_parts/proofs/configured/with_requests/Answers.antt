use Rattle.std.proofs.Common.{◌≡◌, ◌∙◌, ◌<◌, ◌+◌, ℕ, List, ap, arith, length, get_or, set, sym, take}
use Rattle.std.specs.Prelude.{Option}
use Rattle.lin_parts.specs.Configured.{changed_items, line_with, table_with}
use Rattle.lin_parts.specs.declared.parts.Line.{Line}
use Rattle.lin_parts.specs.declared.parts.Table.{Table}
use Rattle.lin_parts.proofs.Configuring.{changed-after, changed-item, changed-none, changed-now}
use Rattle.lin_parts.proofs.configured.with_requests.Goals.{then-k-len, else-k-len}
use Rattle.lin_parts.proofs.configured.with_requests.Goals as goal

abbrev table_of : List ℕ → List Line → Table
table_of name lines = record { name = name; lines = lines }

next-table : (old : List Table) (requests : List (List (Option (List ℕ)))) (tables : List Table) (k : ℕ) (t : Table) (rs : List (Option (List ℕ))) (lines : List Line) → tables ≡ changed_items table_with old (take k requests) → t ≡ get_or tables k t → rs ≡ get_or requests k rs
    → lines ≡ changed_items line_with t.lines rs → k < length tables → k < length requests → set tables k (table_of t.name lines) ≡ changed_items table_with old (take (k + 1) requests)
next-table old requests tables k t rs lines are t-is rs-is l here there =
    let item : t ≡ get_or old k t = t-is ∙ ap (λ (xs : List Table). get_or xs k t) are ∙ changed-item table_with old requests k t in
    let one : table_of t.name lines ≡ table_with (get_or old k t) (get_or requests k rs)
    = ap (table_of t.name) l ∙ ap (λ (x : Table). table_with x rs) item ∙ ap (table_with (get_or old k t)) rs-is in
    ap (set tables k) one ∙ changed-now table_with old requests tables k t rs are here there

pub loop-k-init : goal.loop-k-init
loop-k-init c = sym (changed-none table_with c.args.tables.items)

pub loop-k-preserved : goal.loop-k-preserved
loop-k-preserved c =
    elim c.if-k-len.branch [
      | then-k-len w ↦
          ap (λ (t : _). t.items) w.tables-is
          ∙ next-table c.args.tables.items c.args.requests.now c.loop-k.tables.items c.loop-k.k w.index_mut.result.now w.index-requests-k.result w.set_requests.new.lines c.loop-k.invariant w.index_mut.ensures.value w.index-requests-k.is
          (w.set_requests.ensures ∙ ap (changed_items line_with w.index_mut.result.now.lines) w.as_slice.ensures) (let n = c.len.ensures in let lt = w.if-k-len.true in omega arith) c.loop-k-test.true
      | else-k-len w ↦ ap (λ (t : _). t.items) w.tables-is ∙ changed-after table_with c.args.tables.items c.args.requests.now c.loop-k.tables.items c.loop-k.k c.loop-k.invariant (let n = c.len.ensures in let le = w.if-k-len.false in omega arith)
    ]
