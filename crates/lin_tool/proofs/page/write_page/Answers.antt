use Rattle.std.proofs.Common.{◌++◌, [], List, ℕ, Option, Ok, refl, sym, append-nil}
use Rattle.lin_export.specs.FirstSlots.{first_slots}
use Rattle.lin_export.specs.WhereTold.{given_coding}
use Rattle.lin_text.specs.Written.{WritesText}
use Rattle.lin_export.proofs.Puttings.{writes-more, written-short}
use Rattle.lin_tool.specs.Page.{page_data, summary}
use Rattle.lin_tool.specs.declared.page.pieces.TheConstants.{MIDDLE, TAIL}
use Rattle.lin_tool.proofs.page.write_page.Goals as goal

pub returns-in_err-write_out : goal.returns-in_err-write_out
returns-in_err-write_out g c =
    let shown = c.args.shown.now in
    let x = c.args.core.now.cluster in
    let log = c.args.core.now.log in
    let failed = c.from_residual.ensures.0 in
    written-short TAIL.now failed refl
    (written-short (first_slots x log) failed refl
    (written-short (MIDDLE.now ++ summary x log) failed refl
    (written-short (page_data shown.script shown.files.now x (given_coding shown.coded) c.args.file.now log shown.judgements.now) failed refl
    (rw c.as_bytes.ensures.value at c.write_out.ensures))))

pub returns-in_err-write_data : goal.returns-in_err-write_data
returns-in_err-write_data g c =
    let x = c.args.core.now.cluster in
    let log = c.args.core.now.log in
    let failed = c.from_residual-in_err-write_data.ensures.0 in
    let s1 = rw c.in_ok-write_out.was at (rw c.as_bytes.ensures.value at c.write_out.ensures) in
    written-short TAIL.now failed refl
    (written-short (first_slots x log) failed refl
    (written-short (MIDDLE.now ++ summary x log) failed refl
    (writes-more s1 c.write_data.ensures)))

pub returns-in_err-write_middle : goal.returns-in_err-write_middle
returns-in_err-write_middle g c =
    let x = c.args.core.now.cluster in
    let log = c.args.core.now.log in
    let failed = c.from_residual-in_err-write_middle.ensures.0 in
    let s1 = rw c.in_ok-write_out.was at (rw c.as_bytes.ensures.value at c.write_out.ensures) in
    let s2 = writes-more s1 (rw c.in_ok-write_data.was at c.write_data.ensures) in
    written-short TAIL.now failed refl
    (written-short (first_slots x log) failed refl
    (writes-more s2 c.write_middle.ensures))

pub returns-in_err-write_first_slots : goal.returns-in_err-write_first_slots
returns-in_err-write_first_slots g c =
    let failed = c.from_residual-in_err-write_first_slots.ensures.0 in
    let s1 = rw c.in_ok-write_out.was at (rw c.as_bytes.ensures.value at c.write_out.ensures) in
    let s2 = writes-more s1 (rw c.in_ok-write_data.was at c.write_data.ensures) in
    let s3 = writes-more s2 (rw c.in_ok-write_middle.was at c.write_middle.ensures) in
    written-short TAIL.now failed refl
    (writes-more s3 (rw (c.cluster.ensures, c.log.ensures.entries) at c.write_first_slots.ensures))

pub returns-in_err-write_out-2 : goal.returns-in_err-write_out-2
returns-in_err-write_out-2 g c =
    let failed = c.from_residual-in_err-write_out-2.ensures.0 in
    let s1 = rw c.in_ok-write_out.was at (rw c.as_bytes.ensures.value at c.write_out.ensures) in
    let s2 = writes-more s1 (rw c.in_ok-write_data.was at c.write_data.ensures) in
    let s3 = writes-more s2 (rw c.in_ok-write_middle.was at c.write_middle.ensures) in
    let s4 = writes-more s3 (rw c.in_ok-write_first_slots.was at (rw (c.cluster.ensures, c.log.ensures.entries) at c.write_first_slots.ensures)) in
    written-short [] failed (sym (append-nil _)) (writes-more s4 (rw c.as_bytes-2.ensures.value at c.write_out-2.ensures))

-- after Ok
done : {E F : Type 0} {a b : Option (List ℕ)} {s : List ℕ} (u : Unit) → WritesText {E = F} a b (Ok u) s → WritesText {E = E} a b (Ok tt) s
done u h = record { part = h.part; rest = h.rest; written = h.written; whole = h.whole; all = h.all }

pub returns : goal.returns
returns g c =
    let s1 = rw c.in_ok-write_out.was at (rw c.as_bytes.ensures.value at c.write_out.ensures) in
    let s2 = writes-more s1 (rw c.in_ok-write_data.was at c.write_data.ensures) in
    let s3 = writes-more s2 (rw c.in_ok-write_middle.was at c.write_middle.ensures) in
    let s4 = writes-more s3 (rw c.in_ok-write_first_slots.was at (rw (c.cluster.ensures, c.log.ensures.entries) at c.write_first_slots.ensures)) in
    done c.in_ok-write_out-2.field-0 (writes-more s4 (rw c.in_ok-write_out-2.was at (rw c.as_bytes-2.ensures.value at c.write_out-2.ensures)))
