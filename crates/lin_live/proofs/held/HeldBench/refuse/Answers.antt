use Rattle.std.proofs.Common.{◌∙◌, Err, ap, inl, inr, rules, sym}
use Rattle.std.proofs.lemmas.Result.{err_from_is_err_and}
use Rattle.lin_live.specs.Told.{HandData, shown_coding}
use Rattle.lin_live.proofs.LinesTold.{failed-alone}
use Rattle.lin_live.proofs.Writing.{written-whole}
use Rattle.lin_live.proofs.held.HeldBench.refuse.Goals as goal
use Rattle.lin_live.proofs.held.HeldBench.refuse.Goals.{in-Jsonl+in_ok-write_bad_object-in-Jsonl, in-Log+in_ok-write_bad-in-Log}

pub returns-in_err-write_bad_object-in-Jsonl : goal.returns-in_err-write_bad_object-in-Jsonl
returns-in_err-write_bad_object-in-Jsonl g c =
    let p = err_from_is_err_and c.from_residual.result c.from_residual.ensures.1 in
    let format = ap (λ (h : HandData). h.format) (sym c.self.view_is) ∙ c.in-Jsonl.is in
    let fault = c.in_err-write_bad_object-in-Jsonl.field-0.0 in
    rw format
    (failed-alone _ _ _ _ _ c.write_bad_object.result c.from_residual.result fault (c.write_bad_object.ensures c.args.self.now.cluster (shown_coding c.args.self.now))
    c.in_err-write_bad_object-in-Jsonl.was (p.1 ∙ ap Err p.2))

pub returns : goal.returns
returns g c =
    elim c.match-self.branch [
      | in-Jsonl+in_ok-write_bad_object-in-Jsonl w ↦
          let format = ap (λ (h : HandData). h.format) (sym c.self.view_is) ∙ w.in-Jsonl.is in
          let answered = rw w.in_ok-write_bad_object-in-Jsonl.was at (w.write_bad_object.ensures c.args.self.now.cluster (shown_coding c.args.self.now)) in
          let same = w.writer-is in
          rw format (search (rules, answered))
      | in-Log+in_ok-write_bad-in-Log w ↦
          let same = w.writer-is in
          let whole = written-whole _ _ _ _ (rw w.in_ok-write_bad-in-Log.was at w.write_bad.ensures) in
          elim w.in-Log.is [
            | inl e ↦ let format = ap (λ (h : HandData). h.format) (sym c.self.view_is) ∙ e in rw format (search (rules, whole))
            | inr e ↦ let format = ap (λ (h : HandData). h.format) (sym c.self.view_is) ∙ e in rw format (search (rules, whole))
          ]
    ]
