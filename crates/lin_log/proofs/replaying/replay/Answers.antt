use Rattle.std.proofs.Common.{◌≡◌, ◌∙◌, ℕ, false, List, Option, Some, None, Result, Ok, Err, is_err, subst, sym}
use Rattle.std.specs.Prelude.{IfSome, OnOk}
use Rattle.lin_core.specs.declared.port.PortId.{PortId}
use Rattle.lin_core.specs.declared.step.Step.{Step}
use Rattle.lin_log.specs.Replay.{IsScriptOf}
use Rattle.lin_log.proofs.replaying.replay.Goals as goal

-- the steps of a script whose bytes are those of the reader
known-script : (known : Option (List ℕ)) (bytes : List ℕ) (said : List (PortId × Step)) → IfSome known (λ b. bytes ≡ b) → IsScriptOf bytes said → IfSome known (λ b. IsScriptOf b said)
known-script None bytes said is script = tt
known-script (Some b) bytes said is script = subst (λ xs. IsScriptOf xs said) is script

-- what holds after Ok
after-ok : {E P : Type 0} (r : Result Unit E) → is_err r ≡ false → OnOk r P → P
after-ok (Ok done) ok p = p
after-ok (Err e) ok p = absurd (cc)

pub returns-then-is_err-clause-text : goal.returns-then-is_err-clause-text
returns-then-is_err-clause-text g c =
    let ran = c.in_ok-core.ensures.log in (
      ran.0,
      known-script _ _ ran.0 c.in_ok-bytes.ensures.0 (rw c.as_slice.ensures.value at ran.1),
      c.write_log.ensures.part,
      c.write_log.ensures.rest,
      rw (c.log.ensures.entries, ran.2) at c.write_log.ensures.whole,
      c.write_log.ensures.written,
    )

pub returns-clause-text : goal.returns-clause-text
returns-clause-text g c =
    let ran = c.in_ok-core.ensures.log in
    let whole = after-ok c.write_log.result (sym c.is_err.ensures.value ∙ c.if-is_err.false) c.write_log.ensures.all in (
      ran.0,
      known-script _ _ ran.0 c.in_ok-bytes.ensures.0 (rw c.as_slice.ensures.value at ran.1),
      ran.2,
      rw (whole, c.log.ensures.entries) at c.write_log.ensures.written,
    )
