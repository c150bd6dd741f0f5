-- Steps read so far, and those of the lines that are left.
use Rattle.std.proofs.Common.{◌≡◌, ℕ, List, [], ◌∷◌, ◌++◌, refl, ap, append_assoc, reverse, sym, ◌∙◌, Result, Ok, Err}
use Rattle.lin_core.specs.declared.port.PortId.{PortId}
use Rattle.lin_core.specs.declared.step.Step.{Step}
use Rattle.lin_parts.specs.declared.parts.Parts.{Parts}
use Rattle.lin_core.specs.declared.log.LogEntry.{LogEntry}
use Rattle.lin_core.specs.Runs.{entry_of, history}
use Rattle.std.proofs.lemmas.List.{reverse-append, reverse-reverse}
use Rattle.lin_log.specs.Replay.{log_of}
use Rattle.lin_log.specs.Judged.{with_prefix}
use Rattle.lin_log.specs.Said.{Steps, with_step}
use Rattle.lin_log.specs.Script.{without_reason}

pub prefixed-nothing : (r : Result (List (PortId × Step)) ℕ) → with_prefix [] r ≡ r
prefixed-nothing (Ok xs) = refl
prefixed-nothing (Err e) = refl

pub prefixed-more : (xs ys : List (PortId × Step)) (r : Result (List (PortId × Step)) ℕ) → with_prefix (xs ++ ys) r ≡ with_prefix xs (with_prefix ys r)
prefixed-more xs ys (Ok zs) = ap Ok (append_assoc xs ys zs)
prefixed-more xs ys (Err e) = refl

-- the step of a line, before those of the lines after it
pub step-first : (s : PortId × Step) (r : Steps) → without_reason (with_step s r) ≡ with_prefix (s ∷ []) (without_reason r)
step-first s (Ok steps) = refl
step-first s (Err bad) = refl

-- the log of one step more
pub log-more : (c : Parts) (opening capacity : ℕ) (steps : List (PortId × Step)) (s : PortId × Step) (log : List LogEntry) → log ≡ log_of c opening capacity steps
    → log ++ entry_of c opening capacity (reverse log) s ∷ [] ≡ log_of c opening capacity (steps ++ s ∷ [])
log-more c opening capacity steps s log e =
    let past = history c opening capacity (reverse steps) in
    let back : reverse log ≡ past = ap reverse e ∙ reverse-reverse past in
    ap (λ p. log ++ entry_of c opening capacity p s ∷ []) back ∙ ap (λ l. l ++ entry_of c opening capacity past s ∷ []) e
    ∙ sym (reverse-append (entry_of c opening capacity past s ∷ []) past)
    ∙ sym (ap (λ l. reverse (history c opening capacity l)) (reverse-append steps (s ∷ [])))

-- the steps of the lines so far are made
pub record AreMade (c : Parts) (opening : ℕ) (capacity : ℕ) (log : List LogEntry) (left : Result (List (PortId × Step)) ℕ) (whole : Result (List (PortId × Step)) ℕ) : Type 0 where
  pub steps : List (PortId × Step)
  pub read : with_prefix steps left ≡ whole
  pub log_is : log ≡ log_of c opening capacity steps
