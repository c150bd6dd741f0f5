use Rattle.std.proofs.Common.{◌≡◌, ◌≢◌, ◌==◌, true, false, List, length, sym, subst, ◌∙◌}
use Rattle.std.proofs.lemmas.Bool.{eqb-true, eqb-false}
use Rattle.lin_cluster.specs.Findings.{AreFindings, IsFree}
use Rattle.lin_cluster.specs.declared.finding.Finding.{Finding}
use Rattle.lin_parts.specs.declared.description.Description.{Description}
use Rattle.lin_cluster.proofs.CheckedDescriptions.{free-from-none, some-found}
use Rattle.lin_cluster.proofs.NothingElse.{free-is-sound}
use Rattle.lin_cluster.proofs.FindingsOrder.{one_answer}
use Rattle.lin_cluster.proofs.checks.answer_to.Goals as goal

is-free : (d : Description) (found shown : List Finding) → AreFindings d found → shown ≡ found → (length shown == 0) ≡ true → IsFree d
is-free d found shown are same empty = free-from-none d found are (subst (λ (fs : List Finding). length fs ≡ 0) same (eqb-true (length shown) 0 empty))

pub cluster_of-requires-clause-sound : goal.cluster_of-requires-clause-sound
cluster_of-requires-clause-sound c =
    free-is-sound c.args.description.now (is-free c.args.description.now c.args.found.items c.as_slice.result.now c.requires.found c.as_slice.ensures.value (sym c.is_empty.ensures ∙ c.if-is_empty.true))

pub returns-then-is_empty-clause-ok : goal.returns-then-is_empty-clause-ok
returns-then-is_empty-clause-ok c =
    (is-free c.args.description.now c.args.found.items c.as_slice.result.now c.requires.found c.as_slice.ensures.value (sym c.is_empty.ensures ∙ c.if-is_empty.true), c.in_ok-cluster_of.ensures.cluster)

pub returns-then-is_empty-clause-slots : goal.returns-then-is_empty-clause-slots
returns-then-is_empty-clause-slots c =
    c.in_ok-cluster_of.ensures.slots (is-free c.args.description.now c.args.found.items c.as_slice.result.now c.requires.found c.as_slice.ensures.value (sym c.is_empty.ensures ∙ c.if-is_empty.true))

pub returns-clause-findings : goal.returns-clause-findings
returns-clause-findings c =
    let some : (length c.as_slice.result.now == 0) ≡ false = sym c.is_empty.ensures ∙ c.if-is_empty.false
    in let full : length c.args.found.items ≢ 0 = subst (λ (fs : List Finding). length fs ≢ 0) c.as_slice.ensures.value (eqb-false (length c.as_slice.result.now) 0 some)
    in let are : AreFindings c.args.description.now c.new.result = subst (λ (fs : List Finding). AreFindings c.args.description.now fs) (sym c.new.ensures) c.requires.found
    in (
      are,
      some-found c.args.description.now c.args.found.items c.requires.found full,
      λ other is. one_answer c.args.description.now other c.new.result is are,
    )
