use Rattle.std.proofs.Common.{refl, false, Ok, subst}
use Rattle.lin_tool.specs.Opening.{AnswersFile}
use Rattle.lin_tool.specs.declared.coding.Encodings.{Encodings}
use Rattle.lin_tool.proofs.Openings.{answers_file}
use Rattle.lin_tool.proofs.opening.begin.Goals as goal

pub returns-in-Ok-clause-begins : goal.returns-in-Ok-clause-begins
returns-in-Ok-clause-begins g c =
    let s = c.args.settings.now in
    let d = c.in_ok-cluster.field-0 in
    let read = c.in_ok-cluster.ensures in
    let warned = c.cluster_of_file.new.notes.warnings in
    let P : Encodings → Type 0 = λ e. AnswersFile s.file s.reading (record { encodings = e; is_linted = false; is_configured = s.is_configured }) (Ok d) warned in
    record {
      file = subst P c.encodings.ensures (answers_file s.file s.reading (record { encodings = c.encodings.result; is_linted = false; is_configured = s.is_configured }) (Ok d) warned read.built_in read.file);
      table = c.in-Ok.ensures.table;
      settings = refl;
    }
