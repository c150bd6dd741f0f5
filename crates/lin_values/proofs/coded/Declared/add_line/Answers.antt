use Rattle.std.proofs.Common.{List, [], ◌++◌, append-nil, ap, subst, sym, ◌∙◌}
use Rattle.std.specs.Str.{bytes_eq}
use Rattle.indexmap.specs.IndexMap.{get_by}
use Rattle.lin_parts.specs.declared.description.Name.{Name}
use Rattle.lin_values.proofs.NamedLines.{line-warned, named-step, names-all, warned-step}
use Rattle.lin_values.specs.Gathered.{lines_of, AreNamed}
use Rattle.lin_values.specs.Warnings.{representation_warnings, name_warnings, told_by}
use Rattle.lin_values.proofs.coded.Declared.add_line.Goals as goal

pub loop-name-init : goal.loop-name-init
loop-name-init c =
    let told = line-warned c.args.self.now.wide c.args.self.now.types c.args.line.now c.encoding_named-encoding.result c.is_none.result c.at_name.result c.encoding_named-encoding.ensures c.is_none.ensures c.at_name.ensures in
    record {
      named = λ before are. subst (λ (b : List (Name × Name)). AreNamed c.args.self.now.types b c.args.named.now.map) (sym (append-nil before)) are;
      warned = λ before are. c.in_ok-push_when.ensures ∙ ap (λ fs. c.args.warned.now.items ++ fs) (told ∙ sym (append-nil (representation_warnings (lines_of c.args.self.now.wide c.args.self.now.types []) c.args.line.now)));
    }

pub loop-name-preserved : goal.loop-name-preserved
loop-name-preserved c = record {
  named = λ before are q.
      named-step c.args.self.now.types before c.args.line.now c.as_slice-name-items.result.now c.loop-name.name-index c.name-item.result c.encoding_named-encoding.result c.as_slice.result.now q _ _
      c.as_slice-name-items.ensures.value c.loop-name-test.true c.name-item.is c.encoding_named-encoding.ensures c.as_slice.ensures (c.loop-name.invariant.named before are q) (c.in_ok-is_first.ensures.put q);
  warned = λ before are.
      warned-step c.args.self.now.parts c.args.self.now.wide c.args.self.now.types before c.args.line.now c.as_slice-name-items.result.now c.loop-name.name-index c.name-item.result c.encoding_named-encoding.result c.as_slice.result.now c.in_ok-is_first.is_first (get_by (λ k. bytes_eq c.as_slice.result.now k.now) c.loop-name.named.map)
      (representation_warnings (lines_of c.args.self.now.wide c.args.self.now.types []) c.args.line.now) c.args.warned.now.items c.loop-name.warned.items c.add_warnings.new.warned.items
      c.as_slice-name-items.ensures.value c.loop-name-test.true c.name-item.is c.encoding_named-encoding.ensures c.as_slice.ensures c.in_ok-is_first.ensures.first (c.loop-name.invariant.named before are c.as_slice.result.now) (c.loop-name.invariant.warned before are) c.in_ok-add_warnings.ensures;
}

pub returns-clause-named : goal.returns-clause-named
returns-clause-named c = λ before are.
    let all = names-all c.args.line.now c.as_slice-name-items.result.now c.loop-name.name-index c.as_slice-name-items.ensures.value c.loop-name-test.false in
    subst (λ (ns : List (Name × Name)). AreNamed c.args.self.now.types (before ++ ns) c.loop-name.named.map) all (c.loop-name.invariant.named before are)

pub returns-clause-warned : goal.returns-clause-warned
returns-clause-warned c = λ before are.
    let all = names-all c.args.line.now c.as_slice-name-items.result.now c.loop-name.name-index c.as_slice-name-items.ensures.value c.loop-name-test.false in
    c.loop-name.invariant.warned before are
    ∙ ap (λ (ns : List (Name × Name)). c.args.warned.now.items ++ (representation_warnings (lines_of c.args.self.now.wide c.args.self.now.types []) c.args.line.now ++ told_by (name_warnings c.args.self.now.parts (lines_of c.args.self.now.wide c.args.self.now.types [])) before ns)) all
