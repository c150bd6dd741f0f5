use Rattle.std.proofs.Common.{◌≡◌, ◌∙◌, ◌&&◌, ap, sym, true, false}
use Rattle.std.specs.Prelude.{None, is_some}
use Rattle.std.specs.List.{list_any}
use Rattle.std.specs.Str.{bytes_eq}
use Rattle.lin_parts.specs.Cluster.{signal_of}
use Rattle.lin_parts.specs.Rules.{is_array}
use Rattle.lin_parts.specs.declared.description.Name.{Name}
use Rattle.lin_values.proofs.NamedLines.{is-among}
use Rattle.lin_values.proofs.coded.uncoded.Goals as goal
use Rattle.lin_values.proofs.coded.uncoded.Goals.{in-Scalar, in-Bytes}

pub returns-then-is_array : goal.returns-then-is_array
returns-then-is_array c = λ names are.
    let s = signal_of c.args.cluster.now c.args.signal in
    let array : is_array s.initial ≡ true = elim c.match-initial.branch [
      | in-Scalar w ↦ absurd (let no : false ≡ true = sym w.is_array-is ∙ c.if-is_array.true in cc)
      | in-Bytes w ↦ ap is_array (sym c.initial.ensures ∙ w.in-Bytes.is)
    ]
    in
    let among = list_any (λ (n : Name). bytes_eq n.text s.name) names in
    let wide : c.contains_key.result ≡ among =
    c.contains_key.ensures ∙ ap is_some (are c.signal_name.result.now) ∙ is-among names c.signal_name.result.now
    ∙ ap (λ q. list_any (λ (n : Name). bytes_eq n.text q) names) c.signal_name.ensures
    in
    λ i. record {
      bits = c.signal_size.ensures i;
      is_array = (c.if-is_array.true ∙ sym array) i;
      is_wide = (wide ∙ ap (λ b. b && among) (sym array)) i;
      encoding = None;
    }
