use Rattle.std.proofs.Common.{ℕ, List, Option, Some, None, cond, ap, ◌∙◌, option_map}
use Rattle.std.specs.Prelude.{◌||◌, is_some, option_and_then}
use Rattle.std.specs.Str.{bytes_eq}
use denote.Ref.{Bor}
use Rattle.indexmap.specs.IndexMap.{get_by}
use Rattle.std.proofs.lemmas.Map.Text.{hash_map_updates_str}
use Rattle.lin_sections.specs.NewNames.{has_in, only_in}
use Rattle.lin_sections.proofs.NewNameSteps.{only-put, some-or-there}
use Rattle.lin_sections.proofs.diff.new_names.KeyNames.add.Goals as goal

pub returns-clause-only : goal.returns-clause-only
returns-clause-only c = λ q.
    let key = c.as_slice-key.result.now in
    ap (λ (o : Option (Option (Bor (List ℕ)))). option_and_then (λ p. option_map (λ n. n.now) p) o)
    (hash_map_updates_str key c.args.self.now.map c.insert.new.self (Some c.if_new-only.result) c.in_ok-insert.ensures.updates q)
    ∙ only-put (bytes_eq key q) c.if_new-only.result (get_by (λ k. bytes_eq q k.now) c.args.self.now.map)
    (cond (has_in c.args.self.now.map key) None (Some c.args.thing.now.name.now)) c.if_new-only.ensures
    ∙ ap (λ (t : List ℕ). cond (bytes_eq t q) (cond (has_in c.args.self.now.map t) None (Some c.args.thing.now.name.now)) (only_in c.args.self.now.map q)) c.as_slice-key.ensures

pub returns-clause-known : goal.returns-clause-known
returns-clause-known c = λ q.
    let key = c.as_slice-key.result.now in
    ap is_some (hash_map_updates_str key c.args.self.now.map c.insert.new.self (Some c.if_new-only.result) c.in_ok-insert.ensures.updates q)
    ∙ some-or-there (bytes_eq key q) (get_by (λ k. bytes_eq q k.now) c.args.self.now.map) c.if_new-only.result
    ∙ ap (λ (t : List ℕ). has_in c.args.self.now.map q || bytes_eq t q) c.as_slice-key.ensures
