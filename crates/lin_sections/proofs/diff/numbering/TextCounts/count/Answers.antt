use Rattle.std.proofs.Common.{◌≡◌, ◌≤◌, ℕ, List, Some, ap, arith, length, ◌∙◌}
use Rattle.std.specs.Prelude.{unwrap_or}
use Rattle.std.specs.Str.{bytes_eq}
use Rattle.indexmap.specs.IndexMap.{get_by}
use Rattle.std.proofs.lemmas.Map.Text.{hash_map_updates_str}
use Rattle.lin_sections.specs.Numbering.{count_of}
use Rattle.lin_sections.proofs.TextNumbers.{counted-few, counts-more}
use Rattle.lin_sections.proofs.diff.numbering.TextCounts.count.Goals as goal

pub returns-clause-count : goal.returns-clause-count
returns-clause-count c = λ texts are.
    c.unwrap_or-count.ensures ∙ (ap (λ o. unwrap_or o 0) (c.copied.ensures ∙ c.get.ensures.value) ∙ are c.args.text.now)

pub returns-clause-more : goal.returns-clause-more
returns-clause-more c = λ texts few are q.
    let count : c.unwrap_or-count.result ≡ count_of texts c.args.text.now = returns-clause-count c texts are in
    let within : count_of texts c.args.text.now ≤ length texts = counted-few texts c.args.text.now in
    let there = λ (p : List ℕ). get_by (λ k. bytes_eq p k.now) c.args.self.now.map in
    let after = λ (p : List ℕ). get_by (λ k. bytes_eq p k.now) c.insert.new.self in
    counts-more texts c.args.text.now c.saturating_add.result there after are (omega arith)
    (hash_map_updates_str c.args.text.now c.args.self.now.map c.insert.new.self (Some c.saturating_add.result) c.in_ok-insert.ensures.updates) q
