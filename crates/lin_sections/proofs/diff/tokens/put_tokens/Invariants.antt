use Rattle.std.proofs.Common.{◌≡◌, ◌+◌, ◌≤◌, length}
use Rattle.std.specs.Prelude.{fold}
use Rattle.lin_sections.specs.FactTexts.{with_word}
use Rattle.lin_sections.specs.TokenTexts.{spelling_of, tokens_until, tokens_words}
use Rattle.lin_sections.proofs.diff.tokens.put_tokens.Given as goal

abbrev pub invariant-loop-kind : goal.invariant-loop-kind
invariant-loop-kind l =
    record {
      same : fold with_word l.text.items
          (tokens_words (spelling_of l.spelling) (tokens_until l.ends_at_semicolon l.depth l.parser))
          ≡ fold with_word l.fn.text.items
          (tokens_words (spelling_of l.spelling) (tokens_until l.ends_at_semicolon 0 l.fn.parser));
      depth : l.depth + length l.parser ≤ l.left;
    }

abbrev pub decreases-loop-kind : goal.decreases-loop-kind
decreases-loop-kind l = length l.parser
