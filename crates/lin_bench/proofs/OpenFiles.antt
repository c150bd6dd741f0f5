-- A block of a script that is read again.
use Rattle.std.proofs.Common.{◌≡◌, ◌∙◌, ◌-◌, ◌==◌, ℕ, Bool, false, List, ◌∷◌, Option, Some, ap, arith, if◌then◌else◌, length, map, reverse, set, sym, take}
use Rattle.std.specs.Prelude.{slice_get}
use Rattle.std.proofs.lemmas.Option.{slice_get_within}
use Rattle.lin_bench.specs.Resolved.{Block, OpenFile, ended}
use Rattle.lin_bench.specs.Resolving.{block_of, lines_from}
use Rattle.lin_bench.specs.declared.resolving.Block.{Block as OpenBlock}
use Rattle.lin_bench.specs.declared.resolving.WrittenLine.{WrittenLine}
use Rattle.lin_bench.proofs.LastItems.{last-first, last-is, last-set}

-- a file with these lines, the next of which has this index, and these open blocks
abbrev pub file_with : ℕ → Option ℕ → List WrittenLine → ℕ → List OpenBlock → OpenFile
file_with file by ls next bs = record { file = file; by = by; blocks = reverse (map (block_of ls) bs); lines = lines_from ls next }

innermost : (ls : List WrittenLine) (bs : List OpenBlock) (b : OpenBlock) → slice_get bs (length bs - 1) ≡ Some b
    → reverse (map (block_of ls) bs) ≡ block_of ls b ∷ reverse (map (block_of ls) (take (length bs - 1) bs))
innermost ls bs b h = ap (λ xs. reverse (map (block_of ls) xs)) (last-is bs b h) ∙ last-first (block_of ls) (take (length bs - 1) bs) b

ended-again : (f : OpenFile) (b : Block) (bs : List Block) → f.blocks ≡ b ∷ bs → (b.again == 0) ≡ false
    → ended f ≡ record f { blocks = record b { again = b.again - 1 } ∷ bs; lines = b.lines }
ended-again f b bs e h =
    ap (λ xs. ended (record f { blocks = xs })) e
    ∙ ap (λ (t : Bool). record f { blocks = if t then bs else record b { again = b.again - 1 } ∷ bs; lines = if t then f.lines else b.lines }) h

pub block-again : (file : ℕ) (by : Option ℕ) (ls : List WrittenLine) (i : ℕ) (bs cs : List OpenBlock) (b : OpenBlock) → slice_get bs (length bs - 1) ≡ Some b
    → (b.again == 0) ≡ false → cs ≡ set bs (length bs - 1) (record b { again = b.again - 1 }) → file_with file by ls b.first cs ≡ ended (file_with file by ls i bs)
block-again file by ls i bs cs b h t e =
    let less : OpenBlock = record b { again = b.again - 1 } in
    let within = slice_get_within bs (length bs - 1) b h in
    ap (file_with file by ls b.first) (e ∙ last-set bs less (omega (arith, within)))
    ∙ ap (λ xs. record (file_with file by ls b.first bs) { blocks = xs }) (last-first (block_of ls) (take (length bs - 1) bs) less)
    ∙ sym (ended-again (file_with file by ls i bs) (block_of ls b) (reverse (map (block_of ls) (take (length bs - 1) bs))) (innermost ls bs b h) t)
