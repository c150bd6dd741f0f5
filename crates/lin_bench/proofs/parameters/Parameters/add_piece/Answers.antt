use Rattle.std.proofs.Common.{◌≡◌, ◌++◌, ◌-◌, ◌==◌, true, false, List, ℕ, [], ◌∷◌, Some, Ok, drop, length, refl, sym, take}
use Rattle.lin_bench.specs.Resolved.{first_name, replaced_piece, text_of}
use Rattle.lin_bench.specs.declared.parameters.GivenParameter.{GivenParameter}
use Rattle.lin_bench.specs.declared.parameters.Parameter.{Parameter}
use Rattle.lin_bench.proofs.AddedTexts.{bounded, grown}
use Rattle.lin_bench.proofs.Pieces.{slice-rest}
use Rattle.lin_bench.proofs.parameters.Parameters.add_piece.Goals as goal

unnamed : (given : List GivenParameter) (sets : List Parameter) (piece name : List ℕ) → name ≡ first_name piece → (length name == 0) ≡ true
    → replaced_piece given sets piece ≡ Ok (36 ∷ piece)
unnamed given sets piece name h k = let e : (length (first_name piece) == 0) ≡ true = rw h at k in rw e refl

named : (given : List GivenParameter) (sets : List Parameter) (piece name text : List ℕ) → name ≡ first_name piece → (length name == 0) ≡ false → text_of given sets name ≡ Some text
    → replaced_piece given sets piece ≡ Ok (text ++ drop (length name) piece)
named given sets piece name text h k t =
    let e : (length (first_name piece) == 0) ≡ false = rw h at k in
    let found : text_of given sets (first_name piece) ≡ Some text = rw h at t in
    rw (e, found, h) refl

pub add_text-requires-then-is_empty : goal.add_text-requires-then-is_empty
add_text-requires-then-is_empty c = rw c.in_ok-add_text.ensures (bounded 65537 _)

pub returns-then-is_empty : goal.returns-then-is_empty
returns-then-is_empty c = (
  36 ∷ c.args.piece.now,
  unnamed c.args.self.now.given.now c.args.self.now.sets.now c.args.piece.now c.first_name-name.result.now c.first_name-name.ensures (rw c.is_empty.ensures at c.if-is_empty.true),
  grown 65537 c.args.line.now.items (36 ∷ []) c.args.piece.now c.args.piece.now c.add_text.new.line.items c.add_text-then-is_empty.new.line.items refl c.in_ok-add_text.ensures c.in_ok-add_text-2.ensures,
)

pub add_text-requires-3 : goal.add_text-requires-3
add_text-requires-3 c = rw c.in_ok-add_text-3.ensures (bounded 65537 _)

pub returns : goal.returns
returns c =
    let piece = c.args.piece.now in
    let n = length c.first_name-name.result.now in (
      c.in-Some.text.now ++ drop n piece,
      named c.args.self.now.given.now c.args.self.now.sets.now piece c.first_name-name.result.now c.in-Some.text.now c.first_name-name.ensures
          (rw c.is_empty.ensures at c.if-is_empty.false) (sym c.in-Some.ensures),
      grown 65537 c.args.line.now.items c.in-Some.text.now (take (length piece - n) (drop n piece)) (drop n piece) c.add_text-2.new.line.items c.add_text-3.new.line.items
          (slice-rest piece n) c.in_ok-add_text-3.ensures c.in_ok-add_text-4.ensures,
    )
