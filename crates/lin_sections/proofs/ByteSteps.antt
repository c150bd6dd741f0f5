-- The bytes of commands, one by one.
use Rattle.std.proofs.Common.{◌≡◌, ◌∙◌, ℕ, suc, ◌+◌, ◌-◌, ◌<◌, Bool, true, false, cond, List, [], ◌∷◌, ◌++◌, sym, ap, subst, arith}
use Rattle.std.specs.Prelude.{Ok}
use Rattle.lin_ldf.specs.Forms.{tail}
use Rattle.lin_ldf.specs.Symbols.{Symbol}
use Rattle.lin_ldf.specs.declared.fault.LdfFault.{LdfFault}
use Rattle.lin_ldf.specs.declared.fault.LdfFault.TheVariants.{OutOfMemory}
use Rattle.lin_parts.specs.declared.description.Number.{Number}
use Rattle.lin_sections.specs.Commands.{is_end_of_bytes, more_bytes}
use Rattle.lin_sections.specs.Stops.{◌>>=◌, next_to, Reading, StopsAt}

abbrev after_byte : List Number → ℕ → ℕ → Reading Number → Reading (List Number)
after_byte bytes least most reading = reading >>= λ b. more_bytes (bytes ++ b.0 ∷ []) (least - 1) most b.1

abbrev choose : Bool → List Number → ℕ → ℕ → List Symbol → Reading (List Number)
choose b bytes least most ts = cond b (Ok (bytes, tail ts)) (after_byte bytes least most (next_to 255 ts))

-- what is read at a place of a list of bytes
at-place : (bytes : List Number) (least most count : ℕ) (ts : List Symbol) (b : Bool) (total : Reading (List Number)) → count < most → is_end_of_bytes (least - count) ts ≡ b → more_bytes bytes (least - count) (most - count) ts ≡ total
    → choose b bytes (least - count) (most - (count + 1)) ts ≡ total
at-place bytes least most count ts b total h is so_far =
    let left : suc (most - (count + 1)) ≡ most - count = omega arith in
    sym (ap (λ c. choose c bytes (least - count) (most - (count + 1)) ts) is) ∙ ap (λ n. more_bytes bytes (least - count) n ts) left ∙ so_far

-- a byte more
pub byte-more : (bytes new : List Number) (least most count : ℕ) (ts us : List Symbol) (b : Number) (total : Reading (List Number)) → count < most → is_end_of_bytes (least - count) ts ≡ false → next_to 255 ts ≡ Ok (b, us) → new ≡ bytes ++ b ∷ []
    → more_bytes bytes (least - count) (most - count) ts ≡ total → more_bytes new (least - (count + 1)) (most - (count + 1)) us ≡ total
byte-more bytes new least most count ts us b total h goes_on read added so_far =
    let fewer : least - (count + 1) ≡ (least - count) - 1 = omega arith in
    ap (λ bs. more_bytes bs (least - (count + 1)) (most - (count + 1)) us) added
    ∙ ap (λ n. more_bytes (bytes ++ b ∷ []) n (most - (count + 1)) us) fewer
    ∙ sym (ap (after_byte bytes (least - count) (most - (count + 1))) read)
    ∙ at-place bytes least most count ts false total h goes_on so_far

-- the closing brace
pub bytes-end : (bytes : List Number) (least most count : ℕ) (ts us : List Symbol) (total : Reading (List Number)) → count < most → is_end_of_bytes (least - count) ts ≡ true → us ≡ tail ts
    → more_bytes bytes (least - count) (most - count) ts ≡ total → total ≡ Ok (bytes, us)
bytes-end bytes least most count ts us total h end behind so_far =
    sym (at-place bytes least most count ts true total h end so_far) ∙ ap (λ vs. Ok (bytes, vs)) (sym behind)

-- no byte
stops-behind : {A B : Type 0} (e : LdfFault) (left : List Symbol) (r : Reading A) (f : A × List Symbol → Reading B) → StopsAt e left r → StopsAt e left (r >>= f)
stops-behind OutOfMemory left r f h = tt
stops-behind _ left r f h = ap (λ s. s >>= f) h

pub bytes-stop : (bytes : List Number) (least most count : ℕ) (ts left : List Symbol) (e : LdfFault) (total : Reading (List Number)) → count < most → is_end_of_bytes (least - count) ts ≡ false → StopsAt e left (next_to 255 ts)
    → more_bytes bytes (least - count) (most - count) ts ≡ total → StopsAt e left total
bytes-stop bytes least most count ts left e total h goes_on stops so_far =
    subst (StopsAt e left) (at-place bytes least most count ts false total h goes_on so_far)
    (stops-behind e left (next_to 255 ts) (λ b. more_bytes (bytes ++ b.0 ∷ []) ((least - count) - 1) (most - (count + 1)) b.1) stops)
