-- Reading an item after a comma.
use Rattle.std.proofs.Common.{◌≡◌, ◌<◌, true, List, [], ◌∷◌, length, Option, refl, sym, ap, subst, ◌∙◌, arith}
use Rattle.lin_ldf.specs.Symbols.{Symbol}
use Rattle.lin_ldf.specs.Forms.{Form, ◌&>◌, Fails, tail}
use Rattle.lin_ldf.specs.Loops.{Shrinks, is_next}
use Rattle.lin_ldf.specs.Words.{comma}
use Rattle.lin_ldf.specs.Laws.{bind_some, mark_takes}
use Rattle.lin_ldf.specs.declared.fault.LdfFault.{LdfFault}
use Rattle.lin_ldf.specs.declared.token.TokenKind.TheVariants.{Comma}

behind_comma : {A : Type 0} (f : Form A) (ts : List Symbol) → is_next Comma ts ≡ true → (comma &> f).read ts ≡ f.read (tail ts)
behind_comma f [] e = absurd cc
behind_comma f (t ∷ ts) e = rw e refl

pub gives_behind : {A : Type 0} (f : Form A) (ts mid : List Symbol) (r : Option (A × List Symbol)) → is_next Comma ts ≡ true → mid ≡ tail ts → f.read mid ≡ r → (comma &> f).read ts ≡ r
gives_behind f ts mid r at e h = behind_comma f ts at ∙ ap f.read (sym e) ∙ h

pub fails_behind : {A : Type 0} (f : Form A) (ts mid : List Symbol) (fault : LdfFault) → is_next Comma ts ≡ true → mid ≡ tail ts → Fails fault (f.read mid) → Fails fault ((comma &> f).read ts)
fails_behind f ts mid fault at e h = subst (Fails fault) (sym (behind_comma f ts at ∙ ap f.read (sym e))) h

pub comma_shrinks : {A : Type 0} (f : Form A) → Shrinks f.read → Shrinks (comma &> f).read
comma_shrinks f shrinks ts a rest e =
    let h = bind_some (comma.read ts) (λ x. f.read x.1) (a, rest) e in
    let first : length h.0.1 < length ts = (mark_takes Comma).shrinks ts h.0.0 h.0.1 h.1 in
    let second : length rest < length h.0.1 = shrinks h.0.1 a rest h.2 in
    omega arith
