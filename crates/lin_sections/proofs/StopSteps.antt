-- Limits of what readers that stop give: of products, and of initial NADs.
use Rattle.std.proofs.Common.{◌≡◌, ℕ, ◌==◌, ◌&&◌, ◌≤◌, Bool, true, false, cond, List, Option, Some, None, refl, arith}
use Rattle.std.specs.Prelude.{nat_le, Ok, Err}
use Rattle.std.proofs.lemmas.Bool.{eqb-false, leb-true}
use Rattle.lin_ldf.specs.Symbols.{Symbol}
use Rattle.lin_ldf.specs.Words.{int}
use Rattle.lin_ldf.specs.declared.token.TokenKind.TheVariants.{Comma, Equals, Semicolon}
use Rattle.lin_parts.specs.Rules.{IsInitialNad, IsProduct}
use Rattle.lin_parts.specs.declared.description.Number.{Number}
use Rattle.lin_parts.specs.declared.parts.Product.{Product}
use Rattle.lin_sections.specs.AttributeValues.{product_id, variant}
use Rattle.lin_sections.specs.Identities.{initial_nad, nad_next}
use Rattle.lin_sections.specs.Stops.{◌>>=◌, mark_next, next_to, number_next, or_stop, within, Reading}

-- what holds of a value, if there is one
abbrev pub IfRead : {A : Type 0} → (A → Type 0) → Reading A → Type 0
IfRead P (Ok read) = P read.0
IfRead P (Err left) = Unit {0}

-- of the last reader, whatever the first one gives
behind-any : {A B : Type 0} (P : B → Type 0) (r : Reading A) (f : A × List Symbol → Reading B) → ((x : A × List Symbol) → IfRead P (f x)) → IfRead P (r >>= f)
behind-any P (Ok read) f h = h read
behind-any P (Err left) f h = tt

-- of the last reader, by what holds of the first one's value
behind : {A B : Type 0} (Q : A → Type 0) (P : B → Type 0) (r : Reading A) (f : A × List Symbol → Reading B) → IfRead Q r → ((x : A × List Symbol) → Q x.0 → IfRead P (f x)) → IfRead P (r >>= f)
behind Q P (Ok read) f is h = h read is
behind Q P (Err left) f is h = tt

-- ---- numbers

parts-are : (p q : Bool) → (p && q) ≡ true → (p ≡ true) × (q ≡ true)
parts-are true q e = (refl, e)
parts-are false q e = absurd cc

limited : (least most : ℕ) (o : Option (Number × List Symbol)) (ts : List Symbol) → IfRead (λ (n : Number). (least ≤ n.value) × (n.value ≤ most)) (or_stop (within least most o) ts)
limited least most None ts = tt
limited least most (Some m) ts =
    elim (nat_le least m.0.value && nat_le m.0.value most) as (λ b. ((nat_le least m.0.value && nat_le m.0.value most) ≡ b) → IfRead (λ (n : Number). (least ≤ n.value) × (n.value ≤ most)) (or_stop (cond b (Some m) None) ts)) [
      | true ↦ λ is.
          let two = parts-are (nat_le least m.0.value) (nat_le m.0.value most) is in
          (leb-true least m.0.value two.0, leb-true m.0.value most two.1)
      | false ↦ λ is. tt
    ] refl

within-limits : (least most : ℕ) (ts : List Symbol) → IfRead (λ (n : Number). (least ≤ n.value) × (n.value ≤ most)) (number_next least most ts)
within-limits least most ts = limited least most (int.read ts) ts

next-within : (most : ℕ) (ts : List Symbol) → IfRead (λ (n : Number). (0 ≤ n.value) × (n.value ≤ most)) (next_to most ts)
next-within most ts = behind-any (λ (n : Number). (0 ≤ n.value) × (n.value ≤ most)) (mark_next Comma ts) (λ u. number_next 0 most u.1) (λ u. within-limits 0 most u.1)

-- ---- products

ended : (p : Product) (ts : List Symbol) → IsProduct p → IfRead IsProduct (mark_next Semicolon ts >>= λ e. Ok (p, e.1))
ended p ts is = behind-any IsProduct (mark_next Semicolon ts) (λ e. Ok (p, e.1)) (λ e. is)

below-wildcards : (supplier function variant : ℕ) → supplier ≤ 0x7FFE → function ≤ 0xFFFE → IsProduct (record { supplier = supplier; function = function; variant = variant })
below-wildcards supplier function variant h k = (omega arith, omega arith)

pub product-limits : (ts : List Symbol) → IfRead IsProduct (product_id ts)
product-limits ts =
    behind-any IsProduct (mark_next Equals ts) (λ u. number_next 0 0x7FFE u.1 >>= λ s. next_to 0xFFFE s.1 >>= λ f. variant f.1 >>= λ v. mark_next Semicolon v.1 >>= λ e. Ok (record { supplier = s.0.value; function = f.0.value; variant = v.0 }, e.1)) (λ u.
    behind (λ (n : Number). (0 ≤ n.value) × (n.value ≤ 0x7FFE)) IsProduct (number_next 0 0x7FFE u.1) (λ s. next_to 0xFFFE s.1 >>= λ f. variant f.1 >>= λ v. mark_next Semicolon v.1 >>= λ e. Ok (record { supplier = s.0.value; function = f.0.value; variant = v.0 }, e.1)) (within-limits 0 0x7FFE u.1) (λ s h.
    behind (λ (n : Number). (0 ≤ n.value) × (n.value ≤ 0xFFFE)) IsProduct (next_to 0xFFFE s.1) (λ f. variant f.1 >>= λ v. mark_next Semicolon v.1 >>= λ e. Ok (record { supplier = s.0.value; function = f.0.value; variant = v.0 }, e.1)) (next-within 0xFFFE s.1) (λ f k.
    behind-any IsProduct (variant f.1) (λ v. mark_next Semicolon v.1 >>= λ e. Ok (record { supplier = s.0.value; function = f.0.value; variant = v.0 }, e.1)) (λ v.
    ended (record { supplier = s.0.value; function = f.0.value; variant = v.0 }) v.1 (below-wildcards s.0.value f.0.value v.0 h.1 k.1)))))

-- ---- initial NADs

but-functional : (n : Number × List Symbol) (ts : List Symbol) → (1 ≤ n.0.value) × (n.0.value ≤ 127) → IfRead IsInitialNad (cond {A = Reading ℕ} (n.0.value == 126) (Err ts) (Ok (n.0.value, n.1)))
but-functional n ts h =
    elim (n.0.value == 126) as (λ b. ((n.0.value == 126) ≡ b) → IfRead IsInitialNad (cond {A = Reading ℕ} b (Err ts) (Ok (n.0.value, n.1)))) [
      | true ↦ λ is. tt
      | false ↦ λ isnt. (h.0, h.1, eqb-false n.0.value 126 isnt)
    ] refl

nad-within : (ts : List Symbol) → IfRead IsInitialNad (nad_next ts)
nad-within ts = behind (λ (n : Number). (1 ≤ n.value) × (n.value ≤ 127)) IsInitialNad (number_next 1 127 ts) (λ n. cond {A = Reading ℕ} (n.0.value == 126) (Err ts) (Ok (n.0.value, n.1))) (within-limits 1 127 ts) (λ n h. but-functional n ts h)

pub initial-limits : (ts : List Symbol) → IfRead IsInitialNad (initial_nad ts)
initial-limits ts =
    behind-any IsInitialNad (mark_next Equals ts) (λ u. nad_next u.1 >>= λ n. mark_next Semicolon n.1 >>= λ e. Ok (n.0, e.1)) (λ u.
    behind IsInitialNad IsInitialNad (nad_next u.1) (λ n. mark_next Semicolon n.1 >>= λ e. Ok (n.0, e.1)) (nad-within u.1) (λ n is.
    behind-any IsInitialNad (mark_next Semicolon n.1) (λ e. Ok (n.0, e.1)) (λ e. is)))
