-- Digits and characters, as they are read.
use Rattle.std.proofs.Common.{◌≡◌, ◌<◌, ◌≤◌, ◌+◌, ◌-◌, ◌*◌, ◌^◌, ℕ, zero, suc, true, cond, ◌&&◌, List, [], ◌∷◌, ◌++◌, length, take, drop, get_or, refl, sym, ap, ◌∙◌, arith, append_assoc}
use Rattle.std.specs.Prelude.{Ok, Err, OnOk, Option, Result, Some, None, is_ok}
use Rattle.std.proofs.lemmas.Bool.Decides.{nat_tests}
use Rattle.std.specs.Char.{is_ascii_digit}
use Rattle.std.specs.Option.{option_map}
use Rattle.std.proofs.lemmas.List.{take_all}
use Rattle.lin_values.specs.Spelled.{byte_of, pairs}

pub digit-small : (c : ℕ) → is_ascii_digit c ≡ true → c - 48 ≤ 9
digit-small c e = grind (arith, nat_tests)

pub on-ok : {A E : Type 0} {P : Type 0} (r : Result A E) → is_ok r ≡ true → OnOk r P → P
on-ok (Ok a) e h = h
on-ok (Err x) e h = cc

-- one digit more leaves the number within 16 bits
pub room : (n i : ℕ) → i < 4 → n < 16 ^ i → n * 16 + 16 ≤ 65536
room n zero lt h = omega arith
room n (suc zero) lt h = omega arith
room n (suc (suc zero)) lt h = omega arith
room n (suc (suc (suc zero))) lt h = omega arith
room n (suc (suc (suc (suc i)))) lt h = absurd (omega arith)

grouped : (xs : List ℕ) (x : ℕ) (o : Option (List ℕ)) → option_map (λ bs. xs ++ bs) (option_map (λ bs. x ∷ bs) o) ≡ option_map (λ bs. (xs ++ x ∷ []) ++ bs) o
grouped xs x None = refl
grouped xs x (Some bs) = ap Some (sym (append_assoc xs (x ∷ []) bs))

pub paired : (a b : ℕ) (cs : List ℕ) → is_ascii_digit a ≡ true → is_ascii_digit b ≡ true → pairs (a ∷ b ∷ cs) ≡ option_map (λ bs. byte_of a b ∷ bs) (pairs cs)
paired a b cs ea eb =
    ap (λ t. cond (t && is_ascii_digit b) (option_map (λ bs. byte_of a b ∷ bs) (pairs cs)) None) ea
    ∙ ap (λ t. cond t (option_map (λ bs. byte_of a b ∷ bs) (pairs cs)) None) eb

pub pair-read : (text bytes more rest : List ℕ) → 2 ≤ length rest → pairs text ≡ option_map (λ bs. bytes ++ bs) (pairs rest)
    → is_ascii_digit (get_or rest 0 0) ≡ true → is_ascii_digit (get_or rest 1 0) ≡ true
    → more ≡ bytes ++ byte_of (get_or rest 0 0) (get_or rest 1 0) ∷ []
    → pairs text ≡ option_map (λ bs. more ++ bs) (pairs (take (length rest - 2) (drop 2 rest)))
pair-read text bytes more [] le e ea eb m = absurd (omega arith)
pair-read text bytes more (a ∷ []) le e ea eb m = absurd (omega arith)
pair-read text bytes more (a ∷ b ∷ cs) le e ea eb m =
    e ∙ ap (option_map (λ bs. bytes ++ bs)) (paired a b cs ea eb)
    ∙ grouped bytes (byte_of a b) (pairs cs)
    ∙ ap (λ xs. option_map (λ bs. xs ++ bs) (pairs cs)) (sym m)
    ∙ ap (λ zs. option_map (λ bs. more ++ bs) (pairs zs)) (sym (take_all (length (a ∷ b ∷ cs) - 2) cs (omega arith)))
