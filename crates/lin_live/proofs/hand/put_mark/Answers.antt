use Rattle.std.proofs.Common.{◌∙◌, ◌++◌, ◌∷◌, ℕ, [], List, ap, filter, not, rules}
use Rattle.std.specs.Str.{bytes_eq}
use Rattle.std.proofs.lemmas.Fn.{filter_same}
use Rattle.std.proofs.lemmas.Result.{err_from_is_err_and}
use Rattle.lin_live.specs.declared.hand.NamedMark.{NamedMark}
use Rattle.lin_live.proofs.hand.put_mark.Goals as goal

pub returns-in_err-push : goal.returns-in_err-push
returns-in_err-push c =
    let name = c.as_slice-name.result.now in
    let p = err_from_is_err_and c.from_residual.result c.from_residual.ensures.1 in
    let rest = filter_same _ (λ (k : NamedMark). not (bytes_eq k.name name)) _ (λ x b f' k. search rules) c.args.marks.now.items c.retain.new.self.items c.retain.ensures.filtered
    ∙ ap (λ (n : List ℕ). filter (λ (k : NamedMark). not (bytes_eq k.name n)) c.args.marks.now.items) c.as_slice-name.ensures in
    rw p.1 (record { put = tt; rest = c.in_err-push.ensures.items ∙ rest })

pub returns : goal.returns
returns c =
    let name = c.as_slice-name.result.now in
    let rest = filter_same _ (λ (k : NamedMark). not (bytes_eq k.name name)) _ (λ x b f' k. search rules) c.args.marks.now.items c.retain.new.self.items c.retain.ensures.filtered
    ∙ ap (λ (n : List ℕ). filter (λ (k : NamedMark). not (bytes_eq k.name n)) c.args.marks.now.items) c.as_slice-name.ensures in
    record { put = c.in_ok-push.ensures.items ∙ ap (λ (l : List NamedMark). l ++ c.args.mark ∷ []) rest; rest = tt }
