use Rattle.std.proofs.Common.{◌≡◌, ◌∙◌, ◌==◌, ℕ, List, Option, Some, find, IfOk, refl, sym, ap, subst}
use Rattle.std.specs.Prelude.{option_and_then}
use Rattle.lin_parts.specs.Cluster.{response_of}
use Rattle.lin_parts.specs.declared.parts.Identity.{Identity}
use Rattle.lin_parts.specs.declared.parts.Parts.{Parts}
use Rattle.lin_bench.specs.Rules.{data_by, request_of, service_data}
use Rattle.lin_bench.proofs.answers.service_data.Goals as goal

-- what a node responds, by what it responds to the request
data-of : (c : Parts) (node own : ℕ) (message : List ℕ) (i : Identity) (response : Option (List ℕ)) → find (λ i. i.node == node) c.identities ≡ Some i
    → response_of c i (request_of own message) ≡ response → service_data c node own message ≡ option_and_then (data_by own) response
data-of c node own message i response known is =
    ap (option_and_then (λ i. option_and_then (data_by own) (response_of c i (request_of own message)))) known ∙ ap (option_and_then (data_by own)) is

pub returns-in-Some-response_of : goal.returns-in-Some-response_of
returns-in-Some-response_of c =
    let request = ap (response_of c.args.cluster.now c.in-Some.identity.now) (sym c.request_of.ensures) in
    let is =
    data-of c.args.cluster.now c.args.node c.args.nad c.args.message.now c.in-Some.identity.now _ (sym c.in-Some.ensures.known)
    (request ∙ sym c.response_of.ensures ∙ c.in-Some-response_of.is) in
    subst (λ (x : Option (List ℕ)). IfOk c.data_by.result (λ found. found ≡ x)) (sym is) c.data_by.ensures

pub returns-in-None : goal.returns-in-None
returns-in-None c =
    let request = ap (response_of c.args.cluster.now c.in-Some.identity.now) (sym c.request_of.ensures) in
    sym
    (data-of c.args.cluster.now c.args.node c.args.nad c.args.message.now c.in-Some.identity.now _ (sym c.in-Some.ensures.known)
    (request ∙ sym c.response_of.ensures ∙ c.in-None.is))
