use Rattle.std.proofs.Common.{◌≡◌, ◌+◌, ℕ, List, [], ◌∷◌, ◌++◌, Option, Some, None, cond, map, take, ap, sym, ◌∙◌}
use Rattle.std.proofs.lemmas.List.{map_more, take_all}
use Rattle.lin_sections.specs.NewNames.{has_in, has_key, keyed_name, only_in, only_with, KeyedName}
use Rattle.lin_sections.specs.declared.diff.new_names.Keyed.{Keyed}
use Rattle.lin_sections.proofs.NewNameSteps.{key-more, only-more}
use Rattle.lin_sections.proofs.diff.new_names.key_names.Goals as goal

pub loop-thing-preserved : goal.loop-thing-preserved
loop-thing-preserved c =
    let thing : KeyedName = keyed_name c.thing-item.result in
    let before : List KeyedName = map keyed_name (take c.loop-thing.thing-index c.args.things.now) in
    let more : map keyed_name (take (c.loop-thing.thing-index + 1) c.args.things.now) ≡ before ++ thing ∷ [] =
    map_more keyed_name c.args.things.now c.loop-thing.thing-index c.thing-item.result c.loop-thing-test.true
    ∙ ap (λ (k : Keyed). before ++ keyed_name k ∷ []) (sym c.thing-item.is) in
    record {
      only = λ q.
          only-more before thing q (cond (has_in c.loop-thing.names.map thing.key) None (Some thing.name)) (only_in c.loop-thing.names.map q) (only_in c.add.new.self.map q)
          (c.loop-thing.invariant.only q) (ap (λ b. cond {A = Option (List ℕ)} b None (Some thing.name)) (c.loop-thing.invariant.known thing.key)) (c.in_ok-add.ensures.only q)
          ∙ ap (λ ks. only_with ks q) (sym more);
      known = λ q.
          key-more before thing q (has_in c.loop-thing.names.map q) (has_in c.add.new.self.map q) (c.loop-thing.invariant.known q) (c.in_ok-add.ensures.known q)
          ∙ ap (λ ks. has_key ks q) (sym more);
    }

pub returns : goal.returns
returns c = λ q.
    c.loop-thing.invariant.only q
    ∙ ap (λ (ts : List Keyed). only_with (map keyed_name ts) q) (take_all c.loop-thing.thing-index c.args.things.now c.loop-thing-test.false)
