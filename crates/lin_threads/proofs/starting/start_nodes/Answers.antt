use Rattle.std.proofs.Common.{◌≡◌, ◌++◌, ◌∷◌, [], List, length-append, refl, sym, ap, ◌∙◌, append_assoc, append-nil, arith}
use Rattle.std.proofs.lemmas.List.{nil_from_length}
use Rattle.std.proofs.lemmas.Grind.{common_steps}
use Rattle.std.specs.Vec.Iter.{into_iter_items, into_iter_len}
use Rattle.std.specs.declared.vec.IntoIter.{IntoIter}
use Rattle.std.specs.Global.{Global}
use Rattle.lin_threads.specs.Started.{all_lists}
use Rattle.lin_threads.proofs.NodeLemmas.{all_lists-more}
use Rattle.lin_threads.proofs.starting.start_nodes.Goals as goal

pub loop-port-init : goal.loop-port-init
loop-port-init g c =
    let ports = c.into_iter-port-iterator.ensures.into_iter_gives in
    let lists = c.into_iter-leave.ensures in
    let leave = c.requires.leave in
    let room = c.requires.room in record {
      lent = sym (append-nil _);
      listed = ([], lists.rest, refl, sym (append-nil _));
      whole = ports.0;
      lists = omega (arith, lists.len, ports.1);
      room = omega (arith, ports.1);
    }

pub loop-port-preserved : goal.loop-port-preserved
loop-port-preserved g c =
    let inv = c.loop-port.invariant in
    let h = inv.listed in
    let lists = inv.lists in
    let room = inv.room in
    let yielded = c.loop-port.yielded in
    let port = c.in-Some.port in
    let list = c.in-Some-next.list in
    let next = c.in-Some-next.ensures in
    let steps = c.in-Some.ensures.steps in
    let pushed = c.push_reserved.ensures in
    let longer = length-append h.0 (list ∷ []) in
    let more = length-append yielded (port ∷ []) in
    let same = h.2 in record {
      lent = grind (arith, common_steps);
      listed = (
        h.0 ++ list ∷ [],
        append_assoc h.0 (list ∷ []) (into_iter_items c.next-in-loop-port.new.self) ∙ ap (λ xs. h.0 ++ xs) (sym next.items) ∙ h.1,
        omega arith,
        rw pushed.items (all_lists-more c.loop-port.started.items c.in_ok-handle.handle (all_lists c.args.started.now.items) yielded h.0 port list h.2 h.3 c.in_ok-handle.ensures.list),
      );
      whole = append_assoc yielded (port ∷ []) (into_iter_items c.next.new.self) ∙ ap (λ xs. yielded ++ xs) (sym steps.0) ∙ inv.whole;
      lists = omega (arith, next.len, steps.1);
      room = omega (arith, steps.1, pushed.len, pushed.capacity);
    }

-- an iterator at its end has given all
all_given : {X : Type 0} (taken whole : List X) (left : IntoIter X Global) → into_iter_len left ≡ 0 → taken ++ into_iter_items left ≡ whole → taken ≡ whole
all_given taken whole left end h =
    let none : into_iter_items left ≡ [] = nil_from_length _ (let ok = left.rest.ok in omega arith) in
    sym (append-nil taken) ∙ ap (λ xs. taken ++ xs) (sym none) ∙ h

pub returns-clause-lists : goal.returns-clause-lists
returns-clause-lists g c =
    let inv = c.loop-port.invariant in
    let h = inv.listed in
    let end = c.in-None.ensures.steps.0 in
    h.3 ∙ rw (all_given h.0 c.args.leave.items c.loop-port.leave (inv.lists ∙ end) h.1, all_given c.loop-port.yielded c.args.ports.items c.loop-port.port-iterator end inv.whole) refl
