use Rattle.std.proofs.Common.{refl, ◌≡◌, ◌+◌, ◌∷◌, ◌++◌, [], drop, sym, ap, subst, ◌∙◌, append-nil, arith, List, reverse}
use Rattle.std.proofs.lemmas.List.{drop_all, take_all}
use Rattle.lin_core.specs.declared.log.LogEntry.{LogEntry}
use Rattle.lin_parts.specs.declared.parts.Parts.{Parts}
use Rattle.lin_text.proofs.Growing.{grows-more, grows-nothing, same-growth}
use Rattle.lin_export.proofs.Puttings.{puts-all, puts-some}
use Rattle.lin_export.proofs.Times.{early}
use Rattle.lin_export.proofs.Tellings.{before, before-next, next-put}
use Rattle.lin_export.specs.Telling.{LogFormat, each_entry}
use Rattle.lin_export.specs.Track.{track_of}
use Rattle.lin_export.proofs.format.put_entries.Goals as goal

pub loop-index-init : goal.loop-index-init
loop-index-init g c = record {
  told = ([], grows-nothing c.args.out.now, refl);
  kept = c.requires.track;
  same = refl;
  fits = c.requires.fits;
  keeps = c.requires.keeps;
}

pub put_entry-requires-clause-time : goal.put_entry-requires-clause-time
put_entry-requires-clause-time g c =
    (early c.args.cluster.now c.sound.ensures.rules c.args.log.now.entries c.loop-index.index c.loop-index.track c.loop-index.invariant.kept (omega arith)).0

pub follow-requires-clause-time : goal.follow-requires-clause-time
follow-requires-clause-time g c =
    (early c.args.cluster.now c.sound.ensures.rules c.args.log.now.entries c.loop-index.index c.loop-index.track c.loop-index.invariant.kept (omega arith)).0

pub follow-requires-clause-slots : goal.follow-requires-clause-slots
follow-requires-clause-slots g c =
    (early c.args.cluster.now c.sound.ensures.rules c.args.log.now.entries c.loop-index.index c.loop-index.track c.loop-index.invariant.kept (omega arith)).1

pub loop-index-preserved : goal.loop-index-preserved
loop-index-preserved g c =
    let x = c.args.cluster.now in
    let es = c.args.log.now.entries in
    let i = c.loop-index.index in
    let e = c.entry-entry.result.now in
    let past : List LogEntry = before es i in
    let v = c.loop-index.invariant in
    let says = (g.F.EntryFormat.text c.args.format.now x).says in
    let next : before es (i + 1) ≡ e ∷ past = before-next es i e c.entry-entry.ensures (omega arith) in
    record {
      told = (
        v.told.0 ++ says e past,
        grows-more v.told.1 (same-growth (ap (λ (text : Parts → LogFormat). (text x).says e past) v.same) (c.put_entry.ensures.text past v.kept v.keeps)),
        ap (λ (l : List LogEntry). (v.told.0 ++ says e past) ++ each_entry says l (drop (i + 1) es)) next
            ∙ next-put says es i e v.told.0 _ c.entry-entry.ensures (omega arith) v.told.2,
      );
      kept = c.in_ok-follow.ensures.kept past v.kept ∙ ap (track_of x) (sym next);
      same = c.put_entry.ensures.same ∙ v.same;
      fits = c.put_entry.ensures.fits;
      keeps =
          let P : List LogEntry → Type 0 = λ l. g.F.EntryFormat.keeps c.put_entry.new.self x l in
          subst P (sym next) (c.put_entry.ensures.keeps past v.kept v.keeps);
    }

pub returns-in_err-follow-clause-text : goal.returns-in_err-follow-clause-text
returns-in_err-follow-clause-text g c =
    let x = c.args.cluster.now in
    let es = c.args.log.now.entries in
    let i = c.loop-index.index in
    let e = c.entry-entry.result.now in
    let past : List LogEntry = before es i in
    let says = (g.F.EntryFormat.text c.args.format.now x).says in
    let v = c.loop-index.invariant in
    puts-some (each_entry says (e ∷ past) (drop (i + 1) es)) c.from_residual.ensures.0
    (sym (next-put says es i e v.told.0 _ c.entry-entry.ensures (omega arith) v.told.2))
    (grows-more v.told.1 (same-growth (ap (λ (text : Parts → LogFormat). (text x).says e past) v.same) (c.put_entry.ensures.text past v.kept v.keeps)))

-- all entries were put
pub returns : goal.returns
returns g c =
    let x = c.args.cluster.now in
    let es = c.args.log.now.entries in
    let i = c.loop-index.index in
    let v = c.loop-index.invariant in
    let says = (g.F.EntryFormat.text c.args.format.now x).says in
    let whole : before es i ≡ reverse es = ap reverse (take_all i es (omega arith)) in
    let none : drop i es ≡ [] = drop_all i es (omega arith) in
    record {
      text = puts-all (sym (append-nil v.told.0) ∙ ap (λ (l : List LogEntry). v.told.0 ++ each_entry says (before es i) l) (sym none) ∙ v.told.2) v.told.1;
      track = v.kept ∙ ap (track_of x) whole;
      keeps = let P : List LogEntry → Type 0 = λ l. g.F.EntryFormat.keeps c.loop-index.format x l in subst P whole v.keeps;
      same = v.same;
    }
