use Rattle.std.proofs.Common.{◌≡◌, ◌+◌, inl, inr, true, false, List, get_or, drop, length, sym, ◌∙◌, ap, subst, arith}
use Rattle.std.proofs.lemmas.List.{drop_more}
use Rattle.hx_bytes.specs.declared.extents.Extent.{Extent}
use Rattle.flag_rows.specs.Bits.{count_set}
use Rattle.fork_map.specs.Blocks.{blocks_of}
use Rattle.fork_map.proofs.Laws.{length_blocks_more}
use Rattle.alloc_bitmap.specs.Map.{BlockMap}
use Rattle.file_io.specs.Places.{given, AreUsed, KeepsMap, LosesNone}
use Rattle.file_io.proofs.GiveLaws.{Giving, giving_on, had}
use Rattle.file_io.proofs.KeepLaws.{keeps_both, keeps_given, loses_both, loses_given, marks_then}
use Rattle.file_io.proofs.MarkLaws.{marked_once}
use Rattle.file_io.proofs.shrinking.give_all.Goals as goal
use Rattle.file_io.proofs.shrinking.give_all.Goals.{then-have+in_ok-give, else-have}

pub loop-extent-preserved : goal.loop-extent-preserved
loop-extent-preserved c = (
  λ apart used.
      let list : List Extent = c.args.list.now in
      let i = c.loop-extent.extent-index in
      let d : Extent = record { start = 0; count = 0 } in
      let e : Extent = get_or list i d in
      let g : Giving list c.loop-extent.map i (given list c.args.map.now) = c.loop-extent.invariant.0 apart used in
      giving_on list c.loop-extent.map c.if-have.map (given list c.args.map.now) i d c.loop-extent-test.true g
      (elim c.if-have.branch [
        | then-have+in_ok-give w ↦ inl (w.map-is ∙ w.in_ok-give.ensures.given)
        | else-have w ↦ inr (w.map-is, λ h. let clash : false ≡ true = sym w.if-have.false ∙ c.have.ensures.1 h in absurd (cc clash))
      ])
      (λ some. had c.loop-extent.map e (drop (i + 1) list) (subst (λ (l : List Extent). AreUsed c.loop-extent.map (blocks_of l)) (drop_more list i d c.loop-extent-test.true) g.used) some),
  λ marks.
      let before = c.loop-extent.invariant.1 marks in
      elim c.if-have.branch [
        | then-have+in_ok-give w ↦ subst (λ (m : BlockMap). KeepsMap c.args.map.now m) (sym (w.map-is ∙ w.in_ok-give.ensures.given))
            (keeps_both c.args.map.now c.loop-extent.map _ before (keeps_given c.loop-extent.map (get_or c.args.list.now c.loop-extent.extent-index (record { start = 0; count = 0 })) (c.have.ensures.0 w.if-have.true) (marks_then c.args.map.now c.loop-extent.map before marks)))
        | else-have w ↦ subst (λ (m : BlockMap). KeepsMap c.args.map.now m) (sym w.map-is) before
      ],
  elim c.if-have.branch [
    | then-have+in_ok-give w ↦ subst (λ (m : BlockMap). LosesNone c.args.map.now m) (sym (w.map-is ∙ w.in_ok-give.ensures.given))
        (loses_both c.args.map.now c.loop-extent.map _ c.loop-extent.invariant.2 (loses_given c.loop-extent.map (get_or c.args.list.now c.loop-extent.extent-index (record { start = 0; count = 0 })) (c.have.ensures.0 w.if-have.true)))
    | else-have w ↦ subst (λ (m : BlockMap). LosesNone c.args.map.now m) (sym w.map-is) c.loop-extent.invariant.2
  ],
  elim c.if-have.branch [
    | then-have+in_ok-give w ↦ omega (
      arith,
      c.loop-extent.invariant.3,
      length_blocks_more c.args.list.now c.loop-extent.extent-index (record { start = 0; count = 0 }) c.loop-extent-test.true,
      marked_once c.loop-extent.map.changed (get_or c.args.list.now c.loop-extent.extent-index (record { start = 0; count = 0 })),
      ap (λ (m : BlockMap). count_set m.changed) (w.map-is ∙ w.in_ok-give.ensures.given),
    )
    | else-have w ↦ omega (
      arith,
      c.loop-extent.invariant.3,
      length_blocks_more c.args.list.now c.loop-extent.extent-index (record { start = 0; count = 0 }) c.loop-extent-test.true,
      ap (λ (m : BlockMap). count_set m.changed) w.map-is,
    )
  ],
)
