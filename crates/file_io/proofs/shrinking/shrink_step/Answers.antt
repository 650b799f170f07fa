use Rattle.std.proofs.Common.{◌≡◌, ◌≤◌, ◌<◌, ◌-◌, ◌*◌, ℕ, List, length, get_or, true, false, take, drop, length-take, arith, ap, subst, sym, ◌∙◌}
use Rattle.std.proofs.lemmas.List.Elements.{All-drop}
use Rattle.hx_bytes.specs.declared.extents.Extent.{Extent}
use Rattle.fork_map.specs.Blocks.{blocks_of}
use Rattle.fork_map.specs.Cut.{back}
use Rattle.alloc_bitmap.specs.Apart.{AreApart}
use Rattle.alloc_bitmap.proofs.HoldLaws.{slice_rest}
use Rattle.file_io.specs.Places.{given, AreUsed}
use Rattle.file_io.proofs.CutLaws.{fewer_behind, both_sides, apart_behind}
use Rattle.file_io.proofs.shrinking.shrink_step.Goals as goal

pub returns-clause-last_record : goal.returns-clause-last_record
returns-clause-last_record c = λ n some.
    let fork : List Extent = c.args.fork.now in
    let items : List Extent = c.as_slice-items.result.now in
    let last = c.last_record-last.result in
    let below : 8 * n ≤ last = c.last_record-last.ensures.last n (subst (λ (l : List Extent). 0 < length (blocks_of (drop (8 * n) l))) (sym c.as_slice-items.ensures) some) in
    let cut = ap (λ (l : List Extent). length (blocks_of l)) (slice_rest last items fork c.as_slice-items.ensures) in
    let kept = ap (λ (l : List ℕ). length l) c.in_ok-stays.ensures.blocks.0 in
    omega (arith, both_sides fork (8 * n), fewer_behind fork (8 * n) last below, cut, c.blocks_in-2.ensures, c.min-cut.ensures, kept, length-take (length (blocks_of fork) - c.min-cut.result) (blocks_of fork))

pub returns-clause-given : goal.returns-clause-given
returns-clause-given c = λ apart.
    let fork : List Extent = c.args.fork.now in
    let stay : ℕ = length (blocks_of fork) - c.min-cut.result in
    let kept : length (blocks_of c.in_ok-stays.stays) ≡ stay = ap (λ (l : List ℕ). length l) c.in_ok-stays.ensures.blocks.0 ∙ (let e : length (take stay (blocks_of fork)) ≡ stay = omega (arith, length-take stay (blocks_of fork)) in e) in
    let goes : c.as_slice.result.now ≡ back stay fork = c.as_slice.ensures ∙ c.in_ok-stays.ensures.extents.1 in
    let blocks : blocks_of c.as_slice.result.now ≡ drop stay (blocks_of fork) = ap (λ (l : List Extent). blocks_of l) c.as_slice.ensures ∙ c.in_ok-stays.ensures.blocks.1 in
    c.in_ok-give_all.ensures.given
    (subst (λ (l : List ℕ). AreApart l) (sym blocks) (apart_behind (blocks_of fork) stay apart))
    (subst (λ (l : List ℕ). AreUsed c.args.map.now l) (sym blocks) (All-drop (λ b. get_or c.args.map.now.used b false ≡ true) stay (blocks_of fork) c.requires.used))
    ∙ ap (λ (l : List Extent). given l c.args.map.now) (goes ∙ ap (λ m. back m fork) (sym kept))
