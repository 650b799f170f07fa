use Rattle.std.proofs.Common.{◌≡◌, ◌<◌, ℕ, Bool, false, List, [], ◌∷◌, length, replicate, ap, ◌∙◌, arith}
use Rattle.std.specs.Prelude.{slice_index}
use Rattle.std.proofs.lemmas.List.{get_or_default, length-replicate}
use Rattle.fsck_core.specs.Parents.{marked}
use Rattle.fsck_core.specs.declared.rows.Row.{Row}
use Rattle.fsck_core.proofs.ParentLaws.{walk_starts, walk_more, walk_ends, id_below, none_marked}
use Rattle.fsck_core.proofs.parents.walk_down.Goals as goal

pub loop-at-init : goal.loop-at-init
loop-at-init c =
    let marks_are : c.in_ok-marks.marks.items ≡ replicate (length c.args.rows.now) false = c.in_ok-marks.ensures.items_if_clones_equal (λ y same. same) in
    let folders_are : c.in_ok-folders.folders.items ≡ c.args.top ∷ [] = c.in_ok-folders.ensures.items_if_clones_equal (λ y same. same) in
    record {
      long = ap (λ (l : List Bool). length l) marks_are ∙ length-replicate {A = Bool} (length c.args.rows.now) false;
      room = omega (arith, ap (λ (l : List ℕ). length l) folders_are);
      walks = λ rises. walk_starts c.args.rows.now c.in_ok-marks.marks.items c.in_ok-folders.folders.items (λ k. ap (λ (l : List Bool). marked l k) marks_are ∙ none_marked (length c.args.rows.now) k) folders_are;
    }

pub loop-at-preserved : goal.loop-at-preserved
loop-at-preserved c =
    let rows : List Row = c.args.rows.now in
    let at : ℕ = c.loop-at.at in
    let folders : List ℕ = c.loop-at.folders.items in
    let inside : at < length folders = omega (arith, c.loop-at-test.true, c.len.ensures, c.loop-at.folders.ok.0) in
    let is : c.index.result.now ≡ slice_index folders at = c.index.ensures ∙ get_or_default folders at c.index.result.now 0 inside in
    record {
      long = c.in_ok-enter.ensures.long;
      room = omega (arith, c.in_ok-enter.ensures.room, c.loop-at.invariant.room);
      walks = λ rises.
          let walking = c.loop-at.invariant.walks rises in
          walk_more rows c.loop-at.marks.items folders c.enter.new.marks.items c.enter.new.folders.items at c.index.result.now inside is walking
          (c.in_ok-enter.ensures.enters c.args.top rises walking.reaching (id_below rows c.loop-at.marks.items folders at c.index.result.now inside is walking));
    }

pub returns-clause-leads : goal.returns-clause-leads
returns-clause-leads c rises =
    walk_ends c.args.rows.now c.loop-at.marks.items c.loop-at.folders.items c.loop-at.at (omega (arith, c.loop-at-test.false, c.len.ensures, c.loop-at.folders.ok.0)) (c.loop-at.invariant.walks rises)
