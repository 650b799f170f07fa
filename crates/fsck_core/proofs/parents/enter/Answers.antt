use Rattle.std.proofs.Common.{◌≡◌, ◌<◌, ℕ, Bool, List, ◌++◌, length, set, true, subst, sym, ◌∙◌, arith}
use Rattle.fsck_core.specs.Rows.{row_at}
use Rattle.fsck_core.specs.Parents.{IsBelow, folder_of, marked}
use Rattle.fsck_core.specs.declared.rows.Row.{Row}
use Rattle.fsck_core.proofs.ParentLaws.{enters_none, enters_more, enters_all, parent_between, long_step, room_step}
use Rattle.fsck_core.proofs.parents.enter.Goals as goal

pub loop-at-init : goal.loop-at-init
loop-at-init c = record {
  long = c.requires;
  low = omega arith;
  room = omega arith;
  enters = λ top reaching below parents. enters_none c.args.rows.now c.rows_below-from.result c.args.marks.now.items c.args.folders.now.items reaching;
}

pub loop-at-preserved : goal.loop-at-preserved
loop-at-preserved c =
    let rows : List Row = c.args.rows.now in
    let at : ℕ = c.loop-at.at in
    let marks : List Bool = c.loop-at.marks.items in
    let folders : List ℕ = c.loop-at.folders.items in
    let more : List Bool = c.reach.new.marks.items in
    let further : List ℕ = c.reach.new.folders.items in
    let here : at < length rows = omega (arith, c.loop-at-test.true, c.rows_below-to.ensures.inside) in
    let inside : at < length marks = omega (arith, here, c.loop-at.invariant.long) in
    let marks_are : more ≡ set marks at true = c.in_ok-reach.ensures.marks in
    let folders_are : further ≡ folders ++ folder_of (marked marks at) (row_at rows at) = c.in_ok-reach.ensures.folders in
    let step = room_step rows at marks folders more further inside marks_are folders_are in
    record {
      long = long_step rows at marks folders more further inside marks_are folders_are ∙ c.loop-at.invariant.long;
      low = omega (arith, c.loop-at.invariant.low);
      room = omega (arith, c.loop-at.invariant.room, step);
      enters = λ top reaching below parents. enters_more rows c.rows_below-from.result at c.args.marks.now.items c.args.folders.now.items marks folders more further here c.loop-at.invariant.long marks_are folders_are
          (subst (IsBelow top rows) (sym (parents at c.loop-at.invariant.low c.loop-at-test.true)) below) (c.loop-at.invariant.enters top reaching below parents);
    }

pub returns-clause-enters : goal.returns-clause-enters
returns-clause-enters c top rises reaching below =
    let rows : List Row = c.args.rows.now in
    let from : ℕ = c.rows_below-from.result in
    let to : ℕ = c.rows_below-to.result in
    let first = c.rows_below-from.ensures.point rises in
    let last = c.rows_below-to.ensures.point rises in
    enters_all rows c.args.id from to c.rows_below-from.ensures.inside c.rows_below-to.ensures.inside first last c.args.marks.now.items c.args.folders.now.items c.loop-at.marks.items c.loop-at.folders.items c.loop-at.at
    (omega (arith, c.loop-at-test.false))
    (c.loop-at.invariant.enters top reaching below (parent_between rows c.args.id from to c.rows_below-from.ensures.inside c.rows_below-to.ensures.inside first last))
