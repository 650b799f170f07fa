use Rattle.std.proofs.Common.{◌++◌, List, ◌∙◌, ap, arith}
use Rattle.std.specs.List.{flat_map}
use Rattle.std.proofs.lemmas.Bool.{eq-eqb, ne_eqb}
use Rattle.std.proofs.lemmas.List.{take_all}
use Rattle.hx_bytes.specs.declared.extents.Extent.{Extent}
use Rattle.hfs_volume.specs.Forks.{in_use}
use Rattle.fsck_core.specs.Overflows.{overflows_in, extents_for}
use Rattle.fsck_core.specs.declared.overflow.OverflowRow.{OverflowRow}
use Rattle.fsck_core.proofs.OverflowLaws.{own_extents, all_extents}
use Rattle.fsck_core.proofs.overflow.fork_extents.Goals as goal

pub returns-then-id-eq-EXTENTS_FILE : goal.returns-then-id-eq-EXTENTS_FILE
returns-then-id-eq-EXTENTS_FILE c =
    c.in_ok-push_used.ensures ∙ ap (λ (l : List Extent). l ++ in_use c.args.fork.now.extents.extents) c.new-list.ensures
    ∙ own_extents (overflows_in c.args.rows.now) c.args.id c.args.kind c.args.fork.now (eq-eqb c.args.id 3 c.if-id-eq-EXTENTS_FILE.true)

pub returns : goal.returns
returns c =
    c.loop-row.invariant.list
    ∙ ap (λ (l : List OverflowRow). in_use c.args.fork.now.extents.extents ++ flat_map (extents_for c.args.id c.args.kind) l) (take_all c.loop-row.row-index c.args.rows.now (omega (arith, c.loop-row-test.false)))
    ∙ all_extents c.args.rows.now c.args.id c.args.kind c.args.fork.now (ne_eqb c.args.id 3 c.if-id-eq-EXTENTS_FILE.false)
