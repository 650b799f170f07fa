use Rattle.std.proofs.lemmas.Bool.{eq-eqb, ne_eqb}
use Rattle.fsck_core.specs.Overflows.{overflows_in}
use Rattle.fsck_core.specs.Owners.{owned_in}
use Rattle.fsck_core.proofs.OwnerLaws.{own_goes_on, fork_stops, fork_counts}
use Rattle.fsck_core.proofs.follow.follow_fork.Goals as goal

pub returns-then-owned-eq-EXTENTS_FILE : goal.returns-then-owned-eq-EXTENTS_FILE
returns-then-owned-eq-EXTENTS_FILE c = own_goes_on (overflows_in c.args.rows.now) (owned_in c.args.owned.now) c.count_blocks.result (eq-eqb c.args.owned.now.id 3 c.if-owned-eq-EXTENTS_FILE.true) c.count_blocks.ensures.value

pub returns-in_default : goal.returns-in_default
returns-in_default c =
    fork_stops c.args.rows.now (owned_in c.args.owned.now) (record { place = c.count_blocks.result; full = c.has_no_room.result }) c.follow.result (ne_eqb c.args.owned.now.id 3 c.if-owned-eq-EXTENTS_FILE.false) c.count_blocks.ensures.value c.has_no_room.ensures
    c.follow.ensures c.in_default.is

pub returns : goal.returns
returns c =
    fork_counts c.args.rows.now (owned_in c.args.owned.now) (record { place = c.count_blocks.result; full = c.has_no_room.result }) c.follow.result c.in-Some.last (ne_eqb c.args.owned.now.id 3 c.if-owned-eq-EXTENTS_FILE.false) c.count_blocks.ensures.value
    c.has_no_room.ensures c.follow.ensures c.in-Some.is
