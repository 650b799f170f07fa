use Rattle.std.proofs.Common.{◌≡◌, ◌≤◌, ℕ, List, [], refl, sym, ◌∙◌, ap, subst, arith}
use Rattle.btree_edit.specs.Edits.{EditRoom}
use Rattle.btree_file.specs.State.{state_of}
use Rattle.file_io.specs.Places.{AreUsed}
use Rattle.fork_map.specs.Blocks.{blocks_of}
use Rattle.hfs_volume.specs.declared.cost.ValueChange.{ValueChange}
use Rattle.hfs_volume.specs.Cost.{attributes_key, tree_load}
use Rattle.volume_base.specs.Attributing.{attributes_cost}
use Rattle.volume_base.specs.Keeping.{shrunk_of}
use Rattle.volume_base.specs.declared.volume.Volume.{Volume}
use Rattle.volume_base.proofs.Framed.{edits_err}
use Rattle.volume_base.proofs.Freed.{ran_both, ran_short, ran_spent, ran_stands, ran_within, wanting}
use Rattle.volume_base.proofs.KeptUsed.{used_blocks, used_both}
use Rattle.volume_base.proofs.OwnedChange.{settled_valued}
use Rattle.volume_base.proofs.ValuesGiven.{all_given, given_apart, given_used, unchanged_bared}
use Rattle.volume_space.proofs.StepSpent.{bare_taken}
use Rattle.volume_space.proofs.StripRoom.{few_blocks, few_records, freed_are, none_touched, strip_room, value_is, strip_spent, strip_spent_bare}
use Rattle.volume_space.proofs.Stripped.{bared_one, named_by}
use Rattle.volume_space.proofs.stripping.strip.Goals as goal

pub delete-requires-clause-values : goal.delete-requires-clause-values
delete-requires-clause-values g c tells = settled_valued c.args.volume.now (g.P.SectorView.space c.args.space.now).content (c.requires.serves.settled tells)

pub delete-requires-clause-few : goal.delete-requires-clause-few
delete-requires-clause-few g c tells = few_records c.args.volume.now (g.P.SectorView.space c.args.space.now).content (c.requires.serves.settled tells) (c.requires.serves.stands.stands tells).trees c.args.id c.args.name.now c.args.change (c.requires.change tells) c.count_records.result c.count_records.ensures

pub delete-requires-clause-room : goal.delete-requires-clause-room
delete-requires-clause-room g c = strip_room c.edits_have_room.ensures c.args.volume.now (g.P.SectorView.space c.args.space.now) c.args.change c.count_records.result c.count_records.ensures c.requires.room c.requires.has c.requires.size (λ tells. ap (λ (k : ValueChange). k.blocks) (c.requires.change tells))

pub trade_blocks-requires-clause-unchanged : goal.trade_blocks-requires-clause-unchanged
trade_blocks-requires-clause-unchanged g c later =
    let tells = sym c.delete.ensures.frame.space.same.tells ∙ later in
    unchanged_bared c.args.volume.now (g.P.SectorView.space c.args.space.now) (c.requires.serves.settled tells) (c.requires.serves.stands.stands tells) c.delete.new.self (g.P.SectorView.space c.delete.new.space) c.delete.ensures.rest (c.in_ok-old.ensures.deletes tells)

pub trade_blocks-requires-clause-touched : goal.trade_blocks-requires-clause-touched
trade_blocks-requires-clause-touched g c = none_touched c.args.volume.now c.delete.new.self c.requires.unchanged c.delete.ensures.rest

pub trade_blocks-requires-clause-apart : goal.trade_blocks-requires-clause-apart
trade_blocks-requires-clause-apart g c later =
    let tells = sym c.delete.ensures.frame.space.same.tells ∙ later in
    given_apart (named_by c.args.id c.args.name.now) c.args.volume.now c.delete.new.self (g.P.SectorView.space c.args.space.now) (g.P.SectorView.space c.delete.new.space) c.in_ok-old.old (c.requires.serves.settled tells) (c.requires.serves.stands.stands tells) c.requires.has (freed_are c.args.volume.now (g.P.SectorView.space c.args.space.now).content (c.requires.serves.settled tells) c.args.id c.args.name.now c.in_ok-old.old (c.in_ok-old.ensures.blocks tells))

pub trade_blocks-requires-clause-used : goal.trade_blocks-requires-clause-used
trade_blocks-requires-clause-used g c later =
    let tells = sym c.delete.ensures.frame.space.same.tells ∙ later in
    subst (λ (y : Volume). AreUsed y.map (blocks_of c.in_ok-old.old)) (sym c.delete.ensures.rest) (given_used (named_by c.args.id c.args.name.now) c.args.volume.now c.delete.new.self (g.P.SectorView.space c.args.space.now) (g.P.SectorView.space c.delete.new.space) c.in_ok-old.old (c.requires.serves.settled tells) (c.requires.serves.stands.stands tells) c.requires.has (freed_are c.args.volume.now (g.P.SectorView.space c.args.space.now).content (c.requires.serves.settled tells) c.args.id c.args.name.now c.in_ok-old.old (c.in_ok-old.ensures.blocks tells)))

pub returns-clause-does : goal.returns-clause-does
returns-clause-does g c tells =
    bared_one c.args.volume.now c.trade_blocks.new.self (g.P.SectorView.space c.args.space.now).content (g.P.SectorView.space c.trade_blocks.new.space).content (c.requires.serves.settled tells) (c.requires.serves.stands.stands tells).trees c.args.id c.args.name.now (blocks_of c.in_ok-old.old) (all_given (named_by c.args.id c.args.name.now) c.args.volume.now c.delete.new.self (g.P.SectorView.space c.args.space.now) (g.P.SectorView.space c.delete.new.space) c.in_ok-old.old (c.requires.serves.settled tells) (c.requires.serves.stands.stands tells) c.requires.has (freed_are c.args.volume.now (g.P.SectorView.space c.args.space.now).content (c.requires.serves.settled tells) c.args.id c.args.name.now c.in_ok-old.old (c.in_ok-old.ensures.blocks tells)) c.delete.ensures.rest (c.in_ok-old.ensures.deletes tells) c.trade_blocks.new.self (g.P.SectorView.space c.trade_blocks.new.space) (c.in_ok-trade_blocks.ensures.stands.stands (c.trade_blocks.ensures.within.same.tells ∙ c.delete.ensures.frame.space.same.tells ∙ tells)) (c.in_ok-trade_blocks.ensures.trades (c.delete.ensures.frame.space.same.tells ∙ tells)) (c.in_ok-trade_blocks.ensures.put (c.delete.ensures.frame.space.same.tells ∙ tells)))
    (value_is c.args.volume.now (g.P.SectorView.space c.args.space.now).content (c.requires.serves.settled tells) c.args.id c.args.name.now c.in_ok-old.old (c.in_ok-old.ensures.blocks tells)) (shrunk_of c.args.volume.now) (c.requires.waits tells) c.reclaim_drops_attributes_of_orphans.ensures c.reclaim_drops_an_attribute.ensures

pub returns-clause-spent : goal.returns-clause-spent
returns-clause-spent g c tells = strip_spent c.args.change c.args.volume.now c.delete.new.self c.in_ok-old.old c.delete.ensures.rest (few_blocks c.args.volume.now (g.P.SectorView.space c.args.space.now).content (c.requires.serves.settled tells) c.args.id c.args.name.now c.args.change (c.requires.change tells) c.in_ok-old.old (c.in_ok-old.ensures.blocks tells)) (g.P.SectorView.space c.args.space.now).spare (g.P.SectorView.space c.delete.new.space).spare (g.P.SectorView.space c.trade_blocks.new.space).spare c.count_records.result c.count_records.ensures (bare_taken c.edits_take_their_load.ensures c.count_records.result c.args.volume.now c.delete.new.self (g.P.SectorView.space c.args.space.now) (g.P.SectorView.space c.delete.new.space) tells c.requires.size (c.delete.ensures.takes [])) c.trade_blocks.ensures.spent

pub returns-in_err-old-clause-spent : goal.returns-in_err-old-clause-spent
returns-in_err-old-clause-spent g c tells = strip_spent_bare c.args.change c.args.volume.now (g.P.SectorView.space c.args.space.now).spare (g.P.SectorView.space c.delete.new.space).spare c.count_records.result c.count_records.ensures (bare_taken c.edits_take_their_load.ensures c.count_records.result c.args.volume.now c.delete.new.self (g.P.SectorView.space c.args.space.now) (g.P.SectorView.space c.delete.new.space) tells c.requires.size (c.delete.ensures.takes []))

pub returns-in_err-trade_blocks-clause-spent : goal.returns-in_err-trade_blocks-clause-spent
returns-in_err-trade_blocks-clause-spent g c tells = strip_spent c.args.change c.args.volume.now c.delete.new.self c.in_ok-old.old c.delete.ensures.rest (few_blocks c.args.volume.now (g.P.SectorView.space c.args.space.now).content (c.requires.serves.settled tells) c.args.id c.args.name.now c.args.change (c.requires.change tells) c.in_ok-old.old (c.in_ok-old.ensures.blocks tells)) (g.P.SectorView.space c.args.space.now).spare (g.P.SectorView.space c.delete.new.space).spare (g.P.SectorView.space c.trade_blocks.new.space).spare c.count_records.result c.count_records.ensures (bare_taken c.edits_take_their_load.ensures c.count_records.result c.args.volume.now c.delete.new.self (g.P.SectorView.space c.args.space.now) (g.P.SectorView.space c.delete.new.space) tells c.requires.size (c.delete.ensures.takes [])) c.trade_blocks.ensures.spent

pub returns-clause-frees : goal.returns-clause-frees
returns-clause-frees g c = record {
  ran = ran_both c.args.volume.now g.met.P.SectorView.follows_trans c.in_ok-old.ensures.edits.ran c.in_ok-old.ensures.edits.own
      (ran_stands c.delete.new.self c.trade_blocks.ensures.below c.trade_blocks.ensures.faults c.in_ok-trade_blocks.ensures.stands c.trade_blocks.ensures.within) (λ tells. omega arith);
  used = used_both c.args.volume.now c.delete.new.self c.trade_blocks.new.self (used_blocks c.args.volume.now c.delete.new.self c.in_ok-old.ensures.edits.blocks) c.trade_blocks.ensures.used;
}

pub returns-in_err-old-clause-frees : goal.returns-in_err-old-clause-frees
returns-in_err-old-clause-frees g c = record {
  ran = ran_spent c.args.volume.now (edits_err c.from_residual.ensures.1 c.in_err-old.ensures.edits).ran (λ tells. omega arith);
  used = used_blocks c.args.volume.now c.delete.new.self c.in_err-old.ensures.edits.blocks;
}

pub returns-in_err-trade_blocks-clause-frees : goal.returns-in_err-trade_blocks-clause-frees
returns-in_err-trade_blocks-clause-frees g c = record {
  ran = wanting c.args.volume.now c.from_residual-in_err-trade_blocks.ensures.1 (ran_both c.args.volume.now g.met.P.SectorView.follows_trans c.in_ok-old.ensures.edits.ran c.in_ok-old.ensures.edits.own
      (ran_within c.delete.new.self c.trade_blocks.ensures.below c.trade_blocks.ensures.faults c.trade_blocks.ensures.service c.trade_blocks.ensures.within) (λ tells. omega arith));
  used = used_both c.args.volume.now c.delete.new.self c.trade_blocks.new.self (used_blocks c.args.volume.now c.delete.new.self c.in_ok-old.ensures.edits.blocks) c.trade_blocks.ensures.used;
}
