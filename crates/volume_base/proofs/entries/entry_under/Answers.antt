use Rattle.std.proofs.Common.{◌≡◌, ◌≤◌, List, length, sym, ◌∙◌, ap, arith}
use Rattle.std.specs.Prelude.{Option, None, if◌then◌else◌}
use Rattle.std.specs.Option.{option_map}
use Rattle.btree_file.specs.Standing.{pairs_in}
use Rattle.btree_file.specs.State.{sectors_of_tree}
use Rattle.catalog.specs.Pairs.{value_at}
use Rattle.volume_base.specs.Entering.{entry_with}
use Rattle.volume_base.proofs.Entered.{not_long}
use Rattle.volume_base.proofs.Over.{over_read}
use Rattle.volume_base.proofs.entries.entry_under.Goals as goal

pub returns-in_err-found-clause-over : goal.returns-in_err-found-clause-over
returns-in_err-found-clause-over g c =
    over_read c.args.tree.now c.lookup_record.new.tree c.args.desk.now c.lookup_record.new.desk (g.P.SectorView.space c.args.space.now) (g.P.SectorView.space c.lookup_record.new.space) c.requires.over
    (record { keeps = c.lookup_record.ensures.keeps; looks = c.lookup_record.ensures.looks }) c.lookup_record.ensures.desk

pub returns-clause-over : goal.returns-clause-over
returns-clause-over g c =
    over_read c.args.tree.now c.lookup_record.new.tree c.args.desk.now c.lookup_record.new.desk (g.P.SectorView.space c.args.space.now) (g.P.SectorView.space c.lookup_record.new.space) c.requires.over
    (record { keeps = c.lookup_record.ensures.keeps; looks = c.lookup_record.ensures.looks }) c.lookup_record.ensures.desk

pub returns-clause-found : goal.returns-clause-found
returns-clause-found g c tells =
    let low : length c.args.thread.name ≤ 255 = omega (arith, c.if-len-gt255.false, c.len.ensures) in
    c.entry_with.ensures ∙ ap (option_map (entry_with c.args.thread)) (c.in_ok-found.ensures.found tells)
    ∙ sym (ap (λ b. if b then None else option_map (entry_with c.args.thread) (value_at (pairs_in (sectors_of_tree c.args.tree.now) (g.P.SectorView.space c.args.space.now).content) c.args.thread.parent c.args.thread.name)) (not_long (length c.args.thread.name) low))
