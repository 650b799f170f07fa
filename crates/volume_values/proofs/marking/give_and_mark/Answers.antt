use Rattle.std.proofs.Common.{◌≡◌, ℕ, List, sym, ◌∙◌, ap, subst, arith}
use Rattle.std.specs.Prelude.{⊤, Some}
use Rattle.btree_node.specs.Levels.{Pair}
use Rattle.catalog.specs.Pairs.{value_at}
use Rattle.hfs_volume.specs.Entries.{AreSpelled}
use Rattle.volume_base.specs.Attributing.{MarksEntry}
use Rattle.volume_base.specs.Changing.{catalog_node}
use Rattle.volume_base.specs.Giving.{takes_some}
use Rattle.volume_base.specs.declared.volume.Volume.{Volume}
use Rattle.volume_base.proofs.Freed.{wanting}
use Rattle.volume_base.proofs.KeptUsed.{used_blocks, used_both}
use Rattle.volume_base.proofs.Remapped.{ok_of}
use Rattle.volume_base.proofs.Running.{ran_short, ran_then, ran_traded}
use Rattle.volume_values.proofs.GivenTraded.{moment_traded, pairs_traded}
use Rattle.volume_values.proofs.marking.give_and_mark.Goals as goal

pub put_mark-requires-clause-ready : goal.put_mark-requires-clause-ready
put_mark-requires-clause-ready g c = record {
  stands = c.in_ok-trade_blocks.ensures.stands;
  spelled = λ told.
      let tells = sym c.in_ok-trade_blocks.ensures.within.same.tells ∙ told in
      subst (λ (l : List Pair). AreSpelled l)
      (sym (pairs_traded (takes_some c.args.touched) c.args.old.now c.args.volume.now c.trade_blocks.new.self (g.P.SectorView.space c.args.space.now).content (g.P.SectorView.space c.trade_blocks.new.space).content (c.in_ok-trade_blocks.ensures.trades tells) (c.in_ok-trade_blocks.ensures.put tells)))
      (c.requires.spelled tells);
  name = c.requires.name;
  there = λ told.
      let tells = sym c.in_ok-trade_blocks.ensures.within.same.tells ∙ told in
      subst (λ (l : List Pair). value_at l c.args.entry.now.parent c.args.entry.now.name ≡ Some c.args.entry.now.rec)
      (sym (pairs_traded (takes_some c.args.touched) c.args.old.now c.args.volume.now c.trade_blocks.new.self (g.P.SectorView.space c.args.space.now).content (g.P.SectorView.space c.trade_blocks.new.space).content (c.in_ok-trade_blocks.ensures.trades tells) (c.in_ok-trade_blocks.ensures.put tells)))
      (c.requires.there tells);
  room = record { told = λ told. omega (arith, c.requires.room (sym c.in_ok-trade_blocks.ensures.within.same.tells ∙ told), c.in_ok-trade_blocks.ensures.spent, ap (λ (x : Volume). catalog_node x) c.in_ok-trade_blocks.ensures.rest) };
}

pub returns-clause-gives : goal.returns-clause-gives
returns-clause-gives g c tells kind =
    let is = c.in_ok-trade_blocks.ensures.trades tells in
    ok_of c.put_mark.result (c.put_mark.ensures.marks (c.in_ok-trade_blocks.ensures.within.same.tells ∙ tells) kind) (λ marks. record {
      between = c.trade_blocks.new.self;
      middle = (g.P.SectorView.space c.trade_blocks.new.space).content;
      gives = is;
      puts = c.in_ok-trade_blocks.ensures.put tells;
      marks = subst (λ (n : ℕ). MarksEntry c.args.has n c.args.entry.now c.trade_blocks.new.self c.put_mark.new.volume (g.P.SectorView.space c.trade_blocks.new.space).content (g.P.SectorView.space c.put_mark.new.space).content)
          (ap (λ (x : Volume). x.header.modify_date) is ∙ moment_traded (takes_some c.args.touched) c.args.old.now c.args.volume.now) marks;
    })

pub returns-clause-ran : goal.returns-clause-ran
returns-clause-ran g c =
    ran_then c.args.volume.now c.trade_blocks.new.self g.met.P.SectorView.follows_trans c.in_ok-trade_blocks.ensures.own
    (ran_traded c.args.volume.now c.in_ok-trade_blocks.ensures.below c.in_ok-trade_blocks.ensures.faults c.in_ok-trade_blocks.ensures.service c.in_ok-trade_blocks.ensures.stands c.in_ok-trade_blocks.ensures.within c.in_ok-trade_blocks.ensures.spent)
    c.put_mark.ensures.edits.ran
    (λ tells. omega (arith, ap (λ (x : Volume). catalog_node x) c.in_ok-trade_blocks.ensures.rest))

pub returns-in_err-trade_blocks-clause-ran : goal.returns-in_err-trade_blocks-clause-ran
returns-in_err-trade_blocks-clause-ran g c =
    wanting {T = ⊤} c.args.volume.now c.from_residual.ensures.1
    (ran_short c.args.volume.now c.in_err-trade_blocks.ensures.below c.in_err-trade_blocks.ensures.faults c.in_err-trade_blocks.ensures.service c.in_err-trade_blocks.ensures.within (omega (arith, c.in_err-trade_blocks.ensures.spent)))

pub returns-clause-used : goal.returns-clause-used
returns-clause-used g c = used_both c.args.volume.now c.trade_blocks.new.self c.put_mark.new.volume c.in_ok-trade_blocks.ensures.used (used_blocks c.trade_blocks.new.self c.put_mark.new.volume c.put_mark.ensures.edits.blocks)
