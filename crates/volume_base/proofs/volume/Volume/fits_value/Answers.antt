use Rattle.std.proofs.Common.{◌≤◌, sym, ◌∙◌, arith}
use Rattle.std.specs.Prelude.{IsTrue}
use Rattle.std.proofs.lemmas.Bool.{true≢false}
use Rattle.volume_base.proofs.ValueFitted.{value_alone, value_node, value_room}
use Rattle.volume_base.proofs.volume.Volume.fits_value.Goals as goal

pub can_change_values-requires-clause-tree : goal.can_change_values-requires-clause-tree
can_change_values-requires-clause-tree g c tells = sym c.has_tree.ensures ∙ c.if-not-has_tree.false

pub returns-clause-room : goal.returns-clause-room
returns-clause-room g c fits =
    let has = sym c.has_tree.ensures ∙ c.if-not-has_tree.false in
    let ok = λ (tells : IsTrue (g.P.SectorView.space c.args.space.now).tells). sym (c.can_change_values.ensures tells) ∙ fits in
    record {
      update = record { told = λ tells. value_node c.a_load_says_enough.ensures c.args.self.now (g.P.SectorView.space c.args.space.now) (c.requires.serves.settled tells) 0 c.args.edits c.args.change has (ok tells) };
      told = λ tells has_it. (value_room c.a_load_says_enough.ensures c.args.self.now (g.P.SectorView.space c.args.space.now) (c.requires.serves.settled tells) 0 c.args.edits c.args.change has (ok tells)).told tells has_it;
    }

pub returns-then-not-has_tree-clause-room : goal.returns-then-not-has_tree-clause-room
returns-then-not-has_tree-clause-room g c fits = value_alone c.args.edits c.args.change c.args.self.now (g.P.SectorView.space c.args.space.now) (sym c.has_tree.ensures ∙ c.if-not-has_tree.true) (c.fits_update.ensures.room fits)

pub returns-clause-met : goal.returns-clause-met
returns-clause-met g c tells has met = c.can_change_values.ensures tells ∙ met

pub returns-then-not-has_tree-clause-met : goal.returns-then-not-has_tree-clause-met
returns-then-not-has_tree-clause-met g c tells has met = absurd (true≢false (sym has ∙ (sym c.has_tree.ensures ∙ c.if-not-has_tree.true)))
