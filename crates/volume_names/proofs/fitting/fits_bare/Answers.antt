use Rattle.std.proofs.Common.{refl, sym, ◌∙◌}
use Rattle.std.proofs.lemmas.Bool.{eq-eqb, true≢false}
use Rattle.volume_base.proofs.ValueFitted.{owner_room}
use Rattle.volume_names.proofs.fitting.fits_bare.Goals as goal

pub can_change_values-requires-clause-tree : goal.can_change_values-requires-clause-tree
can_change_values-requires-clause-tree g c tells = sym c.has_tree.ensures ∙ c.if-not-has_tree.false

pub returns-clause-room : goal.returns-clause-room
returns-clause-room g c fits = record {
  told = λ tells has.
      (owner_room c.a_load_says_enough.ensures c.args.volume.now (g.P.SectorView.space c.args.space.now) (c.requires.serves.settled tells) 2 c.args.owned.count c.args.owned.change has (sym (c.can_change_values.ensures tells) ∙ fits) refl c.requires.gone).told tells has;
}

pub returns-then-not-has_tree-clause-room : goal.returns-then-not-has_tree-clause-room
returns-then-not-has_tree-clause-room g c fits = record { told = λ tells has. absurd (true≢false (sym has ∙ (sym c.has_tree.ensures ∙ c.if-not-has_tree.true))) }

pub returns-clause-met : goal.returns-clause-met
returns-clause-met g c tells none met = c.can_change_values.ensures tells ∙ met

pub returns-then-not-has_tree-clause-met : goal.returns-then-not-has_tree-clause-met
returns-then-not-has_tree-clause-met g c tells none met = eq-eqb c.args.owned.count 0 (none (sym c.has_tree.ensures ∙ c.if-not-has_tree.true))
