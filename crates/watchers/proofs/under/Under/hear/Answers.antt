use Rattle.std.proofs.Common.{refl, sym, ◌∙◌}
use Rattle.watchers.proofs.Hearings.{hear_crowded, hear_elsewhere, hear_leaves, hear_left, hear_stays}
use Rattle.watchers.proofs.under.Under.hear.Goals as goal

pub returns-then-self-clause-heard : goal.returns-then-self-clause-heard
returns-then-self-clause-heard g c = hear_left _ _ _ _ _ c.self.view_is c.if-self.true

pub returns-then-is_crowded-clause-heard : goal.returns-then-is_crowded-clause-heard
returns-then-is_crowded-clause-heard g c = hear_crowded _ _ _ _ _ c.self.view_is _ refl c.if-self.false (sym c.is_crowded.ensures ∙ c.if-is_crowded.true)

pub returns-then-not-is_within-clause-heard : goal.returns-then-not-is_within-clause-heard
returns-then-not-is_within-clause-heard g c =
    hear_elsewhere _ _ _ _ _ c.self.view_is c.if-self.false (sym c.is_crowded.ensures ∙ c.if-is_crowded.false) _ _ c.self-2.view_is c.in_ok-keep.ensures.done _ c.as_slice.ensures.value _ c.is_within.ensures
    c.if-not-is_within.true

pub returns-clause-heard : goal.returns-clause-heard
returns-clause-heard g c =
    hear_stays _ _ _ _ _ c.self.view_is c.if-self.false (sym c.is_crowded.ensures ∙ c.if-is_crowded.false) _ _ c.self-2.view_is c.in_ok-keep.ensures.done _ c.as_slice.ensures.value _ c.is_within.ensures
    c.if-not-is_within.false _ _ refl (c.has_left.ensures.stays c.if-has_left.false) (sym c.has_left.ensures.leaves ∙ c.if-has_left.false)

pub returns-then-has_left-clause-heard : goal.returns-then-has_left-clause-heard
returns-then-has_left-clause-heard g c =
    hear_leaves _ _ _ _ _ c.self.view_is c.if-self.false (sym c.is_crowded.ensures ∙ c.if-is_crowded.false) _ _ c.self-2.view_is c.in_ok-keep.ensures.done _ c.as_slice.ensures.value _ c.is_within.ensures
    c.if-not-is_within.false _ _ refl c.has_left.ensures.unsure (sym c.has_left.ensures.leaves ∙ c.if-has_left.true)
