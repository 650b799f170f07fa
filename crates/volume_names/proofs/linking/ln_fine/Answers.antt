use Rattle.std.proofs.Common.{sym, ◌∙◌}
use Rattle.volume_base.proofs.Joined.{edits_wanting}
use Rattle.volume_names.proofs.linking.ln_fine.Goals as goal

pub ln_under-requires-clause-split : goal.ln_under-requires-clause-split
ln_under-requires-clause-split g c = sym c.as_slice.ensures ∙ c.in-Some.ensures.cases.0

pub ln_under-requires-clause-goal_split : goal.ln_under-requires-clause-goal_split
ln_under-requires-clause-goal_split g c = sym c.as_slice-in-Some.ensures ∙ c.in-Some-split_last.ensures.cases.0

pub returns-in-None-clause-edits : goal.returns-in-None-clause-edits
returns-in-None-clause-edits g c = edits_wanting _ g.met.P.SectorView.follows_refl c.requires.serves.stands

pub returns-in-None-split_last-clause-edits : goal.returns-in-None-split_last-clause-edits
returns-in-None-split_last-clause-edits g c = edits_wanting _ g.met.P.SectorView.follows_refl c.requires.serves.stands
