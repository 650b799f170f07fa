use Rattle.std.proofs.Common.{length, refl, ap, arith, ◌∙◌}
use Rattle.std.specs.Prelude.{reverse}
use Rattle.std.proofs.lemmas.List.{length-reverse}
use Rattle.link_kinds.specs.Walks.{asks_by, asks_left}
use Rattle.link_kinds.proofs.Ways.{told_end, told_look}
use Rattle.link_kinds.proofs.walk.Walk.tell.Goals as goal

pub returns-in_ok-walk-in-Look-clause-leads : goal.returns-in_ok-walk-in-Look-clause-leads
returns-in_ok-walk-in-Look-clause-leads c = λ look sees. c.in_ok-walk-in-Look.ensures.leads look ∙ told_look look _ _ _ c.in-Look.name c.self.view_is c.in-Look.is sees

pub returns-in_ok-walk-in-Look-clause-fewer : goal.returns-in_ok-walk-in-Look-clause-fewer
returns-in_ok-walk-in-Look-clause-fewer c = λ name is.
    let all = ap (asks_by c.self.inside.more (length (reverse c.self.inside.left.items))) c.in-Look.is in
    omega (arith, c.in_ok-walk-in-Look.ensures.fewer, all, ap asks_left c.self.view_is, length-reverse c.self.inside.left.items)

pub returns-in-Done-clause-leads : goal.returns-in-Done-clause-leads
returns-in-Done-clause-leads c = λ look sees. told_end look _ _ _ _ _ _ c.self.view_is refl refl refl c.in-Done.is

pub returns-in-No-clause-leads : goal.returns-in-No-clause-leads
returns-in-No-clause-leads c = λ look sees. told_end look _ _ _ _ _ _ c.self.view_is refl refl refl c.in-No.is
