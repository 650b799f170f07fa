use Rattle.volume_space.proofs.cutting.may_give.Goals as goal

pub returns : goal.returns
returns c is few = record { used = c.have.ensures.0 is; counted = c.fit_count.ensures c.if-not-fit_count.false; most = few }
