use Rattle.attributes.specs.Forks.{further_part}
use Rattle.attributes.proofs.Records.{more_long, more_spelled, part_spelled}
use Rattle.attributes.proofs.forks.further_pair.Goals as goal

pub returns : goal.returns
returns c =
    let more = c.args.more in
    part_spelled c.args.id c.args.name.now (further_part more) c.in_ok-pair.pair c.in_ok-pair.ensures.key (more_spelled more.extents c.extents_fit.ensures) (more_long more.extents c.extents_fit.ensures) c.in_ok-pair.ensures.value
