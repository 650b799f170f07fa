use Rattle.cat_records.specs.declared.attribute.AttrRecord.TheVariants.{Fork}
use Rattle.attributes.proofs.Records.{fork_long, fork_spelled, part_spelled}
use Rattle.attributes.proofs.forks.first_pair.Goals as goal

pub returns : goal.returns
returns c =
    let fork = c.args.fork in
    part_spelled c.args.id c.args.name.now (record { start = 0; value = Fork fork }) c.in_ok-pair.pair c.in_ok-pair.ensures.key (fork_spelled fork c.fork_fits.ensures) (fork_long fork c.fork_fits.ensures) c.in_ok-pair.ensures.value
