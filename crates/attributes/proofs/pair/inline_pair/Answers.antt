use Rattle.std.proofs.Common.{◌∙◌, ap}
use Rattle.cat_records.specs.Attributes.{attr_bytes}
use Rattle.attributes.specs.Forks.{inline_part}
use Rattle.attributes.proofs.Records.{inline_long, inline_spelled, part_spelled}
use Rattle.attributes.proofs.pair.inline_pair.Goals as goal

pub returns : goal.returns
returns c =
    let value = c.args.value.now in
    part_spelled c.args.id c.args.name.now (inline_part value) c.in_ok-pair.pair c.in_ok-pair.ensures.key (inline_spelled value c.requires.value) (inline_long value c.requires.value) (c.in_ok-pair.ensures.value ∙ ap attr_bytes c.in_ok-rec.ensures)
