use Rattle.std.proofs.Common.{◌≡◌, sym}
use Rattle.cmd_lang.proofs.Plain.{plain_spelled}
use Rattle.cmd_lang.proofs.spelled.plain_bytes.Goals as goal

pub returns : goal.returns
returns c =
    let same : c.in_ok-from_slice.field-0.items ≡ c.args.text.now = c.in_ok-from_slice.ensures.items in
    rw same (sym (plain_spelled c.args.text.now c.requires), c.look_at_bytes.ensures)
