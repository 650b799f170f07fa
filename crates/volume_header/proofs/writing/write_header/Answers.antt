use Rattle.std.proofs.Common.{◌∙◌, arith}
use Rattle.hx_bytes.proofs.Putting.{put_at-whole}
use Rattle.hx_bytes.proofs.Writing.{written_none, written_more}
use Rattle.volume_header.specs.Header.{identity_bytes, history_bytes, blocks_bytes, counters_bytes, forks_bytes, header_bytes}
use Rattle.volume_header.proofs.writing.write_header.Goals as goal

pub returns : goal.returns
unfolding header_bytes
returns c =
    let head = c.args.head.now in
    let none = written_none c.args.into.now 0 (omega arith) in
    let identity = written_more _ (identity_bytes head) 16 none c.write_identity.ensures.whole c.write_identity.ensures.written in
    let history = written_more _ (history_bytes head) 24 identity c.write_history.ensures.whole c.write_history.ensures.written in
    let blocks = written_more _ (blocks_bytes head) 24 history c.write_blocks.ensures.whole c.write_blocks.ensures.written in
    let counters = written_more _ (counters_bytes head) 48 blocks c.write_counters.ensures.whole c.write_counters.ensures.written in
    let forks = written_more _ (forks_bytes head) 400 counters c.write_forks.ensures.whole c.write_forks.ensures.written in
    forks.is ∙ put_at-whole c.args.into.now _ (omega (arith, forks.front_length))
