use Rattle.hfs_volume.specs.Attributes.{journal_extent, info_extent}
use Rattle.fsck_core.specs.Overflows.{overflows_in}
use Rattle.fsck_core.proofs.LinkLaws.{keys_long}
use Rattle.fsck_core.proofs.AttributeLaws.{attributes_are_of, each_adds, journal_adds, block_adds, attributes_decided, attributes_tell}
use Rattle.fsck_core.proofs.attributes.judge_attributes.Goals as goal

pub returns-in_err-each-clause-each : goal.returns-in_err-each-clause-each
returns-in_err-each-clause-each c volume ready has =
    let are = attributes_are_of volume c.args.pairs.now c.args.rows.now ready c.args.head.now c.args.info.now (overflows_in c.args.overflow.now) c.args.attributes.now has in
    each_adds volume c.args.pairs.now c.args.rows.now ready c.args.head.now c.args.info.now (overflows_in c.args.overflow.now) c.args.attributes.now has c.args.out.now c.judge_owned.new.out (c.judge_owned.ensures.each volume are ready.rows_are)

pub returns-in_err-one-clause-each : goal.returns-in_err-one-clause-each
returns-in_err-one-clause-each c volume ready has =
    let are = attributes_are_of volume c.args.pairs.now c.args.rows.now ready c.args.head.now c.args.info.now (overflows_in c.args.overflow.now) c.args.attributes.now has in
    journal_adds volume c.args.pairs.now c.args.rows.now ready c.args.head.now c.args.info.now (overflows_in c.args.overflow.now) c.args.attributes.now has c.as_slice.result.now c.args.out.now c.judge_owned.new.out c.judge_journal_file.new.out c.as_slice.ensures
    (each_adds volume c.args.pairs.now c.args.rows.now ready c.args.head.now c.args.info.now (overflows_in c.args.overflow.now) c.args.attributes.now has c.args.out.now c.judge_owned.new.out (c.judge_owned.ensures.each volume are ready.rows_are))
    (c.judge_journal_file.ensures.each (journal_extent c.args.head.now (record { offset = c.args.info.now.offset; size = c.args.info.now.size })) (keys_long volume c.args.pairs.now c.args.rows.now ready) (c.journal_blocks-journal.ensures has.some))

pub returns-in_err-other-clause-each : goal.returns-in_err-other-clause-each
returns-in_err-other-clause-each c volume ready has =
    let are = attributes_are_of volume c.args.pairs.now c.args.rows.now ready c.args.head.now c.args.info.now (overflows_in c.args.overflow.now) c.args.attributes.now has in
    block_adds volume c.args.pairs.now c.args.rows.now ready c.args.head.now c.args.info.now (overflows_in c.args.overflow.now) c.args.attributes.now has c.as_slice-2.result.now c.args.out.now c.judge_journal_file.new.out c.judge_journal_file-2.new.out c.as_slice-2.ensures
    (journal_adds volume c.args.pairs.now c.args.rows.now ready c.args.head.now c.args.info.now (overflows_in c.args.overflow.now) c.args.attributes.now has c.as_slice.result.now c.args.out.now c.judge_owned.new.out c.judge_journal_file.new.out c.as_slice.ensures
    (each_adds volume c.args.pairs.now c.args.rows.now ready c.args.head.now c.args.info.now (overflows_in c.args.overflow.now) c.args.attributes.now has c.args.out.now c.judge_owned.new.out (c.judge_owned.ensures.each volume are ready.rows_are))
    (c.judge_journal_file.ensures.each (journal_extent c.args.head.now (record { offset = c.args.info.now.offset; size = c.args.info.now.size })) (keys_long volume c.args.pairs.now c.args.rows.now ready) (c.journal_blocks-journal.ensures has.some)))
    (c.judge_journal_file-2.ensures.each (info_extent c.args.head.now) (keys_long volume c.args.pairs.now c.args.rows.now ready) c.info_blocks-info_block.ensures)

pub returns-clause-decided : goal.returns-clause-decided
returns-clause-decided c volume ready has =
    let are = attributes_are_of volume c.args.pairs.now c.args.rows.now ready c.args.head.now c.args.info.now (overflows_in c.args.overflow.now) c.args.attributes.now has in
    attributes_decided volume c.args.pairs.now c.args.rows.now ready c.args.head.now c.args.info.now (overflows_in c.args.overflow.now) c.args.attributes.now has c.as_slice.result.now c.as_slice-2.result.now c.args.out.now c.judge_owned.new.out c.judge_journal_file.new.out c.judge_journal_file-2.new.out
    c.in_ok-each.each c.in_ok-one.one c.in_ok-other.other c.both.result c.both-2.result c.as_slice.ensures c.as_slice-2.ensures c.both.ensures c.both-2.ensures
    (c.in_ok-each.ensures.judged volume are ready.rows_are)
    (c.in_ok-one.ensures.decided (journal_extent c.args.head.now (record { offset = c.args.info.now.offset; size = c.args.info.now.size })) (keys_long volume c.args.pairs.now c.args.rows.now ready) (c.journal_blocks-journal.ensures has.some))
    (c.in_ok-other.ensures.decided (info_extent c.args.head.now) (keys_long volume c.args.pairs.now c.args.rows.now ready) c.info_blocks-info_block.ensures)

pub returns-clause-each : goal.returns-clause-each
returns-clause-each c volume ready has = (returns-clause-decided c volume ready has).each

pub returns-clause-rules : goal.returns-clause-rules
returns-clause-rules c volume ready has =
    let are = attributes_are_of volume c.args.pairs.now c.args.rows.now ready c.args.head.now c.args.info.now (overflows_in c.args.overflow.now) c.args.attributes.now has in
    attributes_tell volume c.args.pairs.now c.args.rows.now ready c.args.head.now c.args.info.now (overflows_in c.args.overflow.now) c.args.attributes.now has c.as_slice.result.now c.as_slice-2.result.now c.judge_owned.new.out c.judge_journal_file.new.out c.judge_journal_file-2.new.out
    c.in_ok-one.one c.in_ok-other.other c.as_slice.ensures c.as_slice-2.ensures (c.in_ok-each.ensures.named volume are ready.rows_are)
    (c.in_ok-one.ensures.decided (journal_extent c.args.head.now (record { offset = c.args.info.now.offset; size = c.args.info.now.size })) (keys_long volume c.args.pairs.now c.args.rows.now ready) (c.journal_blocks-journal.ensures has.some))
    (c.in_ok-other.ensures.decided (info_extent c.args.head.now) (keys_long volume c.args.pairs.now c.args.rows.now ready) c.info_blocks-info_block.ensures)
