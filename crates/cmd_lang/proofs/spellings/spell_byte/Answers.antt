use Rattle.cmd_lang.proofs.Rooms.{entry_stored}
use Rattle.cmd_lang.proofs.spellings.spell_byte.Goals as goal

pub returns-clause-text : goal.returns-clause-text
returns-clause-text c =
    entry_stored c.args.room.now c.store.new.room c.args.table.now c.args.at c.args.byte c.from.result c.from-2.result c.requires.table c.ranges.byte.fits c.requires.room c.from.ensures c.from-2.ensures c.store.ensures.text
