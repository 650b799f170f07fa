use Rattle.std.proofs.Common.{◌<◌, List, length, get_or, arith}
use Rattle.std.proofs.lemmas.List.{get_or_default}
use Rattle.jnl_replay.specs.declared.runs.Run.{Run}
use Rattle.jnl_replay.proofs.MergeLaws.{IsAhead, ahead, nothing_ahead, both_none, newer_alone, older_alone, newer_first, older_first}
use Rattle.jnl_replay.proofs.merging.next_run.Goals as goal

abbrev none_yet : Run
none_yet = record { first = 0; many = 0; place = 0 }

pub returns-then-j-newer : goal.returns-then-j-newer
returns-then-j-newer c q from = both_none c.args.older.now c.args.newer.now q
    (nothing_ahead c.args.newer.now c.args.j c.args.at (omega (arith, c.if-j-newer.true)) c.requires.ended_newer q from)
    (nothing_ahead c.args.older.now c.args.i c.args.at (omega (arith, c.if-i-older.true)) c.requires.ended_older q from)

pub returns-then-i-older : goal.returns-then-i-older
returns-then-i-older c =
    let newer : List Run = c.args.newer.now in
    let inside : c.args.j < length newer = omega (arith, c.if-j-newer.false) in
    newer_alone c.args.older.now newer c.args.at c.from_sector.result (nothing_ahead c.args.older.now c.args.i c.args.at (omega (arith, c.if-i-older.true)) c.requires.ended_older)
    (ahead newer c.args.j c.args.at (get_or newer c.args.j none_yet) c.from_sector.result c.requires.newer c.requires.ended_newer inside (get_or_default newer c.args.j none_yet (get_or newer c.args.j none_yet) inside)
    (c.requires.next_newer inside) c.from_sector.ensures.run c.from_sector.ensures.first c.from_sector.ensures.end c.from_sector.ensures.same)

pub returns-then-j-newer-2 : goal.returns-then-j-newer-2
returns-then-j-newer-2 c =
    let older : List Run = c.args.older.now in
    let inside : c.args.i < length older = omega (arith, c.if-i-older.false) in
    older_alone older c.args.newer.now c.args.at c.from_sector-old.result (nothing_ahead c.args.newer.now c.args.j c.args.at (omega (arith, c.if-j-newer-2.true)) c.requires.ended_newer)
    (ahead older c.args.i c.args.at (get_or older c.args.i none_yet) c.from_sector-old.result c.requires.older c.requires.ended_older inside (get_or_default older c.args.i none_yet (get_or older c.args.i none_yet) inside)
    (c.requires.next_older inside) c.from_sector-old.ensures.run c.from_sector-old.ensures.first c.from_sector-old.ensures.end c.from_sector-old.ensures.same)

pub returns-then-new-old : goal.returns-then-new-old
returns-then-new-old c =
    let older : List Run = c.args.older.now in
    let newer : List Run = c.args.newer.now in
    let in_older : c.args.i < length older = omega (arith, c.if-i-older.false) in
    let in_newer : c.args.j < length newer = omega (arith, c.if-j-newer-2.false) in
    let old : IsAhead older c.args.at c.from_sector-old.result =
    ahead older c.args.i c.args.at (get_or older c.args.i none_yet) c.from_sector-old.result c.requires.older c.requires.ended_older in_older (get_or_default older c.args.i none_yet (get_or older c.args.i none_yet) in_older)
    (c.requires.next_older in_older) c.from_sector-old.ensures.run c.from_sector-old.ensures.first c.from_sector-old.ensures.end c.from_sector-old.ensures.same in
    let new : IsAhead newer c.args.at c.from_sector-new.result =
    ahead newer c.args.j c.args.at (get_or newer c.args.j none_yet) c.from_sector-new.result c.requires.newer c.requires.ended_newer in_newer (get_or_default newer c.args.j none_yet (get_or newer c.args.j none_yet) in_newer)
    (c.requires.next_newer in_newer) c.from_sector-new.ensures.run c.from_sector-new.ensures.first c.from_sector-new.ensures.end c.from_sector-new.ensures.same in
    newer_first older newer c.args.at c.from_sector-old.result c.from_sector-new.result old new (omega (arith, c.if-new-old.true))

pub returns : goal.returns
returns c =
    let older : List Run = c.args.older.now in
    let newer : List Run = c.args.newer.now in
    let in_older : c.args.i < length older = omega (arith, c.if-i-older.false) in
    let in_newer : c.args.j < length newer = omega (arith, c.if-j-newer-2.false) in
    let old : IsAhead older c.args.at c.from_sector-old.result =
    ahead older c.args.i c.args.at (get_or older c.args.i none_yet) c.from_sector-old.result c.requires.older c.requires.ended_older in_older (get_or_default older c.args.i none_yet (get_or older c.args.i none_yet) in_older)
    (c.requires.next_older in_older) c.from_sector-old.ensures.run c.from_sector-old.ensures.first c.from_sector-old.ensures.end c.from_sector-old.ensures.same in
    let new : IsAhead newer c.args.at c.from_sector-new.result =
    ahead newer c.args.j c.args.at (get_or newer c.args.j none_yet) c.from_sector-new.result c.requires.newer c.requires.ended_newer in_newer (get_or_default newer c.args.j none_yet (get_or newer c.args.j none_yet) in_newer)
    (c.requires.next_newer in_newer) c.from_sector-new.ensures.run c.from_sector-new.ensures.first c.from_sector-new.ensures.end c.from_sector-new.ensures.same in
    older_first older newer c.args.at c.from_sector-old.result c.from_sector-new.result c.before_sector.result old new (omega (arith, c.if-new-old.false))
    c.before_sector.ensures.run c.before_sector.ensures.first c.before_sector.ensures.end c.before_sector.ensures.same
