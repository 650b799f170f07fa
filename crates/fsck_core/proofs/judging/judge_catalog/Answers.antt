use Rattle.std.proofs.Common.{List, ◌∙◌, arith}
use Rattle.btree_node.specs.Levels.{Pair}
use Rattle.hfs_volume.specs.Records.{placed_in, entries_of}
use Rattle.fsck_core.specs.Lists.{IsBrokenCatalog}
use Rattle.fsck_core.specs.Wants.{as_found}
use Rattle.fsck_core.proofs.ListJoins.{long_keys, all_new, nothing}
use Rattle.fsck_core.proofs.JudgingLaws.{is_catalog, kinds_passed, threads_passed, parents_passed, rows_rise, catalog_passed, catalog_holds}
use Rattle.fsck_core.proofs.judging.judge_catalog.Goals as goal
use Rattle.fsck_core.proofs.TellingLaws.{kinds_stopped, catalog_tells}

pub judge_threads-requires : goal.judge_threads-requires
judge_threads-requires c = (c.in_ok-kinds.ensures.met.0 c.if-not-kinds.false).0

pub read_rows-requires : goal.read_rows-requires
read_rows-requires c = (c.in_ok-kinds.ensures.met.0 c.if-not-kinds.false).0

pub returns-then-not-kinds-clause-found : goal.returns-then-not-kinds-clause-found
returns-then-not-kinds-clause-found c keys sorted = c.in_ok-kinds.ensures.found c.if-not-kinds.true

pub returns-then-not-kinds-clause-each : goal.returns-then-not-kinds-clause-each
returns-then-not-kinds-clause-each c keys sorted =
    all_new (λ f. IsBrokenCatalog c.args.catalog.now (as_found f)) c.args.out.now c.judge_kinds.new.out c.requires.none
    (kinds_passed c.args.catalog.now keys sorted c.args.out.now c.judge_kinds.new.out c.in_ok-kinds.kinds c.requires.none c.in_ok-kinds.ensures.met c.in_ok-kinds.ensures.found (c.judge_kinds.ensures.each (long_keys c.args.catalog.now keys))).each

pub returns-then-len-gt0-clause-found : goal.returns-then-len-gt0-clause-found
returns-then-len-gt0-clause-found c keys sorted = omega (arith, c.len.ensures.count, c.if-len-gt0.true)

pub returns-then-len-gt0-clause-each : goal.returns-then-len-gt0-clause-each
returns-then-len-gt0-clause-each c keys sorted =
    let pairs : List Pair = c.args.catalog.now in
    let catalog = is_catalog pairs keys sorted c.in_ok-kinds.kinds c.if-not-kinds.false c.in_ok-kinds.ensures.met in
    let are = c.in_ok-rows.ensures (long_keys pairs keys) in
    let also = c.deref.ensures.value ∙ are in
    let rise = rows_rise pairs keys sorted c.deref.result.now also in
    all_new (λ f. IsBrokenCatalog pairs (as_found f)) c.args.out.now c.judge_parents.new.out c.requires.none
    (catalog_passed pairs keys sorted c.args.out.now c.judge_kinds.new.out c.judge_threads.new.out c.judge_parents.new.out
    (kinds_passed pairs keys sorted c.args.out.now c.judge_kinds.new.out c.in_ok-kinds.kinds c.requires.none c.in_ok-kinds.ensures.met c.in_ok-kinds.ensures.found (c.judge_kinds.ensures.each (long_keys pairs keys)))
    (threads_passed pairs keys sorted c.judge_kinds.new.out c.judge_threads.new.out _ (c.in_ok-judge_threads.ensures.decided catalog))
    (parents_passed pairs keys sorted c.judge_threads.new.out c.judge_parents.new.out _ (c.in_ok-judge_parents.ensures.met (entries_of (placed_in pairs)) also rise) (c.in_ok-judge_parents.ensures.found (entries_of (placed_in pairs)) also rise) c.judge_parents.ensures.still (c.judge_parents.ensures.each (entries_of (placed_in pairs)) also rise))).each

pub returns-clause-empty : goal.returns-clause-empty
returns-clause-empty c = nothing c.judge_parents.new.out (omega (arith, c.len.ensures.count, c.if-len-gt0.false))

pub returns-clause-found : goal.returns-clause-found
returns-clause-found c keys sorted =
    let pairs : List Pair = c.args.catalog.now in
    let catalog = is_catalog pairs keys sorted c.in_ok-kinds.kinds c.if-not-kinds.false c.in_ok-kinds.ensures.met in
    let are = c.in_ok-rows.ensures (long_keys pairs keys) in
    let also = c.deref.ensures.value ∙ are in
    let rise = rows_rise pairs keys sorted c.deref.result.now also in
    catalog_holds pairs keys sorted c.in_ok-rows.rows.items c.args.out.now c.judge_parents.new.out catalog are (omega (arith, c.len.ensures.count, c.if-len-gt0.false))
    (catalog_passed pairs keys sorted c.args.out.now c.judge_kinds.new.out c.judge_threads.new.out c.judge_parents.new.out
    (kinds_passed pairs keys sorted c.args.out.now c.judge_kinds.new.out c.in_ok-kinds.kinds c.requires.none c.in_ok-kinds.ensures.met c.in_ok-kinds.ensures.found (c.judge_kinds.ensures.each (long_keys pairs keys)))
    (threads_passed pairs keys sorted c.judge_kinds.new.out c.judge_threads.new.out _ (c.in_ok-judge_threads.ensures.decided catalog))
    (parents_passed pairs keys sorted c.judge_threads.new.out c.judge_parents.new.out _ (c.in_ok-judge_parents.ensures.met (entries_of (placed_in pairs)) also rise) (c.in_ok-judge_parents.ensures.found (entries_of (placed_in pairs)) also rise) c.judge_parents.ensures.still (c.judge_parents.ensures.each (entries_of (placed_in pairs)) also rise)))

pub returns-clause-each : goal.returns-clause-each
returns-clause-each c keys sorted =
    let pairs : List Pair = c.args.catalog.now in
    let catalog = is_catalog pairs keys sorted c.in_ok-kinds.kinds c.if-not-kinds.false c.in_ok-kinds.ensures.met in
    let are = c.in_ok-rows.ensures (long_keys pairs keys) in
    let also = c.deref.ensures.value ∙ are in
    let rise = rows_rise pairs keys sorted c.deref.result.now also in
    all_new (λ f. IsBrokenCatalog pairs (as_found f)) c.args.out.now c.judge_parents.new.out c.requires.none
    (catalog_passed pairs keys sorted c.args.out.now c.judge_kinds.new.out c.judge_threads.new.out c.judge_parents.new.out
    (kinds_passed pairs keys sorted c.args.out.now c.judge_kinds.new.out c.in_ok-kinds.kinds c.requires.none c.in_ok-kinds.ensures.met c.in_ok-kinds.ensures.found (c.judge_kinds.ensures.each (long_keys pairs keys)))
    (threads_passed pairs keys sorted c.judge_kinds.new.out c.judge_threads.new.out _ (c.in_ok-judge_threads.ensures.decided catalog))
    (parents_passed pairs keys sorted c.judge_threads.new.out c.judge_parents.new.out _ (c.in_ok-judge_parents.ensures.met (entries_of (placed_in pairs)) also rise) (c.in_ok-judge_parents.ensures.found (entries_of (placed_in pairs)) also rise) c.judge_parents.ensures.still (c.judge_parents.ensures.each (entries_of (placed_in pairs)) also rise))).each

pub returns-then-not-kinds-clause-rules : goal.returns-then-not-kinds-clause-rules
returns-then-not-kinds-clause-rules c keys sorted =
    kinds_stopped c.args.catalog.now c.args.out.now c.judge_kinds.new.out c.requires.none (c.in_ok-kinds.ensures.found c.if-not-kinds.true) (c.judge_kinds.ensures.each (long_keys c.args.catalog.now keys))

pub returns-then-len-gt0-clause-rules : goal.returns-then-len-gt0-clause-rules
returns-then-len-gt0-clause-rules c keys sorted =
    let pairs : List Pair = c.args.catalog.now in
    let catalog = is_catalog pairs keys sorted c.in_ok-kinds.kinds c.if-not-kinds.false c.in_ok-kinds.ensures.met in
    let also = c.deref.ensures.value ∙ c.in_ok-rows.ensures (long_keys pairs keys) in
    let rise = rows_rise pairs keys sorted c.deref.result.now also in
    catalog_tells pairs c.judge_kinds.new.out c.judge_threads.new.out c.judge_parents.new.out _ _ (c.in_ok-kinds.ensures.met.0 c.if-not-kinds.false) (c.in_ok-judge_threads.ensures.decided catalog)
    (c.in_ok-judge_parents.ensures.met (entries_of (placed_in pairs)) also rise) (c.in_ok-judge_parents.ensures.found (entries_of (placed_in pairs)) also rise) c.judge_parents.ensures.still

pub returns-clause-rules : goal.returns-clause-rules
returns-clause-rules c keys sorted =
    let pairs : List Pair = c.args.catalog.now in
    let catalog = is_catalog pairs keys sorted c.in_ok-kinds.kinds c.if-not-kinds.false c.in_ok-kinds.ensures.met in
    let also = c.deref.ensures.value ∙ c.in_ok-rows.ensures (long_keys pairs keys) in
    let rise = rows_rise pairs keys sorted c.deref.result.now also in
    catalog_tells pairs c.judge_kinds.new.out c.judge_threads.new.out c.judge_parents.new.out _ _ (c.in_ok-kinds.ensures.met.0 c.if-not-kinds.false) (c.in_ok-judge_threads.ensures.decided catalog)
    (c.in_ok-judge_parents.ensures.met (entries_of (placed_in pairs)) also rise) (c.in_ok-judge_parents.ensures.found (entries_of (placed_in pairs)) also rise) c.judge_parents.ensures.still
