use Rattle.std.proofs.Common.{length, refl, sym, ◌∙◌}
use Rattle.std.proofs.lemmas.Bool.{true≢false}
use Rattle.hfs_volume.specs.TreeOf.{tree_of}
use Rattle.volume_base.specs.DataWeighing.{data_as}
use Rattle.volume_links.proofs.Weighed.{is_file}
use Rattle.volume_links.proofs.Written.{at_is, put_of, resource_done, resource_lists, resource_met}
use Rattle.volume_links.proofs.writing.write_resource.Goals as goal

pub put_data-requires-clause-there : goal.put_data-requires-clause-there
put_data-requires-clause-there g c tells =
    let it = c.requires.there tells in
    let there = is_file (tree_of (g.P.SectorView.space c.args.space.now).content) c.args._path.now c.args.from c.args.value.now c.args.fork it in
    (it.file, there.0, it.id, there.1)

pub returns-then-put-clause-tree : goal.returns-then-put-clause-tree
returns-then-put-clause-tree g c tells so =
    (resource_done c.args.volume.now c.put_data.new.volume (g.P.SectorView.space c.args.space.now) (g.P.SectorView.space c.put_data.new.space).content c.requires.stands tells (c.requires.settled tells) c.args._path.now c.args.from c.args.value.now c.args.fork (c.requires.there tells) c.requires.some (c.in_ok-put.ensures.puts tells c.if-put.true) c.rwrite_does_its_step.ensures).1

pub returns-then-put-clause-settled : goal.returns-then-put-clause-settled
returns-then-put-clause-settled g c tells =
    (resource_done c.args.volume.now c.put_data.new.volume (g.P.SectorView.space c.args.space.now) (g.P.SectorView.space c.put_data.new.space).content c.requires.stands tells (c.requires.settled tells) c.args._path.now c.args.from c.args.value.now c.args.fork (c.requires.there tells) c.requires.some (c.in_ok-put.ensures.puts tells c.if-put.true) c.rwrite_does_its_step.ensures).0

pub returns-then-put-clause-lists : goal.returns-then-put-clause-lists
returns-then-put-clause-lists g c tells so =
    let it = c.requires.there tells in
    let there = is_file (tree_of (g.P.SectorView.space c.args.space.now).content) c.args._path.now c.args.from c.args.value.now c.args.fork it in
    let put = data_as (put_of c.args.fork c.args.from (length c.args.value.now)) in
    let at = at_is (tree_of (g.P.SectorView.space c.args.space.now).content) c.args._path.now c.args.from c.args.value.now c.args.fork it in
    resource_lists c.args.volume.now c.put_data.new.volume (g.P.SectorView.space c.args.space.now) (g.P.SectorView.space c.put_data.new.space).content c.requires.stands tells (c.requires.settled tells) c.args._path.now c.args.from c.args.value.now c.args.fork it c.requires.some (c.in_ok-put.ensures.puts tells c.if-put.true)
    (c.in_ok-put.ensures.no_cut tells it.file there.0 it.id there.1 put refl at c.if-put.true) c.rewrite_puts_its_blocks_alone.ensures

pub returns-then-put-clause-waits : goal.returns-then-put-clause-waits
returns-then-put-clause-waits g c tells other = absurd (true≢false other)

pub returns-then-put-clause-service : goal.returns-then-put-clause-service
returns-then-put-clause-service g c = c.put_data.ensures.service

pub returns-clause-waits : goal.returns-clause-waits
returns-clause-waits g c tells other = (c.in_ok-put.ensures.waits tells c.if-put.false).1

pub returns-clause-settled : goal.returns-clause-settled
returns-clause-settled g c tells = (c.in_ok-put.ensures.waits tells c.if-put.false).0

pub returns-clause-tree : goal.returns-clause-tree
returns-clause-tree g c tells so = absurd (true≢false (sym so))

pub returns-clause-lists : goal.returns-clause-lists
returns-clause-lists g c tells so = absurd (true≢false (sym so))

pub returns-clause-service : goal.returns-clause-service
returns-clause-service g c = c.put_data.ensures.service

pub returns-in_err-put-clause-service : goal.returns-in_err-put-clause-service
returns-in_err-put-clause-service g c = c.put_data.ensures.service

-- where it costs a load that fits it is put
pub returns-then-put-clause-met : goal.returns-then-put-clause-met
returns-then-put-clause-met g c tells uncut fits = refl

pub returns-clause-met : goal.returns-clause-met
returns-clause-met g c tells uncut fits =
    let it = c.requires.there tells in
    let there = is_file (tree_of (g.P.SectorView.space c.args.space.now).content) c.args._path.now c.args.from c.args.value.now c.args.fork it in
    absurd (true≢false (sym (resource_met c.args.volume.now (g.P.SectorView.space c.args.space.now) c.args._path.now c.args.from c.args.value.now c.args.fork it c.requires.some uncut fits)
    ∙ c.in_ok-put.ensures.met tells it.file there.0 it.id there.1 (data_as (put_of c.args.fork c.args.from (length c.args.value.now))) refl (at_is (tree_of (g.P.SectorView.space c.args.space.now).content) c.args._path.now c.args.from c.args.value.now c.args.fork it) c.if-put.false))
