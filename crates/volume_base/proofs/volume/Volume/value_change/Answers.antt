use Rattle.std.proofs.Common.{◌≡◌, ◌<◌, ◌≤◌, ◌^◌, length, sym, ◌∙◌, ap, subst, arith}
use Rattle.std.specs.Prelude.{Option}
use Rattle.attributes.specs.declared.value.ValueAt.{ValueAt}
use Rattle.hfs_volume.specs.Content.{volume_of}
use Rattle.hfs_volume.specs.Weight.{value_change}
use Rattle.hfs_volume.specs.declared.cost.ValueChange.{ValueChange}
use Rattle.volume_base.specs.Values.{AreFew, change_of}
use Rattle.volume_base.proofs.ValueChange.{change_is, found_few, freed_few, further_few}
use Rattle.volume_base.proofs.volume.Volume.value_change.Goals as goal

pub returns-clause-change : goal.returns-clause-change
returns-clause-change g c tells =
    let stands = c.requires.serves.stands.stands tells in
    let settled = c.requires.serves.settled tells in
    let content = (g.P.SectorView.space c.args.space.now).content in
    let found = c.in_ok-found.ensures.found tells in
    let total : length c.args.self.now.map.used < 2 ^ 32 = omega (arith, stands.blocks, c.requires.serves.stands.service.fits.total_blocks) in
    let is : c.change_of.result ≡ value_change (volume_of content) c.args.id c.args.name.now c.args.blocks =
    c.change_of.ensures (subst AreFew (sym found) (found_few c.args.self.now content stands.trees settled c.args.id c.args.name.now total))
    ∙ ap (λ (o : Option ValueAt). change_of o c.args.blocks) found ∙ change_is c.args.self.now content stands.trees settled c.args.id c.args.name.now c.args.blocks in
    c.usual_change.ensures.same
    (omega (arith, ap (λ (x : ValueChange). x.records) is, further_few c.args.self.now content stands.trees settled c.args.id c.args.name.now total))
    (omega (arith, ap (λ (x : ValueChange). x.freed) is, freed_few c.args.self.now content stands.trees settled c.args.id c.args.name.now total))
    (omega (arith, ap (λ (x : ValueChange). x.blocks) is, c.if-blocks-gt131072.false))
    ∙ is
