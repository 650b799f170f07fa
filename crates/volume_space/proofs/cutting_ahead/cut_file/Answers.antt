use Rattle.std.proofs.Common.{refl, sym, ◌∙◌, ap, subst, arith}
use Rattle.std.specs.Prelude.{is_some, Option, Some}
use Rattle.hx_bytes.specs.declared.extents.ForkRecord.{ForkRecord}
use Rattle.hfs_volume.specs.Content.{volume_of}
use Rattle.hfs_volume.specs.Reclaim.{blocks_wanted}
use Rattle.hfs_volume.specs.Records.{id_in}
use Rattle.volume_base.specs.Cutting.{kind_of}
use Rattle.volume_base.specs.Room.{capacity_of}
use Rattle.volume_base.specs.declared.forks.ForkKind.{ForkKind}
use Rattle.volume_space.specs.Cutting.{surplus_ahead}
use Rattle.volume_space.specs.declared.trimming.Surplus.{Surplus}
use Rattle.volume_space.proofs.PastSizes.{first_is, first_result, surplus_is}
use Rattle.volume_base.proofs.Freed.{frees_none}
use Rattle.volume_space.proofs.cutting_ahead.cut_file.Goals as goal

pub surplus_ahead-requires : goal.surplus_ahead-requires
surplus_ahead-requires g c = omega (arith, c.requires.serves.stands.service.least)

pub cut_past-requires-clause-least : goal.cut_past-requires-clause-least
cut_past-requires-clause-least g c tells =
    let it = surplus_is c.args.volume.now (g.P.SectorView.space c.args.space.now).content (c.requires.serves.settled tells) c.args.entry.now (c.requires.there tells) c.args.file.now c.requires.is c.args.kind c.args.end c.in-Some.surplus
    (sym c.in-Some.is ∙ c.surplus_ahead.ensures ∙ ap (λ (f : ForkRecord). surplus_ahead c.args.kind c.args.volume.now.header.block_size f c.args.end) c.fork_of.ensures) in
    it.1 ∙ ap (λ (k : ForkKind). blocks_wanted (volume_of (g.P.SectorView.space c.args.space.now).content) (id_in c.args.entry.now.rec) (kind_of k)) (sym it.0)

pub returns-in-Some-clause-came : goal.returns-in-Some-clause-came
returns-in-Some-clause-came g c tells =
    let before = (g.P.SectorView.space c.args.space.now).content in
    let told = sym c.in-Some.is ∙ c.surplus_ahead.ensures ∙ ap (λ (f : ForkRecord). surplus_ahead c.args.kind c.args.volume.now.header.block_size f c.args.end) c.fork_of.ensures in
    let it = surplus_is c.args.volume.now before (c.requires.serves.settled tells) c.args.entry.now (c.requires.there tells) c.args.file.now c.requires.is c.args.kind c.args.end c.in-Some.surplus told in
    first_result c.cut_past.result (capacity_of c.args.volume.now) (kind_of c.in-Some.surplus.kind) (kind_of c.args.kind) (id_in c.args.entry.now.rec) c.args.file.now.fields.id _ before (g.P.SectorView.space c.cut_past.new.space).content (ap kind_of it.0) (ap id_in c.requires.is)
    (first_is c.args.volume.now before (c.requires.serves.settled tells) c.args.entry.now (c.requires.there tells) c.args.file.now c.requires.is c.args.kind c.args.end ∙ ap is_some (sym told)) (c.cut_past.ensures.came tells)

pub returns-in-None-clause-came : goal.returns-in-None-clause-came
returns-in-None-clause-came g c tells = (
  first_is c.args.volume.now (g.P.SectorView.space c.args.space.now).content (c.requires.serves.settled tells) c.args.entry.now (c.requires.there tells) c.args.file.now c.requires.is c.args.kind c.args.end
      ∙ ap is_some (sym (sym c.in-None.is ∙ c.surplus_ahead.ensures ∙ ap (λ (f : ForkRecord). surplus_ahead c.args.kind c.args.volume.now.header.block_size f c.args.end) c.fork_of.ensures)),
  refl,
)

-- ---- what it puts

pub returns-in-None-clause-spent : goal.returns-in-None-clause-spent
returns-in-None-clause-spent g c tells = omega arith

pub returns-in-None-clause-frees : goal.returns-in-None-clause-frees
returns-in-None-clause-frees g c = frees_none g.met.P.SectorView.follows_refl c.requires.serves.stands
