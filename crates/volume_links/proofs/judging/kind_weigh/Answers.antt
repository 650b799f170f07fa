use Rattle.std.proofs.Common.{◌≡◌, ℕ, List, false, sym, ◌∙◌, ap, subst}
use Rattle.std.specs.Prelude.{is_some, IfOk, IfSome, Option}
use Rattle.std.proofs.lemmas.Bool.{true≢false}
use Rattle.hfs_model.specs.declared.kinds.KindEdit.{KindEdit}
use Rattle.hfs_model.specs.declared.kinds.KindEdit.TheVariants as edit
use Rattle.hfs_volume.specs.Content.{volume_of}
use Rattle.hfs_volume.specs.KindWeight.{kind_only_reads}
use Rattle.hfs_volume.specs.TreeOf.{tree_of}
use Rattle.volume_base.specs.Room.{capacity_of, free_in}
use Rattle.volume_base.specs.declared.room.FreeBlocks.TheVariants as blocks
use Rattle.volume_base.specs.declared.weighing.Weight.{Weight}
use Rattle.volume_base.proofs.Looked.{looked_none}
use Rattle.volume_base.proofs.Seeing.{if_so}
use Rattle.volume_runs.specs.Fits.{FitsEdit}
use Rattle.volume_links.specs.Steps.{KindWaitsForCut, kind_weighed}
use Rattle.volume_links.proofs.Symlinked.{link_waits}
use Rattle.volume_links.proofs.judging.kind_weigh.Goals as goal

pub weigh_symlink-requires-clause-fits : goal.weigh_symlink-requires-clause-fits
weigh_symlink-requires-clause-fits g c = subst FitsEdit c.in-Symlink.is c.requires.fits

pub weigh_rwrite-requires-clause-fits : goal.weigh_rwrite-requires-clause-fits
weigh_rwrite-requires-clause-fits g c = subst FitsEdit c.in-ResourceWrite.is c.requires.fits

pub returns-in_ok-weight-in-Symlink-clause-answer : goal.returns-in_ok-weight-in-Symlink-clause-answer
returns-in_ok-weight-in-Symlink-clause-answer g c tells =
    let content = (g.P.SectorView.space c.args.space.now).content in
    c.in_ok-weight-in-Symlink.ensures.answer tells
    ∙ ap (λ (k : KindEdit). kind_weighed (capacity_of c.args.volume.now) (free_in blocks.Takable c.args.volume.now.map) (volume_of content) (tree_of content) k) (ap (λ (v : List ℕ). edit.Symlink c.in-Symlink.path v) c.as_slice.ensures ∙ sym c.in-Symlink.is)

pub returns-in_ok-weight-in-Symlink-clause-cuts : goal.returns-in_ok-weight-in-Symlink-clause-cuts
returns-in_ok-weight-in-Symlink-clause-cuts g c tells waits =
    let content = (g.P.SectorView.space c.args.space.now).content in
    absurd (link_waits content (c.requires.serves.settled tells).sound c.in-Symlink.path c.in-Symlink.value (subst (λ (k : KindEdit). KindWaitsForCut content k) c.in-Symlink.is waits))

pub returns-in-ResourceWrite-clause-answer : goal.returns-in-ResourceWrite-clause-answer
returns-in-ResourceWrite-clause-answer g c tells =
    let content = (g.P.SectorView.space c.args.space.now).content in
    subst (λ (k : KindEdit). IfOk c.weigh_rwrite.result (λ said. IfSome said (λ weighs. weighs ≡ kind_weighed (capacity_of c.args.volume.now) (free_in blocks.Takable c.args.volume.now.map) (volume_of content) (tree_of content) k)))
    (ap (λ (v : List ℕ). edit.ResourceWrite c.in-ResourceWrite.path c.in-ResourceWrite.from v) c.as_slice-in-ResourceWrite.ensures ∙ sym c.in-ResourceWrite.is) (c.weigh_rwrite.ensures.answer tells)

pub returns-in-ResourceWrite-clause-waits : goal.returns-in-ResourceWrite-clause-waits
returns-in-ResourceWrite-clause-waits g c tells unread =
    let content = (g.P.SectorView.space c.args.space.now).content in
    if_so (λ (said : Option Weight). is_some said ≡ false → KindWaitsForCut content (edit.ResourceWrite c.in-ResourceWrite.path c.in-ResourceWrite.from c.as_slice-in-ResourceWrite.result.now))
    (λ (said : Option Weight). is_some said ≡ false → KindWaitsForCut content c.args.edit.now) c.weigh_rwrite.result
    (λ said it none. subst (λ (k : KindEdit). KindWaitsForCut content k) (ap (λ (v : List ℕ). edit.ResourceWrite c.in-ResourceWrite.path c.in-ResourceWrite.from v) c.as_slice-in-ResourceWrite.ensures ∙ sym c.in-ResourceWrite.is) (it none)) (c.weigh_rwrite.ensures.waits tells)

pub returns-in-ResourceWrite-clause-cuts : goal.returns-in-ResourceWrite-clause-cuts
returns-in-ResourceWrite-clause-cuts g c tells waits =
    let content = (g.P.SectorView.space c.args.space.now).content in
    c.weigh_rwrite.ensures.cuts tells (subst (λ (k : KindEdit). KindWaitsForCut content k) (c.in-ResourceWrite.is ∙ ap (λ (v : List ℕ). edit.ResourceWrite c.in-ResourceWrite.path c.in-ResourceWrite.from v) (sym c.as_slice-in-ResourceWrite.ensures)) waits)

pub returns-in-ResourceRead-clause-waits : goal.returns-in-ResourceRead-clause-waits
returns-in-ResourceRead-clause-waits g c tells unread none = absurd (true≢false (sym (ap kind_only_reads c.in-ResourceRead.is) ∙ unread))

pub returns-in-ResourceRead-clause-looked : goal.returns-in-ResourceRead-clause-looked
returns-in-ResourceRead-clause-looked g c = looked_none g.met.P.SectorView.follows_refl c.requires.serves.stands
