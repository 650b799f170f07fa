use Rattle.std.proofs.Common.{◌≡◌, ◌≤◌, ◌+◌, ℕ, true, false, refl, sym, ◌∙◌, ap, subst, arith}
use Rattle.std.specs.Prelude.{IsTrue, IfOk, Option, None, Some, Ok}
use Rattle.std.specs.List.{Contains}
use Rattle.std.proofs.lemmas.Bool.{true≢false}
use Rattle.hfs_language.specs.declared.reply.Reply.TheVariants as reply
use Rattle.hfs_model.specs.Step.{to_attribute}
use Rattle.hfs_volume.specs.Attributing.{DeletesAttribute}
use Rattle.hfs_volume.specs.Content.{has_attributes, volume_of}
use Rattle.hfs_volume.specs.TreeOf.{tree_of}
use Rattle.hfs_volume.specs.Weight.{value_change}
use Rattle.sector_disk.specs.Lists.{Content}
use Rattle.volume_header.specs.declared.header.VolumeHeader.{VolumeHeader}
use Rattle.volume_base.proofs.Freed.{frees_behind, frees_err, frees_looked, frees_ok}
use Rattle.volume_base.proofs.Running.{ran_fewer}
use Rattle.volume_values.proofs.DeleteAnswers.{deletes_behind, met_edits, weighed}
use Rattle.volume_values.proofs.LoadWithin.{load_within}
use Rattle.volume_values.proofs.attribute_removal.delete_now.Goals as goal

pub fits_value-requires-clause-serves : goal.fits_value-requires-clause-serves
fits_value-requires-clause-serves g c = c.in_ok-change.ensures.serves

pub fits_value-requires-clause-small : goal.fits_value-requires-clause-small
fits_value-requires-clause-small g c told = let usual = c.in_ok-change.ensures.usual in record { records = omega (arith, usual.records); blocks = usual.blocks; freed = usual.freed }

pub delete_from-requires-clause-serves : goal.delete_from-requires-clause-serves
delete_from-requires-clause-serves g c = c.in_ok-change.ensures.serves

pub delete_from-requires-clause-has : goal.delete_from-requires-clause-has
delete_from-requires-clause-has g c = subst (λ (h : VolumeHeader). IsTrue (has_attributes h)) (sym c.in_ok-change.ensures.looked.reads.keeps.header) c.requires.has

pub delete_from-requires-clause-there : goal.delete_from-requires-clause-there
delete_from-requires-clause-there g c told =
    let tells = sym c.in_ok-change.ensures.looked.reads.looks.same.tells ∙ told in
    let there = c.requires.there tells in
    (there.0, subst (λ (k : Content). Contains (tree_of k).nodes there.0) (sym (c.in_ok-change.ensures.looked.reads.looks.content tells)) there.1, there.2)

pub delete_from-requires-clause-change : goal.delete_from-requires-clause-change
delete_from-requires-clause-change g c told =
    let tells = sym c.in_ok-change.ensures.looked.reads.looks.same.tells ∙ told in
    c.in_ok-change.ensures.change tells ∙ ap (λ (k : Content). value_change (volume_of k) c.args.id c.args.name.now 0) (sym (c.in_ok-change.ensures.looked.reads.looks.content tells))

pub delete_from-requires-clause-room : goal.delete_from-requires-clause-room
delete_from-requires-clause-room g c = c.fits_value.ensures.room c.if-not-fits_value.false

pub returns-clause-answer : goal.returns-clause-answer
returns-clause-answer g c tells path node attribute found same =
    let later = c.in_ok-change.ensures.looked.reads.looks.same.tells ∙ tells in
    let there : (g.P.SectorView.space c.value_change.new.space).content ≡ (g.P.SectorView.space c.args.space.now).content = c.in_ok-change.ensures.looked.reads.looks.content tells in
    let does = c.in_ok-delete_from.ensures.does later path node attribute (ap (λ (k : Content). to_attribute (tree_of k) path c.args.name.now) there ∙ found) same in
    deletes_behind path c.args.name.now c.args.volume.now c.value_change.new.self c.delete_from.new.volume (g.P.SectorView.space c.args.space.now) (g.P.SectorView.space c.value_change.new.space) (g.P.SectorView.space c.delete_from.new.space) c.in_ok-change.ensures.looked.reads tells (Some reply.Ok) (
      refl,
      does.1,
      record {
        node = node;
        attribute = attribute;
        found = ap (λ (k : Content). to_attribute (tree_of k) path c.args.name.now) there ∙ found;
        deletes = subst (λ (n : ℕ). DeletesAttribute n c.args.name.now (volume_of (g.P.SectorView.space c.value_change.new.space).content) (volume_of (g.P.SectorView.space c.delete_from.new.space).content)) (sym same) does.2;
        values = does.3;
      },
      record { stands = c.in_ok-delete_from.ensures.ran.stands; settled = λ told. does.0 },
    )

pub returns-clause-loads : goal.returns-clause-loads
returns-clause-loads g c tells path node attribute n grow found same is =
    let settled = c.requires.serves.settled tells in
    let change = c.in_ok-change.ensures.change tells in
    let weigh = weighed c.args.volume.now (g.P.SectorView.space c.args.space.now) path c.args.name.now node attribute found c.args.id same _ _ n grow is in
    let room = (c.fits_value.ensures.room c.if-not-fits_value.false).told (c.in_ok-change.ensures.looked.reads.looks.same.tells ∙ tells) (subst (λ (h : VolumeHeader). IsTrue (has_attributes h)) (sym c.in_ok-change.ensures.looked.reads.keeps.header) c.requires.has) in
    omega (
      arith,
      c.in_ok-change.ensures.looked.reads.looks.spare,
      c.in_ok-delete_from.ensures.ran.spent (c.in_ok-change.ensures.looked.reads.looks.same.tells ∙ tells),
      load_within c.args.volume.now c.value_change.new.self (g.P.SectorView.space c.args.space.now) (g.P.SectorView.space c.value_change.new.space) c.in_ok-change.ensures.looked.reads tells settled c.args.id c.args.name.now c.in_ok-change.change change c.requires.has room.2 n grow weigh,
    )

pub returns-clause-frees : goal.returns-clause-frees
returns-clause-frees g c = frees_ok (frees_behind g.met.P.SectorView.follows_trans c.in_ok-change.ensures.looked (record { ran = ran_fewer c.in_ok-delete_from.ensures.ran (λ tells. ((c.fits_value.ensures.room c.if-not-fits_value.false).told tells (subst (λ (h : VolumeHeader). IsTrue (has_attributes h)) (sym c.in_ok-change.ensures.looked.reads.keeps.header) c.requires.has)).0); used = c.in_ok-delete_from.ensures.used }))

pub returns-in_err-delete_from-clause-loads : goal.returns-in_err-delete_from-clause-loads
returns-in_err-delete_from-clause-loads g c tells path node attribute n grow found same is =
    let settled = c.requires.serves.settled tells in
    let change = c.in_ok-change.ensures.change tells in
    let weigh = weighed c.args.volume.now (g.P.SectorView.space c.args.space.now) path c.args.name.now node attribute found c.args.id same _ _ n grow is in
    let room = (c.fits_value.ensures.room c.if-not-fits_value.false).told (c.in_ok-change.ensures.looked.reads.looks.same.tells ∙ tells) (subst (λ (h : VolumeHeader). IsTrue (has_attributes h)) (sym c.in_ok-change.ensures.looked.reads.keeps.header) c.requires.has) in
    omega (
      arith,
      c.in_ok-change.ensures.looked.reads.looks.spare,
      c.in_err-delete_from.ensures.ran.spent (c.in_ok-change.ensures.looked.reads.looks.same.tells ∙ tells),
      load_within c.args.volume.now c.value_change.new.self (g.P.SectorView.space c.args.space.now) (g.P.SectorView.space c.value_change.new.space) c.in_ok-change.ensures.looked.reads tells settled c.args.id c.args.name.now c.in_ok-change.change change c.requires.has room.2 n grow weigh,
    )

pub returns-in_err-delete_from-clause-frees : goal.returns-in_err-delete_from-clause-frees
returns-in_err-delete_from-clause-frees g c =
    frees_err c.from_residual-in_err-delete_from.ensures.1 (frees_behind g.met.P.SectorView.follows_trans c.in_ok-change.ensures.looked (record { ran = ran_fewer c.in_err-delete_from.ensures.ran (λ tells. ((c.fits_value.ensures.room c.if-not-fits_value.false).told tells (subst (λ (h : VolumeHeader). IsTrue (has_attributes h)) (sym c.in_ok-change.ensures.looked.reads.keeps.header) c.requires.has)).0); used = c.in_err-delete_from.ensures.used }))

pub returns-then-not-fits_value-clause-answer : goal.returns-then-not-fits_value-clause-answer
returns-then-not-fits_value-clause-answer g c tells path node attribute found same =
    let later = c.in_ok-change.ensures.looked.reads.looks.same.tells ∙ tells in
    let there : (g.P.SectorView.space c.value_change.new.space).content ≡ (g.P.SectorView.space c.args.space.now).content = c.in_ok-change.ensures.looked.reads.looks.content tells in
    deletes_behind path c.args.name.now c.args.volume.now c.value_change.new.self c.value_change.new.self (g.P.SectorView.space c.args.space.now) (g.P.SectorView.space c.value_change.new.space) (g.P.SectorView.space c.value_change.new.space) c.in_ok-change.ensures.looked.reads tells None (
      refl,
      c.in_ok-change.ensures.serves,
      λ met. true≢false (sym (c.fits_value.ensures.met later (subst (λ (h : VolumeHeader). IsTrue (has_attributes h)) (sym c.in_ok-change.ensures.looked.reads.keeps.header) c.requires.has)
          (met_edits c.value_change.new.self (g.P.SectorView.space c.value_change.new.space) path c.args.name.now node attribute (ap (λ (k : Content). to_attribute (tree_of k) path c.args.name.now) there ∙ found) c.args.id same c.in_ok-change.change (c.in_ok-change.ensures.change tells ∙ ap (λ (k : Content). value_change (volume_of k) c.args.id c.args.name.now 0) (sym there)) met)) ∙ c.if-not-fits_value.true),
    )

pub returns-then-not-fits_value-clause-loads : goal.returns-then-not-fits_value-clause-loads
returns-then-not-fits_value-clause-loads g c tells path node attribute n grow found same is = omega (arith, c.in_ok-change.ensures.looked.reads.looks.spare)

pub returns-then-not-fits_value-clause-frees : goal.returns-then-not-fits_value-clause-frees
returns-then-not-fits_value-clause-frees g c = frees_ok (frees_looked c.in_ok-change.ensures.looked)

pub returns-in_err-change-clause-loads : goal.returns-in_err-change-clause-loads
returns-in_err-change-clause-loads g c tells path node attribute n grow found same is = omega (arith, c.in_err-change.ensures.looked.reads.looks.spare)

pub returns-in_err-change-clause-frees : goal.returns-in_err-change-clause-frees
returns-in_err-change-clause-frees g c = frees_err c.from_residual.ensures.1 (frees_looked c.in_err-change.ensures.looked)
