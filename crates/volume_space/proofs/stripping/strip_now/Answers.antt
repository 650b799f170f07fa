use Rattle.std.proofs.Common.{◌≤◌, inl, inr, refl, ℕ, List, sym, ◌∙◌, ap, subst, arith, []}
use Rattle.std.proofs.lemmas.Bool.{true≢false}
use Rattle.std.specs.Prelude.{IsTrue}
use Rattle.btree_file.specs.Standing.{numbers_of}
use Rattle.hfs_volume.specs.Content.{has_attributes, volume_of}
use Rattle.hfs_volume.specs.Reclaim.{DropAttribute, next_reclaim}
use Rattle.volume_header.specs.declared.header.VolumeHeader.{VolumeHeader}
use Rattle.volume_base.specs.declared.volume.Tree.{Tree}
use Rattle.volume_base.specs.Keeping.{shrunk_of}
use Rattle.volume_base.specs.Room.{capacity_of}
use Rattle.volume_base.proofs.Freed.{frees_err, frees_none, frees_ok, frees_wanting}
use Rattle.volume_space.specs.Orphans.{AffordsStep}
use Rattle.volume_space.proofs.Shorts.{short_bare}
use Rattle.volume_base.proofs.KeptMarks.{frees_kept, serves_kept, unchanged_kept}
use Rattle.volume_space.proofs.StripKept.{strip_load_kept, value_room_kept, waiting_kept}
use Rattle.volume_space.proofs.StepSpent.{bare_spent}
use Rattle.volume_space.proofs.stripping.strip_now.Goals as goal

pub lacks_bare-requires-clause-small : goal.lacks_bare-requires-clause-small
lacks_bare-requires-clause-small g c tells = c.requires.usual

pub affords_bare-requires-clause-small : goal.affords_bare-requires-clause-small
affords_bare-requires-clause-small g c tells = c.requires.usual

pub fits_value-requires-clause-small : goal.fits_value-requires-clause-small
fits_value-requires-clause-small g c tells = c.requires.usual

pub strip-requires-clause-serves : goal.strip-requires-clause-serves
strip-requires-clause-serves g c = serves_kept c.args.volume.now c.keep.new.self c.keep.ensures (g.P.SectorView.space c.args.space.now) c.requires.serves

pub strip-requires-clause-unchanged : goal.strip-requires-clause-unchanged
strip-requires-clause-unchanged g c = unchanged_kept c.args.volume.now c.keep.new.self c.keep.ensures (g.P.SectorView.space c.args.space.now) c.requires.serves.stands.service

pub strip-requires-clause-has : goal.strip-requires-clause-has
strip-requires-clause-has g c = subst (λ (h : VolumeHeader). IsTrue (has_attributes h)) (sym c.keep.ensures.same.header) c.requires.has

pub strip-requires-clause-size : goal.strip-requires-clause-size
strip-requires-clause-size g c = subst (λ (t : Tree). 4096 ≤ (numbers_of t.file).node_size) (sym c.keep.ensures.same.attributes) c.requires.size

pub strip-requires-clause-waits : goal.strip-requires-clause-waits
strip-requires-clause-waits g c tells = ap (next_reclaim (volume_of (g.P.SectorView.space c.args.space.now).content)) c.keep.ensures.same.shrunk ∙ c.requires.waits tells

pub strip-requires-clause-room : goal.strip-requires-clause-room
strip-requires-clause-room g c = value_room_kept c.args.volume.now c.keep.new.self c.keep.ensures (g.P.SectorView.space c.args.space.now) 1 c.args.change (c.fits_value.ensures.room c.if-not-fits_value.false)

pub returns-clause-tidied : goal.returns-clause-tidied
returns-clause-tidied g c tells =
    let done = waiting_kept c.args.volume.now c.keep.new.self c.keep.ensures (g.P.SectorView.space c.args.space.now).content (g.P.SectorView.space c.strip.new.space).content c.args.id c.args.name.now (c.in_ok-strip.ensures.does tells).1 in
    inr (inl (record {
      waiting = done.0;
      affords = subst (λ (k : ℕ × List ℕ). AffordsStep (capacity_of c.args.volume.now) (g.P.SectorView.space c.args.space.now).content (DropAttribute k.0 k.1)) {x = (c.args.id, c.args.name.now)} {y = (done.0.id, done.0.name)} (λ i. (sym done.1 i, sym done.2 i)) (c.affords_bare.ensures.affords tells c.if-not-affords_bare.false c.args.id c.args.name.now (c.requires.change tells));
    }))

pub returns-then-lacks_bare-clause-tidied : goal.returns-then-lacks_bare-clause-tidied
returns-then-lacks_bare-clause-tidied g c tells = (refl, inr (DropAttribute c.args.id c.args.name.now, c.requires.waits tells, c.lacks_bare.ensures.held_up tells c.if-lacks_bare.true c.args.id c.args.name.now (c.requires.change tells)))

pub returns-then-not-fits_value-clause-tidied : goal.returns-then-not-fits_value-clause-tidied
returns-then-not-fits_value-clause-tidied g c tells = (
  refl,
  (
    DropAttribute c.args.id c.args.name.now,
    c.requires.waits tells,
    short_bare c.args.volume.now (g.P.SectorView.space c.args.space.now) c.args.change c.args.id c.args.name.now (c.requires.change tells)
        (λ met. absurd (true≢false (sym (c.fits_value.ensures.met tells c.requires.has met) ∙ c.if-not-fits_value.true))),
  ),
)

pub returns-then-lacks_bare-clause-spent : goal.returns-then-lacks_bare-clause-spent
returns-then-lacks_bare-clause-spent g c tells = inl (omega arith)

pub returns-then-not-affords_bare-clause-spent : goal.returns-then-not-affords_bare-clause-spent
returns-then-not-affords_bare-clause-spent g c tells = inl (omega arith)

pub returns-then-not-fits_value-clause-spent : goal.returns-then-not-fits_value-clause-spent
returns-then-not-fits_value-clause-spent g c tells = inl (omega arith)

pub returns-clause-spent : goal.returns-clause-spent
returns-clause-spent g c tells = bare_spent c.args.volume.now (g.P.SectorView.space c.args.space.now).content (c.requires.serves.settled tells) c.requires.has c.args.change (g.P.SectorView.space c.args.space.now).spare (g.P.SectorView.space c.strip.new.space).spare (omega (arith, c.strip.ensures.spent tells, strip_load_kept c.args.volume.now c.keep.new.self c.keep.ensures c.args.change)) (shrunk_of c.args.volume.now) c.args.id c.args.name.now (c.requires.change tells) (c.requires.waits tells)

pub returns-in_err-strip-clause-spent : goal.returns-in_err-strip-clause-spent
returns-in_err-strip-clause-spent g c tells = bare_spent c.args.volume.now (g.P.SectorView.space c.args.space.now).content (c.requires.serves.settled tells) c.requires.has c.args.change (g.P.SectorView.space c.args.space.now).spare (g.P.SectorView.space c.strip.new.space).spare (omega (arith, c.strip.ensures.spent tells, strip_load_kept c.args.volume.now c.keep.new.self c.keep.ensures c.args.change)) (shrunk_of c.args.volume.now) c.args.id c.args.name.now (c.requires.change tells) (c.requires.waits tells)

pub returns-then-not-affords_bare-clause-frees : goal.returns-then-not-affords_bare-clause-frees
returns-then-not-affords_bare-clause-frees g c = frees_wanting g.met.P.SectorView.follows_refl c.requires.serves.stands

pub returns-then-lacks_bare-clause-frees : goal.returns-then-lacks_bare-clause-frees
returns-then-lacks_bare-clause-frees g c = frees_none g.met.P.SectorView.follows_refl c.requires.serves.stands

pub returns-then-not-fits_value-clause-frees : goal.returns-then-not-fits_value-clause-frees
returns-then-not-fits_value-clause-frees g c = frees_none g.met.P.SectorView.follows_refl c.requires.serves.stands

pub returns-clause-frees : goal.returns-clause-frees
returns-clause-frees g c = frees_ok (frees_kept c.args.volume.now c.keep.new.self c.keep.ensures c.in_ok-strip.ensures.frees)

pub returns-in_err-strip-clause-frees : goal.returns-in_err-strip-clause-frees
returns-in_err-strip-clause-frees g c = frees_err c.from_residual.ensures.1 (frees_kept c.args.volume.now c.keep.new.self c.keep.ensures c.in_err-strip.ensures.frees)

pub returns-clause-serves : goal.returns-clause-serves
returns-clause-serves g c = record { stands = c.in_ok-strip.ensures.frees.ran.stands; settled = λ told. (c.in_ok-strip.ensures.does (sym (c.strip.ensures.frees.ran.touches []).same.tells ∙ told)).0 }
