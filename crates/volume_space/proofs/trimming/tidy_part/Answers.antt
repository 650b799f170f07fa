use Rattle.std.proofs.Common.{ℕ, false, true, List, arith, sym, ◌∙◌, ap, subst, refl, []}
use Rattle.std.specs.List.{Contains}
use Rattle.catalog.specs.Pairs.{value_at}
use Rattle.hfs_volume.specs.Content.{VolumeState}
use Rattle.volume_base.specs.Touching.{Touches}
use Rattle.volume_space.proofs.StepSpent.{cut_spent}
use Rattle.volume_base.proofs.KeptUsed.{used_both}
use Rattle.volume_base.proofs.KeptMarks.{own_kept, used_kept, lists_kept, settled_kept, stands_kept, unchanged_kept}
use Rattle.volume_space.proofs.CutKept.{load_kept, may_kept}
use Rattle.volume_space.proofs.Shorts.{short_cut}
use Rattle.volume_base.proofs.Freed.{frees_err, frees_none}
use Rattle.volume_space.proofs.trimming.tidy_part.Goals as goal

pub cut_fork-requires-clause-stands : goal.cut_fork-requires-clause-stands
cut_fork-requires-clause-stands g c = stands_kept c.args.volume.now c.keep.new.self c.keep.ensures (g.P.SectorView.space c.args.space.now) c.requires.serves.stands

pub cut_fork-requires-clause-settled : goal.cut_fork-requires-clause-settled
cut_fork-requires-clause-settled g c tells = settled_kept c.args.volume.now c.keep.new.self c.keep.ensures (g.P.SectorView.space c.args.space.now) (c.requires.serves.settled tells)

pub cut_fork-requires-clause-there : goal.cut_fork-requires-clause-there
cut_fork-requires-clause-there g c tells = ap (λ (l : VolumeState). value_at l.catalog_pairs c.args.entry.now.parent c.args.entry.now.name) (lists_kept c.args.volume.now c.keep.new.self c.keep.ensures (g.P.SectorView.space c.args.space.now).content) ∙ c.requires.there tells

pub cut_fork-requires-clause-gives : goal.cut_fork-requires-clause-gives
cut_fork-requires-clause-gives g c = may_kept c.args.volume.now c.keep.new.self c.keep.ensures c.args.cut.now.goes c.requires.gives

pub cut_fork-requires-clause-unchanged : goal.cut_fork-requires-clause-unchanged
cut_fork-requires-clause-unchanged g c = unchanged_kept c.args.volume.now c.keep.new.self c.keep.ensures (g.P.SectorView.space c.args.space.now) c.requires.serves.stands.service

pub cut_fork-requires-clause-room : goal.cut_fork-requires-clause-room
cut_fork-requires-clause-room g c = omega (arith, load_kept c.args.volume.now c.keep.new.self c.keep.ensures, c.fits_cut.ensures.fits c.if-not-fits_cut.false)

pub returns-clause-came : goal.returns-clause-came
returns-clause-came g c tells = (c.affords_cut.ensures.affords (g.P.SectorView.space c.args.space.now).content (c.requires.serves.settled tells) c.if-not-affords_cut.false, (c.in_ok-cut_fork.ensures.cuts tells).1)

pub returns-then-not-affords_cut-clause-came : goal.returns-then-not-affords_cut-clause-came
returns-then-not-affords_cut-clause-came g c tells = (refl, c.affords_cut.ensures.refused (g.P.SectorView.space c.args.space.now).content (c.requires.serves.settled tells) c.if-not-affords_cut.true)

pub returns-then-not-fits_cut-clause-came : goal.returns-then-not-fits_cut-clause-came
returns-then-not-fits_cut-clause-came g c tells = (refl, short_cut c.args.volume.now (g.P.SectorView.space c.args.space.now).content (c.requires.serves.settled tells) (g.P.SectorView.space c.args.space.now).spare (c.fits_cut.ensures.short c.if-not-fits_cut.true))

-- ---- what it puts

pub returns-then-not-affords_cut-clause-spent : goal.returns-then-not-affords_cut-clause-spent
returns-then-not-affords_cut-clause-spent g c tells = omega arith

pub returns-then-not-fits_cut-clause-spent : goal.returns-then-not-fits_cut-clause-spent
returns-then-not-fits_cut-clause-spent g c tells = omega arith

pub returns-clause-spent : goal.returns-clause-spent
returns-clause-spent g c tells =
    cut_spent c.args.volume.now (g.P.SectorView.space c.args.space.now).content (c.requires.serves.settled tells) (g.P.SectorView.space c.args.space.now).spare (g.P.SectorView.space c.cut_fork.new.space).spare
    (omega (arith, c.cut_fork.ensures.spent tells, load_kept c.args.volume.now c.keep.new.self c.keep.ensures))

pub returns-in_err-cut_fork-clause-spent : goal.returns-in_err-cut_fork-clause-spent
returns-in_err-cut_fork-clause-spent g c tells =
    cut_spent c.args.volume.now (g.P.SectorView.space c.args.space.now).content (c.requires.serves.settled tells) (g.P.SectorView.space c.args.space.now).spare (g.P.SectorView.space c.cut_fork.new.space).spare
    (omega (arith, c.cut_fork.ensures.spent tells, load_kept c.args.volume.now c.keep.new.self c.keep.ensures))

pub returns-then-not-affords_cut-clause-frees : goal.returns-then-not-affords_cut-clause-frees
returns-then-not-affords_cut-clause-frees g c = frees_none g.met.P.SectorView.follows_refl c.requires.serves.stands

pub returns-then-not-fits_cut-clause-frees : goal.returns-then-not-fits_cut-clause-frees
returns-then-not-fits_cut-clause-frees g c = frees_none g.met.P.SectorView.follows_refl c.requires.serves.stands

pub returns-clause-frees : goal.returns-clause-frees
returns-clause-frees g c = record {
  ran = record {
    below = c.cut_fork.ensures.below;
    cause = record { later = c.in_ok-cut_fork.ensures.cause.later; failed = tt };
    service = c.cut_fork.ensures.service;
    stands = c.in_ok-cut_fork.ensures.stands;
    touches = λ committed. subst (λ (l : List ℕ). Touches committed (λ s. Contains l s) (g.P.SectorView.space c.args.space.now) (g.P.SectorView.space c.cut_fork.new.space)) (own_kept c.args.volume.now c.keep.new.self c.keep.ensures) (c.cut_fork.ensures.touches committed);
    spent = λ tells. omega arith;
  };
  used = used_both c.args.volume.now c.keep.new.self c.cut_fork.new.volume (used_kept c.args.volume.now c.keep.new.self c.keep.ensures) c.cut_fork.ensures.used;
}

pub returns-in_err-cut_fork-clause-frees : goal.returns-in_err-cut_fork-clause-frees
returns-in_err-cut_fork-clause-frees g c = frees_err c.from_residual.ensures.1 (record {
  ran = record {
    below = c.cut_fork.ensures.below;
    cause = c.in_err-cut_fork.ensures.cause;
    service = c.cut_fork.ensures.service;
    stands = tt;
    touches = λ committed. subst (λ (l : List ℕ). Touches committed (λ s. Contains l s) (g.P.SectorView.space c.args.space.now) (g.P.SectorView.space c.cut_fork.new.space)) (own_kept c.args.volume.now c.keep.new.self c.keep.ensures) (c.cut_fork.ensures.touches committed);
    spent = λ tells. omega arith;
  };
  used = used_both c.args.volume.now c.keep.new.self c.cut_fork.new.volume (used_kept c.args.volume.now c.keep.new.self c.keep.ensures) c.cut_fork.ensures.used;
})

pub returns-clause-serves : goal.returns-clause-serves
returns-clause-serves g c = record { stands = c.in_ok-cut_fork.ensures.stands; settled = λ told. (c.in_ok-cut_fork.ensures.cuts (sym (c.cut_fork.ensures.touches []).same.tells ∙ told)).0 }
