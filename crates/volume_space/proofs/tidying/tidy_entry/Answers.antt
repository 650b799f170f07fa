use Rattle.std.proofs.Common.{inl, inr, refl, sym, ◌∙◌, ap, arith, []}
use Rattle.std.proofs.lemmas.Bool.{true≢false}
use Rattle.btree_node.specs.declared.store.TreeShape.{TreeShape}
use Rattle.hfs_volume.specs.Reclaim.{DropOrphan}
use Rattle.volume_base.specs.Keeping.{shrunk_of}
use Rattle.volume_space.proofs.StepSpent.{drop_spent}
use Rattle.volume_space.proofs.Shorts.{short_drop}
use Rattle.volume_base.proofs.Framed.{edits_err, edits_none, edits_ok, edits_spent}
use Rattle.volume_base.proofs.Joined.{edits_wanting}
use Rattle.volume_space.proofs.tidying.tidy_entry.Goals as goal

pub drop_waiting-requires-clause-size : goal.drop_waiting-requires-clause-size
drop_waiting-requires-clause-size g c = omega (arith, c.if-shape-lt4096.false, ap (λ (s : TreeShape). s.node_size) c.shape.ensures)

pub drop_waiting-requires-clause-room : goal.drop_waiting-requires-clause-room
drop_waiting-requires-clause-room g c = c.fits_remove.ensures.room c.if-not-fits_remove.false

pub returns-clause-tidied : goal.returns-clause-tidied
returns-clause-tidied g c tells =
    let done = c.in_ok-drop_waiting.ensures.does tells in
    inl (record { waiting = done.1; affords = c.affords_drop.ensures.affords tells c.if-not-affords_drop.false done.1.id })

pub returns-then-lacks_drop-clause-tidied : goal.returns-then-lacks_drop-clause-tidied
returns-then-lacks_drop-clause-tidied g c tells =
    let waits = c.requires.waits tells in
    (refl, inr (DropOrphan waits.id, waits.next, c.lacks_drop.ensures.held_up tells c.if-lacks_drop.true waits.id))

pub returns-then-not-fits_remove-clause-tidied : goal.returns-then-not-fits_remove-clause-tidied
returns-then-not-fits_remove-clause-tidied g c tells =
    let waits = c.requires.waits tells in
    (refl, (DropOrphan waits.id, waits.next, short_drop c.args.volume.now (g.P.SectorView.space c.args.space.now) waits.id (λ met. absurd (true≢false (sym (c.fits_remove.ensures.met tells met) ∙ c.if-not-fits_remove.true)))))

pub returns-then-is_empty-clause-spent : goal.returns-then-is_empty-clause-spent
returns-then-is_empty-clause-spent g c tells = inl (omega arith)

pub returns-then-shape-lt4096-clause-spent : goal.returns-then-shape-lt4096-clause-spent
returns-then-shape-lt4096-clause-spent g c tells = inl (omega arith)

pub returns-then-lacks_drop-clause-spent : goal.returns-then-lacks_drop-clause-spent
returns-then-lacks_drop-clause-spent g c tells = inl (omega arith)

pub returns-then-not-affords_drop-clause-spent : goal.returns-then-not-affords_drop-clause-spent
returns-then-not-affords_drop-clause-spent g c tells = inl (omega arith)

pub returns-then-not-fits_remove-clause-spent : goal.returns-then-not-fits_remove-clause-spent
returns-then-not-fits_remove-clause-spent g c tells = inl (omega arith)

pub returns-clause-spent : goal.returns-clause-spent
returns-clause-spent g c tells = drop_spent c.args.volume.now (g.P.SectorView.space c.args.space.now).content (c.requires.serves.settled tells) (g.P.SectorView.space c.args.space.now).spare (g.P.SectorView.space c.drop_waiting.new.space).spare (c.drop_waiting.ensures.edits.ran.spent tells) (shrunk_of c.args.volume.now) (c.requires.waits tells).id (c.requires.waits tells).next

pub returns-in_err-drop_waiting-clause-spent : goal.returns-in_err-drop_waiting-clause-spent
returns-in_err-drop_waiting-clause-spent g c tells = drop_spent c.args.volume.now (g.P.SectorView.space c.args.space.now).content (c.requires.serves.settled tells) (g.P.SectorView.space c.args.space.now).spare (g.P.SectorView.space c.drop_waiting.new.space).spare (c.drop_waiting.ensures.edits.ran.spent tells) (shrunk_of c.args.volume.now) (c.requires.waits tells).id (c.requires.waits tells).next

pub returns-then-is_empty-clause-edits : goal.returns-then-is_empty-clause-edits
returns-then-is_empty-clause-edits g c = edits_wanting _ g.met.P.SectorView.follows_refl c.requires.serves.stands

pub returns-then-shape-lt4096-clause-edits : goal.returns-then-shape-lt4096-clause-edits
returns-then-shape-lt4096-clause-edits g c = edits_wanting _ g.met.P.SectorView.follows_refl c.requires.serves.stands

pub returns-then-not-affords_drop-clause-edits : goal.returns-then-not-affords_drop-clause-edits
returns-then-not-affords_drop-clause-edits g c = edits_wanting _ g.met.P.SectorView.follows_refl c.requires.serves.stands

pub returns-then-lacks_drop-clause-edits : goal.returns-then-lacks_drop-clause-edits
returns-then-lacks_drop-clause-edits g c = edits_none _ g.met.P.SectorView.follows_refl c.requires.serves.stands

pub returns-then-not-fits_remove-clause-edits : goal.returns-then-not-fits_remove-clause-edits
returns-then-not-fits_remove-clause-edits g c = edits_none _ g.met.P.SectorView.follows_refl c.requires.serves.stands

pub returns-clause-edits : goal.returns-clause-edits
returns-clause-edits g c = edits_ok (edits_spent c.in_ok-drop_waiting.ensures.edits (λ tells. omega arith))

pub returns-in_err-drop_waiting-clause-edits : goal.returns-in_err-drop_waiting-clause-edits
returns-in_err-drop_waiting-clause-edits g c = edits_err c.from_residual.ensures.1 (edits_spent c.in_err-drop_waiting.ensures.edits (λ tells. omega arith))

pub returns-clause-serves : goal.returns-clause-serves
returns-clause-serves g c = record { stands = c.in_ok-drop_waiting.ensures.edits.ran.stands; settled = λ told. (c.in_ok-drop_waiting.ensures.does (sym (c.drop_waiting.ensures.edits.ran.touches []).same.tells ∙ told)).0 }
