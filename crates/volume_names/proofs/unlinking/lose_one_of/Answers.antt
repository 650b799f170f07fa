use Rattle.volume_names.proofs.LossLoads.{none_so}
use Rattle.std.proofs.Common.{◌≡◌, inl, inr, ℕ, List, length, sym, ◌∙◌, ap, subst, arith}
use Rattle.std.proofs.lemmas.Bool.{eqb-false}
use Rattle.hfs_language.specs.declared.command.Command.TheVariants as command
use Rattle.hfs_model.specs.Step.{step}
use Rattle.hfs_volume.specs.TreeOf.{tree_of}
use Rattle.volume_base.specs.Lists.{lists_of}
use Rattle.volume_base.specs.Standing.{IsSettled}
use Rattle.volume_names.specs.Unlinking.{IsLastOf, LosesLink, Unlinks, UnlinksLast, links_in}
use Rattle.volume_base.proofs.FoundEntry.{ok_so}
use Rattle.volume_names.proofs.LastFile.{last_of, file_of}
use Rattle.volume_names.specs.LossLoads.{LeavesOthers, LeavesShared, SpendsFor, SpendsShared}
use Rattle.volume_base.proofs.Joined.{edits_wanting}
use Rattle.volume_base.proofs.Framed.{edits_err}
use Rattle.volume_names.proofs.unlinking.lose_one_of.Goals as goal

pub unlink_last-requires-clause-some_file : goal.unlink_last-requires-clause-some_file
unlink_last-requires-clause-some_file g c =
    let none = eqb-false (length c.args.file.now.name) 0 (sym c.is_empty.ensures ∙ c.if-is_empty.false) in
    omega (arith, none, ap (λ (n : List ℕ). length n) c.in_ok-copy_name-in-Some.ensures)

pub unlink_last-requires-clause-file_name : goal.unlink_last-requires-clause-file_name
unlink_last-requires-clause-file_name g c = omega (arith, c.requires.file_name, ap (λ (n : List ℕ). length n) c.in_ok-copy_name-in-Some.ensures)

pub unlink_last-requires-clause-last : goal.unlink_last-requires-clause-last
unlink_last-requires-clause-last g c tells =
    let loses = c.requires.loses tells in
    subst (λ (n : List ℕ). IsLastOf c.args.id (record { parent = c.args.file.now.parent; name = n }) (lists_of c.args.volume.now (g.P.SectorView.space c.args.space.now).content).catalog_pairs) (sym c.in_ok-copy_name-in-Some.ensures)
    (last_of c.args.volume.now (g.P.SectorView.space c.args.space.now) (c.requires.serves.settled tells) (c.requires.serves.stands.stands tells) loses.0 loses.1 c.args.at.now loses.2 (c.requires.link tells) c.args.id loses.3 c.requires.serves.stands.service.fits.next_catalog_id
    c.args.file.now (c.requires.found tells) (omega (arith, c.links_in.ensures, c.if-links_in-gt1.false)))

pub returns-then-links_in-gt1-clause-does : goal.returns-then-links_in-gt1-clause-does
returns-then-links_in-gt1-clause-does g c tells path entry loss same =
    ok_so
    (IsSettled c.unlink.new.volume (g.P.SectorView.space c.unlink.new.space).content × (tree_of (g.P.SectorView.space c.unlink.new.space).content ≡ (step (tree_of (g.P.SectorView.space c.args.space.now).content) (command.Rm path)).1)
    × Unlinks entry (g.P.SectorView.space c.args.space.now).content (g.P.SectorView.space c.unlink.new.space).content)
    (IsSettled c.unlink.new.volume (g.P.SectorView.space c.unlink.new.space).content × (tree_of (g.P.SectorView.space c.unlink.new.space).content ≡ (step (tree_of (g.P.SectorView.space c.args.space.now).content) (command.Rm path)).1)
    × LosesLink entry (g.P.SectorView.space c.args.space.now).content (g.P.SectorView.space c.unlink.new.space).content)
    c.unlink.result (c.unlink.ensures.does tells path entry loss same) (λ lost. (lost.0, lost.1, inl lost.2))

pub returns-in_ok-copy_name-in-Some-clause-does : goal.returns-in_ok-copy_name-in-Some-clause-does
returns-in_ok-copy_name-in-Some-clause-does g c tells path entry loss same =
    ok_so
    (IsSettled c.unlink_last.new.volume (g.P.SectorView.space c.unlink_last.new.space).content × (tree_of (g.P.SectorView.space c.unlink_last.new.space).content ≡ (step (tree_of (g.P.SectorView.space c.args.space.now).content) (command.Rm path)).1)
    × UnlinksLast entry (g.P.SectorView.space c.args.space.now).content (g.P.SectorView.space c.unlink_last.new.space).content)
    (IsSettled c.unlink_last.new.volume (g.P.SectorView.space c.unlink_last.new.space).content × (tree_of (g.P.SectorView.space c.unlink_last.new.space).content ≡ (step (tree_of (g.P.SectorView.space c.args.space.now).content) (command.Rm path)).1)
    × LosesLink entry (g.P.SectorView.space c.args.space.now).content (g.P.SectorView.space c.unlink_last.new.space).content)
    c.unlink_last.result (c.unlink_last.ensures.does tells path entry loss same) (λ lost. (lost.0, lost.1, inr lost.2))

pub returns-then-links_in-gt1-clause-spends : goal.returns-then-links_in-gt1-clause-spends
returns-then-links_in-gt1-clause-spends g c tells =
    let loses = c.requires.loses tells in
    let it = file_of c.args.volume.now (g.P.SectorView.space c.args.space.now) (c.requires.serves.settled tells) (c.requires.serves.stands.stands tells) loses.0 loses.1 c.args.at.now loses.2 (c.requires.link tells) c.args.id loses.3 c.requires.serves.stands.service.fits.next_catalog_id c.args.file.now (c.requires.found tells) in
    inr (record {
      file = it.0;
      stands = it.1;
      number = it.2;
      spends = inl (
        omega (arith, c.links_in.ensures, c.if-links_in-gt1.true, ap links_in it.3),
        record { grown = (c.requires.room.told tells).2; spent = omega (arith, c.unlink.ensures.edits.ran.spent tells) },
      );
    })

pub returns-in_ok-copy_name-in-Some-clause-spends : goal.returns-in_ok-copy_name-in-Some-clause-spends
returns-in_ok-copy_name-in-Some-clause-spends g c tells =
    let loses = c.requires.loses tells in
    let it = file_of c.args.volume.now (g.P.SectorView.space c.args.space.now) (c.requires.serves.settled tells) (c.requires.serves.stands.stands tells) loses.0 loses.1 c.args.at.now loses.2 (c.requires.link tells) c.args.id loses.3 c.requires.serves.stands.service.fits.next_catalog_id c.args.file.now (c.requires.found tells) in
    none_so (SpendsFor 5 c.args.volume.now (g.P.SectorView.space c.args.space.now) (g.P.SectorView.space c.unlink_last.new.space)) (SpendsShared c.args.id c.args.volume.now (g.P.SectorView.space c.args.space.now) (g.P.SectorView.space c.unlink_last.new.space)) (g.P.SectorView.space c.args.space.now) (g.P.SectorView.space c.unlink_last.new.space) (c.unlink_last.ensures.spends tells)
    (λ five. record { file = it.0; stands = it.1; number = it.2; spends = inr (omega (arith, c.links_in.ensures, c.if-links_in-gt1.false, ap links_in it.3), five) })

pub returns-then-is_empty-clause-spends : goal.returns-then-is_empty-clause-spends
returns-then-is_empty-clause-spends g c tells = inl (omega arith)

pub returns-in-None-clause-spends : goal.returns-in-None-clause-spends
returns-in-None-clause-spends g c tells = inl (omega arith)

pub returns-in_err-copy_name-in-Some-clause-spends : goal.returns-in_err-copy_name-in-Some-clause-spends
returns-in_err-copy_name-in-Some-clause-spends g c tells = inl (omega arith)

pub returns-then-is_empty-clause-edits : goal.returns-then-is_empty-clause-edits
returns-then-is_empty-clause-edits g c = edits_wanting _ g.met.P.SectorView.follows_refl c.requires.serves.stands

pub returns-in-None-clause-edits : goal.returns-in-None-clause-edits
returns-in-None-clause-edits g c = edits_wanting _ g.met.P.SectorView.follows_refl c.requires.serves.stands

pub returns-in_err-copy_name-in-Some-clause-edits : goal.returns-in_err-copy_name-in-Some-clause-edits
returns-in_err-copy_name-in-Some-clause-edits g c = edits_err c.from_residual.ensures.1 (edits_wanting {T = ℕ} _ g.met.P.SectorView.follows_refl c.requires.serves.stands)

pub returns-then-links_in-gt1-clause-leaves : goal.returns-then-links_in-gt1-clause-leaves
returns-then-links_in-gt1-clause-leaves g c tells =
    let v = c.args.volume.now in
    let old = g.P.SectorView.space c.args.space.now in
    let new = g.P.SectorView.space c.unlink.new.space in
    let loses = c.requires.loses tells in
    let it = file_of v old (c.requires.serves.settled tells) (c.requires.serves.stands.stands tells) loses.0 loses.1 c.args.at.now loses.2 (c.requires.link tells) c.args.id loses.3 c.requires.serves.stands.service.fits.next_catalog_id c.args.file.now (c.requires.found tells) in
    ok_so (LeavesOthers 2 v old c.unlink.new.volume new) (LeavesShared c.args.id v old c.unlink.new.volume new) c.unlink.result (c.unlink.ensures.leaves tells)
    (λ two. record { file = it.0; stands = it.1; number = it.2; spends = inl (omega (arith, c.links_in.ensures, c.if-links_in-gt1.true, ap links_in it.3), two) })

pub returns-in_ok-copy_name-in-Some-clause-leaves : goal.returns-in_ok-copy_name-in-Some-clause-leaves
returns-in_ok-copy_name-in-Some-clause-leaves g c tells =
    let v = c.args.volume.now in
    let old = g.P.SectorView.space c.args.space.now in
    let new = g.P.SectorView.space c.unlink_last.new.space in
    let loses = c.requires.loses tells in
    let it = file_of v old (c.requires.serves.settled tells) (c.requires.serves.stands.stands tells) loses.0 loses.1 c.args.at.now loses.2 (c.requires.link tells) c.args.id loses.3 c.requires.serves.stands.service.fits.next_catalog_id c.args.file.now (c.requires.found tells) in
    ok_so (LeavesOthers 5 v old c.unlink_last.new.volume new) (LeavesShared c.args.id v old c.unlink_last.new.volume new) c.unlink_last.result (c.unlink_last.ensures.leaves tells)
    (λ five. record { file = it.0; stands = it.1; number = it.2; spends = inr (omega (arith, c.links_in.ensures, c.if-links_in-gt1.false, ap links_in it.3), five) })
