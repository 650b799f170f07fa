use Rattle.std.proofs.Common.{◌≡◌, ◌≤◌, ℕ, List, length, sym, ◌∙◌, ap, subst}
use Rattle.std.specs.List.{All}
use Rattle.std.specs.Prelude.{Ok}
use Rattle.btree_file.specs.Standing.{pairs_in}
use Rattle.btree_file.specs.State.{sectors_of_tree}
use Rattle.hfs_language.specs.declared.command.Command.TheVariants as command
use Rattle.hfs_language.specs.declared.reply.Reply.{Reply}
use Rattle.hfs_model.specs.Step.{step_line}
use Rattle.hfs_volume.specs.TreeOf.{tree_of}
use Rattle.volume_base.specs.Stating.{facts_in}
use Rattle.volume_base.proofs.Listed.{fits_short, facts_is}
use Rattle.volume_base.proofs.Seeing.{if_so}
use Rattle.volume_base.proofs.Still.{catalog_over}
use Rattle.volume_base.proofs.Framed.{serves_still}
use Rattle.volume_base.proofs.Looked.{catalog_looked, looked_none}
use Rattle.volume_base.proofs.volume.Volume.stat.Goals as goal

pub tell_facts-requires-clause-over : goal.tell_facts-requires-clause-over
tell_facts-requires-clause-over g c = catalog_over c.args.self.now (g.P.SectorView.space c.args.space.now) c.requires.serves.stands c.requires.serves.settled

pub tell_facts-requires-clause-names : goal.tell_facts-requires-clause-names
tell_facts-requires-clause-names g c = subst (λ (p : List (List ℕ)). All (λ (name : List ℕ). length name ≤ 255) p) (sym c.as_slice.ensures) (fits_short c.args.path.now c.requires.fits)

pub returns-clause-reply : goal.returns-clause-reply
returns-clause-reply g c tells =
    let v = c.args.self.now in
    let content = (g.P.SectorView.space c.args.space.now).content in
    if_so (λ (r : Reply). r ≡ facts_in (pairs_in (sectors_of_tree v.catalog.file) content) v.private c.as_slice.result.now) (λ (r : Reply). r ≡ (step_line (tree_of content) (Ok (command.Stat c.args.path.now))).0) c.tell_facts.result
    (λ r is. is ∙ ap (λ (p : List (List ℕ)). facts_in (pairs_in (sectors_of_tree v.catalog.file) content) v.private p) c.as_slice.ensures
    ∙ facts_is c.sound_has_plain_tree.ensures v content (c.requires.serves.stands.stands tells).trees (c.requires.serves.settled tells) c.args.path.now (sym c.is_private_path.ensures ∙ c.if-is_private_path.false) c.requires.fits)
    (c.tell_facts.ensures.reply tells)

pub returns-clause-looked : goal.returns-clause-looked
returns-clause-looked g c = catalog_looked c.tell_facts.ensures.below c.tell_facts.ensures.cause c.requires.serves.stands c.tell_facts.ensures.reads c.tell_facts.ensures.over

pub returns-clause-serves : goal.returns-clause-serves
returns-clause-serves g c = serves_still (returns-clause-looked g c) c.requires.serves

pub returns-then-is_private_path-clause-looked : goal.returns-then-is_private_path-clause-looked
returns-then-is_private_path-clause-looked g c = looked_none g.met.P.SectorView.follows_refl c.requires.serves.stands
