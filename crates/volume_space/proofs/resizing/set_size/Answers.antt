use Rattle.std.proofs.Common.{◌≡◌, ◌≤◌, false, length, sym, ◌∙◌, ap, subst}
use Rattle.std.specs.Prelude.{Option, IfSome}
use Rattle.cat_records.specs.Fits.{FitsRecord}
use Rattle.catalog.specs.Pairs.{value_at}
use Rattle.hfs_language.specs.declared.command.Command.TheVariants as command
use Rattle.hfs_model.specs.Step.{step}
use Rattle.hfs_volume.specs.Content.{VolumeState}
use Rattle.hfs_volume.specs.Records.{is_thread}
use Rattle.hfs_volume.specs.TreeOf.{tree_of}
use Rattle.volume_space.specs.Resizing.{IsShortened, SetsSize}
use Rattle.volume_base.specs.Standing.{StandsOver, IsSettled}
use Rattle.volume_base.specs.declared.entries.Entry.{Entry}
use Rattle.volume_base.proofs.FoundEntry.{entry_there, not_none, settled_spelled, ok_both}
use Rattle.volume_space.proofs.ShortenedCalls.{entry_file}
use Rattle.volume_base.proofs.Still.{lists_still, settled_still}
use Rattle.volume_space.proofs.Shortened.{size_set, trunc_file}
use Rattle.volume_base.proofs.Framed.{looked_err, looked_ok, looked_then, node_looked, found_ready}
use Rattle.volume_space.proofs.resizing.set_size.Goals as goal

pub entry-requires-clause-spelled : goal.entry-requires-clause-spelled
entry-requires-clause-spelled g c tells = settled_spelled c.args.volume.now (g.P.SectorView.space c.args.space.now).content (c.requires.serves.settled tells)

pub put_size-requires-clause-ready : goal.put_size-requires-clause-ready
put_size-requires-clause-ready g c =
    found_ready c.entry.ensures.looked (λ tells. settled_spelled c.args.volume.now (g.P.SectorView.space c.args.space.now).content (c.requires.serves.settled tells))
    (subst (λ (o : Option Entry). IfSome o (λ entry. length entry.name ≤ 255)) c.in-Some.is c.in_ok-entry.ensures.name)
    (λ tells. let there = c.requires.there tells in let it = entry_there c.args.volume.now (g.P.SectorView.space c.args.space.now).content (c.requires.serves.stands.stands tells).trees (c.requires.serves.settled tells) c.args.id there.0 there.1 there.2 c.in-Some.entry (sym c.in-Some.is ∙ c.in_ok-entry.ensures.found tells) in it.value) c.requires.room

pub put_size-requires-clause-fits : goal.put_size-requires-clause-fits
put_size-requires-clause-fits g c = subst (λ (o : Option Entry). IfSome o (λ entry. is_thread entry.rec ≡ false → FitsRecord entry.rec)) c.in-Some.is c.in_ok-entry.ensures.fits

pub returns-in-Some-clause-does : goal.returns-in-Some-clause-does
returns-in-Some-clause-does g c tells path node allowed number short =
    let it = entry_there c.args.volume.now (g.P.SectorView.space c.args.space.now).content (c.requires.serves.stands.stands tells).trees (c.requires.serves.settled tells) c.args.id node (trunc_file (tree_of (g.P.SectorView.space c.args.space.now).content) path c.args.size node allowed).0 number c.in-Some.entry (sym c.in-Some.is ∙ c.in_ok-entry.ensures.found tells) in
    let there = ap (λ (l : VolumeState). value_at l.catalog_pairs c.in-Some.entry.parent c.in-Some.entry.name) (lists_still c.args.volume.now c.entry.new.self (g.P.SectorView.space c.args.space.now) (g.P.SectorView.space c.entry.new.space) c.entry.ensures.looked.reads tells) ∙ it.value in
    ok_both (StandsOver c.put_size.new.volume (g.P.SectorView.space c.put_size.new.space)) (SetsSize c.entry.new.self.header.modify_date c.args.size c.in-Some.entry c.entry.new.self c.put_size.new.volume (g.P.SectorView.space c.entry.new.space).content (g.P.SectorView.space c.put_size.new.space).content)
    (IsSettled c.put_size.new.volume (g.P.SectorView.space c.put_size.new.space).content × (tree_of (g.P.SectorView.space c.put_size.new.space).content ≡ (step (tree_of (g.P.SectorView.space c.args.space.now).content) (command.Trunc path c.args.size)).1) × IsShortened path c.args.size (g.P.SectorView.space c.args.space.now).content (g.P.SectorView.space c.put_size.new.space).content)
    c.put_size.result c.put_size.ensures.edits.ran.stands (c.put_size.ensures.sets (c.entry.ensures.looked.reads.looks.same.tells ∙ tells) (entry_file c.args.volume.now (g.P.SectorView.space c.args.space.now) c.requires.serves.stands tells (c.requires.serves.settled tells) path c.args.size node allowed c.args.id c.in-Some.entry number it))
    (λ stands sets. size_set c.trunc_does_its_step.ensures c.entry.new.self c.put_size.new.volume (g.P.SectorView.space c.entry.new.space) (g.P.SectorView.space c.put_size.new.space) (settled_still c.args.volume.now c.entry.new.self (g.P.SectorView.space c.args.space.now) (g.P.SectorView.space c.entry.new.space) c.entry.ensures.looked.reads tells (c.requires.serves.settled tells)) c.entry.ensures.looked.stands (c.entry.ensures.looked.reads.looks.same.tells ∙ tells)
    (c.put_size.ensures.edits.ran.touches (g.P.SectorView.space c.args.space.now).content).same.tells c.in-Some.entry c.args.size there (subst (λ (o : Option Entry). IfSome o (λ entry. is_thread entry.rec ≡ false → FitsRecord entry.rec)) c.in-Some.is c.in_ok-entry.ensures.fits) (g.P.SectorView.space c.args.space.now).content (c.entry.ensures.looked.reads.looks.content tells) path node allowed (number ∙ sym it.number) short stands sets)

pub returns-in-None-clause-does : goal.returns-in-None-clause-does
returns-in-None-clause-does g c tells path node allowed number short =
    absurd (not_none c.args.volume.now (g.P.SectorView.space c.args.space.now).content (c.requires.serves.stands.stands tells).trees (c.requires.serves.settled tells) c.args.id node (trunc_file (tree_of (g.P.SectorView.space c.args.space.now).content) path c.args.size node allowed).0 number (sym c.in-None.is ∙ c.in_ok-entry.ensures.found tells))

pub returns-in-Some-clause-rest : goal.returns-in-Some-clause-rest
returns-in-Some-clause-rest g c = c.put_size.ensures.rest ∙ (λ i. record (c.entry.ensures.rest i) { catalog = c.put_size.new.volume.catalog })

pub returns-in-Some-clause-edits : goal.returns-in-Some-clause-edits
returns-in-Some-clause-edits g c = looked_then g.met.P.SectorView.follows_trans c.entry.ensures.looked c.put_size.ensures.edits (node_looked c.entry.ensures.looked)

pub returns-in-None-clause-edits : goal.returns-in-None-clause-edits
returns-in-None-clause-edits g c = looked_ok _ c.entry.ensures.looked

pub returns-in_err-entry-clause-edits : goal.returns-in_err-entry-clause-edits
returns-in_err-entry-clause-edits g c = looked_err _ c.from_residual.ensures.1 c.in_err-entry.ensures.looked
