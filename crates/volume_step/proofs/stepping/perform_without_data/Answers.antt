use Rattle.std.proofs.Common.{ap, sym, ◌∙◌, subst, ℕ, List}
use Rattle.std.proofs.lemmas.Bool.{true≢false}
use Rattle.std.specs.Prelude.{Ok}
use Rattle.hfs_language.specs.declared.command.Command.{Command}
use Rattle.volume_runs.specs.Run.{shrunk_by}
use Rattle.hfs_volume.specs.TreeOf.{tree_of}
use Rattle.hfs_volume.specs.Weight.{changes_nothing, data_of}
use Rattle.volume_base.specs.Keeping.{shrunk_of}
use Rattle.volume_step.proofs.Widening.{keeps_shrunk}
use Rattle.volume_step.proofs.ReadyData.{any_ok}
use Rattle.volume_step.specs.Loads.{IsWithinLoad}
use Rattle.hfs_language.specs.declared.command.Command.TheVariants as command
use Rattle.volume_base.proofs.Freed.{frees_edits, frees_wanting}
use Rattle.volume_step.proofs.stepping.perform_without_data.Goals as goal

pub returns-in-At-clause-shrunk : goal.returns-in-At-clause-shrunk
returns-in-At-clause-shrunk g c tells = keeps_shrunk c.args.command.now (g.P.SectorView.space c.args.space.now).content (shrunk_of c.args.volume.now) (shrunk_of c.date.new.volume) (ap (λ (k : Command). shrunk_by (tree_of (g.P.SectorView.space c.args.space.now).content) (Ok k)) c.in-At.is) c.date.ensures.edits.blocks.shrunk c.date.result

pub returns-in-Chmod-clause-shrunk : goal.returns-in-Chmod-clause-shrunk
returns-in-Chmod-clause-shrunk g c tells = keeps_shrunk c.args.command.now (g.P.SectorView.space c.args.space.now).content (shrunk_of c.args.volume.now) (shrunk_of c.set_mode.new.volume) (ap (λ (k : Command). shrunk_by (tree_of (g.P.SectorView.space c.args.space.now).content) (Ok k)) c.in-Chmod.is) c.set_mode.ensures.edits.blocks.shrunk c.set_mode.result

pub returns-in-DelAttr-clause-shrunk : goal.returns-in-DelAttr-clause-shrunk
returns-in-DelAttr-clause-shrunk g c tells = keeps_shrunk c.args.command.now (g.P.SectorView.space c.args.space.now).content (shrunk_of c.args.volume.now) (shrunk_of c.delete_attribute.new.volume) (ap (λ (k : Command). shrunk_by (tree_of (g.P.SectorView.space c.args.space.now).content) (Ok k)) c.in-DelAttr.is) c.delete_attribute.ensures.frees.used.shrunk c.delete_attribute.result

pub returns-in-Mkdir-clause-shrunk : goal.returns-in-Mkdir-clause-shrunk
returns-in-Mkdir-clause-shrunk g c tells = keeps_shrunk c.args.command.now (g.P.SectorView.space c.args.space.now).content (shrunk_of c.args.volume.now) (shrunk_of c.make_folder.new.volume) (ap (λ (k : Command). shrunk_by (tree_of (g.P.SectorView.space c.args.space.now).content) (Ok k)) c.in-Mkdir.is) c.make_folder.ensures.edits.blocks.shrunk c.make_folder.result

pub returns-in-Create-clause-shrunk : goal.returns-in-Create-clause-shrunk
returns-in-Create-clause-shrunk g c tells = keeps_shrunk c.args.command.now (g.P.SectorView.space c.args.space.now).content (shrunk_of c.args.volume.now) (shrunk_of c.make_file.new.volume) (ap (λ (k : Command). shrunk_by (tree_of (g.P.SectorView.space c.args.space.now).content) (Ok k)) c.in-Create.is) c.make_file.ensures.edits.blocks.shrunk c.make_file.result

pub returns-in-Mv-clause-shrunk : goal.returns-in-Mv-clause-shrunk
returns-in-Mv-clause-shrunk g c tells = keeps_shrunk c.args.command.now (g.P.SectorView.space c.args.space.now).content (shrunk_of c.args.volume.now) (shrunk_of c.move_entry.new.volume) (ap (λ (k : Command). shrunk_by (tree_of (g.P.SectorView.space c.args.space.now).content) (Ok k)) c.in-Mv.is) c.move_entry.ensures.edits.blocks.shrunk c.move_entry.result

pub returns-in-Rmdir-clause-shrunk : goal.returns-in-Rmdir-clause-shrunk
returns-in-Rmdir-clause-shrunk g c tells = keeps_shrunk c.args.command.now (g.P.SectorView.space c.args.space.now).content (shrunk_of c.args.volume.now) (shrunk_of c.remove_folder.new.volume) (ap (λ (k : Command). shrunk_by (tree_of (g.P.SectorView.space c.args.space.now).content) (Ok k)) c.in-Rmdir.is) c.remove_folder.ensures.frees.used.shrunk c.remove_folder.result

pub returns-in-Rm-clause-shrunk : goal.returns-in-Rm-clause-shrunk
returns-in-Rm-clause-shrunk g c tells = keeps_shrunk c.args.command.now (g.P.SectorView.space c.args.space.now).content (shrunk_of c.args.volume.now) (shrunk_of c.remove_file.new.volume) (ap (λ (k : Command). shrunk_by (tree_of (g.P.SectorView.space c.args.space.now).content) (Ok k)) c.in-Rm.is) c.remove_file.ensures.edits.blocks.shrunk c.remove_file.result

pub returns-in-Ln-clause-shrunk : goal.returns-in-Ln-clause-shrunk
returns-in-Ln-clause-shrunk g c tells = keeps_shrunk c.args.command.now (g.P.SectorView.space c.args.space.now).content (shrunk_of c.args.volume.now) (shrunk_of c.link_file.new.volume) (ap (λ (k : Command). shrunk_by (tree_of (g.P.SectorView.space c.args.space.now).content) (Ok k)) c.in-Ln.is) c.link_file.ensures.edits.blocks.shrunk c.link_file.result

-- ---- no data

pub returns-in-At-clause-plain : goal.returns-in-At-clause-plain
returns-in-At-clause-plain g c = any_ok c.date.result (λ tree. ap (λ (k : Command). data_of tree k) c.in-At.is)

pub returns-in-Chmod-clause-plain : goal.returns-in-Chmod-clause-plain
returns-in-Chmod-clause-plain g c = any_ok c.set_mode.result (λ tree. ap (λ (k : Command). data_of tree k) c.in-Chmod.is)

pub returns-in-DelAttr-clause-plain : goal.returns-in-DelAttr-clause-plain
returns-in-DelAttr-clause-plain g c = any_ok c.delete_attribute.result (λ tree. ap (λ (k : Command). data_of tree k) c.in-DelAttr.is)

pub returns-in-Mkdir-clause-plain : goal.returns-in-Mkdir-clause-plain
returns-in-Mkdir-clause-plain g c = any_ok c.make_folder.result (λ tree. ap (λ (k : Command). data_of tree k) c.in-Mkdir.is)

pub returns-in-Create-clause-plain : goal.returns-in-Create-clause-plain
returns-in-Create-clause-plain g c = any_ok c.make_file.result (λ tree. ap (λ (k : Command). data_of tree k) c.in-Create.is)

pub returns-in-Mv-clause-plain : goal.returns-in-Mv-clause-plain
returns-in-Mv-clause-plain g c = any_ok c.move_entry.result (λ tree. ap (λ (k : Command). data_of tree k) c.in-Mv.is)

pub returns-in-Rmdir-clause-plain : goal.returns-in-Rmdir-clause-plain
returns-in-Rmdir-clause-plain g c = any_ok c.remove_folder.result (λ tree. ap (λ (k : Command). data_of tree k) c.in-Rmdir.is)

pub returns-in-Rm-clause-plain : goal.returns-in-Rm-clause-plain
returns-in-Rm-clause-plain g c = any_ok c.remove_file.result (λ tree. ap (λ (k : Command). data_of tree k) c.in-Rm.is)

pub returns-in-Ln-clause-plain : goal.returns-in-Ln-clause-plain
returns-in-Ln-clause-plain g c = any_ok c.link_file.result (λ tree. ap (λ (k : Command). data_of tree k) c.in-Ln.is)

pub returns-in-Rm-clause-loads : goal.returns-in-Rm-clause-loads
returns-in-Rm-clause-loads g c tells = subst (λ (k : Command). IsWithinLoad k c.args.volume.now (g.P.SectorView.space c.args.space.now) (g.P.SectorView.space c.remove_file.new.space)) (sym c.in-Rm.is) (c.remove_file.ensures.loads tells)

pub returns-in-Ln-clause-loads : goal.returns-in-Ln-clause-loads
returns-in-Ln-clause-loads g c tells = subst (λ (k : Command). IsWithinLoad k c.args.volume.now (g.P.SectorView.space c.args.space.now) (g.P.SectorView.space c.link_file.new.space)) (sym c.in-Ln.is) (c.link_file.ensures.loads tells)

pub returns-in-At-clause-loads : goal.returns-in-At-clause-loads
returns-in-At-clause-loads g c tells = subst (λ (k : Command). IsWithinLoad k c.args.volume.now (g.P.SectorView.space c.args.space.now) (g.P.SectorView.space c.date.new.space)) (sym c.in-At.is) (c.date.ensures.loads tells)

pub returns-in-Chmod-clause-loads : goal.returns-in-Chmod-clause-loads
returns-in-Chmod-clause-loads g c tells = subst (λ (k : Command). IsWithinLoad k c.args.volume.now (g.P.SectorView.space c.args.space.now) (g.P.SectorView.space c.set_mode.new.space)) (sym c.in-Chmod.is) (c.set_mode.ensures.loads tells)

pub returns-in-DelAttr-clause-loads : goal.returns-in-DelAttr-clause-loads
returns-in-DelAttr-clause-loads g c tells = subst (λ (k : Command). IsWithinLoad k c.args.volume.now (g.P.SectorView.space c.args.space.now) (g.P.SectorView.space c.delete_attribute.new.space)) (sym c.in-DelAttr.is) (c.delete_attribute.ensures.loads tells)

pub returns-in-Mkdir-clause-loads : goal.returns-in-Mkdir-clause-loads
returns-in-Mkdir-clause-loads g c tells = subst (λ (k : Command). IsWithinLoad k c.args.volume.now (g.P.SectorView.space c.args.space.now) (g.P.SectorView.space c.make_folder.new.space)) (sym c.in-Mkdir.is) (c.make_folder.ensures.loads tells)

pub returns-in-Create-clause-loads : goal.returns-in-Create-clause-loads
returns-in-Create-clause-loads g c tells = subst (λ (k : Command). IsWithinLoad k c.args.volume.now (g.P.SectorView.space c.args.space.now) (g.P.SectorView.space c.make_file.new.space)) (sym c.in-Create.is) (c.make_file.ensures.loads tells)

pub returns-in-Mv-clause-loads : goal.returns-in-Mv-clause-loads
returns-in-Mv-clause-loads g c tells = subst (λ (k : Command). IsWithinLoad k c.args.volume.now (g.P.SectorView.space c.args.space.now) (g.P.SectorView.space c.move_entry.new.space)) (sym c.in-Mv.is) (c.move_entry.ensures.loads tells)

pub returns-in-Rmdir-clause-loads : goal.returns-in-Rmdir-clause-loads
returns-in-Rmdir-clause-loads g c tells = subst (λ (k : Command). IsWithinLoad k c.args.volume.now (g.P.SectorView.space c.args.space.now) (g.P.SectorView.space c.remove_folder.new.space)) (sym c.in-Rmdir.is) (c.remove_folder.ensures.loads tells)

pub returns-in-At-clause-frees : goal.returns-in-At-clause-frees
returns-in-At-clause-frees g c = frees_edits c.date.ensures.edits

pub returns-in-Chmod-clause-frees : goal.returns-in-Chmod-clause-frees
returns-in-Chmod-clause-frees g c = frees_edits c.set_mode.ensures.edits

pub returns-in-Mkdir-clause-frees : goal.returns-in-Mkdir-clause-frees
returns-in-Mkdir-clause-frees g c = frees_edits c.make_folder.ensures.edits

pub returns-in-Create-clause-frees : goal.returns-in-Create-clause-frees
returns-in-Create-clause-frees g c = frees_edits c.make_file.ensures.edits

pub returns-in-Mv-clause-frees : goal.returns-in-Mv-clause-frees
returns-in-Mv-clause-frees g c = frees_edits c.move_entry.ensures.edits

pub returns-in-Rm-clause-frees : goal.returns-in-Rm-clause-frees
returns-in-Rm-clause-frees g c = frees_edits c.remove_file.ensures.edits

pub returns-in-Ln-clause-frees : goal.returns-in-Ln-clause-frees
returns-in-Ln-clause-frees g c = frees_edits c.link_file.ensures.edits

pub returns-in-Trunc-clause-frees : goal.returns-in-Trunc-clause-frees
returns-in-Trunc-clause-frees g c = frees_wanting g.met.P.SectorView.follows_refl c.requires.serves.stands

-- ---- none of them but `mv` changes nothing

pub returns-in-At-clause-still : goal.returns-in-At-clause-still
returns-in-At-clause-still g c tells rests = absurd (true≢false (sym rests ∙ ap (λ (k : Command). changes_nothing (tree_of (g.P.SectorView.space c.args.space.now).content) k) c.in-At.is))

pub returns-in-Chmod-clause-still : goal.returns-in-Chmod-clause-still
returns-in-Chmod-clause-still g c tells rests = absurd (true≢false (sym rests ∙ ap (λ (k : Command). changes_nothing (tree_of (g.P.SectorView.space c.args.space.now).content) k) c.in-Chmod.is))

pub returns-in-DelAttr-clause-still : goal.returns-in-DelAttr-clause-still
returns-in-DelAttr-clause-still g c tells rests = absurd (true≢false (sym rests ∙ ap (λ (k : Command). changes_nothing (tree_of (g.P.SectorView.space c.args.space.now).content) k) c.in-DelAttr.is))

pub returns-in-Mkdir-clause-still : goal.returns-in-Mkdir-clause-still
returns-in-Mkdir-clause-still g c tells rests = absurd (true≢false (sym rests ∙ ap (λ (k : Command). changes_nothing (tree_of (g.P.SectorView.space c.args.space.now).content) k) c.in-Mkdir.is))

pub returns-in-Create-clause-still : goal.returns-in-Create-clause-still
returns-in-Create-clause-still g c tells rests = absurd (true≢false (sym rests ∙ ap (λ (k : Command). changes_nothing (tree_of (g.P.SectorView.space c.args.space.now).content) k) c.in-Create.is))

pub returns-in-Rmdir-clause-still : goal.returns-in-Rmdir-clause-still
returns-in-Rmdir-clause-still g c tells rests = absurd (true≢false (sym rests ∙ ap (λ (k : Command). changes_nothing (tree_of (g.P.SectorView.space c.args.space.now).content) k) c.in-Rmdir.is))

pub returns-in-Rm-clause-still : goal.returns-in-Rm-clause-still
returns-in-Rm-clause-still g c tells rests = absurd (true≢false (sym rests ∙ ap (λ (k : Command). changes_nothing (tree_of (g.P.SectorView.space c.args.space.now).content) k) c.in-Rm.is))

pub returns-in-Ln-clause-still : goal.returns-in-Ln-clause-still
returns-in-Ln-clause-still g c tells rests = absurd (true≢false (sym rests ∙ ap (λ (k : Command). changes_nothing (tree_of (g.P.SectorView.space c.args.space.now).content) k) c.in-Ln.is))

pub returns-in-Mv-clause-still : goal.returns-in-Mv-clause-still
returns-in-Mv-clause-still g c tells rests = c.move_entry.ensures.still tells (sym (ap (λ (k : Command). changes_nothing (tree_of (g.P.SectorView.space c.args.space.now).content) k) c.in-Mv.is) ∙ rests)
