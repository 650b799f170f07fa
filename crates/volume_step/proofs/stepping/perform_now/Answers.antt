use Rattle.std.proofs.Common.{rules, ◌≡◌, ◌∙◌, true, [], ap, subst, sym, ℕ, List}
use Rattle.std.specs.Prelude.{◌||◌, IfOk, None, Ok}
use Rattle.std.proofs.lemmas.Bool.{true≢false}
use Rattle.hfs_language.specs.declared.command.Command.{Command}
use Rattle.volume_runs.specs.Run.{shrunk_by}
use Rattle.hfs_volume.specs.Content.{volume_of}
use Rattle.hfs_volume.specs.TreeOf.{tree_of}
use Rattle.volume_base.specs.Keeping.{shrunk_of}
use Rattle.hfs_model.specs.Step.{only_reads}
use Rattle.hfs_volume.specs.Weight.{changes_nothing, data_of}
use Rattle.volume_space.specs.Writing.{is_data_met}
use Rattle.volume_step.specs.Steps.{IsMet, ShrinksAs}
use Rattle.volume_step.proofs.Widening.{keeps_shrunk}
use Rattle.volume_step.proofs.Ready.{met_now, ready_done}
use Rattle.volume_step.proofs.ReadyData.{any_ok, no_data_now}
use Rattle.volume_step.specs.Loads.{IsWithinLoad}
use Rattle.hfs_language.specs.declared.command.Command.TheVariants as command
use Rattle.volume_step.proofs.Performed.{performs_own}
use Rattle.volume_step.proofs.Valued.{performs_frees, performs_spills}
use Rattle.volume_step.proofs.stepping.perform_now.Goals as goal

pub returns-in-Trunc-clause-shrunk : goal.returns-in-Trunc-clause-shrunk
returns-in-Trunc-clause-shrunk g c tells = subst (λ (k : Command). IfOk c.resize.result (λ o. ShrinksAs o k (g.P.SectorView.space c.args.space.now).content (shrunk_of c.args.volume.now) (shrunk_of c.resize.new.volume))) (sym c.in-Trunc.is) (c.resize.ensures.shrunk tells)

pub returns-in-Write-clause-shrunk : goal.returns-in-Write-clause-shrunk
returns-in-Write-clause-shrunk g c tells = keeps_shrunk c.args.command.now (g.P.SectorView.space c.args.space.now).content (shrunk_of c.args.volume.now) (shrunk_of c.write_value.new.volume) (ap (λ (k : Command). shrunk_by (tree_of (g.P.SectorView.space c.args.space.now).content) (Ok k)) c.in-Write.is) c.write_value.ensures.shrunk c.write_value.result

pub returns-in-Trunc-clause-ready : goal.returns-in-Trunc-clause-ready
returns-in-Trunc-clause-ready g c tells unread now none_grow =
    c.resize.ensures.ready tells (subst (λ (k : Command). data_of (tree_of (g.P.SectorView.space c.args.space.now).content) k ≡ None) c.in-Trunc.is now.no_data)
    (subst (λ (k : Command). IsMet k c.args.volume.now (g.P.SectorView.space c.args.space.now)) c.in-Trunc.is (met_now c.args.command.now c.args.volume.now (g.P.SectorView.space c.args.space.now) (ap (λ (k : Command). only_reads k || changes_nothing (tree_of (g.P.SectorView.space c.args.space.now).content) k) c.in-Trunc.is) now none_grow))

pub returns-in_default-clause-ready : goal.returns-in_default-clause-ready
returns-in_default-clause-ready g c tells unread now none_grow =
    ready_done c.args.command.now c.args.volume.now (g.P.SectorView.space c.args.space.now) unread now none_grow c.perform_without_data.result (c.perform_without_data.ensures.done tells) (c.perform_without_data.ensures.still tells)

-- ---- data that is put now

pub returns-in-Trunc-clause-puts : goal.returns-in-Trunc-clause-puts
returns-in-Trunc-clause-puts g c tells puts =
    c.resize.ensures.puts tells (subst (λ (k : Command). is_data_met c.args.volume.now (g.P.SectorView.space c.args.space.now).spare (volume_of (g.P.SectorView.space c.args.space.now).content) (data_of (tree_of (g.P.SectorView.space c.args.space.now).content) k) ≡ true) c.in-Trunc.is puts)

pub returns-in-Write-clause-puts : goal.returns-in-Write-clause-puts
returns-in-Write-clause-puts g c tells puts = c.write_value.ensures.puts tells (search (rules, puts))

pub returns-in_default-clause-puts : goal.returns-in_default-clause-puts
returns-in_default-clause-puts g c tells puts =
    no_data_now c.args.volume.now (g.P.SectorView.space c.args.space.now) c.args.command.now puts c.perform_without_data.result c.perform_without_data.ensures.plain

pub returns-in-Trunc-clause-loads : goal.returns-in-Trunc-clause-loads
returns-in-Trunc-clause-loads g c tells = subst (λ (k : Command). IsWithinLoad k c.args.volume.now (g.P.SectorView.space c.args.space.now) (g.P.SectorView.space c.resize.new.space)) (sym c.in-Trunc.is) (c.resize.ensures.loads tells)

pub returns-in-Write-clause-loads : goal.returns-in-Write-clause-loads
returns-in-Write-clause-loads g c tells =
    subst (λ (k : Command). IsWithinLoad k c.args.volume.now (g.P.SectorView.space c.args.space.now) (g.P.SectorView.space c.write_value.new.space)) (sym c.in-Write.is)
    (subst (λ (l : List ℕ). IsWithinLoad (command.Write c.in-Write.path c.in-Write.from l) c.args.volume.now (g.P.SectorView.space c.args.space.now) (g.P.SectorView.space c.write_value.new.space)) c.as_slice.ensures (c.write_value.ensures.loads tells))

pub returns-in-Trunc-clause-frame : goal.returns-in-Trunc-clause-frame
returns-in-Trunc-clause-frame g c = performs_own c.resize.ensures.frame

pub returns-in-Write-clause-frame : goal.returns-in-Write-clause-frame
returns-in-Write-clause-frame g c = performs_own c.write_value.ensures.frame

pub returns-in_default-clause-frame : goal.returns-in_default-clause-frame
returns-in_default-clause-frame g c = performs_own (performs_frees c.perform_without_data.ensures.frees c.perform_without_data.ensures.serves)

-- ---- a value of an attribute

pub returns-in-SetAttr-clause-frame : goal.returns-in-SetAttr-clause-frame
returns-in-SetAttr-clause-frame g c = performs_own (performs_spills c.set_attribute.ensures.spills c.set_attribute.ensures.serves)

pub returns-in-SetAttr-clause-shrunk : goal.returns-in-SetAttr-clause-shrunk
returns-in-SetAttr-clause-shrunk g c tells = keeps_shrunk c.args.command.now (g.P.SectorView.space c.args.space.now).content (shrunk_of c.args.volume.now) (shrunk_of c.set_attribute.new.volume) (ap (λ (k : Command). shrunk_by (tree_of (g.P.SectorView.space c.args.space.now).content) (Ok k)) c.in-SetAttr.is) c.set_attribute.ensures.spills.shrunk c.set_attribute.result

pub returns-in-SetAttr-clause-ready : goal.returns-in-SetAttr-clause-ready
returns-in-SetAttr-clause-ready g c tells unread now none_grow =
    let as_set : command.SetAttr c.in-SetAttr.path c.in-SetAttr.name c.as_slice-in-SetAttr.result.now ≡ c.args.command.now = ap (command.SetAttr c.in-SetAttr.path c.in-SetAttr.name) c.as_slice-in-SetAttr.ensures ∙ sym c.in-SetAttr.is in
    ready_done c.args.command.now c.args.volume.now (g.P.SectorView.space c.args.space.now) unread now none_grow c.set_attribute.result
    (λ met. c.set_attribute.ensures.done tells (subst (λ (k : Command). IsMet k c.args.volume.now (g.P.SectorView.space c.args.space.now)) (sym as_set) met))
    (λ still. absurd (true≢false (sym still ∙ ap (λ (k : Command). changes_nothing (tree_of (g.P.SectorView.space c.args.space.now).content) k) c.in-SetAttr.is)))

pub returns-in-SetAttr-clause-puts : goal.returns-in-SetAttr-clause-puts
returns-in-SetAttr-clause-puts g c tells puts =
    no_data_now c.args.volume.now (g.P.SectorView.space c.args.space.now) c.args.command.now puts c.set_attribute.result (any_ok c.set_attribute.result (λ tree. ap (λ (k : Command). data_of tree k) c.in-SetAttr.is))

pub returns-in-SetAttr-clause-loads : goal.returns-in-SetAttr-clause-loads
returns-in-SetAttr-clause-loads g c tells =
    subst (λ (k : Command). IsWithinLoad k c.args.volume.now (g.P.SectorView.space c.args.space.now) (g.P.SectorView.space c.set_attribute.new.space)) (sym c.in-SetAttr.is)
    (subst (λ (l : List ℕ). IsWithinLoad (command.SetAttr c.in-SetAttr.path c.in-SetAttr.name l) c.args.volume.now (g.P.SectorView.space c.args.space.now) (g.P.SectorView.space c.set_attribute.new.space)) c.as_slice-in-SetAttr.ensures (c.set_attribute.ensures.loads tells))
