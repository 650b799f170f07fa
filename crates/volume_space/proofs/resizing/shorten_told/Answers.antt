use Rattle.std.proofs.Common.{◌≡◌, ◌≤◌, ℕ, true, List, refl, sym, ◌∙◌, ap, subst, arith}
use Rattle.std.proofs.lemmas.Bool.{true≢false}
use Rattle.std.specs.Prelude.{Option, Some, None, nat_lt, Result, Ok, if◌then◌else◌}
use Rattle.hfs_language.specs.declared.command.Command.TheVariants as command
use Rattle.hfs_language.specs.declared.reply.Reply.{Reply}
use Rattle.hfs_language.specs.declared.reply.Reply.TheVariants as reply
use Rattle.hfs_model.specs.Step.{Step}
use Rattle.hfs_volume.specs.TreeOf.{tree_of}
use Rattle.volume_base.specs.declared.volume.Volume.{Volume}
use Rattle.volume_base.proofs.Commanding.{touches_none}
use Rattle.volume_space.proofs.Shortened.{trunc_file}
use Rattle.volume_space.proofs.ShortenedCalls.{refused_told, service_then, settled_then, stands_then, trunc_load}
use Rattle.volume_base.proofs.ToldFile.{long_data, short_data, shrunk_told, told_node, trunc_line, trunc_told, trunc_tree}
use Rattle.volume_space.proofs.resizing.shorten_told.Goals as goal

pub set_size-requires-clause-there : goal.set_size-requires-clause-there
set_size-requires-clause-there g c tells =
    let it = told_node (tree_of (g.P.SectorView.space c.args.space.now).content) c.args._path.now c.args.told.now (c.requires.told tells) in
    let about = trunc_told (tree_of (g.P.SectorView.space c.args.space.now).content) c.args._path.now c.args.told.now it c.args.size (sym c.in_default.is ∙ c.against_trunc.ensures) in
    (it.node, (trunc_file (tree_of (g.P.SectorView.space c.args.space.now).content) c.args._path.now c.args.size it.node about.1).0, about.0.id)

pub returns-clause-reply : goal.returns-clause-reply
returns-clause-reply g c tells =
    let it = told_node (tree_of (g.P.SectorView.space c.args.space.now).content) c.args._path.now c.args.told.now (c.requires.told tells) in
    let about = trunc_told (tree_of (g.P.SectorView.space c.args.space.now).content) c.args._path.now c.args.told.now it c.args.size (sym c.in_default.is ∙ c.against_trunc.ensures) in
    sym (ap (λ (s : Step). s.0) (trunc_line (tree_of (g.P.SectorView.space c.args.space.now).content) c.args._path.now c.args.told.now it.node about.0 c.args.size about.1))

pub returns-clause-tree : goal.returns-clause-tree
returns-clause-tree g c tells =
    let it = told_node (tree_of (g.P.SectorView.space c.args.space.now).content) c.args._path.now c.args.told.now (c.requires.told tells) in
    let about = trunc_told (tree_of (g.P.SectorView.space c.args.space.now).content) c.args._path.now c.args.told.now it c.args.size (sym c.in_default.is ∙ c.against_trunc.ensures) in
    let does = c.in_ok-set_size.ensures.does tells c.args._path.now it.node about.1 about.0.id (subst (λ n. c.args.size ≤ n) (sym about.0.size) c.if-told-size.false) in
    does.1 ∙ trunc_tree (tree_of (g.P.SectorView.space c.args.space.now).content) c.args._path.now c.args.told.now it.node about.0 c.args.size

pub returns-clause-refused : goal.returns-clause-refused
returns-clause-refused g c tells is = absurd (true≢false (sym is))

pub returns-clause-lists : goal.returns-clause-lists
returns-clause-lists g c tells said =
    let it = told_node (tree_of (g.P.SectorView.space c.args.space.now).content) c.args._path.now c.args.told.now (c.requires.told tells) in
    let about = trunc_told (tree_of (g.P.SectorView.space c.args.space.now).content) c.args._path.now c.args.told.now it c.args.size (sym c.in_default.is ∙ c.against_trunc.ensures) in
    let does = c.in_ok-set_size.ensures.does tells c.args._path.now it.node about.1 about.0.id (subst (λ n. c.args.size ≤ n) (sym about.0.size) c.if-told-size.false) in
    does.2

pub returns-clause-shrunk : goal.returns-clause-shrunk
returns-clause-shrunk g c tells =
    let it = told_node (tree_of (g.P.SectorView.space c.args.space.now).content) c.args._path.now c.args.told.now (c.requires.told tells) in
    let about = trunc_told (tree_of (g.P.SectorView.space c.args.space.now).content) c.args._path.now c.args.told.now it c.args.size (sym c.in_default.is ∙ c.against_trunc.ensures) in
    c.shrunk_after-volume.ensures ∙ ap (λ (o : Option ℕ). if nat_lt c.args.size c.args.told.now.size then Some c.args.told.now.id else o) (ap (λ (x : Volume). x.shrunk) c.set_size.ensures.rest)
    ∙ shrunk_told (tree_of (g.P.SectorView.space c.args.space.now).content) c.args._path.now c.args.told.now it.node about.0 c.args.size c.args.volume.now.shrunk

pub returns-clause-stands : goal.returns-clause-stands
returns-clause-stands g c = stands_then c.set_size.new.volume c.shrunk_after-volume.result (g.P.SectorView.space c.set_size.new.space) c.in_ok-set_size.ensures.edits.ran.stands

pub returns-clause-settled : goal.returns-clause-settled
returns-clause-settled g c tells =
    let it = told_node (tree_of (g.P.SectorView.space c.args.space.now).content) c.args._path.now c.args.told.now (c.requires.told tells) in
    let about = trunc_told (tree_of (g.P.SectorView.space c.args.space.now).content) c.args._path.now c.args.told.now it c.args.size (sym c.in_default.is ∙ c.against_trunc.ensures) in
    let does = c.in_ok-set_size.ensures.does tells c.args._path.now it.node about.1 about.0.id (subst (λ n. c.args.size ≤ n) (sym about.0.size) c.if-told-size.false) in
    settled_then c.set_size.new.volume c.shrunk_after-volume.result (g.P.SectorView.space c.set_size.new.space).content does.0

pub returns-clause-service : goal.returns-clause-service
returns-clause-service g c = service_then c.set_size.new.volume c.shrunk_after-volume.result (g.P.SectorView.space c.set_size.new.space) c.set_size.ensures.edits.ran.service

pub returns-clause-loads : goal.returns-clause-loads
returns-clause-loads g c tells n grow is =
    let it = told_node (tree_of (g.P.SectorView.space c.args.space.now).content) c.args._path.now c.args.told.now (c.requires.told tells) in
    let about = trunc_told (tree_of (g.P.SectorView.space c.args.space.now).content) c.args._path.now c.args.told.now it c.args.size (sym c.in_default.is ∙ c.against_trunc.ensures) in
    omega (arith, c.set_size.ensures.edits.ran.spent tells, trunc_load c.args.volume.now (g.P.SectorView.space c.args.space.now).content (c.requires.settled tells) c.args.volume.now.capacity c.args.size c.args._path.now (tree_of (g.P.SectorView.space c.args.space.now).content) (short_data (tree_of (g.P.SectorView.space c.args.space.now).content) c.args._path.now c.args.told.now it.node about.0 c.args.size c.if-told-size.false) n grow is)

pub returns-in_err-set_size-clause-loads : goal.returns-in_err-set_size-clause-loads
returns-in_err-set_size-clause-loads g c tells n grow is =
    let it = told_node (tree_of (g.P.SectorView.space c.args.space.now).content) c.args._path.now c.args.told.now (c.requires.told tells) in
    let about = trunc_told (tree_of (g.P.SectorView.space c.args.space.now).content) c.args._path.now c.args.told.now it c.args.size (sym c.in_default.is ∙ c.against_trunc.ensures) in
    omega (arith, c.set_size.ensures.edits.ran.spent tells, trunc_load c.args.volume.now (g.P.SectorView.space c.args.space.now).content (c.requires.settled tells) c.args.volume.now.capacity c.args.size c.args._path.now (tree_of (g.P.SectorView.space c.args.space.now).content) (short_data (tree_of (g.P.SectorView.space c.args.space.now).content) c.args._path.now c.args.told.now it.node about.0 c.args.size c.if-told-size.false) n grow is)

pub returns-then-told-size-clause-grows : goal.returns-then-told-size-clause-grows
returns-then-told-size-clause-grows g c tells =
    let it = told_node (tree_of (g.P.SectorView.space c.args.space.now).content) c.args._path.now c.args.told.now (c.requires.told tells) in
    let about = trunc_told (tree_of (g.P.SectorView.space c.args.space.now).content) c.args._path.now c.args.told.now it c.args.size (sym c.in_default.is ∙ c.against_trunc.ensures) in
    (long_data (tree_of (g.P.SectorView.space c.args.space.now).content) c.args._path.now c.args.told.now it.node about.0 c.args.size c.if-told-size.true, refl)

pub returns-then-told-size-clause-touches : goal.returns-then-told-size-clause-touches
returns-then-told-size-clause-touches g c committed = touches_none committed _ (g.P.SectorView.space c.args.space.now)

pub returns-then-told-size-clause-service : goal.returns-then-told-size-clause-service
returns-then-told-size-clause-service g c = c.requires.stands.service

pub returns-in-Some-clause-reply : goal.returns-in-Some-clause-reply
returns-in-Some-clause-reply g c tells = (refused_told (tree_of (g.P.SectorView.space c.args.space.now).content) c.args._path.now c.args.size c.args.told.now (c.requires.told tells) c.in-Some.why (sym c.in-Some.is ∙ c.against_trunc.ensures)).0

pub returns-in-Some-clause-tree : goal.returns-in-Some-clause-tree
returns-in-Some-clause-tree g c tells = (refused_told (tree_of (g.P.SectorView.space c.args.space.now).content) c.args._path.now c.args.size c.args.told.now (c.requires.told tells) c.in-Some.why (sym c.in-Some.is ∙ c.against_trunc.ensures)).1

pub returns-in-Some-clause-lists : goal.returns-in-Some-clause-lists
returns-in-Some-clause-lists g c tells said = absurd (let no : Some (reply.No c.in-Some.why) ≡ Some reply.Ok = said in cc no)

pub returns-in-Some-clause-touches : goal.returns-in-Some-clause-touches
returns-in-Some-clause-touches g c committed = touches_none committed _ (g.P.SectorView.space c.args.space.now)

pub returns-in-Some-clause-service : goal.returns-in-Some-clause-service
returns-in-Some-clause-service g c = c.requires.stands.service
