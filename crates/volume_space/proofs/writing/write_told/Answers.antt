use Rattle.std.proofs.Common.{◌≡◌, ◌⊎◌, inl, ⊎_elim, ◌-◌, true, false, length, refl, sym, ◌∙◌, ap, subst, arith}
use Rattle.std.specs.Prelude.{Option, Some}
use Rattle.std.proofs.lemmas.Bool.{true≢false}
use Rattle.hfs_language.specs.declared.command.Command.TheVariants as command
use Rattle.hfs_language.specs.declared.reply.Reply.TheVariants as reply
use Rattle.hfs_model.specs.Step.{Step}
use Rattle.hfs_volume.specs.Content.{volume_of}
use Rattle.hfs_volume.specs.Forks.{data_kind}
use Rattle.hfs_volume.specs.TreeOf.{tree_of}
use Rattle.hfs_volume.specs.Weight.{Data}
use Rattle.volume_space.specs.Writing.{PutsAt, is_data_met, is_put_now}
use Rattle.volume_base.proofs.Commanding.{touches_none}
use Rattle.volume_space.proofs.PutDone.{data_done, write_done}
use Rattle.volume_space.proofs.PutFile.{records_are}
use Rattle.volume_space.proofs.PutLoads.{some_data, write_loaded}
use Rattle.volume_space.proofs.PutTold.{done_not_refused, file_there, put_by_write, write_at, write_data, write_id, write_line, write_refused_told, write_small, write_tree}
use Rattle.volume_base.proofs.ToldFile.{empty_data, empty_line, told_node, write_told}
use Rattle.volume_space.proofs.writing.write_told.Goals as goal

pub put_data-requires-clause-some : goal.put_data-requires-clause-some
put_data-requires-clause-some g c = (c.is_nothing.ensures.some c.if-is_nothing.false)

pub put_data-requires-clause-small : goal.put_data-requires-clause-small
put_data-requires-clause-small g c = write_small c.args.from (length c.args.value.now) c.args.told.now (sym c.in_default.is ∙ c.against_write.ensures)

pub put_data-requires-clause-there : goal.put_data-requires-clause-there
put_data-requires-clause-there g c tells =
    let it = told_node (tree_of (g.P.SectorView.space c.args.space.now).content) c.args._path.now c.args.told.now (c.requires.told tells) in
    let about = write_told (tree_of (g.P.SectorView.space c.args.space.now).content) c.args._path.now c.args.told.now it c.args.from c.args.value.now (sym c.in_default.is ∙ c.against_write.ensures) in
    let there = file_there (tree_of (g.P.SectorView.space c.args.space.now).content) c.args._path.now it.node about.0.file in
    (it.node, there.0, about.0.id, there.1)

pub returns-then-put-clause-reply : goal.returns-then-put-clause-reply
returns-then-put-clause-reply g c tells =
    let it = told_node (tree_of (g.P.SectorView.space c.args.space.now).content) c.args._path.now c.args.told.now (c.requires.told tells) in
    let about = write_told (tree_of (g.P.SectorView.space c.args.space.now).content) c.args._path.now c.args.told.now it c.args.from c.args.value.now (sym c.in_default.is ∙ c.against_write.ensures) in
    sym (ap (λ (s : Step). s.0) (write_line (tree_of (g.P.SectorView.space c.args.space.now).content) c.args._path.now c.args.told.now it.node about.0 c.args.from c.args.value.now about.1))

pub returns-then-put-clause-tree : goal.returns-then-put-clause-tree
returns-then-put-clause-tree g c tells =
    let it = told_node (tree_of (g.P.SectorView.space c.args.space.now).content) c.args._path.now c.args.told.now (c.requires.told tells) in
    let about = write_told (tree_of (g.P.SectorView.space c.args.space.now).content) c.args._path.now c.args.told.now it c.args.from c.args.value.now (sym c.in_default.is ∙ c.against_write.ensures) in
    let there = file_there (tree_of (g.P.SectorView.space c.args.space.now).content) c.args._path.now it.node about.0.file in
    let does = write_done c.args.volume.now c.put_data.new.volume (g.P.SectorView.space c.args.space.now) (g.P.SectorView.space c.put_data.new.space).content c.requires.stands tells (c.requires.settled tells) it.node there.0 there.1 c.args.from c.args.value.now (subst (λ id. PutsAt data_kind id c.args.from c.args.value.now c.args.volume.now c.put_data.new.volume (g.P.SectorView.space c.args.space.now).content (g.P.SectorView.space c.put_data.new.space).content) (sym about.0.id) (c.in_ok-put.ensures.puts tells c.if-put.true)) c.write_does_its_step.ensures c.args._path.now (c.is_nothing.ensures.some c.if-is_nothing.false) about.1 in
    does.1 ∙ write_tree (tree_of (g.P.SectorView.space c.args.space.now).content) c.args._path.now c.args.told.now it.node about.0 c.args.from c.args.value.now

pub returns-then-put-clause-settled : goal.returns-then-put-clause-settled
returns-then-put-clause-settled g c tells =
    let it = told_node (tree_of (g.P.SectorView.space c.args.space.now).content) c.args._path.now c.args.told.now (c.requires.told tells) in
    let about = write_told (tree_of (g.P.SectorView.space c.args.space.now).content) c.args._path.now c.args.told.now it c.args.from c.args.value.now (sym c.in_default.is ∙ c.against_write.ensures) in
    let there = file_there (tree_of (g.P.SectorView.space c.args.space.now).content) c.args._path.now it.node about.0.file in
    let does = write_done c.args.volume.now c.put_data.new.volume (g.P.SectorView.space c.args.space.now) (g.P.SectorView.space c.put_data.new.space).content c.requires.stands tells (c.requires.settled tells) it.node there.0 there.1 c.args.from c.args.value.now (subst (λ id. PutsAt data_kind id c.args.from c.args.value.now c.args.volume.now c.put_data.new.volume (g.P.SectorView.space c.args.space.now).content (g.P.SectorView.space c.put_data.new.space).content) (sym about.0.id) (c.in_ok-put.ensures.puts tells c.if-put.true)) c.write_does_its_step.ensures c.args._path.now (c.is_nothing.ensures.some c.if-is_nothing.false) about.1 in
    does.0

pub returns-then-put-clause-refused : goal.returns-then-put-clause-refused
returns-then-put-clause-refused g c tells is = absurd (true≢false (sym is))

pub returns-then-put-clause-lists : goal.returns-then-put-clause-lists
returns-then-put-clause-lists g c tells said =
    let it = told_node (tree_of (g.P.SectorView.space c.args.space.now).content) c.args._path.now c.args.told.now (c.requires.told tells) in
    let about = write_told (tree_of (g.P.SectorView.space c.args.space.now).content) c.args._path.now c.args.told.now it c.args.from c.args.value.now (sym c.in_default.is ∙ c.against_write.ensures) in
    let there = file_there (tree_of (g.P.SectorView.space c.args.space.now).content) c.args._path.now it.node about.0.file in
    data_done c.args.volume.now c.put_data.new.volume (g.P.SectorView.space c.args.space.now) (g.P.SectorView.space c.put_data.new.space).content c.requires.stands tells (c.requires.settled tells) it.node there.0 there.1 c.args.from c.args.value.now (subst (λ id. PutsAt data_kind id c.args.from c.args.value.now c.args.volume.now c.put_data.new.volume (g.P.SectorView.space c.args.space.now).content (g.P.SectorView.space c.put_data.new.space).content) (sym about.0.id) (c.in_ok-put.ensures.puts tells c.if-put.true)) (put_by_write (tree_of (g.P.SectorView.space c.args.space.now).content) c.args._path.now c.args.told.now it.node about.0 c.args.from c.args.value.now) ((write_id (tree_of (g.P.SectorView.space c.args.space.now).content) c.args._path.now c.args.told.now it.node about.0 c.args.from c.args.value.now) ∙ sym about.0.id) (write_at (tree_of (g.P.SectorView.space c.args.space.now).content) c.args._path.now c.args.told.now it.node about.0 c.args.from c.args.value.now (c.is_nothing.ensures.some c.if-is_nothing.false)) (c.in_ok-put.ensures.no_cut tells it.node there.0 about.0.id there.1 (put_by_write (tree_of (g.P.SectorView.space c.args.space.now).content) c.args._path.now c.args.told.now it.node about.0 c.args.from c.args.value.now) (write_id (tree_of (g.P.SectorView.space c.args.space.now).content) c.args._path.now c.args.told.now it.node about.0 c.args.from c.args.value.now) (write_at (tree_of (g.P.SectorView.space c.args.space.now).content) c.args._path.now c.args.told.now it.node about.0 c.args.from c.args.value.now (c.is_nothing.ensures.some c.if-is_nothing.false)) c.if-put.true) c.rewrite_puts_its_blocks_alone.ensures (command.Write c.args._path.now c.args.from c.args.value.now) (write_data (tree_of (g.P.SectorView.space c.args.space.now).content) c.args._path.now c.args.told.now it.node about.0 c.args.from c.args.value.now (c.is_nothing.ensures.some c.if-is_nothing.false))

pub returns-clause-waits : goal.returns-clause-waits
returns-clause-waits g c tells = (c.in_ok-put.ensures.waits tells c.if-put.false).1

pub returns-clause-settled : goal.returns-clause-settled
returns-clause-settled g c tells = (c.in_ok-put.ensures.waits tells c.if-put.false).0

pub returns-clause-waiting : goal.returns-clause-waiting
returns-clause-waiting g c tells =
    let it = told_node (tree_of (g.P.SectorView.space c.args.space.now).content) c.args._path.now c.args.told.now (c.requires.told tells) in
    let about = write_told (tree_of (g.P.SectorView.space c.args.space.now).content) c.args._path.now c.args.told.now it c.args.from c.args.value.now (sym c.in_default.is ∙ c.against_write.ensures) in
    done_not_refused _ _ (write_line (tree_of (g.P.SectorView.space c.args.space.now).content) c.args._path.now c.args.told.now it.node about.0 c.args.from c.args.value.now about.1) refl

pub returns-clause-exactly : goal.returns-clause-exactly
returns-clause-exactly g c tells =
    let it = told_node (tree_of (g.P.SectorView.space c.args.space.now).content) c.args._path.now c.args.told.now (c.requires.told tells) in
    let about = write_told (tree_of (g.P.SectorView.space c.args.space.now).content) c.args._path.now c.args.told.now it c.args.from c.args.value.now (sym c.in_default.is ∙ c.against_write.ensures) in
    let there = file_there (tree_of (g.P.SectorView.space c.args.space.now).content) c.args._path.now it.node about.0.file in
    ap (λ (o : Option Data). is_put_now c.args.volume.now (g.P.SectorView.space c.args.space.now).spare (volume_of (g.P.SectorView.space c.args.space.now).content) o) (write_data (tree_of (g.P.SectorView.space c.args.space.now).content) c.args._path.now c.args.told.now it.node about.0 c.args.from c.args.value.now (c.is_nothing.ensures.some c.if-is_nothing.false)) ∙ c.in_ok-put.ensures.exactly tells it.node there.0 about.0.id there.1 (put_by_write (tree_of (g.P.SectorView.space c.args.space.now).content) c.args._path.now c.args.told.now it.node about.0 c.args.from c.args.value.now) (write_id (tree_of (g.P.SectorView.space c.args.space.now).content) c.args._path.now c.args.told.now it.node about.0 c.args.from c.args.value.now) (write_at (tree_of (g.P.SectorView.space c.args.space.now).content) c.args._path.now c.args.told.now it.node about.0 c.args.from c.args.value.now (c.is_nothing.ensures.some c.if-is_nothing.false)) c.if-put.false

pub returns-clause-met : goal.returns-clause-met
returns-clause-met g c tells =
    let it = told_node (tree_of (g.P.SectorView.space c.args.space.now).content) c.args._path.now c.args.told.now (c.requires.told tells) in
    let about = write_told (tree_of (g.P.SectorView.space c.args.space.now).content) c.args._path.now c.args.told.now it c.args.from c.args.value.now (sym c.in_default.is ∙ c.against_write.ensures) in
    let there = file_there (tree_of (g.P.SectorView.space c.args.space.now).content) c.args._path.now it.node about.0.file in
    ap (λ (o : Option Data). is_data_met c.args.volume.now (g.P.SectorView.space c.args.space.now).spare (volume_of (g.P.SectorView.space c.args.space.now).content) o) (write_data (tree_of (g.P.SectorView.space c.args.space.now).content) c.args._path.now c.args.told.now it.node about.0 c.args.from c.args.value.now (c.is_nothing.ensures.some c.if-is_nothing.false)) ∙ c.in_ok-put.ensures.met tells it.node there.0 about.0.id there.1 (put_by_write (tree_of (g.P.SectorView.space c.args.space.now).content) c.args._path.now c.args.told.now it.node about.0 c.args.from c.args.value.now) (write_id (tree_of (g.P.SectorView.space c.args.space.now).content) c.args._path.now c.args.told.now it.node about.0 c.args.from c.args.value.now) (write_at (tree_of (g.P.SectorView.space c.args.space.now).content) c.args._path.now c.args.told.now it.node about.0 c.args.from c.args.value.now (c.is_nothing.ensures.some c.if-is_nothing.false)) c.if-put.false

pub returns-then-put-clause-loads : goal.returns-then-put-clause-loads
returns-then-put-clause-loads g c tells n grow is =
    let v = c.args.volume.now in
    let a = g.P.SectorView.space c.args.space.now in
    let tree = tree_of a.content in
    let it = told_node tree c.args._path.now c.args.told.now (c.requires.told tells) in
    let about = write_told tree c.args._path.now c.args.told.now it c.args.from c.args.value.now (sym c.in_default.is ∙ c.against_write.ensures) in
    let there = file_there tree c.args._path.now it.node about.0.file in
    let put = put_by_write tree c.args._path.now c.args.told.now it.node about.0 c.args.from c.args.value.now in
    let at = write_at tree c.args._path.now c.args.told.now it.node about.0 c.args.from c.args.value.now (c.is_nothing.ensures.some c.if-is_nothing.false) in
    let has = write_data tree c.args._path.now c.args.told.now it.node about.0 c.args.from c.args.value.now (c.is_nothing.ensures.some c.if-is_nothing.false) in
    ⊎_elim (λ none_put. omega (arith, none_put))
    (λ some_put. omega (
      arith,
      some_put.1,
      write_loaded v a.content (c.requires.settled tells) v.capacity tree c.args._path.now put some_put.0 (records_are data_kind (inl refl) v a c.requires.stands tells (c.requires.settled tells) it.node there.0 there.1 put c.args.from (length c.args.value.now) (write_id tree c.args._path.now c.args.told.now it.node about.0 c.args.from c.args.value.now ∙ sym about.0.id) at) (some_data v put (length it.node.bytes) c.args.from (length c.args.value.now) at (omega (arith, c.requires.stands.service.least)) (c.is_nothing.ensures.some c.if-is_nothing.false)) n grow c.args.from c.args.value.now has is,
    ))
    (c.put_data.ensures.spent tells it.node there.0 about.0.id there.1 put (write_id tree c.args._path.now c.args.told.now it.node about.0 c.args.from c.args.value.now) at)

pub returns-then-put-clause-service : goal.returns-then-put-clause-service
returns-then-put-clause-service g c = c.put_data.ensures.service

pub returns-clause-loads : goal.returns-clause-loads
returns-clause-loads g c tells n grow is =
    let v = c.args.volume.now in
    let a = g.P.SectorView.space c.args.space.now in
    let tree = tree_of a.content in
    let it = told_node tree c.args._path.now c.args.told.now (c.requires.told tells) in
    let about = write_told tree c.args._path.now c.args.told.now it c.args.from c.args.value.now (sym c.in_default.is ∙ c.against_write.ensures) in
    let there = file_there tree c.args._path.now it.node about.0.file in
    let put = put_by_write tree c.args._path.now c.args.told.now it.node about.0 c.args.from c.args.value.now in
    let at = write_at tree c.args._path.now c.args.told.now it.node about.0 c.args.from c.args.value.now (c.is_nothing.ensures.some c.if-is_nothing.false) in
    let has = write_data tree c.args._path.now c.args.told.now it.node about.0 c.args.from c.args.value.now (c.is_nothing.ensures.some c.if-is_nothing.false) in
    ⊎_elim (λ none_put. omega (arith, none_put))
    (λ some_put. omega (
      arith,
      some_put.1,
      write_loaded v a.content (c.requires.settled tells) v.capacity tree c.args._path.now put some_put.0 (records_are data_kind (inl refl) v a c.requires.stands tells (c.requires.settled tells) it.node there.0 there.1 put c.args.from (length c.args.value.now) (write_id tree c.args._path.now c.args.told.now it.node about.0 c.args.from c.args.value.now ∙ sym about.0.id) at) (some_data v put (length it.node.bytes) c.args.from (length c.args.value.now) at (omega (arith, c.requires.stands.service.least)) (c.is_nothing.ensures.some c.if-is_nothing.false)) n grow c.args.from c.args.value.now has is,
    ))
    (c.put_data.ensures.spent tells it.node there.0 about.0.id there.1 put (write_id tree c.args._path.now c.args.told.now it.node about.0 c.args.from c.args.value.now) at)

pub returns-clause-service : goal.returns-clause-service
returns-clause-service g c = c.put_data.ensures.service

pub returns-in_err-put-clause-loads : goal.returns-in_err-put-clause-loads
returns-in_err-put-clause-loads g c tells n grow is =
    let v = c.args.volume.now in
    let a = g.P.SectorView.space c.args.space.now in
    let tree = tree_of a.content in
    let it = told_node tree c.args._path.now c.args.told.now (c.requires.told tells) in
    let about = write_told tree c.args._path.now c.args.told.now it c.args.from c.args.value.now (sym c.in_default.is ∙ c.against_write.ensures) in
    let there = file_there tree c.args._path.now it.node about.0.file in
    let put = put_by_write tree c.args._path.now c.args.told.now it.node about.0 c.args.from c.args.value.now in
    let at = write_at tree c.args._path.now c.args.told.now it.node about.0 c.args.from c.args.value.now (c.is_nothing.ensures.some c.if-is_nothing.false) in
    let has = write_data tree c.args._path.now c.args.told.now it.node about.0 c.args.from c.args.value.now (c.is_nothing.ensures.some c.if-is_nothing.false) in
    ⊎_elim (λ none_put. omega (arith, none_put))
    (λ some_put. omega (
      arith,
      some_put.1,
      write_loaded v a.content (c.requires.settled tells) v.capacity tree c.args._path.now put some_put.0 (records_are data_kind (inl refl) v a c.requires.stands tells (c.requires.settled tells) it.node there.0 there.1 put c.args.from (length c.args.value.now) (write_id tree c.args._path.now c.args.told.now it.node about.0 c.args.from c.args.value.now ∙ sym about.0.id) at) (some_data v put (length it.node.bytes) c.args.from (length c.args.value.now) at (omega (arith, c.requires.stands.service.least)) (c.is_nothing.ensures.some c.if-is_nothing.false)) n grow c.args.from c.args.value.now has is,
    ))
    (c.put_data.ensures.spent tells it.node there.0 about.0.id there.1 put (write_id tree c.args._path.now c.args.told.now it.node about.0 c.args.from c.args.value.now) at)

pub returns-in_err-put-clause-service : goal.returns-in_err-put-clause-service
returns-in_err-put-clause-service g c = c.put_data.ensures.service

pub returns-then-is_nothing-clause-waiting : goal.returns-then-is_nothing-clause-waiting
returns-then-is_nothing-clause-waiting g c tells =
    let it = told_node (tree_of (g.P.SectorView.space c.args.space.now).content) c.args._path.now c.args.told.now (c.requires.told tells) in
    let about = write_told (tree_of (g.P.SectorView.space c.args.space.now).content) c.args._path.now c.args.told.now it c.args.from c.args.value.now (sym c.in_default.is ∙ c.against_write.ensures) in
    done_not_refused _ _ (empty_line (tree_of (g.P.SectorView.space c.args.space.now).content) c.args._path.now c.args.told.now it.node about.0 c.args.from c.args.value.now (c.is_nothing.ensures.none c.if-is_nothing.true) about.1) refl

pub returns-then-is_nothing-clause-exactly : goal.returns-then-is_nothing-clause-exactly
returns-then-is_nothing-clause-exactly g c tells =
    let it = told_node (tree_of (g.P.SectorView.space c.args.space.now).content) c.args._path.now c.args.told.now (c.requires.told tells) in
    let about = write_told (tree_of (g.P.SectorView.space c.args.space.now).content) c.args._path.now c.args.told.now it c.args.from c.args.value.now (sym c.in_default.is ∙ c.against_write.ensures) in
    ap (λ (o : Option Data). is_put_now c.args.volume.now (g.P.SectorView.space c.args.space.now).spare (volume_of (g.P.SectorView.space c.args.space.now).content) o) (empty_data (tree_of (g.P.SectorView.space c.args.space.now).content) c.args._path.now c.args.told.now it.node about.0 c.args.from c.args.value.now (c.is_nothing.ensures.none c.if-is_nothing.true))

pub returns-then-is_nothing-clause-met : goal.returns-then-is_nothing-clause-met
returns-then-is_nothing-clause-met g c tells =
    let it = told_node (tree_of (g.P.SectorView.space c.args.space.now).content) c.args._path.now c.args.told.now (c.requires.told tells) in
    let about = write_told (tree_of (g.P.SectorView.space c.args.space.now).content) c.args._path.now c.args.told.now it c.args.from c.args.value.now (sym c.in_default.is ∙ c.against_write.ensures) in
    ap (λ (o : Option Data). is_data_met c.args.volume.now (g.P.SectorView.space c.args.space.now).spare (volume_of (g.P.SectorView.space c.args.space.now).content) o) (empty_data (tree_of (g.P.SectorView.space c.args.space.now).content) c.args._path.now c.args.told.now it.node about.0 c.args.from c.args.value.now (c.is_nothing.ensures.none c.if-is_nothing.true))

pub returns-then-is_nothing-clause-touches : goal.returns-then-is_nothing-clause-touches
returns-then-is_nothing-clause-touches g c committed holds alike = touches_none committed _ (g.P.SectorView.space c.args.space.now)

pub returns-then-is_nothing-clause-loads : goal.returns-then-is_nothing-clause-loads
returns-then-is_nothing-clause-loads g c tells n grow is = omega arith

pub returns-then-is_nothing-clause-service : goal.returns-then-is_nothing-clause-service
returns-then-is_nothing-clause-service g c = c.requires.stands.service

pub returns-in-Some-clause-reply : goal.returns-in-Some-clause-reply
returns-in-Some-clause-reply g c tells = (write_refused_told (tree_of (g.P.SectorView.space c.args.space.now).content) c.args._path.now c.args.from c.args.value.now c.args.told.now (c.requires.told tells) c.in-Some.why (sym c.in-Some.is ∙ c.against_write.ensures)).0

pub returns-in-Some-clause-tree : goal.returns-in-Some-clause-tree
returns-in-Some-clause-tree g c tells = (write_refused_told (tree_of (g.P.SectorView.space c.args.space.now).content) c.args._path.now c.args.from c.args.value.now c.args.told.now (c.requires.told tells) c.in-Some.why (sym c.in-Some.is ∙ c.against_write.ensures)).1

pub returns-in-Some-clause-lists : goal.returns-in-Some-clause-lists
returns-in-Some-clause-lists g c tells said = absurd (let no : Some (reply.No c.in-Some.why) ≡ Some reply.Ok = said in cc no)

pub returns-in-Some-clause-touches : goal.returns-in-Some-clause-touches
returns-in-Some-clause-touches g c committed holds alike = touches_none committed _ (g.P.SectorView.space c.args.space.now)

pub returns-in-Some-clause-loads : goal.returns-in-Some-clause-loads
returns-in-Some-clause-loads g c tells n grow is = omega arith

pub returns-in-Some-clause-service : goal.returns-in-Some-clause-service
returns-in-Some-clause-service g c = c.requires.stands.service
