use Rattle.std.proofs.Common.{◌≡◌, ◌*◌, true, inl, inr, sym, ◌∙◌, ap, subst, arith}
use Rattle.std.specs.Prelude.{Ok, IfOk, OnOk}
use Rattle.std.proofs.lemmas.Bool.{true≢false}
use Rattle.sector_disk.specs.Lists.{Content}
use Rattle.hfs_language.specs.declared.command.Command.TheVariants as command
use Rattle.hfs_language.specs.declared.reply.Reply.{Reply}
use Rattle.hfs_language.specs.declared.reply.Reply.TheVariants as reply
use Rattle.hfs_model.specs.Step.{is_refusal, step_line}
use Rattle.hfs_volume.specs.TreeOf.{tree_of}
use Rattle.volume_base.specs.Changing.{catalog_node}
use Rattle.volume_base.specs.Moving.{to_free}
use Rattle.volume_base.proofs.Framed.{edits_ok, edits_spent}
use Rattle.volume_base.proofs.Freeing.{exists_is}
use Rattle.volume_base.proofs.Joined.{edits_both}
use Rattle.volume_base.proofs.Loads.{move_load_told}
use Rattle.volume_base.proofs.Replaced.{node_large}
use Rattle.volume_base.proofs.Routed.{moved_line, mv_refused_line}
use Rattle.volume_names.specs.Moving.{HasMoved}
use Rattle.volume_names.proofs.EditsLeft.{left_fewer, left_of_move}
use Rattle.volume_names.proofs.LinkLoads.{puts_still}
use Rattle.volume_names.proofs.Taken.{read_err, tells_err, tells_ok}
use Rattle.volume_names.proofs.moving.mv_under.Goals as goal

pub move_free-requires-clause-left : goal.move_free-requires-clause-left
move_free-requires-clause-left g c =
    let v = c.args.volume.now in
    let old = g.P.SectorView.space c.args.space.now in
    left_fewer v old 3 (2 * catalog_node v) 0 (λ told. node_large v old c.requires.serves.stands told) (omega arith) (left_of_move c.edits_have_room.ensures v old (λ told. node_large v old c.requires.serves.stands told) c.requires.room)

pub returns-in-Ok-clause-reply : goal.returns-in-Ok-clause-reply
returns-in-Ok-clause-reply g c tells =
    let v = c.args.volume.now in
    let w = c.move_free.new.volume in
    let old = g.P.SectorView.space c.args.space.now in
    let new = g.P.SectorView.space c.move_free.new.space in
    let tree = tree_of old.content in
    let it = tells_ok _ _ c.args.from.now c.args.to.now old.content new.content c.in-Ok.is (c.in_ok-said.ensures.moves tells) in
    (moved_line tree c.args.from.now c.args.to.now (it.0.entry, it.0.place) c.requires.not_own c.requires.goal_not_own it.0.allowed).0

pub returns-in-Ok-clause-tree : goal.returns-in-Ok-clause-tree
returns-in-Ok-clause-tree g c tells =
    let v = c.args.volume.now in
    let w = c.move_free.new.volume in
    let old = g.P.SectorView.space c.args.space.now in
    let new = g.P.SectorView.space c.move_free.new.space in
    let tree = tree_of old.content in
    let it = tells_ok _ _ c.args.from.now c.args.to.now old.content new.content c.in-Ok.is (c.in_ok-said.ensures.moves tells) in
    it.1 ∙ (moved_line tree c.args.from.now c.args.to.now (it.0.entry, it.0.place) c.requires.not_own c.requires.goal_not_own it.0.allowed).1

pub returns-in-Ok-clause-refused : goal.returns-in-Ok-clause-refused
returns-in-Ok-clause-refused g c tells is = absurd (true≢false (sym is))

pub returns-in-Ok-clause-lists : goal.returns-in-Ok-clause-lists
returns-in-Ok-clause-lists g c tells is =
    let v = c.args.volume.now in
    let w = c.move_free.new.volume in
    let old = g.P.SectorView.space c.args.space.now in
    let new = g.P.SectorView.space c.move_free.new.space in
    let tree = tree_of old.content in
    inl (tells_ok _ _ c.args.from.now c.args.to.now old.content new.content c.in-Ok.is (c.in_ok-said.ensures.moves tells)).0

pub returns-in-Ok-clause-edits : goal.returns-in-Ok-clause-edits
returns-in-Ok-clause-edits g c = edits_ok (edits_spent c.in_ok-said.ensures.edits (λ tells. omega arith))

pub returns-else-is_exists-clause-reply : goal.returns-else-is_exists-clause-reply
returns-else-is_exists-clause-reply g c tells =
    let v = c.args.volume.now in
    let w = c.move_free.new.volume in
    let old = g.P.SectorView.space c.args.space.now in
    let new = g.P.SectorView.space c.move_free.new.space in
    let tree = tree_of old.content in
    (mv_refused_line tree c.args.from.now c.args.to.now c.in-Err.why c.requires.not_own c.requires.goal_not_own ((tells_err _ c.in-Err.why c.args.from.now c.args.to.now old.content new.content c.in-Err.is (c.in_ok-said.ensures.moves tells)).0 (sym c.is_exists.ensures ∙ c.if-is_exists.false))).0

pub returns-else-is_exists-clause-tree : goal.returns-else-is_exists-clause-tree
returns-else-is_exists-clause-tree g c tells =
    let v = c.args.volume.now in
    let w = c.move_free.new.volume in
    let old = g.P.SectorView.space c.args.space.now in
    let new = g.P.SectorView.space c.move_free.new.space in
    let tree = tree_of old.content in
    ap (λ (k : Content). tree_of k) ((read_err _ c.in-Err.why v w old new c.in-Err.is c.in_ok-said.ensures.read).looks.content tells)
    ∙ (mv_refused_line tree c.args.from.now c.args.to.now c.in-Err.why c.requires.not_own c.requires.goal_not_own ((tells_err _ c.in-Err.why c.args.from.now c.args.to.now old.content new.content c.in-Err.is (c.in_ok-said.ensures.moves tells)).0 (sym c.is_exists.ensures ∙ c.if-is_exists.false))).1

pub returns-else-is_exists-clause-refused : goal.returns-else-is_exists-clause-refused
returns-else-is_exists-clause-refused g c tells is =
    let v = c.args.volume.now in
    let w = c.move_free.new.volume in
    let old = g.P.SectorView.space c.args.space.now in
    let new = g.P.SectorView.space c.move_free.new.space in
    let tree = tree_of old.content in
    (read_err _ c.in-Err.why v w old new c.in-Err.is c.in_ok-said.ensures.read).looks.content tells

pub returns-else-is_exists-clause-lists : goal.returns-else-is_exists-clause-lists
returns-else-is_exists-clause-lists g c tells is = absurd (cc is)

pub returns-else-is_exists-clause-edits : goal.returns-else-is_exists-clause-edits
returns-else-is_exists-clause-edits g c = edits_ok (edits_spent c.in_ok-said.ensures.edits (λ tells. omega arith))

pub mv_over-requires-clause-taken : goal.mv_over-requires-clause-taken
mv_over-requires-clause-taken g c told =
    let tells = sym (c.move_free.ensures.edits.ran.touches (g.P.SectorView.space c.args.space.now).content).same.tells ∙ told in
    let v = c.args.volume.now in
    let w = c.move_free.new.volume in
    let old = g.P.SectorView.space c.args.space.now in
    let new = g.P.SectorView.space c.move_free.new.space in
    let tree = tree_of old.content in
    ap (λ (k : Content). to_free (tree_of k) c.args.from.now c.args.to.now) ((read_err _ c.in-Err.why v w old new c.in-Err.is c.in_ok-said.ensures.read).looks.content tells) ∙ (tells_err _ c.in-Err.why c.args.from.now c.args.to.now old.content new.content c.in-Err.is (c.in_ok-said.ensures.moves tells)).1 (exists_is c.in-Err.why (sym c.is_exists.ensures ∙ c.if-is_exists.true))

pub returns-then-is_exists-clause-reply : goal.returns-then-is_exists-clause-reply
returns-then-is_exists-clause-reply g c tells =
    let v = c.args.volume.now in
    let w = c.move_free.new.volume in
    let old = g.P.SectorView.space c.args.space.now in
    let new = g.P.SectorView.space c.move_free.new.space in
    let tree = tree_of old.content in
    let last = g.P.SectorView.space c.mv_over.new.space in
    let reads = read_err _ c.in-Err.why v w old new c.in-Err.is c.in_ok-said.ensures.read in
    let later = reads.looks.same.tells ∙ tells in
    let same = reads.looks.content tells in
    subst (λ (k : Content). IfOk c.mv_over.result (λ (r : Reply). r ≡ (step_line (tree_of k) (Ok (command.Mv c.args.from.now c.args.to.now))).0)) same (c.mv_over.ensures.reply later)

pub returns-then-is_exists-clause-tree : goal.returns-then-is_exists-clause-tree
returns-then-is_exists-clause-tree g c tells =
    let v = c.args.volume.now in
    let w = c.move_free.new.volume in
    let old = g.P.SectorView.space c.args.space.now in
    let new = g.P.SectorView.space c.move_free.new.space in
    let tree = tree_of old.content in
    let last = g.P.SectorView.space c.mv_over.new.space in
    let reads = read_err _ c.in-Err.why v w old new c.in-Err.is c.in_ok-said.ensures.read in
    let later = reads.looks.same.tells ∙ tells in
    let same = reads.looks.content tells in
    subst (λ (k : Content). OnOk c.mv_over.result (tree_of last.content ≡ (step_line (tree_of k) (Ok (command.Mv c.args.from.now c.args.to.now))).1)) same (c.mv_over.ensures.tree later)

pub returns-then-is_exists-clause-refused : goal.returns-then-is_exists-clause-refused
returns-then-is_exists-clause-refused g c tells =
    let v = c.args.volume.now in
    let w = c.move_free.new.volume in
    let old = g.P.SectorView.space c.args.space.now in
    let new = g.P.SectorView.space c.move_free.new.space in
    let tree = tree_of old.content in
    let last = g.P.SectorView.space c.mv_over.new.space in
    let reads = read_err _ c.in-Err.why v w old new c.in-Err.is c.in_ok-said.ensures.read in
    let later = reads.looks.same.tells ∙ tells in
    let same = reads.looks.content tells in
    subst (λ (k : Content). IfOk c.mv_over.result (λ (r : Reply). is_refusal r ≡ true → last.content ≡ k)) same (c.mv_over.ensures.refused later)

pub returns-then-is_exists-clause-lists : goal.returns-then-is_exists-clause-lists
returns-then-is_exists-clause-lists g c tells =
    let v = c.args.volume.now in
    let w = c.move_free.new.volume in
    let old = g.P.SectorView.space c.args.space.now in
    let new = g.P.SectorView.space c.move_free.new.space in
    let tree = tree_of old.content in
    let last = g.P.SectorView.space c.mv_over.new.space in
    let reads = read_err _ c.in-Err.why v w old new c.in-Err.is c.in_ok-said.ensures.read in
    let later = reads.looks.same.tells ∙ tells in
    let same = reads.looks.content tells in
    subst (λ (k : Content). IfOk c.mv_over.result (λ (r : Reply). r ≡ reply.Ok → HasMoved c.args.from.now c.args.to.now k last.content)) same (c.mv_over.ensures.lists later)

pub returns-then-is_exists-clause-edits : goal.returns-then-is_exists-clause-edits
returns-then-is_exists-clause-edits g c = edits_spent (edits_both g.met.P.SectorView.follows_trans c.move_free.ensures.edits c.mv_over.ensures.edits) (λ tells. omega arith)

pub returns-then-is_exists-clause-loads : goal.returns-then-is_exists-clause-loads
returns-then-is_exists-clause-loads g c tells =
    let v = c.args.volume.now in
    let w = c.move_free.new.volume in
    let old = g.P.SectorView.space c.args.space.now in
    let new = g.P.SectorView.space c.move_free.new.space in
    let tree = tree_of old.content in
    let last = g.P.SectorView.space c.mv_over.new.space in
    let reads = read_err _ c.in-Err.why v w old new c.in-Err.is c.in_ok-said.ensures.read in
    let later = reads.looks.same.tells ∙ tells in
    let same = reads.looks.content tells in
    puts_still (command.Mv c.args.from.now c.args.to.now) v w old new last reads tells (c.mv_over.ensures.loads later)

pub returns-in-Ok-clause-loads : goal.returns-in-Ok-clause-loads
returns-in-Ok-clause-loads g c tells =
    let v = c.args.volume.now in
    let w = c.move_free.new.volume in
    let old = g.P.SectorView.space c.args.space.now in
    let new = g.P.SectorView.space c.move_free.new.space in
    let tree = tree_of old.content in
    elim (c.move_free.ensures.spends tells) [
      | inl none ↦ λ n grow is. omega (arith, none)
      | inr it ↦ λ n grow is. omega (arith, c.move_free.ensures.edits.ran.spent tells, move_load_told v old.content (c.requires.serves.settled tells) (c.requires.room.told tells).2 v.capacity c.args.from.now c.args.to.now tree it.0 it.1 it.2 n grow is)
    ]

pub returns-else-is_exists-clause-loads : goal.returns-else-is_exists-clause-loads
returns-else-is_exists-clause-loads g c tells =
    let v = c.args.volume.now in
    let w = c.move_free.new.volume in
    let old = g.P.SectorView.space c.args.space.now in
    let new = g.P.SectorView.space c.move_free.new.space in
    let tree = tree_of old.content in
    elim (c.move_free.ensures.spends tells) [
      | inl none ↦ λ n grow is. omega (arith, none)
      | inr it ↦ λ n grow is. omega (arith, c.move_free.ensures.edits.ran.spent tells, move_load_told v old.content (c.requires.serves.settled tells) (c.requires.room.told tells).2 v.capacity c.args.from.now c.args.to.now tree it.0 it.1 it.2 n grow is)
    ]

pub returns-in_err-said-clause-loads : goal.returns-in_err-said-clause-loads
returns-in_err-said-clause-loads g c tells =
    let v = c.args.volume.now in
    let w = c.move_free.new.volume in
    let old = g.P.SectorView.space c.args.space.now in
    let new = g.P.SectorView.space c.move_free.new.space in
    let tree = tree_of old.content in
    elim (c.move_free.ensures.spends tells) [
      | inl none ↦ λ n grow is. omega (arith, none)
      | inr it ↦ λ n grow is. omega (arith, c.move_free.ensures.edits.ran.spent tells, move_load_told v old.content (c.requires.serves.settled tells) (c.requires.room.told tells).2 v.capacity c.args.from.now c.args.to.now tree it.0 it.1 it.2 n grow is)
    ]
