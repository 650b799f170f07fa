use Rattle.std.proofs.Common.{◌≡◌, ◌<◌, ◌≤◌, ◌+◌, ℕ, Bool, true, false, List, length, refl, sym, ◌∙◌, ap, subst, arith}
use Rattle.std.specs.Prelude.{IsTrue, None, Some, Ok}
use Rattle.std.specs.List.{Contains}
use Rattle.std.proofs.lemmas.Bool.{true≢false}
use Rattle.alloc_bitmap.specs.Map.{free_of}
use Rattle.hfs_language.specs.declared.reply.Reply.TheVariants as reply
use Rattle.hfs_model.specs.Step.{is_refusal, to_node, to_set}
use Rattle.hfs_volume.specs.Aside.{IsJournalSector}
use Rattle.hfs_volume.specs.Content.{VolumeState, has_attributes, volume_of}
use Rattle.hfs_volume.specs.Cost.{cost_of}
use Rattle.hfs_volume.specs.TreeOf.{tree_of}
use Rattle.hfs_volume.specs.Weight.{blocks_for_value, room_with, runs_for, value_change}
use Rattle.hfs_volume.specs.declared.cost.Cost.TheVariants as cost
use Rattle.hfs_volume.specs.declared.cost.ValueChange.{ValueChange}
use Rattle.sector_disk.specs.Lists.{Content}
use Rattle.volume_header.specs.declared.header.VolumeHeader.{VolumeHeader}
use Rattle.volume_base.specs.Attributing.{set_answer}
use Rattle.volume_base.specs.Room.{capacity_of}
use Rattle.volume_base.specs.Weighing.{needs_of_change}
use Rattle.volume_base.proofs.OwnedTold.{has_not, set_allowed, set_lacks, set_replied, set_too_large}
use Rattle.volume_base.proofs.Still.{has_them}
use Rattle.volume_base.proofs.ValueFitted.{value_asked}
use Rattle.volume_values.specs.Valuing.{SetsOwned}
use Rattle.volume_values.proofs.LoadWithin.{load_of_change}
use Rattle.volume_values.proofs.SetAnswers.{set_met, set_weighed, sets_behind}
use Rattle.volume_values.proofs.Spilling.{spills_behind, spills_err, spills_fewer, spills_looked, spills_none, spills_ok, spills_read}
use Rattle.volume_values.proofs.attribute_change.set_or_refuse.Goals as goal

pub blocks_for_value-blocks-requires-clause-block : goal.blocks_for_value-blocks-requires-clause-block
blocks_for_value-blocks-requires-clause-block g c =
    omega (arith, c.requires.serves.stands.service.least)

pub fits_value-requires-clause-small : goal.fits_value-requires-clause-small
fits_value-requires-clause-small g c told =
    c.in_ok-change.ensures.usual

pub fits_value-requires-clause-serves : goal.fits_value-requires-clause-serves
fits_value-requires-clause-serves g c =
    c.in_ok-change.ensures.serves

pub set_value_of-requires-clause-serves : goal.set_value_of-requires-clause-serves
set_value_of-requires-clause-serves g c =
    c.in_ok-change.ensures.serves

pub set_value_of-requires-clause-closed : goal.set_value_of-requires-clause-closed
set_value_of-requires-clause-closed g c told at closed_ =
    let tells = sym c.in_ok-change.ensures.looked.reads.looks.same.tells ∙ told in
    subst (λ (k : Content). IsJournalSector k at) (sym (c.in_ok-change.ensures.looked.reads.looks.content tells)) (c.requires.closed tells at ((c.in_ok-change.ensures.looked.reads.looks.closed tells at).0 closed_))

pub set_value_of-requires-clause-has : goal.set_value_of-requires-clause-has
set_value_of-requires-clause-has g c =
    (subst (λ (h : VolumeHeader). IsTrue (has_attributes h)) (sym c.in_ok-change.ensures.looked.reads.keeps.header) (has_them c.args.volume.now.header c.if-volume-eq0.false))

pub set_value_of-requires-clause-long : goal.set_value_of-requires-clause-long
set_value_of-requires-clause-long g c =
    (omega (arith, c.if-value-gt-MOST_BYTES.false))

pub set_value_of-requires-clause-there : goal.set_value_of-requires-clause-there
set_value_of-requires-clause-there g c told =
    let tells = sym c.in_ok-change.ensures.looked.reads.looks.same.tells ∙ told in
    let there = c.requires.there tells in
    (there.0, subst (λ (k : Content). Contains (tree_of k).nodes there.0) (sym (c.in_ok-change.ensures.looked.reads.looks.content tells)) there.1, there.2)

pub set_value_of-requires-clause-change : goal.set_value_of-requires-clause-change
set_value_of-requires-clause-change g c told =
    let tells = sym c.in_ok-change.ensures.looked.reads.looks.same.tells ∙ told in
    c.in_ok-change.ensures.change tells ∙ (λ i. value_change (volume_of (sym (c.in_ok-change.ensures.looked.reads.looks.content tells) i)) c.args.id c.args.name.now ((c.blocks_for_value-blocks.ensures.exact ∙ ap (λ (h : VolumeHeader). blocks_for_value h.block_size (length c.args.value.now)) (sym c.in_ok-change.ensures.looked.reads.keeps.header)) i))

pub set_value_of-requires-clause-room : goal.set_value_of-requires-clause-room
set_value_of-requires-clause-room g c =
    c.fits_value.ensures.room c.if-not-fits_value.false

pub returns-then-value-gt-MOST_BYTES-clause-answer : goal.returns-then-value-gt-MOST_BYTES-clause-answer
returns-then-value-gt-MOST_BYTES-clause-answer g c tells path node not_own found same =
    ((set_too_large (tree_of (g.P.SectorView.space c.args.space.now).content) path c.args.name.now c.args.value.now not_own (has_attributes c.args.volume.now.header) node found (omega (arith, c.if-value-gt-MOST_BYTES.true))).0, λ refusal. refl, λ done. absurd (cc done), c.requires.serves)

pub returns-then-value-gt-MOST_BYTES-clause-loads : goal.returns-then-value-gt-MOST_BYTES-clause-loads
returns-then-value-gt-MOST_BYTES-clause-loads g c tells path node n grow not_own found same is =
    omega arith

pub returns-then-value-gt-MOST_BYTES-clause-spills : goal.returns-then-value-gt-MOST_BYTES-clause-spills
returns-then-value-gt-MOST_BYTES-clause-spills g c =
    spills_none g.met.P.SectorView.follows_refl c.requires.serves.stands

pub returns-then-volume-eq0-clause-answer : goal.returns-then-volume-eq0-clause-answer
returns-then-volume-eq0-clause-answer g c tells path node not_own found same =
    ((set_lacks (tree_of (g.P.SectorView.space c.args.space.now).content) path c.args.name.now c.args.value.now not_own (has_attributes c.args.volume.now.header) (has_not c.args.volume.now.header c.if-volume-eq0.true) node found (omega (arith, c.if-value-gt-MOST_BYTES.false))), λ refusal. refl, λ done. absurd (cc done), c.requires.serves)

pub returns-then-volume-eq0-clause-loads : goal.returns-then-volume-eq0-clause-loads
returns-then-volume-eq0-clause-loads g c tells path node n grow not_own found same is =
    omega arith

pub returns-then-volume-eq0-clause-spills : goal.returns-then-volume-eq0-clause-spills
returns-then-volume-eq0-clause-spills g c =
    spills_none g.met.P.SectorView.follows_refl c.requires.serves.stands

pub returns-then-not-fits_value-clause-answer : goal.returns-then-not-fits_value-clause-answer
returns-then-not-fits_value-clause-answer g c tells path node not_own found same =
    let there : (g.P.SectorView.space c.value_change.new.space).content ≡ (g.P.SectorView.space c.args.space.now).content = (c.in_ok-change.ensures.looked.reads.looks.content tells) in
    let change : c.in_ok-change.change ≡ value_change (volume_of (g.P.SectorView.space c.args.space.now).content) c.args.id c.args.name.now (blocks_for_value (volume_of (g.P.SectorView.space c.args.space.now).content).head.block_size (length c.args.value.now)) = (c.in_ok-change.ensures.change tells ∙ ap (value_change (volume_of (g.P.SectorView.space c.args.space.now).content) c.args.id c.args.name.now) (c.blocks_for_value-blocks.ensures.exact ∙ ap (λ (h : VolumeHeader). blocks_for_value h.block_size (length c.args.value.now)) (sym (ap (λ (l : VolumeState). l.head) (c.requires.serves.settled tells).lists)))) in
    sets_behind path c.args.name.now c.args.value.now c.args.volume.now c.value_change.new.self c.value_change.new.self (g.P.SectorView.space c.args.space.now) (g.P.SectorView.space c.value_change.new.space) (g.P.SectorView.space c.value_change.new.space) c.in_ok-change.ensures.looked.reads tells None (
      refl,
      c.in_ok-change.ensures.serves,
      λ met. true≢false (sym (c.fits_value.ensures.met (c.in_ok-change.ensures.looked.reads.looks.same.tells ∙ tells) (subst (λ (h : VolumeHeader). IsTrue (has_attributes h)) (sym c.in_ok-change.ensures.looked.reads.keeps.header) (has_them c.args.volume.now.header c.if-volume-eq0.false))
          (set_met c.value_change.new.self (g.P.SectorView.space c.value_change.new.space) path c.args.name.now c.args.value.now node (ap (λ (k : Content). to_set (tree_of k) path c.args.value.now) there ∙ (set_allowed (tree_of (g.P.SectorView.space c.args.space.now).content) path c.args.name.now c.args.value.now not_own node found (omega (arith, c.if-value-gt-MOST_BYTES.false)))) c.args.id same c.in_ok-change.change (change ∙ ap (λ (k : Content). value_change (volume_of k) c.args.id c.args.name.now (blocks_for_value (volume_of k).head.block_size (length c.args.value.now))) (sym there)) met)) ∙ c.if-not-fits_value.true),
      (omega (arith, c.if-value-gt-MOST_BYTES.false)),
    )

pub returns-then-not-fits_value-clause-loads : goal.returns-then-not-fits_value-clause-loads
returns-then-not-fits_value-clause-loads g c tells path node n grow not_own found same is =
    omega (arith, c.in_ok-change.ensures.looked.reads.looks.spare)

pub returns-then-not-fits_value-clause-spills : goal.returns-then-not-fits_value-clause-spills
returns-then-not-fits_value-clause-spills g c =
    spills_read c.args.volume.now c.in_ok-change.ensures.looked

pub returns-clause-answer : goal.returns-clause-answer
returns-clause-answer g c tells path node not_own found same =
    let there : (g.P.SectorView.space c.value_change.new.space).content ≡ (g.P.SectorView.space c.args.space.now).content = (c.in_ok-change.ensures.looked.reads.looks.content tells) in
    let does = c.in_ok-set_value_of.ensures.does (c.in_ok-change.ensures.looked.reads.looks.same.tells ∙ tells) path node (ap (λ (k : Content). to_node (tree_of k) path) there ∙ found) same in
    sets_behind path c.args.name.now c.args.value.now c.args.volume.now c.value_change.new.self c.set_value_of.new.volume (g.P.SectorView.space c.args.space.now) (g.P.SectorView.space c.value_change.new.space) (g.P.SectorView.space c.set_value_of.new.space) c.in_ok-change.ensures.looked.reads tells (Some reply.Ok) (
      set_replied (tree_of (g.P.SectorView.space c.value_change.new.space).content) path c.args.name.now c.args.value.now not_own (has_attributes c.value_change.new.self.header) (subst (λ (h : VolumeHeader). IsTrue (has_attributes h)) (sym c.in_ok-change.ensures.looked.reads.keeps.header) (has_them c.args.volume.now.header c.if-volume-eq0.false)) node (ap (λ (k : Content). to_node (tree_of k) path) there ∙ found) (omega (arith, c.if-value-gt-MOST_BYTES.false)),
      λ refusal. absurd (let no : is_refusal reply.Ok ≡ true = refusal in cc no),
      λ done. (
        does.1,
        record {
          node = node;
          found = ap (λ (k : Content). to_node (tree_of k) path) there ∙ found;
          sets = subst (λ (n : ℕ). SetsOwned n c.args.name.now c.args.value.now (volume_of (g.P.SectorView.space c.value_change.new.space).content) (volume_of (g.P.SectorView.space c.set_value_of.new.space).content)) (sym same) does.2;
          values = does.3;
        },
      ),
      record { stands = c.in_ok-set_value_of.ensures.spills.stands; settled = λ told. does.0 },
    )

pub returns-clause-loads : goal.returns-clause-loads
returns-clause-loads g c tells path node n grow not_own found same is =
    let settled = c.requires.serves.settled tells in
    let change : c.in_ok-change.change ≡ value_change (volume_of (g.P.SectorView.space c.args.space.now).content) c.args.id c.args.name.now (blocks_for_value (volume_of (g.P.SectorView.space c.args.space.now).content).head.block_size (length c.args.value.now)) = (c.in_ok-change.ensures.change tells ∙ ap (value_change (volume_of (g.P.SectorView.space c.args.space.now).content) c.args.id c.args.name.now) (c.blocks_for_value-blocks.ensures.exact ∙ ap (λ (h : VolumeHeader). blocks_for_value h.block_size (length c.args.value.now)) (sym (ap (λ (l : VolumeState). l.head) (c.requires.serves.settled tells).lists)))) in
    let weigh = set_weighed c.args.volume.now (g.P.SectorView.space c.args.space.now) path c.args.name.now c.args.value.now node (set_allowed (tree_of (g.P.SectorView.space c.args.space.now).content) path c.args.name.now c.args.value.now not_own node found (omega (arith, c.if-value-gt-MOST_BYTES.false))) c.args.id same (subst (λ (h : VolumeHeader). IsTrue (has_attributes h)) (sym (ap (λ (l : VolumeState). l.head) (c.requires.serves.settled tells).lists)) (has_them c.args.volume.now.header c.if-volume-eq0.false)) (capacity_of c.args.volume.now) (free_of c.args.volume.now.map) n grow is in
    let room = (c.fits_value.ensures.room c.if-not-fits_value.false).told (c.in_ok-change.ensures.looked.reads.looks.same.tells ∙ tells) (subst (λ (h : VolumeHeader). IsTrue (has_attributes h)) (sym c.in_ok-change.ensures.looked.reads.keeps.header) (has_them c.args.volume.now.header c.if-volume-eq0.false)) in
    omega (
      arith,
      c.in_ok-change.ensures.looked.reads.looks.spare,
      c.in_ok-set_value_of.ensures.spills.spent (c.in_ok-change.ensures.looked.reads.looks.same.tells ∙ tells),
      load_of_change 2 c.args.volume.now c.value_change.new.self (g.P.SectorView.space c.args.space.now) (g.P.SectorView.space c.value_change.new.space) c.in_ok-change.ensures.looked.reads tells settled c.in_ok-change.change (has_them c.args.volume.now.header c.if-volume-eq0.false) room.2 n grow
          (subst (λ (k : ValueChange). cost_of (needs_of_change (value_asked 0 2) k (runs_for k.blocks (free_of c.args.volume.now.map))) (room_with (capacity_of c.args.volume.now) (free_of c.args.volume.now.map) (volume_of (g.P.SectorView.space c.args.space.now).content)) ≡ cost.Load n grow) (sym change) weigh),
    )

pub returns-clause-spills : goal.returns-clause-spills
returns-clause-spills g c =
    spills_ok (spills_behind c.args.volume.now c.value_change.new.self g.met.P.SectorView.follows_trans c.in_ok-change.ensures.looked c.in_ok-set_value_of.ensures.spills (λ tells. omega (arith, c.in_ok-change.ensures.looked.reads.looks.spare, ((c.fits_value.ensures.room c.if-not-fits_value.false).told (c.in_ok-change.ensures.looked.reads.looks.same.tells ∙ tells) (subst (λ (h : VolumeHeader). IsTrue (has_attributes h)) (sym c.in_ok-change.ensures.looked.reads.keeps.header) (has_them c.args.volume.now.header c.if-volume-eq0.false))).0)))

pub returns-in_err-set_value_of-clause-loads : goal.returns-in_err-set_value_of-clause-loads
returns-in_err-set_value_of-clause-loads g c tells path node n grow not_own found same is =
    let settled = c.requires.serves.settled tells in
    let change : c.in_ok-change.change ≡ value_change (volume_of (g.P.SectorView.space c.args.space.now).content) c.args.id c.args.name.now (blocks_for_value (volume_of (g.P.SectorView.space c.args.space.now).content).head.block_size (length c.args.value.now)) = (c.in_ok-change.ensures.change tells ∙ ap (value_change (volume_of (g.P.SectorView.space c.args.space.now).content) c.args.id c.args.name.now) (c.blocks_for_value-blocks.ensures.exact ∙ ap (λ (h : VolumeHeader). blocks_for_value h.block_size (length c.args.value.now)) (sym (ap (λ (l : VolumeState). l.head) (c.requires.serves.settled tells).lists)))) in
    let weigh = set_weighed c.args.volume.now (g.P.SectorView.space c.args.space.now) path c.args.name.now c.args.value.now node (set_allowed (tree_of (g.P.SectorView.space c.args.space.now).content) path c.args.name.now c.args.value.now not_own node found (omega (arith, c.if-value-gt-MOST_BYTES.false))) c.args.id same (subst (λ (h : VolumeHeader). IsTrue (has_attributes h)) (sym (ap (λ (l : VolumeState). l.head) (c.requires.serves.settled tells).lists)) (has_them c.args.volume.now.header c.if-volume-eq0.false)) (capacity_of c.args.volume.now) (free_of c.args.volume.now.map) n grow is in
    let room = (c.fits_value.ensures.room c.if-not-fits_value.false).told (c.in_ok-change.ensures.looked.reads.looks.same.tells ∙ tells) (subst (λ (h : VolumeHeader). IsTrue (has_attributes h)) (sym c.in_ok-change.ensures.looked.reads.keeps.header) (has_them c.args.volume.now.header c.if-volume-eq0.false)) in
    omega (
      arith,
      c.in_ok-change.ensures.looked.reads.looks.spare,
      c.in_err-set_value_of.ensures.spills.spent (c.in_ok-change.ensures.looked.reads.looks.same.tells ∙ tells),
      load_of_change 2 c.args.volume.now c.value_change.new.self (g.P.SectorView.space c.args.space.now) (g.P.SectorView.space c.value_change.new.space) c.in_ok-change.ensures.looked.reads tells settled c.in_ok-change.change (has_them c.args.volume.now.header c.if-volume-eq0.false) room.2 n grow
          (subst (λ (k : ValueChange). cost_of (needs_of_change (value_asked 0 2) k (runs_for k.blocks (free_of c.args.volume.now.map))) (room_with (capacity_of c.args.volume.now) (free_of c.args.volume.now.map) (volume_of (g.P.SectorView.space c.args.space.now).content)) ≡ cost.Load n grow) (sym change) weigh),
    )

pub returns-in_err-set_value_of-clause-spills : goal.returns-in_err-set_value_of-clause-spills
returns-in_err-set_value_of-clause-spills g c =
    spills_err c.from_residual-in_err-set_value_of.ensures.1 (spills_behind c.args.volume.now c.value_change.new.self g.met.P.SectorView.follows_trans c.in_ok-change.ensures.looked c.in_err-set_value_of.ensures.spills (λ tells. omega (arith, c.in_ok-change.ensures.looked.reads.looks.spare, ((c.fits_value.ensures.room c.if-not-fits_value.false).told (c.in_ok-change.ensures.looked.reads.looks.same.tells ∙ tells) (subst (λ (h : VolumeHeader). IsTrue (has_attributes h)) (sym c.in_ok-change.ensures.looked.reads.keeps.header) (has_them c.args.volume.now.header c.if-volume-eq0.false))).0)))

pub returns-in_err-change-clause-loads : goal.returns-in_err-change-clause-loads
returns-in_err-change-clause-loads g c tells path node n grow not_own found same is =
    omega (arith, c.in_err-change.ensures.looked.reads.looks.spare)

pub returns-in_err-change-clause-spills : goal.returns-in_err-change-clause-spills
returns-in_err-change-clause-spills g c =
    spills_err c.from_residual.ensures.1 (spills_fewer (spills_looked c.args.volume.now c.in_err-change.ensures.looked) (λ tells. omega arith))
