use Rattle.std.proofs.Common.{◌≡◌, ◌<◌, ◌≤◌, ℕ, sym, ◌∙◌, subst, arith}
use Rattle.std.specs.Prelude.{IfSome, Option, Some}
use Rattle.std.proofs.lemmas.Bool.{true≢false}
use Rattle.hfs_volume.specs.Content.{volume_of}
use Rattle.hfs_volume.specs.Forks.{parts_for}
use Rattle.volume_base.specs.DataWeighing.{target_weighed}
use Rattle.volume_base.specs.Room.{capacity_of, free_in}
use Rattle.volume_base.specs.declared.weighing.Weight.{Weight}
use Rattle.volume_base.specs.declared.room.FreeBlocks.TheVariants as blocks
use Rattle.volume_space.proofs.Sounding.{sound_here}
use Rattle.volume_links.specs.Links.{IsLight}
use Rattle.volume_links.proofs.LinkRoom.{link_fits, target_free, target_light, target_made, target_room}
use Rattle.volume_links.proofs.link_room.link_room.Goals as goal

pub target_blocks-requires : goal.target_blocks-requires
target_blocks-requires g c = record { block = c.requires.serves.stands.service.least }

pub weigh_target-requires-clause-few : goal.weigh_target-requires-clause-few
weigh_target-requires-clause-few g c =
    let short = subst (λ (o : Option ℕ). IfSome o (λ blocks. c.args.long ≤ 1023)) c.in-Some.is c.target_blocks.ensures.short in
    omega (arith, short)

pub returns-clause-room : goal.returns-clause-room
returns-clause-room g c =
    let some = subst (λ (o : Option ℕ). IfSome o (λ blocks. 0 < c.args.long)) c.in-Some.is c.target_blocks.ensures.some in
    let many = subst (λ (o : Option ℕ). IfSome o (λ blocks. blocks ≡ parts_for c.args.long c.args.volume.now.header.block_size)) c.in-Some.is c.target_blocks.ensures.many in
    let make = c.fits_make.ensures.room c.if-not-fits_make.false in
    record {
      some = some;
      short = subst (λ (o : Option ℕ). IfSome o (λ blocks. c.args.long ≤ 1023)) c.in-Some.is c.target_blocks.ensures.short;
      many = many;
      free = omega (arith, c.if-count_free-blocks.false, c.count_free.ensures);
      ids = make.ids;
      spare = omega (arith, c.suffices.ensures.enough c.if-not-suffices.false, c.count_bits.ensures.exact, c.spare-room.ensures);
      told = λ tells. (
        link_fits c.a_load_says_enough.ensures c.args.volume.now (g.P.SectorView.space c.args.space.now) (c.requires.serves.settled tells) c.args.long c.in-Some.blocks some many tells make (subst (λ (k : Weight × ℕ). IsLight k.0 k.1) {x = (c.weigh_target.result, c.spare-room.result)} {y = (target_weighed (capacity_of c.args.volume.now) (free_in blocks.Takable c.args.volume.now.map) (volume_of (g.P.SectorView.space c.args.space.now).content) c.args.long, (g.P.SectorView.space c.args.space.now).spare)} (λ i. (c.weigh_target.ensures.exact tells i, c.spare-room.ensures i)) (c.is_light.ensures.light c.if-not-is_light.false)),
        (make.told tells).1,
        (make.told tells).2,
      );
    }

-- ---- where the link fits, each look at the room finds it

many_blocks : (o : Option ℕ) (n : ℕ) (long block : ℕ) → o ≡ Some n → IfSome o (λ blocks. blocks ≡ parts_for long block) → n ≡ parts_for long block
many_blocks o n long block is many = subst (λ (p : Option ℕ). IfSome p (λ blocks. blocks ≡ parts_for long block)) is many

pub returns-then-count_free-blocks-clause-met : goal.returns-then-count_free-blocks-clause-met
returns-then-count_free-blocks-clause-met g c tells fits =
    let many = many_blocks c.target_blocks.result c.in-Some.blocks c.args.long c.args.volume.now.header.block_size c.in-Some.is c.target_blocks.ensures.many in
    let free = target_free c.a_load_says_enough.ensures c.args.volume.now (g.P.SectorView.space c.args.space.now) (c.requires.serves.settled tells) c.args.long c.in-Some.blocks many fits in
    absurd (omega (arith, free, c.if-count_free-blocks.true, c.count_free.ensures))

pub returns-then-not-fits_make-clause-met : goal.returns-then-not-fits_make-clause-met
returns-then-not-fits_make-clause-met g c tells fits =
    let many = many_blocks c.target_blocks.result c.in-Some.blocks c.args.long c.args.volume.now.header.block_size c.in-Some.is c.target_blocks.ensures.many in
    let sound = sound_here c.args.volume.now (g.P.SectorView.space c.args.space.now) (c.requires.serves.stands.stands tells) (c.requires.serves.settled tells) in
    absurd (true≢false (sym (c.fits_make.ensures.met tells (target_made c.a_load_says_enough.ensures c.args.volume.now (g.P.SectorView.space c.args.space.now) (c.requires.serves.settled tells) c.args.long c.in-Some.blocks many fits c.a_load_is_of_parts.ensures c.trees_grow_by_enough.ensures c.trees_hold_three.ensures sound))
    ∙ c.if-not-fits_make.true))

pub returns-then-not-suffices-clause-met : goal.returns-then-not-suffices-clause-met
returns-then-not-suffices-clause-met g c tells fits =
    let many = many_blocks c.target_blocks.result c.in-Some.blocks c.args.long c.args.volume.now.header.block_size c.in-Some.is c.target_blocks.ensures.many in
    let room = target_room c.a_load_says_enough.ensures c.args.volume.now (g.P.SectorView.space c.args.space.now) (c.requires.serves.settled tells) c.args.long c.in-Some.blocks many fits (c.fits_make.ensures.room c.if-not-fits_make.false) tells in
    absurd (true≢false (sym (c.suffices.ensures.sure (omega (arith, room, c.count_bits.ensures.exact, c.spare-room.ensures))) ∙ c.if-not-suffices.true))

pub returns-then-not-is_light-clause-met : goal.returns-then-not-is_light-clause-met
returns-then-not-is_light-clause-met g c tells fits =
    let many = many_blocks c.target_blocks.result c.in-Some.blocks c.args.long c.args.volume.now.header.block_size c.in-Some.is c.target_blocks.ensures.many in
    let light = target_light c.a_load_says_enough.ensures c.args.volume.now (g.P.SectorView.space c.args.space.now) (c.requires.serves.settled tells) c.args.long c.in-Some.blocks many fits in
    absurd (true≢false (sym (c.is_light.ensures.sure (subst (λ (k : Weight × ℕ). IsLight k.0 k.1) {x = (target_weighed (capacity_of c.args.volume.now) (free_in blocks.Takable c.args.volume.now.map) (volume_of (g.P.SectorView.space c.args.space.now).content) c.args.long, (g.P.SectorView.space c.args.space.now).spare)} {y = (c.weigh_target.result, c.spare-room.result)}
    (λ i. (sym (c.weigh_target.ensures.exact tells) i, sym c.spare-room.ensures i)) light)) ∙ c.if-not-is_light.true))
