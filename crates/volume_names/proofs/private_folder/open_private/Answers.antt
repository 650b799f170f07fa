use Rattle.std.proofs.Common.{ap, arith}
use Rattle.std.specs.Prelude.{Some}
use Rattle.btree_node.specs.declared.store.TreeShape.{TreeShape}
use Rattle.volume_names.proofs.PrivateOpened.{over_private}
use Rattle.volume_base.proofs.Replaced.{node_large}
use Rattle.volume_base.proofs.Framed.{edits_none}
use Rattle.volume_names.proofs.private_folder.open_private.Goals as goal

pub make_private-requires-clause-size : goal.make_private-requires-clause-size
make_private-requires-clause-size g c = omega (arith, c.if-shape-lt4096.false, ap (λ (s : TreeShape). s.node_size) c.shape.ensures)

pub returns-then-shape-lt4096-clause-opens : goal.returns-then-shape-lt4096-clause-opens
returns-then-shape-lt4096-clause-opens g c tells =
    absurd (omega (arith, c.if-shape-lt4096.true, ap (λ (s : TreeShape). s.node_size) c.shape.ensures, node_large c.args.volume.now (g.P.SectorView.space c.args.space.now) c.requires.serves.stands tells))

pub returns-then-shape-lt4096-clause-edits : goal.returns-then-shape-lt4096-clause-edits
returns-then-shape-lt4096-clause-edits g c = edits_none _ g.met.P.SectorView.follows_refl c.requires.serves.stands

pub returns-clause-left : goal.returns-clause-left
returns-clause-left g c edits beside load = record { told = (c.in_ok-make_private.ensures.left edits beside load).told }

pub returns-then-shape-lt4096-clause-left : goal.returns-then-shape-lt4096-clause-left
returns-then-shape-lt4096-clause-left g c edits beside load =
    record { told = λ tells. absurd (omega (arith, c.if-shape-lt4096.true, ap (λ (s : TreeShape). s.node_size) c.shape.ensures, node_large c.args.volume.now (g.P.SectorView.space c.args.space.now) c.requires.serves.stands tells)) }

pub returns-then-shape-lt4096-clause-is_put : goal.returns-then-shape-lt4096-clause-is_put
returns-then-shape-lt4096-clause-is_put g c tells = absurd (omega (arith, c.if-shape-lt4096.true, ap (λ (s : TreeShape). s.node_size) c.shape.ensures, node_large c.args.volume.now (g.P.SectorView.space c.args.space.now) c.requires.serves.stands tells))

pub returns-then-shape-lt4096-clause-ids : goal.returns-then-shape-lt4096-clause-ids
returns-then-shape-lt4096-clause-ids g c tells = absurd (omega (arith, c.if-shape-lt4096.true, ap (λ (s : TreeShape). s.node_size) c.shape.ensures, node_large c.args.volume.now (g.P.SectorView.space c.args.space.now) c.requires.serves.stands tells))

pub returns-then-shape-lt4096-clause-nodes : goal.returns-then-shape-lt4096-clause-nodes
returns-then-shape-lt4096-clause-nodes g c tells = absurd (omega (arith, c.if-shape-lt4096.true, ap (λ (s : TreeShape). s.node_size) c.shape.ensures, node_large c.args.volume.now (g.P.SectorView.space c.args.space.now) c.requires.serves.stands tells))

pub returns-clause-beside : goal.returns-clause-beside
returns-clause-beside g c edits beside load tells = c.make_private.ensures.beside edits beside load tells

pub returns-in_err-make_private-clause-beside : goal.returns-in_err-make_private-clause-beside
returns-in_err-make_private-clause-beside g c edits beside load tells = c.make_private.ensures.beside edits beside load tells

pub returns-then-shape-lt4096-clause-beside : goal.returns-then-shape-lt4096-clause-beside
returns-then-shape-lt4096-clause-beside g c edits beside load tells = omega (arith, load.load tells)

pub returns-clause-edits : goal.returns-clause-edits
returns-clause-edits g c =
    let made = c.make_private.ensures.edits in
    let stands = over_private c.make_private.new.volume (g.P.SectorView.space c.make_private.new.space) (Some c.args.volume.now.header.next_catalog_id) c.in_ok-make_private.ensures.edits.ran.stands in
    record {
      ran = record { below = made.ran.below; cause = record { later = made.ran.cause.later; failed = tt }; service = stands.service; stands = stands; touches = made.ran.touches; spent = made.ran.spent };
      own = made.own;
      blocks = record { map = made.blocks.map; shrunk = made.blocks.shrunk; capacity = made.blocks.capacity };
    }
