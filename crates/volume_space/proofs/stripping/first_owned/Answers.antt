use Rattle.std.proofs.Common.{sym, ◌∙◌}
use Rattle.volume_space.proofs.ToDrop.{first_told}
use Rattle.volume_base.proofs.Looked.{looked_none}
use Rattle.volume_space.proofs.stripping.first_owned.Goals as goal

pub returns-clause-first : goal.returns-clause-first
returns-clause-first g c tells = first_told c.args.entry.now (sym c.is_blockless.ensures ∙ c.if-not-is_blockless.false) c.as_slice.result.now _ (c.as_slice.ensures ∙ c.in_ok-owned.ensures.listed tells) c.in_ok-name.name c.in_ok-name.ensures

pub returns-then-not-is_blockless-clause-looked : goal.returns-then-not-is_blockless-clause-looked
returns-then-not-is_blockless-clause-looked g c = looked_none g.met.P.SectorView.follows_refl c.requires.serves.stands
