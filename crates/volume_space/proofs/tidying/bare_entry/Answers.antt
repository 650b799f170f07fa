use Rattle.std.proofs.Common.{List, ℕ, length, refl, sym, ◌∙◌, ap}
use Rattle.std.proofs.lemmas.Bool.{eqb-true}
use Rattle.volume_base.proofs.Looked.{looked_none}
use Rattle.volume_space.proofs.tidying.bare_entry.Goals as goal

pub returns-clause-bare : goal.returns-clause-bare
returns-clause-bare g c tells = (
  refl,
  sym c.is_blockless.ensures ∙ c.if-not-is_blockless.false,
  ap (λ (l : List (List ℕ)). length l) (sym (c.in_ok-owned.ensures.listed tells)) ∙ eqb-true (length c.in_ok-owned.owned) 0 (sym c.is_empty.ensures ∙ c.if-not-is_empty.false),
)

pub returns-then-not-is_blockless-clause-looked : goal.returns-then-not-is_blockless-clause-looked
returns-then-not-is_blockless-clause-looked g c = looked_none g.met.P.SectorView.follows_refl c.requires.serves.stands
