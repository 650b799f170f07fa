use Rattle.std.proofs.Common.{◌≡◌, false, ℕ, List, length, sym, ◌∙◌, ap, subst}
use Rattle.std.specs.Prelude.{IfOk}
use Rattle.hfs_language.specs.Written.{FitsPath}
use Rattle.hfs_model.specs.Step.{is_private_path}
use Rattle.hfs_model.specs.declared.plain.PlainEntry.{PlainEntry}
use Rattle.hfs_volume.specs.Content.{volume_of}
use Rattle.hfs_volume.specs.TreeOf.{tree_of}
use Rattle.volume_base.specs.Removing.{owned_at}
use Rattle.volume_base.specs.Weighing.{AreUsual}
use Rattle.volume_base.specs.declared.value_changes.OwnedValues.{OwnedValues}
use Rattle.volume_names.specs.Removing.{MayRemove}
use Rattle.volume_base.proofs.RemoveWeight.{removed_some}
use Rattle.volume_base.proofs.Looked.{looked_none}
use Rattle.volume_names.proofs.remove_room.values_to_remove.Goals as goal

pub values_under-requires-clause-fits : goal.values_under-requires-clause-fits
values_under-requires-clause-fits g c = subst FitsPath (sym (sym c.in-Some.ensures.cases.0 ∙ c.as_slice.ensures)) c.requires.fits

pub returns-in-Some-clause-told : goal.returns-in-Some-clause-told
returns-in-Some-clause-told g c tells =
    subst (λ (p : List (List ℕ)). is_private_path p ≡ false → (entry : PlainEntry) → MayRemove (tree_of (g.P.SectorView.space c.args.space.now).content) p entry → IfOk c.values_under.result (λ (owned : OwnedValues). owned ≡ owned_at entry.id (volume_of (g.P.SectorView.space c.args.space.now).content)))
    (sym c.in-Some.ensures.cases.0 ∙ c.as_slice.ensures) (c.values_under.ensures.told tells)

pub returns-in-None-clause-told : goal.returns-in-None-clause-told
returns-in-None-clause-told g c tells not_own entry is = absurd (removed_some (tree_of (g.P.SectorView.space c.args.space.now).content) c.args.path.now entry (ap (λ (p : List (List ℕ)). length p) (sym c.as_slice.ensures) ∙ c.in-None.ensures.cases) is)

pub returns-in-None-clause-looked : goal.returns-in-None-clause-looked
returns-in-None-clause-looked g c = looked_none g.met.P.SectorView.follows_refl c.requires.serves.stands
