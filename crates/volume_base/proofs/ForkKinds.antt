-- The kinds of a file's forks.
use Rattle.std.proofs.Common.{◌≡◌, ◌⊎◌, inl, inr, refl}
use Rattle.hfs_volume.specs.Forks.{data_kind, resource_kind}
use Rattle.volume_base.specs.Cutting.{kind_of}
use Rattle.volume_base.specs.declared.forks.ForkKind.{ForkKind}
use Rattle.volume_base.specs.declared.forks.ForkKind.TheVariants as kinds

-- a fork is the data fork or the resource fork
pub kind_is : (kind : ForkKind) → (kind_of kind ≡ data_kind) ⊎ (kind_of kind ≡ resource_kind)
kind_is kinds.Data = inl refl
kind_is kinds.Resource = inr refl
